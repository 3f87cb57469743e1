-- No unit is twice in the content of a transfer into a registry, so the blocks of its row share no unit.
use Rattle.protocol.proofs.MessageForms as message
use Rattle.units.specs.Apart.{AllApart, AreApart}
use Rattle.std.specs.List.{AllByRecursion, list_any}
use Rattle.units.specs.declared.block.Block.{Block}
use Rattle.units.specs.declared.code.Code.{Code}
use Rattle.status.specs.Content.{Content, raws}
use Rattle.protocol.specs.History.{Entry, Transition, newest, proposals, transitions_of}
use Rattle.units.proofs.Lists.Membership.{In, In_cases, In_left, In_right}
use Rattle.wire.specs.declared.input.Input.{Input}
use Rattle.std.proofs.Common.{List, Some, [], ap, false, inl, inr, not, refl, subst, true, ◌++◌, ◌+◌, ◌||◌, ◌∙◌, ◌∷◌, ◌≡◌}
use Rattle.safety.proofs.MovesAndHistories.NewestTransitions.{Made, made_registry, newest_id}
use Rattle.status.specs.declared.moment.Moment.{Moment}
use Rattle.protocol.specs.Pieces.{Piece, pieces, pieces_of, repeats, same_unit}
use Rattle.protocol.proofs.MessageForms.{ProposalMessage}
use Rattle.wire.specs.declared.input.Input.TheVariants.{Received}
use Rattle.units.specs.declared.code.Node.TheVariants.{Registry}
use Rattle.safety.proofs.MovesAndHistories.TableMoves.{RegistryMove, arrives, asks, bares, finishes, proposes, refuse_made, concludes}
use Rattle.scheme.specs.declared.registries.Scheme.{Scheme}
use Rattle.status.specs.declared.id.TransactionId.{TransactionId}
use Rattle.units.proofs.Lists.OneValue.{clash, one_some}
use Rattle.units.proofs.Lists.SomePass.{list_any_none}
use Rattle.protocol.specs.Verdict.{transitions_made, verdict}
use Rattle.std.proofs.lemmas.Bool.{or_parts}
use Rattle.safety.proofs.OneRegistry.TransactionEnds.{own_code}
use Rattle.protocol.proofs.UnitsOfBlocks.{piece_of_block, same_unit_refl}
use Rattle.protocol.specs.AtRegistry.{registry_refusals, registry_verdict}
use Rattle.units.specs.Code.{same_code}

same_apart : (p : Piece) (ps qs : List Piece) → list_any (λ (q : Piece). same_unit p.unit q.unit) (ps ++ qs) ≡ false → (q : Piece) → In q qs → p.unit ≡ q.unit → ⊥
same_apart p ps qs h q i e =
    clash (same_unit p.unit q.unit) (subst (λ u. same_unit p.unit u ≡ true) e (same_unit_refl p.unit)) (list_any_none (λ (q : Piece). same_unit p.unit q.unit) (ps ++ qs) q h (In_right q ps qs i))

-- pieces without repeats, in two parts
repeats_parts : (ps qs : List Piece) → repeats (ps ++ qs) ≡ false → (repeats qs ≡ false) × ((p q : Piece) → In p ps → In q qs → p.unit ≡ q.unit → ⊥)
repeats_parts [] qs h = (h, λ p q i j e. absurd i)
repeats_parts (r ∷ rs) qs h =
    let a = or_parts (list_any (λ (q : Piece). same_unit r.unit q.unit) (rs ++ qs)) (repeats (rs ++ qs)) h in
    let rest = repeats_parts rs qs a.1 in (
      rest.0,
      λ p q i j e. elim i [
        | inl is ↦ same_apart r rs qs a.0 q j (ap (λ (z : Piece). z.unit) is ∙ e)
        | inr k ↦ rest.1 p q k j e
      ],
    )

apart_block : (b : Block) (bs : List Block) → ((p q : Piece) → In p (pieces_of b.raw) → In q (pieces (raws bs)) → p.unit ≡ q.unit → ⊥) → AllByRecursion (λ (d : Block). AreApart b.raw d.raw) bs
apart_block b [] h = tt
apart_block b (d ∷ ds) h = (
  λ s x y.
      h (record { unit = s; kind = b.raw.kind }) (record { unit = s; kind = d.raw.kind }) (piece_of_block b.raw s x)
      (In_left (record { unit = s; kind = d.raw.kind }) (pieces_of d.raw) (pieces (raws ds)) (piece_of_block d.raw s y)) refl,
  apart_block b ds (λ p q i j e. h p q i (In_right q (pieces_of d.raw) (pieces (raws ds)) j) e),
)

-- blocks whose pieces have no repeats share no unit
pub apart_from_pieces : (blocks : List Block) → repeats (pieces (raws blocks)) ≡ false → AllApart blocks
apart_from_pieces [] h = tt
apart_from_pieces (b ∷ bs) h = let p = repeats_parts (pieces_of b.raw) (pieces (raws bs)) h in (apart_block b bs p.1, apart_from_pieces bs p.0)

module _ (scheme : Scheme) (c : Code) where
  -- what another registry's transaction has was in a proposal that was welcome
  abbrev pub ContentsApart : List Transition → Type 0
  ContentsApart xs = (x : Transition) (k : Content) → In x xs → same_code x.id.code c ≡ false → x.content ≡ Some k → repeats (pieces k.units) ≡ false

  offered_apart : (es : List Entry) (p : ProposalMessage) (moment : Moment) (x : Transition) → In x (transitions_made (registry_verdict scheme c es (Received (message.proposal p) moment))) → repeats (pieces p.content.units) ≡ false
  offered_apart es p moment x i =
      let g = refuse_made (registry_refusals c es (message.proposal p)) _ x i in
      let own = or_parts (not (same_code p.content.acquirer c)) (same_code p.id.code c || repeats (pieces p.content.units)) g.0.1.1.0 in
      (or_parts (same_code p.id.code c) (repeats (pieces p.content.units)) own.1).1

  apart_move : (es : List Entry) (input : Input) (x : Transition) (k : Content) → RegistryMove scheme c es input x → In x (transitions_made (registry_verdict scheme c es input)) → ContentsApart (transitions_of es) → same_code x.id.code c ≡ false
      → x.content ≡ Some k → repeats (pieces k.units) ≡ false
  apart_move es input x k (proposes o t none is fresh) i old foreign known = clash (same_code t.code c) (own_code scheme c (proposals es + 1) t is) foreign
  apart_move es input x k (asks t q was own stood) i old foreign known = old q k (newest_id (transitions_of es) t q was).0 foreign known
  apart_move es input x k (arrives p moment found f s is none foreign' mine) i old foreign known =
      subst (λ (z : Content). repeats (pieces z.units) ≡ false) (one_some p.content k known) (offered_apart es p moment x i)
  apart_move es input x k (bares n moment f cancelled none foreign') i old foreign known = absurd (cc (known))
  apart_move es input x k (concludes n moment q new f was own move) i old foreign known = old q k (newest_id (transitions_of es) n.id q was).0 foreign known
  apart_move es input x k (finishes n moment q new f was foreign' move none) i old foreign known = old q k (newest_id (transitions_of es) n.id q was).0 foreign known

  made_here : (e : Entry) (es : List Entry) → Made scheme (Registry c) (e ∷ es) → e.transitions ≡ transitions_made (registry_verdict scheme c es e.input)
  unfolding verdict
  made_here e es h = h.0

  pub contents_apart : (es : List Entry) → Made scheme (Registry c) es → ContentsApart (transitions_of es)
  contents_apart [] h x k i foreign known = absurd i
  contents_apart (e ∷ es) h x k i foreign known =
      elim (In_cases x e.transitions (transitions_of es) i) [
        | inl now ↦ apart_move es e.input x k (made_registry scheme c e es x h now) (subst (In x) (made_here e es h) now) (contents_apart es h.1) foreign known
        | inr old ↦ contents_apart es h.1 x k old foreign known
      ]

  -- the blocks of an awaited transfer share no unit
  pub awaited_apart : (es : List Entry) (t : TransactionId) (x : Transition) (k : Content) (blocks : List Block) → Made scheme (Registry c) es → newest (transitions_of es) t ≡ Some x → same_code t.code c ≡ false → x.content ≡ Some k
      → raws blocks ≡ k.units → AllApart blocks
  awaited_apart es t x k blocks h was foreign known units =
      let about = newest_id (transitions_of es) t x was in
      apart_from_pieces blocks (ap (λ us. repeats (pieces us)) units ∙ contents_apart es h x k about.0 (ap (λ (z : TransactionId). same_code z.code c) about.1 ∙ foreign) known)
