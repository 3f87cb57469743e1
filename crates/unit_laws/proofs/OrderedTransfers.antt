-- A registry that sends a proposal has recorded an order to propose it, with whose content it recorded the transfer as
-- Proposed. It held each of the units then, so each was allotted to it or had come to it before.
use Rattle.std.specs.List.{count_by}
use Rattle.std.specs.Prelude.{◌&&◌, is_some}
use Rattle.std.proofs.Common.{◌≡◌, ◌+◌, ◌≤◌, List, [], ◌∷◌, true, not, inl, inr, refl, sym, ap, subst, ◌∙◌, arith}
use Rattle.std.proofs.lemmas.Bool.{and_parts, cases_Bool, eqb-true, not-false}
use Rattle.units.specs.declared.block.Unit.{Unit as Serial}
use Rattle.units.specs.declared.code.Code.{Code}
use Rattle.units.specs.declared.code.Node.TheVariants.{Registry}
use Rattle.status.specs.Content.{Content}
use Rattle.status.specs.Order.{Order}
use Rattle.wire.specs.declared.input.Input.{Input}
use Rattle.wire.specs.declared.input.Input.TheVariants.{Propose}
use Rattle.scheme.specs.declared.registries.Scheme.{Scheme}
use Rattle.protocol.specs.AtRegistry.{content_of, holding, is_position}
use Rattle.protocol.specs.Checks.{propose_refusals}
use Rattle.protocol.specs.History.{Entry, Transition, at_start, credits, gives, holds, messages_of, position, sends, transitions_of}
use Rattle.protocol.specs.Pieces.{Piece, pieces}
use Rattle.protocol.specs.Registries.{allotted}
use Rattle.protocol.proofs.CanonicalBlocks.{canonical_from}
use Rattle.protocol.proofs.CountsInLists.{number_some}
use Rattle.protocol.proofs.MessageForms as message
use Rattle.protocol.proofs.MessageForms.{ProposalMessage, apart, one_proposal}
use Rattle.safety.proofs.MovesAndHistories.NewestTransitions.{Made, made_registry}
use Rattle.safety.proofs.MovesAndHistories.TableMoves.{NoneStands, RegistryMove, proposes, asks, arrives, bares, concludes, finishes}
use Rattle.safety.proofs.MovesAndHistories.TransitionForms.{proposed}
use Rattle.safety.proofs.OneRegistry.TransactionEnds.{concluded_offers, single_same}
use Rattle.safety.proofs.OneRegistry.UnitsCountedOnce.{Single, made_single}
use Rattle.units.proofs.Lists.Membership.{In, In_cases, In_flat_map, In_right}
use Rattle.units.proofs.Lists.SomePass.{list_any_none}
use Rattle.unit_laws.proofs.NewestCredits.{starts_here}

-- the order to propose the transfer, and the records before it
pub record Ordered (scheme : Scheme) (c : Code) (es : List Entry) (p : ProposalMessage) : Type 0 where
  pub entry : Entry
  pub among : In entry es
  pub order : Order
  pub is : entry.input ≡ Propose order
  pub only : entry.transitions ≡ proposed c p.id (content_of order) ∷ []
  pub content : content_of order ≡ p.content
  pub older : List Entry
  pub before : (x : Transition) → In x (transitions_of older) → In x (transitions_of es)
  pub fine : NoneStands (propose_refusals scheme c (holding scheme c older) order)

-- an only transition, given that one of them is this
only_one : (xs : List Transition) (x : Transition) → Single xs → In x xs → xs ≡ x ∷ []
only_one xs x (inl e) i = absurd (subst (In x) e i)
only_one xs x (inr e) i = e.1 ∙ ap (λ y. y ∷ []) (single_same xs e.0 x (inr e) (subst (In e.0) (sym e.1) (inl refl)) i)

module _ (scheme : Scheme) (c : Code) where
  ordered_move : (e : Entry) (es : List Entry) (input : Input) (x : Transition) (p : ProposalMessage) → e.input ≡ input → Single e.transitions → In x e.transitions → RegistryMove scheme c es input x
      → In (message.proposal p) x.messages → Ordered scheme c (e ∷ es) p
  ordered_move e es input x p i single here (proposes o t none is fresh) (inl s) =
      let same = one_proposal _ p s in
      let about : t ≡ p.id = ap (λ (z : ProposalMessage). z.id) same in
      record {
        entry = e;
        among = inl refl;
        order = o;
        is = i;
        only = only_one e.transitions (proposed c t (content_of o)) single here ∙ ap (λ u. proposed c u (content_of o) ∷ []) about;
        content = ap (λ (z : ProposalMessage). z.content) same;
        older = es;
        before = λ y j. In_right y e.transitions (transitions_of es) j;
        fine = none;
      }
  ordered_move e es input x p i single here (proposes o t none is fresh) (inr h) = absurd h
  ordered_move e es input x p i single here (asks t q was own stood) (inl s) = apart s refl
  ordered_move e es input x p i single here (asks t q was own stood) (inr h) = absurd h
  ordered_move e es input x p i single here (arrives q moment found f s is none foreign mine) (inl r) = apart r refl
  ordered_move e es input x p i single here (arrives q moment found f s is none foreign mine) (inr h) = absurd h
  ordered_move e es input x p i single here (bares n moment f cancelled none foreign) h = absurd h
  ordered_move e es input x p i single here (concludes n moment q new f was own move) h = absurd (concluded_offers c q.id new p h)
  ordered_move e es input x p i single here (finishes n moment q new f was foreign move none) h = absurd h

  pub ordered : (es : List Entry) → Made scheme (Registry c) es → (p : ProposalMessage) → In (message.proposal p) (sends es) → Ordered scheme c es p
  ordered [] made p h = absurd h
  ordered (e ∷ es) made p h =
      elim (In_cases (message.proposal p) (sends es) (messages_of e.transitions) h) [
        | inl old ↦
            let o = ordered es made.1 p old in
            record {
              entry = o.entry;
              among = inr o.among;
              order = o.order;
              is = o.is;
              only = o.only;
              content = o.content;
              older = o.older;
              before = λ x i. In_right x e.transitions (transitions_of es) (o.before x i);
              fine = o.fine;
            }
        | inr new ↦
            let g = In_flat_map (λ (q : Transition). q.messages) (message.proposal p) e.transitions new in
            ordered_move e es e.input g.0 p refl (made_single scheme c e es made) g.1 (made_registry scheme c e es g.0 made g.1) g.2
      ]

  -- a unit that is held was allotted, where each unit that came was
  held_allotted : (xs : List Transition) (s : Serial) → ((x : Transition) → In x xs → credits c s x ≡ true → is_some (allotted scheme s) ≡ true) → holds scheme c xs s ≡ true → is_some (allotted scheme s) ≡ true
  held_allotted xs s came h =
      elim (cases_Bool (is_some (allotted scheme s))) [
        | inl y ↦ y
        | inr n ↦
            let e = eqb-true (at_start scheme c s + count_by (credits c s) xs) (count_by (gives c s) xs + 1) h in
            let none : ¬ (1 ≤ count_by (credits c s) xs) = λ some. let x = number_some (credits c s) xs some in let y = sym (came x.0 x.1 x.2) ∙ n in absurd (cc (y)) in
            let start : ¬ (1 ≤ at_start scheme c s) = λ some. let a = starts_here c (allotted scheme s) some in let y = sym (ap is_some a.1) ∙ n in absurd (cc (y)) in
            absurd (omega arith)
      ]

  -- what a registry proposes was allotted, where each unit that came was
  pub proposed_allotted : (es : List Entry) → Made scheme (Registry c) es → ((s : Serial) (x : Transition) → In x (transitions_of es) → credits c s x ≡ true → is_some (allotted scheme s) ≡ true)
      → (p : ProposalMessage) → In (message.proposal p) (sends es) → (q : Piece) → In q (pieces p.content.units) → is_some (allotted scheme q.unit) ≡ true
  proposed_allotted es made came p sent q i =
      let o = ordered es made p sent in
      let xs = transitions_of o.older in
      let piece = canonical_from o.order.units o.fine.1.0 q (subst (λ (k : Content). In q (pieces k.units)) (sym o.content) i) in
      let has =
      not-false (holds scheme c xs q.unit && is_position (position scheme c xs q.unit) o.order.account q)
      (list_any_none (λ (v : Piece). not (holds scheme c xs v.unit && is_position (position scheme c xs v.unit) o.order.account v)) (pieces o.order.units) q o.fine.1.1.1.1.0 piece) in
      held_allotted xs q.unit (λ x j. came q.unit x (o.before x j)) (and_parts (holds scheme c xs q.unit) (is_position (position scheme c xs q.unit) o.order.account q) has).0
