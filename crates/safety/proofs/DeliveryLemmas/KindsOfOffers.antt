-- A unit keeps the kind that it was allotted with: what a registry offers has each unit once, and of that kind.
-- The log only passes on offers without units of another kind, so what a registry takes in has the right kinds. What
-- it holds was allotted to it or taken in, and an offer is the canonical form of units that are held.
use Rattle.std.proofs.Common.{◌≡◌, ℕ, List, [], ◌∷◌, true, false, not, Option, Some, None, inl, inr, refl, sym, ap, subst, ◌∙◌}
use Rattle.std.specs.Prelude.{◌&&◌, ◌==◌, find, option_map}
use Rattle.std.proofs.lemmas.Bool.{and_parts, not-false, cond-true, cond-false, cases_Bool, eq-eqb}
use Rattle.units.proofs.Same.{kind_of_same}
use Rattle.units.specs.Unit.{has_unit, same_kind, kind_index}
use Rattle.units.specs.declared.block.RawBlock.{RawBlock}
use Rattle.units.specs.declared.block.Unit.{Unit as Serial}
use Rattle.units.specs.declared.code.Code.{Code}
use Rattle.units.specs.declared.code.Node.{Node}
use Rattle.units.specs.declared.code.Node.TheVariants.{Itl, Registry}
use Rattle.status.specs.Content.{Content}
use Rattle.status.specs.declared.id.TransactionId.{TransactionId}
use Rattle.status.specs.declared.status.Status.TheVariants.{Cancelled, Completed}
use Rattle.wire.specs.declared.input.Input.{Input}
use Rattle.protocol.proofs.MessageForms as message
use Rattle.protocol.proofs.MessageForms.{ProposalMessage, one_proposal, apart}
use Rattle.wire.specs.declared.message.ProposalStatus.TheVariants as proposal
use Rattle.scheme.specs.declared.members.Holder.{Holder}
use Rattle.scheme.specs.declared.registries.Scheme.{Scheme}
use Rattle.protocol.specs.AtRegistry.{is_position}
use Rattle.protocol.specs.Checks.{has_other_kind}
use Rattle.protocol.specs.History.{Transition, Entry, Position, transitions_of, sends, messages_of, credits, holds, credited_position, position_in, position}
use Rattle.protocol.specs.Pieces.{Piece, pieces, pieces_of, repeats}
use Rattle.protocol.specs.Registries.{allotted}
use Rattle.protocol.proofs.CanonicalBlocks.{canonical_no_repeats, canonical_from}
use Rattle.safety.proofs.AgreementOfNodes.CausalHistories.{Causal, offered_sent}
use Rattle.safety.proofs.AgreementOfNodes.CompletionsAgree.{credited}
use Rattle.units.proofs.Lists.SomePass.{list_any_none}
use Rattle.safety.proofs.OneRegistry.TransactionEnds.{ends_last, known, concluded_offers}
use Rattle.safety.proofs.OneLog.LogSendings.{is_of_other_kind, passed_on}
use Rattle.safety.proofs.MovesAndHistories.NewestTransitions.{Made, Offered, offered_later, made_registry}
use Rattle.units.proofs.Lists.Membership.{In, In_cases, In_left, In_right, In_find, In_flat_map}
use Rattle.units.proofs.Lists.OneValue.{one_some}
use Rattle.safety.proofs.MovesAndHistories.TableMoves.{RegistryMove, proposes, asks, arrives, bares, concludes, finishes}
use Rattle.protocol.proofs.UnitsOfBlocks.{piece_of_block}

-- no unit of another kind than it was allotted with
abbrev pub AreRight : Scheme → List Piece → Type 0
AreRight scheme ps = (p : Piece) → In p ps → is_of_other_kind scheme p ≡ false

-- what may be offered
pub record IsSound (scheme : Scheme) (k : Content) : Type 0 where
  pub kinds : AreRight scheme (pieces k.units)
  pub apart : repeats (pieces k.units) ≡ false

pieces_in : (bs : List RawBlock) (b : RawBlock) (p : Piece) → In b bs → In p (pieces_of b) → In p (pieces bs)
pieces_in [] b p i h = absurd i
pieces_in (c ∷ cs) b p (inl e) h = In_left p (pieces_of c) (pieces cs) (subst (λ z. In p (pieces_of z)) (sym e) h)
pieces_in (c ∷ cs) b p (inr i) h = In_right p (pieces_of c) (pieces cs) (pieces_in cs b p i h)

one_place : (p q : Position) → Some p ≡ Some q → p ≡ q
one_place p q e = cc (e)

module _ (scheme : Scheme) (s : Serial) where
  abbrev PositionRight : Option Position → Type 0
  PositionRight o = (q : Position) → o ≡ Some q → has_other_kind (allotted scheme s) q.kind ≡ false

  start_right : (o : Option Holder) → allotted scheme s ≡ o → PositionRight (option_map (λ (h : Holder). record { account = h.account; kind = h.kind }) o)
  start_right None e q h = absurd (cc (h))
  start_right (Some a) e q h =
      let kind : a.kind ≡ q.kind = ap (λ (z : Position). z.kind) (one_place _ q h) in
      subst (λ o. has_other_kind o q.kind ≡ false) (sym e) (subst (λ k. not (same_kind a.kind k) ≡ false) kind (ap not (eq-eqb (kind_index a.kind) (kind_index a.kind) refl)))

  credited_right : (k : Content) → AreRight scheme (pieces k.units) → PositionRight (credited_position s k)
  credited_right k right q h = go (find (λ (b : RawBlock). has_unit b s) k.units) refl h
    where
      go : (o : Option RawBlock) → find (λ (b : RawBlock). has_unit b s) k.units ≡ o → option_map (λ (b : RawBlock). record { account = k.to_account; kind = b.kind }) o ≡ Some q → has_other_kind (allotted scheme s) q.kind ≡ false
      go None e i = absurd (cc (i))
      go (Some b) e i =
          let kind : b.kind ≡ q.kind = ap (λ (z : Position). z.kind) (one_place _ q i) in
          let found = In_find (λ (b : RawBlock). has_unit b s) k.units b e in
          subst (λ z. has_other_kind (allotted scheme s) z ≡ false) kind
          (right (record { unit = s; kind = b.kind }) (pieces_in k.units b (record { unit = s; kind = b.kind }) found.0 (piece_of_block b s found.1)))

  -- the position of a unit has the kind that it was allotted with, where what was credited had it
  position_right : (c : Code) (xs : List Transition) → ((x : Transition) → In x xs → credits c s x ≡ true → (k : Content) → x.content ≡ Some k → AreRight scheme (pieces k.units)) → PositionRight (position scheme c xs s)
  position_right c [] right q h = start_right (allotted scheme s) refl q h
  position_right c (x ∷ xs) right q h =
      elim (cases_Bool (credits c s x)) [
        | inl y ↦ came x.content refl (sym (cond-true (credits c s x) (position_in s x.content) (position scheme c xs s) y) ∙ h) y
        | inr n ↦ position_right c xs (λ z i. right z (inr i)) q (sym (cond-false (credits c s x) (position_in s x.content) (position scheme c xs s) n) ∙ h)
      ]
    where
      came : (o : Option Content) → x.content ≡ o → position_in s o ≡ Some q → credits c s x ≡ true → has_other_kind (allotted scheme s) q.kind ≡ false
      came None e i y = absurd (cc (i))
      came (Some k) e i y = credited_right k (right x (inl refl) y k e) q i

-- what the log offered to a registry has right kinds
abbrev OffersRight : Scheme → List Entry → Type 0
OffersRight scheme es = (t : TransactionId) (k : Content) → Offered es Itl t proposal.Checked k → AreRight scheme (pieces k.units)

module _ (scheme : Scheme) (c : Code) where
  -- what was credited was offered by the log
  credited_kinds : (es : List Entry) → Made scheme (Registry c) es → OffersRight scheme es → (s : Serial) (x : Transition) → In x (transitions_of es) → credits c s x ≡ true → (k : Content) → x.content ≡ Some k
      → AreRight scheme (pieces k.units)
  credited_kinds es made right s x i h k is =
      let a = credited c s x h in
      elim (known scheme c es made x.id x (ends_last scheme c es made x i a.0) a.1) [
        | inl z ↦ let y : Completed ≡ Cancelled = sym a.0 ∙ z.0 in absurd (cc (y))
        | inr z ↦ subst (λ (w : Content). AreRight scheme (pieces w.units)) (one_some z.content k (sym z.is ∙ is)) (right x.id z.content z.got)
      ]

  held_kind : (es : List Entry) → Made scheme (Registry c) es → OffersRight scheme es → (account : ℕ) (p : Piece) (o : Option Position) → position scheme c (transitions_of es) p.unit ≡ o → is_position o account p ≡ true
      → is_of_other_kind scheme p ≡ false
  held_kind es made right account p None e h = absurd (cc (h))
  held_kind es made right account p (Some q) e h =
      subst (λ k. has_other_kind (allotted scheme p.unit) k ≡ false) (kind_of_same q.kind p.kind (and_parts (q.account == account) (same_kind q.kind p.kind) h).1)
      (position_right scheme p.unit c (transitions_of es) (credited_kinds es made right p.unit) q e)

  offer_move : (es : List Entry) (input : Input) (x : Transition) (p : ProposalMessage) → Made scheme (Registry c) es → OffersRight scheme es → RegistryMove scheme c es input x → In (message.proposal p) x.messages → IsSound scheme p.content
  offer_move es input x p made right (proposes o t none is fresh) (inl e) =
      let xs = transitions_of es in
      subst (λ (z : ProposalMessage). IsSound scheme z.content) (one_proposal _ p e)
      (record {
        kinds = λ q i.
            let has =
            not-false (holds scheme c xs q.unit && is_position (position scheme c xs q.unit) o.account q)
            (list_any_none (λ (v : Piece). not (holds scheme c xs v.unit && is_position (position scheme c xs v.unit) o.account v)) (pieces o.units) q none.1.1.1.1.0 (canonical_from o.units none.1.0 q i)) in
            held_kind es made right o.account q (position scheme c xs q.unit) refl (and_parts (holds scheme c xs q.unit) (is_position (position scheme c xs q.unit) o.account q) has).1;
        apart = canonical_no_repeats o.units none.1.0 none.1.1.0;
      })
  offer_move es input x p made right (proposes o t none is fresh) (inr h) = absurd h
  offer_move es input x p made right (arrives q moment found f s is none foreign mine) (inl e) = apart e refl
  offer_move es input x p made right (arrives q moment found f s is none foreign mine) (inr h) = absurd h
  offer_move es input x p made right (asks t q was own stood) (inl e) = apart e refl
  offer_move es input x p made right (asks t q was own stood) (inr h) = absurd h
  offer_move es input x p made right (bares n moment f cancelled none foreign) h = absurd h
  offer_move es input x p made right (concludes n moment q new f was own move) h = absurd (concluded_offers c q.id new p h)
  offer_move es input x p made right (finishes n moment q new f was foreign move none) h = absurd h

  offers_sound : (es : List Entry) → Made scheme (Registry c) es → OffersRight scheme es → (p : ProposalMessage) → In (message.proposal p) (sends es) → IsSound scheme p.content
  offers_sound [] made right p h = absurd h
  offers_sound (e ∷ es) made right p h =
      let older : OffersRight scheme es = λ t k g. right t k (offered_later e es Itl t proposal.Checked k g) in
      elim (In_cases (message.proposal p) (sends es) (messages_of e.transitions) h) [
        | inl old ↦ offers_sound es made.1 older p old
        | inr new ↦
            let g = In_flat_map (λ (q : Transition). q.messages) (message.proposal p) e.transitions new in
            offer_move es e.input g.0 p made.1 older (made_registry scheme c e es g.0 made g.1) g.2
      ]

-- where each received message was sent, a registry offers each unit once, and of the kind that it was allotted with
pub sound_offer : (scheme : Scheme) (f : Node → List Entry) → Causal scheme f → (c : Code) (p : ProposalMessage) → In (message.proposal p) (sends (f (Registry c))) → IsSound scheme p.content
sound_offer scheme f causal c p h =
    offers_sound scheme c (f (Registry c)) (causal.made (Registry c))
    (λ t k got q i.
    let facts = passed_on scheme (f Itl) (causal.made Itl) got.proposal (offered_sent scheme f causal (Registry c) Itl t proposal.Checked k refl got) in
    list_any_none (is_of_other_kind scheme) (pieces got.proposal.content.units) q facts.kinds (subst (λ (z : Content). In q (pieces z.units)) (sym got.content) i))
    p h
