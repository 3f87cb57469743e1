-- Where each received message was sent, a unit keeps the kind of its allotment. What a registry proposes has the kinds
-- of the units' allotments, each content that a node knows was proposed, and a unit that a registry holds was allotted
-- to it or came by such a content.
use Rattle.std.specs.Prelude.{◌&&◌, find, is_some, option_map}
use Rattle.std.proofs.Common.{◌≡◌, List, [], ◌∷◌, true, false, not, Option, Some, None, inl, inr, refl, sym, ap, subst, ◌∙◌}
use Rattle.std.proofs.lemmas.Bool.{and_parts, and_from, cases_Bool, cond-true, cond-false, not-false}
use Rattle.units.specs.Unit.{has_unit, same_kind}
use Rattle.units.specs.declared.block.Kind.{Kind}
use Rattle.units.specs.declared.block.RawBlock.{RawBlock}
use Rattle.units.specs.declared.block.Unit.{Unit as Serial}
use Rattle.units.specs.declared.code.Code.{Code}
use Rattle.units.specs.declared.code.Node.{Node}
use Rattle.units.specs.declared.code.Node.TheVariants.{Itl, Registry}
use Rattle.units.proofs.Same.{kind_of_same}
use Rattle.status.specs.Content.{Content}
use Rattle.status.specs.Status.{same_status}
use Rattle.status.specs.declared.status.Status.TheVariants.{Cancelled, Completed}
use Rattle.scheme.specs.declared.members.Holder.{Holder}
use Rattle.scheme.specs.declared.registries.Scheme.{Scheme}
use Rattle.protocol.specs.Checks.{has_other_kind}
use Rattle.protocol.specs.Claims.{at_registry, is_received, owes}
use Rattle.protocol.specs.History.{Entry, Position, Transition, book_owner, carries, credited_position, credits, gives, has_serial, holds, position, position_in, transitions_of}
use Rattle.protocol.specs.Pieces.{Piece, pieces, pieces_of}
use Rattle.protocol.specs.Registries.{allotted}
use Rattle.protocol.proofs.UnitsOfBlocks.{piece_of_block}
use Rattle.safety.proofs.AgreementOfNodes.CausalHistories.{Causal}
use Rattle.safety.proofs.AgreementOfNodes.CompletionsAgree.{credited, done_status, given, log_completed, log_has}
use Rattle.safety.proofs.AmongStrangers.WholeBooks.{book_is_whole}
use Rattle.safety.proofs.DeliveryLemmas.KindsOfOffers.{sound_offer}
use Rattle.safety.proofs.ListLemmas.FirstFound.{any_found, mapped, some_is}
use Rattle.safety.proofs.MovesAndHistories.NewestTransitions.{newest_id}
use Rattle.safety.proofs.OneRegistry.TransactionEnds.{ends_last, known}
use Rattle.safety.proofs.OneRegistry.UnitHoldingsOfUnits.{held_position}
use Rattle.units.proofs.Lists.Membership.{In, In_find, In_left, In_right}
use Rattle.units.proofs.Lists.OneValue.{one_some}
use Rattle.units.proofs.Lists.Positions.{In_contains}
use Rattle.unit_laws.specs.Kinds.{HasItsKind, IsKind, KeepsKinds}
use Rattle.unit_laws.proofs.KnownContents.{known_content}
use Rattle.unit_laws.proofs.NewestCredits.{position_by, position_came}
use Rattle.unit_laws.proofs.OrderedTransfers.{proposed_allotted}

-- ---- one content

-- the pieces of a block are among those of its blocks
pieces_in : (bs : List RawBlock) (b : RawBlock) (p : Piece) → In b bs → In p (pieces_of b) → In p (pieces bs)
pieces_in [] b p i h = absurd i
pieces_in (c ∷ cs) b p (inl e) h = In_left p (pieces_of c) (pieces cs) (subst (λ z. In p (pieces_of z)) (sym e) h)
pieces_in (c ∷ cs) b p (inr i) h = In_right p (pieces_of c) (pieces cs) (pieces_in cs b p i h)

-- allotted, and with no other kind
kind_is : (o : Option Holder) (kind : Kind) → is_some o ≡ true → has_other_kind o kind ≡ false → option_map (λ (h : Holder). h.kind) o ≡ Some kind
kind_is None kind e n = absurd (cc (e))
kind_is (Some h) kind e n = ap (λ k. Some k) (kind_of_same h.kind kind (not-false (same_kind h.kind kind) n))

-- a content that has the unit gives it a position, which has the kind of a block with it
named_position : (s : Serial) (k : Content) (q : Position) → credited_position s k ≡ Some q → (b : RawBlock) × In b k.units × (has_unit b s ≡ true) × (b.kind ≡ q.kind)
named_position s k q e =
    let m = mapped (λ (b : RawBlock). record { account = k.to_account; kind = b.kind }) (find (λ (b : RawBlock). has_unit b s) k.units) q e in
    let g = In_find (λ (b : RawBlock). has_unit b s) k.units m.0 m.1 in
    (m.0, g.0, g.1, ap (λ (p : Position). p.kind) m.2)

-- what has the unit has a content, which gives the unit a position
carried : (s : Serial) (o : Option Content) → has_serial o s ≡ true → (k : Content) × (o ≡ Some k) × ((q : Position) × (credited_position s k ≡ Some q))
carried s None e = absurd (cc (e))
carried s (Some k) e =
    (k, refl, some_is (credited_position s k) (sym (any_found (λ (b : RawBlock). has_unit b s) (λ (b : RawBlock). record { account = k.to_account; kind = b.kind }) k.units) ∙ e))

-- ---- the log's book

-- a unit that a completed transfer has is somebody's
booked : (scheme : Scheme) (s : Serial) (xs : List Transition) (y : Transition) → In y xs → same_status y.new Completed ≡ true → carries y s ≡ true → is_some (book_owner scheme xs s) ≡ true
booked scheme s [] y i done has = absurd i
booked scheme s (x ∷ xs) y i done has =
    elim (cases_Bool (same_status x.new Completed && carries x s)) [
      | inl here ↦
          let k = carried s x.content (and_parts (same_status x.new Completed) (carries x s) here).1 in
          ap is_some (cond-true (same_status x.new Completed && carries x s) (option_map (λ (k : Content). k.acquirer) x.content) (book_owner scheme xs s) here)
          ∙ ap (λ o. is_some (option_map (λ (k : Content). k.acquirer) o)) k.1
      | inr other ↦
          elim i [
            | inl e ↦
                let both = and_from (same_status y.new Completed) (carries y s) done has in
                let y = sym (subst (λ (z : Transition). (same_status z.new Completed && carries z s) ≡ true) (sym e) both) ∙ other in
                absurd (cc (y))
            | inr j ↦
                ap is_some (cond-false (same_status x.new Completed && carries x s) (option_map (λ (k : Content). k.acquirer) x.content) (book_owner scheme xs s) other)
                ∙ booked scheme s xs y j done has
          ]
    ]

module _ (scheme : Scheme) (f : Node → List Entry) (causal : Causal scheme f) where
  -- ---- a unit that came by a transfer was allotted

  came_allotted : (c : Code) (s : Serial) (x : Transition) → In x (at_registry f c) → credits c s x ≡ true → is_some (allotted scheme s) ≡ true
  came_allotted c s x i h =
      let a = credited c s x h in
      let es = f (Registry c) in
      let made = causal.made (Registry c) in
      let y = log_completed scheme f causal refl c x i a.0 a.1 in
      elim (known scheme c es made x.id x (ends_last scheme c es made x i a.0) a.1) [
        | inl bare ↦ let z : Completed ≡ Cancelled = sym a.0 ∙ bare.0 in absurd (cc (z))
        | inr taken ↦
            let o = log_has scheme f causal refl c x.id taken.content taken.got in
            let content : x.content ≡ y.0.content = taken.is ∙ sym o.2 ∙ ap (λ (z : Transition). z.content) (one_some o.0 y.0 (sym o.1 ∙ y.1)) in
            let id = newest_id (transitions_of (f Itl)) x.id y.0 y.1 in
            sym (book_is_whole scheme (f Itl) (causal.made Itl) s).0
            ∙ booked scheme s (transitions_of (f Itl)) y.0 id.0 (done_status y.0 y.2) (subst (λ k. has_serial k s ≡ true) content a.2)
      ]

  -- ---- what nodes know of transfers

  pub named : (n : Node) (x : Transition) (k : Content) → In x (transitions_of (f n)) → x.content ≡ Some k → (b : RawBlock) (s : Serial) → In b k.units → has_unit b s ≡ true → IsKind scheme s b.kind
  named n x k i is b s j has =
      let p = known_content scheme f causal n x k i is in
      let d = x.id.code in
      let piece : Piece = record { unit = s; kind = b.kind } in
      let among = subst (λ (z : Content). In piece (pieces z.units)) (sym p.content) (pieces_in k.units b piece j (piece_of_block b s has)) in
      kind_is (allotted scheme s) b.kind
      (proposed_allotted scheme d (f (Registry d)) (causal.made (Registry d)) (λ r y. came_allotted d r y) p.proposal p.sent piece among)
      ((sound_offer scheme f causal d p.proposal p.sent).kinds piece among)

  -- a position in a content that is known
  placed : (n : Node) (x : Transition) (s : Serial) (q : Position) → In x (transitions_of (f n)) → position_in s x.content ≡ Some q → IsKind scheme s q.kind
  placed n x s q i e = go x.content refl e
    where
      go : (o : Option Content) → x.content ≡ o → position_in s o ≡ Some q → IsKind scheme s q.kind
      go None is e = absurd (cc (e))
      go (Some k) is e = let b = named_position s k q e in subst (IsKind scheme s) b.3 (named n x k i is b.0 s b.1 b.2)

  held : (s : Serial) (c : Code) → holds scheme c (at_registry f c) s ≡ true → HasItsKind scheme s (position scheme c (at_registry f c) s)
  held s c h =
      let xs = at_registry f c in
      let q = held_position scheme c s xs h in
      record { position = q.0; is = q.1; kind = go (find (credits c s) xs) refl q.0 (sym (position_came scheme c s xs) ∙ q.1) }
    where
      go : (o : Option Transition) → find (credits c s) (at_registry f c) ≡ o → (q : Position) → position_by scheme s (find (credits c s) (at_registry f c)) ≡ Some q → IsKind scheme s q.kind
      go None is q e =
          let m = mapped (λ (h : Holder). record { account = h.account; kind = h.kind }) (allotted scheme s) q (sym (ap (position_by scheme s) is) ∙ e) in
          ap (option_map (λ (h : Holder). h.kind)) m.1 ∙ ap (λ (p : Position). Some p.kind) m.2
      go (Some x) is q e = placed (Registry c) x s q (In_find (credits c s) (at_registry f c) x is).0 (sym (ap (position_by scheme s) is) ∙ e)

  owed : (s : Serial) (c : Code) (x : Transition) → In x (at_registry f c) → owes f c s x ≡ true → HasItsKind scheme s (position_in s x.content)
  owed s c x i h =
      let out = given c s x (and_parts (gives c s x) (not (is_received f x.id x.content)) h).0 in
      let k = carried s x.content out.2 in
      let there : position_in s x.content ≡ Some k.2.0 = ap (position_in s) k.1 ∙ k.2.1 in
      record { position = k.2.0; is = there; kind = placed (Registry c) x s k.2.0 i there }

  pub keeps_kinds : KeepsKinds scheme f
  keeps_kinds =
      record {
        held = held;
        owed = λ s c x i h. owed s c x (In_contains (at_registry f c) x i) h;
        named = λ n x k i is b s j has. named n x k (In_contains (transitions_of (f n)) x i) is b s (In_contains k.units b j) has;
      }
