-- The transactions that a clean-up cancels: each that has stood Checked for a day, in ascending order of code and
-- number, and the messages that it sends for each.
use Rattle.std.proofs.Common.{Contains, List, None, Option, Some, [], ap, false, inl, inr, map, refl, subst, sym, true, ℕ, ◌&&◌, ◌++◌, ◌+◌, ◌==◌, ◌∙◌, ◌∷◌, ◌↔◌, ◌≡◌, ◌≤◌, ◌⊎◌}
use Rattle.std.specs.List.{AllByRecursion}
use Rattle.std.specs.Option.{option_map_or}
use Rattle.std.specs.Prelude.{filter, flat_map, is_some}
use Rattle.std.specs.declared.cmp.Ordering.TheVariants.{Less}
use Rattle.std.proofs.lemmas.Bool.{and_from, and_parts, eq-eqb, eqb-true, le-leb, leb-true}
use Rattle.units.specs.Apart.{Pairwise}
use Rattle.units.specs.Limits.{clean_up_age}
use Rattle.units.specs.declared.code.Node.TheVariants.{Itl}
use Rattle.status.proofs.IdOrder.{ids_total}
use Rattle.status.specs.Content.{Content}
use Rattle.status.specs.Id.{id_cmp}
use Rattle.status.specs.Rows.{log_row}
use Rattle.status.specs.Status.{same_status}
use Rattle.status.specs.declared.id.TransactionId.{TransactionId}
use Rattle.status.specs.declared.rows.RecordedStatus.TheVariants.{Stands}
use Rattle.status.specs.declared.rows.Row.{Row}
use Rattle.status.specs.declared.rows.Row.TheVariants.{Late, Move, Refused, Repeat}
use Rattle.status.specs.declared.rows.RowInput.TheVariants as column
use Rattle.status.specs.declared.status.Status.{Status}
use Rattle.status.specs.declared.status.Status.TheVariants.{Cancelled, Checked}
use Rattle.wire.specs.declared.message.Message.{Message}
use Rattle.scheme.proofs.Climbs.{one_order}
use Rattle.scheme.specs.declared.registries.Scheme.{Scheme}
use Rattle.protocol.specs.AtLog.{by_id, cleaned, expired, is_old, newest_of_each}
use Rattle.protocol.specs.Deciding.{content_in, known, moved, moved_by}
use Rattle.protocol.specs.Effects.{log_sends}
use Rattle.protocol.specs.History.{Entry, Transition, messages_of, newest, transitions_of}
use Rattle.units.proofs.Lists.Membership.{In, In_filter, In_flat_map, In_map, filter_In, map_In, In_left, In_right}
use Rattle.units.proofs.Lists.Positions.{In_contains, contains_in}
use Rattle.safety.proofs.ListLemmas.TestsOfSameness.{status_of_same}
use Rattle.safety.proofs.MovesAndHistories.NewestTransitions.{Made, newest_id}
use Rattle.safety.proofs.MovesAndHistories.TableMoves.{cleaned_made, In_by_id, In_newest}
use Rattle.safety.proofs.MovesAndHistories.TableRows.{known_status}
use Rattle.safety.proofs.OneRegistry.TransactionEnds.{proposer}
use Rattle.log_core.specs.Effects.{IsCancelledAt}
use Rattle.log_core.specs.Readings.{is_checked_since}
use Rattle.safety.proofs.OneLog.CleanedInOrder.{Ascend, all_from_in, ascend_by_id, ascend_ids, by_id_In, differ_filter, differ_newest, ids_irreflexive, newest_each}

-- the transactions that have stood Checked for a day at that moment
abbrev pub HasExpired : List Transition → ℕ → TransactionId → Type 0
HasExpired xs moment t = (since : ℕ) × (is_checked_since xs since t ≡ true) × (since + clean_up_age ≤ moment)

-- ---- the transition of one transaction

-- the transition to a status
abbrev cleaned_to : ℕ → Transition → Status → Transition
cleaned_to moment b new = moved b.id b.content moment (log_sends b.id b.content [] column.CleanUp) new

-- the transition of a clean-up is of the same transaction, at that moment, and tells its parties
cleaned_about : (moment : ℕ) (b y : Transition) → In y (cleaned moment b) → (y.id ≡ b.id) × (y.moment ≡ moment) × (y.messages ≡ log_sends b.id b.content [] column.CleanUp)
cleaned_about moment b y i = go (log_row (known (Some b)) column.CleanUp) i
  where
    go : (row : Row) → In y (moved_by (cleaned_to moment b) row) → (y.id ≡ b.id) × (y.moment ≡ moment) × (y.messages ≡ log_sends b.id b.content [] column.CleanUp)
    go (Move new) (inl e) = (ap (λ (z : Transition). z.id) (sym e), ap (λ (z : Transition). z.moment) (sym e), ap (λ (z : Transition). z.messages) (sym e))
    go (Move new) (inr h) = absurd h
    go Repeat h = absurd h
    go Late h = absurd h
    go Refused h = absurd h

-- it is one transition, or none
cleaned_shape : (moment : ℕ) (b : Transition) → (cleaned moment b ≡ []) ⊎ ((y : Transition) × (cleaned moment b ≡ y ∷ []))
cleaned_shape moment b = go (log_row (known (Some b)) column.CleanUp)
  where
    go : (row : Row) → (moved_by (cleaned_to moment b) row ≡ []) ⊎ ((y : Transition) × (moved_by (cleaned_to moment b) row ≡ y ∷ []))
    go (Move new) = inr (cleaned_to moment b new, refl)
    go Repeat = inl refl
    go Late = inl refl
    go Refused = inl refl

ascend_cleaned : (moment : ℕ) (bs : List Transition) → Ascend bs → Ascend (flat_map (cleaned moment) bs)
ascend_cleaned moment [] h = tt
ascend_cleaned moment (b ∷ bs) h =
    let rest = ascend_cleaned moment bs h.1 in
    elim (cleaned_shape moment b) [
      | inl none ↦ subst (λ zs. Ascend (zs ++ flat_map (cleaned moment) bs)) (sym none) rest
      | inr one ↦
          let about = (cleaned_about moment b one.0 (subst (In one.0) (sym one.1) (inl refl))).0 in
          subst (λ zs. Ascend (zs ++ flat_map (cleaned moment) bs)) (sym one.1) (
            (λ z i.
                let c = In_flat_map (cleaned moment) z bs i in
                subst (λ u. id_cmp one.0.id u ≡ Less) (sym (cleaned_about moment c.0 z c.2).0) (subst (λ u. id_cmp u c.0.id ≡ Less) (sym about) (h.0 c.0 c.1))),
            rest,
          )
    ]

flat_map_In : {X A : Type 0} (f : X → List A) (a : A) (x : X) (xs : List X) → In x xs → In a (f x) → In a (flat_map f xs)
flat_map_In f a x [] i j = absurd i
flat_map_In f a x (y ∷ ys) (inl e) j = In_left a (f y) (flat_map f ys) (subst (λ z. In a (f z)) (sym e) j)
flat_map_In f a x (y ∷ ys) (inr i) j = In_right a (f y) (flat_map f ys) (flat_map_In f a x ys i j)

-- a Checked transaction that has a content is cancelled
cleaned_checked : (moment : ℕ) (b : Transition) → b.new ≡ Checked → is_some b.content ≡ true → (y : Transition) × In y (cleaned moment b)
cleaned_checked moment b stood has = go b.content refl has
  where
    go : (k : Option Content) → b.content ≡ k → is_some k ≡ true → (y : Transition) × In y (cleaned moment b)
    go None e h = absurd (cc (h))
    go (Some k) e h =
        let row : log_row (known (Some b)) column.CleanUp ≡ Move Cancelled = ap (λ o. log_row o column.CleanUp) (known_status b k e ∙ ap (λ s. Stands s) stood) in
        (cleaned_to moment b Cancelled, subst (λ r. In (cleaned_to moment b Cancelled) (moved_by (cleaned_to moment b) r)) (sym row) (inl refl))

-- ---- which have expired

pub checked_newest : (xs : List Transition) (since : ℕ) (t : TransactionId) → is_checked_since xs since t ≡ true → (x : Transition) × (newest xs t ≡ Some x) × (x.new ≡ Checked) × (x.moment ≡ since)
checked_newest xs since t h = go (newest xs t) refl h
  where
    go : (o : Option Transition) → newest xs t ≡ o → option_map_or (λ (x : Transition). same_status x.new Checked && (x.moment == since)) o false ≡ true
        → (x : Transition) × (newest xs t ≡ Some x) × (x.new ≡ Checked) × (x.moment ≡ since)
    go None e n = absurd (cc (n))
    go (Some x) e y = let parts = and_parts (same_status x.new Checked) (x.moment == since) y in (x, e, status_of_same x.new Checked parts.0, eqb-true x.moment since parts.1)

newest_checked : (xs : List Transition) (x : Transition) (t : TransactionId) → newest xs t ≡ Some x → x.new ≡ Checked → is_checked_since xs x.moment t ≡ true
newest_checked xs x t is stood =
    ap (λ (o : Option Transition). option_map_or (λ (y : Transition). same_status y.new Checked && (y.moment == x.moment)) o false) is
    ∙ and_from (same_status x.new Checked) (x.moment == x.moment) (ap (λ s. same_status s Checked) stood) (eq-eqb x.moment x.moment refl)

module _ (scheme : Scheme) (es : List Entry) (made : Made scheme Itl es) (moment : ℕ) where
  abbrev xs : List Transition
  xs = transitions_of es

  abbrev old : List Transition
  old = filter (is_old moment) (newest_of_each xs)

  -- a transition of what has expired, and what it is of
  expired_of : (y : Transition) → In y (expired xs moment) → (b : Transition) × (newest xs b.id ≡ Some b) × (b.moment + clean_up_age ≤ moment) × In y (cleaned moment b)
  expired_of y i =
      let c = In_flat_map (cleaned moment) y (by_id old) i in
      let j = In_filter (is_old moment) (newest_of_each xs) c.0 (In_by_id c.0 old c.1) in
      (c.0, In_newest c.0 xs j.0, leb-true (c.0.moment + clean_up_age) moment j.1, c.2)

  pub has_expired : (y : Transition) → In y (expired xs moment) → HasExpired xs moment y.id
  has_expired y i =
      let b = expired_of y i in
      let made_of = cleaned_made scheme es moment b.0 y b.3 in
      (b.0.moment, subst (λ t. is_checked_since xs b.0.moment t ≡ true) (sym (cleaned_about moment b.0 y b.3).0) (newest_checked xs b.0 b.0.id b.1 made_of.2), b.2)

  in_expired : (t : TransactionId) → HasExpired xs moment t → In t (map (λ (x : Transition). x.id) (expired xs moment))
  in_expired t h =
      let x = checked_newest xs h.0 t h.1 in
      let about = (newest_id xs t x.0 x.1).1 in
      let here : newest xs x.0.id ≡ Some x.0 = ap (newest xs) about ∙ x.1 in
      let aged : x.0.moment + clean_up_age ≤ moment = subst (λ n. n + clean_up_age ≤ moment) (sym x.3) h.2 in
      let there = by_id_In x.0 old (filter_In (is_old moment) x.0 (newest_of_each xs) (newest_each x.0 xs here) (le-leb (x.0.moment + clean_up_age) moment aged)) in
      let p = proposer scheme es made t x.0 x.1 (λ e. let clashing : Checked ≡ Cancelled = sym x.2 ∙ e in cc (clashing)) in
      let y = cleaned_checked moment x.0 x.2 (ap is_some p.is) in
      subst (λ u. In u (map (λ (z : Transition). z.id) (expired xs moment))) ((cleaned_about moment x.0 y.0 y.1).0 ∙ about)
      (map_In (λ (z : Transition). z.id) y.0 (expired xs moment) (flat_map_In (cleaned moment) y.0 x.0 (by_id old) there y.1))

  ascend_expired : Pairwise (λ a b. id_cmp a b ≡ Less) (map (λ (x : Transition). x.id) (expired xs moment))
  ascend_expired = ascend_ids (expired xs moment) (ascend_cleaned moment (by_id old) (ascend_by_id old (differ_filter (is_old moment) (newest_of_each xs) (differ_newest xs))))

  -- the transactions that a clean-up cancels
  pub expired_so : (ids : List TransactionId) → Pairwise (λ a b. id_cmp a b ≡ Less) ids → ((t : TransactionId) → Contains ids t ↔ ((since : ℕ) × (is_checked_since (transitions_of es) since t ≡ true) × (since + clean_up_age ≤ moment)))
      → map (λ x. x.id) (expired (transitions_of es) moment) ≡ ids
  expired_so ids ascending are =
      one_order (λ a b. id_cmp a b ≡ Less) ids_total.trans ids_irreflexive (map (λ (x : Transition). x.id) (expired xs moment)) ids ascend_expired ascending
      (λ t has.
      let y = In_map (λ (x : Transition). x.id) t (expired xs moment) (In_contains (map (λ (x : Transition). x.id) (expired xs moment)) t has) in
      (are t).1 (subst (HasExpired xs moment) y.2 (has_expired y.0 y.1)))
      (λ t has. contains_in (map (λ (x : Transition). x.id) (expired xs moment)) t (in_expired t ((are t).0 has)))

  -- each of its transitions is a cancellation at its moment
  pub expired_cancelled : AllByRecursion (IsCancelledAt moment) (expired (transitions_of es) moment)
  expired_cancelled =
      all_from_in (IsCancelledAt moment) (expired xs moment)
      (λ y i.
      let b = expired_of y i in
      (sym (ap (λ (z : Transition). z.new) (cleaned_made scheme es moment b.0 y b.3).3), (cleaned_about moment b.0 y b.3).1))

  -- ---- the messages that it sends

  -- the messages that are sent for one transaction
  abbrev cancellations : TransactionId → List Message
  cancellations t = log_sends t (content_in (newest xs t)) [] column.CleanUp

  sent_of : (y : Transition) → In y (expired xs moment) → y.messages ≡ cancellations y.id
  sent_of y i =
      let b = expired_of y i in
      let about = cleaned_about moment b.0 y b.3 in
      about.2 ∙ ap (λ o. log_sends b.0.id (content_in o) [] column.CleanUp) (sym b.1) ∙ ap cancellations (sym about.0)

  sent_each : (ys : List Transition) → ((y : Transition) → In y ys → y.messages ≡ cancellations y.id) → messages_of ys ≡ flat_map cancellations (map (λ (x : Transition). x.id) ys)
  sent_each [] h = refl
  sent_each (y ∷ ys) h =
      let first = h y (inl refl) in
      let rest = sent_each ys (λ z i. h z (inr i)) in
      λ i. first i ++ rest i

  pub expired_messages : (ids : List TransactionId) → map (λ x. x.id) (expired (transitions_of es) moment) ≡ ids
      → messages_of (expired (transitions_of es) moment) ≡ flat_map (λ t. log_sends t (content_in (newest (transitions_of es) t)) [] column.CleanUp) ids
  expired_messages ids are = sent_each (expired xs moment) sent_of ∙ ap (flat_map cancellations) are
