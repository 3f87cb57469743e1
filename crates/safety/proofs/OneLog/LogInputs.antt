-- The log records for one input: nothing, one transition, or cancellations alone. And induction over its transitions. A
-- clean-up may cancel many transfers at once, and the induction over entries is not one over transitions.
-- `each_log_move` makes it one: it asks for a step for one transition, and for a step for a cancellation in front of
-- others of the same input.
use Rattle.std.proofs.Common.{◌≡◌, ℕ, List, [], ◌∷◌, ◌++◌, Bool, true, false, cond, ◌⊎◌, inl, inr, refl, sym, ap, subst, map}
use Rattle.std.specs.Prelude.{nat_le, length, filter, flat_map}
use Rattle.units.specs.RefusalCodes.{journal_full}
use Rattle.units.specs.declared.code.Node.TheVariants.{Itl}
use Rattle.status.specs.Rows.{log_row}
use Rattle.status.specs.declared.id.TransactionId.{TransactionId}
use Rattle.status.specs.declared.rows.Row.{Row}
use Rattle.status.specs.declared.rows.Row.TheVariants.{Move, Repeat, Late, Refused}
use Rattle.status.specs.declared.rows.RowInput.TheVariants.{Notified, Request}
use Rattle.status.specs.declared.status.Status.{Status}
use Rattle.status.specs.declared.status.Status.TheVariants.{Cancelled}
use Rattle.wire.specs.NotifiedStatuses.{notified_status}
use Rattle.wire.specs.declared.input.Input.{Input}
use Rattle.wire.specs.declared.input.Input.TheVariants.{Propose, Request as Ask, OpenAccount, CloseAccount, Ack, CleanUp, Eligible, Received}
use Rattle.wire.specs.declared.message.Body.{Body}
use Rattle.wire.specs.declared.message.Body.TheVariants as body
use Rattle.scheme.specs.declared.registries.Scheme.{Scheme}
use Rattle.protocol.specs.AtLog.{log_refusals, log_answer, newest_of_each, is_old, by_id, cleaned, expired, clean_up, same_bool, eligible_refusals, log_verdict}
use Rattle.protocol.specs.Checks.{Causes, codes_of}
use Rattle.protocol.specs.Deciding.{IsRecorded, IsRepeat, IsRefused, recorded_if_room, known, by_row, ack_refusals}
use Rattle.protocol.specs.History.{Transition, Entry, transitions_of, newest, is_acknowledged, is_eligible}
use Rattle.protocol.specs.Verdict.{verdict, transitions_made as made_of}
use Rattle.safety.proofs.MovesAndHistories.NewestTransitions.{Made, made_log}
use Rattle.safety.proofs.OneRegistry.UnitsCountedOnce.{Single, single_refuse, single_cond, none_enter, one_enters}
use Rattle.units.proofs.Lists.Membership.{In, In_flat_map}
use Rattle.safety.proofs.MovesAndHistories.TableMoves.{LogMove, NoneStands, cleaned_made}

-- no codes: no cause stands
pub none_stand : (cs : Causes) → codes_of cs ≡ [] → NoneStands cs
none_stand [] h = tt
none_stand (c ∷ cs) h = go c.0 (λ e. none_stand cs e) h
  where
    go : (b : Bool) → (codes_of cs ≡ [] → NoneStands cs) → map (λ (d : Bool × ℕ). d.1) (cond b (c ∷ filter (λ (d : Bool × ℕ). d.0) cs) (filter (λ (d : Bool × ℕ). d.0) cs)) ≡ [] → (b ≡ false) × NoneStands cs
    go true f e = absurd (cc (e))
    go false f e = (refl, f e)

-- ---- at the log

abbrev pub AllCancelled : List Transition → Type 0
AllCancelled xs = (x : Transition) → In x xs → x.new ≡ Cancelled

abbrev pub Shaped : List Transition → Type 0
Shaped xs = Single xs ⊎ AllCancelled xs

module _ (scheme : Scheme) (es : List Entry) where
  shape_row : (to : Status → Transition) (row : Row) → Single (made_of (by_row scheme es to row))
  shape_row to (Move new) = one_enters scheme es (to new)
  shape_row to Repeat = inl refl
  shape_row to Late = inl refl
  shape_row to Refused = inl refl

  shape_answer : (t : TransactionId) (b : Body) (moment : ℕ) → Single (made_of (log_answer scheme es moment t b))
  shape_answer t (body.Proposal p) moment = shape_row _ (log_row (known (newest (transitions_of es) t)) _)
  shape_answer t (body.Notification n) moment = shape_row _ (log_row (known (newest (transitions_of es) t)) (Notified (notified_status n)))
  shape_answer t body.Request moment = shape_row _ (log_row (known (newest (transitions_of es) t)) Request)

  all_cleaned : (moment : ℕ) (qs : List Transition) → AllCancelled (flat_map (cleaned moment) qs)
  all_cleaned moment qs x i = let g = In_flat_map (cleaned moment) x qs i in sym (ap (λ (z : Transition). z.new) (cleaned_made scheme es moment g.0 x g.2).3)

  shape_clean : (xs : List Transition) → AllCancelled xs → AllCancelled (made_of (clean_up scheme es xs))
  shape_clean [] all x i = absurd i
  shape_clean (q ∷ qs) all x i = go (nat_le scheme.records (length es)) i
    where
      go : (b : Bool) → In x (made_of (cond b (IsRefused journal_full) (IsRecorded (q ∷ qs)))) → x.new ≡ Cancelled
      go true i = absurd i
      go false i = all x i

  shape : (input : Input) → Shaped (made_of (log_verdict scheme es input))
  shape (CleanUp t) = inr (shape_clean (expired (transitions_of es) t.seconds) (all_cleaned t.seconds (by_id (filter (is_old t.seconds) (newest_of_each (transitions_of es))))))
  shape (Eligible c may) =
      inl
      (single_refuse (eligible_refusals scheme c) (cond (same_bool (is_eligible scheme es c) may) IsRepeat (recorded_if_room scheme es []))
      (single_cond (same_bool (is_eligible scheme es c) may) IsRepeat (recorded_if_room scheme es []) (inl refl) (none_enter scheme es)))
  shape (Ack n) =
      inl
      (single_refuse (ack_refusals es n.value) (cond (is_acknowledged es n.value) IsRepeat (recorded_if_room scheme es []))
      (single_cond (is_acknowledged es n.value) IsRepeat (recorded_if_room scheme es []) (inl refl) (none_enter scheme es)))
  shape (Received m t) = inl (single_refuse (log_refusals scheme es m) (log_answer scheme es t.seconds m.id m.body) (shape_answer m.id m.body t.seconds))
  shape (Propose o) = inl (inl refl)
  shape (Ask t) = inl (inl refl)
  shape (OpenAccount n) = inl (inl refl)
  shape (CloseAccount n) = inl (inl refl)

made_shape : (scheme : Scheme) (e : Entry) (es : List Entry) → Made scheme Itl (e ∷ es) → Shaped e.transitions
unfolding verdict
made_shape scheme e es transitions_made = subst Shaped (sym transitions_made.0) (shape scheme es e.input)

module _ (scheme : Scheme) where
  -- what each transition keeps, given the older ones, holds of all
  module _ (P : List Transition → Type 0) (none : P [])
      (one : (es : List Entry) (input : Input) (x : Transition) → Made scheme Itl es → LogMove scheme es input x → P (transitions_of es) → P (x ∷ transitions_of es))
      (more : (es : List Entry) (input : Input) (x : Transition) (front : List Transition) → Made scheme Itl es → LogMove scheme es input x → x.new ≡ Cancelled → AllCancelled front → P (transitions_of es)
      → P (front ++ transitions_of es) → P (x ∷ front ++ transitions_of es)) where
    all_cancelled : (es : List Entry) (input : Input) (xs : List Transition) → Made scheme Itl es → ((x : Transition) → In x xs → LogMove scheme es input x) → AllCancelled xs → P (transitions_of es)
        → P (xs ++ transitions_of es)
    all_cancelled es input [] transitions_made move all old = old
    all_cancelled es input (x ∷ xs) transitions_made move all old =
        more es input x xs transitions_made (move x (inl refl)) (all x (inl refl)) (λ q i. all q (inr i)) old (all_cancelled es input xs transitions_made (λ q i. move q (inr i)) (λ q i. all q (inr i)) old)

    pub each_log_move : (es : List Entry) → Made scheme Itl es → P (transitions_of es)
    each_log_move [] transitions_made = none
    each_log_move (e ∷ es) transitions_made =
        elim (made_shape scheme e es transitions_made) [
          | inl s ↦
              elim s [
                | inl z ↦ subst (λ xs. P (xs ++ transitions_of es)) (sym z) (each_log_move es transitions_made.1)
                | inr z ↦
                    subst (λ xs. P (xs ++ transitions_of es)) (sym z.1)
                    (one es e.input z.0 transitions_made.1 (made_log scheme e es z.0 transitions_made (subst (λ xs. In z.0 xs) (sym z.1) (inl refl))) (each_log_move es transitions_made.1))
              ]
          | inr all ↦ all_cancelled es e.input e.transitions transitions_made.1 (λ x i. made_log scheme e es x transitions_made i) all (each_log_move es transitions_made.1)
        ]
