-- The log by itself, for all messages: the owners of units in its book, and the transfers that are under way.
-- The invariant `InBook` is about one unit: a transfer of it that is under way was proposed by the unit's owner, at
-- most one is under way, and for each registry the book's moves to it and from it make up whether the registry is the
-- owner. A check without findings puts a transfer under way, and a completion moves the unit; all other moves leave
-- the unit alone (`still`). That ended transfers stay as they are follows from the log's table.
use Rattle.std.specs.List.{count_by}
use Rattle.std.proofs.Common.{◌≡◌, ℕ, ◌+◌, List, [], ◌∷◌, ◌++◌, Bool, true, false, cond, Option, Some, None, ◌⊎◌, inl, inr, refl, sym, ap, subst, ◌∙◌, arith}
use Rattle.std.specs.Prelude.{◌&&◌, ◌||◌, option_map, is_none}
use Rattle.std.proofs.Math.Bool.{and-true}
use Rattle.std.proofs.lemmas.Bool.{and_from, and_left, and_right, not-false, cond-true, cond-false, cases_Bool}
use Rattle.units.proofs.Same.{code_of_same}
use Rattle.units.specs.Code.{same_code}
use Rattle.units.specs.declared.block.Unit.{Unit as Serial}
use Rattle.units.specs.declared.code.Code.{Code}
use Rattle.units.specs.declared.code.Node.TheVariants.{Itl}
use Rattle.status.proofs.Ids.{id_of_same, same_id-refl}
use Rattle.status.specs.Content.{Content}
use Rattle.status.specs.Id.{same_id}
use Rattle.status.specs.Status.{same_status}
use Rattle.status.specs.declared.id.TransactionId.{TransactionId}
use Rattle.status.specs.declared.status.Status.{Status}
use Rattle.status.specs.declared.status.Status.TheVariants.{Proposed, Checked, Accepted, Rejected, Terminated, Cancelled, Completed}
use Rattle.wire.specs.NotifiedStatuses.{notified_status}
use Rattle.wire.specs.declared.input.Input.{Input}
use Rattle.scheme.specs.declared.members.Holder.{Holder}
use Rattle.scheme.specs.declared.registries.Scheme.{Scheme}
use Rattle.protocol.specs.AtLog.{ledger}
use Rattle.protocol.specs.Checks.{is_owner, is_of_another, log_causes, log_findings}
use Rattle.protocol.specs.Claims.{IsEnd, IsUnderWay, EndsStay, UnderWayApart, OwnedByInitiator}
use Rattle.protocol.specs.Effects.{notifies}
use Rattle.protocol.specs.History.{Transition, Entry, transitions_of, newest, stands, stands_at, is_status, has_serial, carries, gives, at_start, is_with, book_owner, busy}
use Rattle.protocol.specs.Pieces.{Piece, pieces}
use Rattle.protocol.specs.Registries.{allotted}
use Rattle.protocol.specs.Verdict.{verdict, transitions_made as made_of, extend, history_from, history}
use Rattle.safety.specs.Trust.{brings, brings_to}
use Rattle.safety.proofs.MovesAndHistories.TransitionForms.{checked, told_to, moved}
use Rattle.units.proofs.Lists.NoRepeats.{NoRepeat}
use Rattle.units.proofs.Lists.SomePass.{list_any_none, list_any_in}
use Rattle.protocol.proofs.CountsInLists.{picked, In_picked, count_no, count_yes}
use Rattle.protocol.proofs.Histories.{history_from_append}
use Rattle.safety.proofs.MovesAndHistories.LongerHistories.{made_history}
use Rattle.safety.proofs.MovesAndHistories.NewestTransitions.{Made, made_log, newest_id, newest_append, newest_stands}
use Rattle.safety.proofs.OneRegistry.UnitsCountedOnce.{newest_cons}
use Rattle.safety.proofs.OneLog.LogInputs.{AllCancelled, each_log_move, none_stand}
use Rattle.units.proofs.Lists.Membership.{In, In_cases}
use Rattle.safety.proofs.MovesAndHistories.TableMoves.{LogMove, checks, passes, cancels, forestalls, log_moves}
use Rattle.safety.proofs.OneRegistry.TransactionEnds.{proposer, checked_open}
use Rattle.units.proofs.Lists.Positions.{In_contains}
use Rattle.safety.proofs.MovesAndHistories.TableRows.{log_from}
use Rattle.protocol.proofs.UnitsOfBlocks.{piece_of}

abbrev pub IsBusy : Status → Type 0
IsBusy Checked = Unit {0}
IsBusy Accepted = Unit {0}
IsBusy _ = ⊥

-- a transfer of the unit that the log has under way
pub record Busy (s : Serial) (xs : List Transition) (t : TransactionId) : Type 0 where
  pub last : Transition
  pub is : newest xs t ≡ Some last
  pub new : IsBusy last.new
  pub has : carries last s ≡ true

-- the book has a unit under way with its initiator, it is under way once, and the book's owner is who it was brought
-- to and not moved away from
pub record InBook (scheme : Scheme) (s : Serial) (xs : List Transition) : Type 0 where
  pub owner : (t : TransactionId) → Busy s xs t → book_owner scheme xs s ≡ Some t.code
  pub one : (t u : TransactionId) → Busy s xs t → Busy s xs u → t ≡ u
  pub counts : (c : Code) → at_start scheme c s + count_by (brings c s) xs ≡ count_by (gives c s) xs + cond (is_owner (book_owner scheme xs s) c) 1 0

one_more : (p : Transition → Bool) (x : Transition) (xs : List Transition) (b : Bool) → p x ≡ b → count_by p (x ∷ xs) ≡ cond b 1 0 + count_by p xs
one_more p x xs true e = let u = count_yes p x xs e in omega arith
one_more p x xs false e = let u = count_no p x xs e in omega arith

without_middle : (a b c : Bool) → (a && c) ≡ false → (a && (b && c)) ≡ false
without_middle true true c h = h
without_middle true false c h = refl
without_middle false b c h = refl

pub test_busy : (st : Status) → IsBusy st → (same_status st Checked || same_status st Accepted) ≡ true
test_busy Checked h = refl
test_busy Accepted h = refl
test_busy Proposed h = absurd h
test_busy Rejected h = absurd h
test_busy Terminated h = absurd h
test_busy Cancelled h = absurd h
test_busy Completed h = absurd h

with_initiator : (a : Option Holder) (o : Option Code) (c : Code) → is_none a ≡ false → is_of_another a o c ≡ false → is_owner o c ≡ true
with_initiator None o c h g = absurd (cc (h))
with_initiator (Some holder) o c h g = not-false (is_owner o c) g

pub owner_is : (o : Option Code) (c : Code) → is_owner o c ≡ true → o ≡ Some c
owner_is None c h = absurd (cc (h))
owner_is (Some d) c h = ap Some (code_of_same d c h)

start_count : (o : Option Holder) (c : Code) → cond (is_with c o) 1 0 + 0 ≡ 0 + cond (is_owner (option_map (λ (h : Holder). h.registry) o) c) 1 0
start_count None c = refl
start_count (Some h) c = omega arith

module _ (scheme : Scheme) (s : Serial) where
  busy_older : (x : Transition) (xs : List Transition) (t : TransactionId) → (IsBusy x.new → ⊥) → Busy s (x ∷ xs) t → Busy s xs t × (same_id x.id t ≡ false)
  busy_older x xs t other b =
      elim (newest_cons x xs t b.last b.is) [
        | inl e ↦ absurd (other (subst (λ (z : Transition). IsBusy z.new) (sym e.0) b.new))
        | inr e ↦ (record { last = b.last; is = e.0; new = b.new; has = b.has }, e.1)
      ]

  book_same : (x : Transition) (xs : List Transition) → (same_status x.new Completed && carries x s) ≡ false → book_owner scheme (x ∷ xs) s ≡ book_owner scheme xs s
  book_same x xs n = cond-false (same_status x.new Completed && carries x s) (option_map (λ (k : Content). k.acquirer) x.content) (book_owner scheme xs s) n

  counts_same : (x : Transition) (xs : List Transition) (c : Code) → (same_status x.new Completed && carries x s) ≡ false
      → at_start scheme c s + count_by (brings c s) xs ≡ count_by (gives c s) xs + cond (is_owner (book_owner scheme xs s) c) 1 0
      → at_start scheme c s + count_by (brings c s) (x ∷ xs) ≡ count_by (gives c s) (x ∷ xs) + cond (is_owner (book_owner scheme (x ∷ xs) s) c) 1 0
  counts_same x xs c n old =
      let i = count_no (brings c s) x xs (without_middle (same_status x.new Completed) (brings_to x.content c) (carries x s) n) in
      let o = count_no (gives c s) x xs (without_middle (same_status x.new Completed) (same_code x.id.code c) (carries x s) n) in
      let b : cond {A = ℕ} (is_owner (book_owner scheme (x ∷ xs) s) c) 1 0 ≡ cond (is_owner (book_owner scheme xs s) c) 1 0 = ap (λ (z : Option Code). cond {A = ℕ} (is_owner z c) 1 0) (book_same x xs n) in
      omega arith

  -- a transition that completes nothing, and puts nothing under way that was not
  still : (x : Transition) (xs : List Transition) → (same_status x.new Completed && carries x s) ≡ false → ((t : TransactionId) → Busy s (x ∷ xs) t → Busy s xs t) → InBook scheme s xs → InBook scheme s (x ∷ xs)
  still x xs n older old =
      record {
        owner = λ t b. book_same x xs n ∙ old.owner t (older t b);
        one = λ t u a b. old.one t u (older t a) (older u b);
        counts = λ c. counts_same x xs c n (old.counts c);
      }

  busy_waits : (xs : List Transition) (t : TransactionId) → Busy s xs t → busy xs s ≡ true
  busy_waits xs t b =
      let id = newest_id xs t b.last b.is in
      list_any_in (λ (x : Transition). (stands_at xs x.id Checked || stands_at xs x.id Accepted) && carries x s) xs b.last id.0
      (and_from (stands_at xs b.last.id Checked || stands_at xs b.last.id Accepted) (carries b.last s)
      (subst (λ z. (stands_at xs z Checked || stands_at xs z Accepted) ≡ true) (sym id.1)
      (subst (λ o. (is_status (option_map (λ (x : Transition). x.new) o) Checked || is_status (option_map (λ (x : Transition). x.new) o) Accepted) ≡ true) (sym b.is) (test_busy b.last.new b.new)))
      b.has)

  never_busy : {X : Type 0} (xs : List Transition) (t : TransactionId) → busy xs s ≡ false → Busy s xs t → X
  never_busy xs t none b = let e : true ≡ false = sym (busy_waits xs t b) ∙ none in absurd (cc (e))

  -- a check without findings
  found_free : (es : List Entry) (x : Transition) → x.new ≡ Checked → InBook scheme s (transitions_of es)
      → (carries x s ≡ true → (book_owner scheme (transitions_of es) s ≡ Some x.id.code) × (busy (transitions_of es) s ≡ false)) → InBook scheme s (x ∷ transitions_of es)
  found_free es x new old free =
      let n : (same_status x.new Completed && carries x s) ≡ false = and_left (same_status x.new Completed) (carries x s) (subst (λ z. same_status z Completed ≡ false) (sym new) refl) in
      record {
        owner = λ t b. elim (newest_cons x (transitions_of es) t b.last b.is) [
          | inl e ↦ book_same x (transitions_of es) n ∙ (free (subst (λ (z : Transition). carries z s ≡ true) (sym e.0) b.has)).0 ∙ ap (λ (z : TransactionId). Some z.code) e.1
          | inr e ↦ book_same x (transitions_of es) n ∙ old.owner t (record { last = b.last; is = e.0; new = b.new; has = b.has })
        ];
        one = λ t u a b. elim (newest_cons x (transitions_of es) t a.last a.is) [
          | inl e ↦
              elim (newest_cons x (transitions_of es) u b.last b.is) [
                | inl g ↦ sym e.1 ∙ g.1
                | inr g ↦ never_busy (transitions_of es) u (free (subst (λ (z : Transition). carries z s ≡ true) (sym e.0) a.has)).1 (record { last = b.last; is = g.0; new = b.new; has = b.has })
              ]
          | inr e ↦
              elim (newest_cons x (transitions_of es) u b.last b.is) [
                | inl g ↦ never_busy (transitions_of es) t (free (subst (λ (z : Transition). carries z s ≡ true) (sym g.0) b.has)).1 (record { last = a.last; is = e.0; new = a.new; has = a.has })
                | inr g ↦ old.one t u (record { last = a.last; is = e.0; new = a.new; has = a.has }) (record { last = b.last; is = g.0; new = b.new; has = b.has })
              ]
        ];
        counts = λ c. counts_same x (transitions_of es) c n (old.counts c);
      }

  -- the counts where the book moves the unit
  moved_counts : (xs : List Transition) (d : Code) (x : Transition) (k : Content) (c : Code) → x.new ≡ Completed → x.id.code ≡ d → x.content ≡ Some k → carries x s ≡ true → book_owner scheme xs s ≡ Some d
      → book_owner scheme (x ∷ xs) s ≡ Some k.acquirer → at_start scheme c s + count_by (brings c s) xs ≡ count_by (gives c s) xs + cond (is_owner (book_owner scheme xs s) c) 1 0
      → at_start scheme c s + count_by (brings c s) (x ∷ xs) ≡ count_by (gives c s) (x ∷ xs) + cond (is_owner (book_owner scheme (x ∷ xs) s) c) 1 0
  moved_counts xs d x k c done same is has before after old =
      let done' : same_status x.new Completed ≡ true = subst (λ z. same_status z Completed ≡ true) (sym done) refl in
      let i : count_by (brings c s) (x ∷ xs) ≡ cond (same_code k.acquirer c) 1 0 + count_by (brings c s) xs =
      one_more (brings c s) x xs (same_code k.acquirer c)
      (ap (λ z. z && (brings_to x.content c && carries x s)) done' ∙ ap (λ z. brings_to z c && carries x s) is ∙ ap (λ z. same_code k.acquirer c && z) has ∙ and-true (same_code k.acquirer c)) in
      let o : count_by (gives c s) (x ∷ xs) ≡ cond (same_code d c) 1 0 + count_by (gives c s) xs =
      one_more (gives c s) x xs (same_code d c)
      (ap (λ z. z && (same_code x.id.code c && carries x s)) done' ∙ ap (λ z. same_code z c && carries x s) same ∙ ap (λ z. same_code d c && z) has ∙ and-true (same_code d c)) in
      let u : cond {A = ℕ} (is_owner (book_owner scheme xs s) c) 1 0 ≡ cond (same_code d c) 1 0 = ap (λ (z : Option Code). cond {A = ℕ} (is_owner z c) 1 0) before in
      let v : cond {A = ℕ} (is_owner (book_owner scheme (x ∷ xs) s) c) 1 0 ≡ cond (same_code k.acquirer c) 1 0 = ap (λ (z : Option Code). cond {A = ℕ} (is_owner z c) 1 0) after in
      omega arith

  -- the book moves the unit
  booked : (es : List Entry) (q x : Transition) (k : Content) → x.new ≡ Completed → x.id ≡ q.id → x.content ≡ q.content → x.content ≡ Some k → carries x s ≡ true → newest (transitions_of es) q.id ≡ Some q → IsBusy q.new
      → InBook scheme s (transitions_of es) → InBook scheme s (x ∷ transitions_of es)
  booked es q x k done same contents is has was was_busy old =
      let done' : same_status x.new Completed ≡ true = subst (λ z. same_status z Completed ≡ true) (sym done) refl in
      let b0 : Busy s (transitions_of es) q.id = record { last = q; is = was; new = was_busy; has = subst (λ z. has_serial z s ≡ true) contents has } in
      let before = old.owner q.id b0 in
      let after : book_owner scheme (x ∷ transitions_of es) s ≡ Some k.acquirer =
      cond-true (same_status x.new Completed && carries x s) (option_map (λ (k : Content). k.acquirer) x.content) (book_owner scheme (transitions_of es) s)
      (and_from (same_status x.new Completed) (carries x s) done' has)
      ∙ ap (option_map (λ (k : Content). k.acquirer)) is in
      let other : IsBusy x.new → ⊥ = λ h. subst IsBusy done h in
      record {
        owner = λ t b.
            let o = busy_older x (transitions_of es) t other b in
            let e = old.one q.id t b0 o.0 in
            let y : same_id x.id t ≡ true = subst (λ z. same_id x.id z ≡ true) (same ∙ e) (same_id-refl x.id) in
            let clash : true ≡ false = sym y ∙ o.1 in
            absurd (cc (clash));
        one = λ t u a b. old.one t u (busy_older x (transitions_of es) t other a).0 (busy_older x (transitions_of es) u other b).0;
        counts = λ c. moved_counts (transitions_of es) q.id.code x k c done (ap (λ (z : TransactionId). z.code) same) is has before after (old.counts c);
      }

  quiet : (x : Transition) (xs : List Transition) → same_status x.new Completed ≡ false → (IsBusy x.new → ⊥) → InBook scheme s xs → InBook scheme s (x ∷ xs)
  quiet x xs n other old = still x xs (and_left (same_status x.new Completed) (carries x s) n) (λ t b. (busy_older x xs t other b).0) old

  checked_move : (es : List Entry) (t : TransactionId) (k : Content) (moment : ℕ) (found : List ℕ) → found ≡ log_findings scheme (ledger scheme es) t.code k → InBook scheme s (transitions_of es)
      → InBook scheme s (checked t k moment found ∷ transitions_of es)
  checked_move es t k moment [] is old =
      let none = none_stand (log_causes scheme (ledger scheme es) t.code k) (sym is) in
      found_free es (checked t k moment []) refl old (λ h.
      let p = piece_of k.units s h in
      let in_scheme = list_any_none (λ (q : Piece). is_none (allotted scheme q.unit)) (pieces k.units) p.0 none.1.1.0 p.1 in
      let own = list_any_none (λ (q : Piece). is_of_another (allotted scheme q.unit) (book_owner scheme (transitions_of es) q.unit) t.code) (pieces k.units) p.0 none.1.1.1.0 p.1 in
      let mine = with_initiator (allotted scheme p.0.unit) (book_owner scheme (transitions_of es) p.0.unit) t.code in_scheme own in (
        subst (λ z. book_owner scheme (transitions_of es) z ≡ Some t.code) p.2 (owner_is (book_owner scheme (transitions_of es) p.0.unit) t.code mine),
        subst (λ z. busy (transitions_of es) z ≡ false) p.2 (list_any_none (λ (q : Piece). busy (transitions_of es) q.unit) (pieces k.units) p.0 none.1.1.1.1.0 p.1),
      ))
  checked_move es t k moment (c ∷ cs) is old = quiet (checked t k moment (c ∷ cs)) (transitions_of es) refl (λ h. h) old

  passed_move : (es : List Entry) (told : Status) (q x : Transition) → Made scheme Itl es → newest (transitions_of es) q.id ≡ Some q → x.id ≡ q.id → x.content ≡ q.content
      → ((q.new ≡ Checked) × (x.new ≡ told) × ((told ≡ Accepted) ⊎ (told ≡ Rejected))) ⊎ ((q.new ≡ Accepted) × (x.new ≡ Completed) × (told ≡ Completed)) → InBook scheme s (transitions_of es)
      → InBook scheme s (x ∷ transitions_of es)
  passed_move es told q x transitions_made was same contents (inl m) old =
      elim m.2 [
        | inl a ↦
            still x (transitions_of es) (and_left (same_status x.new Completed) (carries x s) (subst (λ z. same_status z Completed ≡ false) (sym (m.1 ∙ a)) refl))
            (λ t b. elim (newest_cons x (transitions_of es) t b.last b.is) [
              | inl e ↦
                  record {
                    last = q;
                    is = subst (λ z. newest (transitions_of es) z ≡ Some q) (sym same ∙ e.1) was;
                    new = subst IsBusy (sym m.0) tt;
                    has = subst (λ k. has_serial k s ≡ true) (sym (ap (λ (z : Transition). z.content) e.0) ∙ contents) b.has;
                  }
              | inr e ↦ record { last = b.last; is = e.0; new = b.new; has = b.has }
            ])
            old
        | inr a ↦ quiet x (transitions_of es) (subst (λ z. same_status z Completed ≡ false) (sym (m.1 ∙ a)) refl) (λ h. subst IsBusy (m.1 ∙ a) h) old
      ]
  passed_move es told q x transitions_made was same contents (inr m) old =
      let p = proposer scheme es transitions_made q.id q was (λ e. let y : Accepted ≡ Cancelled = sym m.0 ∙ e in cc (y)) in
      elim (cases_Bool (carries x s)) [
        | inl y ↦ booked es q x p.content m.1 same contents (contents ∙ p.is) y was (subst IsBusy (sym m.0) tt) old
        | inr n ↦ still x (transitions_of es) (and_right (same_status x.new Completed) (carries x s) n) (λ t b. (busy_older x (transitions_of es) t (λ h. subst IsBusy m.1 h) b).0) old
      ]

  book_move : (es : List Entry) (input : Input) (x : Transition) → Made scheme Itl es → LogMove scheme es input x → InBook scheme s (transitions_of es) → InBook scheme s (x ∷ transitions_of es)
  book_move es input x transitions_made (checks p moment found f st is none member) old = checked_move es p.id p.content moment.seconds found is old
  book_move es input x transitions_made (passes n moment q held new was kept member right move) old =
      passed_move es (notified_status n.notified) q (moved q new moment.seconds (notifies Itl (told_to q.id held new) q.id n.notified ∷ [])) transitions_made
      (subst (λ z. newest (transitions_of es) z ≡ Some q) (sym (newest_id (transitions_of es) n.id q was).1) was) refl refl (log_from q.new (notified_status n.notified) new move) old
  book_move es input x transitions_made (forestalls r moment f member none) old = quiet x (transitions_of es) refl (λ h. h) old
  book_move es input x transitions_made (cancels given moment t q held why was kept stood) old = quiet x (transitions_of es) refl (λ h. h) old

  pub in_book : (es : List Entry) → Made scheme Itl es → InBook scheme s (transitions_of es)
  in_book =
      each_log_move scheme (InBook scheme s)
      (record {
        owner = λ t b. let e = b.is in absurd (cc (e));
        one = λ t u a b. let e = a.is in absurd (cc (e));
        counts = λ c. start_count (allotted scheme s) c;
      })
      book_move
      (λ es input x front transitions_made move gone all old new. quiet x (front ++ transitions_of es) (subst (λ z. same_status z Completed ≡ false) (sym gone) refl) (λ h. subst IsBusy gone h) new)

-- ---- what has ended stays

pub end_not_busy : (s : Status) → IsEnd s → IsBusy s → ⊥
end_not_busy Rejected e b = b
end_not_busy Terminated e b = b
end_not_busy Cancelled e b = b
end_not_busy Completed e b = b
end_not_busy Proposed e b = e
end_not_busy Checked e b = e
end_not_busy Accepted e b = e

module _ (scheme : Scheme) where
  -- a transition of the log moves a transfer that is under way
  pub log_live : (es : List Entry) (input : Input) (x y : Transition) → LogMove scheme es input x → newest (transitions_of es) x.id ≡ Some y → IsBusy y.new
  log_live es input x y (checks p moment found f s is none member) h = let e = sym none ∙ h in absurd (cc (e))
  log_live es input x y (passes n moment q held new was kept member right move) h =
      let w : newest (transitions_of es) q.id ≡ Some q = subst (λ z. newest (transitions_of es) z ≡ Some q) (sym (newest_id (transitions_of es) n.id q was).1) was in
      let e = sym w ∙ h in
      let same : q ≡ y = cc (e) in
      elim (log_from q.new (notified_status n.notified) new move) [
        | inl m ↦ subst (λ (z : Transition). IsBusy z.new) same (subst IsBusy (sym m.0) tt)
        | inr m ↦ subst (λ (z : Transition). IsBusy z.new) same (subst IsBusy (sym m.0) tt)
      ]
  log_live es input x y (forestalls r moment f member none) h = let e = sym none ∙ h in absurd (cc (e))
  log_live es input x y (cancels given moment t q held why was kept stood) h =
      let w : newest (transitions_of es) q.id ≡ Some q = subst (λ z. newest (transitions_of es) z ≡ Some q) (sym (newest_id (transitions_of es) t q was).1) was in
      let e = sym w ∙ h in
      let same : q ≡ y = cc (e) in
      subst (λ (z : Transition). IsBusy z.new) same (subst IsBusy (sym stood) tt)

  end_stays : (es : List Entry) (more : List Input) (t : TransactionId) (x : Transition) → Made scheme Itl es → IsEnd x.new → newest (transitions_of es) t ≡ Some x
      → newest (transitions_of (history_from scheme Itl es more)) t ≡ Some x
  end_stays es [] t x transitions_made end h = h
  end_stays es (i ∷ is) t x transitions_made end h =
      end_stays (extend scheme Itl es i) is t x (refl, transitions_made) end
      (elim (newest_append (made_of (verdict scheme Itl es i)) (transitions_of es) t) [
        | inl u ↦ u ∙ h
        | inr u ↦
            absurd (end_not_busy x.new end
            (log_live es i u.0 x (made_log scheme (record { input = i; transitions = made_of (verdict scheme Itl es i) }) es u.0 (refl, transitions_made) u.1)
            (subst (λ z. newest (transitions_of es) z ≡ Some x) (sym u.2) h)))
      ])

  pub ends_stay : EndsStay scheme
  ends_stay journal more t s end h =
      let es = history scheme Itl journal in
      let g = newest_stands (transitions_of es) t s (newest (transitions_of es) t) refl h in
      let k = end_stays es more t g.0 (made_history scheme Itl journal) (subst IsEnd (sym g.2) end) g.1 in
      subst (λ (es : List Entry). stands (transitions_of es) t ≡ Some s) (sym (history_from_append scheme Itl [] journal more)) (ap (option_map (λ (x : Transition). x.new)) k ∙ ap Some g.2)

  -- ---- what is under way is apart

  busy_from : (s : Status) → IsUnderWay s → IsBusy s
  busy_from s (inl e) = subst IsBusy (sym e) tt
  busy_from s (inr e) = subst IsBusy (sym e) tt

  pub under_way_apart : UnderWayApart scheme
  under_way_apart journal s t u x y h k a b c d =
      (in_book scheme s (history scheme Itl journal) (made_history scheme Itl journal)).one t u (record { last = x; is = h; new = busy_from x.new a; has = c })
      (record { last = y; is = k; new = busy_from y.new b; has = d })

  -- ---- what is completed was the initiator's

  completed_owned : (es : List Entry) (input : Input) (x : Transition) → Made scheme Itl es → LogMove scheme es input x → x.new ≡ Completed → (s : Serial) → carries x s ≡ true
      → book_owner scheme (transitions_of es) s ≡ Some x.id.code
  completed_owned es input x transitions_made (checks p moment found f st is none member) done s has = absurd (checked_open found done)
  completed_owned es input x transitions_made (passes n moment q held new was kept member right move) done s has =
      let w : newest (transitions_of es) q.id ≡ Some q = subst (λ z. newest (transitions_of es) z ≡ Some q) (sym (newest_id (transitions_of es) n.id q was).1) was in
      (in_book scheme s es transitions_made).owner q.id (record { last = q; is = w; new = log_live es input x q (passes n moment q held new was kept member right move) w; has = has })
  completed_owned es input x transitions_made (forestalls r moment f member none) done s has = absurd (let y : Cancelled ≡ Completed = done in cc (y))
  completed_owned es input x transitions_made (cancels given moment t q held why was kept stood) done s has = absurd (let y : Cancelled ≡ Completed = done in cc (y))

  pub owned_by_initiator : OwnedByInitiator scheme
  unfolding verdict
  owned_by_initiator journal input xs h x i done s has =
      let es = history scheme Itl journal in
      let j : In x xs = In_contains xs x i in
      completed_owned es input x (made_history scheme Itl journal) (log_moves scheme es input x (subst (λ v. In x (made_of v)) (sym h) j)) done s has

-- ---- a completed transition of the log is the last of its transaction

module _ (scheme : Scheme) where
  abbrev LogEnds : List Transition → Type 0
  LogEnds xs = (x : Transition) → In x xs → x.new ≡ Completed → newest xs x.id ≡ Some x

  log_alive : (es : List Entry) (input : Input) (x y : Transition) → LogMove scheme es input x → newest (transitions_of es) x.id ≡ Some y → y.new ≡ Completed → ⊥
  log_alive es input x y move h done = subst IsBusy done (log_live scheme es input x y move h)

  ends_more : (es : List Entry) (input : Input) (x : Transition) (front : List Transition) → LogMove scheme es input x → AllCancelled front → LogEnds (transitions_of es) → LogEnds (front ++ transitions_of es)
      → LogEnds (x ∷ front ++ transitions_of es)
  ends_more es input x front move all old new y (inl e) done =
      subst (λ (z : Transition). newest (x ∷ front ++ transitions_of es) z.id ≡ Some z) e (cond-true (same_id x.id x.id) (Some x) (newest (front ++ transitions_of es) x.id) (same_id-refl x.id))
  ends_more es input x front move all old new y (inr j) done =
      elim (cases_Bool (same_id x.id y.id)) [
        | inl same ↦
            absurd (elim (In_cases y front (transitions_of es) j) [
              | inl i ↦ let z : Cancelled ≡ Completed = sym (all y i) ∙ done in cc (z)
              | inr i ↦ log_alive es input x y move (subst (λ z. newest (transitions_of es) z ≡ Some y) (sym (id_of_same x.id y.id same)) (old y i done)) done
            ])
        | inr n ↦ cond-false (same_id x.id y.id) (Some x) (newest (front ++ transitions_of es) y.id) n ∙ new y j done
      ]

  pub log_ends_last : (es : List Entry) → Made scheme Itl es → LogEnds (transitions_of es)
  log_ends_last =
      each_log_move scheme LogEnds (λ x i done. absurd i) (λ es input x transitions_made move old. ends_more es input x [] move (λ q i. absurd i) old old)
      (λ es input x front transitions_made move gone all old new. ends_more es input x front move all old new)

  once_more : (p : Transition → Bool) → ((x : Transition) → p x ≡ true → x.new ≡ Completed) → (es : List Entry) (input : Input) (x : Transition) (front : List Transition) → Made scheme Itl es → LogMove scheme es input x
      → AllCancelled front → NoRepeat (picked p (front ++ transitions_of es)) → (b : Bool) → NoRepeat (cond b (x.id ∷ picked p (front ++ transitions_of es)) (picked p (front ++ transitions_of es)))
  once_more p done es input x front transitions_made move all new true = (
    (λ h.
        let q = In_picked p (front ++ transitions_of es) x.id h in
        elim (In_cases q.0 front (transitions_of es) q.1) [
          | inl i ↦ let z : Cancelled ≡ Completed = sym (all q.0 i) ∙ done q.0 q.2 in cc (z)
          | inr i ↦ log_alive es input x q.0 move (subst (λ z. newest (transitions_of es) z ≡ Some q.0) q.3 (log_ends_last es transitions_made q.0 i (done q.0 q.2))) (done q.0 q.2)
        ]),
    new,
  )
  once_more p done es input x front transitions_made move all new false = new

  pub log_picked_once : (p : Transition → Bool) → ((x : Transition) → p x ≡ true → x.new ≡ Completed) → (es : List Entry) → Made scheme Itl es → NoRepeat (picked p (transitions_of es))
  log_picked_once p done =
      each_log_move scheme (λ xs. NoRepeat (picked p xs)) tt (λ es input x transitions_made move old. once_more p done es input x [] transitions_made move (λ q i. absurd i) old (p x))
      (λ es input x front transitions_made move gone all old new. once_more p done es input x front transitions_made move all new (p x))
