-- The transfer that a unit is in: it is the one that stands Checked or Accepted with the unit, and there is one at
-- most.
use Rattle.std.proofs.Common.{Bool, List, None, Option, Some, ap, refl, subst, sym, true, ◌∙◌, ◌≡◌, ◌||◌}
use Rattle.std.specs.Prelude.{find, is_some, option_map}
use Rattle.std.proofs.lemmas.Bool.{and_from, and_parts}
use Rattle.units.specs.declared.block.Unit.{Unit as Serial}
use Rattle.units.specs.declared.code.Node.TheVariants.{Itl}
use Rattle.status.specs.Status.{same_status}
use Rattle.status.specs.declared.id.TransactionId.{TransactionId}
use Rattle.status.specs.declared.status.Status.{Status}
use Rattle.status.specs.declared.status.Status.TheVariants.{Accepted, Cancelled, Checked, Completed, Proposed, Rejected, Terminated}
use Rattle.scheme.specs.declared.registries.Scheme.{Scheme}
use Rattle.checks.specs.declared.register.UnderWay.{UnderWay}
use Rattle.protocol.specs.History.{Entry, Transition, carries, has_serial, is_status, newest, transitions_of}
use Rattle.units.proofs.Lists.Membership.{In, In_find}
use Rattle.units.proofs.Lists.SomePass.{list_any_in}
use Rattle.safety.proofs.ListLemmas.FirstFound.{any_found, mapped, some_is}
use Rattle.safety.proofs.MovesAndHistories.NewestTransitions.{Made, newest_id}
use Rattle.safety.proofs.MovesAndHistories.TableMoves.{newest_some}
use Rattle.safety.proofs.OneLog.OwnersInLog.{Busy, IsBusy, in_book, test_busy}
use Rattle.log_core.specs.Readings.{is_under_way_with, under_way}
use Rattle.safety.proofs.OneLog.KnownContents.{ContentsKept, contents_kept}

-- ---- a transfer that is under way

busy_test : (s : Status) → (same_status s Checked || same_status s Accepted) ≡ true → IsBusy s
busy_test Checked h = tt
busy_test Accepted h = tt
busy_test Proposed h = absurd (cc (h))
busy_test Rejected h = absurd (cc (h))
busy_test Terminated h = absurd (cc (h))
busy_test Cancelled h = absurd (cc (h))
busy_test Completed h = absurd (cc (h))

-- whether the newest transition stands so
abbrev stands_busy : Option Transition → Bool
stands_busy o = is_status (option_map (λ (x : Transition). x.new) o) Checked || is_status (option_map (λ (x : Transition). x.new) o) Accepted

with_busy : (xs : List Transition) (s : Serial) (x : Transition) → ContentsKept xs → In x xs → is_under_way_with xs s x ≡ true → Busy s xs x.id
with_busy xs s x contents i h =
    let parts = and_parts (stands_busy (newest xs x.id)) (carries x s) h in
    let last = newest_some xs x i in
    record {
      last = last.0;
      is = last.1;
      new = busy_test last.0.new (subst (λ o. stands_busy o ≡ true) last.1 parts.0);
      has = subst (λ k. has_serial k s ≡ true) (sym (contents x last.0 i last.1)) parts.1;
    }

busy_with : (xs : List Transition) (s : Serial) (t : TransactionId) → Busy s xs t → is_some (under_way xs s) ≡ true
busy_with xs s t b =
    let about = newest_id xs t b.last b.is in
    let here : newest xs b.last.id ≡ Some b.last = ap (newest xs) about.1 ∙ b.is in
    let passes : is_under_way_with xs s b.last ≡ true = and_from (stands_busy (newest xs b.last.id)) (carries b.last s) (subst (λ o. stands_busy o ≡ true) (sym here) (test_busy b.last.new b.new)) b.has in
    sym (any_found (is_under_way_with xs s) (λ (x : Transition). record { id = x.id }) xs) ∙ list_any_in (is_under_way_with xs s) xs b.last about.0 passes

under_way_with : (xs : List Transition) (s : Serial) (u : UnderWay) → ContentsKept xs → under_way xs s ≡ Some u → Busy s xs u.id
under_way_with xs s u contents h =
    let x = mapped (λ (y : Transition). record { id = y.id }) (find (is_under_way_with xs s) xs) u h in
    let g = In_find (is_under_way_with xs s) xs x.0 x.1 in
    subst (λ (w : UnderWay). Busy s xs w.id) x.2 (with_busy xs s x.0 contents g.0 g.1)

module _ (scheme : Scheme) (es : List Entry) (made : Made scheme Itl es) (s : Serial) where
  -- the unit's transfer is under way with it
  pub under_way_busy : (u : UnderWay) → under_way (transitions_of es) s ≡ Some u → Busy s (transitions_of es) u.id
  under_way_busy u h = under_way_with (transitions_of es) s u (contents_kept scheme es made) h

  -- the transfer that is under way with the unit is the one that the unit is in
  pub busy_under_way : (t : TransactionId) → Busy s (transitions_of es) t → under_way (transitions_of es) s ≡ Some (record { id = t })
  busy_under_way t b =
      let u = some_is (under_way (transitions_of es) s) (busy_with (transitions_of es) s t b) in
      let one : u.0.id ≡ t = (in_book scheme s es made).one u.0.id t (under_way_busy u.0 u.1) b in
      u.1 ∙ (λ i. Some (record { id = one i }))

  -- a label that gives the transfer under way with the unit gives the transfer that the unit is in
  pub under_way_is : (o : Option UnderWay) → ((t : TransactionId) → Busy s (transitions_of es) t → o ≡ Some (record { id = t })) → ((u : UnderWay) → o ≡ Some u → Busy s (transitions_of es) u.id)
      → under_way (transitions_of es) s ≡ o
  under_way_is None to from = go (under_way (transitions_of es) s) refl
    where
      go : (p : Option UnderWay) → under_way (transitions_of es) s ≡ p → p ≡ None
      go None e = refl
      go (Some u) e = let none = to u.id (under_way_busy u e) in absurd (cc (none))
  under_way_is (Some u) to from = busy_under_way u.id (from u refl)
