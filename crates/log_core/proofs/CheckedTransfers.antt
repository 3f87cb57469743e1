-- The set of the transactions that stand Checked, and the units under way, by the table's entry of each transaction.
use Rattle.std.proofs.Common.{◌≡◌, ◌&&◌, ◌==◌, ℕ, Bool, true, false, not, cond, Option, Some, None, refl, sym, ap, ◌∙◌}
use Rattle.std.specs.BTreeMap as tree
use Rattle.std.specs.BTreeMap.{BTreeMap}
use Rattle.std.specs.BTreeSet.{BTreeSet, contains}
use Rattle.std.specs.FinMap as finite
use Rattle.std.specs.Prelude.{option_map}
use Rattle.std.proofs.lemmas.Bool.{and_parts}
use Rattle.units.specs.Intervals.{labels_that}
use Rattle.units.specs.Keys.{unit_cmp}
use Rattle.units.specs.declared.block.Unit.{Unit as Serial}
use Rattle.status.proofs.Ids.{id_of_same}
use Rattle.status.specs.Content.{Content}
use Rattle.status.specs.Id.{id_cmp, same_id}
use Rattle.status.specs.Status.{same_status}
use Rattle.status.specs.declared.id.TransactionId.{TransactionId}
use Rattle.status.specs.declared.moment.Moment.{Moment}
use Rattle.status.specs.declared.status.Status.TheVariants.{Checked}
use Rattle.checks.specs.declared.register.UnderWay.{UnderWay}
use Rattle.protocol.specs.History.{has_serial}
use Rattle.log_core.specs.Effects.{transfer_state_content}
use Rattle.log_core.specs.Kept.{waiting_cmp}
use Rattle.log_core.specs.Readings.{TransferState, of_transfer}
use Rattle.log_core.specs.Transfers.{AreLabelled, AreWaiting, stands_checked_since, is_waiting_entry, transfer_state_of}
use Rattle.log_core.specs.declared.transfer.LoggedTransfer.{LoggedTransfer}
use Rattle.log_core.specs.declared.waiting.Waiting.{Waiting}

-- ---- an entry that is taken out

taken_out : (same here there : Bool) → (same ≡ true → there ≡ true → here ≡ true) → (there && not (here && same)) ≡ (not same && there)
taken_out true true true h = refl
taken_out true false true h = let e : false ≡ true = h refl refl in absurd (cc (e))
taken_out true true false h = refl
taken_out true false false h = refl
taken_out false true true h = refl
taken_out false false true h = refl
taken_out false true false h = refl
taken_out false false false h = refl

none_there : (same there : Bool) → (same ≡ true → there ≡ false) → there ≡ (not same && there)
none_there true there h = h refl
none_there false there h = refl

is_since : (since : ℕ) (o : Option TransferState) (x : TransferState) → o ≡ Some x → stands_checked_since since o ≡ true → (x.since == since) ≡ true
is_since since o x e h = (and_parts (same_status x.status Checked) (x.since == since) (ap (stands_checked_since since) (sym e) ∙ h)).1

module _ (transfers : BTreeMap TransactionId LoggedTransfer) (checked : BTreeSet Waiting) (waiting : AreWaiting transfers checked) (id : TransactionId) where
  there_of : (w : Waiting) → same_id id w.id ≡ true → contains waiting_cmp checked w ≡ stands_checked_since w.since.seconds (transfer_state_of transfers id)
  there_of w same = waiting w ∙ ap (λ t. stands_checked_since w.since.seconds (transfer_state_of transfers t)) (sym (id_of_same id w.id same))

  pub stops : (x : LoggedTransfer) → tree.get id_cmp transfers id ≡ Some x → (w : Waiting)
      → (contains waiting_cmp checked w && not (is_waiting_entry w (record { since = x.since; id = id }))) ≡ (not (same_id id w.id) && contains waiting_cmp checked w)
  stops x is w =
      taken_out (same_id id w.id) (x.since.seconds == w.since.seconds) (contains waiting_cmp checked w)
      (λ same there. is_since w.since.seconds (transfer_state_of transfers id) (of_transfer x) (ap (option_map of_transfer) is) (sym (there_of w same) ∙ there))

  pub none_waits : tree.get id_cmp transfers id ≡ None → (w : Waiting) → same_id id w.id ≡ true → contains waiting_cmp checked w ≡ false
  none_waits none w same = there_of w same ∙ ap (λ o. stands_checked_since w.since.seconds (option_map of_transfer o)) none

  pub none_stops : tree.get id_cmp transfers id ≡ None → (w : Waiting) → contains waiting_cmp checked w ≡ (not (same_id id w.id) && contains waiting_cmp checked w)
  none_stops none w = none_there (same_id id w.id) (contains waiting_cmp checked w) (none_waits none w)

  pub none_at_entry : (since : Moment) → tree.get id_cmp transfers id ≡ None → (w : Waiting) → is_waiting_entry w (record { since = since; id = id }) ≡ true → contains waiting_cmp checked w ≡ false
  none_at_entry since none w h = none_waits none w (and_parts (since.seconds == w.since.seconds) (same_id id w.id) h).1

-- ---- units

-- none of the labels passes, so all are left
pub none_labelled : {M : Type 0} (passes : M → Bool) (o : Option M) → ((m : M) → o ≡ Some m → passes m ≡ false) → o ≡ labels_that (λ m. not (passes m)) o
none_labelled passes None h = refl
none_labelled passes (Some m) h = ap (λ b. cond (not b) (Some m) None) (sym (h m refl))

-- the transfer's units are those of its content
pub labelled_content : (transfers : BTreeMap TransactionId LoggedTransfer) (under_way : finite.FinMap unit_cmp UnderWay) (id : TransactionId) (k : Option Content) → AreLabelled transfers under_way → k ≡ transfer_state_content (transfer_state_of transfers id)
    → (s : Serial) (u : UnderWay) → finite.get under_way s ≡ Some u → same_id u.id id ≡ true → has_serial k s ≡ true
labelled_content transfers under_way id k labelled is s u e same =
    ap (λ c. has_serial c s) (is ∙ ap (λ t. transfer_state_content (transfer_state_of transfers t)) (sym (id_of_same u.id id same))) ∙ labelled s u e
