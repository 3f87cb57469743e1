-- How the log's tables fit together: a unit that is under way is one of its transfer's, and the set of what stands
-- Checked has each such transaction by its moment.
use Rattle.std.proofs.Common.{None, Option, Some, ap, false, refl, subst, sym, true, ◌&&◌, ◌==◌, ◌∙◌, ◌≡◌, ℕ}
use Rattle.std.specs.Option.{option_map_or}
use Rattle.std.specs.Prelude.{option_map}
use Rattle.units.specs.declared.code.Node.TheVariants.{Itl}
use Rattle.status.specs.Status.{same_status}
use Rattle.status.specs.declared.status.Status.TheVariants.{Checked}
use Rattle.scheme.specs.declared.registries.Scheme.{Scheme}
use Rattle.protocol.specs.History.{Transition, has_serial, newest, transitions_of}
use Rattle.protocol.specs.Verdict.{history}
use Rattle.safety.proofs.MovesAndHistories.LongerHistories.{made_history}
use Rattle.log_core.specs.Effects.{transfer_state_content, transfer_state_in}
use Rattle.log_core.specs.Kept.{IsKept}
use Rattle.log_core.specs.Readings.{of_transition}
use Rattle.log_core.specs.Transfers.{AreLabelled, AreWaiting, stands_checked_since}
use Rattle.log_core.specs.declared.tables.Tables.{Tables}
use Rattle.log_core.proofs.KnownUnderWay.{under_way_busy}

checked_transfer_state : (since : ℕ) (o : Option Transition) → option_map_or (λ (x : Transition). same_status x.new Checked && (x.moment == since)) o false
    ≡ stands_checked_since since (option_map of_transition o)
checked_transfer_state since None = refl
checked_transfer_state since (Some x) = refl

module _ (scheme : Scheme) (tables : Tables) (kept : IsKept scheme tables) where
  -- a unit that is under way is one of its transfer's
  pub labelled_so : AreLabelled tables.transfers tables.register.under_way
  labelled_so s u h =
      let es = history scheme Itl tables.records.inputs in
      let b = under_way_busy scheme es (made_history scheme Itl tables.records.inputs) s u (sym (kept.kept.under_way s) ∙ h) in
      let content : transfer_state_content (transfer_state_in tables u.id) ≡ b.last.content = ap transfer_state_content (kept.kept.transfers u.id ∙ ap (option_map of_transition) b.is) in
      subst (λ k. has_serial k s ≡ true) (sym content) b.has

  -- the set has a transaction at a moment exactly where it stands Checked since then
  pub waiting_so : AreWaiting tables.transfers tables.checked
  waiting_so w =
      let xs = transitions_of (history scheme Itl tables.records.inputs) in
      kept.kept.checked w
      ∙ checked_transfer_state w.since.seconds (newest xs w.id)
      ∙ ap (stands_checked_since w.since.seconds) (sym (kept.kept.transfers w.id))
