-- The log's tables, seen from outside: the transfer that a unit is in, and the transactions that have ended.
use Rattle.std.specs.FinMap as map
use Rattle.std.proofs.Common.{Err, List, Ok, Some, ap, inl, inr, refl, subst, sym, ◌∙◌, ◌∷◌, [], ◌≡◌}
use Rattle.std.specs.Prelude.{Result}
use Rattle.units.specs.declared.block.Unit.{Unit as Serial}
use Rattle.units.specs.declared.code.Node.TheVariants.{Itl}
use Rattle.units.specs.declared.refusal.Refusal.{Refusal}
use Rattle.status.specs.declared.id.TransactionId.{TransactionId}
use Rattle.status.specs.declared.status.Status.{Status}
use Rattle.status.specs.declared.status.Status.TheVariants.{Accepted, Cancelled, Checked, Completed, Proposed, Rejected, Terminated}
use Rattle.wire.specs.declared.input.Input.{Input}
use Rattle.scheme.specs.declared.registries.Scheme.{Scheme}
use Rattle.checks.specs.declared.register.UnderWay.{UnderWay}
use Rattle.protocol.specs.Claims.{IsEnd, IsUnderWay}
use Rattle.protocol.specs.Cores.{after}
use Rattle.protocol.specs.Verdict as verdicts
use Rattle.protocol.specs.History.{stands, transitions_of}
use Rattle.protocol.specs.declared.node_core.Stepped.{Stepped}
use Rattle.protocol.specs.declared.node_core.Stepped.TheVariants as stepped
use Rattle.safety.proofs.MovesAndHistories.LongerHistories.{made_history}
use Rattle.safety.proofs.OneLog.OwnersInLog.{IsBusy, ends_stay}
use Rattle.log_core.specs.Kept.{IsKept}
use Rattle.log_core.specs.Log.{IsUnderWayWith, LogCoreView, moves, past}
use Rattle.log_core.specs.Readings.{under_way}
use Rattle.log_core.specs.declared.tables.Tables.{Tables}
use Rattle.log_core.proofs.KnownUnderWay.{busy_under_way, under_way_busy}

abbrev pub seen : Scheme → Tables → LogCoreView
seen scheme tables = record { scheme = scheme; journal = tables.records.inputs }

busy_from : (s : Status) → IsUnderWay s → IsBusy s
busy_from s (inl e) = subst IsBusy (sym e) tt
busy_from s (inr e) = subst IsBusy (sym e) tt

busy_to : (s : Status) → IsBusy s → IsUnderWay s
busy_to Checked h = inl refl
busy_to Accepted h = inr refl
busy_to Proposed h = absurd h
busy_to Rejected h = absurd h
busy_to Terminated h = absurd h
busy_to Cancelled h = absurd h
busy_to Completed h = absurd h

module _ (scheme : Scheme) (tables : Tables) (kept : IsKept scheme tables) (l : LogCoreView) (is : seen scheme tables ≡ l) where
  -- ---- the transfer that a unit is in

  under_way_so : (s : Serial) → map.get tables.register.under_way s ≡ under_way (moves l) s
  under_way_so s = kept.kept.under_way s ∙ ap (λ (q : LogCoreView). under_way (moves q) s) is

  pub transfer_is : (s : Serial) (u : UnderWay) → map.get tables.register.under_way s ≡ Some u → IsUnderWayWith l s u.id
  transfer_is s u e =
      let b = under_way_busy l.scheme (past l) (made_history l.scheme Itl l.journal) s u (sym (under_way_so s) ∙ e) in
      (b.last, b.is, busy_to b.last.new b.new, b.has)

  pub transfer_only : (s : Serial) (t : TransactionId) → IsUnderWayWith l s t → map.get tables.register.under_way s ≡ Some (record { id = t })
  transfer_only s t h = under_way_so s ∙ busy_under_way l.scheme (past l) (made_history l.scheme Itl l.journal) s t (record { last = h.0; is = h.1; new = busy_from h.0.new h.2; has = h.3 })

-- ---- ended transactions stay as they are

ended_stays : (scheme : Scheme) (journal : List Input) (input : Input) (result : Result Stepped Refusal) (t : TransactionId) (s : Status) → IsEnd s → stands (transitions_of (verdicts.history scheme Itl journal)) t ≡ Some s
    → stands (transitions_of (verdicts.history scheme Itl (after journal input result))) t ≡ Some s
ended_stays scheme journal input (Ok (stepped.Recorded place)) t s end h = ends_stay scheme journal (input ∷ []) t s end h
ended_stays scheme journal input (Ok stepped.Repeat) t s end h = h
ended_stays scheme journal input (Ok stepped.Late) t s end h = h
ended_stays scheme journal input (Err refusal) t s end h = h

pub ends_after : (scheme : Scheme) (tables tables' : Tables) (l : LogCoreView) → seen scheme tables ≡ l → tables'.scheme ≡ scheme → (input : Input) (result : Result Stepped Refusal) → tables'.records.inputs ≡ after tables.records.inputs input result
    → (t : TransactionId) (s : Status) → IsEnd s → stands (moves l) t ≡ Some s → stands (moves (seen tables'.scheme tables')) t ≡ Some s
ends_after scheme tables tables' l is same input result journal t s end h =
    ap (λ c. stands (moves (seen c tables')) t) same
    ∙ ap (λ j. stands (transitions_of (verdicts.history scheme Itl j)) t) journal
    ∙ ended_stays scheme tables.records.inputs input result t s end (ap (λ (q : LogCoreView). stands (moves q) t) is ∙ h)
