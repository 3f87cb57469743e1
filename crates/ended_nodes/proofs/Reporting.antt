-- The table that is written of the nodes after a run, and the fault where nothing is written.
use Rattle.std.proofs.Common.{◌≡◌, ◌<◌, ℕ, List, Option, Some, None, Result, Ok, Err, IfOk, IfErr, OnOk, length, take, refl, sym, subst}
use Rattle.std.specs.Io.KnownBytes.{Appends, Keeps}
use Rattle.protocol.specs.Scheme.{Scheme}
use Rattle.node_state.specs.Views.{StateView, SeatView}
use Rattle.command_faults.specs.declared.fault.OpFault.{OpFault}
use Rattle.command_faults.specs.declared.fault.OpFault.TheVariants.{Input as Line, Read, Write, Store, Stuck, Unsettled, Setup, Undone, NoMemory}
use Rattle.ended_nodes.specs.Reported.{FailsToReport, IsReported, IsTableFault}

-- ---- the table, or why there is none

pub keeps_same : (v : Option (List ℕ)) → Keeps v v
keeps_same None = tt
keeps_same (Some xs) = refl

pub fails_unwritten : (e : OpFault) (scheme : Scheme) (helds : List StateView) (seats : List (List SeatView)) (v : Option (List ℕ)) → IsTableFault scheme helds seats e → FailsToReport e scheme helds seats v v
fails_unwritten (Unsettled told) scheme helds seats v h = (h, keeps_same v)
fails_unwritten (Stuck n place) scheme helds seats v h = (h, keeps_same v)
fails_unwritten NoMemory scheme helds seats v h = (h, keeps_same v)
fails_unwritten (Line line cause) scheme helds seats v h = absurd h
fails_unwritten Read scheme helds seats v h = absurd h
fails_unwritten (Write count) scheme helds seats v h = absurd h
fails_unwritten (Store told fault) scheme helds seats v h = absurd h
fails_unwritten (Setup fault) scheme helds seats v h = absurd h
fails_unwritten (Undone line) scheme helds seats v h = absurd h

pub fails_in_table : (e : OpFault) (scheme : Scheme) (helds : List StateView) (seats : List (List SeatView)) (before after : Option (List ℕ)) (table : List ℕ) → IsReported scheme helds seats table
    → ((count : ℕ) × (e ≡ Write count) × (count < length table) × Appends before after (take count table)) → FailsToReport e scheme helds seats before after
fails_in_table e scheme helds seats before after table r h = subst (λ (x : OpFault). FailsToReport x scheme helds seats before after) (sym h.1) (table, r, h.2, h.3)

-- ---- parts of results

pub if_ok : {X E : Type 0} {P Q : X → Type 0} (r : Result X E) → ((x : X) → P x → Q x) → IfOk r P → IfOk r Q
if_ok (Ok x) f h = f x h
if_ok (Err e) f h = tt

pub if_err : {X E : Type 0} {P Q : E → Type 0} (r : Result X E) → ((e : E) → P e → Q e) → IfErr r P → IfErr r Q
if_err (Ok x) f h = tt
if_err (Err e) f h = f e h

pub on_ok : {X E P Q : Type 0} (r : Result X E) → (P → Q) → OnOk r P → OnOk r Q
on_ok (Ok x) f h = f h
on_ok (Err e) f h = tt
