use Rattle.std.proofs.Common.{Err, IfOk, Ok, Result}
use Rattle.registry_core.proofs.CoreReadings.{unit_holding_so}
use Rattle.registry_core.proofs.ReportedLines.{lines_report}
use Rattle.registry_core.proofs.registry.RegistryCore.lines.Goals as goal

if_ok : {X E : Type 0} (r : Result X E) (P Q : X → Type 0) → ((x : X) → P x → Q x) → IfOk r P → IfOk r Q
if_ok (Ok x) P Q h p = h x p
if_ok (Err e) P Q h p = tt

pub returns : goal.returns
returns c =
    if_ok c.lines.result _ _
    (λ v is. lines_report c.args.self.now c.self.inside.tables.holdings v.items (unit_holding_so c.self.inside.tables.scheme c.self.inside.tables.code c.self.inside.tables c.self.invariant c.args.self.now c.self.view_is) is) c.lines.ensures
