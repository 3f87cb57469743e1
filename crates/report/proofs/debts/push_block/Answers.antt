use Rattle.units.specs.Block.{raw_text}
use Rattle.status.specs.Id.{id_text}
use Rattle.report.proofs.Objects.{due_object}
use Rattle.report.proofs.debts.push_block.Goals as goal

pub returns-in_ok-writeln-in-Json : goal.returns-in_ok-writeln-in-Json
returns-in_ok-writeln-in-Json c = rw c.in-Json.is (due_object _ _ (id_text c.args.id) (raw_text c.args.block.raw) c.in_ok-writeln-in-Json.ensures.bytes)
