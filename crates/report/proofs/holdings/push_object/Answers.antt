use Rattle.std.proofs.Common.{decimal}
use Rattle.units.specs.Block.{raw_text}
use Rattle.units.specs.Code.{code_text}
use Rattle.report.specs.ReportLines.{reserving_or_null}
use Rattle.report.proofs.Objects.{holding_object}
use Rattle.report.proofs.holdings.push_object.Goals as goal

pub returns : goal.returns
returns c =
    let line = c.args.line.now in
    holding_object _ _ (decimal line.account) (code_text c.args.code) (reserving_or_null line.reserving) (raw_text line.block.raw) c.in_ok-writeln.ensures.bytes
