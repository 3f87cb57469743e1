use Rattle.std.proofs.Common.{decimal}
use Rattle.units.specs.Code.{node_text}
use Rattle.status.specs.Id.{id_text}
use Rattle.report.specs.ReportLines.{message_word}
use Rattle.audit.proofs.Objects.{waits_object}
use Rattle.audit.proofs.cutting.push_object.Goals as goal

pub returns : goal.returns
returns c =
    let message = c.args.message.now in
    waits_object _ _ (node_text message.from) (message_word message.body) (node_text c.args.node) (decimal c.args.place) (id_text message.id) (rw c.message_word-word.ensures at c.in_ok-writeln.ensures.bytes)
