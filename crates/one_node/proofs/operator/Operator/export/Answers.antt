use Rattle.std.proofs.Common.{List, OnOk, subst}
use Rattle.protocol.specs.Input.{Input}
use Rattle.one_node.specs.Operating.{AnswersExport}
use Rattle.one_node.proofs.operator.Operator.export.Goals as goal

pub returns-clause-answered : goal.returns-clause-answered
returns-clause-answered g c =
    subst (λ (records : List Input). OnOk c.answer_export.result (AnswersExport (g.E.Exporter.holds c.args.exporter.now c.args.client.now.node) records
    c.args.self.now.line.held.items (g.W.Write.contents c.args.writer.now) (g.W.Write.contents c.answer_export.new.writer) c.args.self.now.count c.answer_export.new.self.count)) c.records.ensures c.answer_export.ensures.answered
