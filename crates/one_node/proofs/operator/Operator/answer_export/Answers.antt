use Rattle.std.proofs.Common.{◌≡◌, ◌∙◌, ◌+◌, ℕ, List, ap, append-nil, inl, length, subst, sym}
use Rattle.std.specs.Io.KnownBytes.{Appends}
use Rattle.protocol.specs.Input.{Input}
use Rattle.one_node.specs.Turns.{IsCarried, export_line}
use Rattle.one_node.proofs.Stepping.{on_both}
use Rattle.one_node.proofs.Words.{added_to_none}
use Rattle.one_node.proofs.operator.Operator.answer_export.Goals as goal

pub returns-in_ok-push_export-in-Ok-clause-answered : goal.returns-in_ok-push_export-in-Ok-clause-answered
returns-in_ok-push_export-in-Ok-clause-answered g c =
    let holds : List ℕ → List Input → Type 0 = g.E.Exporter.holds c.args.exporter.now c.args.node in
    let records = c.args.records.now in
    let count = c.args.self.now.count in
    let number = c.in_ok-number.ensures in
    let carried : IsCarried holds records c.args.self.now.line.held.items (length records) = subst (λ (line : List ℕ). IsCarried holds records line (length records)) c.held.ensures c.in-Ok.ensures in
    let text : c.as_str.result.now ≡ export_line (count + 1) (length records) =
    c.as_str.ensures.value ∙ (added_to_none _ _ _ c.in_ok-push_export-in-Ok.ensures c.new-text.ensures.bytes ∙ ap (λ (k : ℕ). export_line k (length records)) number) in
    on_both c.write_answer.result c.write_answer.ensures.written c.write_answer.ensures.count
    (λ written counted. inl (
      length records,
      carried,
      record {
        written = subst (Appends (g.W.Write.contents c.args.writer.now) (g.W.Write.contents c.write_answer.new.writer)) (text ∙ sym (append-nil (export_line (count + 1) (length records)))) written;
        counts = counted ∙ number;
      },
    ))
