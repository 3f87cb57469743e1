use Rattle.std.proofs.Common.{◌∙◌, ℕ, List, Err, sym, ap, subst}
use Rattle.serving.specs.Answers.{answer_line}
use Rattle.input_lines.specs.Instructions.{IsInstruction}
use Rattle.one_node.specs.Operating.{held_nowhere}
use Rattle.one_node.proofs.Stepping.{line_ahead, line_answered, line_refused}
use Rattle.one_node.proofs.Words.{added_to_none}
use Rattle.one_node.proofs.operator.Operator.take_line.Goals as goal

pub returns-in-Ok-instruction_of : goal.returns-in-Ok-instruction_of
returns-in-Ok-instruction_of g c =
    let client = c.args.client.now in
    let did = c.in_ok-write_answer-in-Ok-instruction_of.ensures in
    let number = c.in_ok-number.ensures in
    let text = c.as_str.ensures.value ∙ (added_to_none _ _ _ c.in_ok-push_answer-in-Ok-instruction_of.ensures c.in-Ok.ensures.bytes ∙ ap (λ (k : ℕ). answer_line k c.answer-answer.result) number) in
    line_answered client.scheme.now client.node (g.N.Clock.tells client.network.now) held_nowhere c.args.self.now.line.held.items _ _ _ _ c.args.self.now.count _ c.args.evidence.now c.answer-answer.new.seat
    c.in-Ok-instruction_of.instruction c.answer-answer.result (subst (λ (held : List ℕ). IsInstruction held c.in-Ok-instruction_of.instruction) c.held-3.ensures c.in-Ok-instruction_of.ensures.ok)
    c.answer-answer.ensures (c.is_ahead.ensures.timely c.if-is_ahead.false) did.written text (did.count ∙ number) did.line

pub returns-in-Err-Order : goal.returns-in-Err-Order
returns-in-Err-Order g c =
    let client = c.args.client.now in
    let did = c.in_ok-refuse-in-Err-Order.ensures in
    line_refused client.scheme.now client.node (g.N.Clock.tells client.network.now) held_nowhere c.args.self.now.line.held.items _ _ _ c.args.self.now.count _ c.args.evidence.now
    (λ i writes. c.in-Err-Order.ensures.order (ap Err c.in-Err-Order.field-0-is) i (subst (λ (held : List ℕ). IsInstruction held i) (sym c.held-3.ensures) writes)) did.written did.count did.line

pub returns-then-is_ahead : goal.returns-then-is_ahead
returns-then-is_ahead g c =
    let client = c.args.client.now in
    let did = c.in_ok-refuse-in-Ok-instruction_of.ensures in
    line_ahead client.scheme.now client.node (g.N.Clock.tells client.network.now) held_nowhere c.args.self.now.line.held.items _ _ _ c.args.self.now.count _ c.args.evidence.now
    c.in-Ok-instruction_of.instruction (subst (λ (held : List ℕ). IsInstruction held c.in-Ok-instruction_of.instruction) c.held-3.ensures c.in-Ok-instruction_of.ensures.ok) (c.is_ahead.ensures.ahead c.if-is_ahead.true) did.written did.count did.line
