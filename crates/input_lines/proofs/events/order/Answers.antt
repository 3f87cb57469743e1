use Rattle.std.proofs.Common.{◌≡◌, ◌∙◌, ℕ, List, Err, ap}
use Rattle.units.specs.declared.code.Node.{Node}
use Rattle.input_lines.specs.Named.{IsNamed}
use Rattle.input_lines.specs.Words.{texts}
use Rattle.input_lines.specs.declared.line.WordsFault.TheVariants.{Order}
use Rattle.input_lines.specs.declared.verbs.LineVerb.TheVariants as line
use Rattle.input_lines.proofs.NamedWords.{never_named, never_told, no_event_words, no_order_told}
use Rattle.input_lines.proofs.WantedParts.{fault_so, lack_so, part_so}
use Rattle.input_lines.proofs.events.order.Goals as goal

pub returns-in_err-node-clause-order : goal.returns-in_err-node-clause-order
returns-in_err-node-clause-order c = λ was.
    let v = line.Order c.args.verb in
    let ws = texts c.args.words.now in
    no_event_words c.args.verb ws (never_named v ws (lack_so ((n : Node) (others : List (List ℕ)) → IsNamed v ws n others → ⊥) c.named.result Order _ c.in_err-node.ensures.value c.named.ensures.none))

pub returns-in_err-input-clause-order : goal.returns-in_err-input-clause-order
returns-in_err-input-clause-order c = λ was.
    let v = line.Order c.args.verb in
    let ws = texts c.args.words.now in
    let named : IsNamed v ws c.in_ok-node.node (texts c.in_ok-node.words.now) = part_so (λ p. IsNamed v ws p.0 (texts p.1.now)) c.named.result Order _ c.in_ok-node.ensures.value c.named.ensures.some in
    let failed : c.order_of.result ≡ Err Order = c.in_err-input.was ∙ ap Err (fault_so c.from_residual-in_err-input.result c.in_err-input.field-0.0 Order c.from_residual-in_err-input.ensures.1 was) in
    no_event_words c.args.verb ws (never_told v ws c.in_ok-node.node (texts c.in_ok-node.words.now) named (no_order_told c.args.verb (texts c.in_ok-node.words.now) (c.order_of.ensures.order failed)))
