use Rattle.std.proofs.Common.{◌≡◌, ◌∷◌, ◌∙◌, ℕ, List, Err, ap}
use Rattle.units.specs.declared.code.Node.{Node}
use Rattle.input_lines.specs.Named.{IsNamed}
use Rattle.input_lines.specs.Verbs.{line_verb_text}
use Rattle.input_lines.specs.Words.{texts}
use Rattle.input_lines.specs.declared.line.WordsFault.TheVariants.{Order}
use Rattle.input_lines.specs.declared.verbs.LineVerb.{LineVerb}
use Rattle.input_lines.proofs.NamedWords.{never_named, never_told, no_script_verb, no_script_words}
use Rattle.input_lines.proofs.WantedParts.{fault_so, lack_so, part_so}
use Rattle.input_lines.proofs.script_line.script_line_with.Goals as goal

pub returns-in_err-verb-clause-order : goal.returns-in_err-verb-clause-order
returns-in_err-verb-clause-order c = λ was. no_script_verb _ _ _
    (part_so (λ p. texts c.args.words.now ≡ p.0.now ∷ texts p.1.now) c.first_of.result Order _ c.in_ok-word.ensures.value c.first_of.ensures.some)
    (lack_so ((v : LineVerb) → _ ≡ line_verb_text v → ⊥) c.read.result Order _ c.in_err-verb.ensures.value c.read.ensures.none)

pub returns-in_err-node-clause-order : goal.returns-in_err-node-clause-order
returns-in_err-node-clause-order c = λ was.
    let ws = texts c.in_ok-word.words.now in
    let v = c.in_ok-verb.verb in
    no_script_words (texts c.args.words.now) c.in_ok-word.word.now ws v
    (part_so (λ p. texts c.args.words.now ≡ p.0.now ∷ texts p.1.now) c.first_of.result Order _ c.in_ok-word.ensures.value c.first_of.ensures.some)
    (part_so (λ u. c.in_ok-word.word.now ≡ line_verb_text u) c.read.result Order _ c.in_ok-verb.ensures.value c.read.ensures.some)
    (never_named v ws (lack_so ((n : Node) (others : List (List ℕ)) → IsNamed v ws n others → ⊥) c.named.result Order _ c.in_err-node.ensures.value c.named.ensures.none))

pub returns-in_err-instruction-clause-order : goal.returns-in_err-instruction-clause-order
returns-in_err-instruction-clause-order c = λ was.
    let ws = texts c.in_ok-word.words.now in
    let v = c.in_ok-verb.verb in
    let rest = texts c.in_ok-node.words.now in
    let named : IsNamed v ws c.in_ok-node.node rest = part_so (λ p. IsNamed v ws p.0 (texts p.1.now)) c.named.result Order _ c.in_ok-node.ensures.value c.named.ensures.some in
    let failed : c.instruction_with.result ≡ Err Order = c.in_err-instruction.was ∙ ap Err (fault_so c.from_residual-in_err-instruction.result c.in_err-instruction.field-0.0 Order c.from_residual-in_err-instruction.ensures.1 was) in
    no_script_words (texts c.args.words.now) c.in_ok-word.word.now ws v
    (part_so (λ p. texts c.args.words.now ≡ p.0.now ∷ texts p.1.now) c.first_of.result Order _ c.in_ok-word.ensures.value c.first_of.ensures.some)
    (part_so (λ u. c.in_ok-word.word.now ≡ line_verb_text u) c.read.result Order _ c.in_ok-verb.ensures.value c.read.ensures.some)
    (never_told v ws c.in_ok-node.node rest named (c.instruction_with.ensures.order failed))
