use Rattle.std.proofs.Common.{◌≡◌, ◌∷◌}
use Rattle.input_lines.specs.Verbs.{line_verb_text}
use Rattle.input_lines.specs.Words.{texts}
use Rattle.input_lines.specs.declared.line.WordsFault.TheVariants.{Order}
use Rattle.input_lines.specs.declared.verbs.LineVerb.{LineVerb}
use Rattle.input_lines.proofs.VerbsApart.{no_instruction}
use Rattle.input_lines.proofs.WantedParts.{lack_so, part_so}
use Rattle.input_lines.proofs.instructions.instruction_of_words.Goals as goal

pub returns-in_err-verb-clause-order : goal.returns-in_err-verb-clause-order
returns-in_err-verb-clause-order c = λ was. no_instruction _ _ _
    (part_so (λ p. texts c.args.words.now ≡ p.0.now ∷ texts p.1.now) c.first_of.result Order _ c.in_ok-word.ensures.value c.first_of.ensures.some)
    (lack_so ((v : LineVerb) → _ ≡ line_verb_text v → ⊥) c.read.result Order _ c.in_err-verb.ensures.value c.read.ensures.none)
