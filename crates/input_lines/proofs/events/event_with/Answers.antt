use Rattle.std.proofs.Common.{◌≡◌, ◌∷◌}
use Rattle.input_lines.specs.declared.line.WordsFault.TheVariants.{Order}
use Rattle.input_lines.specs.declared.verbs.Verb.{Verb}
use Rattle.input_lines.specs.Verbs.{verb_text}
use Rattle.input_lines.specs.Words.{texts}
use Rattle.input_lines.proofs.OneEvent.{no_verb}
use Rattle.input_lines.proofs.WantedParts.{part_so, lack_so}
use Rattle.input_lines.proofs.events.event_with.Goals as goal

pub returns-in_err-verb-clause-order : goal.returns-in_err-verb-clause-order
returns-in_err-verb-clause-order c = λ was. no_verb _ _ _
    (part_so (λ p. texts c.args.words.now ≡ p.0.now ∷ texts p.1.now) c.first_of.result Order _ c.in_ok-word.ensures.value c.first_of.ensures.some)
    (lack_so ((v : Verb) → _ ≡ verb_text v → ⊥) c.read.result Order _ c.in_err-verb.ensures.value c.read.ensures.none)
