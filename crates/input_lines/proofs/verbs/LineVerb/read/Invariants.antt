use Rattle.std.proofs.Common.{◌≡◌, ◌<◌, ℕ, get_or}
use Rattle.input_lines.specs.Verbs.{line_verb_text}
use Rattle.input_lines.specs.declared.verbs.LineVerb.TheVariants.{Status}
use Rattle.input_lines.proofs.verbs.LineVerb.read.Given as goal

-- none of the verbs compared so far is this word
abbrev pub invariant-loop-verb : goal.invariant-loop-verb
invariant-loop-verb l = (n : ℕ) → n < l.verb-index → l.word ≡ line_verb_text (get_or l.verb-items n Status) → ⊥
