use Rattle.std.proofs.Common.{◌≡◌, ◌<◌, ℕ, get_or}
use Rattle.input_lines.specs.Verbs.{verb_text}
use Rattle.input_lines.specs.declared.verbs.OrderVerb.TheVariants.{Propose}
use Rattle.input_lines.specs.declared.verbs.Verb.TheVariants.{Order}
use Rattle.input_lines.proofs.verbs.Verb.read.Given as goal

-- none of the verbs compared so far is this word
abbrev pub invariant-loop-verb : goal.invariant-loop-verb
invariant-loop-verb l = (n : ℕ) → n < l.verb-index → l.word ≡ verb_text (get_or l.verb-items n (Order Propose)) → ⊥
