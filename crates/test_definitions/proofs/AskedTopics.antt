-- The topic for which the words of `explain` ask: the first of their names that a topic has.
use Rattle.std.proofs.Common.{◌≡◌, ℕ, List, [], ◌∷◌, None, Some, refl}
use Rattle.std.specs.Prelude.{codes}
use Rattle.explain.specs.Topics.{asked, format_topics, topics}

abbrev AskFor : (words : List (List ℕ)) → (topic : List ℕ) → Type 0
AskFor words topic = asked words ≡ Some topic

-- one word with spaces in it, as a line that is pasted in quotes
abbrev AsksFor : (line topic : List ℕ) → Type 0
AsksFor line topic = AskFor (line ∷ []) topic

-- ---- pieces

pub words_and_lines : AskFor (codes "106" ∷ []) (codes "106")
    × AskFor (codes "not" ∷ codes "possible" ∷ []) (codes "not-possible")
    × AskFor (codes "4" ∷ codes "refused" ∷ codes "106" ∷ []) (codes "106")
    × AskFor (codes "4 refused" ∷ codes "106" ∷ []) (codes "106")
    × AsksFor (codes "not possible") (codes "not-possible")
    × AsksFor (codes " not  possible ") (codes "not-possible")
unfolding format_topics topics
words_and_lines = (refl, refl, refl, refl, refl, refl)

-- ---- neighbours before single pieces

pub lines_of_a_report : AsksFor (codes "4 refused 106") (codes "106")
    × AsksFor (codes "3 not possible") (codes "not-possible")
    × AsksFor (codes "1 status none") (codes "none")
    × AsksFor (codes "5 fault order") (codes "order")
    × AsksFor (codes "owed 100") (codes "owed")
unfolding format_topics topics
lines_of_a_report = (refl, refl, refl, refl, refl)

-- ---- single pieces, and numbers last

pub lines_of_faults : AsksFor (codes "--keys: read failed") (codes "keys")
    × AsksFor (codes "the scheme's sum beside the store can't be read") (codes "scheme")
    × AsksFor (codes "no node of the scheme") (codes "node")
    × AsksFor (codes "line 41: order") (codes "order")
    × AsksFor (codes "out of memory") (codes "memory")
    × AsksFor (codes "kyoto-link: store NZ: damaged 1") (codes "damaged")
    × AsksFor (codes "kyoto-link: store NZ: missing") (codes "missing")
    × AsksFor (codes "stuck at ITL 106") (codes "stuck")
unfolding format_topics topics
lines_of_faults = (refl, refl, refl, refl, refl, refl, refl, refl)

pub numbers_alone : AsksFor (codes "code 106.") (codes "106")
    × AsksFor (codes "106, 107") (codes "106")
unfolding format_topics topics
numbers_alone = (refl, refl)

-- ---- no topic

pub no_topic : (asked (codes "117" ∷ []) ≡ None) × (asked (codes "" ∷ []) ≡ None) × (asked (codes "no such thing" ∷ []) ≡ None)
unfolding format_topics topics
no_topic = (refl, refl, refl)
