use Rattle.std.proofs.Common.{◌≡◌, ◌<◌, ℕ, List, [], ◌∷◌, get_or, lit<}
use Rattle.std.proofs.Math.Nat.{le_trans}
use Rattle.input_lines.specs.Verbs.{line_verb_text}
use Rattle.input_lines.specs.declared.verbs.LineVerb.{LineVerb}
use Rattle.input_lines.specs.declared.verbs.LineVerb.TheVariants.{Order, Status, Until}
use Rattle.input_lines.specs.declared.verbs.OrderVerb.TheVariants.{Propose, Request, Open, Close, CleanUp, Eligible}
use Rattle.input_lines.proofs.verbs.LineVerb.read.Goals as goal

abbrev verbs : List LineVerb
verbs = Order Propose ∷ Order Request ∷ Order Open ∷ Order Close ∷ Order CleanUp ∷ Order Eligible ∷ Status ∷ Until ∷ []

none_of : (word : List ℕ) → ((n : ℕ) → n < 8 → word ≡ line_verb_text (get_or verbs n Status) → ⊥) → (v : LineVerb) → word ≡ line_verb_text v → ⊥
none_of word free (Order Propose) h = free 0 (lit< tt) h
none_of word free (Order Request) h = free 1 (lit< tt) h
none_of word free (Order Open) h = free 2 (lit< tt) h
none_of word free (Order Close) h = free 3 (lit< tt) h
none_of word free (Order CleanUp) h = free 4 (lit< tt) h
none_of word free (Order Eligible) h = free 5 (lit< tt) h
none_of word free Status h = free 6 (lit< tt) h
none_of word free Until h = free 7 (lit< tt) h

pub returns-clause-none : goal.returns-clause-none
returns-clause-none c = none_of c.args.word.now (λ n below. c.loop-verb.invariant n (le_trans below c.loop-verb-test.false))
