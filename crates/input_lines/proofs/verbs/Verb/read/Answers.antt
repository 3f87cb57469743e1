use Rattle.std.proofs.Common.{◌≡◌, ◌<◌, ℕ, List, [], ◌∷◌, get_or, lit<}
use Rattle.std.proofs.Math.Nat.{le_trans}
use Rattle.input_lines.specs.Verbs.{verb_text}
use Rattle.input_lines.specs.declared.verbs.Numbered.TheVariants.{Ack, Commit, Post, Crash}
use Rattle.input_lines.specs.declared.verbs.OrderVerb.TheVariants.{Propose, Request, Open, Close, CleanUp, Eligible}
use Rattle.input_lines.specs.declared.verbs.Verb.{Verb}
use Rattle.input_lines.specs.declared.verbs.Verb.TheVariants.{Order, Numbered, Deliver, Restart}
use Rattle.input_lines.proofs.verbs.Verb.read.Goals as goal

abbrev verbs : List Verb
verbs =
    Order Propose ∷ Order Request ∷ Order Open ∷ Order Close ∷ Order CleanUp ∷ Order Eligible ∷ Numbered Ack ∷ Numbered Commit ∷ Numbered Post ∷ Deliver ∷ Numbered Crash ∷ Restart ∷ []

none_of : (word : List ℕ) → ((n : ℕ) → n < 12 → word ≡ verb_text (get_or verbs n (Order Propose)) → ⊥) → (v : Verb) → word ≡ verb_text v → ⊥
none_of word free (Order Propose) h = free 0 (lit< tt) h
none_of word free (Order Request) h = free 1 (lit< tt) h
none_of word free (Order Open) h = free 2 (lit< tt) h
none_of word free (Order Close) h = free 3 (lit< tt) h
none_of word free (Order CleanUp) h = free 4 (lit< tt) h
none_of word free (Order Eligible) h = free 5 (lit< tt) h
none_of word free (Numbered Ack) h = free 6 (lit< tt) h
none_of word free (Numbered Commit) h = free 7 (lit< tt) h
none_of word free (Numbered Post) h = free 8 (lit< tt) h
none_of word free Deliver h = free 9 (lit< tt) h
none_of word free (Numbered Crash) h = free 10 (lit< tt) h
none_of word free Restart h = free 11 (lit< tt) h

pub returns-clause-none : goal.returns-clause-none
returns-clause-none c = none_of c.args.word.now (λ n below. c.loop-verb.invariant n (le_trans below c.loop-verb-test.false))
