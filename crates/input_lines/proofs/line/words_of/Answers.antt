use Rattle.std.proofs.Common.{◌≡◌, [], ◌∷◌, ◌++◌, rules}
use Rattle.input_lines.proofs.SpacedWords.{passed_more}
use Rattle.input_lines.proofs.line.words_of.Goals as goal

pub loop-word-preserved : goal.loop-word-preserved
loop-word-preserved c =
    let e : c.push.new.self.items ≡ c.loop-word.found.items ++ c.in-Some.word ∷ [] = search rules in
    record {
      utf8 = search rules;
      passed = rw e (passed_more _ _ _ _ _ c.loop-word.invariant.passed c.in-Some.ensures.some.0 c.in-Some.ensures.some.1);
    }
