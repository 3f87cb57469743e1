use Rattle.std.proofs.Common.{arith, ℕ, List, ◌++◌, ◌∷◌, take, drop, sym, ap, ◌∙◌}
use Rattle.std.proofs.lemmas.Grind.{elements}
use Rattle.std.proofs.Math.Seq.{split_at}
use Rattle.tags.proofs.tag.split_tagged.Goals as goal

pub returns-clause-some : goal.returns-clause-some
returns-clause-some c =
    let line = c.args.line.now in
    record {
      whole =
          split_at line 64 0 c.if-line-le-TAG_DIGITS.false ∙ ap (λ (b : ℕ). take 64 line ++ b ∷ drop 65 line) c.if-line-ne32.false
          ∙ ap (λ (t : List ℕ). t ++ 32 ∷ drop 65 line) (sym c.split_at.ensures.front) ∙ ap (λ (t : List ℕ). c.split_at.result.0.now ++ 32 ∷ t) (sym c.split_at-2.ensures.back);
      count = c.split_at.ensures.front_len;
    }

pub returns-then-line-le-TAG_DIGITS-clause-none : goal.returns-then-line-le-TAG_DIGITS-clause-none
returns-then-line-le-TAG_DIGITS-clause-none c = grind (arith, elements)
