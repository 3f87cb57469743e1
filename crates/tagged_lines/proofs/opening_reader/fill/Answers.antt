use Rattle.std.proofs.Common.{ℕ, List, length, take, refl, subst, sym, arith}
use Rattle.std.specs.Io.KnownBytes.{Consumes}
use Rattle.tagged_lines.specs.Opening.{Fills}
use Rattle.tagged_lines.specs.declared.opening_reader.Stage.TheVariants.{Giving}
use Rattle.tagged_lines.proofs.FirstLines.{fills_whole, fills_long, fills_end}
use Rattle.tagged_lines.proofs.opening_reader.fill.Goals as goal

pub returns-then-count-eq0-clause-ok : goal.returns-then-count-eq0-clause-ok
returns-then-count-eq0-clause-ok g c =
    let old = g.R.Read.remaining c.args.inner.now in
    let new = g.R.Read.remaining c.read.new.self in
    let line = c.args.line.now.items in
    let none = subst (λ (n : ℕ). Consumes old new (take n c.read.new.buf)) c.if-count-eq0.true c.in_ok-count.ensures.bytes.0 in
    subst (λ (t : List ℕ). Fills old new line line (Giving (length t))) (sym c.as_slice.ensures.value) (fills_end old new line line c.requires.within.0 refl none (c.in_ok-count.ensures.bytes.1 c.if-count-eq0.true (omega arith)))

pub returns-in-Whole-clause-ok : goal.returns-in-Whole-clause-ok
returns-in-Whole-clause-ok g c =
    fills_whole (g.R.Read.remaining c.args.inner.now) (g.R.Read.remaining c.read.new.self) (take c.in_ok-count.count c.read.new.buf) c.args.line.now.items c.add.new.line.items c.requires.within.0 c.add.ensures.within c.in_ok-count.ensures.bytes.0 c.in-Whole.ensures.adds

pub returns-in-TooLong-clause-ok : goal.returns-in-TooLong-clause-ok
returns-in-TooLong-clause-ok g c =
    let old = g.R.Read.remaining c.args.inner.now in
    let new = g.R.Read.remaining c.read.new.self in
    let line = c.args.line.now.items in
    let line' = c.add.new.line.items in
    subst (λ (t : List ℕ). Fills old new line line' (Giving (length t))) (sym c.as_slice-in-TooLong.ensures.value) (fills_long old new (take c.in_ok-count.count c.read.new.buf) line line' c.requires.within.0 c.in_ok-count.ensures.bytes.0 c.in-TooLong.ensures.adds)
