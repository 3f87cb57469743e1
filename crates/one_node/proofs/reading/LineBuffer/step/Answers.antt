use Rattle.std.proofs.Common.{◌≡◌, ◌≢◌, ◌<◌, ◌≤◌, ◌+◌, ◌∷◌, ◌++◌, [], ℕ, List, length, subst, arith}
use Rattle.std.specs.Io.KnownBytes.{Consumes}
use Rattle.units.specs.Limits.{longest_line}
use Rattle.one_node.specs.Reading.{held_of}
use Rattle.one_node.proofs.HeldLines.{held_long, held_short, reads_line, reads_more, reads_none}
use Rattle.one_node.proofs.reading.LineBuffer.step.Goals as goal

pub loop-init : goal.loop-init
loop-init g c =
    let held = c.args.self.now.held in
    let within : length held.items ≤ longest_line + 1 = grind (arith, held.ok, c.args.self.now.within) in
    ([], reads_none held.items (g.R.Read.remaining c.args.reader.now) within)

pub returns-in-Read-eq10 : goal.returns-in-Read-eq10
returns-in-Read-eq10 g c =
    let remaining = g.R.Read.remaining in
    let so_far = c.loop.invariant in
    let held = c.loop.self.held in
    let one : Consumes (remaining c.loop.reader) (remaining c.read_byte.new.reader) (10 ∷ []) = subst (λ (b : ℕ). Consumes (remaining c.loop.reader) (remaining c.read_byte.new.reader) (b ∷ [])) c.in-Read-eq10.field-0-test c.in-Read-eq10.ensures in
    let long : longest_line < length held.items = grind (arith, c.len.ensures, c.if-len-gt-LONGEST_LINE.true, held.ok) in (
      so_far.0,
      reads_line c.args.self.now.held.items held.items (remaining c.args.reader.now) (remaining c.loop.reader) (remaining c.read_byte.new.reader) so_far.0 so_far.1 one,
      held_long (c.args.self.now.held.items ++ so_far.0) (subst (λ (xs : List ℕ). longest_line < length xs) so_far.1.held long),
    )

pub returns-in-Read-eq10-2 : goal.returns-in-Read-eq10-2
returns-in-Read-eq10-2 g c =
    let remaining = g.R.Read.remaining in
    let so_far = c.loop.invariant in
    let held = c.loop.self.held in
    let one : Consumes (remaining c.loop.reader) (remaining c.read_byte.new.reader) (10 ∷ []) = subst (λ (b : ℕ). Consumes (remaining c.loop.reader) (remaining c.read_byte.new.reader) (b ∷ [])) c.in-Read-eq10.field-0-test c.in-Read-eq10.ensures in
    let short : length held.items ≤ longest_line = grind (arith, c.len.ensures, c.if-len-gt-LONGEST_LINE.false, held.ok) in (
      so_far.0,
      reads_line c.args.self.now.held.items held.items (remaining c.args.reader.now) (remaining c.loop.reader) (remaining c.read_byte.new.reader) so_far.0 so_far.1 one,
      held_short (c.args.self.now.held.items ++ so_far.0) (subst (λ (xs : List ℕ). length xs ≤ longest_line) so_far.1.held short),
    )

pub loop-preserved : goal.loop-preserved
loop-preserved g c =
    let remaining = g.R.Read.remaining in
    let so_far = c.loop.invariant in
    let differs : c.in-Read.byte ≢ 10 = c.in-Read.byte-test.1 in (
      so_far.0 ++ c.in-Read.byte ∷ [],
      reads_more c.args.self.now.held.items c.loop.self.held.items c.hold.new.self.held.items (remaining c.args.reader.now) (remaining c.loop.reader) (remaining c.read_byte.new.reader)
          so_far.0 c.in-Read.byte so_far.1 c.in-Read.ensures differs c.hold.ensures,
    )
