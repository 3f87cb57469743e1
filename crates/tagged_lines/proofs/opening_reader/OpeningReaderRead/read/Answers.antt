use Rattle.std.proofs.Common.{◌+◌, List, ℕ, length, take, drop, sym, ap, ◌∙◌, arith}
use Rattle.tagged_lines.proofs.FirstLines.{keeps_reading, gives_out, gives_end}
use Rattle.tagged_lines.proofs.opening_reader.OpeningReaderRead.read.Goals as goal

pub returns-in_ok-self-inside-in-Reading-clause-bytes : goal.returns-in_ok-self-inside-in-Reading-clause-bytes
returns-in_ok-self-inside-in-Reading-clause-bytes g c =
    let own = c.self.inside in
    keeps_reading g.R.Read.remaining c.args.self.now own.inner own.keys.now own.node own.line.items c.fill.new.inner c.fill.new.line.items own.stage c.in_ok-self-inside-in-Reading.field-0 (sym c.self.view_is) c.in-Reading.is c.in_ok-self-inside-in-Reading.ensures.ok

pub returns-in-Giving-clause-bytes : goal.returns-in-Giving-clause-bytes
returns-in-Giving-clause-bytes g c =
    let own = c.self.inside in (
      gives_out g.R.Read.remaining c.args.self.now own.inner own.keys.now own.node own.line.items own.stage c.in-Giving.at c.give-count.result c.give-count.new.piece (sym c.self.view_is) c.in-Giving.is (c.give-count.ensures.bytes ∙ ap (λ (t : List ℕ). take c.give-count.result (drop c.in-Giving.at t)) c.as_slice.ensures.value),
      λ none room. gives_end (g.R.Read.remaining own.inner) own.line.items (c.in-Giving.at + c.give-count.result) (let line = c.as_slice.ensures.value in let len = c.give-count.ensures.len in let end = c.give-count.ensures.end none (omega (arith, len, room)) in omega (arith, end, none, ap length line)),
    )
