use Rattle.std.proofs.Common.{◌≡◌, length, refl, ap, ◌-◌, arith}
use Rattle.tagged_lines.proofs.FirstLines.{long_front}
use Rattle.tagged_lines.proofs.line.add.Goals as goal

pub returns-in-TooLong-clause-adds : goal.returns-in-TooLong-clause-adds
returns-in-TooLong-clause-adds c =
    let line = c.args.line.now in
    let size : c.len.result ≡ length line.items = grind (arith, c.len.ensures, line.ok) in
    (refl, long_front c.args.limit _ line.items c.args.bytes.now (ap (λ n. c.args.limit - n) size) c.in-TooLong.ensures.0 c.in-TooLong.ensures.1)
