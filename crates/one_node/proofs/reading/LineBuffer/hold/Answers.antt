use Rattle.std.proofs.Common.{◌<◌, ◌≤◌, ◌+◌, ◌∷◌, [], ◌++◌, ◌∙◌, length, sym, arith}
use Rattle.std.proofs.lemmas.List.{length-append}
use Rattle.units.specs.Limits.{longest_line}
use Rattle.one_node.proofs.HeldLines.{held_more, held_whole}
use Rattle.one_node.proofs.reading.LineBuffer.hold.Goals as goal

pub returns-then-len-le-LONGEST_LINE : goal.returns-then-len-le-LONGEST_LINE
returns-then-len-le-LONGEST_LINE c =
    let held = c.args.self.now.held in
    let low : length held.items ≤ longest_line = grind (arith, c.len.ensures, c.if-len-le-LONGEST_LINE.true, held.ok) in
    c.push_reserved.ensures.items ∙ sym (held_whole (held.items ++ c.args.byte ∷ []) (omega (arith, low, length-append held.items (c.args.byte ∷ []))))

pub returns-else-len-le-LONGEST_LINE : goal.returns-else-len-le-LONGEST_LINE
returns-else-len-le-LONGEST_LINE c =
    let held = c.args.self.now.held in
    let within : length held.items ≤ longest_line + 1 = grind (arith, held.ok, c.args.self.now.within) in
    let long : longest_line < length held.items = grind (arith, c.len.ensures, c.if-len-le-LONGEST_LINE.false, held.ok) in
    held_more held.items c.args.byte within long
