use Rattle.std.proofs.Common.{◌≡◌, ◌<◌, length, arith}
use Rattle.std.proofs.lemmas.Grind.{common_steps}
use Rattle.tags.proofs.KeyLines.{too_many, no_text, all_keys}
use Rattle.tags.proofs.key_file.read_keys.Goals as goal

pub returns-then-not-is_empty-clause-fault : goal.returns-then-not-is_empty-clause-fault
returns-then-not-is_empty-clause-fault c =
    let ok = c.in_ok-left.ensures in
    let some : 0 < length c.in_ok-left.left.now = grind (arith, common_steps) in
    too_many c.args.text.now c.read_lines.new.entries.items c.in_ok-left.left.now ok.ok some (ok.left some)

pub returns-then-is_empty-clause-fault : goal.returns-then-is_empty-clause-fault
returns-then-is_empty-clause-fault c =
    let end : length c.in_ok-left.left.now ≡ 0 = grind (arith, common_steps) in
    no_text c.args.text.now c.read_lines.new.entries.items c.in_ok-left.left.now c.in_ok-left.ensures.ok end (grind (arith, common_steps))

pub returns-clause-ok : goal.returns-clause-ok
returns-clause-ok c =
    let ok = c.in_ok-left.ensures in
    let end : length c.in_ok-left.left.now ≡ 0 = grind (arith, common_steps) in
    let some : 0 < length c.read_lines.new.entries.items = grind (arith, common_steps) in
    all_keys c.args.text.now c.read_lines.new.entries.items c.in_ok-left.left.now ok.ok end some ok.most
