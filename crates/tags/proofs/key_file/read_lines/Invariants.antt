use Rattle.std.proofs.Common.{◌≡◌, length}
use Rattle.tags.specs.KeysText.{ReadsKeys}
use Rattle.tags.proofs.key_file.read_lines.Given as goal

abbrev pub invariant-loop : goal.invariant-loop
invariant-loop l = record { reads : ReadsKeys l.text l.entries.items l.left; count : length l.entries.items ≡ l.counter }
