use Rattle.std.proofs.Common.{◌≡◌, ◌++◌, take, string_bytes}
use Rattle.std.specs.List.{flat_map}
use Rattle.status.specs.Content.{raws}
use Rattle.report.specs.ReportLines.{due_line}
use Rattle.report.proofs.debts.push_blocks.Given as goal

abbrev pub invariant-loop-block : goal.invariant-loop-block
invariant-loop-block l = string_bytes l.text ≡ string_bytes l.fn.text ++ flat_map (due_line l.form l.id) (raws (take l.block-index l.blocks))
