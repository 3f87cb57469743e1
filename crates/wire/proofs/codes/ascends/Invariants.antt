use Rattle.std.proofs.Common.{◌≡◌, ◌↔◌, drop}
use Rattle.wire.specs.Codes.{Ascends}
use Rattle.wire.proofs.codes.ascends.Given as goal

-- the codes that are left go on from the least code that may come
abbrev pub invariant-loop-code : goal.invariant-loop-code
invariant-loop-code l = (Ascends l.fn.first l.last l.codes ↔ Ascends l.least l.last (drop l.code-index l.codes)) × (l.last ≡ l.fn.last)
