use Rattle.std.proofs.Common.{◌≡◌, ◌++◌, take, string_bytes}
use Rattle.std.specs.List.{flat_map}
use Rattle.audit.specs.Cuts.{rest_lines}
use Rattle.audit.proofs.cutting.push_rests.Given as goal

abbrev pub invariant-loop-rest : goal.invariant-loop-rest
invariant-loop-rest l = string_bytes l.text ≡ string_bytes l.fn.text ++ flat_map (rest_lines l.form) (take l.rest-index l.rests)
