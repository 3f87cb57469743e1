use Rattle.std.proofs.Common.{◌≡◌, All, filter, map, take}
use Rattle.weave.specs.Left.{IsRest, has_rest}
use Rattle.weave.proofs.cut.rests_of.Given as goal

-- of the first nodes, each that has records left is there with its rest
abbrev pub invariant-loop-node : goal.invariant-loop-node
invariant-loop-node l =
    (map (λ r. r.node) l.rests.items ≡ filter (has_rest l.world) (take l.node-index l.among)) × All (λ r. IsRest l.world r.node r) l.rests.items
