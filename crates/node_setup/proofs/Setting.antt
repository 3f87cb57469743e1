-- The words of a setup, one after another.
use Rattle.std.proofs.Common.{◌≡◌, List, map, subst}
use Rattle.std.specs.Prelude.{String, string_bytes}
use Rattle.std.specs.declared.alloc.Global.{Global}
use Rattle.units.specs.declared.code.Node.{Node}
use Rattle.protocol.specs.Scheme.{Scheme}
use Rattle.command_faults.specs.declared.fault.OpFault.{OpFault}
use Rattle.node_setup.specs.Peers.{FailsToLink}
use Rattle.node_setup.specs.declared.peers.Guard.{Guard}

pub links_as : (scheme : Scheme) (node : Node) (g h : Guard) (words same : List (String Global)) (fault : OpFault) → g ≡ h → words ≡ same → FailsToLink scheme node g (map string_bytes words) fault
    → FailsToLink scheme node h (map string_bytes same) fault
links_as scheme node g h words same fault gs ws fails =
    subst (λ (guard : Guard). FailsToLink scheme node guard (map string_bytes same) fault) gs (subst (λ (vs : List (String Global)). FailsToLink scheme node g (map string_bytes vs) fault) ws fails)
