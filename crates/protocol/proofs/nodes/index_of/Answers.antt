use Rattle.std.proofs.Common.{arith, sym, ap, ◌∙◌, ◌+◌, option_map}
use Rattle.units.specs.declared.code.Node.{Node}
use Rattle.units.proofs.Lists.FirstIndices.{index_below}
use Rattle.scheme.proofs.Searching.{has_code}
use Rattle.protocol.specs.Registries.{index_of}
use Rattle.protocol.proofs.NodeIndices.{registry_index}
use Rattle.protocol.proofs.nodes.index_of.Goals as goal

pub returns-in_err-index-in-Registry : goal.returns-in_err-index-in-Registry
returns-in_err-index-in-Registry c =
    c.from_residual.ensures
    ∙ sym (ap (λ (n : Node). index_of c.args.scheme.now n) c.in-Registry.is ∙ registry_index c.args.scheme.now c.in-Registry.code ∙ ap (option_map (λ i. i + 1)) (sym c.in_err-index-in-Registry.ensures))

pub overflow_add-result : goal.overflow_add-result
overflow_add-result c =
    let below = index_below (has_code c.in-Registry.code) c.args.scheme.now.members c.in_ok-index-in-Registry.index (sym c.in_ok-index-in-Registry.ensures) in
    let few = c.args.scheme.now.sound.free.0.registries in
    omega (arith, below, few)

pub returns-in_ok-index-in-Registry : goal.returns-in_ok-index-in-Registry
returns-in_ok-index-in-Registry c =
    sym (ap (λ (n : Node). index_of c.args.scheme.now n) c.in-Registry.is ∙ registry_index c.args.scheme.now c.in-Registry.code ∙ ap (option_map (λ i. i + 1)) (sym c.in_ok-index-in-Registry.ensures))
