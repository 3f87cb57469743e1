use Rattle.std.proofs.Common.{◌≢◌, ◌∙◌, List, ◌∷◌, map, length, sym, ap, arith}
use Rattle.std.specs.Prelude.{slice_get}
use Rattle.std.proofs.lemmas.List.{length-map}
use Rattle.units.specs.declared.code.Node.TheVariants.{Itl, Registry}
use Rattle.scheme.specs.declared.members.SchemeRegistry.{SchemeRegistry}
use Rattle.protocol.proofs.NodeIndices.{registry_at}
use Rattle.protocol.proofs.nodes.node_at.Goals as goal

pub returns : goal.returns
returns c =
    let some : c.args.index ≢ 0 = c.if-index-eq0.false in
    let many = length-map c.args.scheme.now.members (λ (m : SchemeRegistry). Registry m.code) in
    let same = ap (λ (ms : List SchemeRegistry). length ms) c.registries.ensures in
    ap (λ (ms : List SchemeRegistry). slice_get (Itl ∷ map (λ (m : SchemeRegistry). Registry m.code) ms) c.args.index) (sym c.registries.ensures)
    ∙ registry_at c.registries.result.now c.args.index c.index-registries-index.result some (omega (arith, many, same, c.requires, some))
