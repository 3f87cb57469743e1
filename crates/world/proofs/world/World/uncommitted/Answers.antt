use Rattle.std.proofs.Common.{◌∙◌, [], List, sym, ap, subst}
use Rattle.scheme.specs.declared.registries.Scheme.{Scheme}
use Rattle.protocol.specs.declared.event.Posted.{Posted}
use Rattle.world.specs.Kept.{AreKept, world_of}
use Rattle.world.proofs.Uncommitted.{kept_uncommitted, seen_uncommitted}
use Rattle.world.proofs.world.World.uncommitted.Goals as goal

pub invariant_of-result : goal.invariant_of-result
invariant_of-result c =
    let stations = c.in_ok-stations.stations.items in
    subst (λ (bag : List Posted). AreKept c.in_ok-copy.field-0 stations bag) (sym c.new.ensures.items)
    (subst (λ (scheme : Scheme). AreKept scheme stations []) (sym c.in_ok-copy.ensures)
    (kept_uncommitted c.args.scheme.now c.args.cores.items stations c.in_ok-stations.ensures.cores c.requires.nodes c.requires.schemes c.in_ok-stations.ensures.posted))

pub returns : goal.returns
returns c =
    let stations = c.in_ok-stations.stations.items in
    ap (λ (bag : List Posted). world_of c.in_ok-copy.field-0 stations bag) c.new.ensures.items
    ∙ ap (λ (scheme : Scheme). world_of scheme stations []) c.in_ok-copy.ensures
    ∙ seen_uncommitted c.args.scheme.now c.args.cores.items stations c.in_ok-stations.ensures.cores c.in_ok-stations.ensures.seen
