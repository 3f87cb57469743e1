use Rattle.std.proofs.Common.{Some, is_some, arith, sym, ap, ◌∙◌}
use Rattle.std.proofs.lemmas.List.Elements.{All-get_or}
use Rattle.world.specs.Cores.{node_of, scheme_of}
use Rattle.world.specs.Kept.{IsKept, world_of}
use Rattle.world.specs.Stations.{station_of}
use Rattle.world.proofs.PlacedStations.{placed, there, unplaced}
use Rattle.world.proofs.Indices.{index_find, index_found, index_node, index_none, index_within}
use Rattle.world.proofs.RegistriesInWorlds.{live_none}
use Rattle.world.proofs.world.World.station.Goals as goal

pub returns-in_err-at-clause-seen : goal.returns-in_err-at-clause-seen
returns-in_err-at-clause-seen c =
    let inside = c.self.inside in
    rw (← c.self.view_is, c.from_residual.ensures) (sym (index_none inside.stations.items c.args.node (unplaced inside.scheme inside.stations.items c.args.node c.self.invariant.nodes_are c.in_err-at.ensures)))

pub returns-in_err-at-clause-there : goal.returns-in_err-at-clause-there
returns-in_err-at-clause-there c =
    let inside = c.self.inside in
    let none = index_none inside.stations.items c.args.node (unplaced inside.scheme inside.stations.items c.args.node c.self.invariant.nodes_are c.in_err-at.ensures) in
    rw (← c.self.view_is, c.from_residual.ensures) (ap is_some (sym none) ∙ there inside.scheme inside.stations.items c.args.node c.self.invariant.nodes_are)

pub returns-in_err-at-clause-none : goal.returns-in_err-at-clause-none
returns-in_err-at-clause-none c =
    let inside = c.self.inside in
    let none = index_none inside.stations.items c.args.node (unplaced inside.scheme inside.stations.items c.args.node c.self.invariant.nodes_are c.in_err-at.ensures) in
    rw (← c.self.view_is, c.from_residual.ensures) (live_none (world_of inside.scheme inside.stations.items inside.bag.items) c.args.node none)

pub index-requires : goal.index-requires
index-requires c =
    let inside = c.self.inside in
    let index = index_found inside.stations.items c.args.node c.in_ok-at.at (placed inside.scheme inside.stations.items c.args.node c.in_ok-at.at c.self.invariant.nodes_are c.in_ok-at.ensures) in
    omega (arith, index_within _ _ _ index, inside.stations.ok.0)

pub returns-clause-seen : goal.returns-clause-seen
returns-clause-seen c =
    let inside = c.self.inside in
    let index = index_found inside.stations.items c.args.node c.in_ok-at.at (placed inside.scheme inside.stations.items c.args.node c.in_ok-at.at c.self.invariant.nodes_are c.in_ok-at.ensures) in
    rw (← c.self.view_is) (ap (λ s. Some (station_of s)) c.index.ensures ∙ sym (index_find inside.stations.items c.args.node c.in_ok-at.at c.index.result.now index))

pub returns-clause-there : goal.returns-clause-there
returns-clause-there c =
    let inside = c.self.inside in
    let index = index_found inside.stations.items c.args.node c.in_ok-at.at (placed inside.scheme inside.stations.items c.args.node c.in_ok-at.at c.self.invariant.nodes_are c.in_ok-at.ensures) in
    rw (← c.self.view_is) (ap is_some (sym (index_find inside.stations.items c.args.node c.in_ok-at.at c.index.result.now index)) ∙ there inside.scheme inside.stations.items c.args.node c.self.invariant.nodes_are)

pub returns-clause-scheme : goal.returns-clause-scheme
returns-clause-scheme c =
    let inside = c.self.inside in
    let index = index_found inside.stations.items c.args.node c.in_ok-at.at (placed inside.scheme inside.stations.items c.args.node c.in_ok-at.at c.self.invariant.nodes_are c.in_ok-at.ensures) in
    let kept = All-get_or (IsKept inside.scheme inside.bag.items) inside.stations.items c.in_ok-at.at c.index.result.now (index_within _ _ _ index) c.self.invariant.kept in
    rw (← c.self.view_is) (ap (λ s. scheme_of s.core) c.index.ensures ∙ kept.scheme_is)

pub returns-clause-node : goal.returns-clause-node
returns-clause-node c =
    let inside = c.self.inside in
    let index = index_found inside.stations.items c.args.node c.in_ok-at.at (placed inside.scheme inside.stations.items c.args.node c.in_ok-at.at c.self.invariant.nodes_are c.in_ok-at.ensures) in
    ap (λ s. node_of s.core) c.index.ensures ∙ index_node inside.stations.items c.args.node c.in_ok-at.at c.index.result.now index
