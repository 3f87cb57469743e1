-- A world after one of its nodes has done something.
use Rattle.std.proofs.Common.{◌≡◌, ℕ, List, get_or, Option, Some, None, option_map, refl, sym, ap, ◌∙◌}
use Rattle.std.proofs.Math.ListN.{set}
use Rattle.std.specs.List.{position_from}
use Rattle.units.specs.declared.code.Node.{Node}
use Rattle.protocol.specs.declared.event.Outcome.{Outcome}
use Rattle.protocol.specs.declared.event.Outcome.TheVariants.{NotPossible}
use Rattle.scheme.specs.declared.registries.Scheme.{Scheme}
use Rattle.status.specs.declared.moment.Moment.{Moment}
use Rattle.wire.specs.declared.message.Message.{Message}
use Rattle.wire.specs.declared.input.Input.TheVariants.{Received}
use Rattle.protocol.specs.declared.event.Posted.{Posted}
use Rattle.world.specs.declared.station.Station.{Station as Kept}
use Rattle.protocol.specs.World.{Station, World, Turn, Stepped, station, put, at_node, stays, deliver, take_input}
use Rattle.world.specs.Cores.{node_of}
use Rattle.world.specs.Kept.{world_of}
use Rattle.world.specs.Stations.{station_of}
use Rattle.world.proofs.Indices.{is_of, IsIndex, index_find, index_put, index_node, index_none, same_seen}

abbrev pub after : World → Outcome → Stepped
after w o = record { world = w; outcome = o }

abbrev pub turn : Kept → Outcome → Turn
turn s o = record { station = station_of s; outcome = o }

pub turned : (scheme : Scheme) (ss : List Kept) (bag : List Posted) (n : Node) (at : ℕ) (old new : Kept) (o : Outcome) (f : Station → Turn) → IsIndex ss n at → old ≡ get_or ss at old → node_of new.core ≡ node_of old.core
    → turn new o ≡ f (station_of old) → after (world_of scheme (set ss at new) bag) o ≡ at_node (world_of scheme ss bag) (station (world_of scheme ss bag) n) f
turned scheme ss bag n at old new o f index is node does =
    let w = world_of scheme ss bag in
    let here : station w n ≡ Some (station_of old) = index_find ss n at old index ∙ ap (λ (s : Kept). Some (station_of s)) (sym is) in
    let its : node_of new.core ≡ n = node ∙ ap (λ (s : Kept). node_of s.core) is ∙ index_node ss n at old index in
    ap (λ (l : List Station). after (record w { stations = l }) o) (sym (index_put ss n at new its index))
    ∙ ap (λ (t : Turn). after (put w t.station) t.outcome) does
    ∙ sym (ap (λ (x : Option Station). at_node w x f) here)

pub absent : (scheme : Scheme) (ss : List Kept) (bag : List Posted) (n : Node) (f : Station → Turn) → position_from (is_of n) 0 ss ≡ None
    → after (world_of scheme ss bag) NotPossible ≡ at_node (world_of scheme ss bag) (station (world_of scheme ss bag) n) f
absent scheme ss bag n f none = sym (ap (λ (x : Option Station). at_node (world_of scheme ss bag) x f) (index_none ss n none))

pub still : (scheme : Scheme) (ss : List Kept) (bag : List Posted) (at : ℕ) (old new : Kept) → old ≡ get_or ss at old → station_of new ≡ station_of old → world_of scheme (set ss at new) bag ≡ world_of scheme ss bag
still scheme ss bag at old new is e = ap (λ (l : List Station). record (world_of scheme ss bag) { stations = l }) (same_seen ss at old new is e)

-- a node that does something leaves the bag as it was
pub at_node_bag : (w : World) (o : Option Station) (f : Station → Turn) → (at_node w o f).world.bag ≡ w.bag
at_node_bag w None f = refl
at_node_bag w (Some s) f = refl

-- ---- messages

pub delivered_bag : (w : World) (moment : Moment) (o : Option Posted) → (deliver w moment o).world.bag ≡ w.bag
delivered_bag w moment None = refl
delivered_bag w moment (Some p) = at_node_bag w (station w p.message.to) (take_input w.scheme (Received p.message moment))

pub delivered : (w : World) (moment : Moment) (o : Option Posted) (m : Message) → option_map (λ (p : Posted). p.message) o ≡ Some m
    → deliver w moment o ≡ at_node w (station w m.to) (take_input w.scheme (Received m moment))
delivered w moment None m e = cc
delivered w moment (Some p) m e =
    let same : p.message ≡ m = cc in
    ap (λ (x : Message). at_node w (station w x.to) (take_input w.scheme (Received x moment))) same

pub undelivered : (w : World) (moment : Moment) (o : Option Posted) → option_map (λ (p : Posted). p.message) o ≡ None → deliver w moment o ≡ stays w NotPossible
undelivered w moment None e = refl
undelivered w moment (Some p) e = cc
