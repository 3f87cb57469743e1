-- The furthest cut of journals, and the records beyond it.
use Rattle.std.specs.Prelude.{◌≡◌, ◌+◌, Bool, not, nat_le, All, List, [], Some, filter, length, map, slice_get}
use Rattle.units.specs.declared.code.Node.{Node}
use Rattle.wire.specs.declared.input.Input.{Input}
use Rattle.scheme.specs.declared.registries.Scheme.{Scheme}
use Rattle.protocol.specs.Claims.{DeliversWelcome, committed_of, live_of}
use Rattle.protocol.specs.Headline.{IsSafe}
use Rattle.protocol.specs.Registries.{nodes}
use Rattle.protocol.specs.WayOut.{WayOut}
use Rattle.protocol.specs.Weave.{IsFurthestCut, IsQuiet, Projects, WasSent}
use Rattle.protocol.specs.World.{opening, run}
use Rattle.weave.specs.Following.{committed_at}
use Rattle.weave.specs.declared.cut.Cut.{Cut}
use Rattle.weave.specs.declared.cut.Rest.{Rest}

-- the node's journal has records beyond the cut
abbrev pub goes_beyond : (journals cut : Node → List Input) → Node → Bool
goes_beyond journals cut n = not (nat_le (length (journals n)) (length (cut n)))

-- these are the node's records beyond the cut, and by the records of the cut no node sends the message of the first of
-- them
pub record IsBeyond (scheme : Scheme) (journals cut : Node → List Input) (r : Rest) : Type 0 where
  pub place : r.place ≡ length (cut r.node)
  pub count : length (journals r.node) ≡ r.place + r.count
  pub next : slice_get (journals r.node) r.place ≡ Some r.next
  pub unsent : WasSent scheme cut r.node r.next → ⊥

-- the events lead to the world; they commit first records of the journals, and no events commit more of any journal; in
-- the world every node is idle, no tonne is in two places and none is lost, and there is a way out of it; and these are
-- the records beyond the cut
pub record IsCut (scheme : Scheme) (journals : Node → List Input) (c : Cut) : Type 0 where
  pub furthest : IsFurthestCut scheme journals c.events.items
  pub world : c.world ≡ run (opening scheme) c.events.items
  pub quiet : IsQuiet c.world
  pub live : IsSafe scheme (live_of c.world)
  pub committed : IsSafe scheme (committed_of c.world)
  pub welcome : DeliversWelcome c.world
  pub way_out : WayOut c.world
  pub left : map (λ r. r.node) c.rests.items ≡ filter (goes_beyond journals (committed_at c.world)) (nodes scheme)
  pub beyond : All (IsBeyond scheme journals (committed_at c.world)) c.rests.items
  pub whole : c.rests.items ≡ [] → Projects scheme c.events.items journals
