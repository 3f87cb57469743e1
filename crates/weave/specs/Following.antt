-- Journals of all nodes, followed into one world: how far, and why not further.
use Rattle.std.specs.Prelude.{◌≡◌, ◌<◌, ℕ, List, [], length, slice_get, slice_index_or, Some}
use Rattle.std.specs.Option.{option_map_or}
use Rattle.units.specs.declared.code.Node.{Node}
use Rattle.wire.specs.declared.input.Input.{Input}
use Rattle.scheme.specs.declared.registries.Scheme.{Scheme}
use Rattle.protocol.specs.Registries.{nodes, index_of}
use Rattle.protocol.specs.Claims.{DeliversWelcome, committed_of, committed_part, live_of}
use Rattle.protocol.specs.Headline.{IsSafe}
use Rattle.protocol.specs.WayOut.{WayOut}
use Rattle.protocol.specs.Weave.{ArePrefixes, IsQuiet, IsStuck, Projects}
use Rattle.protocol.specs.World.{World, opening, run, station}
use Rattle.protocol.specs.declared.event.WorldEvent.{WorldEvent}
use Rattle.weave.specs.declared.fault.WeaveFault.{WeaveFault}
use Rattle.weave.specs.declared.fault.WeaveFault.TheVariants.{Stuck, NoMemory}

-- ---- the journals, one for each node: the log's, then those of the registries in the scheme's order

abbrev pub journal_of : Scheme → List (List Input) → Node → List Input
journal_of scheme journals n = option_map_or (λ k. slice_index_or journals k []) (index_of scheme n) []

abbrev pub committed_at : World → Node → List Input
committed_at w n = committed_part (station w n)

-- ---- how far

-- every node is idle, every message that was sent is posted, and the committed records are the first ones of the
-- journals
pub record HasFollowed (w : World) (journals : Node → List Input) : Type 0 where
  pub quiet : IsQuiet w
  pub front : ArePrefixes (committed_at w) journals

-- the node has a record left, the first one is at that place, and the nodes before it have none left
pub record IsFirstLeft (w : World) (journals : Node → List Input) (n : Node) (place : ℕ) : Type 0 where
  pub at : ℕ
  pub is : slice_get (nodes w.scheme) at ≡ Some n
  pub placed : place ≡ length (committed_at w n)
  pub left : place < length (journals n)
  pub before : (k : ℕ) (m : Node) → k < at → slice_get (nodes w.scheme) k ≡ Some m → committed_at w m ≡ journals m

-- ---- the results of following

-- the events reach a world from which the journals can't be followed further, and the node is the first with a record
-- left
pub record IsStuckAt (scheme : Scheme) (journals : Node → List Input) (n : Node) (place : ℕ) : Type 0 where
  pub events : List WorldEvent
  pub followed : HasFollowed (run (opening scheme) events) journals
  pub stuck : IsStuck (run (opening scheme) events) journals
  pub first : IsFirstLeft (run (opening scheme) events) journals n place

-- the events lead to the journals and to the world; in the world no tonne is in two places and none is lost, and there
-- is a way out of it
pub record IsWoven (scheme : Scheme) (journals : Node → List Input) (events : List WorldEvent) (w : World) : Type 0 where
  pub projects : Projects scheme events journals
  pub world : w ≡ run (opening scheme) events
  pub live : IsSafe scheme (live_of w)
  pub committed : IsSafe scheme (committed_of w)
  pub welcome : DeliversWelcome w
  pub way_out : WayOut w

-- no list of events leads to the journals
abbrev pub HasNoEvents : Scheme → (Node → List Input) → Type 0
HasNoEvents scheme journals = (events : List WorldEvent) → Projects scheme events journals → ⊥

-- the journals have the fault; running out of memory says nothing about the journals
abbrev pub IsWeaveFault : Scheme → (Node → List Input) → WeaveFault → Type 0
IsWeaveFault scheme journals (Stuck n place) = IsStuckAt scheme journals n place × HasNoEvents scheme journals
IsWeaveFault scheme journals NoMemory = Unit {0}
