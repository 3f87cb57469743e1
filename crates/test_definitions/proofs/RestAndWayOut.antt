-- Consequences of the claims about worlds at rest, ways out and stuck worlds, each at a world of its own; and worlds
-- that are not quiet.
use Rattle.std.proofs.Common.{◌≡◌, ◌+◌, ◌≤◌, true, List, [], ◌∷◌, refl, ap, ◌∙◌}
use Rattle.std.specs.Prelude.{Contains, take}
use Rattle.units.specs.declared.code.Code.{Code}
use Rattle.units.specs.declared.code.Node.{Node}
use Rattle.units.specs.declared.code.Node.TheVariants.{Itl}
use Rattle.wire.specs.declared.input.Input.{Input}
use Rattle.wire.specs.declared.message.ProposalStatus.TheVariants as proposal
use Rattle.status.specs.declared.id.TransactionId.{TransactionId}
use Rattle.protocol.specs.declared.event.WorldEvent.{WorldEvent}
use Rattle.protocol.specs.declared.event.WorldEvent.TheVariants.{Deliver}
use Rattle.protocol.specs.Claims.{at_registry, committed_of, committed_part, live_of}
use Rattle.protocol.specs.History.{spendable}
use Rattle.protocol.specs.Registries.{has_member}
use Rattle.protocol.specs.Verdict.{verdict}
use Rattle.protocol.specs.Weave.{ArePrefixes, Gives, IsQuiet, IsStuck, Projects, StuckIsFinal, uncommitted}
use Rattle.protocol.specs.WayOut.{AtRest, HasRoom, IsOpen, OnlyTransport, WayOut}
use Rattle.protocol.specs.World.{World, opening, run, station, step}
use Rattle.protocol.proofs.WorkedScheme.{jp, nz_node, all_units, unit, nz1, scheme_s, transfer, after, first_of_may}
use Rattle.test_definitions.proofs.ShortNames.{comes, orders, proposes, to_jp}

abbrev first : World
first = opening scheme_s

-- ---- at rest, by committed records, no transaction is open and each allotted unit is spendable

pub none_open_at_rest : AtRest first → IsOpen (committed_of first) nz1 → ⊥
none_open_at_rest rest = rest.closed nz1

pub spendable_at_rest : AtRest first → (c : Code) × (has_member scheme_s c ≡ true) × (spendable scheme_s c (at_registry (committed_of first) c) (unit 1) ≡ true)
spendable_at_rest rest = rest.free (unit 1) refl

-- ---- a way out of a world with one open transaction takes room for three records at each node

abbrev ordered : World
ordered = after (take 1 transfer)

pub three_records_each : WayOut ordered → ((t : TransactionId) → IsOpen (live_of ordered) t → Contains (nz1 ∷ []) t) → HasRoom ordered 3
    → (more : List WorldEvent) × OnlyTransport more × AtRest (run ordered more)
three_records_each claim are_open room = claim (nz1 ∷ []) are_open room

-- the tail counts as records that are there
pub room_beside_the_tail : HasRoom ordered 3 → 1 + 3 ≤ 1000
unfolding step verdict
room_beside_the_tail room = room nz_node

-- ---- the input that an event gives: the message with its number in the bag, to its addressee

abbrev proposal_posted : World
proposal_posted = after (take 3 transfer)

pub given_by_delivery : Gives proposal_posted (Deliver 0 first_of_may) Itl (comes (proposes nz_node Itl nz1 proposal.Proposed (to_jp all_units)))
unfolding step verdict
given_by_delivery = (_, refl, refl, refl)

pub nothing_there_to_give : Gives proposal_posted (Deliver 1 first_of_may) Itl (comes (proposes nz_node Itl nz1 proposal.Proposed (to_jp all_units))) → ⊥
unfolding step verdict
nothing_there_to_give g = cc (g.1)

-- ---- not quiet while a node has a tail

pub not_quiet_with_a_tail : IsQuiet ordered → ⊥
unfolding step verdict
not_quiet_with_a_tail q =
    let idle = q.idle nz_node refl in
    let e : orders 1 jp 7 all_units ∷ [] ≡ [] = ap uncommitted idle.is ∙ idle.settled in
    cc (e)

-- ---- nothing is committed in a stuck world if some events lead to empty journals

abbrev nothing : Node → List Input
nothing n = []

pub nothing_if_stuck : StuckIsFinal first nothing → IsQuiet first → ArePrefixes (λ n. committed_part (station first n)) nothing → IsStuck first nothing
    → Projects scheme_s [] nothing → committed_part (station first nz_node) ≡ []
nothing_if_stuck claim quiet prefixes stuck events = claim quiet prefixes stuck [] events nz_node
