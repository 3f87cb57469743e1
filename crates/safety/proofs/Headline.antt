-- The laws over all events as lemmas, for crates whose worlds are reached by events.
use Rattle.std.specs.Prelude.{List}
use Rattle.units.specs.declared.code.Node.{Node}
use Rattle.scheme.specs.declared.registries.Scheme.{Scheme}
use Rattle.std.proofs.Common.{subst}
use Rattle.protocol.specs.declared.event.WorldEvent.{WorldEvent}
use Rattle.protocol.specs.Claims.{DeliversWelcome, TerminatesForEligibility, live_of, committed_of}
use Rattle.protocol.specs.Headline.{IsSafe}
use Rattle.protocol.specs.History.{Entry}
use Rattle.protocol.specs.Owner.{OwnersMove}
use Rattle.protocol.specs.WayOut.{WayOut}
use Rattle.protocol.specs.World.{opening, run, step}
use Rattle.safety.proofs.AgreementOfNodes.CausalHistories.{Causal, causal_agrees}
use Rattle.safety.proofs.DeliveryLemmas.TerminatedTransfers.{terminates_live, terminates_committed}
use Rattle.safety.proofs.DeliveryLemmas.WelcomeDeliveries.{delivers_welcome}
use Rattle.safety.proofs.OwnersOfUnits.AccountedUnits.{holder_owns}
use Rattle.safety.proofs.OwnersOfUnits.OwnersAfterEvents.{event_moves}
use Rattle.safety.proofs.OwnersOfUnits.UnitsInOnePlace.{causal_one_place, spent_once}
use Rattle.safety.proofs.WayToRest.TransportToRest as rest
use Rattle.safety.proofs.WorldLemmas.NodesWithStation.{Unplaced, opening_placed, run_placed}
use Rattle.safety.proofs.WorldLemmas.ReachedWorlds.{reached, reached_scheme, reached_sound, reached_live, reached_committed, reached_live_unplaced, reached_committed_unplaced}

-- histories in which each received message was sent, at the log and the scheme's registries alone
safe : (scheme : Scheme) (f : Node → List Entry) → Causal scheme f → Unplaced scheme f → TerminatesForEligibility f → IsSafe scheme f
safe scheme f causal unplaced eligibility =
    let one = causal_one_place scheme f causal in
    record {
      agree = causal_agrees scheme f causal;
      one_place = one;
      spent_once = spent_once scheme f unplaced one;
      holder_owns = holder_owns scheme f causal;
      eligibility = eligibility;
    }

pub safe_live : (scheme : Scheme) (events : List WorldEvent) → IsSafe scheme (live_of (run (opening scheme) events))
safe_live scheme events = safe scheme (live_of (reached scheme events)) (reached_live scheme events) (reached_live_unplaced scheme events) (terminates_live scheme events)

pub safe_committed : (scheme : Scheme) (events : List WorldEvent) → IsSafe scheme (committed_of (run (opening scheme) events))
safe_committed scheme events =
    safe scheme (committed_of (reached scheme events)) (reached_committed scheme events) (reached_committed_unplaced scheme events) (terminates_committed scheme events)

pub welcome : (scheme : Scheme) (events : List WorldEvent) → DeliversWelcome (run (opening scheme) events)
welcome scheme events = delivers_welcome scheme events

pub owners_move : (scheme : Scheme) (events : List WorldEvent) (event : WorldEvent) → OwnersMove scheme (committed_of (run (opening scheme) events)) (committed_of (step (run (opening scheme) events) event).world)
owners_move scheme events event =
    let w = reached scheme events in
    subst (λ (z : Scheme). OwnersMove z (committed_of w) (committed_of (step w event).world)) (reached_scheme scheme events) (event_moves w event (reached_sound scheme events))

pub way_out : (scheme : Scheme) (events : List WorldEvent) → WayOut (run (opening scheme) events)
way_out scheme events = rest.way_out (reached scheme events) (reached_sound scheme events) (run_placed (opening scheme) events (opening_placed scheme))
