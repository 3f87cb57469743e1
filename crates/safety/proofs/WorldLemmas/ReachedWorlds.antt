-- Worlds that events lead to: their nodes' histories have each received message sent.
use Rattle.std.proofs.Common.{◌≡◌, List, subst}
use Rattle.scheme.specs.declared.registries.Scheme.{Scheme}
use Rattle.protocol.specs.Claims.{live_of, committed_of}
use Rattle.protocol.specs.World.{World, opening, run}
use Rattle.protocol.specs.declared.event.WorldEvent.{WorldEvent}
use Rattle.safety.proofs.AgreementOfNodes.CausalHistories.{Causal}
use Rattle.safety.proofs.WorldLemmas.NodesWithStation.{AllPlaced, Unplaced, opening_placed, run_placed, live_unplaced, committed_unplaced}
use Rattle.safety.proofs.WorldLemmas.SchemesKept.{run_scheme}
use Rattle.safety.proofs.WorldLemmas.SoundWorlds.{Sound, run_sound, opening_sound, live_causal, committed_causal}

-- the world that the events lead to
abbrev pub reached : Scheme → List WorldEvent → World
reached scheme events = run (opening scheme) events

pub reached_scheme : (scheme : Scheme) (events : List WorldEvent) → (reached scheme events).scheme ≡ scheme
reached_scheme scheme events = run_scheme (opening scheme) events

pub reached_sound : (scheme : Scheme) (events : List WorldEvent) → Sound (reached scheme events)
reached_sound scheme events = run_sound (opening scheme) events (opening_sound scheme)

pub reached_live : (scheme : Scheme) (events : List WorldEvent) → Causal scheme (live_of (reached scheme events))
reached_live scheme events =
    let w = reached scheme events in
    subst (λ (z : Scheme). Causal z (live_of w)) (reached_scheme scheme events) (live_causal w (reached_sound scheme events))

pub reached_committed : (scheme : Scheme) (events : List WorldEvent) → Causal scheme (committed_of (reached scheme events))
reached_committed scheme events =
    let w = reached scheme events in
    subst (λ (z : Scheme). Causal z (committed_of w)) (reached_scheme scheme events) (committed_causal w (reached_sound scheme events))

-- no node beside the log and the scheme's registries has a history
placed : (scheme : Scheme) (events : List WorldEvent) → AllPlaced (reached scheme events)
placed scheme events = run_placed (opening scheme) events (opening_placed scheme)

pub reached_live_unplaced : (scheme : Scheme) (events : List WorldEvent) → Unplaced scheme (live_of (reached scheme events))
reached_live_unplaced scheme events =
    let w = reached scheme events in
    subst (λ (z : Scheme). Unplaced z (live_of w)) (reached_scheme scheme events) (live_unplaced w (placed scheme events))

pub reached_committed_unplaced : (scheme : Scheme) (events : List WorldEvent) → Unplaced scheme (committed_of (reached scheme events))
reached_committed_unplaced scheme events =
    let w = reached scheme events in
    subst (λ (z : Scheme). Unplaced z (committed_of w)) (reached_scheme scheme events) (committed_unplaced w (placed scheme events))
