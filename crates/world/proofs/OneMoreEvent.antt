-- The laws of a world that events led to, after one more event and after all events.
use Rattle.std.proofs.Common.{◌≡◌, ℕ, ◌≤◌, List, [], ◌∷◌, ◌++◌, Result, Ok, Err, IfOk, drop, length, ap, sym, ◌∙◌, subst}
use Rattle.std.specs.Prelude.{OnErr}
use Rattle.std.proofs.Math.ListN.{drop_of_length-le}
use Rattle.scheme.specs.declared.registries.Scheme.{Scheme}
use Rattle.protocol.specs.Claims.{DeliversWelcome, committed_of, live_of}
use Rattle.protocol.specs.Headline.{IsSafe}
use Rattle.protocol.specs.Owner.{OwnersMove}
use Rattle.protocol.specs.WayOut.{WayOut}
use Rattle.protocol.specs.World.{Stepped, World, opening, run, step}
use Rattle.protocol.specs.declared.event.Outcome.{Outcome}
use Rattle.protocol.specs.declared.event.WorldEvent.{WorldEvent}
use Rattle.safety.proofs.Headline as laws
use Rattle.safety.proofs.WorldLemmas.QuietWorlds.{run_append}
use Rattle.safety.proofs.WorldLemmas.ReachedWorlds.{reached_scheme}
use Rattle.world.specs.Reached.{IsReached}
use Rattle.world.proofs.Worlds.{after}

module _ (scheme : Scheme) (events : List WorldEvent) (event : WorldEvent) (w v : World) (o : Outcome) (was : w ≡ run (opening scheme) events) (does : after v o ≡ step w event) where
  went : v ≡ (step (run (opening scheme) events) event).world
  went = ap (λ (s : Stepped). s.world) does ∙ ap (λ (x : World). (step x event).world) was

  led : run (opening scheme) (events ++ event ∷ []) ≡ v
  led = run_append (opening scheme) events (event ∷ []) ∙ sym went

  kept : v.scheme ≡ scheme
  kept = sym (ap (λ (x : World). x.scheme) led) ∙ reached_scheme scheme (events ++ event ∷ [])

  pub next_reached : IsReached v
  next_reached = record { events = events ++ event ∷ []; lead = subst (λ (s : Scheme). v ≡ run (opening s) (events ++ event ∷ [])) (sym kept) (sym led) }

  pub next_live : IsSafe scheme (live_of v)
  next_live = subst (λ (x : World). IsSafe scheme (live_of x)) led (laws.safe_live scheme (events ++ event ∷ []))

  pub next_committed : IsSafe scheme (committed_of v)
  next_committed = subst (λ (x : World). IsSafe scheme (committed_of x)) led (laws.safe_committed scheme (events ++ event ∷ []))

  pub next_welcome : DeliversWelcome v
  next_welcome = subst DeliversWelcome led (laws.welcome scheme (events ++ event ∷ []))

  pub next_owners_move : OwnersMove scheme (committed_of w) (committed_of v)
  next_owners_move =
      subst (λ (x : World). OwnersMove scheme (committed_of x) (committed_of v)) (sym was)
      (subst (λ (x : World). OwnersMove scheme (committed_of (run (opening scheme) events)) (committed_of x)) (sym went) (laws.owners_move scheme events event))

  pub next_way_out : WayOut v
  next_way_out = subst WayOut led (laws.way_out scheme (events ++ event ∷ []))

-- the same after a call that may fail, and then leaves the world as it was
pub stepped_reached : {E : Type 0} (r : Result Outcome E) (event : WorldEvent) (w v : World) → IsReached w → IfOk r (λ o. after v o ≡ step w event) → OnErr r (v ≡ w) → IsReached v
stepped_reached (Ok o) event w v was does same = next_reached w.scheme was.events event w v o was.lead does
stepped_reached (Err e) event w v was does same = subst IsReached (sym same) was

-- no event leads to the opening world
pub opening_reached : (scheme : Scheme) (w : World) → w ≡ opening scheme → IsReached w
opening_reached scheme w is = record { events = []; lead = is ∙ ap (λ (x : World). opening x.scheme) (sym is) }

-- a loop over all events has ended: none is left out
pub all_led : (start : World) (events : List WorldEvent) (i : ℕ) (w : World) → length events ≤ i → run w (drop i events) ≡ run start events → w ≡ run start events
all_led start events i w l e = sym (ap (run w) (drop_of_length-le events l)) ∙ e
