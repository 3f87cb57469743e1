use Rattle.std.proofs.Common.{subst}
use Rattle.scheme.specs.declared.registries.Scheme.{Scheme}
use Rattle.protocol.specs.Claims.{committed_of}
use Rattle.protocol.specs.Owner.{OwnersMove}
use Rattle.protocol.specs.World.{step}
use Rattle.safety.proofs.OwnersOfUnits.OwnersAfterEvents.{event_moves}
use Rattle.safety.proofs.WorldLemmas.ReachedWorlds.{reached, reached_scheme, reached_sound}
use Rattle.safety.proofs.owning.owners_move_by_completions.Goals as goal

pub returns : goal.returns
returns c = λ scheme events event.
    let w = reached scheme events in
    subst (λ (z : Scheme). OwnersMove z (committed_of w) (committed_of (step w event).world)) (reached_scheme scheme events) (event_moves w event (reached_sound scheme events))
