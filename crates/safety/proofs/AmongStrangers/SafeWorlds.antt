-- The claims about trusted nodes, of all worlds among strangers that events lead to.
use Rattle.std.proofs.Common.{◌≡◌, List, Bool, true, subst}
use Rattle.units.specs.declared.code.Node.{Node}
use Rattle.units.specs.declared.code.Node.TheVariants.{Itl}
use Rattle.wire.specs.declared.message.Message.{Message}
use Rattle.scheme.specs.declared.registries.Scheme.{Scheme}
use Rattle.protocol.specs.Claims.{committed_of, live_of}
use Rattle.protocol.specs.History.{Entry}
use Rattle.safety.specs.Strangers.{AreStrange, opening_among}
use Rattle.safety.specs.Trust.{IsSafeAmong}
use Rattle.protocol.specs.World.{World, opening, run}
use Rattle.protocol.specs.declared.event.WorldEvent.{WorldEvent}
use Rattle.safety.proofs.WorldLemmas.SchemesKept.{run_scheme}
use Rattle.safety.proofs.AgreementOfNodes.CausalHistories.{CausalAmong, agrees_among}
use Rattle.safety.proofs.AmongStrangers.WholeBooks.{book_is_whole, one_place_among}
use Rattle.safety.proofs.OwnersOfUnits.AccountedUnits.{accounted, holder_owns_among, spent_once_among}
use Rattle.safety.proofs.WorldLemmas.SoundWorlds.{SoundAmong, run_sound, opening_sound_among, live_causal, committed_causal}

module _ {trusted : Node → Bool} (scheme : Scheme) (f : Node → List Entry) (causal : CausalAmong trusted scheme f) (log : trusted Itl ≡ true) where
  pub safe_among : IsSafeAmong trusted scheme f
  safe_among = record {
    agree = agrees_among scheme f causal log;
    accounted = λ c trust. accounted scheme f causal log c trust;
    book = book_is_whole scheme (f Itl) (causal.made Itl);
    one_place = one_place_among scheme f causal log;
    spent_once = spent_once_among scheme f causal log;
    holder_owns = holder_owns_among scheme f causal log;
  }

module _ (trusted : Node → Bool) (scheme : Scheme) (ms : List Message) (strange : AreStrange trusted ms) (log : trusted Itl ≡ true) (events : List WorldEvent) where
  abbrev reached : World
  reached = run (opening_among scheme ms) events

  same : reached.scheme ≡ scheme
  same = run_scheme (opening_among scheme ms) events

  sound : SoundAmong trusted reached
  sound = run_sound (opening_among scheme ms) events (opening_sound_among trusted scheme ms strange)

  pub safe_live : IsSafeAmong trusted scheme (live_of reached)
  safe_live = safe_among scheme (live_of reached) (subst (λ (z : Scheme). CausalAmong trusted z (live_of reached)) same (live_causal reached sound)) log

  pub safe_committed : IsSafeAmong trusted scheme (committed_of reached)
  safe_committed = safe_among scheme (committed_of reached) (subst (λ (z : Scheme). CausalAmong trusted z (committed_of reached)) same (committed_causal reached sound)) log
