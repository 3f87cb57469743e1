use Rattle.std.proofs.Common.{◌≡◌}
use Rattle.scheme.specs.declared.registries.Scheme.{Scheme}
use Rattle.weave.specs.Kept.{IsPosting}
use Rattle.weave.proofs.following.Following.post_from.Given as goal

abbrev pub invariant-loop-key : goal.invariant-loop-key
invariant-loop-key l = record {
  posting : (scheme : Scheme) → IsPosting scheme l.initial.self l.node l.first → IsPosting scheme l.self l.node l.key;
  stations : l.self.world.stations ≡ l.initial.self.world.stations;
  posted : l.self.posted.items ≡ l.initial.self.posted.items;
}
