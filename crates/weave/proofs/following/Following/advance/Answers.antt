use Rattle.std.proofs.Common.{◌≡◌, refl, ap, ◌∙◌, append-nil}
use Rattle.std.specs.Prelude.{option_to_list, ◌++◌}
use Rattle.weave.specs.declared.following.Following.{Following}
use Rattle.weave.proofs.Rounds.{with_pending}
use Rattle.weave.proofs.following.Following.advance.Goals as goal

pub record_next-requires-clause-follows : goal.record_next-requires-clause-follows
record_next-requires-clause-follows c =
    let f : Following = c.loop-node.self in
    with_pending c.args.scheme.now f _ _ _ refl refl (λ t. refl) refl c.in-Some.ensures.items c.loop-node.invariant.follows.follows

pub returns-clause-follows : goal.returns-clause-follows
returns-clause-follows c =
    let f : Following = c.loop-node.self in
    let same : f.pending.items ≡ c.pop.new.self.items = c.pop.ensures.items ∙ ap (λ o. c.pop.new.self.items ++ option_to_list o) c.in_default.is ∙ append-nil c.pop.new.self.items in
    record {
      follows = with_pending c.args.scheme.now f _ _ _ refl refl (λ t. refl) refl same c.loop-node.invariant.follows.follows;
      quiet = c.loop-node.invariant.follows.quiet;
    }
