use Rattle.std.proofs.Common.{◌++◌, drop, length, refl, ap, ◌∙◌}
use Rattle.trace.specs.Followed.{sent_about}
use Rattle.trace.proofs.EventRows.{passed, room_after}
use Rattle.trace.proofs.following.Tracing.pass.Goals as goal

pub bag_from-requires : goal.bag_from-requires
bag_from-requires c = rw c.as_world-2.ensures (room_after c.args.self.now.world c.apply.new.self c.args.event.now c.in_ok-apply.field-0 c.bag-before.result.now (rw c.as_world.ensures at c.bag-before.ensures) c.in_ok-apply.ensures.ok)

pub returns : goal.returns
returns c =
    let t = c.args.self.now in
    let next = c.apply.new.self in
    passed t (record t { world = next; sent = c.add_sent.new.sent }) c.args.event.now next c.in_ok-apply.field-0 c.requires.sent c.in_ok-apply.ensures.ok c.requires.given refl refl refl refl
    (c.in_ok-add_sent.ensures ∙ ap (λ ps. t.sent.items ++ sent_about t.id ps) ((rw c.as_world-2.ensures at c.bag_from.ensures) ∙ ap (λ ps. drop (length ps) next.bag) (rw c.as_world.ensures at c.bag-before.ensures)))
