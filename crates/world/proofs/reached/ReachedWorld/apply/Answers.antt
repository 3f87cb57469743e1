use Rattle.std.proofs.lemmas.Result.{IfOk-weaker}
use Rattle.world.proofs.OneMoreEvent.{next_live, next_committed, next_welcome, next_owners_move, next_way_out, stepped_reached}
use Rattle.world.proofs.reached.ReachedWorld.apply.Goals as goal

pub invariant_of-self : goal.invariant_of-self
invariant_of-self c = stepped_reached c.step.result c.args.event.now c.self.inside.world c.step.new.self c.self.invariant c.step.ensures.ok c.step.ensures.err

pub returns-clause-live : goal.returns-clause-live
returns-clause-live c =
    let was = c.self.invariant in
    rw (← c.self.view_is) (IfOk-weaker c.step.result _ _ (λ o does. next_live c.self.inside.world.scheme was.events c.args.event.now c.self.inside.world c.step.new.self o was.lead does) c.step.ensures.ok)

pub returns-clause-committed : goal.returns-clause-committed
returns-clause-committed c =
    let was = c.self.invariant in
    rw (← c.self.view_is) (IfOk-weaker c.step.result _ _ (λ o does. next_committed c.self.inside.world.scheme was.events c.args.event.now c.self.inside.world c.step.new.self o was.lead does) c.step.ensures.ok)

pub returns-clause-welcome : goal.returns-clause-welcome
returns-clause-welcome c =
    let was = c.self.invariant in
    IfOk-weaker c.step.result _ _ (λ o does. next_welcome c.self.inside.world.scheme was.events c.args.event.now c.self.inside.world c.step.new.self o was.lead does) c.step.ensures.ok

pub returns-clause-owners_move : goal.returns-clause-owners_move
returns-clause-owners_move c =
    let was = c.self.invariant in
    rw (← c.self.view_is) (IfOk-weaker c.step.result _ _ (λ o does. next_owners_move c.self.inside.world.scheme was.events c.args.event.now c.self.inside.world c.step.new.self o was.lead does) c.step.ensures.ok)

pub returns-clause-way_out : goal.returns-clause-way_out
returns-clause-way_out c =
    let was = c.self.invariant in
    IfOk-weaker c.step.result _ _ (λ o does. next_way_out c.self.inside.world.scheme was.events c.args.event.now c.self.inside.world c.step.new.self o was.lead does) c.step.ensures.ok
