use Rattle.std.proofs.Common.{sym, ap, ◌∙◌, option_map}
use Rattle.std.proofs.lemmas.Result.{IfOk-weaker}
use Rattle.std.specs.List.{slice_get}
use Rattle.wire.specs.declared.input.Input.TheVariants.{Received}
use Rattle.protocol.specs.World.{World, at_node, station, step, take_input}
use Rattle.protocol.specs.declared.event.Posted.{Posted}
use Rattle.world.proofs.Worlds.{delivered, undelivered}
use Rattle.world.proofs.world.World.deliver.Goals as goal

pub returns-in-Some-clause-ok : goal.returns-in-Some-clause-ok
unfolding step
returns-in-Some-clause-ok c =
    let bag = c.as_slice.ensures.value ∙ ap (λ (w : World). w.bag) c.self.view_is in
    let some = ap (λ l. option_map (λ (p : Posted). p.message) (slice_get l c.args.index)) (sym bag) ∙ sym c.message_at.ensures ∙ sym c.in_ok-message.ensures ∙ c.in-Some.is in
    IfOk-weaker c.take-taken.result _ _
    (λ o e. e
    ∙ sym (delivered c.args.self.now c.args.moment (slice_get c.args.self.now.bag c.args.index) c.in-Some.message some))
    c.take-taken.ensures.ok

pub returns-in-None-clause-ok : goal.returns-in-None-clause-ok
unfolding step
returns-in-None-clause-ok c =
    let bag = c.as_slice.ensures.value ∙ ap (λ (w : World). w.bag) c.self.view_is in
    let none = ap (λ l. option_map (λ (p : Posted). p.message) (slice_get l c.args.index)) (sym bag) ∙ sym c.message_at.ensures ∙ sym c.in_ok-message.ensures ∙ c.in-None.is in
    sym (undelivered c.args.self.now c.args.moment (slice_get c.args.self.now.bag c.args.index) none)
