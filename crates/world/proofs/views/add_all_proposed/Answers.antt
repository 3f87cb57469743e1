use Rattle.std.proofs.Common.{arith, ◌++◌, ap, sym, ◌∙◌, map, take, Option}
use Rattle.std.proofs.lemmas.Grind.{common_steps}
use Rattle.std.proofs.lemmas.List.{append_assoc}
use Rattle.std.specs.List.{filter_map}
use Rattle.std.specs.Option.{option_to_list}
use Rattle.std.specs.Prelude.{option_and_then, slice_get}
use Rattle.wire.specs.declared.message.Message.{Message}
use Rattle.protocol.specs.History.{sends}
use Rattle.protocol.specs.Table.{ProposedTransfer, proposed_in}
use Rattle.registry_core.specs.Registry.{past}
use Rattle.world.specs.Transfers.{transfer_of}
use Rattle.world.proofs.GrowingViews.{filter_map_next}
use Rattle.world.proofs.views.add_all_proposed.Goals as goal

abbrev proposed_by : Message → Option ProposedTransfer
proposed_by m = proposed_in m.id m.body

pub loop-key-preserved : goal.loop-key-preserved
loop-key-preserved c =
    let sent = sends (past c.args.core.now) in
    let old = map transfer_of c.args.transfers.now.items in
    let front = filter_map proposed_by (take c.loop-key.key sent) in
    c.in_ok-add_proposed.ensures
    ∙ ap (λ (o : Option Message). map transfer_of c.loop-key.transfers.items ++ option_to_list (option_and_then proposed_by o)) c.outbox.ensures
    ∙ ap (λ l. l ++ option_to_list (option_and_then proposed_by (slice_get sent c.loop-key.key))) c.loop-key.invariant
    ∙ append_assoc old front (option_to_list (option_and_then proposed_by (slice_get sent c.loop-key.key)))
    ∙ ap (λ l. old ++ l) (sym (filter_map_next proposed_by sent c.loop-key.key))

pub returns-in_err-add_proposed : goal.returns-in_err-add_proposed
returns-in_err-add_proposed c = grind arith

pub returns : goal.returns
returns c = grind (arith, common_steps)
