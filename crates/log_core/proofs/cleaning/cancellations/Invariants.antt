use Rattle.std.proofs.Common.{◌≡◌, [], take}
use Rattle.std.specs.Prelude.{flat_map}
use Rattle.status.specs.declared.rows.RowInput.TheVariants as column
use Rattle.protocol.specs.Effects.{log_sends}
use Rattle.log_core.specs.Effects.{transfer_state_content}
use Rattle.log_core.specs.Transfers.{transfer_state_of}
use Rattle.log_core.proofs.cleaning.cancellations.Given as goal

-- the messages so far
abbrev pub invariant-loop-id : goal.invariant-loop-id
invariant-loop-id l = l.messages.items ≡ flat_map (λ t. log_sends t (transfer_state_content (transfer_state_of l.transfers t)) [] column.CleanUp) (take l.id-index l.ids)
