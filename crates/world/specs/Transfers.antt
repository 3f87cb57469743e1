-- Transfers that registries proposed, as a world shows them.
use Rattle.protocol.specs.Table as table
use Rattle.world.specs.declared.views.ProposedTransfer.{ProposedTransfer}

abbrev pub transfer_of : ProposedTransfer → table.ProposedTransfer
transfer_of t = record { id = t.id; content = t.content.now }
