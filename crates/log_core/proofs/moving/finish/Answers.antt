use Rattle.std.specs.Option.{option_copied}
use Rattle.log_core.proofs.CheckedTransfers.{labelled_content}
use Rattle.log_core.proofs.moving.finish.Goals as goal

pub end-requires : goal.end-requires
end-requires c = labelled_content c.args.transfers.now c.args.under_way.now c.args.id (option_copied c.content.result) c.requires.labelled c.content.ensures
