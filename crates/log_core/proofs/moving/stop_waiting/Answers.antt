use Rattle.std.proofs.Common.{sym, ap, ◌∙◌}
use Rattle.std.specs.Option.{option_copied}
use Rattle.log_core.proofs.CheckedTransfers.{none_stops, stops}
use Rattle.log_core.proofs.moving.stop_waiting.Goals as goal

pub returns-in-Some : goal.returns-in-Some
returns-in-Some c w =
    c.forget.ensures w
    ∙ stops c.args.transfers.now c.args.checked.now c.requires c.args.id c.in-Some.transfer.now (sym c.get.ensures.value ∙ ap option_copied c.in-Some.is) w

pub returns-in_default : goal.returns-in_default
returns-in_default c w = none_stops c.args.transfers.now c.args.checked.now c.requires c.args.id (sym c.get.ensures.value ∙ ap option_copied c.in_default.is) w
