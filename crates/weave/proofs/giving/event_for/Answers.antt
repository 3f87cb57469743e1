use Rattle.std.proofs.Common.{sym, ◌∙◌}
use Rattle.weave.specs.Steps.{without_tails}
use Rattle.weave.proofs.Tails.{no_order_idle}
use Rattle.weave.proofs.Tried.{no_order}
use Rattle.weave.proofs.giving.event_for.Goals as goal

pub returns-then-not-is_order : goal.returns-then-not-is_order
returns-then-not-is_order c = record {
  some = tt;
  none = no_order (without_tails c.args.world.now) c.args.node c.args.input.now c.in_default.not-Received (no_order_idle c.args.world.now c.args.node c.args.input.now (sym c.is_order.ensures ∙ c.if-not-is_order.true));
}
