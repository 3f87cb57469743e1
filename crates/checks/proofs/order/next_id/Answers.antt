use Rattle.std.proofs.Common.{◌+◌, sym, ap, ◌∙◌}
use Rattle.status.specs.Id.{id_at}
use Rattle.checks.proofs.OrderRefusals.{past_last}
use Rattle.checks.proofs.order.next_id.Goals as goal

pub returns-in_err-checked_add : goal.returns-in_err-checked_add
returns-in_err-checked_add c = c.from_residual.ensures ∙ sym (past_last c.args.code (c.args.last + 1) c.in_err-checked_add.ensures)

pub returns : goal.returns
returns c = c.new.ensures.value ∙ ap (id_at c.args.code) c.in_ok-checked_add.ensures.1
