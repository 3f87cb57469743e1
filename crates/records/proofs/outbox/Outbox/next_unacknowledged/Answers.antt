use Rattle.std.proofs.Common.{sym, subst, ◌∙◌}
use Rattle.records.proofs.LeastKeys.{Least, shown_none, shown_other, shown_some}
use Rattle.records.proofs.outbox.Outbox.next_unacknowledged.Goals as goal

pub returns-then-eq : goal.returns-then-eq
returns-then-eq c =
    shown_some c.self.inside.records.items c.self.inside.messages.items c.self.inside.unacknowledged c.args.self.now c.args.peer c.args.from c.unacknowledged_of-first.result c.range.result
    (record { view = c.self.view_is; kept = c.self.invariant; start = c.unacknowledged_of-first.ensures; range = c.range.ensures.in_range tt })
    c.in_ok-found.found.now c.next.new.self c.in_ok-found.ensures.steps (sym c.eq.ensures ∙ c.if-eq.true)

pub returns-else-eq : goal.returns-else-eq
returns-else-eq c =
    shown_other c.self.inside.records.items c.self.inside.messages.items c.self.inside.unacknowledged c.args.self.now c.args.peer c.args.from c.unacknowledged_of-first.result c.range.result
    (record { view = c.self.view_is; kept = c.self.invariant; start = c.unacknowledged_of-first.ensures; range = c.range.ensures.in_range tt })
    c.in_ok-found.found.now c.next.new.self c.in_ok-found.ensures.steps (sym c.eq.ensures ∙ c.if-eq.false)

pub returns-in_err-found : goal.returns-in_err-found
returns-in_err-found c =
    subst (Least c.args.self.now c.args.peer c.args.from) (sym c.from_residual.ensures)
    (shown_none c.self.inside.records.items c.self.inside.messages.items c.self.inside.unacknowledged c.args.self.now c.args.peer c.args.from c.unacknowledged_of-first.result c.range.result
    (record { view = c.self.view_is; kept = c.self.invariant; start = c.unacknowledged_of-first.ensures; range = c.range.ensures.in_range tt })
    c.in_err-found.ensures.steps.0)
