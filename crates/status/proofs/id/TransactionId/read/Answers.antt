use Rattle.std.proofs.Common.{arith, sym, true≢false}
use Rattle.status.proofs.Ids.{no_boundary, number_behind, no_such}
use Rattle.status.proofs.id.TransactionId.read.Goals as goal

pub returns-in_err-code-clause-none : goal.returns-in_err-code-clause-none
returns-in_err-code-clause-none c = rw c.from_residual.ensures (no_boundary c.args.text.now (λ at. true≢false (sym (c.in_err-code.ensures.variant.1 at))))

pub returns-then-count-clause-none : goal.returns-then-count-clause-none
returns-then-count-clause-none c = λ t e.
    let same = number_behind c.args.text.now c.in_ok-code.rest.now c.in_ok-count.count c.in_ok-code.ensures.back c.in_ok-count.ensures.some t e in
    let range = t.in_range in
    omega (arith, c.if-count.true)

pub returns-clause-none : goal.returns-clause-none
returns-clause-none c =
    no_such c.new.result c.args.text.now c.in_ok-count.count
    (number_behind c.args.text.now c.in_ok-code.rest.now c.in_ok-count.count c.in_ok-code.ensures.back c.in_ok-count.ensures.some)
    c.new.ensures.none
