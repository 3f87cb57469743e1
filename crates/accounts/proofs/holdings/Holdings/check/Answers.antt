use Rattle.std.proofs.Common.{rules, refl, inr}
use Rattle.accounts.proofs.Holding.{reserved_from}
use Rattle.accounts.proofs.holdings.Holdings.check.Goals as goal

pub returns-then-not-is_each_free-clause-err : goal.returns-then-not-is_each_free-clause-err
returns-then-not-is_each_free-clause-err c =
    let open' = c.if-ne in
    let all = c.if-not-holds_each.ensures.all in
    let lacking = c.if-not-is_each_free.ensures.lacking in
    inr (inr (refl, search rules, all, reserved_from c.args.self.now c.args.account c.args.blocks.now all lacking.0 lacking.1 lacking.2))
