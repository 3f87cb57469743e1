use Rattle.wire.specs.declared.input.Input.TheVariants.{Propose, Request, OpenAccount, CloseAccount}
use Rattle.log_core.proofs.TakenInputs.{are_same, takes_order}
use Rattle.log_core.proofs.tables.Tables.take.Goals as goal

pub returns-in-Propose : goal.returns-in-Propose
returns-in-Propose c = takes_order c.args.self.now.scheme c.args.self.now c.args.self.now c.args.input.now (Propose c.in-Propose.field-0) c.requires.kept (are_same c.args.self.now) c.in-Propose.is tt

pub returns-in-Request : goal.returns-in-Request
returns-in-Request c = takes_order c.args.self.now.scheme c.args.self.now c.args.self.now c.args.input.now (Request c.in-Request.field-0) c.requires.kept (are_same c.args.self.now) c.in-Request.is tt

pub returns-in-OpenAccount : goal.returns-in-OpenAccount
returns-in-OpenAccount c = takes_order c.args.self.now.scheme c.args.self.now c.args.self.now c.args.input.now (OpenAccount c.in-OpenAccount.field-0) c.requires.kept (are_same c.args.self.now) c.in-OpenAccount.is tt

pub returns-in-CloseAccount : goal.returns-in-CloseAccount
returns-in-CloseAccount c = takes_order c.args.self.now.scheme c.args.self.now c.args.self.now c.args.input.now (CloseAccount c.in-CloseAccount.field-0) c.requires.kept (are_same c.args.self.now) c.in-CloseAccount.is tt
