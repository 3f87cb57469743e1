use Rattle.std.proofs.Common.{inr, sym, ap, ◌∙◌}
use Rattle.units.specs.declared.code.Node.TheVariants.{Itl}
use Rattle.protocol.specs.Verdict.{history}
use Rattle.log_core.specs.Taking.{verdict_by_rules}
use Rattle.log_core.proofs.DecidedMessages.{refused}
use Rattle.log_core.proofs.TakenInputs.{are_same, takes_refused}
use Rattle.log_core.proofs.tables.Tables.receive.Goals as goal

pub returns-in-Some : goal.returns-in-Some
returns-in-Some c =
    let s = c.args.self.now.scheme in
    let was = c.args.self.now in
    let kept = c.requires.kept in
    let es = history s Itl was.records.inputs in
    let first = c.message_refusal.ensures es kept.kept.transfers in
    takes_refused s was was c.args.input.now (record { code = c.in-Some.refused }) kept (are_same was)
    (inr (ap (verdict_by_rules s was) c.requires.input ∙ refused kept c.args.message.now c.args.moment c.in-Some.refused (sym first ∙ c.in-Some.is)))

pub check-requires-clause-welcome : goal.check-requires-clause-welcome
check-requires-clause-welcome c =
    let s = c.args.self.now.scheme in
    let es = history s Itl c.args.self.now.records.inputs in
    sym (c.message_refusal.ensures es c.requires.kept.kept.transfers) ∙ c.in_default.is

pub take_notification-requires-clause-welcome : goal.take_notification-requires-clause-welcome
take_notification-requires-clause-welcome c =
    let s = c.args.self.now.scheme in
    let es = history s Itl c.args.self.now.records.inputs in
    sym (c.message_refusal.ensures es c.requires.kept.kept.transfers) ∙ c.in_default.is

pub withdraw-requires-clause-welcome : goal.withdraw-requires-clause-welcome
withdraw-requires-clause-welcome c =
    let s = c.args.self.now.scheme in
    let es = history s Itl c.args.self.now.records.inputs in
    sym (c.message_refusal.ensures es c.requires.kept.kept.transfers) ∙ c.in_default.is
