use Rattle.protocol.proofs.Replaying.{refused_at, IsRefusal, refused_otherwise}
use Rattle.std.proofs.Common.{Ok, length, ap, sym, subst, ◌∙◌}
use Rattle.protocol.proofs.resuming.resume_one.Goals as goal

pub returns-in-Ok-Repeat-clause-fault : goal.returns-in-Ok-Repeat-clause-fault
returns-in-Ok-Repeat-clause-fault g c =
    refused_at (g.C.NodeCore.scheme_of c.args.core.now) (g.C.NodeCore.node_of c.args.core.now) (g.C.NodeCore.journal_of c.args.core.now) c.args.input.now (length c.journal-place.result.now) c.step.result c.journal-place.ensures.replays c.step.ensures.answer
    (subst IsRefusal (sym (c.in-Ok-Repeat.is ∙ ap Ok c.in-Ok-Repeat.field-0-is)) tt)
    (ap length c.journal-place.ensures.value)

pub returns-in-Ok-Late-clause-fault : goal.returns-in-Ok-Late-clause-fault
returns-in-Ok-Late-clause-fault g c =
    refused_at (g.C.NodeCore.scheme_of c.args.core.now) (g.C.NodeCore.node_of c.args.core.now) (g.C.NodeCore.journal_of c.args.core.now) c.args.input.now (length c.journal-place.result.now) c.step.result c.journal-place.ensures.replays c.step.ensures.answer
    (subst IsRefusal (sym (c.in-Ok-Late.is ∙ ap Ok c.in-Ok-Late.field-0-is)) tt)
    (ap length c.journal-place.ensures.value)

pub returns-in-Err-2-clause-fault : goal.returns-in-Err-2-clause-fault
returns-in-Err-2-clause-fault g c =
    refused_at (g.C.NodeCore.scheme_of c.args.core.now) (g.C.NodeCore.node_of c.args.core.now) (g.C.NodeCore.journal_of c.args.core.now) c.args.input.now (length c.journal-place.result.now) c.step.result c.journal-place.ensures.replays c.step.ensures.answer
    (subst IsRefusal (sym c.in-Err.is) (refused_otherwise c.in-Err.refusal.code (sym c.eq.ensures ∙ c.if-eq.false)))
    (ap length c.journal-place.ensures.value)
