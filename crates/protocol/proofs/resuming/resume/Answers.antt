use Rattle.std.proofs.Common.{arith, sym}
use Rattle.std.proofs.lemmas.Result.{err_from_is_err_and}
use Rattle.protocol.proofs.Replaying.{fault_at_next, next_input}
use Rattle.protocol.proofs.resuming.resume.Goals as goal

pub returns-in_err-resume_one-clause-fault : goal.returns-in_err-resume_one-clause-fault
returns-in_err-resume_one-clause-fault g c =
    let p = err_from_is_err_and c.from_residual.result c.from_residual.ensures.1 in
    rw (p.1, p.2)
    (fault_at_next _ _ _ _ (g.C.NodeCore.journal_of c.args.core.now) _ c.args.inputs.now c.loop-input.input-index c.input-item.result _ c.loop-input.invariant.scheme c.loop-input.invariant.node
    c.loop-input.invariant.journal (omega arith) c.input-item.is c.in_err-resume_one.ensures.fault)

pub returns-in_err-resume_one-clause-memory : goal.returns-in_err-resume_one-clause-memory
returns-in_err-resume_one-clause-memory g c =
    let p = err_from_is_err_and c.from_residual.result c.from_residual.ensures.1 in
    let old = g.C.NodeCore.journal_of c.args.core.now in
    let before = g.C.NodeCore.journal_of c.loop-input.core in
    let after = g.C.NodeCore.journal_of c.resume_one.new.core in
    rw (p.1, p.2)
    (λ same. (
      c.loop-input.core,
      c.input-item.result,
      next_input old c.args.inputs.now before after c.loop-input.input-index c.input-item.result c.loop-input.invariant.journal c.in_err-resume_one.ensures.err (omega arith) c.input-item.is,
      sym c.in_err-resume_one.ensures.err,
      c.in_err-resume_one.ensures.memory same,
    ))
