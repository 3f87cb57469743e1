use Rattle.std.proofs.Common.{inl, inr, refl, sym, subst₂, ◌∙◌}
use Rattle.sqlite.specs.WalReads.{AreClean}
use Rattle.durable.specs.Refusals.{IsToldOf}
use Rattle.durable.proofs.Refusing.{clean-left, not-opened}
use Rattle.durable.proofs.backing.open_again.Goals as goal

pub returns-in-Ok-clause-opened : goal.returns-in-Ok-clause-opened
returns-in-Ok-clause-opened g c = λ clean. (c.in-Ok.ensures.opened clean).0

pub returns-in-Ok-clause-sound : goal.returns-in-Ok-clause-sound
returns-in-Ok-clause-sound g c = λ clean. let o = c.in-Ok.ensures.opened clean in (o.1 o.0.is_open).1

pub returns-in-Ok-clause-found : goal.returns-in-Ok-clause-found
returns-in-Ok-clause-found g c = λ clean. let f = c.in-Ok.ensures.found clean in record { honest = f.honest; held = record { holds = f.holds; reads = f.reads } }

pub returns-in-Err-clause-fault : goal.returns-in-Err-clause-fault
returns-in-Err-clause-fault g c honest =
    not-opened c.args.files c.into_files-files.result c.in-Err.left c.in-Err.error c.tally-before.result c.tally.result c.opening_fault-fault.result c.into_files-files.ensures c.in-Err.ensures.cause honest
    c.tally-before.ensures c.tally.ensures c.opening_fault-fault.ensures.named c.opening_fault-fault.ensures.damaged

pub returns-in-Err-clause-spared : goal.returns-in-Err-clause-spared
returns-in-Err-clause-spared g c =
    let early = λ (honest : AreClean g.D.Disk c.into_files-files.result.log c.into_files-files.result.db). clean-left c.in-Err.left c.into_files-files.result c.into_files-files.ensures honest in
    inr (record {
      rest = c.in-Err.left;
      same = c.into_files-files.ensures;
      error = c.in-Err.error;
      fails = λ honest. c.in-Err.ensures.cause (early honest);
      told = subst₂ (λ before now. IsToldOf before now c.in-Err.error c.opening_fault-fault.result) c.tally-before.ensures c.tally.ensures c.opening_fault-fault.ensures.told;
      leaves = λ honest. c.in-Err.ensures.unharmed (early honest);
    })

pub returns-then-not-may_be_used-clause-spared : goal.returns-then-not-may_be_used-clause-spared
returns-then-not-may_be_used-clause-spared g c = inl (refl, inr (refl, sym c.may_be_used.ensures ∙ c.if-not-may_be_used.true))
