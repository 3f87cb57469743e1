use Rattle.std.proofs.Common.{[], inr, refl, sym, ap, ◌∙◌}
use Rattle.log_core.specs.Taking.{verdict_by_rules}
use Rattle.log_core.proofs.EligibleRegistries.{eligible_again, eligible_enters, eligible_unknown}
use Rattle.protocol.specs.declared.decision.Stale.TheVariants.{Repeat}
use Rattle.log_core.proofs.TakenInputs.{are_same, takes_refused, takes_unmoved}
use Rattle.log_core.proofs.tables.Tables.eligible.Goals as goal

pub returns-then-not-is_member : goal.returns-then-not-is_member
returns-then-not-is_member c =
    let s = c.args.self.now.scheme in
    let was = c.args.self.now in
    takes_refused s was was c.args.input.now (record { code = 114 }) c.requires.kept (are_same was)
    (inr (ap (verdict_by_rules s was) c.requires.input ∙ eligible_unknown s was c.requires.kept c.args.registry c.args.may (sym c.is_member.ensures ∙ c.if-not-is_member.true)))

pub returns-then-is_eligible-may : goal.returns-then-is_eligible-may
returns-then-is_eligible-may c =
    let s = c.args.self.now.scheme in
    let was = c.args.self.now in
    takes_unmoved s was c.args.input.now Repeat c.requires.kept
    (ap (verdict_by_rules s was) c.requires.input
    ∙ eligible_again s was c.requires.kept c.args.registry c.args.may c.is_eligible.result (sym c.is_member.ensures ∙ c.if-not-is_member.false) c.is_eligible.ensures c.if-is_eligible-may.true)

pub record-requires-clause-transitions : goal.record-requires-clause-transitions
record-requires-clause-transitions c =
    let s = c.args.self.now.scheme in
    let was = c.args.self.now in (
      [],
      ap (verdict_by_rules s was) c.requires.input
          ∙ eligible_enters s was c.requires.kept c.args.registry c.args.may c.is_eligible.result (sym c.is_member.ensures ∙ c.if-not-is_member.false) c.is_eligible.ensures c.if-is_eligible-may.false,
      c.new.ensures,
      (c.requires.input, refl),
    )
