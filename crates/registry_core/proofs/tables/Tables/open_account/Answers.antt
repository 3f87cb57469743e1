use Rattle.std.proofs.Common.{[], inr, refl, sym, ap, subst, ◌∙◌}
use Rattle.units.specs.declared.code.Node.TheVariants.{Registry}
use Rattle.protocol.specs.Verdict.{history}
use Rattle.accounts.specs.Refusals.{IsOpenRefusal}
use Rattle.registry_core.specs.Effects.{AreEffects}
use Rattle.registry_core.specs.Taking.{verdict_by_rules}
use Rattle.registry_core.specs.declared.effect.RegistryEffect.TheVariants.{OpenAccount}
use Rattle.safety.proofs.OneRegistry.AccountVerdicts.{opening_enters, opening_refused}
use Rattle.registry_core.proofs.TakenInputs.{are_same, takes_err, verdict_so}
use Rattle.registry_core.proofs.tables.Tables.open_account.Goals as goal

pub returns-in_err-may_open : goal.returns-in_err-may_open
returns-in_err-may_open c =
    let s = c.args.self.now.scheme in
    let k = c.args.self.now.code in
    let was = c.args.self.now in
    let i = c.args.input.now in
    let kept = c.requires.kept in
    let es = history s (Registry k) was.records.inputs in
    takes_err s k was was i c.from_residual.result _ kept (are_same was) c.from_residual.ensures.1
    (λ r e. inr (ap (verdict_by_rules s k was) c.requires.input ∙ verdict_so s k was _
    ∙ opening_refused s k es was.holdings kept.kept.accounts c.args.account r.code (subst (λ q. IsOpenRefusal was.holdings c.args.account.value q.code) (sym e) c.in_err-may_open.ensures.err)))

pub record-requires-clause-transitions : goal.record-requires-clause-transitions
record-requires-clause-transitions c =
    let s = c.args.self.now.scheme in
    let k = c.args.self.now.code in
    let was = c.args.self.now in
    let es = history s (Registry k) was.records.inputs in (
      [],
      ap (verdict_by_rules s k was) c.requires.input ∙ verdict_so s k was _ ∙ opening_enters s k es was.holdings c.requires.kept.kept.accounts c.args.account c.in_ok-may_open.ensures.ok,
      c.from_vec-none.ensures ∙ c.new.ensures.items,
      subst (λ i. AreEffects k es i [] (OpenAccount c.args.account.value)) (sym c.requires.input) refl,
    )
