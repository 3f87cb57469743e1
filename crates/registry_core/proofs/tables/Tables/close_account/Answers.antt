use Rattle.std.proofs.Common.{[], inr, refl, sym, ap, subst, ◌∙◌}
use Rattle.std.specs.FinMap.{get}
use Rattle.std.proofs.lemmas.Bool.{false_from_ne_true}
use Rattle.units.specs.declared.code.Node.TheVariants.{Registry}
use Rattle.units.proofs.Lists.OneValue.{clash}
use Rattle.protocol.specs.AtRegistry.{is_awaited}
use Rattle.protocol.specs.Deciding.{IsRefused}
use Rattle.protocol.specs.History.{transitions_of}
use Rattle.protocol.specs.Verdict.{history}
use Rattle.accounts.specs.Refusals.{IsCloseRefusal}
use Rattle.acquirer.specs.Transfers.{is_awaited_by}
use Rattle.registry_core.specs.Effects.{AreEffects}
use Rattle.registry_core.specs.Taking.{verdict_by_rules}
use Rattle.registry_core.specs.declared.effect.RegistryEffect.TheVariants.{CloseAccount}
use Rattle.safety.proofs.OneRegistry.AccountVerdicts.{closing_awaited, closing_enters, closing_refused}
use Rattle.registry_core.proofs.TablesSayHistory.{awaited_has_row, row_is_awaited}
use Rattle.registry_core.proofs.TakenInputs.{are_same, takes_err, verdict_so}
use Rattle.registry_core.proofs.tables.Tables.close_account.Goals as goal

pub returns-in_err-may_close : goal.returns-in_err-may_close
returns-in_err-may_close c =
    let s = c.args.self.now.scheme in
    let k = c.args.self.now.code in
    let was = c.args.self.now in
    let i = c.args.input.now in
    let kept = c.requires.kept in
    let es = history s (Registry k) was.records.inputs in
    takes_err s k was was i c.from_residual.result _ kept (are_same was) c.from_residual.ensures.1
    (λ r e. inr (ap (verdict_by_rules s k was) c.requires.input ∙ verdict_so s k was _
    ∙ closing_refused s k es was.holdings kept.kept.accounts kept.kept.unit_holdings c.args.account r.code (subst (λ q. IsCloseRefusal was.holdings c.args.account.value q.code) (sym e) c.in_err-may_close.ensures.err)))

pub returns-in_err-may_close-2 : goal.returns-in_err-may_close-2
returns-in_err-may_close-2 c =
    let s = c.args.self.now.scheme in
    let k = c.args.self.now.code in
    let was = c.args.self.now in
    let i = c.args.input.now in
    let kept = c.requires.kept in
    let es = history s (Registry k) was.records.inputs in
    let found = c.in_err-may_close-2.ensures.err in
    let awaited = row_is_awaited s k was kept c.args.account.value found.1.0 found.1.1 in
    takes_err s k was was i c.from_residual-in_err-may_close-2.result _ kept (are_same was) c.from_residual-in_err-may_close-2.ensures.1
    (λ r e. inr (ap (verdict_by_rules s k was) c.requires.input ∙ verdict_so s k was _
    ∙ closing_awaited s k es was.holdings kept.kept.accounts kept.kept.unit_holdings c.args.account c.in_ok-may_close.ensures.ok.0 c.in_ok-may_close.ensures.ok.1 awaited
    ∙ ap (λ n. IsRefused n) (sym (ap (λ q. q.code) e ∙ found.0))))

pub record-requires-clause-transitions : goal.record-requires-clause-transitions
record-requires-clause-transitions c =
    let s = c.args.self.now.scheme in
    let k = c.args.self.now.code in
    let was = c.args.self.now in
    let kept = c.requires.kept in
    let es = history s (Registry k) was.records.inputs in
    let free = false_from_ne_true (is_awaited k (transitions_of es) c.args.account.value) (λ y.
    let row = awaited_has_row s k was kept c.args.account.value y in
    clash (is_awaited_by c.args.account.value (get was.acquirer.transfers row.0)) row.1 (c.in_ok-may_close-2.ensures.ok row.0)) in (
      [],
      ap (verdict_by_rules s k was) c.requires.input ∙ verdict_so s k was _ ∙ closing_enters s k es was.holdings kept.kept.accounts kept.kept.unit_holdings c.args.account c.in_ok-may_close.ensures.ok.0 c.in_ok-may_close.ensures.ok.1 free,
      c.from_vec-none.ensures ∙ c.new.ensures.items,
      subst (λ i. AreEffects k es i [] (CloseAccount c.args.account.value)) (sym c.requires.input) refl,
    )
