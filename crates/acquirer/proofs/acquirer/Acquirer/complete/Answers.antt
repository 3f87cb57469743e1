use Rattle.std.proofs.Common.{◌≡◌, Some, None, sym, ap, ◌∙◌}
use Rattle.std.specs.FinMap.{get}
use Rattle.std.specs.Option.{option_map, option_or}
use Rattle.accounts.specs.Holdings.{free_unit_holding, kind_in}
use Rattle.status.proofs.UnitsOfContents.{covered}
use Rattle.status.specs.Id.{same_id}
use Rattle.status.specs.declared.status.Status.TheVariants as words
use Rattle.acquirer.specs.Transfers.{finished}
use Rattle.acquirer.proofs.Tables.{changed_at}
use Rattle.acquirer.proofs.acquirer.Acquirer.complete.Goals as goal
use Rattle.acquirer.proofs.acquirer.Acquirer.complete.Goals.{in-Some+in_ok-credit, in_default}

pub credit-requires-clause-apart : goal.credit-requires-clause-apart
credit-requires-clause-apart c = (c.requires c.in-Some.content.now (sym (c.in-Some.ensures))).apart c.units.result.now c.units.ensures.value

pub credit-requires-clause-absent : goal.credit-requires-clause-absent
credit-requires-clause-absent c s h = (c.requires c.in-Some.content.now (sym (c.in-Some.ensures))).absent s (sym (covered c.units.result.now c.in-Some.content.now.units s c.units.ensures.value) ∙ h)

pub returns-clause-transfers : goal.returns-clause-transfers
returns-clause-transfers c = (
  ap (λ a. a.code) c.self.view_is,
  λ t. changed_at (option_map (finished words.Completed)) (same_id c.args.id t) c.finish.new.transfers c.self.inside.transfers c.args.self.now.transfers t (ap (λ a. a.transfers) c.self.view_is) (c.finish.ensures.transfers t),
)

pub returns-clause-unit_holdings : goal.returns-clause-unit_holdings
returns-clause-unit_holdings c k e =
    elim c.match-content.branch [
      | in-Some+in_ok-credit w ↦
          let found : Some w.in-Some.content.now ≡ Some k = w.in-Some.ensures ∙ e in
          let same : w.in-Some.content.now ≡ k = cc (found) in (
            w.units.result.now,
            w.units.ensures.value ∙ ap (λ x. x.units) same,
            λ s. ap (λ h. get h.unit_holdings s) w.holdings-is ∙ w.in_ok-credit.ensures.ok.1 s
                ∙ ap (λ a. option_or (option_map (free_unit_holding a) (kind_in w.units.result.now s)) (get c.args.holdings.now.unit_holdings s)) (w.to_account.ensures.value ∙ ap (λ x. x.to_account) same),
          )
      | in_default w ↦ absurd (let none : None ≡ Some k = w.in_default.ensures ∙ e in cc (none))
    ]
