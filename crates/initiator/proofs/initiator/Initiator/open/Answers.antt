use Rattle.std.proofs.Common.{cond, Some, refl, sym, ap, subst, ◌∙◌}
use Rattle.std.specs.FinMap.{get}
use Rattle.std.specs.Map.{lookup}
use Rattle.std.specs.Option.{option_map}
use Rattle.std.specs.Prelude.{Result, Ok, Err, OnErr}
use Rattle.std.specs.Ordering.{is_eq}
use Rattle.status.proofs.UnitsOfContents.{covered}
use Rattle.status.specs.Id.{same_id, id_cmp}
use Rattle.initiator.specs.Transfers.{opened}
use Rattle.initiator.proofs.Tables.{changed_at, same_by_id, same_again, seen}
use Rattle.accounts.specs.Holdings.{reserved}
use Rattle.accounts.specs.Refusals.{MayReserve}
use Rattle.initiator.proofs.Reserving.{only_memory}
use Rattle.initiator.proofs.initiator.Initiator.open.Goals as goal

on_err : {X E : Type 0} (r : Result X E) (P : Type 0) → P → OnErr r P
on_err (Ok x) P p = tt
on_err (Err e) P p = p

pub returns-in_err-open-clause-err : goal.returns-in_err-open-clause-err
returns-in_err-open-clause-err c =
    let same = same_by_id c.open.new.transfers c.self.inside.transfers (λ t. ap (lookup (λ k. is_eq (id_cmp t k))) c.in_err-open.ensures.err) in
    on_err c.from_residual.result _ (ap (λ m. record { code = c.self.inside.code; last = c.self.inside.last; transfers = m }) same ∙ c.self.view_is, refl)

pub returns-in-Err-clause-err : goal.returns-in-Err-clause-err
returns-in-Err-clause-err c =
    let same = same_again c.args.new_transfer.now.id c.take_out.new.table c.open.new.transfers c.self.inside.transfers (sym (seen c.self.inside.transfers c.args.self.now.transfers (ap (λ i. i.transfers) c.self.view_is) c.args.new_transfer.now.id) ∙ c.requires.absent) c.in_ok-open.ensures.ok c.take_out.ensures in
    (ap (λ m. record { code = c.self.inside.code; last = c.self.inside.last; transfers = m }) same ∙ c.self.view_is, c.in-Err.ensures.err)

pub returns-in-Err-clause-refused : goal.returns-in-Err-clause-refused
returns-in-Err-clause-refused c =
    let may = subst (λ a. MayReserve c.args.holdings.now a c.units-units.result.now) (sym c.account-account.ensures.value) (c.requires.reservable c.units-units.result.now c.units-units.ensures.value) in
    only_memory c.args.holdings.now c.account-account.result c.units-units.result.now c.in-Err.refused.code may c.in-Err.ensures.refused

pub returns-clause-ok : goal.returns-clause-ok
returns-clause-ok c = (
  ap (λ i. i.code) c.self.view_is,
  refl,
  λ t. changed_at (λ _. Some opened) (same_id c.args.new_transfer.now.id t) c.open.new.transfers c.self.inside.transfers c.args.self.now.transfers t (ap (λ i. i.transfers) c.self.view_is) (c.in_ok-open.ensures.ok t),
)

pub returns-clause-unit_holdings : goal.returns-clause-unit_holdings
returns-clause-unit_holdings c s =
    let unit_holding = get c.args.holdings.now.unit_holdings s in
    c.in_default.ensures.ok.1 s ∙ ap (λ b. cond b (option_map (reserved c.args.new_transfer.now.id) unit_holding) unit_holding) (covered c.units-units.result.now c.args.new_transfer.now.content.units s c.units-units.ensures.value)
