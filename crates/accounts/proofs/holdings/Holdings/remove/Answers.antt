use Rattle.std.proofs.Common.{◌≡◌, ◌≤◌, rules, refl, sym, ap, subst, ◌∙◌, inl, inr}
use Rattle.std.specs.BTreeMap as tree
use Rattle.std.specs.FinMap.{get}
use Rattle.std.specs.Option.{option_map}
use Rattle.std.specs.Ordering.{nat_cmp}
use Rattle.units.specs.Unit.{covers}
use Rattle.accounts.specs.Holdings.{is_reserved_by}
use Rattle.accounts.specs.Tables.{blocks_in, shares_in, held_at, share_of, shares_of, with_fewer}
use Rattle.accounts.proofs.AccountStatuses.{account_statuses_kept}
use Rattle.accounts.proofs.OneUnit.{others, others_none}
use Rattle.accounts.proofs.InStep.{share_held, kept_removed, none_reserved, kept_none, reserved_in_blocks}
use Rattle.accounts.proofs.holdings.Holdings.remove.Goals as goal

pub invariant_of-self : goal.invariant_of-self
invariant_of-self c =
    let i = c.self.inside in
    kept_none i.accounts i.unit_holdings i.reservations c.args.id c.self.invariant (sym c.take.ensures.was ∙ c.in_default.is) c.take.new.reservations c.take.ensures.left

pub returns-in_default-clause-unit_holdings : goal.returns-in_default-clause-unit_holdings
returns-in_default-clause-unit_holdings c s =
    let i = c.self.inside in
    let none = none_reserved i.accounts i.unit_holdings i.reservations c.args.id c.self.invariant (sym c.take.ensures.was ∙ c.in_default.is) s in
    others_none c.args.id (get i.unit_holdings s) none ∙ ap (λ h. others c.args.id (get h.unit_holdings s)) c.self.view_is

pub remove_in-requires-clause-only : goal.remove_in-requires-clause-only
remove_in-requires-clause-only c u m e =
    let i = c.self.inside in
    elim (reserved_in_blocks i.accounts i.unit_holdings i.reservations c.args.id c.self.invariant u m e) [
      | inl other ↦ inl (sym other)
      | inr among ↦ inr (ap (λ bs. covers bs u) (c.deref.ensures.value ∙ ap blocks_in c.in-Some.ensures.was) ∙ among)
    ]

pub take_out_all-requires : goal.take_out_all-requires
take_out_all-requires c n =
    let i = c.self.inside in
    let id = c.args.id in
    let shares : shares_of i.reservations id ≡ c.deref-2.result.now = ap shares_in (sym c.in-Some.ensures.was) ∙ sym c.deref-2.ensures.value in
    subst (λ ss. share_of ss n ≤ held_at i.accounts n) shares (share_held i.accounts i.unit_holdings i.reservations id c.self.invariant n)

pub invariant_of-self-2 : goal.invariant_of-self-2
invariant_of-self-2 c =
    let i = c.self.inside in
    let id = c.args.id in
    let shares : shares_of i.reservations id ≡ c.deref-2.result.now = ap shares_in (sym c.in-Some.ensures.was) ∙ sym c.deref-2.ensures.value in
    let changed = c.remove_in.ensures (is_reserved_by id) (λ m r h. search (rules, h)) in
    kept_removed i.accounts i.unit_holdings i.reservations id c.self.invariant c.remove_in.new.self changed c.take_out_all.new.accounts c.take.new.reservations c.take.ensures.left
    (λ n. c.take_out_all.ensures n ∙ ap (λ ss. option_map (with_fewer (share_of ss n)) (tree.get nat_cmp i.accounts n)) (sym shares))

pub returns-clause-accounts : goal.returns-clause-accounts
returns-clause-accounts c =
    account_statuses_kept c.take_out_all.new.accounts c.self.inside.accounts (λ n. with_fewer (share_of c.deref-2.result.now n)) (λ n a. refl) c.take_out_all.ensures
    ∙ ap (λ h. h.accounts) c.self.view_is

pub returns-clause-unit_holdings : goal.returns-clause-unit_holdings
returns-clause-unit_holdings c s = c.remove_in.ensures (is_reserved_by c.args.id) (λ m r h. search (rules, h)) s ∙ ap (λ h. others c.args.id (get h.unit_holdings s)) c.self.view_is
