use Rattle.std.proofs.Common.{◌≡◌, ◌<◌, ◌+◌, ◌^◌, rules, refl, sym, ap, subst, ◌∙◌, inl, inr}
use Rattle.std.specs.BTreeMap as tree
use Rattle.std.specs.FinMap.{get}
use Rattle.std.specs.Option.{option_map}
use Rattle.std.specs.Ordering.{nat_cmp}
use Rattle.units.specs.Unit.{covers}
use Rattle.accounts.specs.Holdings.{released}
use Rattle.accounts.specs.Tables.{blocks_in, shares_in, free_at, share_of, shares_of, with_more_free}
use Rattle.accounts.proofs.AccountStatuses.{account_statuses_kept}
use Rattle.accounts.proofs.OneUnit.{released_twice, released_other, released_none}
use Rattle.accounts.proofs.InStep.{freed_fits, kept_released, none_reserved, kept_none, reserved_in_blocks}
use Rattle.accounts.proofs.holdings.Holdings.release.Goals as goal

pub invariant_of-self : goal.invariant_of-self
invariant_of-self c =
    let i = c.self.inside in
    kept_none i.accounts i.unit_holdings i.reservations c.args.id c.self.invariant (sym c.take.ensures.was ∙ c.in_default.is) c.take.new.reservations c.take.ensures.left

pub returns-in_default-clause-unit_holdings : goal.returns-in_default-clause-unit_holdings
returns-in_default-clause-unit_holdings c s =
    let i = c.self.inside in
    let none = none_reserved i.accounts i.unit_holdings i.reservations c.args.id c.self.invariant (sym c.take.ensures.was ∙ c.in_default.is) s in
    released_none c.args.id (get i.unit_holdings s) none ∙ ap (λ h. option_map (released c.args.id) (get h.unit_holdings s)) c.self.view_is

pub relabel_in-requires-clause-only : goal.relabel_in-requires-clause-only
relabel_in-requires-clause-only c u m r e h =
    let i = c.self.inside in
    let same : r ≡ released c.args.id m = search (rules, h) in
    elim (reserved_in_blocks i.accounts i.unit_holdings i.reservations c.args.id c.self.invariant u m e) [
      | inl other ↦ inl (same ∙ released_other c.args.id m other)
      | inr among ↦ inr (ap (λ bs. covers bs u) (c.deref.ensures.value ∙ ap blocks_in c.in-Some.ensures.was) ∙ among)
    ]

pub relabel_in-requires-clause-same : goal.relabel_in-requires-clause-same
relabel_in-requires-clause-same c u m e =
    let i = c.self.inside in
    elim (reserved_in_blocks i.accounts i.unit_holdings i.reservations c.args.id c.self.invariant u m e) [
      | inl other ↦ inl (sym (released_other c.args.id m other))
      | inr among ↦ inr (ap (λ bs. covers bs u) (c.deref.ensures.value ∙ ap blocks_in c.in-Some.ensures.was) ∙ among)
    ]

pub release_all-requires : goal.release_all-requires
release_all-requires c n =
    let i = c.self.inside in
    let id = c.args.id in
    let shares : shares_of i.reservations id ≡ c.deref-2.result.now = ap shares_in (sym c.in-Some.ensures.was) ∙ sym c.deref-2.ensures.value in
    let changed = c.relabel_in.ensures (released id) (λ m r h. search (rules, h)) (released_twice id) in
    subst (λ ss. free_at i.accounts n + share_of ss n < 2 ^ 64) shares (freed_fits i.accounts i.unit_holdings i.reservations id c.self.invariant c.relabel_in.new.self changed n)

pub invariant_of-self-2 : goal.invariant_of-self-2
invariant_of-self-2 c =
    let i = c.self.inside in
    let id = c.args.id in
    let shares : shares_of i.reservations id ≡ c.deref-2.result.now = ap shares_in (sym c.in-Some.ensures.was) ∙ sym c.deref-2.ensures.value in
    let changed = c.relabel_in.ensures (released id) (λ m r h. search (rules, h)) (released_twice id) in
    kept_released i.accounts i.unit_holdings i.reservations id c.self.invariant c.relabel_in.new.self changed c.release_all.new.accounts c.take.new.reservations c.take.ensures.left
    (λ n. c.release_all.ensures n ∙ ap (λ ss. option_map (with_more_free (share_of ss n)) (tree.get nat_cmp i.accounts n)) (sym shares))

pub returns-clause-accounts : goal.returns-clause-accounts
returns-clause-accounts c =
    account_statuses_kept c.release_all.new.accounts c.self.inside.accounts (λ n. with_more_free (share_of c.deref-2.result.now n)) (λ n a. refl) c.release_all.ensures
    ∙ ap (λ h. h.accounts) c.self.view_is
