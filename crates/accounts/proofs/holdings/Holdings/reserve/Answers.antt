use Rattle.std.proofs.Common.{◌≤◌, ◌∷◌, [], ◌++◌, Some, cond, eqb, refl, sym, ap, subst, ◌∙◌}
use Rattle.std.specs.BTreeMap as tree
use Rattle.std.specs.FinMap.{get}
use Rattle.std.specs.Option.{option_map}
use Rattle.std.specs.Ordering.{nat_cmp}
use Rattle.units.specs.Apart.{AllApart}
use Rattle.units.specs.Unit.{covers}
use Rattle.accounts.specs.Holdings.{kind_in}
use Rattle.accounts.specs.Tables.{blocks_of, free_at, shares_of, units_in, with_fewer_free}
use Rattle.accounts.proofs.InStep.{enough_free, kept_reserved, kept_same, taken_back}
use Rattle.accounts.proofs.Parts.{kind_covered}
use Rattle.accounts.proofs.Reserving.{free_unit_holdings, reserved_unit_holding}
use Rattle.accounts.proofs.AccountStatuses.{account_statuses_kept_one}
use Rattle.accounts.proofs.OneUnit.{put}
use Rattle.accounts.proofs.holdings.Holdings.reserve.Goals as goal

pub invariant_of-self : goal.invariant_of-self
invariant_of-self c =
    let i = c.self.inside in
    kept_same i.accounts i.unit_holdings i.unit_holdings i.reservations c.extend.new.reservations c.args.id c.self.invariant refl c.in_err-extend.ensures.err

pub invariant_of-self-in-Err : goal.invariant_of-self-in-Err
invariant_of-self-in-Err c =
    let i = c.self.inside in
    let id = c.args.id in
    let given = c.in_ok-extend.ensures.ok in
    kept_same i.accounts i.unit_holdings c.set_unit_holdings.new.unit_holdings i.reservations c.shorten.new.reservations id c.self.invariant c.in-Err.ensures.err
    (taken_back i.reservations c.extend.new.reservations c.shorten.new.reservations id _ _ given
    (c.shorten.ensures (blocks_of i.reservations id) (shares_of i.reservations id) _ (given.blocks_are ∙ ap (λ bs. blocks_of i.reservations id ++ bs) (c.deref-2.ensures.value ∙ sym c.deref-in-Err.ensures.value)) given.shares_are))

pub reserve-requires : goal.reserve-requires
reserve-requires c =
    let i = c.self.inside in
    let parts = c.deref-3.result.now in
    let apart = subst AllApart (sym c.deref-3.ensures.value) c.in_ok-parts.ensures.apart in
    let counted = c.count.ensures ∙ ap units_in (c.deref.ensures.value ∙ sym c.deref-3.ensures.value) in
    let free = free_unit_holdings c.args.self.now c.args.account c.args.blocks.now c.in_ok-parts.parts.items c.in_ok-check.ensures.ok c.in_ok-parts.ensures.kinds in
    subst (λ n. n ≤ free_at i.accounts c.args.account) (sym counted)
    (enough_free i.accounts i.unit_holdings i.reservations c.self.invariant c.args.account parts apart c.set_unit_holdings.new.unit_holdings c.args.id c.in_default.ensures.ok
    (λ s k e. ap (λ h. get h.unit_holdings s) c.self.view_is ∙ free s k (ap (λ bs. kind_in bs s) (sym c.deref-3.ensures.value) ∙ e)))

pub invariant_of-self-2 : goal.invariant_of-self-2
invariant_of-self-2 c =
    let i = c.self.inside in
    let a = c.args.account in
    let id = c.args.id in
    let parts = c.deref-3.result.now in
    let apart = subst AllApart (sym c.deref-3.ensures.value) c.in_ok-parts.ensures.apart in
    let counted = c.count.ensures ∙ ap units_in (c.deref.ensures.value ∙ sym c.deref-3.ensures.value) in
    let free = free_unit_holdings c.args.self.now a c.args.blocks.now c.in_ok-parts.parts.items c.in_ok-check.ensures.ok c.in_ok-parts.ensures.kinds in
    let given = c.in_ok-extend.ensures.ok in
    kept_reserved i.accounts i.unit_holdings i.reservations c.self.invariant a parts apart c.set_unit_holdings.new.unit_holdings id c.extend.new.reservations
    (record {
      blocks_are = given.blocks_are ∙ ap (λ bs. blocks_of i.reservations id ++ bs) (c.deref-2.ensures.value ∙ sym c.deref-3.ensures.value);
      shares_are = given.shares_are ∙ ap (λ m. shares_of i.reservations id ++ record { account = a; count = m } ∷ []) counted;
      others = given.others;
    })
    c.in_default.ensures.ok
    (λ s k e. ap (λ h. get h.unit_holdings s) c.self.view_is ∙ free s k (ap (λ bs. kind_in bs s) (sym c.deref-3.ensures.value) ∙ e))
    c.reserve.new.accounts
    (λ n. c.reserve.ensures n ∙ ap (λ m. cond (eqb n a) (option_map (with_fewer_free m) (tree.get nat_cmp i.accounts n)) (tree.get nat_cmp i.accounts n)) counted)

pub returns-clause-ok : goal.returns-clause-ok
returns-clause-ok c =
    let a = c.args.account in
    let id = c.args.id in
    let parts = c.deref-3.result.now in
    let held = c.args.self.now in
    let free = free_unit_holdings held a c.args.blocks.now c.in_ok-parts.parts.items c.in_ok-check.ensures.ok c.in_ok-parts.ensures.kinds in (
      account_statuses_kept_one c.reserve.new.accounts c.self.inside.accounts (with_fewer_free c.count.result) a (λ x. refl) c.reserve.ensures ∙ ap (λ h. h.accounts) c.self.view_is,
      λ s.
          c.in_default.ensures.ok s
          ∙ ap (λ h. put a (Some id) (kind_in parts s) (get h.unit_holdings s)) c.self.view_is
          ∙ reserved_unit_holding a id (covers c.args.blocks.now s) (kind_in parts s) (get held.unit_holdings s)
          (kind_covered parts s ∙ ap (λ bs. covers bs s) c.deref-3.ensures.value ∙ c.in_ok-parts.ensures.same s)
          (λ k e. free s k (ap (λ bs. kind_in bs s) (sym c.deref-3.ensures.value) ∙ e)),
    )
