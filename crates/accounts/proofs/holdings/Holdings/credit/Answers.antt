use Rattle.std.proofs.Common.{◌<◌, ◌+◌, ◌^◌, None, cond, eqb, refl, sym, ap, subst, ◌∙◌}
use Rattle.std.specs.BTreeMap as tree
use Rattle.std.specs.FinMap.{get}
use Rattle.std.specs.Option.{is_some, option_map}
use Rattle.std.specs.Ordering.{nat_cmp}
use Rattle.accounts.specs.Holdings.{kind_in}
use Rattle.accounts.specs.Tables.{free_at, held_at, with_units}
use Rattle.accounts.specs.declared.unit_holding.AccountStatus.TheVariants.{Open}
use Rattle.accounts.proofs.InStep.{held_fits, free_fits, kept_credited}
use Rattle.accounts.proofs.Parts.{kind_covered}
use Rattle.accounts.proofs.AccountStatuses.{get_accounts, account_statuses_kept_one, known_account}
use Rattle.accounts.proofs.OneUnit.{put}
use Rattle.accounts.proofs.holdings.Holdings.credit.Goals as goal

pub put_in-requires-clause-held : goal.put_in-requires-clause-held
put_in-requires-clause-held c =
    let i = c.self.inside in
    let blocks = c.args.blocks.now in
    subst (λ m. held_at i.accounts c.args.account + m < 2 ^ 64) (sym c.count.ensures)
    (held_fits i.accounts i.unit_holdings i.reservations c.self.invariant c.args.account blocks c.requires.apart c.set_unit_holdings.new.unit_holdings c.in_ok-set_unit_holdings.ensures.ok
    (λ s k e. ap (λ h. get h.unit_holdings s) c.self.view_is ∙ c.requires.absent s (sym (kind_covered blocks s) ∙ ap is_some e)))

pub put_in-requires-clause-free : goal.put_in-requires-clause-free
put_in-requires-clause-free c =
    let i = c.self.inside in
    let blocks = c.args.blocks.now in
    subst (λ m. free_at i.accounts c.args.account + m < 2 ^ 64) (sym c.count.ensures)
    (free_fits i.accounts i.unit_holdings i.reservations c.self.invariant c.args.account blocks c.requires.apart c.set_unit_holdings.new.unit_holdings c.in_ok-set_unit_holdings.ensures.ok
    (λ s k e. ap (λ h. get h.unit_holdings s) c.self.view_is ∙ c.requires.absent s (sym (kind_covered blocks s) ∙ ap is_some e)))

pub invariant_of-self-2 : goal.invariant_of-self-2
invariant_of-self-2 c =
    let i = c.self.inside in
    let a = c.args.account in
    let blocks = c.args.blocks.now in
    let known = known_account (tree.get nat_cmp i.accounts a) Open (sym (get_accounts i.accounts c.args.self.now.accounts (ap (λ h. h.accounts) c.self.view_is) a) ∙ c.requires.open_account) in
    kept_credited i.accounts i.unit_holdings i.reservations c.self.invariant a blocks c.requires.apart c.set_unit_holdings.new.unit_holdings c.in_ok-set_unit_holdings.ensures.ok
    (λ s k e. ap (λ h. get h.unit_holdings s) c.self.view_is ∙ c.requires.absent s (sym (kind_covered blocks s) ∙ ap is_some e))
    known c.put_in.new.accounts
    (λ n. c.put_in.ensures n ∙ ap (λ m. cond (eqb n a) (option_map (with_units m) (tree.get nat_cmp i.accounts n)) (tree.get nat_cmp i.accounts n)) c.count.ensures)

pub returns-clause-ok : goal.returns-clause-ok
returns-clause-ok c = (
  account_statuses_kept_one c.put_in.new.accounts c.self.inside.accounts (with_units c.count.result) c.args.account (λ a. refl) c.put_in.ensures ∙ ap (λ h. h.accounts) c.self.view_is,
  λ s. c.in_ok-set_unit_holdings.ensures.ok s ∙ ap (λ h. put c.args.account None (kind_in c.args.blocks.now s) (get h.unit_holdings s)) c.self.view_is,
)
