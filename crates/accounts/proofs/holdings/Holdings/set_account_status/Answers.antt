use Rattle.std.proofs.Common.{◌≡◌, is_some, eqb, Bool, true, false, true≢false, cond, Option, Some, None, IsSome, refl, sym, ap, ◌∙◌}
use Rattle.std.specs.Option.{option_map}
use Rattle.std.specs.BTreeMap as tree
use Rattle.std.specs.FinMap.{get}
use Rattle.std.specs.Ordering.{nat_cmp}
use Rattle.std.proofs.lemmas.Bool.{eqb-true}
use Rattle.accounts.specs.Accounts.{with_account_status}
use Rattle.accounts.specs.declared.account.Account.{Account}
use Rattle.accounts.specs.declared.unit_holding.AccountStatus.{AccountStatus}
use Rattle.accounts.proofs.AccountStatuses.{get-account_statuses, get_accounts}
use Rattle.accounts.proofs.holdings.Holdings.set_account_status.Goals as goal

changed : (t : Bool) (account_status : AccountStatus) (o : Option Account) (s : Option AccountStatus) → s ≡ option_map (λ a. a.account_status) o → (t ≡ true → IsSome s) → option_map (λ a. a.account_status) (cond t (option_map (with_account_status account_status) o) o) ≡ cond t (Some account_status) s
changed true account_status (Some a) s e h = refl
changed true account_status None s e h = absurd (true≢false (sym (sym (ap is_some e) ∙ h refl)))
changed false account_status o s e h = sym e

pub returns-clause-accounts : goal.returns-clause-accounts
returns-clause-accounts c n =
    let held = c.args.self.now in
    let view = get_accounts c.self.inside.accounts held.accounts (ap (λ h. h.accounts) c.self.view_is) in
    get-account_statuses c.set_account_status.new.accounts n
    ∙ ap (option_map (λ a. a.account_status)) (c.set_account_status.ensures n)
    ∙ changed (eqb n c.args.account) c.args.account_status (tree.get nat_cmp c.self.inside.accounts n) (get held.accounts n) (view n) (λ e. ap (λ m. is_some (get held.accounts m)) (eqb-true n c.args.account e) ∙ c.requires)
