use Rattle.std.proofs.Common.{sym, ap, ◌∙◌}
use Rattle.std.specs.Option.{option_map, option_copied}
use Rattle.accounts.proofs.AccountStatuses.{get_accounts}
use Rattle.accounts.proofs.holdings.Holdings.account_status.Goals as goal

pub returns : goal.returns
returns c =
    ap (option_map (λ a. a.account_status)) (ap option_copied (sym c.in_ok-account.was) ∙ c.get.ensures.value)
    ∙ sym (get_accounts c.self.inside.accounts c.args.self.now.accounts (ap (λ h. h.accounts) c.self.view_is) c.args.account)

pub returns-in_err-account : goal.returns-in_err-account
returns-in_err-account c =
    c.from_residual.ensures
    ∙ ap (option_map (λ a. a.account_status)) (ap option_copied (sym c.in_err-account.was) ∙ c.get.ensures.value)
    ∙ sym (get_accounts c.self.inside.accounts c.args.self.now.accounts (ap (λ h. h.accounts) c.self.view_is) c.args.account)
