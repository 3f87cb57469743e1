use Rattle.std.proofs.Common.{◌≡◌, Bool, true, false, cond, Some, None, refl, sym, subst, ap, ◌∙◌}
use Rattle.std.specs.FinMap.{get, get-empty}
use Rattle.std.specs.Map.{lookup}
use Rattle.std.specs.Option.{option_map, option_map_or}
use Rattle.std.specs.Ordering.{is_eq}
use Rattle.units.specs.Keys.{unit_cmp}
use Rattle.status.specs.Id.{id_cmp}
use Rattle.accounts.specs.declared.account.Account.{Account}
use Rattle.accounts.proofs.InStep.{kept_empty}
use Rattle.std.specs.List.{list_any}
use Rattle.std.specs.Prelude.{◌==◌}
use Rattle.accounts.specs.Accounts.{opened}
use Rattle.accounts.specs.declared.unit_holding.AccountStatus.TheVariants.{Open}
use Rattle.accounts.proofs.AccountStatuses.{get-account_statuses}
use Rattle.accounts.proofs.holdings.Holdings.new.Goals as goal

all_open : (t : Bool) → option_map (λ a. a.account_status) (cond t (Some opened) None) ≡ cond t (Some Open) None
all_open true = refl
all_open false = refl

pub returns-clause-accounts : goal.returns-clause-accounts
returns-clause-accounts c n =
    get-account_statuses c.in_ok-accounts.accounts n
    ∙ ap (option_map (λ a. a.account_status)) (c.in_ok-accounts.ensures n)
    ∙ all_open (list_any (λ a. a == n) c.args.accounts.now)

zero_counts : (t : Bool) → (option_map_or (λ a. a.held) (cond t (Some opened) None) 0 ≡ 0) × (option_map_or (λ a. a.free) (cond t (Some opened) None) 0 ≡ 0)
zero_counts true = (refl, refl)
zero_counts false = (refl, refl)

pub invariant_of-result : goal.invariant_of-result
invariant_of-result c =
    kept_empty c.in_ok-accounts.accounts c.new.result c.new-2.result
    (λ n. subst (λ o. (option_map_or (λ (a : Account). a.held) o 0 ≡ 0) × (option_map_or (λ (a : Account). a.free) o 0 ≡ 0)) (sym (c.in_ok-accounts.ensures n)) (zero_counts (list_any (λ a. a == n) c.args.accounts.now)))
    (λ s. ap (λ m. get m s) c.new.ensures ∙ get-empty unit_cmp s)
    (λ q. ap (lookup (λ k. is_eq (id_cmp q k))) c.new-2.ensures.empty)
