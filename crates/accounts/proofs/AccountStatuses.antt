-- The statuses that the map of the accounts gives.
use Rattle.std.proofs.Common.{◌≡◌, ℕ, List, [], ◌∷◌, map, Bool, true, false, cond, eqb, Option, Some, None, IsSome, refl, sym, ap, ◌∙◌, arith}
use Rattle.std.specs.BTreeMap as tree
use Rattle.std.specs.BTreeMap.{BTreeMap}
use Rattle.std.specs.FinMap.{FinMap, get, get-from_entries, same_map}
use Rattle.std.specs.FinMap.Entries.{find}
use Rattle.std.specs.Map.{lookup}
use Rattle.std.specs.Cmp.{nat_cmp_total}
use Rattle.std.specs.Option.{option_map}
use Rattle.std.specs.Ordering.{nat_cmp, is_eq, eq_by_cmp}
use Rattle.std.proofs.lemmas.Bool.Decides.{nat_tests}
use Rattle.std.proofs.lemmas.Option.{none-some}
use Rattle.std.proofs.lemmas.Map.Lookups.{exact_unsigned}
use Rattle.accounts.specs.Accounts.{account_statuses}
use Rattle.accounts.specs.declared.account.Account.{Account}
use Rattle.accounts.specs.declared.unit_holding.AccountStatus.{AccountStatus}

pub tied : (m n : ℕ) → eq_by_cmp nat_cmp m n ≡ eqb n m
tied m n = grind (arith, nat_tests)

pub turned : (m n : ℕ) → eqb m n ≡ eqb n m
turned m n = grind (arith, nat_tests)

account_status_found : (es : List (ℕ × Account)) (n : ℕ) → find nat_cmp n (map (λ e. (e.0, e.1.account_status)) es) ≡ option_map (λ a. a.account_status) (lookup (λ k. is_eq (nat_cmp n k)) es)
account_status_found [] n = refl
account_status_found (e ∷ es) n = step (eq_by_cmp nat_cmp n e.0) e.1 (find nat_cmp n (map (λ f. (f.0, f.1.account_status)) es)) (lookup (λ k. is_eq (nat_cmp n k)) es) (account_status_found es n)
  where
    step : (t : Bool) (a : Account) (o : Option AccountStatus) (p : Option Account) → o ≡ option_map (λ b. b.account_status) p → cond t (Some a.account_status) o ≡ option_map (λ b. b.account_status) (cond t (Some a) p)
    step true a o p e = refl
    step false a o p e = e

pub get-account_statuses : (accounts : BTreeMap ℕ Account) (n : ℕ) → get (account_statuses accounts) n ≡ option_map (λ a. a.account_status) (tree.get nat_cmp accounts n)
unfolding account_statuses
get-account_statuses accounts n = get-from_entries nat_cmp_total (map (λ e. (e.0, e.1.account_status)) accounts.entries) n ∙ account_status_found accounts.entries n

-- the status that the map gives an account, by the accounts
pub get_accounts : (accounts : BTreeMap ℕ Account) (m : FinMap nat_cmp AccountStatus) → account_statuses accounts ≡ m → (n : ℕ) → get m n ≡ option_map (λ a. a.account_status) (tree.get nat_cmp accounts n)
get_accounts accounts m e n = ap (λ k. get k n) (sym e) ∙ get-account_statuses accounts n

-- accounts of the same statuses
pub same_account_statuses : (a b : BTreeMap ℕ Account) → ((n : ℕ) → option_map (λ x. x.account_status) (tree.get nat_cmp a n) ≡ option_map (λ x. x.account_status) (tree.get nat_cmp b n)) → account_statuses a ≡ account_statuses b
same_account_statuses a b h = same_map nat_cmp_total exact_unsigned (account_statuses a) (account_statuses b) (λ n. get-account_statuses a n ∙ h n ∙ sym (get-account_statuses b n))

kept_account_status : (f : Account → Account) → ((a : Account) → (f a).account_status ≡ a.account_status) → (o : Option Account) → option_map (λ x. x.account_status) (option_map f o) ≡ option_map (λ x. x.account_status) o
kept_account_status f kept None = refl
kept_account_status f kept (Some a) = ap Some (kept a)

-- accounts that changed in their counts
pub account_statuses_kept : (a b : BTreeMap ℕ Account) (f : ℕ → Account → Account) → ((n : ℕ) (x : Account) → (f n x).account_status ≡ x.account_status) → ((n : ℕ) → tree.get nat_cmp a n ≡ option_map (f n) (tree.get nat_cmp b n)) → account_statuses a ≡ account_statuses b
account_statuses_kept a b f kept changed = same_account_statuses a b (λ n. ap (option_map (λ x. x.account_status)) (changed n) ∙ kept_account_status (f n) (kept n) (tree.get nat_cmp b n))

-- one account that changed in its counts
pub account_statuses_kept_one : (a b : BTreeMap ℕ Account) (f : Account → Account) (k : ℕ) → ((x : Account) → (f x).account_status ≡ x.account_status) → ((n : ℕ) → tree.get nat_cmp a n ≡ cond (eqb n k) (option_map f (tree.get nat_cmp b n)) (tree.get nat_cmp b n)) → account_statuses a ≡ account_statuses b
account_statuses_kept_one a b f k kept changed = same_account_statuses a b (λ n. ap (option_map (λ x. x.account_status)) (changed n) ∙ either (eqb n k) (tree.get nat_cmp b n))
  where
    either : (t : Bool) (o : Option Account) → option_map (λ x. x.account_status) (cond t (option_map f o) o) ≡ option_map (λ x. x.account_status) o
    either true o = kept_account_status f kept o
    either false o = refl

-- an account with a status is there
pub known_account : (o : Option Account) (s : AccountStatus) → option_map (λ a. a.account_status) o ≡ Some s → IsSome o
known_account None s e = absurd (none-some s e)
known_account (Some a) s e = refl
