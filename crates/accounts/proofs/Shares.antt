-- Accounts whose counts change share by share.
use Rattle.std.proofs.Common.{◌≡◌, ℕ, ◌+◌, ◌-◌, ◌<◌, ◌≤◌, List, length, get_or, take, cond, eqb, Option, Some, None, refl, ap, arith, eq-eqb}
use Rattle.std.specs.Option.{option_map}
use Rattle.std.proofs.lemmas.List.Sums.{sum_by_more_le}
use Rattle.accounts.specs.Tables.{free_in, held_in, share_of, with_more_free, with_fewer}
use Rattle.accounts.specs.declared.account.Account.{Account}
use Rattle.accounts.specs.declared.reservation.Share.{Share}

pub freed : (m : ℕ) (o : Option Account) → free_in (option_map (with_more_free m) o) ≤ free_in o + m
freed m None = omega arith
freed m (Some a) = omega arith

pub left : (m : ℕ) (o : Option Account) → held_in (option_map (with_fewer m) o) ≡ held_in o - m
left m None = omega arith
left m (Some a) = refl

-- the shares so far and the next one are within all shares
pub so_far : (shares : List Share) (i : ℕ) (d : Share) → i < length shares → share_of (take i shares) (get_or shares i d).account + (get_or shares i d).count ≤ share_of shares (get_or shares i d).account
so_far shares i d lt =
    let s = get_or shares i d in
    let within = sum_by_more_le (λ (x : Share). cond (eqb x.account s.account) x.count 0) shares i d lt in
    let here : cond (eqb s.account s.account) s.count 0 ≡ s.count = ap (λ t. cond t s.count 0) (eq-eqb s.account s.account refl) in
    omega (arith, within, here)
