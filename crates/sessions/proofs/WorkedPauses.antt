-- How long a sender pauses after a number of failures in a row, in numbers.
use Rattle.std.proofs.Common.{◌≡◌, ℕ, ◌^◌, ◌≤◌, suc, min, refl, arith, lit≤}
use Rattle.std.proofs.Math.Nat.{pow-le-pow_right}
use Rattle.sessions.specs.Pauses.{pause_seconds}

pub after_none : pause_seconds 0 ≡ 0
after_none = refl

pub after_the_first : pause_seconds 1 ≡ 1
after_the_first = refl

pub after_the_second : pause_seconds 2 ≡ 2
after_the_second = refl

pub after_the_third : pause_seconds 3 ≡ 4
after_the_third = refl

pub after_the_fourth : pause_seconds 4 ≡ 8
after_the_fourth = refl

pub after_the_fifth : pause_seconds 5 ≡ 16
after_the_fifth = refl

pub after_the_sixth : pause_seconds 6 ≡ 32
after_the_sixth = refl

pub after_the_seventh : pause_seconds 7 ≡ 60
after_the_seventh = refl

pub after_a_thousand : pause_seconds 1_000 ≡ 60
after_a_thousand = refl

-- and after each further failure
pub after_each_later : (n : ℕ) → 6 ≤ n → pause_seconds (suc n) ≡ 60
after_each_later n many =
    let most : 2 ^ 6 ≤ 2 ^ n = pow-le-pow_right (lit≤ tt) many in
    omega (arith, most)
