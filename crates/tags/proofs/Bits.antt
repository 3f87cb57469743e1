-- Bytes that differ, by exclusive or.
use Rattle.std.proofs.Common.{◌≡◌, ℕ, bit_or, bit_xor, arith}
use Rattle.std.specs.Int.Bits.{xor_add_and}
use Rattle.std.proofs.lemmas.Nat.{and_le_l, and_le_r, le_or_l, le_or_r}

-- no bit differs
pub same_from_xor : (a b : ℕ) → bit_xor a b ≡ 0 → a ≡ b
same_from_xor a b e =
    let sum = xor_add_and a b in
    let left = and_le_l a b in
    let right = and_le_r a b in
    omega (arith, sum, left, right, e)

-- both are zero
pub zero_left : (a b : ℕ) → bit_or a b ≡ 0 → a ≡ 0
zero_left a b e = omega (arith, le_or_l a b, e)

pub zero_right : (a b : ℕ) → bit_or a b ≡ 0 → b ≡ 0
zero_right a b e = omega (arith, le_or_r a b, e)
