-- A test has one result, and `Some` holds one value.
use Rattle.std.proofs.Common.{◌≡◌, Bool, true, false, Some, sym, ◌∙◌}

pub clash : {X : Type 0} (a : Bool) → a ≡ true → a ≡ false → X
clash a p q = let e : true ≡ false = sym p ∙ q in absurd (cc (e))

pub one_some : {X : Type 0} (x y : X) → Some x ≡ Some y → x ≡ y
one_some x y e = cc (e)
