-- Clauses of tests that hold, seen through the map in place of its intervals.
use Rattle.std.proofs.Common.{Bool, true, false, not}
use Rattle.std.specs.Bool.{OnTrue, OnFalse}

pub on_true : (r : Bool) (P Q : Type 0) → (P → Q) → OnTrue r P → OnTrue r Q
on_true true P Q f h = f h
on_true false P Q f h = tt

pub on_false : (r : Bool) (P Q : Type 0) → (P → Q) → OnFalse r P → OnFalse r Q
on_false true P Q f h = tt
on_false false P Q f h = f h

pub on_not_false : (r : Bool) (P Q : Type 0) → (P → Q) → OnFalse r P → OnTrue (not r) Q
on_not_false true P Q f h = tt
on_not_false false P Q f h = f h

pub on_not_true : (r : Bool) (P Q : Type 0) → (P → Q) → OnTrue r P → OnFalse (not r) Q
on_not_true true P Q f h = f h
on_not_true false P Q f h = tt
