-- The first cause that holds: of causes in parts, and the decision by it.
use Rattle.std.proofs.Common.{◌≡◌, ℕ, [], ◌∷◌, ◌++◌, Bool, true, false, cond, Some, None, refl, sym, ap}
use Rattle.std.proofs.lemmas.Option.{none-some}
use Rattle.units.proofs.Lists.OneValue.{one_some}
use Rattle.protocol.specs.Checks.{Causes}
use Rattle.protocol.specs.Deciding.{IsRefused, Verdict, refuse}
use Rattle.checks.specs.Refusing.{first_of}

-- it is that of the first part, where one of these holds
pub first_within : (xs ys : Causes) (n : ℕ) → first_of xs ≡ Some n → first_of (xs ++ ys) ≡ Some n
first_within [] ys n e = absurd (none-some n e)
first_within (x ∷ xs) ys n e = go x.0 (first_within xs ys n) e
  where
    go : (b : Bool) → (first_of xs ≡ Some n → first_of (xs ++ ys) ≡ Some n) → cond b (Some x.1) (first_of xs) ≡ Some n → cond b (Some x.1) (first_of (xs ++ ys)) ≡ Some n
    go true rest h = h
    go false rest h = rest h

-- it is that of the others, where none of these holds
pub first_beyond : (xs ys : Causes) → first_of xs ≡ None → first_of (xs ++ ys) ≡ first_of ys
first_beyond [] ys e = refl
first_beyond (x ∷ xs) ys e = go x.0 (first_beyond xs ys) e
  where
    go : (b : Bool) → (first_of xs ≡ None → first_of (xs ++ ys) ≡ first_of ys) → cond b (Some x.1) (first_of xs) ≡ None → cond b (Some x.1) (first_of (xs ++ ys)) ≡ first_of ys
    go true rest h = absurd (none-some x.1 (sym h))
    go false rest h = rest h

-- the refusal is by the first one, and where there is none, the verdict is the one that follows
pub refuse_first : (cs : Causes) (v : Verdict) (n : ℕ) → first_of cs ≡ Some n → refuse cs v ≡ IsRefused n
refuse_first [] v n h = absurd (cc (h))
refuse_first (c ∷ cs) v n h = go c.0 h (refuse_first cs v n)
  where
    go : (b : Bool) → cond b (Some c.1) (first_of cs) ≡ Some n → (first_of cs ≡ Some n → refuse cs v ≡ IsRefused n) → cond b (IsRefused c.1) (refuse cs v) ≡ IsRefused n
    go true e rest = ap (λ (k : ℕ). IsRefused k) (one_some c.1 n e)
    go false e rest = rest e

pub refuse_none : (cs : Causes) (v : Verdict) → first_of cs ≡ None → refuse cs v ≡ v
refuse_none [] v h = refl
refuse_none (c ∷ cs) v h = go c.0 h (refuse_none cs v)
  where
    go : (b : Bool) → cond b (Some c.1) (first_of cs) ≡ None → (first_of cs ≡ None → refuse cs v ≡ v) → cond b (IsRefused c.1) (refuse cs v) ≡ v
    go true e rest = absurd (cc (e))
    go false e rest = rest e
