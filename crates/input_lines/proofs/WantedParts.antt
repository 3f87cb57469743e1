-- A part without which the line writes nothing.
use Rattle.std.proofs.Common.{◌≡◌, ◌∙◌, Option, Some, None, Result, Ok, Err, IfSome, IfNone, sym, subst}
use Rattle.std.specs.Option.{ok_or}
use Rattle.std.specs.Result.{IsErrAnd}

-- a fact about the part, where it is there
pub part_so : {A E : Type 0} (P : A → Type 0) (o : Option A) (fault : E) (a : A) → Ok a ≡ ok_or o fault → IfSome o P → P a
part_so P (Some b) fault a e is = let same : b ≡ a = cc (e) in subst P same is
part_so P None fault a e is = absurd (cc (e))

-- a fact about its lack, where it is missing
pub lack_so : {A E : Type 0} (Q : Type 0) (o : Option A) (fault e : E) → Err e ≡ ok_or o fault → IfNone o Q → Q
lack_so Q (Some b) fault e is none = absurd (cc (is))
lack_so Q None fault e is none = none

-- the fault that is passed on
pub fault_so : {T E : Type 0} (r : Result T E) (f e : E) → IsErrAnd r (λ x. x ≡ f) → r ≡ Err e → f ≡ e
fault_so (Ok t) f e same is = absurd (cc (is))
fault_so (Err x) f e same is = let told : x ≡ e = cc (is) in sym same ∙ told
