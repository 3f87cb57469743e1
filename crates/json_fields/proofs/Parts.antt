-- The results for one part of an object, and the result for the whole.
use Rattle.std.proofs.Common.{◌≡◌, ap, sym, subst, Option, Some, None, Result, Ok, Err}
use Rattle.std.specs.Option.{ok_or}
use Rattle.std.specs.Result.{IsErrAnd}
use Rattle.json_fields.specs.Found.{Finds, Reads}
use Rattle.json_fields.specs.declared.fault.TextFault.{TextFault}
use Rattle.json_fields.specs.declared.fault.TextFault.TheVariants.{Shape, NoMemory}

-- the whole is lacking where the part is
pub lacks : {X Y : Type 0} (P : X → Type 0) (Q : Y → Type 0) (e : TextFault) → ((y : Y) → Q y → (x : X) × P x) → Finds {X = X} P (Err e) → Finds {X = Y} Q (Err e)
lacks P Q Shape part f = λ y q. let p = part y q in f p.0 p.1
lacks P Q NoMemory part f = tt

pub lacks_too : {X Y : Type 0} (P : X → Type 0) (Q : Y → Type 0) (e : TextFault) (r : Result Y TextFault) → IsErrAnd r (λ f. f ≡ e) → ((y : Y) → Q y → (x : X) × P x)
    → Finds {X = X} P (Err e) → Finds Q r
lacks_too P Q e (Ok y) same part f = absurd same
lacks_too P Q e (Err g) same part f = subst (λ h. Finds {X = _} Q (Err h)) (sym same) (lacks P Q e part f)

-- what is found in other words
pub finds_same : {X : Type 0} (P Q : X → Type 0) (r : Result X TextFault) → ((x : X) → P x → Q x) → ((x : X) → Q x → P x) → Finds P r → Finds Q r
finds_same P Q (Ok x) to from f = to x f
finds_same P Q (Err Shape) to from f = λ x q. f x (from x q)
finds_same P Q (Err NoMemory) to from f = tt

-- the whole is not there where the part isn't
pub reads_none_too : {X Y : Type 0} (P : X → Type 0) (Q : Y → Type 0) (r : Option Y) → r ≡ None → ((y : Y) → Q y → (x : X) × P x) → Reads {X = X} P None → Reads Q r
reads_none_too P Q (Some y) none part f = absurd (cc (none))
reads_none_too P Q None none part f = λ y q. let p = part y q in f p.0 p.1

-- what was read is as described
pub read_so : {X : Type 0} (P : X → Type 0) (o : Option X) (x : X) → Ok x ≡ ok_or o Shape → Reads P o → P x
read_so P (Some y) x e is = let same : y ≡ x = cc (e) in subst P same is
read_so P None x e is = absurd (cc (e))

-- the whole is lacking where a part was not read
pub not_read_too : {X Y : Type 0} (P : X → Type 0) (Q : Y → Type 0) (o : Option X) (e : TextFault) (r : Result Y TextFault) → Err e ≡ ok_or o Shape → IsErrAnd r (λ f. f ≡ e)
    → ((y : Y) → Q y → (x : X) × P x) → Reads P o → Finds Q r
not_read_too P Q (Some x) e r is same part f = absurd (cc (is))
not_read_too P Q None e r is same part f = let shape : e ≡ Shape = cc (is) in lacks_too P Q e r same part (subst (λ g. Finds {X = _} P (Err g)) (sym shape) f)

-- what was read is what was there
pub read_some : {X : Type 0} (o : Option X) (x : X) → Ok x ≡ ok_or o Shape → Some x ≡ o
read_some (Some y) x e = let same : y ≡ x = cc (e) in ap Some (sym same)
read_some None x e = absurd (cc (e))
