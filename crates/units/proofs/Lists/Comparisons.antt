-- The result of a comparison of two numbers, as a case for each outcome.
use Rattle.std.proofs.Common.{◌≡◌, ℕ, ◌<◌, refl}
use Rattle.std.specs.declared.cmp.Ordering.{Ordering}
use Rattle.std.specs.declared.cmp.Ordering.TheVariants.{Less, Equal, Greater}
use Rattle.std.specs.Ordering.{nat_cmp, ordering_then}
use Rattle.std.proofs.lemmas.Cmp.{ranked}

pub compared : (P : Ordering → Type 0) (x y : ℕ) → (x < y → P Less) → (x ≡ y → P Equal) → (y < x → P Greater) → P (nat_cmp x y)
compared P x y l e g = elim (nat_cmp x y) as (λ r. r ≡ nat_cmp x y → P r) [
  | Less ↦ λ h. l (ranked x y Less h)
  | Equal ↦ λ h. e (ranked x y Equal h)
  | Greater ↦ λ h. g (ranked x y Greater h)
] refl

-- where another comparison decides when this one finds them equal
pub compared_then : (P : Ordering → Type 0) (x y : ℕ) (o : Ordering) → (x < y → P Less) → (x ≡ y → P o) → (y < x → P Greater) → P (ordering_then (nat_cmp x y) o)
compared_then P x y o l e g = compared (λ r. P (ordering_then r o)) x y l e g
