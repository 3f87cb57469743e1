-- The texts of schemes.
use Rattle.std.specs.Prelude.{ℕ, List}
use Rattle.std.specs.Prelude.{IsPermutation}
use Rattle.scheme.specs.Faults.{Writes}
use Rattle.scheme.specs.declared.members.SchemeRegistry.{SchemeRegistry}
use Rattle.scheme.specs.declared.registries.Scheme.{Scheme}

-- the text writes the scheme's registries, in any order; the scheme has them in byte order and free of faults
pub record IsSchemeText (bytes : List ℕ) (s : Scheme) : Type 0 where
  pub listed : List SchemeRegistry
  pub writes : Writes bytes s.records listed
  pub sorted : IsPermutation listed s.members
