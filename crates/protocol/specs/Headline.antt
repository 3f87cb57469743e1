-- The laws of safety in one: no unit is lost, and none is in two places.
use Rattle.std.specs.Prelude.{List}
use Rattle.units.specs.declared.code.Node.{Node}
use Rattle.scheme.specs.declared.registries.Scheme.{Scheme}
use Rattle.protocol.specs.History.{Entry}
use Rattle.protocol.specs.Claims.{Agrees, OnePlace, SpentOnce, HolderOwns, TerminatesForEligibility}

-- the claims about the histories of all nodes
pub record IsSafe (scheme : Scheme) (f : Node → List Entry) : Type 0 where
  pub agree : Agrees f
  pub one_place : OnePlace scheme f
  pub spent_once : SpentOnce scheme f
  pub holder_owns : HolderOwns scheme f
  pub eligibility : TerminatesForEligibility f
