-- Whether a store must be reopened before it takes calls.
use Rattle.std.specs.Prelude.{Bool, true, false}
use Rattle.stores.specs.declared.readiness.Readiness.{Readiness}
use Rattle.stores.specs.declared.readiness.Readiness.TheVariants.{Ready, MustReopen}

abbrev pub is_stopped : Readiness → Bool
is_stopped Ready = false
is_stopped MustReopen = true
