-- Whether the notes of the threads of each node are those of one thread alone.
use Rattle.std.specs.Prelude.{◌≡◌, ◌≢◌, ◌<◌, ℕ, List, length, slice_get, Some}
use Rattle.units.specs.declared.code.Node.{Node}
use Rattle.protocol.specs.Scheme.{Scheme}
use Rattle.protocol.specs.Registries.{nodes}
use Rattle.settling.specs.Settling.{IsFaultOf, IsSettled}
use Rattle.node_state.specs.Views.{StateView, SeatView}
use Rattle.settling.specs.declared.life.Unsettled.TheVariants as settling
use Rattle.settling.specs.declared.life.Unsettled.{Unsettled as Cause}
use Rattle.command_faults.specs.declared.fault.OpFault.{OpFault}
use Rattle.command_faults.specs.declared.fault.OpFault.TheVariants.{Unsettled, NoMemory}

-- the notes of the threads of the first nodes are those that each node alone would have given under the scheme
abbrev pub AreSettledTo : ℕ → Scheme → List StateView → List (List SeatView) → Type 0
AreSettledTo at scheme helds seats =
    (k : ℕ) (n : Node) (held : StateView) (heard : List SeatView) → k < at → slice_get (nodes scheme) k ≡ Some n → slice_get helds k ≡ Some held → slice_get seats k ≡ Some heard
    → IsSettled scheme n held heard

abbrev pub AreSettled : Scheme → List StateView → List (List SeatView) → Type 0
AreSettled scheme helds seats = AreSettledTo (length helds) scheme helds seats

-- why a node isn't settled
abbrev pub FailsToSettleAt : Scheme → Node → StateView → List SeatView → OpFault → Type 0
FailsToSettleAt scheme n held heard (Unsettled told) = (told ≡ n) × (cause : Cause) × (cause ≢ settling.NoMemory) × IsFaultOf scheme n held heard cause
FailsToSettleAt scheme n held heard NoMemory = Unit {0}
FailsToSettleAt scheme n held heard _ = ⊥

-- the first node that isn't settled
pub record FailsAt (scheme : Scheme) (helds : List StateView) (seats : List (List SeatView)) (told : Node) : Type 0 where
  pub at : ℕ
  pub held : StateView
  pub heard : List SeatView
  pub is : slice_get (nodes scheme) at ≡ Some told
  pub state : slice_get helds at ≡ Some held
  pub threads : slice_get seats at ≡ Some heard
  pub before : AreSettledTo at scheme helds seats
  pub cause : FailsToSettleAt scheme told held heard (Unsettled told)

abbrev pub FailsToSettle : Scheme → List StateView → List (List SeatView) → OpFault → Type 0
FailsToSettle scheme helds seats (Unsettled told) = FailsAt scheme helds seats told
FailsToSettle scheme helds seats NoMemory = Unit {0}
FailsToSettle scheme helds seats _ = ⊥
