-- A condition weaker than an order: each record is recorded after the ones before it, and each received message is
-- among all that its sender sends.
use Rattle.std.specs.Prelude.{◌≡◌, false, List, [], ◌∷◌}
use Rattle.units.specs.declared.code.Node.{Node}
use Rattle.wire.specs.declared.input.Input.{Input}
use Rattle.scheme.specs.declared.registries.Scheme.{Scheme}
use Rattle.protocol.specs.Cores.{Replays}
use Rattle.protocol.specs.Registries.{is_node}
use Rattle.protocol.specs.Weave.{WasSent}

-- each received message was sent to the node by its sender's whole journal
abbrev pub AllSent : Scheme → (Node → List Input) → List Input → Node → Type 0
AllSent scheme journals [] n = Unit {0}
AllSent scheme journals (i ∷ is) n = WasSent scheme journals n i × AllSent scheme journals is n

abbrev pub IsPlausible : Scheme → (Node → List Input) → Type 0
IsPlausible scheme journals = (n : Node) → (is_node scheme n ≡ false → journals n ≡ []) × Replays scheme n (journals n) × AllSent scheme journals (journals n) n
