-- The effect of an input on a node's records.
use Rattle.std.specs.Prelude.{◌≡◌, Result}
use Rattle.units.specs.declared.code.Node.{Node}
use Rattle.units.specs.declared.refusal.Refusal.{Refusal}
use Rattle.wire.specs.declared.input.Input.{Input}
use Rattle.scheme.specs.declared.registries.Scheme.{Scheme}
use Rattle.records.specs.Records.{RecordsView}
use Rattle.protocol.specs.Cores.{AreRecordsOf, IsExpectedOrNoMemory, after, answer}
use Rattle.protocol.specs.declared.node_core.Stepped.{Stepped}

-- the result is the expected one, and the records have the input where it was recorded
pub record TakesInto (scheme : Scheme) (n : Node) (old new : RecordsView) (input : Input) (result : Result Stepped Refusal) : Type 0 where
  pub answer_is : IsExpectedOrNoMemory result (answer scheme n old.inputs input)
  pub journal_is : new.inputs ≡ after old.inputs input result
  pub records : AreRecordsOf scheme n new.inputs new
