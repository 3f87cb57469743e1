-- The verdict of a node on an input after a journal, and the history that a journal makes.
use Rattle.std.specs.Prelude.{List, [], ◌∷◌}
use Rattle.std.specs.List.{fold}
use Rattle.units.specs.declared.code.Node.{Node}
use Rattle.units.specs.declared.code.Node.TheVariants.{Itl, Registry}
use Rattle.wire.specs.declared.input.Input.{Input}
use Rattle.scheme.specs.declared.registries.Scheme.{Scheme}
use Rattle.protocol.specs.History.{Transition, Entry}
use Rattle.protocol.specs.Deciding.{Verdict, IsRecorded, IsRepeat, IsLate, IsRefused}
use Rattle.protocol.specs.AtRegistry.{registry_verdict}
use Rattle.protocol.specs.AtLog.{log_verdict}

unfoldable pub verdict : Scheme → Node → List Entry → Input → Verdict
verdict scheme Itl es input = log_verdict scheme es input
verdict scheme (Registry c) es input = registry_verdict scheme c es input

-- the transitions of a verdict
abbrev pub transitions_made : Verdict → List Transition
transitions_made (IsRecorded xs) = xs
transitions_made IsRepeat = []
transitions_made IsLate = []
transitions_made (IsRefused code) = []

abbrev pub extend : Scheme → Node → List Entry → Input → List Entry
extend scheme n es input = record { input = input; transitions = transitions_made (verdict scheme n es input) } ∷ es

-- the history of a journal, whose inputs stand in their order
abbrev pub history_from : Scheme → Node → List Entry → List Input → List Entry
history_from scheme n es journal = fold (extend scheme n) es journal

abbrev pub history : Scheme → Node → List Input → List Entry
history scheme n journal = history_from scheme n [] journal
