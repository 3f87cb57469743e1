-- The decision of a role by its causes and its row, the journal after an answer, the codes with which messages are
-- refused, and journals given by an order of their records.
use Rattle.std.proofs.Common.{◌≡◌, true, false, List, [], ◌∷◌, map, refl}
use Rattle.std.specs.Prelude.{Result, Ok, Err}
use Rattle.units.specs.declared.code.Node.TheVariants.{Itl}
use Rattle.units.specs.declared.refusal.Refusal.{Refusal}
use Rattle.status.specs.declared.rows.Row.TheVariants as row
use Rattle.status.specs.declared.status.Status.TheVariants.{Completed}
use Rattle.wire.specs.declared.input.Input.{Input}
use Rattle.wire.specs.declared.message.Message.{Message}
use Rattle.wire.specs.declared.notified.NotifiedStatus.TheVariants as notified
use Rattle.protocol.specs.declared.decision.Decision.{Decision}
use Rattle.protocol.specs.declared.decision.Decision.TheVariants as decision
use Rattle.protocol.specs.declared.decision.Stale.TheVariants as stale
use Rattle.protocol.specs.declared.event.Outcome.TheVariants as outcome
use Rattle.protocol.specs.declared.node_core.Stepped.TheVariants as stepped
use Rattle.protocol.specs.Checks.{Causes, codes_of}
use Rattle.protocol.specs.Cores.{after}
use Rattle.protocol.specs.Deciding.{IsRepeat, IsRefused, refuse}
use Rattle.protocol.specs.Decisions.{decided, step_of, unless}
use Rattle.protocol.specs.Outcomes.{outcome_of}
use Rattle.protocol.specs.Refusing.{message_codes}
use Rattle.protocol.specs.Weave.{Placed, journals_of}
use Rattle.protocol.proofs.WorkedScheme.{jp, nz_node, jp_node, block, nz1, notification}
use Rattle.test_definitions.proofs.ShortNames.{comes, orders, recorded, again, late, refused}

-- ---- the first cause that holds decides, else the later part

abbrev causes : Causes
causes = (false, 101) ∷ (true, 103) ∷ (true, 102) ∷ (false, 104) ∷ []

abbrev none_holds : Causes
none_holds = (false, 101) ∷ (false, 102) ∷ []

pub first_cause : (refuse causes IsRepeat ≡ IsRefused 103) × (refuse none_holds IsRepeat ≡ IsRepeat) × (unless causes again ≡ refused 103) × (unless none_holds again ≡ again) × (codes_of causes ≡ 103 ∷ 102 ∷ []) × (codes_of none_holds ≡ [])
first_cause = (refl, refl, refl, refl, refl, refl)

-- ---- by a row

abbrev decides : Decision → Result Decision Refusal
decides decision = Ok decision

pub decided_by_row : (decided (row.Move Completed) ≡ decides (decision.Moves Completed)) × (decided row.Repeat ≡ decides (decision.Stays stale.Repeat)) × (decided row.Late ≡ decides (decision.Stays stale.Late)) × (decided row.Refused ≡ Err (record { code = 46 }))
decided_by_row = (refl, refl, refl, refl)

-- ---- the results of inputs that change nothing, and their outcomes

pub step_of_stale : (step_of stale.Repeat ≡ stepped.Repeat) × (step_of stale.Late ≡ stepped.Late)
step_of_stale = (refl, refl)

pub outcome_of_step : (outcome_of (stepped.Recorded 7) ≡ outcome.Recorded 7) × (outcome_of stepped.Repeat ≡ outcome.Repeat) × (outcome_of stepped.Late ≡ outcome.Late)
outcome_of_step = (refl, refl, refl)

-- ---- a journal after an answer

abbrev first : Input
first = orders 1 jp 7 (block 1 1 ∷ [])

abbrev completed : Message
completed = notification nz_node Itl nz1 notified.Completed

abbrev next : Input
next = comes (notification Itl nz_node nz1 notified.Accepted)

pub journal_after : map (after (first ∷ []) next) (recorded 1 ∷ again ∷ late ∷ refused 46 ∷ []) ≡ (first ∷ next ∷ []) ∷ (first ∷ []) ∷ (first ∷ []) ∷ (first ∷ []) ∷ []
journal_after = refl

-- ---- codes of messages: those of the ladders, and a full journal

pub codes_of_messages : message_codes ≡ 42 ∷ 43 ∷ 44 ∷ 45 ∷ 46 ∷ 47 ∷ 49 ∷ []
codes_of_messages = refl

-- ---- the last record of an order stands first in it, and last in its node's journal

abbrev in_order : List Placed
in_order = record { node = nz_node; input = next } ∷ record { node = Itl; input = comes completed } ∷ record { node = nz_node; input = first } ∷ []

pub journals_by_node : (journals_of in_order nz_node ≡ first ∷ next ∷ []) × (journals_of in_order Itl ≡ comes completed ∷ []) × (journals_of in_order jp_node ≡ []) × (journals_of [] nz_node ≡ [])
journals_by_node = (refl, refl, refl, refl)
