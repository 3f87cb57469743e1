-- The claims about the log's journals, each for a journal that satisfies its premises: a claim whose premises hold for
-- no journal would state nothing.
use Rattle.std.proofs.Common.{◌≡◌, [], ◌∷◌, ◌++◌, Some, inr, refl, arith}
use Rattle.units.specs.declared.code.Node.TheVariants.{Itl}
use Rattle.status.specs.declared.status.Status.{Status}
use Rattle.status.specs.declared.status.Status.TheVariants.{Accepted, Completed}
use Rattle.wire.specs.declared.message.Message.{Message}
use Rattle.wire.specs.declared.notified.NotifiedStatus.TheVariants as notified
use Rattle.protocol.specs.Claims.{EndsStay, UnderWayApart, OwnedByInitiator}
use Rattle.protocol.specs.History.{Transition, transitions_of, stands, book_owner}
use Rattle.protocol.specs.Verdict.{verdict, history}
use Rattle.protocol.proofs.WorkedScheme.{nz, nz_node, jp_node, all_units, unit, nz1, scheme_s, notification}
use Rattle.test_definitions.proofs.ShortNames.{to_jp, comes}
use Rattle.test_definitions.proofs.RowsAtLog.{is_completed, request, accepted, completed}

-- the transfer of all units, with its newest message, on 2012-05-01T00:00:00Z
abbrev moved : Status → Message → Transition
moved new message = record { id = nz1; new = new; content = Some (to_jp all_units); moment = 1_335_830_400; messages = message ∷ [] }

abbrev to_accepted : Transition
to_accepted = moved Accepted (notification Itl nz_node nz1 notified.Accepted)

abbrev to_completed : Transition
to_completed = moved Completed (notification Itl jp_node nz1 notified.Completed)

-- a request that comes late changes no end
pub end_stays : EndsStay scheme_s → stands (transitions_of (history scheme_s Itl (completed ++ comes request ∷ []))) nz1 ≡ Some Completed
unfolding verdict
end_stays claim = claim completed (comes request ∷ []) nz1 Completed tt refl

-- the transfer that has the first unit under way is one
pub under_way_once : UnderWayApart scheme_s → nz1 ≡ nz1
unfolding verdict
under_way_once claim = claim accepted (unit 1) nz1 nz1 to_accepted to_accepted refl refl (inr refl) (inr refl) refl refl

-- the first unit is NZ's until the log records that NZ has completed the transfer
pub owned_until_completed : OwnedByInitiator scheme_s → book_owner scheme_s (transitions_of (history scheme_s Itl accepted)) (unit 1) ≡ Some nz
unfolding verdict
owned_until_completed claim = claim accepted (comes is_completed) (to_completed ∷ []) refl to_completed (0, (omega arith), refl) refl (unit 1) refl
