-- The records that events commit, and which events commit the furthest cut of journals.
use Rattle.std.proofs.Common.{◌≡◌, List, [], ◌∷◌, refl, sym, append-nil}
use Rattle.units.specs.declared.code.Node.{Node}
use Rattle.wire.specs.declared.input.Input.{Input}
use Rattle.protocol.specs.Verdict.{verdict}
use Rattle.protocol.specs.Weave.{IsFurthestCut, committed_by}
use Rattle.protocol.specs.World.{step}
use Rattle.protocol.specs.declared.event.WorldEvent.{WorldEvent}
use Rattle.protocol.proofs.WorkedScheme.{nz, jp, nz_node, jp_node, block, scheme_s, propose, commit}
use Rattle.test_definitions.proofs.ShortNames.{orders}

abbrev order : Input
order = orders 1 jp 7 (block 1 1 ∷ [])

abbrev taken : List WorldEvent
taken = propose nz 1 jp 7 (block 1 1 ∷ []) ∷ []

abbrev committed : List WorldEvent
committed = propose nz 1 jp 7 (block 1 1 ∷ []) ∷ commit nz_node 1 ∷ []

pub one_record : committed_by scheme_s committed nz_node ≡ order ∷ []
unfolding step verdict
one_record = refl

pub none_elsewhere : committed_by scheme_s committed jp_node ≡ []
unfolding step verdict
none_elsewhere = refl

-- a record that a node took is not in its journal before it is committed
pub not_before_the_commit : committed_by scheme_s taken nz_node ≡ []
unfolding step verdict
not_before_the_commit = refl

abbrev journals : Node → List Input
journals = committed_by scheme_s committed

-- the events that commit all of the journals commit the furthest cut
pub whole_journals : IsFurthestCut scheme_s journals committed
whole_journals = record { within = λ n. ([], sym (append-nil (journals n))); furthest = λ others inside. inside }

-- others commit more than none
pub not_without_the_record : IsFurthestCut scheme_s journals [] → ⊥
unfolding step verdict
not_without_the_record h =
    let part = h.furthest committed (λ n. ([], sym (append-nil (journals n)))) nz_node in
    let e : [] ≡ order ∷ part.0 = part.1 in
    cc (e)

-- more than the journals have is no cut of them
pub not_beyond_the_journals : IsFurthestCut scheme_s (λ n. []) committed → ⊥
unfolding step verdict
not_beyond_the_journals h =
    let part = h.within nz_node in
    let e : [] ≡ order ∷ part.0 = part.1 in
    cc (e)
