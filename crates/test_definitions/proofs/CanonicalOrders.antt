-- A proposal carries the blocks of its order in canonical form: in order of origin, period and first number, with
-- neighbours of one kind joined. The record keeps them as they were ordered.
use Rattle.std.proofs.Common.{◌≡◌, ℕ, true, List, [], ◌∷◌, Some, refl}
use Rattle.units.specs.Canonical.{canonical}
use Rattle.units.specs.declared.block.Kind.TheVariants.{Aau, Cer, Rmu}
use Rattle.units.specs.declared.block.Period.TheVariants.{First, Second}
use Rattle.units.specs.declared.block.RawBlock.{RawBlock}
use Rattle.units.specs.declared.code.Node.TheVariants.{Itl}
use Rattle.status.specs.Content.{Content}
use Rattle.status.specs.declared.status.Status.TheVariants.{Proposed}
use Rattle.wire.specs.declared.input.Input.{Input}
use Rattle.wire.specs.declared.message.ProposalStatus.TheVariants as proposal
use Rattle.wire.specs.declared.notified.NotifiedStatus.TheVariants as notified
use Rattle.protocol.specs.declared.event.Outcome.TheVariants.{Recorded, Done}
use Rattle.protocol.specs.declared.event.WorldEvent.{WorldEvent}
use Rattle.protocol.specs.Verdict.{verdict}
use Rattle.protocol.specs.World.{opening, step, run, outcomes, station}
use Rattle.protocol.proofs.WorkedScheme.{nz, jp, nz_node, jp_node, block, block_of, nz1, scheme_s, propose, commit, post, deliver, posted, notification}
use Rattle.test_definitions.proofs.ShortNames.{au, jp1, terms, to_jp, proposes, comes, orders, moves}
use Rattle.test_definitions.proofs.ThreeRegistries.{jp_block, scheme_t}

-- ---- one origin, two kinds

abbrev scattered : List RawBlock
scattered = block_of Cer 23 24 ∷ block 11 20 ∷ block_of Cer 21 22 ∷ block 5 10 ∷ block 1 3 ∷ []

abbrev sorted_and_joined : Content
sorted_and_joined = to_jp (block 1 3 ∷ block 5 20 ∷ block_of Cer 21 24 ∷ [])

pub proposed_in_canonical_form : moves scheme_t nz_node [] (orders 1 jp 7 scattered)
    ≡ record { id = nz1; new = Proposed; content = Some sorted_and_joined; messages = proposes nz_node Itl nz1 proposal.Proposed sorted_and_joined ∷ [] } ∷ []
unfolding verdict
proposed_in_canonical_form = refl

-- ---- two origins: units that came from NZ and units of JP's own

abbrev credited : List Input
credited = comes (proposes Itl jp_node nz1 proposal.Checked (terms 1 jp 7 (block 1 4 ∷ []))) ∷ comes (notification Itl jp_node nz1 notified.Completed) ∷ []

abbrev by_origin : Content
by_origin = terms 7 nz 1 (jp_block 1 2 ∷ block 1 4 ∷ [])

pub proposed_by_origin : moves scheme_t jp_node credited (orders 7 nz 1 (block 3 4 ∷ jp_block 2 2 ∷ block 1 2 ∷ jp_block 1 1 ∷ []))
    ≡ record { id = jp1; new = Proposed; content = Some by_origin; messages = proposes jp_node Itl jp1 proposal.Proposed by_origin ∷ [] } ∷ []
unfolding verdict
proposed_by_origin = refl

-- ---- the posted message, the content that the log has and passes on, and the blocks that the record keeps

abbrev halves : List WorldEvent
halves = propose nz 1 jp 7 (block 51 60 ∷ block 1 20 ∷ block 21 50 ∷ []) ∷ commit nz_node 1 ∷ post nz_node 0 ∷ deliver 0 ∷ commit Itl 1 ∷ post Itl 0 ∷ []

abbrev joined : Content
joined = to_jp (block 1 60 ∷ [])

pub posted_in_canonical_form : (outcomes (opening scheme_s) halves ≡ Recorded 0 ∷ Done ∷ Done ∷ Recorded 0 ∷ Done ∷ Done ∷ [])
    × (posted (run (opening scheme_s) halves) 0 ≡ Some (proposes nz_node Itl nz1 proposal.Proposed joined))
    × (posted (run (opening scheme_s) halves) 1 ≡ Some (proposes Itl jp_node nz1 proposal.Checked joined))
unfolding step verdict
posted_in_canonical_form = (refl, refl, refl)

pub recorded_as_ordered : station (run (opening scheme_s) halves) nz_node ≡ Some (record { node = nz_node; committed = orders 1 jp 7 (block 51 60 ∷ block 1 20 ∷ block 21 50 ∷ []) ∷ []; tail = []; runs = true })
unfolding step verdict
recorded_as_ordered = refl

-- ---- origin before period before first number; joined are neighbours of one origin, period and kind alone

abbrev second : ℕ → ℕ → RawBlock
second first last = record { origin = nz; period = Second; kind = Aau; first = first; last = last }

abbrev au_block : ℕ → ℕ → RawBlock
au_block first last = record { origin = au; period = First; kind = Aau; first = first; last = last }

pub canonical_order : (canonical (second 1 1 ∷ block 9 9 ∷ jp_block 5 5 ∷ au_block 8 8 ∷ block 2 2 ∷ jp_block 3 3 ∷ []) ≡ au_block 8 8 ∷ jp_block 3 3 ∷ jp_block 5 5 ∷ block 2 2 ∷ block 9 9 ∷ second 1 1 ∷ [])
    × (canonical (second 6 9 ∷ block 1 5 ∷ []) ≡ block 1 5 ∷ second 6 9 ∷ [])
    × (canonical (jp_block 6 9 ∷ au_block 1 5 ∷ []) ≡ au_block 1 5 ∷ jp_block 6 9 ∷ [])
    × (canonical (block_of Rmu 6 9 ∷ block 1 5 ∷ block 10 10 ∷ []) ≡ block 1 5 ∷ block_of Rmu 6 9 ∷ block 10 10 ∷ [])
    × (canonical (second 4 9 ∷ second 1 3 ∷ second 11 11 ∷ []) ≡ second 1 9 ∷ second 11 11 ∷ [])
    × (canonical (block 2 2 ∷ []) ≡ block 2 2 ∷ [])
canonical_order = (refl, refl, refl, refl, refl, refl)
