-- The effects of a journal's records on messages, the records with one more, and the results of inputs at them.
use Rattle.std.proofs.Common.{◌≡◌, ℕ, true, false, List, [], ◌∷◌, length, Some, None, ◌⊎◌, inl, inr, refl, ap, arith}
use Rattle.std.specs.Prelude.{Result, Ok, Err}
use Rattle.units.specs.declared.code.Node.TheVariants.{Itl}
use Rattle.units.specs.declared.refusal.Refusal.{Refusal}
use Rattle.wire.specs.declared.input.Input.{Input}
use Rattle.wire.specs.declared.input.Input.TheVariants.{Ack}
use Rattle.wire.specs.declared.message.Message.{Message}
use Rattle.wire.specs.declared.message.ProposalStatus.TheVariants as proposal
use Rattle.protocol.specs.Cores.{Replays}
use Rattle.protocol.specs.Outgoing.{did, outgoing}
use Rattle.protocol.specs.Records.{Admits, RecordsView, with_record}
use Rattle.protocol.specs.Sending.{EndsWithMessages, Sent, Sends, Acknowledges, is_key_acknowledged}
use Rattle.protocol.specs.Taking.{TakesInto}
use Rattle.protocol.specs.Verdict.{history, verdict}
use Rattle.protocol.proofs.WorkedScheme.{jp, nz_node, block, nz1, scheme_s, number}
use Rattle.test_definitions.proofs.OrdersOfRecords.{replays_one}
use Rattle.test_definitions.proofs.ShortNames.{Answer, orders, proposes, recorded, refused, to_jp}

abbrev order : Input
order = orders 1 jp 7 (block 1 1 ∷ [])

-- the message that NZ sends for it
abbrev proposed : Message
proposed = proposes nz_node Itl nz1 proposal.Proposed (to_jp (block 1 1 ∷ []))

-- the log has it
abbrev acknowledged : Input
acknowledged = Ack (number 0 (omega arith))

-- ---- the effect of each record

pub orders_send : did order (proposed ∷ []) ≡ Sends (proposed ∷ [])
orders_send = refl

pub acknowledgements_send_nothing : did acknowledged (proposed ∷ []) ≡ Acknowledges 0
acknowledgements_send_nothing = refl

pub oldest_first : outgoing (history scheme_s nz_node (order ∷ acknowledged ∷ [])) ≡ Sends (proposed ∷ []) ∷ Acknowledges 0 ∷ []
unfolding verdict
oldest_first = refl

-- only a record that acknowledges exactly that key, wherever it stands
abbrev second_key : List Sent
second_key = Sends (proposed ∷ []) ∷ Acknowledges 1 ∷ Sends [] ∷ []

pub acknowledged_by_its_key : (is_key_acknowledged second_key 1 ≡ true) × (is_key_acknowledged second_key 0 ≡ false) × (is_key_acknowledged second_key 2 ≡ false)
acknowledged_by_its_key = (refl, refl, refl)

pub messages_at_the_end : EndsWithMessages second_key
messages_at_the_end = (Sends (proposed ∷ []) ∷ Acknowledges 1 ∷ [], [], refl)

-- ---- one record more

abbrev none : RecordsView
none = record { inputs = []; sent = [] }

abbrev one : RecordsView
one = record { inputs = order ∷ []; sent = Sends (proposed ∷ []) ∷ [] }

pub behind_the_others : with_record one acknowledged (Acknowledges 0) ≡ record { inputs = order ∷ acknowledged ∷ []; sent = Sends (proposed ∷ []) ∷ Acknowledges 0 ∷ [] }
behind_the_others = refl

-- where one record is the most
abbrev admits : RecordsView → RecordsView → Result ℕ Refusal → Type 0
admits old new result = Admits 1 old new order (Sends (proposed ∷ [])) result

abbrev fails : ℕ → Result ℕ Refusal
fails code = Err (record { code = code })

pub admitted : admits none one (Ok 0)
admitted = (refl, refl, refl)

pub admitted_elsewhere : admits none one (Ok 1) → ⊥
admitted_elsewhere h = let e : ◌≡◌ {A = ℕ} 1 0 = h.1 in omega arith

pub admitted_and_not_kept : admits none none (Ok 0) → ⊥
admitted_and_not_kept h = let e : ◌≡◌ {A = ℕ} 0 1 = ap (λ (r : RecordsView). length r.inputs) h.2 in omega arith

pub admitted_beyond_the_most : (new : RecordsView) (place : ℕ) → admits one new (Ok place) → ⊥
admitted_beyond_the_most new place h = let e : true ≡ false = h.0 in cc (e)

pub no_room : admits one one (fails 49) × admits none none (fails 50)
no_room = ((refl, inr (refl, refl)), (refl, inl refl))

full : (◌≡◌ {A = ℕ} 49 50) ⊎ ((◌≡◌ {A = ℕ} 49 49) × (false ≡ true)) → ⊥
full (inl e) = omega arith
full (inr e) = let b : false ≡ true = e.1 in cc (b)

pub full_before_it_is : admits none none (fails 49) → ⊥
full_before_it_is h = full h.1

pub failed_and_kept : admits none one (fails 50) → ⊥
failed_and_kept h = let e : ◌≡◌ {A = ℕ} 1 0 = ap (λ (r : RecordsView). length r.inputs) h.0 in omega arith

-- ---- the results of inputs

abbrev takes : RecordsView → RecordsView → Input → Answer → Type 0
takes old new input result = TakesInto scheme_s nz_node old new input result

pub taken : takes none one order (recorded 0)
unfolding verdict
taken = record { answer_is = inl refl; journal_is = refl; records = record { inputs = refl; sent = refl; replays = replays_one } }

no_records : Replays scheme_s nz_node []
no_records k input e = absurd (let n : None ≡ Some input = e in cc (n))

pub out_of_memory : takes none none order (refused 50)
unfolding verdict
out_of_memory = record { answer_is = inr refl; journal_is = refl; records = record { inputs = refl; sent = refl; replays = no_records } }

pub taken_and_not_kept : takes none none order (recorded 0) → ⊥
taken_and_not_kept h = let e : ◌≡◌ {A = ℕ} 0 1 = ap (λ (is : List Input). length is) h.journal_is in omega arith

pub failed_and_taken : takes none one order (refused 50) → ⊥
failed_and_taken h = let e : ◌≡◌ {A = ℕ} 1 0 = ap (λ (is : List Input). length is) h.journal_is in omega arith

-- a message that a record sent must be there
abbrev silent : RecordsView
silent = record { inputs = order ∷ []; sent = Sends [] ∷ [] }

sends_in : List Sent → ℕ
sends_in (Sends ms ∷ rest) = length ms
sends_in _ = 0

pub taken_without_its_message : takes none silent order (recorded 0) → ⊥
unfolding verdict sends_in
taken_without_its_message h = let e : ◌≡◌ {A = ℕ} 0 1 = ap sends_in h.records.sent in omega arith

code_of : Answer → ℕ
code_of (Ok step) = 0
code_of (Err refusal) = refusal.code

pub refused_for_nothing : takes none none order (refused 49) → ⊥
unfolding verdict code_of
refused_for_nothing h =
    elim h.answer_is [
      | inl e ↦ let n : ◌≡◌ {A = ℕ} 49 0 = ap code_of e in omega arith
      | inr e ↦ let n : ◌≡◌ {A = ℕ} 49 50 = ap code_of e in omega arith
    ]
