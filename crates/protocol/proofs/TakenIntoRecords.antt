-- The effect of an input on a node's records: none, where it is refused or was acted on before, or one record more.
use Rattle.std.proofs.Common.{◌≡◌, ◌⊎◌, ◌++◌, ◌∷◌, [], ℕ, ◌<◌, ◌≤◌, List, length, Bool, true, false, cond, Ok, Err, inl, inr, refl, sym, ap, subst, ◌∙◌}
use Rattle.std.specs.Prelude.{Result, nat_le}
use Rattle.std.specs.Result.{IsErrAnd}
use Rattle.std.proofs.lemmas.Bool.{le-leb, lt-leb}
use Rattle.units.specs.RefusalCodes.{journal_full, no_row, out_of_memory}
use Rattle.units.specs.declared.code.Node.{Node}
use Rattle.units.specs.declared.code.Node.TheVariants.{Itl, Registry}
use Rattle.units.specs.declared.refusal.Refusal.{Refusal}
use Rattle.wire.specs.declared.input.Input.{Input}
use Rattle.wire.specs.declared.input.Input.TheVariants.{Ack}
use Rattle.wire.specs.declared.input.Number.{Number}
use Rattle.scheme.specs.declared.registries.Scheme.{Scheme}
use Rattle.records.specs.Records.{RecordsView, with_record}
use Rattle.records.specs.Sending as sending
use Rattle.records.specs.Sending.{Acknowledges, Sent}
use Rattle.protocol.specs.Cores.{AreRecordsOf, IsExpectedOrNoMemory, answer, answer_of}
use Rattle.protocol.specs.Deciding.{IsLate, IsRecorded, IsRefused, IsRepeat, Verdict, acknowledge, recorded_if_room}
use Rattle.protocol.specs.History as past
use Rattle.protocol.specs.History.{Transition, messages_of}
use Rattle.protocol.specs.Outgoing.{did, outgoing}
use Rattle.protocol.specs.Taking.{TakesInto}
use Rattle.protocol.specs.Verdict.{history, transitions_made, verdict}
use Rattle.protocol.specs.Decisions.{step_of}
use Rattle.protocol.specs.declared.decision.Stale.{Stale}
use Rattle.protocol.specs.declared.decision.Stale.TheVariants as stale
use Rattle.protocol.specs.declared.node_core.Stepped.{Stepped}
use Rattle.protocol.specs.declared.node_core.Stepped.TheVariants as stepped
use Rattle.protocol.proofs.DecidedVerdicts.{stale_verdict}
use Rattle.protocol.proofs.Histories.{length_history}
use Rattle.protocol.proofs.OutgoingRecords.{none_made, outgoing_snoc}
use Rattle.protocol.proofs.RecordsRead.{acknowledged_read, sends_read}
use Rattle.protocol.proofs.Replaying.{replays_snoc}

module _ (scheme : Scheme) (n : Node) where
  -- why an input may be given up
  abbrev pub GivenUp : List Input → Input → ℕ → Type 0
  GivenUp journal input code = (code ≡ out_of_memory) ⊎ (verdict scheme n (history scheme n journal) input ≡ IsRefused code)

  pub refused_into : (old new : RecordsView) (input : Input) (r : Refusal) → AreRecordsOf scheme n old.inputs old → new ≡ old → GivenUp old.inputs input r.code → TakesInto scheme n old new input (Err r)
  refused_into old new input r are same why =
      record {
        answer_is = elim why [
          | inl memory ↦ inr (ap (λ c. Err (record { code = c })) memory)
          | inr refused ↦ inl (ap (answer_of (length old.inputs)) (sym refused))
        ];
        journal_is = ap (λ r. r.inputs) same;
        records = subst (λ (q : RecordsView). AreRecordsOf scheme n q.inputs q) (sym same) are;
      }

  -- as `?` returns an error
  pub err_into : (old new : RecordsView) (input : Input) (result : Result Stepped Refusal) (P : Refusal → Type 0) → AreRecordsOf scheme n old.inputs old → new ≡ old → IsErrAnd result P
      → ((r : Refusal) → P r → GivenUp old.inputs input r.code) → TakesInto scheme n old new input result
  err_into old new input (Ok x) P are same e why = absurd e
  err_into old new input (Err r) P are same e why = refused_into old new input r are same (why r e)

  pub repeat_into : (old : RecordsView) (input : Input) → AreRecordsOf scheme n old.inputs old → verdict scheme n (history scheme n old.inputs) input ≡ IsRepeat → TakesInto scheme n old old input (Ok stepped.Repeat)
  repeat_into old input are is = record { answer_is = inl (ap (answer_of (length old.inputs)) (sym is)); journal_is = refl; records = are }

  pub late_into : (old : RecordsView) (input : Input) → AreRecordsOf scheme n old.inputs old → verdict scheme n (history scheme n old.inputs) input ≡ IsLate → TakesInto scheme n old old input (Ok stepped.Late)
  late_into old input are is = record { answer_is = inl (ap (answer_of (length old.inputs)) (sym is)); journal_is = refl; records = are }

  pub stale_into : (old : RecordsView) (input : Input) (why : Stale) → AreRecordsOf scheme n old.inputs old → verdict scheme n (history scheme n old.inputs) input ≡ stale_verdict why → TakesInto scheme n old old input (Ok (step_of why))
  stale_into old input stale.Repeat are is = repeat_into old input are is
  stale_into old input stale.Late are is = late_into old input are is

  -- the records of an empty journal
  pub no_records : AreRecordsOf scheme n [] (record { inputs = []; sent = [] })
  no_records = record { inputs = refl; sent = refl; replays = λ k input h. absurd (cc (h)) }

  -- the records with one more are those of the longer journal
  pub with_one : (old new : RecordsView) (input : Input) (xs : List Transition) (done : Sent) → AreRecordsOf scheme n old.inputs old → verdict scheme n (history scheme n old.inputs) input ≡ IsRecorded xs
      → new ≡ with_record old input done → did input (messages_of xs) ≡ done → AreRecordsOf scheme n new.inputs new
  with_one old new input xs done are is more does =
      subst (λ (q : RecordsView). AreRecordsOf scheme n q.inputs q) (sym more)
      (record {
        inputs = refl;
        sent =
            ap (λ (l : List Sent). l ++ done ∷ []) are.sent
            ∙ ap (λ (d : Sent). outgoing (history scheme n old.inputs) ++ d ∷ []) (sym (ap (λ v. did input (messages_of (transitions_made v))) is ∙ does))
            ∙ sym (outgoing_snoc scheme n old.inputs input);
        replays = replays_snoc scheme n old.inputs input are.replays (ap (answer_of (length old.inputs)) is);
      })

  pub recorded_into : (old new : RecordsView) (input : Input) (xs : List Transition) (done : Sent) (place : ℕ) → AreRecordsOf scheme n old.inputs old → verdict scheme n (history scheme n old.inputs) input ≡ IsRecorded xs
      → place ≡ length old.inputs → new ≡ with_record old input done → did input (messages_of xs) ≡ done → TakesInto scheme n old new input (Ok (stepped.Recorded place))
  recorded_into old new input xs done place are is at more does =
      record {
        answer_is = inl (ap (λ k. Ok (stepped.Recorded k)) at ∙ ap (answer_of (length old.inputs)) (sym is));
        journal_is = ap (λ r. r.inputs) more;
        records = with_one old new input xs done are is more does;
      }

  -- ---- room in the journal

  pub full_refuses : (journal : List Input) (input : Input) (xs : List Transition) → verdict scheme n (history scheme n journal) input ≡ recorded_if_room scheme (history scheme n journal) xs → nat_le scheme.records (length journal) ≡ true
      → verdict scheme n (history scheme n journal) input ≡ IsRefused journal_full
  full_refuses journal input xs is full =
      is ∙ ap (λ k. cond (nat_le scheme.records k) (IsRefused journal_full) (IsRecorded xs)) (length_history scheme n journal) ∙ ap (λ b. cond b (IsRefused journal_full) (IsRecorded xs)) full

  pub room_enters : (journal : List Input) (input : Input) (xs : List Transition) → verdict scheme n (history scheme n journal) input ≡ recorded_if_room scheme (history scheme n journal) xs → nat_le scheme.records (length journal) ≡ false
      → verdict scheme n (history scheme n journal) input ≡ IsRecorded xs
  room_enters journal input xs is room =
      is ∙ ap (λ k. cond (nat_le scheme.records k) (IsRefused journal_full) (IsRecorded xs)) (length_history scheme n journal) ∙ ap (λ b. cond b (IsRefused journal_full) (IsRecorded xs)) room

  -- where there is no room, or memory ran out
  pub unfitting : (journal : List Input) (input : Input) (xs : List Transition) (code : ℕ) → verdict scheme n (history scheme n journal) input ≡ recorded_if_room scheme (history scheme n journal) xs
      → (code ≡ out_of_memory) ⊎ ((code ≡ journal_full) × (nat_le scheme.records (length journal) ≡ true)) → GivenUp journal input code
  unfitting journal input xs code is (inl memory) = inl memory
  unfitting journal input xs code is (inr full) = inr (full_refuses journal input xs is full.1 ∙ ap (λ k. IsRefused k) (sym full.0))

-- ---- acknowledgements

verdict_ack : (scheme : Scheme) (n : Node) (journal : List Input) (key : Number) → verdict scheme n (history scheme n journal) (Ack key) ≡ acknowledge scheme (history scheme n journal) key.value
unfolding verdict
verdict_ack scheme Itl journal key = refl
verdict_ack scheme (Registry c) journal key = refl

recorded_made : (position place : ℕ) (v : Verdict) → IsExpectedOrNoMemory (Ok (stepped.Recorded place)) (answer_of position v) → v ≡ IsRecorded (transitions_made v)
recorded_made position place (IsRecorded xs) e = refl
recorded_made position place IsRepeat (inl e) = absurd (cc (e))
recorded_made position place IsRepeat (inr e) = absurd (cc (e))
recorded_made position place IsLate (inl e) = absurd (cc (e))
recorded_made position place IsLate (inr e) = absurd (cc (e))
recorded_made position place (IsRefused code) (inl e) = absurd (cc (e))
recorded_made position place (IsRefused code) (inr e) = absurd (cc (e))

-- where one is recorded, it makes no transition
pub ack_recorded : (scheme : Scheme) (n : Node) (journal : List Input) (key : Number) (place : ℕ) → IsExpectedOrNoMemory (Ok (stepped.Recorded place)) (answer scheme n journal (Ack key)) → verdict scheme n (history scheme n journal) (Ack key) ≡ IsRecorded []
ack_recorded scheme n journal key place is =
    recorded_made (length journal) place (verdict scheme n (history scheme n journal) (Ack key)) is
    ∙ ap (λ v. IsRecorded (transitions_made v)) (verdict_ack scheme n journal key)
    ∙ ap (λ xs. IsRecorded xs) (none_made scheme (history scheme n journal) key.value)

module _ (scheme : Scheme) (n : Node) (records : RecordsView) (are : AreRecordsOf scheme n records.inputs records) where
  rest : (key : Number) (b d : Bool) → nat_le (length (past.sends (history scheme n records.inputs))) key.value ≡ b → past.is_acknowledged (history scheme n records.inputs) key.value ≡ d
      → verdict scheme n (history scheme n records.inputs) (Ack key) ≡ cond b (IsRefused no_row) (cond d IsRepeat (recorded_if_room scheme (history scheme n records.inputs) []))
  rest key b d e f = verdict_ack scheme n records.inputs key ∙ (λ i. cond (e i) (IsRefused no_row) (cond (f i) IsRepeat (recorded_if_room scheme (history scheme n records.inputs) [])))

  pub ack_unknown : (key : Number) → length (sending.messages records.sent) ≤ key.value → verdict scheme n (history scheme n records.inputs) (Ack key) ≡ IsRefused no_row
  ack_unknown key h = rest key true _ (sym (ap (λ k. nat_le k key.value) (sends_read scheme n records.inputs records are)) ∙ le-leb (length (sending.messages records.sent)) key.value h) refl

  pub ack_again : (key : Number) → key.value < length (sending.messages records.sent) → sending.is_key_acknowledged records.sent key.value ≡ true → verdict scheme n (history scheme n records.inputs) (Ack key) ≡ IsRepeat
  ack_again key h e =
      rest key false true (sym (ap (λ k. nat_le k key.value) (sends_read scheme n records.inputs records are)) ∙ lt-leb (length (sending.messages records.sent)) key.value h) (sym (acknowledged_read scheme n records.inputs records are key.value) ∙ e)

  pub ack_enters : (key : Number) → key.value < length (sending.messages records.sent) → sending.is_key_acknowledged records.sent key.value ≡ false
      → verdict scheme n (history scheme n records.inputs) (Ack key) ≡ recorded_if_room scheme (history scheme n records.inputs) []
  ack_enters key h e =
      rest key false false (sym (ap (λ k. nat_le k key.value) (sends_read scheme n records.inputs records are)) ∙ lt-leb (length (sending.messages records.sent)) key.value h) (sym (acknowledged_read scheme n records.inputs records are key.value) ∙ e)
