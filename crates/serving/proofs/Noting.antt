-- The notes that questions leave, once and again and again.
use Rattle.std.proofs.Common.{◌≡◌, ◌≢◌, ◌⊎◌, ◌∙◌, ◌≤◌, ◌+◌, ℕ, Bool, true, false, List, [], ◌∷◌, ◌++◌, length, length-append, max, Some, inl, inr, refl, sym, ap, subst, arith, if◌then◌else◌, All, append-nil, append_assoc}
use Rattle.std.proofs.lemmas.Bool.{true≢false}
use Rattle.std.proofs.lemmas.List.Elements.{All-nil, All-push}
use Rattle.status.specs.declared.id.TransactionId.{TransactionId}
use Rattle.status.specs.declared.status.Status.{Status as AStatus}
use Rattle.protocol.specs.declared.node_core.Stepped.TheVariants.{Recorded, Repeat, Late}
use Rattle.node_state.specs.Expected.{stopped}
use Rattle.node_state.specs.Telling.{is_unjudged, kept, notes_after}
use Rattle.node_state.specs.Views.{SeatView}
use Rattle.node_state.specs.declared.notes.Asked.{Asked}
use Rattle.node_state.specs.declared.notes.Asked.TheVariants.{Take, Query}
use Rattle.node_state.specs.declared.notes.Note.{Note}
use Rattle.node_state.specs.declared.notes.Told.{Told}
use Rattle.node_state.specs.declared.notes.Told.TheVariants.{Step, Status, Refused}
use Rattle.replies.specs.Answers.{is_without_journal}
use Rattle.input_lines.specs.declared.instruction.Instruction.{Instruction}
use Rattle.input_lines.specs.declared.instruction.Instruction.TheVariants as instruction
use Rattle.serving.specs.Heard.{HasHeard, IsConfirmed}
use Rattle.serving.specs.Notes.{HasOrEnds, IsAwaited, IsNote, IsNoted, IsNotedOf}
use Rattle.serving.specs.Orders.{Notes}

-- ---- one question

-- the note that a seat keeps, if it keeps one
abbrev added : Told → Note → List Note
added (Step (Recorded place)) note = []
added (Step Repeat) note = note ∷ []
added (Step Late) note = note ∷ []
added (Status status) note = note ∷ []
added (Refused refusal) note = if is_unjudged refusal.code then [] else note ∷ []

either_added : (b : Bool) (notes : List Note) (note : Note) → (if b then notes else notes ++ note ∷ []) ≡ notes ++ (if b then [] else note ∷ [])
either_added true notes note = sym (append-nil notes)
either_added false notes note = refl

after_added : (notes : List Note) (told : Told) (note : Note) → notes_after notes told note ≡ notes ++ added told note
after_added notes (Step (Recorded place)) note = sym (append-nil notes)
after_added notes (Step Repeat) note = refl
after_added notes (Step Late) note = refl
after_added notes (Status status) note = refl
after_added notes (Refused refusal) note = either_added (is_unjudged refusal.code) notes note

module _ (asked : Asked) (note : Note) (is : note.asked ≡ asked) where
  noted_told : (told : Told) → note.told ≡ told → IsNoted asked told (added told note)
  noted_told (Step (Recorded place)) same = refl
  noted_told (Step Repeat) same = (note, refl, is, same)
  noted_told (Step Late) same = (note, refl, is, same)
  noted_told (Status status) same = (note, refl, is, same)
  noted_told (Refused refusal) same = (
    (λ judged. (note, ap (λ (b : Bool). if b then [] else note ∷ []) judged, is, same)),
    (λ unjudged. inl (ap (λ (b : Bool). if b then [] else note ∷ []) unjudged)),
  )

  -- the node had stopped before the result was confirmed
  none_or_one : (notes : List Note) → (notes ≡ []) ⊎ (notes ≡ note ∷ []) → IsNoted asked (Refused stopped) notes
  none_or_one notes some = (
    (λ judged. absurd (true≢false judged)),
    (λ unjudged. elim some [ inl none ↦ inl none | inr one ↦ inr (refl, (note.told, (note, one, is, refl))) ]),
  )

  either_one : (b : Bool) → ((if b then [] else note ∷ []) ≡ []) ⊎ ((if b then [] else note ∷ []) ≡ note ∷ [])
  either_one true = inl refl
  either_one false = inr refl

  some_added : (told : Told) → (added told note ≡ []) ⊎ (added told note ≡ note ∷ [])
  some_added (Step (Recorded place)) = inl refl
  some_added (Step Repeat) = inr refl
  some_added (Step Late) = inr refl
  some_added (Status status) = inr refl
  some_added (Refused refusal) = either_one (is_unjudged refusal.code)

pub notes_asked : (old mid new : SeatView) (asked : Asked) (taken : Note) (told : Told) → taken.asked ≡ asked → mid ≡ kept old taken → IsConfirmed mid taken new told → Notes (IsNoted asked) old new told
notes_asked old mid new asked taken told is_asked is c = record {
  notes = added taken.told taken;
  added = same c ∙ (ap (λ (s : SeatView). s.notes) is ∙ after_added old.notes taken.told taken);
  is = noted c;
}
  where
    same : IsConfirmed mid taken new told → new.notes ≡ mid.notes
    same (inl once) = ap (λ (s : SeatView). s.notes) once.2
    same (inr (inl done)) = ap (λ (s : SeatView). s.notes) done.1
    same (inr (inr none)) = ap (λ (s : SeatView). s.notes) none.1

    noted : IsConfirmed mid taken new told → IsNoted asked told (added taken.told taken)
    noted (inl once) = subst (λ (t : Told). IsNoted asked t (added taken.told taken)) (sym once.0) (noted_told asked taken is_asked taken.told refl)
    noted (inr (inl done)) = subst (λ (t : Told). IsNoted asked t (added taken.told taken)) (sym done.0) (noted_told asked taken is_asked taken.told refl)
    noted (inr (inr none)) = subst (λ (t : Told). IsNoted asked t (added taken.told taken)) (sym none.0) (none_or_one asked taken is_asked (added taken.told taken) (some_added asked taken is_asked taken.told))

-- nothing was asked: memory ran out for the order
notes_nothing : (seat : SeatView) (asked : Asked) → Notes (IsNoted asked) seat seat (Refused (record { code = 50 }))
notes_nothing seat asked = record {
  notes = [];
  added = sym (append-nil seat.notes);
  is = ((λ judged. absurd (true≢false judged)), (λ unjudged. inl refl));
}

no_awaited : (seat : SeatView) (id : TransactionId) (status : AStatus) (turns : ℕ) → Notes (IsAwaited id status turns) seat seat (Refused (record { code = 50 }))
no_awaited seat id status turns = record {
  notes = [];
  added = sym (append-nil seat.notes);
  is = record {
    earlier = [];
    last = [];
    notes_are = refl;
    waited = All-nil (λ (note : Note). (note.asked ≡ Query id) × (HasOrEnds status note.told → ⊥));
    noted = ((λ judged. absurd (true≢false judged)), (λ unjudged. inl refl));
    most = omega arith;
    over = inr (inl refl);
  };
}

pub notes_unasked : (i : Instruction) (seat : SeatView) → Notes (IsNotedOf i) seat seat (Refused (record { code = 50 }))
notes_unasked (instruction.Order input) seat = notes_nothing seat (Take input)
notes_unasked (instruction.Status id) seat = notes_nothing seat (Query id)
notes_unasked (instruction.Until id status turns) seat = no_awaited seat id status turns

-- ---- again and again

-- that many questions in a row; only the last may have returned the status
pub record Waits (id : TransactionId) (status : AStatus) (count : ℕ) (old new : SeatView) (told : Told) : Type 0 where
  pub earlier : List Note
  pub last : List Note
  pub added : new.notes ≡ old.notes ++ (earlier ++ last)
  pub waited : All (λ (note : Note). (note.asked ≡ Query id) × (HasOrEnds status note.told → ⊥)) earlier
  pub noted : IsNoted (Query id) told last
  pub many : length earlier + 1 ≡ count

pub first_wait : (id : TransactionId) (status : AStatus) (old new : SeatView) (told : Told) → Notes (IsNoted (Query id)) old new told → Waits id status 1 old new told
first_wait id status old new told n = record {
  earlier = [];
  last = n.notes;
  added = n.added;
  waited = All-nil (λ (note : Note). (note.asked ≡ Query id) × (HasOrEnds status note.told → ⊥));
  noted = n.is;
  many = refl;
}

-- the journal's result of a question is a note
one_note : (seat : SeatView) (id : TransactionId) (told : Told) (notes : List Note) → HasHeard seat (Query id) told → is_without_journal told ≡ false → IsNoted (Query id) told notes → IsNote (Query id) told notes
one_note seat id (Step (Recorded place)) notes heard judged noted = absurd heard
one_note seat id (Step Repeat) notes heard judged noted = noted
one_note seat id (Step Late) notes heard judged noted = noted
one_note seat id (Status status) notes heard judged noted = noted
one_note seat id (Refused refusal) notes heard judged noted = noted.0 judged

pub next_wait : (id : TransactionId) (status : AStatus) (count : ℕ) (old mid new : SeatView) (told next : Told)
    → Waits id status count old mid told → HasHeard mid (Query id) told → (HasOrEnds status told → ⊥) × (is_without_journal told ≡ false) → Notes (IsNoted (Query id)) mid new next
    → Waits id status (count + 1) old new next
next_wait id status count old mid new told next w heard waits n =
    let one = one_note mid id told w.last heard waits.1 w.noted in
    let waiting = λ (note : Note). (note.asked ≡ Query id) × (HasOrEnds status note.told → ⊥) in
    let differs : HasOrEnds status one.0.told → ⊥ = λ has. waits.0 (subst (HasOrEnds status) one.3 has) in
    record {
      earlier = w.earlier ++ one.0 ∷ [];
      last = n.notes;
      added = n.added ∙ (ap (λ (ns : List Note). ns ++ n.notes) (w.added ∙ ap (λ (ns : List Note). old.notes ++ (w.earlier ++ ns)) one.1) ∙ append_assoc old.notes (w.earlier ++ one.0 ∷ []) n.notes);
      waited = All-push waiting w.earlier one.0 w.waited (one.2, differs);
      noted = n.is;
      many = omega (arith, w.many, length-append w.earlier (one.0 ∷ []));
    }

pub awaited : (id : TransactionId) (status : AStatus) (turns count : ℕ) (old new : SeatView) (told : Told) → Waits id status count old new told → count ≤ max 1 turns
    → HasOrEnds status told ⊎ ((is_without_journal told ≡ true) ⊎ (count ≡ max 1 turns)) → Notes (IsAwaited id status turns) old new told
awaited id status turns count old new told w low over = record {
  notes = w.earlier ++ w.last;
  added = w.added;
  is = record {
    earlier = w.earlier;
    last = w.last;
    notes_are = refl;
    waited = w.waited;
    noted = w.noted;
    most = omega (arith, w.many, low);
    over = elim over [ inl has ↦ inl has | inr rest ↦ elim rest [ inl none ↦ inr (inl none) | inr all ↦ inr (inr (w.many ∙ all)) ] ];
  };
}
