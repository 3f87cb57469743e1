-- How often a script asked: lines and notes as values.
use Rattle.std.proofs.Common.{◌≡◌, ◌≢◌, ◌∙◌, ◌+◌, ℕ, List, [], ◌∷◌, false, true≢false, length, length-append, None, Some, inl, inr, refl, sym, ap, arith}
use Rattle.std.proofs.lemmas.List.Elements.{All-nil, All-push}
use Rattle.status.specs.declared.status.Status.TheVariants.{Proposed, Rejected, Completed}
use Rattle.protocol.proofs.WorkedScheme.{nz1}
use Rattle.node_state.specs.declared.notes.Asked.TheVariants.{Query}
use Rattle.node_state.specs.declared.notes.Note.{Note}
use Rattle.node_state.specs.declared.notes.Told.{Told}
use Rattle.node_state.specs.declared.notes.Told.TheVariants.{Status, Refused}
use Rattle.input_lines.specs.declared.instruction.Instruction.TheVariants.{Status as Ask, Until}
use Rattle.serving.specs.Notes.{HasOrEnds, IsAwaited, IsNotedOf}

abbrev note : Told → Note
note told = record { asked = Query nz1; told = told; length = 3 }

abbrev proposed : Told
proposed = Status (Some Proposed)

abbrev completed : Told
completed = Status (Some Completed)

-- it was asked until the transaction is completed, at most that often
abbrev awaited : ℕ → Told → List Note → Type 0
awaited turns told notes = IsNotedOf (Until nz1 Completed turns) told notes

abbrev rejected : Told
rejected = Status (Some Rejected)

waits : HasOrEnds Completed proposed → ⊥
waits (inl e) = cc (e)
waits (inr e) = e

pub asked_once : IsNotedOf (Ask nz1) (Status None) (note (Status None) ∷ [])
asked_once = (note (Status None), refl, refl, refl)

-- the second time it has the status
pub until_it_has_it : awaited 5 completed (note proposed ∷ note completed ∷ [])
until_it_has_it = record {
  earlier = note proposed ∷ [];
  last = note completed ∷ [];
  notes_are = refl;
  waited = All-push (λ (n : Note). (n.asked ≡ Query nz1) × (HasOrEnds Completed n.told → ⊥)) [] (note proposed) (All-nil (λ (n : Note). (n.asked ≡ Query nz1) × (HasOrEnds Completed n.told → ⊥))) (refl, waits);
  noted = (note completed, refl, refl, refl);
  most = omega arith;
  over = inl (inl refl);
}

-- the second time it is rejected, and never completed
pub until_it_ends : awaited 5 rejected (note proposed ∷ note rejected ∷ [])
until_it_ends = record {
  earlier = note proposed ∷ [];
  last = note rejected ∷ [];
  notes_are = refl;
  waited = All-push (λ (n : Note). (n.asked ≡ Query nz1) × (HasOrEnds Completed n.told → ⊥)) [] (note proposed) (All-nil (λ (n : Note). (n.asked ≡ Query nz1) × (HasOrEnds Completed n.told → ⊥))) (refl, waits);
  noted = (note rejected, refl, refl, refl);
  most = omega arith;
  over = inl (inr tt);
}

-- it was asked as often as it may be
pub as_often_as_it_may : awaited 1 proposed (note proposed ∷ [])
as_often_as_it_may = record {
  earlier = [];
  last = note proposed ∷ [];
  notes_are = refl;
  waited = All-nil (λ (n : Note). (n.asked ≡ Query nz1) × (HasOrEnds Completed n.told → ⊥));
  noted = (note proposed, refl, refl, refl);
  most = omega arith;
  over = inr (inr refl);
}

-- the node had stopped
pub at_a_stopped_node : awaited 5 (Refused (record { code = 48 })) []
at_a_stopped_node = record {
  earlier = [];
  last = [];
  notes_are = refl;
  waited = All-nil (λ (n : Note). (n.asked ≡ Query nz1) × (HasOrEnds Completed n.told → ⊥));
  noted = ((λ judged. absurd (true≢false judged)), (λ unjudged. inl refl));
  most = omega arith;
  over = inr (inl refl);
}

many : (turns : ℕ) (told : Told) (notes : List Note) (h : IsAwaited nz1 Completed turns told notes) (n : Note) → h.last ≡ n ∷ [] → length notes ≡ length h.earlier + 1
many turns told notes h n one = ap (λ (ns : List Note). length ns) h.notes_are ∙ (length-append h.earlier h.last ∙ ap (λ (ns : List Note). length h.earlier + length ns) one)

-- once, where it may be asked twice, is too few
pub not_too_few : awaited 2 proposed (note proposed ∷ []) → ⊥
not_too_few h =
    let count : ◌≡◌ {A = ℕ} 1 (length h.earlier + 1) = many 2 proposed (note proposed ∷ []) h h.noted.0 h.noted.1 in
    elim h.over [
      | inl has ↦ waits has
      | inr rest ↦ elim rest [ inl none ↦ true≢false (sym none) | inr all ↦ let two : ◌≡◌ {A = ℕ} (length h.earlier + 1) 2 = all in omega (arith, count, two) ]
    ]

-- twice, where it may be asked once, is too many
pub not_too_many : awaited 1 proposed (note proposed ∷ note proposed ∷ []) → ⊥
not_too_many h =
    let count : ◌≡◌ {A = ℕ} 2 (length h.earlier + 1) = many 1 proposed (note proposed ∷ note proposed ∷ []) h h.noted.0 h.noted.1 in
    omega (arith, count, h.most)
