-- A seat together with the notes that it has forgotten, which the records that were followed bear out.
use Rattle.std.proofs.Common.{◌≡◌, ◌∙◌, ◌+◌, ◌-◌, ◌≤◌, ℕ, List, [], ◌∷◌, ◌++◌, All, length, take, drop, refl, sym, ap, subst, inl, inr, arith, append-nil, append_assoc, length-append, min}
use Rattle.std.proofs.Math.Seq.{take-add}
use Rattle.std.proofs.lemmas.List.{length-drop, take-append-le, take_all}
use Rattle.std.proofs.lemmas.Option.{slice_get_within}
use Rattle.std.proofs.lemmas.List.Elements.{All-append, All-nil, All-weaker, Contains-append_cases, Contains-append_left, Contains-append_right}
use Rattle.std.specs.Prelude.{Contains}
use Rattle.units.specs.declared.code.Node.{Node}
use Rattle.protocol.specs.Input.{Input}
use Rattle.protocol.specs.Scheme.{Scheme}
use Rattle.protocol.specs.declared.node_core.Stepped.TheVariants.{Recorded, Repeat, Late}
use Rattle.node_state.specs.Expected.{expected}
use Rattle.node_state.specs.Views.{SeatView}
use Rattle.node_state.specs.declared.notes.Asked.{Asked}
use Rattle.node_state.specs.declared.notes.Asked.TheVariants.{Take, Query}
use Rattle.node_state.specs.declared.notes.Note.{Note}
use Rattle.node_state.specs.declared.notes.Told.{Told}
use Rattle.node_state.specs.declared.notes.Told.TheVariants.{Step, Status, Refused}
use Rattle.settling.specs.Replicas.{AwaitsMore}
use Rattle.settling.specs.Settling.{Bears}
use Rattle.input_lines.specs.declared.instruction.Instruction.{Instruction}
use Rattle.serving.specs.Heard.{Grows, HasHeard, HasNoted}
use Rattle.one_node.specs.Operating.{AllJudged, Follows, IsAsked, IsCounted, IsWhole, SomeJudged, with_notes}
use Rattle.one_node.specs.declared.evidence.Evidence.{Evidence}
use Rattle.one_node.specs.declared.evidence.Judging.{Judging}

-- ---- notes before those of a seat

noted_before : (forgotten : List Note) (seat : SeatView) (asked : Asked) (told : Told) → HasNoted seat asked told → HasNoted (with_notes forgotten seat) asked told
noted_before forgotten seat asked told h = (h.0, Contains-append_right forgotten seat.notes _ h.1, h.2)

heard_before : (forgotten : List Note) (seat : SeatView) (asked : Asked) (told : Told) → HasHeard seat asked told → HasHeard (with_notes forgotten seat) asked told
heard_before forgotten seat (Take input) (Step (Recorded place)) h = h
heard_before forgotten seat (Query id) (Step (Recorded place)) h = h
heard_before forgotten seat asked (Step Repeat) h = noted_before forgotten seat asked (Step Repeat) h
heard_before forgotten seat asked (Step Late) h = noted_before forgotten seat asked (Step Late) h
heard_before forgotten seat asked (Status status) h = noted_before forgotten seat asked (Status status) h
heard_before forgotten seat asked (Refused refusal) h = λ judged. noted_before forgotten seat asked (Refused refusal) (h judged)

grows_before : (forgotten : List Note) (old new : SeatView) → Grows old new → Grows (with_notes forgotten old) (with_notes forgotten new)
grows_before forgotten old new g = record {
  tickets = g.tickets;
  notes = λ note is. elim (Contains-append_cases forgotten old.notes note is) [
    | inl early ↦ Contains-append_left forgotten new.notes note early
    | inr late ↦ Contains-append_right forgotten new.notes note (g.notes note late)
  ];
  confirmed = g.confirmed;
}

asked_before : (forgotten : List Note) (i : Instruction) (old new : SeatView) (told : Told) → IsAsked i old new told → IsAsked i (with_notes forgotten old) (with_notes forgotten new) told
asked_before forgotten i old new told a = record {
  heard = heard_before forgotten new _ told a.heard;
  grows = grows_before forgotten old new a.grows;
  adds = record { records = a.adds.records; tickets = a.adds.tickets; is = a.adds.is; grew = a.adds.grew };
  notes = record { notes = a.notes.notes; added = ap (λ (ns : List Note). forgotten ++ ns) a.notes.added ∙ sym (append_assoc forgotten old.notes a.notes.notes); is = a.notes.is };
}

-- ---- a question more

pub whole_asked : (scheme : Scheme) (n : Node) (e : Evidence) (new : SeatView) (i : Instruction) (told : Told) (before : SeatView) → IsAsked i e.seat new told → IsWhole scheme n e before
    → (after : SeatView) × IsWhole scheme n (record e { seat = new }) after × IsAsked i before after told
whole_asked scheme n e new i told before a w =
    let more : length new.notes ≡ length e.seat.notes + length a.notes.notes = ap length a.notes.added ∙ length-append e.seat.notes a.notes.notes in
    let front : take e.judged new.notes ≡ take e.judged e.seat.notes = ap (take e.judged) a.notes.added ∙ take-append-le e.judged e.seat.notes a.notes.notes w.within in (
      with_notes w.forgotten new,
      record {
        scheme_is = w.scheme_is;
        node_is = w.node_is;
        forgotten = w.forgotten;
        seat_is = refl;
        borne = w.borne;
        within = omega (arith, w.within, more);
        judged = subst (λ (ns : List Note). All (Bears scheme n e.replica.journal) ns) (sym front) w.judged;
      },
      subst (λ (seat : SeatView). IsAsked i seat (with_notes w.forgotten new) told) (sym w.seat_is) (asked_before w.forgotten i e.seat new told a),
    )

-- ---- a journal that is followed

bears_more : (scheme : Scheme) (n : Node) (journal more : List Input) (note : Note) → Bears scheme n journal note → Bears scheme n (journal ++ more) note
bears_more scheme n journal more note b =
    (omega (arith, b.0, length-append journal more), ap (λ (j : List Input). expected scheme n j note.asked) (take-append-le note.length journal more b.0) ∙ b.1)

pub all_bear_more : (scheme : Scheme) (n : Node) (journal more longer : List Input) (notes : List Note) → longer ≡ journal ++ more → All (Bears scheme n journal) notes → All (Bears scheme n longer) notes
all_bear_more scheme n journal more longer notes is all =
    subst (λ (j : List Input). All (Bears scheme n j) notes) (sym is) (All-weaker (Bears scheme n journal) (Bears scheme n (journal ++ more)) (λ note b. bears_more scheme n journal more note b) notes all)

-- the first notes, and some of those after them
judged_more : (P : Note → Type 0) (notes : List Note) (first count : ℕ) → All P (take first notes) → All P (take count (drop first notes)) → All P (take (first + count) notes)
judged_more P notes first count some more = subst (All P) (sym (take-add first count notes)) (All-append P (take first notes) (take count (drop first notes)) some more)

-- no more notes were judged than there are
pub count_within : (notes : List Note) (first len count : ℕ) → first ≤ length notes → AwaitsMore len (drop first notes) count → count ≤ length notes - first
count_within notes first len count low (inl all) = omega (arith, all, length-drop first notes)
count_within notes first len count low (inr more) = let below = slice_get_within (drop first notes) count more.0 more.1 in omega (arith, below, length-drop first notes)

-- further records were recorded, and as many notes more were judged
module _ (old new : Evidence) (records : List Input) (count judged : ℕ) (scheme_is : new.replica.scheme ≡ old.replica.scheme) (node_is : new.replica.node ≡ old.replica.node) (journal_is : new.replica.journal ≡ old.replica.journal ++ records)
    (first : ℕ) (first_is : first ≡ min old.judged (length old.seat.notes)) (judged_is : judged ≡ first + count) (most : judged ≤ length old.seat.notes)
    (bear : All (Bears old.replica.scheme old.replica.node new.replica.journal) (take count (drop first old.seat.notes))) where
  module _ (scheme : Scheme) (n : Node) (seat : SeatView) (w : IsWhole scheme n old seat) where
    abbrev Borne : List Note → Type 0
    Borne notes = All (Bears scheme n new.replica.journal) notes

    same : first ≡ old.judged
    same = omega (arith, first_is, w.within)

    bear_now : Borne (take count (drop first old.seat.notes))
    bear_now = subst (λ (m : Node). All (Bears scheme m new.replica.journal) (take count (drop first old.seat.notes))) w.node_is (subst (λ (s : Scheme). All (Bears s old.replica.node new.replica.journal) (take count (drop first old.seat.notes))) w.scheme_is bear)

    before : Borne (take first old.seat.notes)
    before = subst (λ (k : ℕ). Borne (take k old.seat.notes)) (sym same) (all_bear_more scheme n old.replica.journal records new.replica.journal (take old.judged old.seat.notes) journal_is w.judged)

    all_judged : Borne (take judged old.seat.notes)
    all_judged = subst (λ (k : ℕ). Borne (take k old.seat.notes)) (sym judged_is) (judged_more (Bears scheme n new.replica.journal) old.seat.notes first count before bear_now)

    forgotten_on : Borne w.forgotten
    forgotten_on = all_bear_more scheme n old.replica.journal records new.replica.journal w.forgotten journal_is w.borne

    kept : IsCounted old.seat judged new.seat new.judged → IsWhole scheme n new seat
    kept (AllJudged all seat_is none) =
        let everything : take judged old.seat.notes ≡ old.seat.notes = take_all judged old.seat.notes (omega (arith, all)) in
        record {
          scheme_is = scheme_is ∙ w.scheme_is;
          node_is = node_is ∙ w.node_is;
          forgotten = w.forgotten ++ old.seat.notes;
          seat_is = w.seat_is ∙ (ap (λ (ns : List Note). record old.seat { notes = ns }) (sym (append-nil (w.forgotten ++ old.seat.notes))) ∙ ap (λ (s : SeatView). with_notes (w.forgotten ++ old.seat.notes) s) (sym seat_is));
          borne = All-append (Bears scheme n new.replica.journal) w.forgotten old.seat.notes forgotten_on (subst Borne everything all_judged);
          within = omega (arith, none);
          judged = subst (λ (k : ℕ). Borne (take k new.seat.notes)) (sym none) (All-nil (Bears scheme n new.replica.journal));
        }
    kept (SomeJudged seat_is after) = record {
      scheme_is = scheme_is ∙ w.scheme_is;
      node_is = node_is ∙ w.node_is;
      forgotten = w.forgotten;
      seat_is = w.seat_is ∙ ap (with_notes w.forgotten) (sym seat_is);
      borne = forgotten_on;
      within = let long = ap (λ (s : SeatView). length s.notes) seat_is in omega (arith, after, most, long);
      judged = subst (λ (s : SeatView). Borne (take new.judged s.notes)) (sym seat_is) (subst (λ (k : ℕ). Borne (take k old.seat.notes)) (sym after) all_judged);
    }

  pub followed : IsCounted old.seat judged new.seat new.judged → Follows old new
  followed counted = record { more = records; journal_is = journal_is; whole = λ scheme n seat w. kept scheme n seat w counted }

-- nothing was followed
pub follows_none : (e : Evidence) → Follows e e
follows_none e = record { more = []; journal_is = sym (append-nil e.replica.journal); whole = λ scheme n seat w. w }

-- nothing was followed; whether notes are being judged may have changed
pub follows_alike : (e : Evidence) (judging : Judging) → Follows e (record e { judging = judging })
follows_alike e judging = record {
  more = [];
  journal_is = sym (append-nil e.replica.journal);
  whole = λ scheme n seat w. record { scheme_is = w.scheme_is; node_is = w.node_is; forgotten = w.forgotten; seat_is = w.seat_is; borne = w.borne; within = w.within; judged = w.judged };
}

pub follows_on : (a b c : Evidence) → Follows a b → Follows b c → Follows a c
follows_on a b c f g = record {
  more = f.more ++ g.more;
  journal_is = g.journal_is ∙ (ap (λ (j : List Input). j ++ g.more) f.journal_is ∙ append_assoc a.replica.journal f.more g.more);
  whole = λ scheme n seat w. g.whole scheme n seat (f.whole scheme n seat w);
}
