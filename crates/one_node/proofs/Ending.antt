-- The end of a node's life.
use Rattle.std.proofs.Common.{◌≡◌, ◌∙◌, ◌+◌, ℕ, false, All, List, [], ◌∷◌, ◌++◌, Option, length, take, refl, sym, ap, subst, arith}
use Rattle.std.proofs.KnownBytes.{Appends-trans}
use Rattle.std.proofs.lemmas.List.{take_all}
use Rattle.std.proofs.lemmas.List.Elements.{All-nil, All-weaker}
use Rattle.std.proofs.lemmas.Option.{IfSome_then}
use Rattle.std.specs.Io.KnownBytes.{Appends}
use Rattle.units.specs.declared.code.Node.{Node}
use Rattle.protocol.specs.Input.{Input}
use Rattle.protocol.specs.Moment.{Moment}
use Rattle.protocol.specs.Scheme.{Scheme}
use Rattle.desk.specs.Keeping.{MayOpen, StoredView}
use Rattle.desk.specs.NodeStore.{Ghosts}
use Rattle.node_state.specs.Views.{SeatView, StateView, committed_records, opened_with}
use Rattle.node_state.specs.declared.notes.Asked.{Asked}
use Rattle.node_state.specs.declared.notes.Told.{Told}
use Rattle.sessions.specs.Orders.{HasNoOrder, HasOnly, was_ordered}
use Rattle.settling.specs.Settling.{Bears}
use Rattle.serving.specs.Answers.{IsBorne}
use Rattle.serving.specs.Orders.{HasOrders}
use Rattle.serving.proofs.Ordering.{has_none}
use Rattle.one_node.specs.Lives.{EndsSettled, GoesOn, IsLife, opens_with, records_line}
use Rattle.one_node.specs.Operating.{AsksToEnd, HasTurns, IsWhole, Talks, empty_seat}
use Rattle.one_node.specs.Turns.{IsCarried, IsTurn, Turn, Exported, Line, Timed, Unread, answers_text, clean_up_moment}
use Rattle.one_node.specs.declared.answering.OperatorFault.TheVariants as faults
use Rattle.one_node.specs.declared.evidence.Evidence.{Evidence}
use Rattle.one_node.proofs.Going.{goes_to_committed}

-- a loaded node may open its desk
pub opens : {S : Type 0} (g : Ghosts S) (scheme : Scheme) (kept : StoredView S) → kept.state ≡ opened_with scheme kept.state.node kept.state.journal → MayOpen g (opens_with scheme kept.state.node kept.state.journal) kept
opens {S} g scheme kept is =
    let whole : kept.state.opening ≡ length kept.state.journal = ap (λ (h : StateView). h.opening) is in
    record {
      begins = (ap (λ (h : StateView). h.scheme) is, refl, take_all kept.state.opening kept.state.journal (omega (arith, whole)));
      runs = ap (λ (h : StateView). h.runs) is;
    }

module _ (scheme : Scheme) (n : Node) (tells : Moment → Type 0) (Takes : Input → Type 0) (Holds : List ℕ → List Input → Type 0) where
  -- before the first line: a seat without notes, and a replica without records
  module _ (start : Evidence) (empty : start.seat ≡ empty_seat) (none : start.judged ≡ 0) (scheme_is : start.replica.scheme ≡ scheme) (node_is : start.replica.node ≡ n) where
    begins_whole : IsWhole scheme n start start.seat
    begins_whole = record {
      scheme_is = scheme_is;
      node_is = node_is;
      forgotten = [];
      seat_is = refl;
      borne = All-nil (Bears scheme n start.replica.journal);
      within = omega (arith, none);
      judged = subst (λ (k : ℕ). All (Bears scheme n start.replica.journal) (take k start.seat.notes)) (sym none) (All-nil (Bears scheme n start.replica.journal));
    }

    begins_none : HasOrders n [] [] start.seat
    begins_none = has_none n start.seat (ap (λ (s : SeatView). s.tickets) empty) (ap (λ (s : SeatView). s.notes) empty)

    -- after the last one
    pub life_of : {S : Type 0} (g : Ghosts S) (opened : Scheme → Node → List Input → ℕ → Type 0) (journal : List Input) → ((its : Scheme) (m : Node) (its_journal : List Input) (faults : ℕ) → opened its m its_journal faults → opens_with scheme n journal its m its_journal faults)
        → (kept : StoredView S) (threads : List SeatView) (end : Evidence) → EndsSettled g opened scheme n kept threads end → All HasNoOrder threads → All (HasOnly Takes) threads
        → (r s v w x : Option (List ℕ)) (count counted : ℕ) (left : List ℕ) → count ≡ 0 → Talks scheme n tells Holds [] r s v w count counted start end left → AsksToEnd s left
        → Appends w x (records_line (length (committed_records kept.state))) → IsLife scheme n tells Takes Holds journal (committed_records kept.state) r s v x
    life_of g opened journal opens_it kept threads end ends none_ordered took r s v w x count counted left none_before talks asks written =
        let went = talks.hears.hears start.seat begins_whole in
        let has : HasTurns scheme n tells Holds talks.turns end.replica.journal went.0 = record { heard = went.2.heard; orders = went.2.orders [] [] refl begins_none } in
        let began = opens_it _ _ _ _ ends.at.began in
        let goes : GoesOn scheme n tells Takes Holds (take kept.state.opening kept.state.journal) (committed_records kept.state) talks.turns =
        goes_to_committed scheme n tells Takes Holds kept.state threads end went.0 talks.turns ends.settled none_ordered took ends.rest ends.follows went.1 has ends.keeps.opening ends.keeps.committed in
        record {
          turns = talks.turns;
          left = left;
          read = talks.read;
          ends = asks;
          written = Appends-trans v w x (answers_text 1 talks.turns) (records_line (length (committed_records kept.state)))
              (subst (λ (k : ℕ). Appends v w (answers_text (k + 1) talks.turns)) none_before talks.answered.written) written;
          goes = subst (λ (j : List Input). GoesOn scheme n tells Takes Holds j (committed_records kept.state) talks.turns) began.2 goes;
        }

-- the same with more moments that the clock gave and more inputs that were taken
module _ (scheme : Scheme) (n : Node) (tells also_tells : Moment → Type 0) (more : (m : Moment) → tells m → also_tells m) where
  told_turn : (Backs : Asked → Told → Type 0) (Carries : List ℕ → ℕ → Type 0) (t : Turn) → IsTurn scheme n Backs tells Carries t → IsTurn scheme n Backs also_tells Carries t
  told_turn Backs Carries (Line raw i a) is = (is.0, is.1, IfSome_then (clean_up_moment i) is.2 (λ moment timely. (timely.0, more timely.0 timely.1, timely.2)))
  told_turn Backs Carries (Unread raw faults.Order) is = is
  told_turn Backs Carries (Unread raw faults.TooLong) is = is
  told_turn Backs Carries (Unread raw faults.Export) is = is
  told_turn Backs Carries (Unread raw faults.Moment) is = (is.0, is.1, (is.2.0, is.2.1, is.2.2, more is.2.1 is.2.3, is.2.4))
  told_turn Backs Carries (Exported raw count) is = is
  told_turn Backs Carries (Timed m told) is = (is.0, more m is.1, is.2)

  pub life_as : (Takes Also : Input → Type 0) (Holds : List ℕ → List Input → Type 0) (first last : List Input) (r s v w : Option (List ℕ)) → ((input : Input) → Takes input → Also input)
      → IsLife scheme n tells Takes Holds first last r s v w → IsLife scheme n also_tells Also Holds first last r s v w
  life_as Takes Also Holds first last r s v w all life = record {
    turns = life.turns;
    left = life.left;
    read = life.read;
    ends = life.ends;
    written = life.written;
    goes = record {
      more = life.goes.more;
      goes = life.goes.goes;
      borne = All-weaker (IsTurn scheme n (IsBorne scheme n last) tells (IsCarried Holds last)) (IsTurn scheme n (IsBorne scheme n last) also_tells (IsCarried Holds last))
          (told_turn (IsBorne scheme n last) (IsCarried Holds last)) life.turns life.goes.borne;
      orders = life.goes.orders;
      others = All-weaker (λ input. was_ordered input ≡ false → Takes input) (λ input. was_ordered input ≡ false → Also input) (λ input takes not. all input (takes not)) life.goes.more life.goes.others;
    };
  }
