-- How a node's journal goes on while its threads run.
use Rattle.std.proofs.Common.{◌≡◌, ◌∙◌, ◌+◌, ◌≤◌, ℕ, zero, suc, List, [], ◌∷◌, ◌++◌, length, take, drop, All, Some, refl, sym, ap, subst, arith, append_assoc}
use Rattle.std.proofs.lemmas.List.{take-append-drop, length-take-le}
use Rattle.std.proofs.lemmas.List.Sums.{sum_by-append}
use Rattle.std.proofs.lemmas.List.Elements.{All-append, All-cons, All-head, All-nil, All-tail, Contains-push}
use Rattle.std.specs.Prelude.{count_by, slice_get, sum_by, ◌==◌}
use Rattle.units.proofs.Lists.OneValue.{one_some}
use Rattle.units.specs.declared.code.Node.{Node}
use Rattle.protocol.specs.Input.{Input}
use Rattle.protocol.specs.Input.TheVariants.{CleanUp}
use Rattle.protocol.specs.Moment.{Moment}
use Rattle.protocol.specs.Scheme.{Scheme}
use Rattle.protocol.specs.declared.node_core.Stepped.TheVariants.{Recorded}
use Rattle.settling.specs.Covering.{Fits}
use Rattle.settling.specs.Settling.{AllBorne, Bears, IsSettled, IsWithin, Stood}
use Rattle.node_state.specs.Views.{SeatView, StateView, committed_records}
use Rattle.node_state.specs.declared.notes.Asked.{Asked}
use Rattle.node_state.specs.declared.notes.Asked.TheVariants.{Take}
use Rattle.node_state.specs.declared.notes.Lengths.TheVariants.{Grew}
use Rattle.node_state.specs.declared.notes.Ticket.{Ticket}
use Rattle.node_state.specs.declared.notes.Told.{Told}
use Rattle.node_state.specs.declared.notes.Told.TheVariants.{Step}
use Rattle.input_lines.specs.declared.instruction.Instruction.{Instruction}
use Rattle.input_lines.specs.declared.instruction.Instruction.TheVariants.{Order}
use Rattle.input_lines.specs.declared.script_line.ScriptLine.{ScriptLine}
use Rattle.sessions.specs.Orders.{HasNoOrder, HasOnly, was_ordered}
use Rattle.serving.specs.Answers.{IsBorne, asked_by}
use Rattle.serving.specs.Heard.{HasHeard}
use Rattle.serving.specs.Notes.{AreOfLines}
use Rattle.serving.specs.Orders.{AreOrders, IsRecordOf}
use Rattle.serving.specs.Committed.{ordered_from, orders_of, since}
use Rattle.serving.specs.declared.answer.ScriptAnswer.{ScriptAnswer}
use Rattle.serving.specs.declared.answer.ScriptAnswer.TheVariants.{NotPossible, Told as Answered}
use Rattle.serving.proofs.Borne.{all_of, borne, front_of_front}
use Rattle.serving.proofs.Ordered.{committed_orders, others_taken}
use Rattle.one_node.specs.Lives.{GoesOn}
use Rattle.one_node.specs.Operating.{HasTurns, IsWhole, with_notes}
use Rattle.one_node.specs.Turns.{IsCarried, IsTurn, Turn, Line, Unread, Exported, Timed, answers_of, line_to, lines_of}
use Rattle.one_node.specs.declared.evidence.Evidence.{Evidence}
use Rattle.one_node.proofs.Forgetting.{all_bear_more}
use Rattle.one_node.proofs.Turning.{carried_more, turns_as}

-- ---- another element in the last place

sum_last : {X : Type 0} (f : X → ℕ) (xs : List X) (a b : X) → f a ≡ f b → sum_by f (xs ++ a ∷ []) ≡ sum_by f (xs ++ b ∷ [])
sum_last f xs a b same = sum_by-append f xs (a ∷ []) ∙ (ap (λ (k : ℕ). sum_by f xs + (0 + k)) same ∙ sym (sum_by-append f xs (b ∷ [])))

all_last : {X : Type 0} (P : X → Type 0) (xs : List X) (a b : X) → (P a → P b) → All P (xs ++ a ∷ []) → All P (xs ++ b ∷ [])
all_last P [] a b more all = All-cons P b [] (more (All-head P a [] all)) (All-nil P)
all_last P (x ∷ xs) a b more all = All-cons P x (xs ++ b ∷ []) (All-head P x (xs ++ a ∷ []) all) (all_last P xs a b more (All-tail P x (xs ++ a ∷ []) all))

module _ (scheme : Scheme) (n : Node) (tells : Moment → Type 0) (Takes : Input → Type 0) (Holds : List ℕ → List Input → Type 0) where
  heard_at : (Carries : List ℕ → ℕ → Type 0) (seat : SeatView) (ts : List Turn) (k : ℕ) (l : ScriptLine) (told : Told) → All (IsTurn scheme n (HasHeard seat) tells Carries) ts → slice_get (lines_of n ts) k ≡ Some l → slice_get (answers_of ts) k ≡ Some (Answered told) → HasHeard seat (asked_by l.instruction) told
  heard_at Carries seat [] k l told all at_line at_answer = absurd (cc (at_line))
  heard_at Carries seat (Line raw m a ∷ ts) zero l told all at_line at_answer =
      let is = All-head (IsTurn scheme n (HasHeard seat) tells Carries) (Line raw m a) ts all in
      asked_there raw m a is (one_some (line_to n m) l at_line) (one_some a (Answered told) at_answer)
    where
      asked_there : (raw : List ℕ) (m : Instruction) (a : ScriptAnswer) → IsTurn scheme n (HasHeard seat) tells Carries (Line raw m a) → line_to n m ≡ l → a ≡ Answered told → HasHeard seat (asked_by l.instruction) told
      asked_there raw m NotPossible is same given = absurd (cc (given))
      asked_there raw m (Answered heard) is same given =
          let told_is : heard ≡ told = cc (given) in
          subst (λ (x : ScriptLine). HasHeard seat (asked_by x.instruction) told) same (subst (λ (t : Told). HasHeard seat (asked_by m) t) told_is is.1.1)
  heard_at Carries seat (Line raw m a ∷ ts) (suc k) l told all at_line at_answer = heard_at Carries seat ts k l told (All-tail (IsTurn scheme n (HasHeard seat) tells Carries) (Line raw m a) ts all) at_line at_answer
  heard_at Carries seat (Unread raw fault ∷ ts) k l told all at_line at_answer = heard_at Carries seat ts k l told (All-tail (IsTurn scheme n (HasHeard seat) tells Carries) (Unread raw fault) ts all) at_line at_answer
  heard_at Carries seat (Exported raw count ∷ ts) k l told all at_line at_answer = heard_at Carries seat ts k l told (All-tail (IsTurn scheme n (HasHeard seat) tells Carries) (Exported raw count) ts all) at_line at_answer
  heard_at Carries seat (Timed m heard ∷ ts) zero l told all at_line at_answer =
      let is = All-head (IsTurn scheme n (HasHeard seat) tells Carries) (Timed m heard) ts all in
      let told_is : heard ≡ told = cc (at_answer) in
      subst (λ (x : ScriptLine). HasHeard seat (asked_by x.instruction) told) (one_some (line_to n (Order (CleanUp m))) l at_line) (subst (λ (t : Told). HasHeard seat (Take (CleanUp m)) t) told_is is.2)
  heard_at Carries seat (Timed m heard ∷ ts) (suc k) l told all at_line at_answer = heard_at Carries seat ts k l told (All-tail (IsTurn scheme n (HasHeard seat) tells Carries) (Timed m heard) ts all) at_line at_answer

  module _ (held : StateView) (threads : List SeatView) (part : Evidence) (seat : SeatView) (turns : List Turn) (settled : IsSettled scheme n held (threads ++ part.seat ∷ [])) (none : All HasNoOrder threads) (took : All (HasOnly Takes) threads)
      (rest : List Input) (follows : committed_records held ≡ part.replica.journal ++ rest) (whole : IsWhole scheme n part seat) (has : HasTurns scheme n tells Holds turns part.replica.journal seat) (early : held.opening ≤ held.committed) (within : held.committed ≤ length held.journal) where
    abbrev heard : List SeatView
    heard = threads ++ seat ∷ []

    -- the whole journal bears out what the records that were followed do
    forgotten_borne : All (Bears scheme n held.journal) whole.forgotten
    forgotten_borne =
        all_bear_more scheme n part.replica.journal (rest ++ drop held.committed held.journal) held.journal whole.forgotten
        (sym (take-append-drop held.committed held.journal) ∙ (ap (λ (j : List Input). j ++ drop held.committed held.journal) follows ∙ append_assoc part.replica.journal rest (drop held.committed held.journal))) whole.borne

    -- the notes are settled, with those that were forgotten among them
    settled_whole : IsSettled scheme n held heard
    settled_whole =
        let with_all : SeatView = with_notes whole.forgotten part.seat in
        subst (λ (s : SeatView). IsSettled scheme n held (threads ++ s ∷ [])) (sym whole.seat_is)
        (record {
          covers = record {
            once = λ place is. sum_last (λ (s : SeatView). count_by (λ (t : Ticket). t.place == place) s.tickets) threads with_all part.seat refl ∙ settled.covers.once place is;
            fits = all_last (λ (s : SeatView). All (Fits held) s.tickets) threads part.seat with_all (λ fit. fit) settled.covers.fits;
          };
          within = all_last (IsWithin held.committed) threads part.seat with_all (λ is. is) settled.within;
          stood = all_last Stood threads part.seat with_all (λ is. is) settled.stood;
          borne = all_last (AllBorne scheme n held.journal) threads part.seat with_all (λ all. All-append (Bears scheme n held.journal) whole.forgotten part.seat.notes forgotten_borne all) settled.borne;
        })

    grew : seat.lengths ≡ Grew
    grew = all_of (λ (s : SeatView). s.lengths ≡ Grew) heard seat settled_whole.stood (Contains-push threads seat)

    borne_by : All (IsTurn scheme n (IsBorne scheme n (committed_records held)) tells (IsCarried Holds (committed_records held))) turns
    borne_by =
        turns_as scheme n tells (HasHeard seat) (IsBorne scheme n (committed_records held))
        (λ asked told h. borne scheme n held heard seat settled_whole (Contains-push threads seat) asked told h)
        (IsCarried Holds part.replica.journal) (IsCarried Holds (committed_records held)) (carried_more Holds part.replica.journal (committed_records held) rest follows) turns has.heard

    -- to the committed records
    pub goes_to_committed : GoesOn scheme n tells Takes Holds (take held.opening held.journal) (committed_records held) turns
    goes_to_committed =
        let low : length (take held.opening held.journal) ≡ held.opening = length-take-le held.opening held.journal (omega (arith, early, within)) in
        let first : take held.opening (committed_records held) ≡ take held.opening held.journal = front_of_front held.committed held.opening held.journal early in
        let confirmed : seat.confirmed ≤ held.committed = all_of (λ (s : SeatView). s.confirmed ≤ held.committed) heard seat settled_whole.within (Contains-push threads seat) in
        let orders : AreOrders n (lines_of n turns) (answers_of turns) (orders_of held) =
        committed_orders n held heard threads seat (lines_of n turns) (answers_of turns) settled_whole.covers grew refl none has.orders
        (λ k l input place at_line at_answer here asked.
        let h : HasHeard seat (Take input) (Step (Recorded place)) = subst (λ (a : Asked). HasHeard seat a (Step (Recorded place))) asked (heard_at (IsCarried Holds part.replica.journal) seat turns k l (Step (Recorded place)) has.heard at_line at_answer) in
        omega (arith, h.1, confirmed)) in
        record {
          more = since held;
          goes = sym (take-append-drop held.opening (committed_records held)) ∙ ap (λ (js : List Input). js ++ since held) first;
          borne = borne_by;
          orders = subst (λ (p : ℕ). AreOrders n (lines_of n turns) (answers_of turns) (ordered_from p (since held))) (sym low) orders;
          others = others_taken held heard threads seat settled_whole.covers refl Takes took has.orders.ordered;
        }
