-- The committed records of settled nodes bear out the answers that a script heard.
use Rattle.std.proofs.Common.{◌≡◌, ◌∙◌, ◌<◌, ◌≤◌, ℕ, zero, suc, false, All, List, [], ◌∷◌, ◌++◌, length, map, take, Some, refl, sym, ap, subst, arith}
use Rattle.std.specs.Prelude.{Contains, slice_get, slice_index_or}
use Rattle.std.proofs.lemmas.List.Elements.{All-contains, All-weaker, Contains-push}
use Rattle.std.proofs.lemmas.Option.{slice_get_within}
use Rattle.units.specs.declared.code.Node.{Node}
use Rattle.protocol.specs.Input.{Input}
use Rattle.protocol.specs.Scheme.{Scheme}
use Rattle.units.proofs.Lists.OneValue.{one_some}
use Rattle.units.proofs.Lists.Positions.{some_at}
use Rattle.protocol.specs.Registries.{nodes, index_of}
use Rattle.protocol.specs.declared.node_core.Stepped.TheVariants.{Recorded}
use Rattle.settling.specs.Settling.{IsSettled, Stood}
use Rattle.node_state.specs.Views.{StateView, SeatView, committed_records}
use Rattle.node_state.specs.declared.notes.Asked.TheVariants.{Take}
use Rattle.node_state.specs.declared.notes.Ticket.{Ticket}
use Rattle.node_state.specs.declared.notes.Told.TheVariants.{Step}
use Rattle.sessions.specs.Orders.{HasNoOrder, HasOnly, was_ordered}
use Rattle.weave.specs.Following.{journal_of}
use Rattle.protocol.proofs.NodeIndices.{node_of_index, index_within}
use Rattle.weave.proofs.NodeIndices.{journal_is}
use Rattle.input_lines.specs.declared.script_line.ScriptLine.{ScriptLine}
use Rattle.serving.specs.Answers.{IsAnswer, IsBorne, IsRecordAt, answer_lines, asked_by, first_undone}
use Rattle.run.specs.Gathered.{AreGathered, IsGathered}
use Rattle.serving.specs.Heard.{IsHeard}
use Rattle.serving.specs.Orders.{IsPlayed}
use Rattle.ended_nodes.specs.Reported.{IsReported, committed_by_all}
use Rattle.run.specs.Runs.{HaveOthers, IsRunReport}
use Rattle.serving.specs.declared.answer.ScriptAnswer.{ScriptAnswer}
use Rattle.serving.specs.declared.answer.ScriptAnswer.TheVariants.{NotPossible, Told as Answered}
use Rattle.serving.proofs.Borne.{borne}
use Rattle.serving.proofs.Ordered.{committed_orders, others_taken}

image_or : {X Y : Type 0} (f : X → Y) (xs : List X) (k : ℕ) (x : X) (d : Y) → slice_get xs k ≡ Some x → slice_index_or (map f xs) k d ≡ f x
image_or f [] zero x d e = absurd (cc (e))
image_or f [] (suc k) x d e = absurd (cc (e))
image_or f (y ∷ ys) zero x d e = ap f (one_some y x e)
image_or f (y ∷ ys) (suc k) x d e = image_or f ys k x d e

short : (count : ℕ) (xs : List Input) → length (take count xs) ≤ count
short zero xs = omega arith
short (suc count) [] = omega arith
short (suc count) (x ∷ xs) = let rest = short count xs in omega (arith, rest)

module _ (scheme : Scheme) (helds : List StateView) (own : List SeatView) (seats : List (List SeatView)) (table : List ℕ)
    (all : length helds ≡ length (nodes scheme)) (Takes : Input → Type 0) (unordered : (input : Input) → Takes input → was_ordered input ≡ false) (gathered : AreGathered Takes own seats) (each : length own ≡ length (nodes scheme)) (r : IsReported scheme helds seats table) where
  journal_at : (n : Node) (at : ℕ) (held : StateView) → index_of scheme n ≡ Some at → slice_get helds at ≡ Some held → journal_of scheme (committed_by_all helds) n ≡ committed_records held
  journal_at n at held place is = journal_is scheme n at place (committed_by_all helds) ∙ image_or committed_records helds at held [] is

  -- the seat of the script at a settled node, among those of the node
  record IsSeated (n : Node) (held : StateView) (seat : SeatView) : Type 0 where
    heard : List SeatView
    settled : IsSettled scheme n held heard
    gathers : IsGathered Takes heard seat

  seated : (n : Node) (at : ℕ) (held : StateView) (seat : SeatView) → index_of scheme n ≡ Some at → slice_get helds at ≡ Some held → slice_get own at ≡ Some seat → IsSeated n held seat
  seated n at held seat place is at_own =
      let low : at < length (nodes scheme) = index_within scheme n at place in
      let heard = some_at seats at (omega (arith, low, gathered.count, each)) in
      record {
        heard = heard.0;
        settled = r.settled at n held heard.0 (omega (arith, low, all)) (node_of_index scheme n at place) is heard.1;
        gathers = gathered.each at seat heard.0 (omega (arith, low, each)) at_own heard.1;
      }

  among : (heard : List SeatView) (seat : SeatView) → IsGathered Takes heard seat → Contains heard seat
  among heard seat g = subst (λ (xs : List SeatView). Contains xs seat) (sym g.1) (Contains-push g.0 seat)

  is_answer : (l : ScriptLine) (answer : ScriptAnswer) → IsHeard scheme own l answer → IsAnswer scheme (journal_of scheme (committed_by_all helds)) l answer
  is_answer l NotPossible h = h
  is_answer l (Answered told) h =
      let x = h.1 in
      let low : x.at < length (nodes scheme) = index_within scheme l.node x.at x.index in
      let held = some_at helds x.at (omega (arith, low, all)) in
      let s = seated l.node x.at held.0 x.seat x.index held.1 x.is in
      let journal = journal_at l.node x.at held.0 x.index held.1 in
      (h.0, subst (λ (js : List Input). IsBorne scheme l.node js (asked_by l.instruction) told) (sym journal) (borne scheme l.node held.0 s.heard x.seat s.settled (among s.heard x.seat s.gathers) (asked_by l.instruction) told x.heard))

  -- an order whose answer says that it is recorded is committed
  recorded_within : (n : Node) (held : StateView) (l : ScriptLine) (input : Input) (place : ℕ) → journal_of scheme (committed_by_all helds) n ≡ committed_records held → l.node ≡ n → asked_by l.instruction ≡ Take input
      → IsAnswer scheme (journal_of scheme (committed_by_all helds)) l (Answered (Step (Recorded place))) → place < held.committed
  recorded_within n held l input place journal here asked h =
      let at_line : IsRecordAt (journal_of scheme (committed_by_all helds) l.node) place (Take input) = subst (IsRecordAt (journal_of scheme (committed_by_all helds) l.node) place) asked h.1 in
      let at : slice_get (committed_records held) place ≡ Some input = ap (λ (js : List Input). slice_get js place) (sym (ap (journal_of scheme (committed_by_all helds)) here ∙ journal)) ∙ at_line in
      let low = slice_get_within (committed_records held) place input at in
      omega (arith, low, short held.committed held.journal)

  -- no thread has an order
  no_orders : (threads : List SeatView) → All (HasOnly Takes) threads → All HasNoOrder threads
  no_orders threads took = All-weaker (HasOnly Takes) HasNoOrder (λ s only. All-weaker (λ (t : Ticket). Takes t.input) (λ (t : Ticket). was_ordered t.input ≡ false) (λ t. unordered t.input) s.tickets only) threads took

  -- the records of each node that were not ordered are those of its threads
  pub other_records : (lines : List ScriptLine) (answers : List ScriptAnswer) → IsPlayed scheme lines answers own → HaveOthers Takes scheme helds
  other_records lines answers played n at held place is =
      let low : at < length (nodes scheme) = index_within scheme n at place in
      let seat = some_at own at (omega (arith, low, each)) in
      let s = seated n at held seat.0 place is seat.1 in
      others_taken held s.heard s.gathers.0 seat.0 s.settled.covers s.gathers.1 Takes s.gathers.2 (played.orders n at seat.0 place seat.1).ordered

  pub run_report : (lines : List ScriptLine) (answers : List ScriptAnswer) (first text : List ℕ) → IsPlayed scheme lines answers own → first ≡ answer_lines 1 answers → text ≡ first ++ table → IsRunReport scheme lines helds (first_undone 1 lines answers) text
  run_report lines answers first text played first_is text_is = record {
    answers = answers;
    table = table;
    borne = record { count = played.heard.count; each = borne_each };
    orders = λ n at held place is.
        let low : at < length (nodes scheme) = index_within scheme n at place in
        let seat = some_at own at (omega (arith, low, each)) in
        let s = seated n at held seat.0 place is seat.1 in
        committed_orders n held s.heard s.gathers.0 seat.0 lines answers s.settled.covers
        (All-contains Stood s.heard seat.0 s.settled.stood (among s.heard seat.0 s.gathers)) s.gathers.1 (no_orders s.gathers.0 s.gathers.2)
        (played.orders n at seat.0 place seat.1)
        (λ k l input at_place at_l at_a here asked. recorded_within n held l input at_place (journal_at n at held place is) here asked (borne_each k l (Answered (Step (Recorded at_place))) at_l at_a));
    is_table = r.is_table;
    spelled = text_is ∙ ap (λ (xs : List ℕ). xs ++ table) first_is;
    first = refl;
  }
    where
      borne_each : (k : ℕ) (l : ScriptLine) (answer : ScriptAnswer) → slice_get lines k ≡ Some l → slice_get answers k ≡ Some answer → IsAnswer scheme (journal_of scheme (committed_by_all helds)) l answer
      borne_each k l answer at_l at_a = is_answer l answer (played.heard.each k l answer at_l at_a)
