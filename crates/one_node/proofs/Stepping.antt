-- The result of one step of an operator.
use Rattle.std.proofs.Common.{◌≡◌, ◌∙◌, ◌<◌, ◌≤◌, ◌+◌, ℕ, List, [], ◌∷◌, ◌++◌, Option, Some, None, codes, length, Result, Ok, Err, IfOk, OnOk, refl, sym, ap, subst, inl, inr, arith, append-nil, append_assoc, length-append}
use Rattle.std.proofs.KnownBytes.{Appends-nil, Consumes-nil}
use Rattle.std.specs.Io.KnownBytes.{Appends, IsAtEnd, Keeps}
use Rattle.units.specs.Limits.{longest_line}
use Rattle.streams.specs.Lines.{stream_of}
use Rattle.units.specs.declared.code.Node.{Node}
use Rattle.streams.proofs.Streams.{free_join}
use Rattle.protocol.specs.Input.{Input}
use Rattle.protocol.specs.Input.TheVariants.{CleanUp}
use Rattle.protocol.specs.Moment.{Moment}
use Rattle.protocol.specs.Scheme.{Scheme}
use Rattle.node_state.specs.Views.{SeatView}
use Rattle.input_lines.specs.Instructions.{IsInstruction}
use Rattle.input_lines.specs.declared.instruction.Instruction.{Instruction}
use Rattle.input_lines.specs.declared.instruction.Instruction.TheVariants.{Order}
use Rattle.input_lines.specs.declared.script_line.ScriptLine.{ScriptLine}
use Rattle.serving.specs.Answers.{answer_line}
use Rattle.serving.specs.Heard.{HasHeard}
use Rattle.serving.specs.Orders.{HasOrders}
use Rattle.serving.specs.declared.answer.ScriptAnswer.{ScriptAnswer}
use Rattle.serving.specs.declared.answer.ScriptAnswer.TheVariants.{NotPossible, Told as Answered}
use Rattle.serving.proofs.Ordering.{has_unasked}
use Rattle.one_node.specs.Reading.{ReadsLine, ReadsOn, held_of}
use Rattle.command_faults.specs.declared.fault.OpFault.{OpFault}
use Rattle.one_node.specs.Operating.{AnswersExport, IsAnswered, AnswersLine, Asks, AwaitsExport, EndsThere, Hears, IsBegun, IsNext, IsOrdered, IsTimed, TakesLine, Talks}
use Rattle.one_node.specs.Turns.{AsksExport, IsAhead, IsCarried, IsTimely, IsTurn, Turn, Exported, Line, Timed, Unread, answers_of, answers_text, fault_line, line_to, lines_of, raw_lines}
use Rattle.one_node.specs.declared.answering.OperatorFault.{OperatorFault}
use Rattle.one_node.specs.declared.answering.OperatorFault.TheVariants as faults
use Rattle.one_node.specs.declared.operator.Next.{Next}
use Rattle.one_node.specs.declared.operator.Next.TheVariants.{On, Export, Stopped, End}
use Rattle.one_node.specs.declared.evidence.Evidence.{Evidence}
use Rattle.one_node.proofs.HeldLines.{held_again, held_short, held_whole, long_front}
use Rattle.one_node.proofs.Turning.{hears_asked, hears_none, hears_unasked}

-- what follows for a result from two properties of it
pub ok_both : {X E : Type 0} (P Q R : X → Type 0) (r : Result X E) → ((x : X) → P x → Q x → R x) → IfOk r P → IfOk r Q → IfOk r R
ok_both P Q R (Ok x) follows p q = follows x p q
ok_both P Q R (Err e) follows p q = tt

pub on_both : {X E P Q R : Type 0} (r : Result X E) → OnOk r P → OnOk r Q → (P → Q → R) → OnOk r R
on_both (Ok x) p q follows = follows p q
on_both (Err e) p q follows = tt

kept_bytes : (v w : Option (List ℕ)) → Keeps v w → Appends v w []
kept_bytes None w keeps = tt
kept_bytes (Some xs) None keeps = absurd keeps
kept_bytes (Some xs) (Some ys) keeps = keeps ∙ sym (append-nil xs)

-- a line that isn't too long is held as a whole
read_whole : (begun held mid bytes : List ℕ) → IsBegun held begun → mid ≡ held_of (held ++ bytes) → length (held ++ bytes) ≤ longest_line → mid ≡ begun ++ bytes
read_whole begun held mid bytes is mid_is low =
    let all = length-append held bytes in
    let short : length (held_of begun) ≤ longest_line = subst (λ (xs : List ℕ). length xs ≤ longest_line) is.held_is (omega (arith, all, low)) in
    let same : held ≡ begun = is.held_is ∙ held_whole begun (let fits = held_short begun short in omega (arith, fits)) in
    mid_is ∙ (held_whole (held ++ bytes) (omega (arith, low)) ∙ ap (λ (xs : List ℕ). xs ++ bytes) same)

pub begins : (held : List ℕ) → held ≡ [] → IsBegun held []
begins held is = record { held_is = is; none = tt }

module _ (scheme : Scheme) (n : Node) (tells : Moment → Type 0) (Holds : List ℕ → List Input → Type 0) where
  -- ---- the result of a line

  -- the turn of an order or a question
  line_turn : (raw : List ℕ) (i : Instruction) (a : ScriptAnswer) (e : Evidence) (new : SeatView) → IsInstruction raw i → IsTimely tells i → Asks scheme n i e.seat new a → Hears scheme n tells Holds e (Line raw i a ∷ []) (record e { seat = new })
  line_turn raw i NotPossible e new writes timely asks =
      subst (λ (seat : SeatView). Hears scheme n tells Holds e (Line raw i NotPossible ∷ []) (record e { seat = seat })) (sym asks.1)
      (hears_unasked scheme n tells Holds e (Line raw i NotPossible) (λ seat. (writes, asks.0, timely)) (λ ls given seat len has. has_unasked scheme n ls given (line_to n i) len seat has))
  line_turn raw i (Answered told) e new writes timely asks =
      hears_asked scheme n tells Holds e new i told (Line raw i (Answered told)) asks.1 asks.0 refl refl (λ seat h. (writes, (asks.0, h), timely))

  pub line_answered : (held after text : List ℕ) (v w : Option (List ℕ)) (count counted : ℕ) (e : Evidence) (new : SeatView) (i : Instruction) (a : ScriptAnswer)
      → IsInstruction held i → Asks scheme n i e.seat new a → IsTimely tells i
      → Appends v w text → text ≡ answer_line (count + 1) a → counted ≡ count + 1 → after ≡ [] → AnswersLine scheme n tells Holds held v w count counted e (record e { seat = new }) after
  line_answered held after text v w count counted e new i a writes asks timely written text_is one begun = record {
    turn = Line held i a;
    raw = refl;
    answered = record { written = subst (Appends v w) (text_is ∙ sym (append-nil (answer_line (count + 1) a))) written; counts = one };
    hears = line_turn held i a e new writes timely asks;
    begins = begun;
  }

  none_asked : (ls : List ScriptLine) (given : List ScriptAnswer) (seat : SeatView) → HasOrders n ls given seat → HasOrders n (ls ++ []) (given ++ []) seat
  none_asked ls given seat has = subst (λ (xs : List ScriptLine). HasOrders n xs (given ++ []) seat) (sym (append-nil ls)) (subst (λ (xs : List ScriptAnswer). HasOrders n ls xs seat) (sym (append-nil given)) has)

  unread : (raw : List ℕ) (fault : OperatorFault) (v w : Option (List ℕ)) (count counted : ℕ) (e : Evidence) (after : List ℕ) → ((seat : SeatView) → IsTurn scheme n (HasHeard seat) tells (IsCarried Holds e.replica.journal) (Unread raw fault))
      → Appends v w (fault_line (count + 1) fault) → counted ≡ count + 1 → after ≡ [] → AnswersLine scheme n tells Holds raw v w count counted e e after
  unread raw fault v w count counted e after is written one begun = record {
    turn = Unread raw fault;
    raw = refl;
    answered = record { written = subst (Appends v w) (sym (append-nil (fault_line (count + 1) fault))) written; counts = one };
    hears = hears_unasked scheme n tells Holds e (Unread raw fault) is (λ ls given seat len has. none_asked ls given seat has);
    begins = begun;
  }

  pub line_refused : (held after : List ℕ) (v w : Option (List ℕ)) (count counted : ℕ) (e : Evidence) → ((i : Instruction) → IsInstruction held i → ⊥)
      → Appends v w (fault_line (count + 1) faults.Order) → counted ≡ count + 1 → after ≡ [] → AnswersLine scheme n tells Holds held v w count counted e e after
  line_refused held after v w count counted e none written one begun = unread held faults.Order v w count counted e after (λ seat. none) written one begun

  pub line_ahead : (held after : List ℕ) (v w : Option (List ℕ)) (count counted : ℕ) (e : Evidence) (i : Instruction) → IsInstruction held i → IsAhead tells i
      → Appends v w (fault_line (count + 1) faults.Moment) → counted ≡ count + 1 → after ≡ [] → AnswersLine scheme n tells Holds held v w count counted e e after
  line_ahead held after v w count counted e i writes ahead written one begun = unread held faults.Moment v w count counted e after (λ seat. (i, writes, ahead)) written one begun

  -- a turn of a line that was read before
  one_talks : (line : List ℕ) (t : Turn) (r v w : Option (List ℕ)) (count counted : ℕ) (e : Evidence) → raw_lines (t ∷ []) ≡ line ∷ [] → Hears scheme n tells Holds e (t ∷ []) e → IsAnswered count v w (t ∷ []) counted → Talks scheme n tells Holds (line ++ 10 ∷ []) r r v w count counted e e []
  one_talks line t r v w count counted e raw hears answered = record {
    turns = t ∷ [];
    read = record { read = []; consumed = Consumes-nil r; lines = append-nil (line ++ 10 ∷ []) ∙ ap (λ (ls : List (List ℕ)). stream_of ls []) (sym raw) };
    answered = answered;
    hears = hears;
  }

  -- the result of a line that asks for an export, which was held
  pub export_talks : (line : List ℕ) (r v w : Option (List ℕ)) (count counted : ℕ) (e : Evidence) → AnswersExport Holds e.replica.journal line v w count counted → Talks scheme n tells Holds (line ++ 10 ∷ []) r r v w count counted e e []
  export_talks line r v w count counted e (inl done) =
      one_talks line (Exported line done.0) r v w count counted e refl (hears_unasked scheme n tells Holds e (Exported line done.0) (λ seat. done.1) (λ ls given seat len has. none_asked ls given seat has)) done.2
  export_talks line r v w count counted e (inr failed) =
      one_talks line (Unread line faults.Export) r v w count counted e refl (hears_unasked scheme n tells Holds e (Unread line faults.Export) (λ seat. failed.0) (λ ls given seat len has. none_asked ls given seat has)) failed.1

  -- ---- a step

  pub line_talks : (begun held mid bytes after : List ℕ) (r s v w : Option (List ℕ)) (count counted : ℕ) (old new : Evidence) → IsBegun held begun → ReadsLine held mid r s bytes → length (held ++ bytes) ≤ longest_line
      → AnswersLine scheme n tells Holds mid v w count counted old new after → (left : List ℕ) × Talks scheme n tells Holds begun r s v w count counted old new left × IsNext after s left On
  line_talks begun held mid bytes after r s v w count counted old new is reads low answers =
      let whole = read_whole begun held mid bytes is reads.held low in (
        [],
        record {
          turns = answers.turn ∷ [];
          read = record {
            read = bytes ++ 10 ∷ [];
            consumed = reads.consumed;
            lines = sym (append_assoc begun bytes (10 ∷ [])) ∙ ap (λ (ls : List (List ℕ)). stream_of ls []) (ap (λ (x : List ℕ). x ∷ []) (sym whole) ∙ sym answers.raw);
          };
          answered = answers.answered;
          hears = answers.hears;
        },
        begins after answers.begins,
      )

  -- a line was read that isn't a turn yet
  held_talks : (begun held mid bytes line : List ℕ) (r s v w : Option (List ℕ)) (count counted : ℕ) (old new : Evidence) → IsBegun held begun → ReadsLine held mid r s bytes → length (held ++ bytes) ≤ longest_line
      → mid ≡ line → Keeps v w → counted ≡ count → new ≡ old → Talks scheme n tells Holds begun r s v w count counted old new (line ++ 10 ∷ [])
  held_talks begun held mid bytes line r s v w count counted old new is reads low mid_is unwritten uncounted same =
      let whole = read_whole begun held mid bytes is reads.held low in
      record {
        turns = [];
        read = record {
          read = bytes ++ 10 ∷ [];
          consumed = reads.consumed;
          lines = sym (append_assoc begun bytes (10 ∷ [])) ∙ ap (λ (x : List ℕ). x ++ 10 ∷ []) (sym whole ∙ mid_is);
        };
        answered = record { written = kept_bytes v w unwritten; counts = omega (arith, uncounted) };
        hears = subst (λ (e : Evidence). Hears scheme n tells Holds old [] e) (sym same) (hears_none scheme n tells Holds old);
      }

  pub end_talks : (begun held mid bytes after : List ℕ) (r s v w : Option (List ℕ)) (count counted : ℕ) (old new : Evidence) → IsBegun held begun → ReadsLine held mid r s bytes → length (held ++ bytes) ≤ longest_line
      → EndsThere scheme n tells Holds mid v w count counted old new after → (left : List ℕ) × Talks scheme n tells Holds begun r s v w count counted old new left × IsNext after s left End
  end_talks begun held mid bytes after r s v w count counted old new is reads low ends =
      (codes "stop" ++ 10 ∷ [], held_talks begun held mid bytes (codes "stop") r s v w count counted old new is reads low ends.asks ends.unwritten ends.uncounted ends.same, inl refl)

  export_awaited : (begun held mid bytes after : List ℕ) (r s v w : Option (List ℕ)) (count counted : ℕ) (old new : Evidence) → IsBegun held begun → ReadsLine held mid r s bytes → length (held ++ bytes) ≤ longest_line
      → AwaitsExport scheme n tells Holds mid v w count counted old new after → (left : List ℕ) × Talks scheme n tells Holds begun r s v w count counted old new left × IsNext after s left Export
  export_awaited begun held mid bytes after r s v w count counted old new is reads low waits =
      (after ++ 10 ∷ [], held_talks begun held mid bytes after r s v w count counted old new is reads low (sym waits.holds) waits.unwritten waits.uncounted waits.same, (refl, subst AsksExport (sym waits.holds) waits.asks))

  pub long_talks : (begun held mid bytes after : List ℕ) (r s v w : Option (List ℕ)) (count counted : ℕ) (e : Evidence) → IsBegun held begun → ReadsLine held mid r s bytes → longest_line < length (held ++ bytes)
      → Appends v w (fault_line (count + 1) faults.TooLong) → counted ≡ count + 1 → after ≡ [] → (left : List ℕ) × Talks scheme n tells Holds begun r s v w count counted e e left × IsNext after s left On
  unfolding unread
  long_talks begun held mid bytes after r s v w count counted e is reads long written one begun_anew =
      let shorter = front_length begun in
      let long_whole : longest_line < length (begun ++ bytes) = omega (arith, long, length-append held bytes, length-append begun bytes, ap length is.held_is, shorter) in
      let answers = unread (begun ++ bytes) faults.TooLong v w count counted e after (λ seat. long_whole) written one begun_anew in (
        [],
        record {
          turns = answers.turn ∷ [];
          read = record { read = bytes ++ 10 ∷ []; consumed = reads.consumed; lines = sym (append_assoc begun bytes (10 ∷ [])) };
          answered = answers.answered;
          hears = answers.hears;
        },
        begins after begun_anew,
      )
    where
      front_length : (xs : List ℕ) → length (held_of xs) ≤ length xs
      front_length xs = long_front (longest_line + 1) xs

  -- nothing was asked, and more of a line was read
  pub quiet_talks : (begun held mid bytes : List ℕ) (r s v : Option (List ℕ)) (count : ℕ) (e : Evidence) → IsBegun held begun → ReadsOn held mid r s bytes
      → Talks scheme n tells Holds begun r s v v count count e e (begun ++ bytes) × IsBegun mid (begun ++ bytes)
  quiet_talks begun held mid bytes r s v count e is reads = (
    record {
      turns = [];
      read = record { read = bytes; consumed = reads.consumed; lines = refl };
      answered = record { written = Appends-nil v; counts = omega arith };
      hears = hears_none scheme n tells Holds e;
    },
    record {
      held_is = reads.held ∙ (ap (λ (xs : List ℕ). held_of (xs ++ bytes)) is.held_is ∙ held_again begun bytes);
      none = free_join begun bytes is.none reads.none;
    },
  )

  -- turns for which no line was read and nothing was written
  silent_talks : (begun : List ℕ) (r v : Option (List ℕ)) (count : ℕ) (old new : Evidence) (turns : List Turn) → raw_lines turns ≡ [] → ((number : ℕ) → answers_text number turns ≡ []) → Hears scheme n tells Holds old turns new
      → Talks scheme n tells Holds begun r r v v count count old new begun
  silent_talks begun r v count old new turns unread_turns silent hears = record {
    turns = turns;
    read = record { read = []; consumed = Consumes-nil r; lines = append-nil begun ∙ ap (λ (ls : List (List ℕ)). stream_of ls begun) (sym unread_turns) };
    answered = record { written = subst (Appends v v) (sym (silent (count + 1))) (Appends-nil v); counts = omega (arith, ap length unread_turns) };
    hears = hears;
  }

  -- the clock ordered a clean-up, or there was nothing to order
  pub clock_talks : (begun held : List ℕ) (r v : Option (List ℕ)) (count : ℕ) (e : Evidence) (new : SeatView) → IsBegun held begun → IsTimed scheme n tells e.seat new
      → (left : List ℕ) × Talks scheme n tells Holds begun r r v v count count e (record e { seat = new }) left × IsNext held r left On
  clock_talks begun held r v count e new is (inl same) =
      (begun, silent_talks begun r v count e (record e { seat = new }) [] refl (λ number. refl) (subst (λ (seat : SeatView). Hears scheme n tells Holds e [] (record e { seat = seat })) (sym same) (hears_none scheme n tells Holds e)), is)
  clock_talks begun held r v count e new is (inr ordered) = (
    begun,
    silent_talks begun r v count e (record e { seat = new }) (Timed ordered.moment ordered.told ∷ []) refl (λ number. refl)
        (hears_asked scheme n tells Holds e new (Order (CleanUp ordered.moment)) ordered.told (Timed ordered.moment ordered.told) ordered.asked ordered.possible refl refl (λ seat h. (ordered.log, ordered.tells_it, h))),
    is,
  )

  -- a line that isn't too long was read, and taken
  pub line_step : (begun held mid bytes after : List ℕ) (r s v w : Option (List ℕ)) (count counted : ℕ) (old new : Evidence) (result : Result Next OpFault) → IsBegun held begun → ReadsLine held mid r s bytes → length (held ++ bytes) ≤ longest_line
      → IfOk result (λ next. TakesLine scheme n tells Holds mid v w count counted old new after next) → IfOk result (λ next. (left : List ℕ) × Talks scheme n tells Holds begun r s v w count counted old new left × IsNext after s left next)
  line_step begun held mid bytes after r s v w count counted old new (Ok On) is reads low takes = line_talks begun held mid bytes after r s v w count counted old new is reads low takes
  line_step begun held mid bytes after r s v w count counted old new (Ok Export) is reads low takes = export_awaited begun held mid bytes after r s v w count counted old new is reads low takes
  line_step begun held mid bytes after r s v w count counted old new (Ok Stopped) is reads low takes = absurd takes
  line_step begun held mid bytes after r s v w count counted old new (Ok End) is reads low takes = end_talks begun held mid bytes after r s v w count counted old new is reads low takes
  line_step begun held mid bytes after r s v w count counted old new (Err fault) is reads low takes = tt

  -- the stream has ended
  pub last_talks : (begun held mid bytes : List ℕ) (r s v : Option (List ℕ)) (count : ℕ) (e : Evidence) → IsBegun held begun → ReadsOn held mid r s bytes → IsAtEnd s
      → (left : List ℕ) × Talks scheme n tells Holds begun r s v v count count e e left × IsNext mid s left End
  last_talks begun held mid bytes r s v count e is reads ended =
      let quiet = quiet_talks begun held mid bytes r s v count e is reads in
      (begun ++ bytes, quiet.0, inr (ended, quiet.1.none))
