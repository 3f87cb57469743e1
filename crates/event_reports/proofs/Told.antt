-- The events that a reporter was given, and the faults of their lines.
use Rattle.std.proofs.Common.{◌≡◌, ℕ, ◌+◌, ◌<◌, ◌≤◌, List, [], ◌∷◌, ◌++◌, length, inl, inr, Result, Ok, Err, IfErr, sym, ap, subst, arith, length-append}
use Rattle.std.specs.Result.{IsErrAnd}
use Rattle.scheme.specs.declared.registries.Scheme.{Scheme}
use Rattle.scheme.specs.Text.{IsSchemeText}
use Rattle.streams.specs.Inputs.{longest_input}
use Rattle.protocol.specs.declared.event.WorldEvent.{WorldEvent}
use Rattle.command_faults.specs.declared.fault.OpFault.{OpFault}
use Rattle.command_faults.specs.declared.fault.OpFault.TheVariants.{Input, Read, Write, Store, Stuck, Unsettled, Setup, Undone, NoMemory}
use Rattle.input_lines.specs.EventLines.{IsEventLine}
use Rattle.input_lines.specs.Lines.{IsLine, IsNextFault, room_after}
use Rattle.command_faults.specs.SchemeFile.{IsSchemeLineFault}
use Rattle.input_lines.proofs.LinesRead.{HasReadTo, read_all, read_fault, read_more}
use Rattle.event_reports.specs.Rehearsal.{AreEvents, IsLinesFault, IsEarlyFault}

-- the state of the loop: the events so far, which the reporter was given
pub record Told (WasTold : List WorldEvent → Type 0) (lines : List ℕ) (all : ℕ) (rest : List ℕ) (room number : ℕ) : Type 0 where
  pub done : List WorldEvent
  pub count : number ≡ length done
  pub few : number + length rest ≤ length lines
  pub told : WasTold done
  pub read : HasReadTo IsEventLine lines all rest room done

pub told_more : (Was Is : List WorldEvent → Type 0) (lines : List ℕ) (all : ℕ) (rest : List ℕ) (room number : ℕ) (words others : List ℕ) (left : ℕ) (e : WorldEvent)
    → (told : Told Was lines all rest room number) → IsLine rest room words others → IsEventLine words e → left ≡ room_after room words
    → ((es : List WorldEvent) → Was es → number + 1 ≡ length es + 1 → Is (es ++ e ∷ [])) → Told Is lines all others left (number + 1)
told_more Was Is lines all rest room number words others left e told line event is tells =
    let read = read_more IsEventLine lines all rest room told.done words others left e told.read line event is in
    let sum = length-append told.done (e ∷ []) in
    record {
      done = told.done ++ e ∷ [];
      count = omega (arith, told.count);
      few = omega (arith, told.count, read.few);
      told = tells told.done told.told (ap (λ k. k + 1) told.count);
      read = read;
    }

-- ---- the end

pub next_fault : (Was : List WorldEvent → Type 0) (lines : List ℕ) (all : ℕ) (rest : List ℕ) (room number : ℕ) (f : OpFault) → Told Was lines all rest room number → 0 < length rest
    → IsNextFault IsEventLine rest room (number + 1 + 1) f → IsLinesFault lines all f
next_fault Was lines all rest room number (Input line cause) told some wrong =
    (length told.done, omega (arith, wrong.0, told.count), read_fault IsEventLine lines all rest room told.done cause told.read (some, wrong.1))
next_fault Was lines all rest room number NoMemory told some wrong = tt
next_fault Was lines all rest room number Read told some wrong = absurd wrong
next_fault Was lines all rest room number (Write count) told some wrong = absurd wrong
next_fault Was lines all rest room number (Store node fault) told some wrong = absurd wrong
next_fault Was lines all rest room number (Stuck node place) told some wrong = absurd wrong
next_fault Was lines all rest room number (Unsettled node) told some wrong = absurd wrong
next_fault Was lines all rest room number (Setup fault) told some wrong = absurd wrong
next_fault Was lines all rest room number (Undone line) told some wrong = absurd wrong

pub told_all : (Was : List WorldEvent → Type 0) (lines : List ℕ) (all : ℕ) (rest : List ℕ) (room number : ℕ) → Told Was lines all rest room number → length rest ≡ 0
    → (events : List WorldEvent) × AreEvents lines all events × Was events
told_all Was lines all rest room number told none =
    (told.done, read_all IsEventLine lines all rest room told.done told.read none, told.told)

-- ---- the whole input

pub early : (input first lines : List ℕ) (scheme : Scheme) (f : OpFault) → IsLine input longest_input first lines → IsSchemeText first scheme
    → IsLinesFault lines (room_after longest_input first) f → IsEarlyFault input f
early input first lines scheme (Input line cause) begins is wrong =
    inr (record { first = first; lines = lines; scheme = scheme; good = wrong.0; begins = begins; scheme_is = is; number = wrong.1; fault = wrong.2 })
early input first lines scheme NoMemory begins is wrong = tt
early input first lines scheme Read begins is wrong = absurd wrong
early input first lines scheme (Write count) begins is wrong = absurd wrong
early input first lines scheme (Store node fault) begins is wrong = absurd wrong
early input first lines scheme (Stuck node place) begins is wrong = absurd wrong
early input first lines scheme (Unsettled node) begins is wrong = absurd wrong
early input first lines scheme (Setup fault) begins is wrong = absurd wrong
early input first lines scheme (Undone line) begins is wrong = absurd wrong

pub early_too : {T : Type 0} (input first lines : List ℕ) (scheme : Scheme) (r : Result T OpFault) → IsLine input longest_input first lines → IsSchemeText first scheme
    → IfErr r (IsLinesFault lines (room_after longest_input first)) → IfErr r (IsEarlyFault input)
early_too input first lines scheme (Ok t) begins is wrong = tt
early_too input first lines scheme (Err f) begins is wrong = early input first lines scheme f begins is wrong

scheme_early : (input first lines : List ℕ) (f : OpFault) → IsLine input longest_input first lines → IsSchemeLineFault first f → IsEarlyFault input f
scheme_early input first lines (Input line cause) begins wrong = inl (record { number = wrong.0; fault = inr (first, lines, begins, wrong.1) })
scheme_early input first lines NoMemory begins wrong = tt
scheme_early input first lines Read begins wrong = absurd wrong
scheme_early input first lines (Write count) begins wrong = absurd wrong
scheme_early input first lines (Store node fault) begins wrong = absurd wrong
scheme_early input first lines (Stuck node place) begins wrong = absurd wrong
scheme_early input first lines (Unsettled node) begins wrong = absurd wrong
scheme_early input first lines (Setup fault) begins wrong = absurd wrong
scheme_early input first lines (Undone line) begins wrong = absurd wrong

pub scheme_too : {T : Type 0} (input first lines : List ℕ) (f : OpFault) (r : Result T OpFault) → IsErrAnd r (λ e. e ≡ f) → IsLine input longest_input first lines → IsSchemeLineFault first f → IfErr r (IsEarlyFault input)
scheme_too input first lines f (Ok t) same begins wrong = tt
scheme_too input first lines f (Err e) same begins wrong = subst (IsEarlyFault input) (sym same) (scheme_early input first lines f begins wrong)
