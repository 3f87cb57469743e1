use Rattle.std.proofs.Common.{◌≡◌, ◌<◌, ℕ, List, length, take, Option, Result, Ok, Err, IfErr, subst, sym, ◌∙◌, string_bytes}
use Rattle.std.specs.Result.{IsErrAnd}
use Rattle.std.specs.Io.KnownBytes.{Appends}
use Rattle.scheme.specs.declared.registries.Scheme.{Scheme}
use Rattle.protocol.specs.declared.event.WorldEvent.{WorldEvent}
use Rattle.command_faults.specs.declared.fault.OpFault.{OpFault}
use Rattle.command_faults.specs.declared.fault.OpFault.TheVariants.{Write}
use Rattle.event_reports.specs.Rehearsal.{FailsSo, IsRehearsal, Reports}
use Rattle.streams.specs.Inputs.{Takes}
use Rattle.event_reports.proofs.reporting.report_input.Goals as goal

-- the report on the input that was read
reported : (IsText : Scheme → List WorldEvent → List ℕ → Type 0) (r s : Option (List ℕ)) (input slice text : List ℕ) → Takes r s input → slice ≡ input → (scheme : Scheme) × (events : List WorldEvent) × IsRehearsal slice scheme events × IsText scheme events text → Reports IsText r s text
reported IsText r s input slice text taken same told =
    record { input = input; taken = taken; scheme = told.0; events = told.1; is = subst (λ bytes. IsRehearsal bytes told.0 told.1) same told.2; report = told.3 }

pub returns-clause-ok : goal.returns-clause-ok
returns-clause-ok g c =
    let text = string_bytes c.in_ok-text.text in
    let same : c.as_bytes.result.now ≡ text = c.as_bytes.ensures.value ∙ c.as_str.ensures.value in (
      text,
      reported g.T.Reporter.is_report (g.R.Read.remaining c.args.reader.now) (g.R.Read.remaining c.read_input.new.reader) c.in_ok-input.input.items c.as_slice.result.now text c.in_ok-input.ensures.ok c.as_slice.ensures.value c.in_ok-text.ensures.ok,
      subst (Appends (g.W.Write.contents c.args.writer.now) (g.W.Write.contents c.write_text.new.writer)) same c.in_ok-write_text.ensures.ok,
    )

-- a fault of the writer, after a part of the text
failed : {T : Type 0} (IsText : Scheme → List WorldEvent → List ℕ → Type 0) (r s v w : Option (List ℕ)) (text bytes : List ℕ) (count : ℕ) (result : Result T OpFault) → IsErrAnd result (λ e. e ≡ Write count)
    → Reports IsText r s text → bytes ≡ text → count < length bytes → Appends v w (take count bytes) → IfErr result (λ e. FailsSo IsText e r s v w)
failed IsText r s v w text bytes count (Ok t) is told same short wrote = tt
failed IsText r s v w text bytes count (Err e) is told same short wrote =
    subst (λ (f : OpFault). FailsSo IsText f r s v w) (sym is) (text, told, subst (λ (b : List ℕ). count < length b) same short, subst (λ (b : List ℕ). Appends v w (take count b)) same wrote)

pub returns-in_err-write_text-clause-err : goal.returns-in_err-write_text-clause-err
returns-in_err-write_text-clause-err g c =
    let text = string_bytes c.in_ok-text.text in
    let same : c.as_bytes.result.now ≡ text = c.as_bytes.ensures.value ∙ c.as_str.ensures.value in
    failed g.T.Reporter.is_report (g.R.Read.remaining c.args.reader.now) (g.R.Read.remaining c.read_input.new.reader) (g.W.Write.contents c.args.writer.now) (g.W.Write.contents c.write_text.new.writer) text c.as_bytes.result.now
    c.in_err-write_text.field-0.0.written c.from_residual-in_err-write_text.result c.from_residual-in_err-write_text.ensures.1
    (reported g.T.Reporter.is_report (g.R.Read.remaining c.args.reader.now) (g.R.Read.remaining c.read_input.new.reader) c.in_ok-input.input.items c.as_slice.result.now text c.in_ok-input.ensures.ok c.as_slice.ensures.value c.in_ok-text.ensures.ok)
    same c.in_err-write_text.ensures.short c.in_err-write_text.ensures.err
