use Rattle.std.proofs.Common.{◌≡◌, ◌+◌, List, length, rules, sym, subst}
use Rattle.streams.specs.Inputs.{longest_input}
use Rattle.input_lines.proofs.LinesRead.{HasReadTo, is_none, is_some, read_all, read_more, stops_so}
use Rattle.input_lines.specs.ScriptLines.{IsScriptLine}
use Rattle.input_lines.specs.Scripts.{IsScriptFault}
use Rattle.input_lines.specs.declared.script_line.ScriptLine.{ScriptLine}
use Rattle.input_lines.proofs.ScriptsRead.{next_fault}
use Rattle.input_lines.proofs.script.lines_of.Goals as goal

pub returns-in_err-line-clause-err : goal.returns-in_err-line-clause-err
returns-in_err-line-clause-err c =
    let some = is_some c.loop-rest.rest.now c.loop-rest-test.ensures in
    let number : c.len.result + 1 ≡ length c.loop-rest.lines.items + 1 = search rules in
    stops_so (IsScriptFault c.args.bytes.now) c.in_err-line.field-0.0 c.from_residual.result c.from_residual.ensures.1
    (next_fault c.args.bytes.now c.loop-rest.rest.now c.loop-rest.room _ c.loop-rest.lines.items c.in_err-line.field-0.0 c.loop-rest.invariant some number c.in_err-line.ensures.err)

pub loop-rest-preserved : goal.loop-rest-preserved
loop-rest-preserved c =
    let line = c.in_ok-line.ensures.ok in
    subst (λ (done : List ScriptLine). HasReadTo IsScriptLine c.args.bytes.now longest_input c.in_ok-line.others.now c.in_ok-line.left done) (sym c.in_ok-push.ensures)
    (read_more IsScriptLine _ longest_input _ _ _ line.0 _ _ c.in_ok-line.line c.loop-rest.invariant line.1 line.2 line.3)

pub returns-clause-ok : goal.returns-clause-ok
returns-clause-ok c = read_all IsScriptLine _ longest_input _ _ _ c.loop-rest.invariant (is_none c.loop-rest.rest.now c.loop-rest-test.ensures)
