use Rattle.std.proofs.Common.{◌∙◌, ap}
use Rattle.serving.specs.Answers.{answer_lines, first_undone}
use Rattle.ended_nodes.specs.Ended.{states_in, stored_in}
use Rattle.run.proofs.Written.{fails_in_report, fails_late, report_with}
use Rattle.run.proofs.running.write_run.Goals as goal

pub returns-in-Ok-write_out-clause-ok : goal.returns-in-Ok-write_out-clause-ok
returns-in-Ok-write_out-clause-ok g c =
    let told = c.as_slice-told.ensures.value in
    let answers = c.as_str.ensures.value ∙ (c.in-Ok.ensures ∙ ap (answer_lines 1) told) in
    let undone = c.first_undone-undone.ensures ∙ ap (first_undone 1 c.args.script.now.lines.now) told in
    let report = (c.in-Ok-whole_of.ensures.ok c.args.script.now.lines.now c.args.run.answers.items c.requires.played answers).0 in (
      c.as_str-in-Ok-whole_of.result.now,
      report_with c.args.script.now.scheme.now c.args.script.now.lines.now (states_in c.in-Ok-whole_of.field-0.ended.items) _ _ _ _ undone c.as_str-in-Ok-whole_of.ensures.value report,
      c.in-Ok-write_out.ensures.ok,
    )

pub returns-in-Ok-write_out-clause-others : goal.returns-in-Ok-write_out-clause-others
returns-in-Ok-write_out-clause-others g c =
    let answers = c.as_str.ensures.value ∙ (c.in-Ok.ensures ∙ ap (answer_lines 1) c.as_slice-told.ensures.value) in
    (c.in-Ok-whole_of.ensures.ok c.args.script.now.lines.now c.args.run.answers.items c.requires.played answers).1

pub returns-in-Ok-whole_of-clause-err : goal.returns-in-Ok-whole_of-clause-err
returns-in-Ok-whole_of-clause-err g c =
    let told = c.as_slice-told.ensures.value in
    let answers = c.as_str.ensures.value ∙ (c.in-Ok.ensures ∙ ap (answer_lines 1) told) in
    let undone = c.first_undone-undone.ensures ∙ ap (first_undone 1 c.args.script.now.lines.now) told in
    let report = (c.in-Ok-whole_of.ensures.ok c.args.script.now.lines.now c.args.run.answers.items c.requires.played answers).0 in
    fails_in_report g.S.NodeStore g.K.Opening.opened c.args.script.now.scheme.now c.args.script.now.lines.now _ _ (stored_in c.in-Ok-whole_of.field-0.ended.items) _ c.as_str-in-Ok-whole_of.result.now c.in-Err-write_out.unwritten c.in-Ok-whole_of.ensures.ended
    (report_with c.args.script.now.scheme.now c.args.script.now.lines.now (states_in c.in-Ok-whole_of.field-0.ended.items) _ _ _ _ undone c.as_str-in-Ok-whole_of.ensures.value report) c.in-Err-write_out.ensures.err

pub returns-in-Ok-write_out-2-clause-err : goal.returns-in-Ok-write_out-2-clause-err
returns-in-Ok-write_out-2-clause-err g c =
    let answers = c.as_str-in-Err.ensures.value ∙ (c.in-Ok.ensures ∙ ap (answer_lines 1) c.as_slice-told.ensures.value) in
    fails_late g.S.NodeStore g.K.Opening.opened c.args.script.now.scheme.now c.args.script.now.lines.now _ _ c.args.run.answers.items c.args.run.nodes.script.items c.requires.played.heard c.as_str-in-Err.result.now answers c.in-Err.fault c.in-Err.ensures.err c.in-Ok-write_out-2.ensures.ok
