use Rattle.std.proofs.Common.{sym, subst, ◌∙◌}
use Rattle.std.specs.Io.KnownBytes.{Appends}
use Rattle.std.proofs.KnownBytes.{Appends-trans}
use Rattle.command_faults.specs.declared.fault.OpFault.{OpFault}
use Rattle.show.specs.Pages.{FailsWithin}
use Rattle.show.specs.Show.{FailsToShow, record_lines}
use Rattle.report.specs.ReportLines.{end_line}
use Rattle.show.proofs.Pages.{passed-on, read-twice}
use Rattle.show.proofs.ShowFaults.{fails-second, fails-last}
use Rattle.show.proofs.showing.show.Goals as goal

pub returns-in_err-written-clause-err : goal.returns-in_err-written-clause-err
returns-in_err-written-clause-err g c =
    let s = g.S.NodeStore in
    let new = c.write_records.new.store in
    let v = g.W.Write.contents c.args.writer.now in
    let w = g.W.Write.contents c.write_records.new.writer in
    let e = c.in_err-written.field-0.0 in
    let first = c.in-Ok.ensures.ok in
    let stops = c.in_err-written.ensures.stops in
    passed-on (λ (e : OpFault). FailsToShow c.args.form e c.args.node (s.is_honest new) (s.content c.args.store.now) v w) e c.from_residual.result c.from_residual.ensures.1
    (fails-second c.args.form e c.args.node c.in-Ok.count (s.is_honest new) (s.content c.count_records.new.store) (s.content c.args.store.now) v w first.0 c.in_err-written.ensures.err
    (λ h. first.2.kept (stops.1.honest h)) (λ h. first.3 (stops.1.honest h)) first.1)

pub returns-in_err-write_more-clause-err : goal.returns-in_err-write_more-clause-err
returns-in_err-write_more-clause-err g c =
    let s = g.S.NodeStore in
    let old = c.args.store.now in
    let mid = c.count_records.new.store in
    let new = c.write_records.new.store in
    let v = g.W.Write.contents c.args.writer.now in
    let x = g.W.Write.contents c.write_records.new.writer in
    let w = g.W.Write.contents c.write_more.new.writer in
    let e = c.in_err-write_more.field-0.0 in
    let first = c.in-Ok.ensures.ok in
    let second = c.in_ok-written.ensures.ok in
    let are = read-twice s old mid new first.0 second.inputs first.2 first.3 second.reads (second.many ∙ sym first.1) in
    passed-on (λ (e : OpFault). FailsToShow c.args.form e c.args.node (s.is_honest new) (s.content old) v w) e c.from_residual-in_err-write_more.result c.from_residual-in_err-write_more.ensures.1
    (fails-last c.args.form e c.args.node c.in_ok-written.written (s.is_honest new) (s.content old) v x w second.inputs (subst (λ t. FailsWithin e c.in_ok-written.written t x w) c.end_line.ensures c.in_err-write_more.ensures.err) are second.size second.lines)

pub returns-clause-ok : goal.returns-clause-ok
returns-clause-ok g c =
    let s = g.S.NodeStore in
    let new = c.write_records.new.store in
    let v = g.W.Write.contents c.args.writer.now in
    let x = g.W.Write.contents c.write_records.new.writer in
    let w = g.W.Write.contents c.write_more.new.writer in
    let first = c.in-Ok.ensures.ok in
    let second = c.in_ok-written.ensures.ok in (
      second.inputs,
      read-twice s c.args.store.now c.count_records.new.store new first.0 second.inputs first.2 first.3 second.reads (second.many ∙ sym first.1),
      Appends-trans v x w (record_lines c.args.form 0 second.inputs) (end_line c.args.form) second.lines (subst (Appends x w) c.end_line.ensures c.in_ok-write_more.ensures.ok.1),
    )
