use Rattle.std.proofs.Common.{ℕ, List, map, string_bytes, subst}
use Rattle.std.specs.Io.KnownBytes.{Appends}
use Rattle.std.specs.Prelude.{String}
use Rattle.std.specs.declared.alloc.Global.{Global}
use Rattle.command_faults.specs.declared.fault.OpFault.{OpFault}
use Rattle.ended_nodes.proofs.Reporting.{if_err, on_ok}
use Rattle.explain.specs.Topics.{Explains, FailsToExplain}
use Rattle.commands.specs.Commands.{AuditsTo, FailsToAuditTo, FailsToListFolder, FailsToRunFolder, FailsToShowNode, FailsToTraceFolder, ListsFolder, RunsFolder, ShowsNode, TracesFolder}
use Rattle.commands.proofs.performing.perform.Goals as goal

pub returns-in-Show-clause-ok : goal.returns-in-Show-clause-ok
returns-in-Show-clause-ok g c =
    let a = c.to_read in
    let path = c.as_str in
    let folder = c.as_str-in-Show in
    let node = c.as_str-in-Show-2 in
    let does = λ (path : List ℕ) (folder : List ℕ) (node : List ℕ). ShowsNode g.A.Archive a.result g.A.File.Read.remaining g.A.Store.NodeStore c.in-Show.form path folder node (g.W.Write.contents c.args.writer.now) (g.W.Write.contents c.show_node.new.writer) in
    on_ok c.show_node.result (λ h. rw c.in-Show.is (a.result, a.ensures, (subst (λ x. does (string_bytes c.in-Show.scheme) (string_bytes c.in-Show.folder) x) node.ensures.value (subst (λ x. does (string_bytes c.in-Show.scheme) x node.result.now) folder.ensures.value (subst (λ x. does x folder.result.now node.result.now) path.ensures.value h))))) c.show_node.ensures.ok

pub returns-in-Show-clause-err : goal.returns-in-Show-clause-err
returns-in-Show-clause-err g c =
    let a = c.to_read in
    let path = c.as_str in
    let folder = c.as_str-in-Show in
    let node = c.as_str-in-Show-2 in
    let fails = λ (path : List ℕ) (folder : List ℕ) (node : List ℕ) (e : OpFault). FailsToShowNode g.A.Archive a.result g.A.File.Read.remaining g.A.Store.NodeStore c.in-Show.form path folder node e (g.W.Write.contents c.args.writer.now) (g.W.Write.contents c.show_node.new.writer) in
    if_err {P = fails path.result.now folder.result.now node.result.now} c.show_node.result (λ e h. rw c.in-Show.is (a.result, a.ensures, (subst (λ x. fails (string_bytes c.in-Show.scheme) (string_bytes c.in-Show.folder) x e) node.ensures.value (subst (λ x. fails (string_bytes c.in-Show.scheme) x node.result.now e) folder.ensures.value (subst (λ x. fails x folder.result.now node.result.now e) path.ensures.value h))))) c.show_node.ensures.err

pub returns-in-Audit-clause-ok : goal.returns-in-Audit-clause-ok
returns-in-Audit-clause-ok g c =
    let a = c.to_read-in-Audit in
    let path = c.as_str-in-Audit in
    let folder = c.as_str-in-Audit-2 in
    let does = λ (path : List ℕ) (folder : List ℕ). AuditsTo g.A.Archive a.result g.A.File.Read.remaining g.A.Store.NodeStore c.in-Audit.extent c.in-Audit.form path folder (g.W.Write.contents c.args.writer.now) (g.W.Write.contents c.audit_to.new.writer) in
    on_ok c.audit_to.result (λ h. rw c.in-Audit.is (a.result, a.ensures, (subst (λ x. does (string_bytes c.in-Audit.scheme) x) folder.ensures.value (subst (λ x. does x folder.result.now) path.ensures.value h)))) c.audit_to.ensures.ok

pub returns-in-Audit-clause-err : goal.returns-in-Audit-clause-err
returns-in-Audit-clause-err g c =
    let a = c.to_read-in-Audit in
    let path = c.as_str-in-Audit in
    let folder = c.as_str-in-Audit-2 in
    let fails = λ (path : List ℕ) (folder : List ℕ) (e : OpFault). FailsToAuditTo g.A.Archive a.result g.A.File.Read.remaining g.A.Store.NodeStore c.in-Audit.extent c.in-Audit.form path folder e (g.W.Write.contents c.args.writer.now) (g.W.Write.contents c.audit_to.new.writer) in
    if_err {P = fails path.result.now folder.result.now} c.audit_to.result (λ e h. rw c.in-Audit.is (a.result, a.ensures, (subst (λ x. fails (string_bytes c.in-Audit.scheme) x e) folder.ensures.value (subst (λ x. fails x folder.result.now e) path.ensures.value h)))) c.audit_to.ensures.err

pub returns-in-Events-clause-ok : goal.returns-in-Events-clause-ok
returns-in-Events-clause-ok g c =
    let a = c.to_read-in-Events in
    let path = c.as_str-in-Events in
    let folder = c.as_str-in-Events-2 in
    let does = λ (path : List ℕ) (folder : List ℕ). ListsFolder g.A.Archive a.result g.A.File.Read.remaining g.A.Store.NodeStore c.in-Events.form path folder (g.W.Write.contents c.args.writer.now) (g.W.Write.contents c.list_folder.new.writer) in
    on_ok c.list_folder.result (λ h. rw c.in-Events.is (a.result, a.ensures, (subst (λ x. does (string_bytes c.in-Events.scheme) x) folder.ensures.value (subst (λ x. does x folder.result.now) path.ensures.value h)))) c.list_folder.ensures.ok

pub returns-in-Events-clause-err : goal.returns-in-Events-clause-err
returns-in-Events-clause-err g c =
    let a = c.to_read-in-Events in
    let path = c.as_str-in-Events in
    let folder = c.as_str-in-Events-2 in
    let fails = λ (path : List ℕ) (folder : List ℕ) (e : OpFault). FailsToListFolder g.A.Archive a.result g.A.File.Read.remaining g.A.Store.NodeStore c.in-Events.form path folder e (g.W.Write.contents c.args.writer.now) (g.W.Write.contents c.list_folder.new.writer) in
    if_err {P = fails path.result.now folder.result.now} c.list_folder.result (λ e h. rw c.in-Events.is (a.result, a.ensures, (subst (λ x. fails (string_bytes c.in-Events.scheme) x e) folder.ensures.value (subst (λ x. fails x folder.result.now e) path.ensures.value h)))) c.list_folder.ensures.err

pub returns-in-Trace-clause-ok : goal.returns-in-Trace-clause-ok
returns-in-Trace-clause-ok g c =
    let a = c.to_read-in-Trace in
    let path = c.as_str-in-Trace in
    let folder = c.as_str-in-Trace-2 in
    let id = c.as_str-in-Trace-3 in
    let does = λ (path : List ℕ) (folder : List ℕ) (id : List ℕ). TracesFolder g.A.Archive a.result g.A.File.Read.remaining g.A.Store.NodeStore c.in-Trace.form path folder id (g.W.Write.contents c.args.writer.now) (g.W.Write.contents c.trace_folder.new.writer) in
    on_ok c.trace_folder.result (λ h. rw c.in-Trace.is (a.result, a.ensures, (subst (λ x. does (string_bytes c.in-Trace.scheme) (string_bytes c.in-Trace.folder) x) id.ensures.value (subst (λ x. does (string_bytes c.in-Trace.scheme) x id.result.now) folder.ensures.value (subst (λ x. does x folder.result.now id.result.now) path.ensures.value h))))) c.trace_folder.ensures.ok

pub returns-in-Trace-clause-err : goal.returns-in-Trace-clause-err
returns-in-Trace-clause-err g c =
    let a = c.to_read-in-Trace in
    let path = c.as_str-in-Trace in
    let folder = c.as_str-in-Trace-2 in
    let id = c.as_str-in-Trace-3 in
    let fails = λ (path : List ℕ) (folder : List ℕ) (id : List ℕ) (e : OpFault). FailsToTraceFolder g.A.Archive a.result g.A.File.Read.remaining g.A.Store.NodeStore c.in-Trace.form path folder id e (g.W.Write.contents c.args.writer.now) (g.W.Write.contents c.trace_folder.new.writer) in
    if_err {P = fails path.result.now folder.result.now id.result.now} c.trace_folder.result (λ e h. rw c.in-Trace.is (a.result, a.ensures, (subst (λ x. fails (string_bytes c.in-Trace.scheme) (string_bytes c.in-Trace.folder) x e) id.ensures.value (subst (λ x. fails (string_bytes c.in-Trace.scheme) x id.result.now e) folder.ensures.value (subst (λ x. fails x folder.result.now id.result.now e) path.ensures.value h))))) c.trace_folder.ensures.err

pub returns-in-Run-clause-ok : goal.returns-in-Run-clause-ok
returns-in-Run-clause-ok g c =
    let a = c.to_append in
    let path = c.as_str-in-Run in
    let folder = c.as_str-in-Run-2 in
    let script = c.as_str-in-Run-3 in
    let does = λ (path : List ℕ) (folder : List ℕ) (script : List ℕ). RunsFolder g.A.Archive a.result g.A.File.Read.remaining g.A.Store.NodeStore path folder script c.in-Run.strictness (g.W.Write.contents c.args.writer.now) (g.W.Write.contents c.run_folder.new.writer) in
    on_ok c.run_folder.result (λ h. rw c.in-Run.is (a.result, a.ensures, (subst (λ x. does (string_bytes c.in-Run.scheme) (string_bytes c.in-Run.folder) x) script.ensures.value (subst (λ x. does (string_bytes c.in-Run.scheme) x script.result.now) folder.ensures.value (subst (λ x. does x folder.result.now script.result.now) path.ensures.value h))))) c.run_folder.ensures.ok

pub returns-in-Run-clause-err : goal.returns-in-Run-clause-err
returns-in-Run-clause-err g c =
    let a = c.to_append in
    let path = c.as_str-in-Run in
    let folder = c.as_str-in-Run-2 in
    let script = c.as_str-in-Run-3 in
    let fails = λ (path : List ℕ) (folder : List ℕ) (script : List ℕ) (e : OpFault). FailsToRunFolder g.A.Archive a.result g.A.File.Read.remaining g.A.Store.NodeStore path folder script c.in-Run.strictness e (g.W.Write.contents c.args.writer.now) (g.W.Write.contents c.run_folder.new.writer) in
    if_err {P = fails path.result.now folder.result.now script.result.now} c.run_folder.result (λ e h. rw c.in-Run.is (a.result, a.ensures, (subst (λ x. fails (string_bytes c.in-Run.scheme) (string_bytes c.in-Run.folder) x e) script.ensures.value (subst (λ x. fails (string_bytes c.in-Run.scheme) x script.result.now e) folder.ensures.value (subst (λ x. fails x folder.result.now script.result.now e) path.ensures.value h))))) c.run_folder.ensures.err

pub returns-in-Explain-clause-ok : goal.returns-in-Explain-clause-ok
returns-in-Explain-clause-ok g c =
    let does = λ (words : List (String Global)). (text : List ℕ) × Explains (map string_bytes words) text × Appends (g.W.Write.contents c.args.writer.now) (g.W.Write.contents c.explain.new.writer) text in
    on_ok c.explain.result (λ h. rw c.in-Explain.is (subst does c.as_slice.ensures.value h)) c.explain.ensures.ok

pub returns-in-Explain-clause-err : goal.returns-in-Explain-clause-err
returns-in-Explain-clause-err g c =
    let fails = λ (words : List (String Global)) (e : OpFault). FailsToExplain e (map string_bytes words) (g.W.Write.contents c.args.writer.now) (g.W.Write.contents c.explain.new.writer) in
    if_err {P = fails c.as_slice.result.now} c.explain.result (λ e h. rw c.in-Explain.is (subst (λ ws. fails ws e) c.as_slice.ensures.value h)) c.explain.ensures.err
