use Rattle.std.proofs.Common.{◌≡◌, Some, codes, rules}
use Rattle.clap.specs.Words.{subcommand_name_of}
use Rattle.command_line.proofs.SubcommandWords.{names_action}
use Rattle.command_line.proofs.actions.action_of.Goals as goal

pub returns-then-eq-3 : goal.returns-then-eq-3
returns-then-eq-3 c =
    let name : subcommand_name_of c.args.matches.now ≡ Some (codes "show") = search rules in
    names_action c.args.matches.now c.in_ok-name.inner.now c.show_action.result (codes "show") name c.in_ok-name.ensures.rows c.show_action.ensures

pub returns-then-eq-4 : goal.returns-then-eq-4
returns-then-eq-4 c =
    let name : subcommand_name_of c.args.matches.now ≡ Some (codes "audit") = search rules in
    names_action c.args.matches.now c.in_ok-name.inner.now c.audit_action.result (codes "audit") name c.in_ok-name.ensures.rows c.audit_action.ensures

pub returns-then-eq-5 : goal.returns-then-eq-5
returns-then-eq-5 c =
    let name : subcommand_name_of c.args.matches.now ≡ Some (codes "events") = search rules in
    names_action c.args.matches.now c.in_ok-name.inner.now c.events_action.result (codes "events") name c.in_ok-name.ensures.rows c.events_action.ensures

pub returns-then-eq-6 : goal.returns-then-eq-6
returns-then-eq-6 c =
    let name : subcommand_name_of c.args.matches.now ≡ Some (codes "trace") = search rules in
    names_action c.args.matches.now c.in_ok-name.inner.now c.trace_action.result (codes "trace") name c.in_ok-name.ensures.rows c.trace_action.ensures

pub returns-then-eq-7 : goal.returns-then-eq-7
returns-then-eq-7 c =
    let name : subcommand_name_of c.args.matches.now ≡ Some (codes "explain") = search rules in
    names_action c.args.matches.now c.in_ok-name.inner.now c.explain_action.result (codes "explain") name c.in_ok-name.ensures.rows c.explain_action.ensures

pub returns-then-eq-8 : goal.returns-then-eq-8
returns-then-eq-8 c =
    let name : subcommand_name_of c.args.matches.now ≡ Some (codes "run") = search rules in
    names_action c.args.matches.now c.in_ok-name.inner.now c.run_action.result (codes "run") name c.in_ok-name.ensures.rows c.run_action.ensures

pub returns-then-eq-9 : goal.returns-then-eq-9
returns-then-eq-9 c =
    let name : subcommand_name_of c.args.matches.now ≡ Some (codes "node") = search rules in
    names_action c.args.matches.now c.in_ok-name.inner.now c.node_action.result (codes "node") name c.in_ok-name.ensures.rows c.node_action.ensures
