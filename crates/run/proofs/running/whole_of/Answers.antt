use Rattle.std.proofs.Common.{◌≡◌, ◌∙◌, List, length, string_bytes, sym, ap, subst}
use Rattle.std.proofs.lemmas.List.{length-map}
use Rattle.std.proofs.lemmas.Result.{err_from_is_err_and}
use Rattle.units.specs.declared.code.Node.{Node}
use Rattle.protocol.specs.Registries.{nodes}
use Rattle.ended_nodes.specs.Ended.{seats_in, states_in, stored_in}
use Rattle.serving.specs.Answers.{first_undone}
use Rattle.run.specs.Gathered.{AreGathered}
use Rattle.serving.specs.Ends.{HaveEnded}
use Rattle.run.specs.Runs.{HaveOthers, IsRunReport}
use Rattle.ended_nodes.specs.declared.ended.EndedNode.{EndedNode}
use Rattle.run.proofs.Written.{late_fault}
use Rattle.run.proofs.running.whole_of.Goals as goal

pub with_table-text-requires-clause-ended : goal.with_table-text-requires-clause-ended
with_table-text-requires-clause-ended g c =
    let ended = c.in_ok-ended.ended.items in
    let value : c.as_slice-2.result.now ≡ ended = c.as_slice-2.ensures.value in
    ap (λ (l : List (EndedNode g.row.S.Denot)). length l) value ∙ (sym (length-map (stored_in ended) (λ e. e.state.node) ∙ length-map ended (λ e. e.stored)) ∙ ap (λ (l : List Node). length l) (c.in_ok-ended.ensures.ended c.args.scheme.now (c.as_slice.ensures.value ∙ c.requires.names)).nodes_are)

pub returns-in-Ok-clause-ok : goal.returns-in-Ok-clause-ok
returns-in-Ok-clause-ok g c =
    let scheme = c.args.scheme.now in
    let value : c.as_slice-2.result.now ≡ c.in_ok-ended.ended.items = c.as_slice-2.ensures.value in
    let gathered : AreGathered g.K.Taking.takes c.args.nodes.script.items (seats_in c.as_slice-2.result.now) = rw value c.in_ok-ended.ensures.seats in
    let each : length c.args.nodes.script.items ≡ length (nodes scheme) = sym c.args.nodes.script.ok.0 ∙ c.requires.seats in
    λ lines told played answers. subst (λ (ns : List (EndedNode g.row.S.Denot)). IsRunReport scheme lines (states_in ns) (first_undone 1 lines told) (string_bytes c.in-Ok.text) × HaveOthers g.K.Taking.takes scheme (states_in ns)) value
    (c.in-Ok.ensures.ok c.args.nodes.script.items each gathered lines told played answers)

pub returns-in_err-ended-clause-err : goal.returns-in_err-ended-clause-err
returns-in_err-ended-clause-err g c =
    let p = err_from_is_err_and c.from_residual.result c.from_residual.ensures.1 in
    rw (p.1, p.2) (c.in_err-ended.ensures.err c.args.scheme.now)

pub returns-in-Ok-clause-ended : goal.returns-in-Ok-clause-ended
returns-in-Ok-clause-ended g c = c.in_ok-ended.ensures.ended c.args.scheme.now (c.as_slice.ensures.value ∙ c.requires.names)

pub returns-clause-err : goal.returns-clause-err
returns-clause-err g c =
    let scheme = c.args.scheme.now in
    let value : c.as_slice-2.result.now ≡ c.in_ok-ended.ended.items = c.as_slice-2.ensures.value in
    late_fault g.S.NodeStore g.K.Opening.opened scheme c.in-Err.fault (stored_in c.as_slice-2.result.now) (seats_in c.as_slice-2.result.now)
    (subst (λ (ns : List (EndedNode g.row.S.Denot)). HaveEnded g.S.NodeStore g.K.Opening.opened scheme (stored_in ns)) (sym value) (c.in_ok-ended.ensures.ended scheme (c.as_slice.ensures.value ∙ c.requires.names))) c.in-Err.ensures.err
