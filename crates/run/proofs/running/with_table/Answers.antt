use Rattle.std.proofs.Common.{◌∙◌, ◌++◌, ℕ, List, string_bytes, ap}
use Rattle.std.proofs.lemmas.List.{length-map}
use Rattle.ended_nodes.specs.Ended.{seats_in, states_in, stored_in}
use Rattle.run.proofs.Reported.{other_records, run_report}
use Rattle.run.proofs.running.with_table.Goals as goal

pub returns-in_ok-joined-in-Ok-clause-ok : goal.returns-in_ok-joined-in-Ok-clause-ok
returns-in_ok-joined-in-Ok-clause-ok g c =
    let helds = states_in c.args.ended.now in
    let seats = seats_in c.args.ended.now in
    let table = string_bytes c.in-Ok.table in
    let all = length-map (stored_in c.args.ended.now) (λ s. s.state) ∙ length-map c.args.ended.now (λ e. e.stored) ∙ c.requires.ended in
    λ own each gathered lines told played answers. (
      run_report c.args.scheme.now helds own seats table all g.T.Taking.takes c.requires.unordered gathered each c.in-Ok.ensures.ok lines told c.args.answers.now
          (string_bytes c.in_ok-joined-in-Ok.field-0) played answers (c.in_ok-joined-in-Ok.ensures ∙ ap (λ (t : List ℕ). c.args.answers.now ++ t) c.as_str.ensures.value),
      other_records c.args.scheme.now helds own seats table all g.T.Taking.takes c.requires.unordered gathered each c.in-Ok.ensures.ok lines told played,
    )
