use Rattle.std.proofs.Common.{map, ap, ◌∙◌}
use Rattle.std.specs.Prelude.{flat_map}
use Rattle.protocol.specs.World.{opening}
use Rattle.chart.specs.Chart.{happening_nodes, happenings, lost}
use Rattle.chart.proofs.Charts.{charted, with_log}
use Rattle.chart.proofs.charting.Drawing.text.Goals as goal

pub returns : goal.returns
returns c = λ scheme events drawn.
    let all = happenings (opening scheme) events in
    let never = map (λ m. m.now) c.in_ok-never.never.items in
    let gone = c.in_ok-never.ensures all drawn.drawn.marked ∙ ap (lost all) c.bag.ensures in
    let named = c.in_ok-add_node.ensures _ ((rw c.as_slice.ensures.value at c.in_ok-add_all_parties.ensures) (flat_map happening_nodes all) drawn.drawn.named) in
    let front = rw c.as_slice-2.ensures.value at rw c.as_slice-3.ensures.value at rw c.as_str.ensures.value at rw c.new-text.ensures.bytes at c.in_ok-push_lines.ensures in
    let note = (rw c.as_slice-4.ensures.value at c.in_ok-push_table_note.ensures) scheme events drawn.world in
    charted scheme events _ _ _ _ drawn never _ _ note.0 _ gone (with_log all never _ named) note.1 front note.2
