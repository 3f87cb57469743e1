use Rattle.std.proofs.Common.{codes, map, string_bytes}
use Rattle.std.specs.List.{flat_map}
use Rattle.chart.specs.ChartLines.{lost_line, participant_line}
use Rattle.chart.proofs.Texts.{four_more}
use Rattle.chart.proofs.charting.push_lines.Goals as goal

pub returns : goal.returns
returns c =
    four_more (string_bytes c.args.text.now) (string_bytes c.push_str.new.self) (string_bytes c.push_participants.new.text) (string_bytes c.push_str-2.new.self) (string_bytes c.push_all_lost.new.text)
    (codes "sequenceDiagram\n") (flat_map participant_line c.args.nodes.now) c.args.lines.now (flat_map lost_line (map (λ m. m.now) c.args.messages.now))
    c.in_ok-push_str.ensures.bytes c.in_ok-push_participants.ensures c.in_ok-push_str-2.ensures.bytes c.in_ok-push_all_lost.ensures
