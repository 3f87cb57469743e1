use Rattle.std.proofs.Common.{◌++◌, ap, ◌∙◌, append_assoc, codes, string_bytes}
use Rattle.chart.specs.ChartLines.{arrow}
use Rattle.chart.proofs.messages.push_lost.Goals as goal

pub returns : goal.returns
returns c =
    c.in_ok-push_str.ensures.bytes ∙ ap (λ t. t ++ codes ", never delivered\n") c.in_ok-push_arrow.ensures
    ∙ append_assoc (string_bytes c.args.text.now) (arrow (codes "-x") c.args.message.now) (codes ", never delivered\n")
