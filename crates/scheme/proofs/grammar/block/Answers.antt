use Rattle.serde_json.specs.View.{view}
use Rattle.json_fields.proofs.BlockTexts.{block_reads}
use Rattle.scheme.specs.Grammar.{IsBlock}
use Rattle.scheme.proofs.grammar.block.Goals as goal

pub returns : goal.returns
returns c =
    let d = view c.args.value.now in
    rw c.ok.ensures.value (block_reads (IsBlock d) d c.in_ok-text.text.now c.read.result (λ b is. is) (λ b is t. (c.in_ok-text.text.now, is, t)) c.in_ok-text.ensures c.read.ensures.ok c.read.ensures.shape c.read.ensures.range)
