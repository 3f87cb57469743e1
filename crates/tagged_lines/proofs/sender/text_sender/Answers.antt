use Rattle.std.proofs.Common.{sym, ◌∙◌}
use Rattle.std.proofs.lemmas.Bool.{false≢true}
use Rattle.serde_json.specs.View.{view}
use Rattle.tagged_lines.proofs.Senders.{sender_said, sender_unsaid}
use Rattle.tagged_lines.proofs.sender.text_sender.Goals as goal

pub returns-in-Ok : goal.returns-in-Ok
returns-in-Ok c = sender_said c.args.text.now (view c.in-Ok.value) c.node_in.result c.in-Ok.ensures.ok.0 c.in-Ok.ensures.ok.1 c.node_in.ensures.some c.node_in.ensures.none

pub returns-else-is_memory : goal.returns-else-is_memory
returns-else-is_memory c = sender_unsaid c.args.text.now (c.in-Err.ensures.err (λ h. false≢true (sym c.if-is_memory.false ∙ c.is_memory.ensures.1 h)))
