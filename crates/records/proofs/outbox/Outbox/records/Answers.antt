use Rattle.std.proofs.Common.{length, ap, sym, ◌∙◌}
use Rattle.records.proofs.Sendings.{length_sent_in}
use Rattle.records.proofs.outbox.Outbox.records.Goals as goal

pub returns : goal.returns
returns c = c.len.ensures ∙ c.self.inside.records.ok.0 ∙ sym (length_sent_in 0 c.self.inside.records.items c.self.inside.messages.items) ∙ ap length c.self.view_is
