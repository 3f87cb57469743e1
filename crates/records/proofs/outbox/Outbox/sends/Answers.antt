use Rattle.std.proofs.Common.{◌≡◌, length, ap, sym, ◌∙◌}
use Rattle.records.specs.Sending.{messages}
use Rattle.records.proofs.Sendings.{all_messages}
use Rattle.records.proofs.outbox.Outbox.sends.Goals as goal

pub returns : goal.returns
returns c =
    let all : messages c.args.self.now ≡ c.self.inside.messages.items = ap messages (sym c.self.view_is) ∙ all_messages c.self.inside.records.items c.self.inside.messages.items c.self.invariant.counted in
    c.len.ensures ∙ c.self.inside.messages.ok.0 ∙ ap length (sym all)
