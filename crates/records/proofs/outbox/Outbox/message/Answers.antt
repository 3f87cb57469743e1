use Rattle.std.proofs.Common.{◌≡◌, List, ap, sym, ◌∙◌}
use Rattle.std.specs.List.{slice_get}
use Rattle.wire.specs.declared.message.Message.{Message}
use Rattle.records.specs.Sending.{messages}
use Rattle.records.proofs.Sendings.{all_messages}
use Rattle.records.proofs.outbox.Outbox.message.Goals as goal

pub returns : goal.returns
returns c =
    let all : messages c.args.self.now ≡ c.self.inside.messages.items = ap messages (sym c.self.view_is) ∙ all_messages c.self.inside.records.items c.self.inside.messages.items c.self.invariant.counted in
    c.message_at.ensures ∙ ap (λ (l : List Message). slice_get l c.args.key) (c.as_slice.ensures.value ∙ sym all)
