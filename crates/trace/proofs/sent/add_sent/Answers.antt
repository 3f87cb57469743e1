use Rattle.std.proofs.Common.{◌∷◌, ◌++◌, [], take, ap, sym, ◌∙◌, append_assoc}
use Rattle.trace.specs.Followed.{sent_about}
use Rattle.trace.proofs.PostedMessages.{sent_more}
use Rattle.trace.proofs.sent.add_sent.Goals as goal

pub loop-message-preserved : goal.loop-message-preserved
loop-message-preserved c =
    let start = c.args.sent.now.items in
    let id = c.args.id in
    let posted = c.args.posted.now in
    let at = c.loop-message.message-index in
    let message = c.message-item.result in
    c.in_ok-add_one.ensures ∙ ap (λ s. s ++ sent_about id (message ∷ [])) c.loop-message.invariant ∙ append_assoc start (sent_about id (take at posted)) (sent_about id (message ∷ []))
    ∙ ap (λ s. start ++ s) (sym (sent_more id posted at message c.loop-message-test.true c.message-item.is))
