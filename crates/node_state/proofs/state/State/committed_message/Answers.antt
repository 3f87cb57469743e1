use Rattle.std.proofs.Common.{◌≡◌, ◌<◌, length, take, arith, ap, sym, ◌∙◌}
use Rattle.std.proofs.lemmas.Option.{slice_get_past}
use Rattle.protocol.specs.History.{sends}
use Rattle.protocol.specs.Verdict.{history}
use Rattle.protocol.proofs.Histories.{sent_so}
use Rattle.node_state.specs.Views.{StateView, committed_past}
use Rattle.node_state.proofs.state.State.committed_message.Goals as goal

pub returns-then-key-committed_sends : goal.returns-then-key-committed_sends
returns-then-key-committed_sends g c =
    let s = c.self.inside in
    let count : length (sends (history (g.C.NodeCore.scheme_of s.core) (g.C.NodeCore.node_of s.core) (take s.committed (g.C.NodeCore.journal_of s.core)))) ≡ c.committed_sends.result =
    ap (λ (h : StateView). length (sends (committed_past h))) c.self.view_is ∙ sym c.committed_sends.ensures in
    let below : c.args.key < length (sends (history (g.C.NodeCore.scheme_of s.core) (g.C.NodeCore.node_of s.core) (take s.committed (g.C.NodeCore.journal_of s.core)))) = omega (arith, count, c.if-key-committed_sends.true) in
    rw (← c.self.view_is) (c.outbox.ensures ∙ sent_so _ _ _ s.committed c.args.key below)

pub returns-else-key-committed_sends : goal.returns-else-key-committed_sends
returns-else-key-committed_sends g c =
    sym (slice_get_past (sends (committed_past c.args.self.now)) c.args.key (omega (arith, c.committed_sends.ensures, c.if-key-committed_sends.false)))
