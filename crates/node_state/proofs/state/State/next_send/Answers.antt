use Rattle.std.proofs.Common.{arith, ◌≡◌, ℕ, Option, Some, None, sym, subst}
use Rattle.std.proofs.lemmas.Grind.{common_steps}
use Rattle.std.specs.List.{slice_get}
use Rattle.units.specs.declared.code.Node.{Node}
use Rattle.wire.specs.declared.message.Message.{Message}
use Rattle.protocol.specs.History.{is_acknowledged, sends}
use Rattle.protocol.specs.Unacknowledged.{IsLeastFrom, awaits}
use Rattle.protocol.specs.Verdict.{history}
use Rattle.node_state.specs.Views.{StateView, committed_past, past}
use Rattle.node_state.proofs.Messages.{none_of_first, none_where_past, least_of_first}
use Rattle.node_state.proofs.state.State.next_send.Goals as goal

-- the least key among the messages of the committed records
abbrev Least : Node → ℕ → Option ℕ → StateView → Type 0
Least peer from found held = IsLeastFrom (awaits (sends (committed_past held)) (is_acknowledged (past held)) peer) from found

abbrev IsAt : ℕ → Option Message → StateView → Type 0
IsAt key message held = slice_get (sends (committed_past held)) key ≡ message

pub returns-in_err-key-clause-key : goal.returns-in_err-key-clause-key
returns-in_err-key-clause-key g c runs =
    let core = c.self.inside.core in
    let scheme = g.C.NodeCore.scheme_of core in
    let n = g.C.NodeCore.node_of core in
    let journal = g.C.NodeCore.journal_of core in
    rw c.from_residual.ensures
    (subst (Least c.args.peer c.args.from None) c.self.view_is
    (none_of_first scheme n journal c.self.inside.committed (is_acknowledged (history scheme n journal)) c.args.peer c.args.from c.in_err-key.ensures))

pub returns-in_err-message-clause-key : goal.returns-in_err-message-clause-key
returns-in_err-message-clause-key g c runs =
    let core = c.self.inside.core in
    let scheme = g.C.NodeCore.scheme_of core in
    let n = g.C.NodeCore.node_of core in
    let journal = g.C.NodeCore.journal_of core in
    let missing = subst (IsAt c.in_ok-key.key None) (sym c.self.view_is) (sym c.in_err-message.ensures) in
    rw c.from_residual-in_err-message.ensures
    (subst (Least c.args.peer c.args.from None) c.self.view_is
    (none_where_past scheme n journal c.self.inside.committed (is_acknowledged (history scheme n journal)) c.args.peer c.args.from c.in_ok-key.key c.in_ok-key.ensures missing))

pub returns-clause-key : goal.returns-clause-key
returns-clause-key g c runs =
    let core = c.self.inside.core in
    let scheme = g.C.NodeCore.scheme_of core in
    let n = g.C.NodeCore.node_of core in
    let journal = g.C.NodeCore.journal_of core in
    let there = subst (IsAt c.in_ok-key.key (Some c.in_ok-message.message.now)) (sym c.self.view_is) (sym c.in_ok-message.ensures) in
    subst (Least c.args.peer c.args.from (Some c.in_ok-key.key)) c.self.view_is
    (least_of_first scheme n journal c.self.inside.committed (is_acknowledged (history scheme n journal)) c.args.peer c.args.from c.in_ok-key.key c.in_ok-message.message.now c.in_ok-key.ensures there)

pub returns-clause-message : goal.returns-clause-message
returns-clause-message g c = grind (arith, common_steps)
