use Rattle.std.proofs.Common.{◌++◌, ◌∷◌, [], ◌||◌, ◌-◌, ℕ, List, None, take, drop, length, ap, sym, ◌∙◌}
use Rattle.std.specs.BTreeSet.{contains}
use Rattle.records.specs.Kept.{sent_in}
use Rattle.records.specs.Awaiting.{among, unacknowledged_cmp}
use Rattle.records.specs.Sending.{Sent, Sends}
use Rattle.records.specs.declared.record.Record.{Record}
use Rattle.wire.specs.declared.message.Message.{Message}
use Rattle.records.proofs.KeptTables.{Next, kept_same, next_sends}
use Rattle.records.proofs.Sendings.{front_is, rest_is}
use Rattle.records.proofs.AwaitingMessages.{on_ok, on_err}
use Rattle.records.proofs.outbox.Outbox.record.Goals as goal

pub invariant_of-self-then-is_err : goal.invariant_of-self-then-is_err
invariant_of-self-then-is_err c =
    kept_same c.self.inside.records.items c.reserve.new.self.items c.self.inside.messages.items c.truncate.new.self.items c.self.inside.unacknowledged c.await_all.new.unacknowledged c.self.invariant c.reserve.ensures.items
    (c.truncate.ensures.items ∙ front_is c.self.inside.messages.items c.args.messages.items c.append.new.self.items c.len-start.result c.in_ok-append.ensures.items (c.len-start.ensures ∙ c.self.inside.messages.ok.0))
    (on_err c.await_all.result (sym c.is_err.ensures.value ∙ c.if-is_err.true) c.await_all.ensures.err)

next : (c : goal.After-drop-messages-2) → Next c.push_reserved.new.self.items c.append.new.self.items c.await_all.new.unacknowledged (sent_in 0 c.self.inside.records.items c.self.inside.messages.items ++ Sends c.args.messages.items ∷ [])
next c =
    next_sends c.self.inside.records.items c.push_reserved.new.self.items c.len.result c.self.inside.messages.items c.append.new.self.items c.args.messages.items c.self.inside.unacknowledged c.await_all.new.unacknowledged c.self.invariant
    (c.push_reserved.ensures.items ∙ ap (λ (l : List Record). l ++ record { sends = c.len.result; acknowledges = None } ∷ []) c.reserve.ensures.items)
    c.in_ok-append.ensures.items
    (c.len.ensures ∙ c.append.new.self.ok.0)
    (λ q. on_ok c.await_all.result (sym c.is_err.ensures.value ∙ c.if-is_err.false) c.await_all.ensures.ok q
    ∙ ap (λ (l : List Message). contains unacknowledged_cmp c.self.inside.unacknowledged q || among c.len-start.result (take (length l - c.len-start.result) (drop c.len-start.result l)) q) c.deref.ensures.value
    ∙ ap (λ (l : List Message). contains unacknowledged_cmp c.self.inside.unacknowledged q || among c.len-start.result l q)
    (rest_is c.self.inside.messages.items c.args.messages.items c.append.new.self.items c.len-start.result c.in_ok-append.ensures.items (c.len-start.ensures ∙ c.self.inside.messages.ok.0))
    ∙ ap (λ (n : ℕ). contains unacknowledged_cmp c.self.inside.unacknowledged q || among n c.args.messages.items q) (c.len-start.ensures ∙ c.self.inside.messages.ok.0))

pub invariant_of-self-2 : goal.invariant_of-self-2
invariant_of-self-2 c = (next c).kept

pub returns-clause-ok : goal.returns-clause-ok
returns-clause-ok c = (next c).view ∙ ap (λ (l : List Sent). l ++ Sends c.args.messages.items ∷ []) c.self.view_is
