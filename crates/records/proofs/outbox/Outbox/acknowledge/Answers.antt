use Rattle.std.proofs.Common.{◌<◌, ◌++◌, ◌∷◌, [], false, cond, List, Some, length, ap, sym, subst, ◌∙◌, is_eq, arith}
use Rattle.std.specs.BTreeSet.{contains}
use Rattle.records.specs.Awaiting.{unacknowledged_cmp}
use Rattle.records.specs.Sending.{messages, Sent, Acknowledges}
use Rattle.records.specs.declared.unacknowledged.Unacknowledged.{Unacknowledged}
use Rattle.records.specs.declared.record.Record.{Record}
use Rattle.records.proofs.KeptTables.{next_acknowledges, some_at, Next}
use Rattle.records.proofs.Sendings.{all_messages}
use Rattle.records.specs.Kept.{sent_in}
use Rattle.records.proofs.outbox.Outbox.acknowledge.Goals as goal

below : (c : goal.After-index-arg-1) → c.args.key < length c.self.inside.messages.items
below c = subst (λ l. c.args.key < length l) (ap messages (sym c.self.view_is) ∙ all_messages c.self.inside.records.items c.self.inside.messages.items c.self.invariant.counted) c.requires

pub index-requires : goal.index-requires
index-requires c = let h = below c in let e = c.self.inside.messages.ok.0 in omega arith

next : (c : goal.After-push_reserved) → Next c.push_reserved.new.self.items c.self.inside.messages.items c.remove.new.self (sent_in 0 c.self.inside.records.items c.self.inside.messages.items ++ Acknowledges c.args.key ∷ [])
next c =
    let here : c.args.key < length c.self.inside.messages.items =
    subst (λ l. c.args.key < length l) (ap messages (sym c.self.view_is) ∙ all_messages c.self.inside.records.items c.self.inside.messages.items c.self.invariant.counted) c.requires in
    next_acknowledges c.self.inside.records.items c.push_reserved.new.self.items c.len.result c.args.key c.self.inside.messages.items c.index.result.now c.self.inside.unacknowledged c.remove.new.self c.self.invariant
    (c.push_reserved.ensures.items ∙ ap (λ (l : List Record). l ++ record { sends = c.len.result; acknowledges = Some c.args.key } ∷ []) c.reserve.ensures.items)
    (c.len.ensures ∙ c.self.inside.messages.ok.0)
    (some_at c.self.inside.messages.items c.args.key c.index.result.now here c.index.ensures)
    (λ q. c.remove.ensures.updates.0 q
    ∙ ap (λ (p : Unacknowledged). cond (is_eq (unacknowledged_cmp p q)) false (contains unacknowledged_cmp c.self.inside.unacknowledged q)) c.unacknowledged_of.ensures)

pub invariant_of-self-2 : goal.invariant_of-self-2
invariant_of-self-2 c = (next c).kept

pub returns-clause-ok : goal.returns-clause-ok
returns-clause-ok c = (next c).view ∙ ap (λ (l : List Sent). l ++ Acknowledges c.args.key ∷ []) c.self.view_is
