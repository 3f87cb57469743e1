use Rattle.std.proofs.Common.{◌≡◌, ◌≤◌, ◌++◌, ◌∷◌, [], ◌&&◌, not, List, drop, length, ap, sym, ◌∙◌, arith}
use Rattle.std.specs.BTreeSet.{contains}
use Rattle.records.specs.Awaiting.{among, unacknowledged_cmp}
use Rattle.records.specs.Sending.{Sent, Sends}
use Rattle.records.specs.Totals.{total}
use Rattle.wire.specs.declared.message.Message.{Message}
use Rattle.records.proofs.KeptTables.{Next, back_at, start_within}
use Rattle.records.proofs.outbox.Outbox.take_back.Goals as goal

pub forget_from-requires : goal.forget_from-requires
forget_from-requires c =
    let within : total 0 c.pop.new.self.items ≤ length c.self.inside.messages.items = start_within c.pop.new.self.items c.self.inside.records.items c.pop.result (length c.self.inside.messages.items) c.self.invariant.counted c.pop.ensures.items in
    let start : c.sends_after-start.result ≡ total 0 c.pop.new.self.items = c.sends_after-start.ensures ∙ ap (total 0) c.as_slice.ensures.value in
    let whole : length c.as_slice-2.result.now ≡ length c.self.inside.messages.items = ap length c.as_slice-2.ensures.value in
    omega arith

next : (c : goal.After-truncate) (earlier : List Sent) (last : List Message) → c.args.self.now ≡ earlier ++ Sends last ∷ [] → Next c.pop.new.self.items c.truncate.new.self.items c.forget_from.new.unacknowledged earlier
next c earlier last e =
    back_at c.pop.new.self.items c.self.inside.records.items c.pop.result c.self.inside.messages.items c.truncate.new.self.items c.self.inside.unacknowledged c.forget_from.new.unacknowledged c.sends_after-start.result earlier last
    c.self.invariant c.pop.ensures.items
    (λ none. let h = rw none at c.pop.ensures.cases in sym c.self.inside.records.ok.0 ∙ h.0)
    (c.self.view_is ∙ e)
    (c.sends_after-start.ensures ∙ ap (total 0) c.as_slice.ensures.value)
    c.truncate.ensures.items
    (λ q. c.forget_from.ensures q
    ∙ ap (λ (l : List Message). contains unacknowledged_cmp c.self.inside.unacknowledged q && not (among c.sends_after-start.result (drop c.sends_after-start.result l) q)) c.as_slice-2.ensures.value)

pub invariant_of-self : goal.invariant_of-self
invariant_of-self c = (next c c.requires.0 c.requires.1 c.requires.2).kept

pub returns : goal.returns
returns c = λ earlier last e. (next c earlier last e).view
