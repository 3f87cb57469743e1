use Rattle.std.proofs.Common.{◌≡◌, sym, ap, ◌∙◌, rules, arith, append-nil}
use Rattle.std.proofs.lemmas.Fn.{always_returns_same}
use Rattle.units.specs.Intervals.{label_at}
use Rattle.units.proofs.OrderingMoves.{key, joins_sorted, same_sorted, joins_next, joins_all}
use Rattle.units.proofs.ordering.in_order.Goals as goal

pub loop-next-init : goal.loop-next-init
loop-next-init g c =
    let group = g.M.Label.group in
    joins_sorted group c.args.intervals.now c.in_ok-sorted.sorted.items c.sort_unstable_by_key.new.self.items c.deref-next-items.result.now c.new-joined.result.items
    c.in_ok-sorted.ensures.items c.sort_unstable_by_key.ensures.permutation
    (c.sort_unstable_by_key.ensures.sorted (key group) (always_returns_same _ (λ a r. r ≡ key group a.0.now) _ (λ a r f' k. search rules)))
    c.deref-next-items.ensures.value c.new-joined.ensures.items c.requires

pub loop-next-preserved : goal.loop-next-preserved
loop-next-preserved g c =
    joins_next g.M.Label.group c.deref-next-items.result.now c.loop-next.joined.items c.push_joined.new.intervals.items c.loop-next.next-index c.next-item.result
    c.loop-next-test.true c.next-item.is c.in_ok-push_joined.ensures c.loop-next.invariant

pub returns-clause-same : goal.returns-clause-same
returns-clause-same g c = λ u.
    let joins = joins_all g.M.Label.group c.deref-next-items.result.now c.loop-next.joined.items c.loop-next.next-index (omega arith) c.loop-next.invariant in
    ap (λ xs. label_at xs u) (sym (append-nil c.loop-next.joined.items)) ∙ joins.same u
    ∙ same_sorted g.M.Label.group c.args.intervals.now c.in_ok-sorted.sorted.items c.sort_unstable_by_key.new.self.items c.deref-next-items.result.now
    c.in_ok-sorted.ensures.items c.sort_unstable_by_key.ensures.permutation c.deref-next-items.ensures.value c.requires u
