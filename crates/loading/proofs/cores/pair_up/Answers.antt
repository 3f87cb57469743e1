use Rattle.std.proofs.Common.{◌≡◌, ◌∙◌, ℕ, suc, List, Some, refl, sym, ap, subst, length, arith}
use Rattle.std.specs.Prelude.{slice_get}
use Rattle.desk.specs.Keeping.{IsKept, StoredView}
use Rattle.node_state.specs.Views.{StateView}
use Rattle.world.specs.declared.any_core.Core.{Core}
use Rattle.loading.specs.Opened.{opened_core}
use Rattle.loading.proofs.Pairs.{both_moved, one_moved}
use Rattle.loading.proofs.cores.pair_up.Goals as goal

pub loop-core-init : goal.loop-core-init
loop-core-init g c =
    let cores = c.into_iter-core-iterator.ensures.into_iter_gives.0 in
    let stores = c.into_iter-stores.ensures.rest in
    record {
      count = ap (λ (l : List _). length l) stores ∙ (c.requires.count ∙ sym (ap (λ (l : List _). length l) cores));
      kept = λ k core store at_core at_store. c.requires.kept k core store (subst (λ (l : List Core). slice_get l k ≡ Some core) cores at_core) (subst (λ (l : List g.row.S.Denot). slice_get l k ≡ Some store) stores at_store);
      states = rw (c.new-nodes.ensures.items, cores) refl;
      stores_are = rw (c.new-nodes.ensures.items, stores) refl;
    }

pub new-requires-in-loop-core : goal.new-requires-in-loop-core
new-requires-in-loop-core g c =
    let core = c.in-Some.ensures.steps.0 in
    let store = c.in-Some-next.ensures.cases.0 in
    subst (λ (h : StateView). IsKept g.S.NodeStore (record { state = h; store = c.in-Some-next.store })) (sym c.new.ensures.state)
    (c.loop-core.invariant.kept 0 c.in-Some.core c.in-Some-next.store (ap (λ (l : List Core). slice_get l 0) core) (ap (λ (l : List g.row.S.Denot). slice_get l 0) store))

pub loop-core-preserved : goal.loop-core-preserved
loop-core-preserved g c =
    let kept = c.loop-core.invariant in
    let core = c.in-Some.ensures.steps.0 in
    let store = c.in-Some-next.ensures.cases.0 in
    let pushed = c.in_ok-push.ensures.items in
    let made = c.new-in-loop-core.ensures in
    record {
      count = omega (arith, kept.count, ap (λ (l : List _). length l) core, ap (λ (l : List _). length l) store);
      kept = λ k k_core k_store at_core at_store. kept.kept (suc k) k_core k_store (ap (λ (l : List Core). slice_get l (suc k)) core ∙ at_core) (ap (λ (l : List g.row.S.Denot). slice_get l (suc k)) store ∙ at_store);
      states = both_moved (λ s. s.state) opened_core c.loop-core.nodes.items _ c.push.new.self.items c.in-Some.core c.loop-core.core-iterator.rest.items c.next.new.self.rest.items _ pushed core (ap (λ (s : StoredView g.row.S.Denot). s.state) made ∙ c.new.ensures.state) kept.states;
      stores_are = one_moved (λ s. s.store) c.loop-core.nodes.items _ c.push.new.self.items c.in-Some-next.store c.loop-core.stores.rest.items c.next-in-loop-core.new.self.rest.items _ pushed store (ap (λ (s : StoredView g.row.S.Denot). s.store) made) kept.stores_are;
    }
