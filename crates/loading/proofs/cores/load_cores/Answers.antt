use Rattle.std.proofs.Common.{◌≡◌, ◌∙◌, ◌∷◌, [], ◌<◌, List, Some, get_or, length, map, take, sym, ap, subst, arith, length-append}
use Rattle.std.specs.Prelude.{All, slice_get}
use Rattle.std.proofs.lemmas.List.Elements.{All-push}
use Rattle.std.proofs.lemmas.List.{length-map, map-append}
use Rattle.protocol.specs.Registries.{nodes}
use Rattle.world.specs.Cores.{journal_of, node_of, scheme_of}
use Rattle.world.specs.declared.any_core.Core.{Core}
use Rattle.loading.proofs.Loaded.{fails_first, kept_more, loaded_more}
use Rattle.weave.proofs.Lists.{get_at}
use Rattle.weave.proofs.Replayed.{nodes_more}
use Rattle.weave.proofs.Lists.{set_other}
use Rattle.loading.proofs.cores.load_cores.Goals as goal

pub returns-in-Err-clause-err : goal.returns-in-Err-clause-err
returns-in-Err-clause-err g c =
    let below : c.loop-store.store-index < length c.loop-store.stores = omega (arith, c.loop-store-test.true, c.loop-store.auto.stores) in
    let count = length-map c.loop-store.cores.items journal_of ∙ c.loop-store.invariant.count in
    let isn = subst (λ k. slice_get (nodes c.args.scheme.now) k ≡ Some c.node_at-node.result) (c.len.ensures ∙ c.loop-store.cores.ok.0 ∙ c.loop-store.invariant.count) c.node_at-node.ensures in
    let was = sym (c.loop-store.invariant.later c.loop-store.store-index (omega arith)) ∙ get_at c.loop-store.stores c.loop-store.store-index c.store-item.result below in
    fails_first g.S.NodeStore c.args.scheme.now (nodes c.args.scheme.now) c.args.stores.now c.loop-store.stores (map journal_of c.loop-store.cores.items) c.loop-store.store-index c.node_at-node.result (get_or c.loop-store.stores c.loop-store.store-index c.store-item.result) c.load_one.new.store
    count below isn was c.loop-store.invariant.loaded c.in-Err.fault c.in-Err.ensures.err

pub returns-in-Err-clause-unwritten : goal.returns-in-Err-clause-unwritten
returns-in-Err-clause-unwritten g c =
    let below : c.loop-store.store-index < length c.loop-store.stores = omega (arith, c.loop-store-test.true, c.loop-store.auto.stores) in
    let was = sym (c.loop-store.invariant.later c.loop-store.store-index (omega arith)) ∙ get_at c.loop-store.stores c.loop-store.store-index c.store-item.result below in
    kept_more g.S.NodeStore c.args.stores.now c.loop-store.stores c.loop-store.store-index (get_or c.loop-store.stores c.loop-store.store-index c.store-item.result) c.load_one.new.store below was c.load_one.ensures.unwritten c.loop-store.invariant.kept

pub returns-in_err-push-in-Ok-clause-unwritten : goal.returns-in_err-push-in-Ok-clause-unwritten
returns-in_err-push-in-Ok-clause-unwritten g c =
    let below : c.loop-store.store-index < length c.loop-store.stores = omega (arith, c.loop-store-test.true, c.loop-store.auto.stores) in
    let was = sym (c.loop-store.invariant.later c.loop-store.store-index (omega arith)) ∙ get_at c.loop-store.stores c.loop-store.store-index c.store-item.result below in
    kept_more g.S.NodeStore c.args.stores.now c.loop-store.stores c.loop-store.store-index (get_or c.loop-store.stores c.loop-store.store-index c.store-item.result) c.load_one.new.store below was c.load_one.ensures.unwritten c.loop-store.invariant.kept

pub loop-store-preserved : goal.loop-store-preserved
loop-store-preserved g c =
    let below : c.loop-store.store-index < length c.loop-store.stores = omega (arith, c.loop-store-test.true, c.loop-store.auto.stores) in
    let count = length-map c.loop-store.cores.items journal_of ∙ c.loop-store.invariant.count in
    let isn = subst (λ k. slice_get (nodes c.args.scheme.now) k ≡ Some c.node_at-node.result) (c.len.ensures ∙ c.loop-store.cores.ok.0 ∙ c.loop-store.invariant.count) c.node_at-node.ensures in
    let was = sym (c.loop-store.invariant.later c.loop-store.store-index (omega arith)) ∙ get_at c.loop-store.stores c.loop-store.store-index c.store-item.result below in
    let more = ap (map journal_of) c.in_ok-push-in-Ok.ensures ∙ map-append journal_of c.loop-store.cores.items (c.in-Ok.core ∷ []) in
    let longer = ap (λ (xs : List Core). length xs) c.in_ok-push-in-Ok.ensures ∙ length-append c.loop-store.cores.items (c.in-Ok.core ∷ []) in
    record {
      loaded = rw more
          (loaded_more g.S.NodeStore c.args.scheme.now (nodes c.args.scheme.now) c.args.stores.now c.loop-store.stores (map journal_of c.loop-store.cores.items) c.loop-store.store-index c.node_at-node.result (get_or c.loop-store.stores c.loop-store.store-index c.store-item.result) c.load_one.new.store (journal_of c.in-Ok.core)
          count below isn was c.in-Ok.ensures.ok c.loop-store.invariant.loaded);
      nodes = ap (map node_of) c.in_ok-push-in-Ok.ensures
          ∙ nodes_more c.loop-store.cores.items c.in-Ok.core (nodes c.args.scheme.now) c.loop-store.store-index c.node_at-node.result c.loop-store.invariant.nodes c.in-Ok.ensures.node isn;
      schemes = subst (All (λ (core : Core). scheme_of core ≡ c.args.scheme.now)) (sym c.in_ok-push-in-Ok.ensures)
          (All-push (λ (core : Core). scheme_of core ≡ c.args.scheme.now) c.loop-store.cores.items c.in-Ok.core c.loop-store.invariant.schemes c.in-Ok.ensures.scheme);
      later = λ k above. set_other c.loop-store.stores c.loop-store.store-index k c.load_one.new.store (λ e. omega (arith, above, e)) ∙ c.loop-store.invariant.later k (omega (arith, above));
      kept = kept_more g.S.NodeStore c.args.stores.now c.loop-store.stores c.loop-store.store-index (get_or c.loop-store.stores c.loop-store.store-index c.store-item.result) c.load_one.new.store below was c.load_one.ensures.unwritten c.loop-store.invariant.kept;
      count = omega (arith, longer, c.loop-store.invariant.count);
    }

pub returns-clause-ok : goal.returns-clause-ok
returns-clause-ok g c =
    let count = length-map c.loop-store.cores.items journal_of ∙ c.loop-store.invariant.count in
    record {
      each = λ k n old new journal under. c.loop-store.invariant.loaded k n old new journal (omega (arith, under, c.loop-store-test.false, c.loop-store.auto.stores));
      count = omega (arith, count, c.loop-store-test.false, c.loop-store.auto.stores, c.loop-store.auto.store-index-end);
    }

pub returns-clause-nodes : goal.returns-clause-nodes
returns-clause-nodes g c =
    let all : c.loop-store.store-index ≡ length c.args.stores.now = omega (arith, c.loop-store-test.false, c.loop-store.auto.stores, c.loop-store.auto.store-index-end) in
    subst (λ k. map node_of c.loop-store.cores.items ≡ take k (nodes c.args.scheme.now)) all c.loop-store.invariant.nodes
