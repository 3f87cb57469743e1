use Rattle.std.proofs.Common.{◌∙◌, Ok, Err, ap, subst}
use Rattle.units.specs.declared.code.Node.{Node}
use Rattle.protocol.specs.Scheme.{Scheme}
use Rattle.protocol.specs.Cores.{Replays}
use Rattle.node_state.specs.Loading.{IsLoaded}
use Rattle.node_state.specs.Views.{StateView}
use Rattle.world.specs.Cores.{scheme_of}
use Rattle.loading.proofs.Loaded.{fails_at}
use Rattle.loading.proofs.cores.load_one.Goals as goal

pub returns-in-Err-clause-err : goal.returns-in-Err-clause-err
returns-in-Err-clause-err g c =
    let loaded = subst (λ (s : Scheme). IsLoaded g.S.NodeStore s c.args.node c.args.store.now c.load_from.new.store (Err c.in-Err.fault)) c.in_ok-core.ensures.0
    (subst (λ (n : Node). IsLoaded g.S.NodeStore (scheme_of c.in_ok-core.core) n c.args.store.now c.load_from.new.store (Err c.in-Err.fault)) c.in_ok-core.ensures.1 c.in-Err.ensures.loaded) in
    rw c.store_fault.ensures
    (fails_at g.S.NodeStore c.args.scheme.now c.args.node c.args.store.now c.load_from.new.store c.in-Err.fault loaded)

pub returns-in-Ok-clause-ok : goal.returns-in-Ok-clause-ok
returns-in-Ok-clause-ok g c =
    let made = c.in-Ok.ensures.state in
    let is_scheme = ap (λ (h : StateView). h.scheme) made ∙ c.in_ok-core.ensures.0 in
    let is_node = ap (λ (h : StateView). h.node) made ∙ c.in_ok-core.ensures.1 in
    let replayed = subst (λ n. Replays c.args.scheme.now n c.in-Ok.state.journal) is_node
    (subst (λ s. Replays s c.in-Ok.state.node c.in-Ok.state.journal) is_scheme c.in-Ok.ensures.replays) in
    let loaded = subst (λ (s : Scheme). IsLoaded g.S.NodeStore s c.args.node c.args.store.now c.load_from.new.store (Ok c.in-Ok.state.journal)) c.in_ok-core.ensures.0
    (subst (λ (n : Node). IsLoaded g.S.NodeStore (scheme_of c.in_ok-core.core) n c.args.store.now c.load_from.new.store (Ok c.in-Ok.state.journal)) c.in_ok-core.ensures.1 c.in-Ok.ensures.loaded) in
    rw c.into_core.ensures.journal (replayed, loaded)

pub returns-in-Ok-clause-scheme : goal.returns-in-Ok-clause-scheme
returns-in-Ok-clause-scheme g c = c.into_core.ensures.scheme ∙ ap (λ (h : StateView). h.scheme) c.in-Ok.ensures.state ∙ c.in_ok-core.ensures.0

pub returns-in-Ok-clause-node : goal.returns-in-Ok-clause-node
returns-in-Ok-clause-node g c = c.into_core.ensures.node ∙ ap (λ (h : StateView). h.node) c.in-Ok.ensures.state ∙ c.in_ok-core.ensures.1
