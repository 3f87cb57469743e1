use Rattle.std.proofs.Common.{◌≡◌, ◌∙◌, List, sym, ap, subst, length, map}
use Rattle.protocol.specs.Input.{Input}
use Rattle.protocol.specs.Registries.{nodes}
use Rattle.desk.specs.Keeping.{StoredView}
use Rattle.world.specs.Cores.{journal_of}
use Rattle.loading.specs.Runs.{HasRun}
use Rattle.loading.specs.Stores.{AreLoaded, AreUnwritten, FailsToLoad}
use Rattle.loading.proofs.Pairs.{journals_paired, load_fault, nodes_paired, opened_paired, paired, run_fault, written_back}
use Rattle.loading.proofs.runs.load_run.Goals as goal

pub returns-in-Err-clause-err : goal.returns-in-Err-clause-err
returns-in-Err-clause-err g c =
    let s = g.S.NodeStore in
    let scheme = c.args.scheme.now in
    let left = c.load_cores.new.stores in
    let value = c.as_mut_slice.ensures.value in (
      left,
      load_fault s scheme c.args.stores.items left c.in-Err.fault (subst (λ (olds : List g.row.S.Denot). FailsToLoad s scheme (nodes scheme) olds left c.in-Err.fault) value c.in-Err.ensures.err),
      subst (λ (olds : List g.row.S.Denot). AreUnwritten s olds left) value c.in-Err.ensures.unwritten,
    )

pub returns-in-Err-find_run-clause-err : goal.returns-in-Err-find_run-clause-err
returns-in-Err-find_run-clause-err g c =
    let s = g.S.NodeStore in
    let scheme = c.args.scheme.now in
    let left = c.load_cores.new.stores in
    let value = c.as_mut_slice.ensures.value in
    let journals = map journal_of c.in-Ok.cores.items in (
      left,
      run_fault s scheme c.args.stores.items left journals (subst (λ (olds : List g.row.S.Denot). AreLoaded s scheme (nodes scheme) olds left journals) value c.in-Ok.ensures.ok) c.in-Err-find_run.fault c.in-Err-find_run.ensures.err,
      subst (λ (olds : List g.row.S.Denot). AreUnwritten s olds left) value c.in-Ok.ensures.unwritten,
    )

pub pair_up-requires-clause-kept : goal.pair_up-requires-clause-kept
pair_up-requires-clause-kept g c =
    let s = g.S.NodeStore in
    let scheme = c.args.scheme.now in
    let left = c.load_cores.new.stores in
    let value = c.as_mut_slice.ensures.value in
    let journals = map journal_of c.in-Ok.cores.items in
    let same : length left ≡ length c.args.stores.items = c.load_cores.auto.stores ∙ ap (λ (l : List g.row.S.Denot). length l) value in
    rw (written_back c.args.stores.len left c.args.stores.items same (sym c.args.stores.ok.0))
    (paired s scheme c.args.stores.items left c.in-Ok.cores.items c.in-Ok-find_run.cores.items
    (subst (λ (olds : List g.row.S.Denot). AreLoaded s scheme (nodes scheme) olds left journals) value c.in-Ok.ensures.ok)
    (subst (λ (olds : List g.row.S.Denot). AreUnwritten s olds left) value c.in-Ok.ensures.unwritten)
    c.in-Ok-find_run.ensures.nodes c.in-Ok-find_run.ensures.schemes c.in-Ok-find_run.ensures.journals c.requires.whose c.requires.own same)

pub returns-in_ok-pair_up-in-Ok-find_run-clause-nodes : goal.returns-in_ok-pair_up-in-Ok-find_run-clause-nodes
returns-in_ok-pair_up-in-Ok-find_run-clause-nodes g c =
    let made = c.in_ok-pair_up-in-Ok-find_run in
    nodes_paired c.args.scheme.now c.in-Ok-find_run.cores.items made.field-0.items made.ensures.states ∙ c.in-Ok-find_run.ensures.nodes

pub returns-in_ok-pair_up-in-Ok-find_run-clause-opened : goal.returns-in_ok-pair_up-in-Ok-find_run-clause-opened
returns-in_ok-pair_up-in-Ok-find_run-clause-opened g c =
    let made = c.in_ok-pair_up-in-Ok-find_run in
    opened_paired c.args.scheme.now c.in-Ok-find_run.cores.items made.field-0.items made.ensures.states c.in-Ok-find_run.ensures.schemes

pub returns-in_ok-pair_up-in-Ok-find_run-clause-loaded : goal.returns-in_ok-pair_up-in-Ok-find_run-clause-loaded
returns-in_ok-pair_up-in-Ok-find_run-clause-loaded g c =
    let s = g.S.NodeStore in
    let scheme = c.args.scheme.now in
    let left = c.load_cores.new.stores in
    let value = c.as_mut_slice.ensures.value in
    let made = c.in_ok-pair_up-in-Ok-find_run in
    let same : length left ≡ length c.args.stores.items = c.load_cores.auto.stores ∙ ap (λ (l : List g.row.S.Denot). length l) value in
    let stores = made.ensures.stores ∙ written_back c.args.stores.len left c.args.stores.items same (sym c.args.stores.ok.0) in
    let journals = journals_paired scheme c.in-Ok-find_run.cores.items made.field-0.items made.ensures.states ∙ c.in-Ok-find_run.ensures.journals in
    subst (λ (news : List g.row.S.Denot). AreLoaded s scheme (nodes scheme) c.args.stores.items news (map (λ (p : StoredView g.row.S.Denot). p.state.journal) made.field-0.items)) (sym stores)
    (subst (λ (js : List (List Input)). AreLoaded s scheme (nodes scheme) c.args.stores.items left js) (sym journals)
    (subst (λ (olds : List g.row.S.Denot). AreLoaded s scheme (nodes scheme) olds left (map journal_of c.in-Ok.cores.items)) value c.in-Ok.ensures.ok))

pub returns-in_ok-pair_up-in-Ok-find_run-clause-unwritten : goal.returns-in_ok-pair_up-in-Ok-find_run-clause-unwritten
returns-in_ok-pair_up-in-Ok-find_run-clause-unwritten g c =
    let s = g.S.NodeStore in
    let left = c.load_cores.new.stores in
    let value = c.as_mut_slice.ensures.value in
    let made = c.in_ok-pair_up-in-Ok-find_run in
    let same : length left ≡ length c.args.stores.items = c.load_cores.auto.stores ∙ ap (λ (l : List g.row.S.Denot). length l) value in
    let stores = made.ensures.stores ∙ written_back c.args.stores.len left c.args.stores.items same (sym c.args.stores.ok.0) in
    subst (λ (news : List g.row.S.Denot). AreUnwritten s c.args.stores.items news) (sym stores) (subst (λ (olds : List g.row.S.Denot). AreUnwritten s olds left) value c.in-Ok.ensures.unwritten)

pub returns-in_ok-pair_up-in-Ok-find_run-clause-run : goal.returns-in_ok-pair_up-in-Ok-find_run-clause-run
returns-in_ok-pair_up-in-Ok-find_run-clause-run g c =
    let made = c.in_ok-pair_up-in-Ok-find_run in
    let journals = journals_paired c.args.scheme.now c.in-Ok-find_run.cores.items made.field-0.items made.ensures.states ∙ c.in-Ok-find_run.ensures.journals in
    subst (HasRun c.args.scheme.now) (sym journals) c.in-Ok-find_run.ensures.run
