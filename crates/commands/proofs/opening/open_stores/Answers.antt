use Rattle.std.proofs.Common.{◌∙◌, ◌∷◌, ◌<◌, ◌+◌, [], length, length-append, take, ap, arith, inl, inr, subst, sym}
use Rattle.std.proofs.lemmas.Result.{err_from_is_err_and}
use Rattle.commands.specs.Opened.{AreStoresIn}
use Rattle.commands.proofs.InFolder.{first_in, next_in}
use Rattle.commands.proofs.opening.open_stores.Goals as goal

pub loop-at-preserved : goal.loop-at-preserved
loop-at-preserved g c =
    let pushed = c.in-Ok-push.ensures.items in
    let names = c.in_ok-names.names in
    let low : c.loop-at.at < length names.items = omega (arith, c.loop-at-test.true, c.loop-at.auto.at-end, c.len-at-end.ensures, names.ok.0) in
    let longer = ap length pushed ∙ length-append c.loop-at.stores.items (c.in-Ok.store ∷ []) in
    record {
      count = omega (arith, longer, c.loop-at.invariant.count);
      are =
          subst (AreStoresIn g.A.Archive c.args.archive.now g.A.Store.NodeStore c.args.folder.now (take (c.loop-at.at + 1) names.items)) (sym pushed)
          (next_in g.A.Archive c.args.archive.now g.A.Store.NodeStore c.args.folder.now names.items c.loop-at.stores.items c.loop-at.at c.index.result.now _ c.in-Ok.store c.loop-at.invariant.are low c.index.ensures c.in-Ok.ensures.ok);
    }

pub returns-in_err-read_first-in-Err-clause-err : goal.returns-in_err-read_first-in-Err-clause-err
returns-in_err-read_first-in-Err-clause-err g c =
    let p = err_from_is_err_and c.from_residual-in_err-read_first-in-Err.result c.from_residual-in_err-read_first-in-Err.ensures.1 in
    let names = c.in_ok-names.names in
    let low : c.loop-at.at < length names.items = omega (arith, c.loop-at-test.true, c.loop-at.auto.at-end, c.len-at-end.ensures, names.ok.0) in
    rw (p.1, p.2)
    (inr (inr (record {
      stores = c.loop-at.stores.items;
      left = c.read_first.new.stores;
      later = c.in-Err.fault;
      firsts =
          first_in g.A.Archive c.args.archive.now g.A.Store.NodeStore c.args.folder.now c.args.scheme.now names.items c.loop-at.stores.items c.loop-at.at c.index.result.now _ c.in-Err.fault c.in_ok-names.ensures c.loop-at.invariant.are low c.index.ensures c.in-Err.ensures.err;
      fails = rw (sym c.as_mut_slice.ensures.value) c.in_err-read_first-in-Err.ensures.err;
    })))

pub returns-in-Err-clause-err : goal.returns-in-Err-clause-err
returns-in-Err-clause-err g c =
    let names = c.in_ok-names.names in
    let low : c.loop-at.at < length names.items = omega (arith, c.loop-at-test.true, c.loop-at.auto.at-end, c.len-at-end.ensures, names.ok.0) in
    let read = c.in_ok-read_first-in-Err.ensures.ok in
    inr (inl (record {
      stores = c.loop-at.stores.items;
      left = c.read_first.new.stores;
      journals = read.0;
      firsts =
          first_in g.A.Archive c.args.archive.now g.A.Store.NodeStore c.args.folder.now c.args.scheme.now names.items c.loop-at.stores.items c.loop-at.at c.index.result.now _ c.in-Err.fault c.in_ok-names.ensures c.loop-at.invariant.are low c.index.ensures c.in-Err.ensures.err;
      read = rw (sym c.as_mut_slice.ensures.value) read.1;
    }))
