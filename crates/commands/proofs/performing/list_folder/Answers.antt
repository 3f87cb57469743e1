use Rattle.std.proofs.Common.{◌∙◌, ap, inl, inr, length, sym}
use Rattle.std.proofs.lemmas.Result.{err_from_is_err_and}
use Rattle.protocol.specs.Registries.{nodes}
use Rattle.ended_nodes.proofs.Reporting.{if_err, keeps_same, on_ok}
use Rattle.commands.proofs.InFolder.{count_of}
use Rattle.commands.proofs.performing.list_folder.Goals as goal

pub returns-in_err-stores-clause-err : goal.returns-in_err-stores-clause-err
returns-in_err-stores-clause-err g c =
    let p = err_from_is_err_and c.from_residual-in_err-stores.result c.from_residual-in_err-stores.ensures.1 in
    let scheme = c.in_ok-scheme in
    rw (p.1, p.2) (inr (scheme.scheme, scheme.ensures.ok, inr (c.in_ok-find_folder.ensures.ok, inl (c.in_err-stores.ensures.err, keeps_same _))))

pub list_events-done-requires : goal.list_events-done-requires
list_events-done-requires g c =
    ap (λ l. length l) c.as_mut_slice.ensures.value
    ∙ count_of g.A.Archive c.args.archive.now g.A.Store.NodeStore c.args.folder.now (nodes c.in_ok-scheme.scheme) c.in_ok-stores.stores.items c.in_ok-stores.ensures.ok

pub returns-clause-ok : goal.returns-clause-ok
returns-clause-ok g c =
    let value = c.as_mut_slice.ensures.value in
    on_ok c.list_events-done.result
    (λ h. record {
      scheme = c.in_ok-scheme.scheme;
      has_scheme = c.in_ok-scheme.ensures.ok;
      in_folder = c.in_ok-find_folder.ensures.ok;
      stores = c.in_ok-stores.stores.items;
      left = c.list_events-done.new.stores;
      opened = c.in_ok-stores.ensures.ok;
      text = h.0;
      is_text = rw (sym value) h.1;
      unwritten = rw (sym value) c.list_events-done.ensures.unwritten;
      written = h.2;
    })
    c.list_events-done.ensures.ok

pub returns-clause-err : goal.returns-clause-err
returns-clause-err g c =
    let value = c.as_mut_slice.ensures.value in
    let scheme = c.in_ok-scheme in
    let stores = c.in_ok-stores in
    if_err c.list_events-done.result
    (λ e h. inr (scheme.scheme, scheme.ensures.ok, inr (c.in_ok-find_folder.ensures.ok, inr (stores.stores.items, c.list_events-done.new.stores, stores.ensures.ok, rw (sym value) h, rw (sym value) c.list_events-done.ensures.unwritten))))
    c.list_events-done.ensures.err
