use Rattle.std.proofs.Common.{inl, inr}
use Rattle.std.proofs.lemmas.Result.{err_from_is_err_and}
use Rattle.ended_nodes.proofs.Reporting.{if_err, keeps_same, on_ok}
use Rattle.commands.proofs.performing.show_node.Goals as goal

pub returns-in_err-node-clause-err : goal.returns-in_err-node-clause-err
returns-in_err-node-clause-err g c =
    let p = err_from_is_err_and c.from_residual-in_err-node.result c.from_residual-in_err-node.ensures.1 in
    let scheme = c.in_ok-scheme in
    rw (p.1, p.2) (inr (scheme.scheme, scheme.ensures.ok, inl (record { is = c.in_err-node.ensures.fault; none = λ n named. c.in_err-node.ensures.none n named.member named.text }, keeps_same _)))

pub returns-in_err-store-clause-err : goal.returns-in_err-store-clause-err
returns-in_err-store-clause-err g c =
    let p = err_from_is_err_and c.from_residual-in_err-store.result c.from_residual-in_err-store.ensures.1 in
    let scheme = c.in_ok-scheme in
    let node = c.in_ok-node in
    rw (p.1, p.2)
    (inr (scheme.scheme, scheme.ensures.ok, inr (node.node, record { text = node.ensures.ok.0; member = node.ensures.ok.1 }, inr (c.in_ok-find_folder.ensures.ok, inl (c.in_err-store.ensures.err, keeps_same _)))))

pub returns-clause-ok : goal.returns-clause-ok
returns-clause-ok g c =
    on_ok c.show.result
    (λ h. record {
      scheme = c.in_ok-scheme.scheme;
      has_scheme = c.in_ok-scheme.ensures.ok;
      node = c.in_ok-node.node;
      named = record { text = c.in_ok-node.ensures.ok.0; member = c.in_ok-node.ensures.ok.1 };
      in_folder = c.in_ok-find_folder.ensures.ok;
      store = c.in_ok-store.store;
      left = c.show.new.store;
      opened = c.in_ok-store.ensures.ok;
      inputs = h.0;
      records = h.1;
      written = h.2;
    })
    c.show.ensures.ok

pub returns-clause-err : goal.returns-clause-err
returns-clause-err g c =
    let scheme = c.in_ok-scheme in
    let node = c.in_ok-node in
    let store = c.in_ok-store in
    if_err c.show.result
    (λ e h. inr (scheme.scheme, scheme.ensures.ok, inr (node.node, record { text = node.ensures.ok.0; member = node.ensures.ok.1 }, inr (c.in_ok-find_folder.ensures.ok, inr (store.store, c.show.new.store, store.ensures.ok, h)))))
    c.show.ensures.err
