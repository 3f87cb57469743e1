use Rattle.std.proofs.Common.{inl, inr}
use Rattle.std.proofs.lemmas.Result.{err_from_is_err_and}
use Rattle.ended_nodes.proofs.Reporting.{if_err, keeps_same, on_ok}
use Rattle.commands.proofs.running.run_folder.Goals as goal

pub returns-in_err-lines-clause-err : goal.returns-in_err-lines-clause-err
returns-in_err-lines-clause-err g c =
    let p = err_from_is_err_and c.from_residual-in_err-lines.result c.from_residual-in_err-lines.ensures.1 in
    let scheme = c.in_ok-scheme in
    rw (p.1, p.2) (inr (scheme.scheme, scheme.ensures.ok, inl (c.in_err-lines.ensures.err, keeps_same _)))

pub returns-in_err-find_folder-clause-err : goal.returns-in_err-find_folder-clause-err
returns-in_err-find_folder-clause-err g c =
    let p = err_from_is_err_and c.from_residual-in_err-find_folder.result c.from_residual-in_err-find_folder.ensures.1 in
    let scheme = c.in_ok-scheme in
    let lines = c.in_ok-lines in
    rw (p.1, p.2) (inr (scheme.scheme, scheme.ensures.ok, inr (lines.lines.items, lines.ensures.ok, inl (c.in_err-find_folder.ensures.err, keeps_same _))))

pub returns-in_err-loaded-clause-err : goal.returns-in_err-loaded-clause-err
returns-in_err-loaded-clause-err g c =
    let p = err_from_is_err_and c.from_residual-in_err-loaded.result c.from_residual-in_err-loaded.ensures.1 in
    let scheme = c.in_ok-scheme in
    let lines = c.in_ok-lines in
    rw (p.1, p.2) (inr (scheme.scheme, scheme.ensures.ok, inr (lines.lines.items, lines.ensures.ok, inr (c.in_ok-find_folder.ensures.ok, inl (c.in_err-loaded.ensures.err, keeps_same _)))))

pub returns-clause-ok : goal.returns-clause-ok
returns-clause-ok g c =
    on_ok c.run_loaded.result
    (λ h. record {
      scheme = c.in_ok-scheme.scheme;
      has_scheme = c.in_ok-scheme.ensures.ok;
      lines = c.as_slice.result.now;
      has_script = rw c.as_slice.ensures.value c.in_ok-lines.ensures.ok;
      in_folder = c.in_ok-find_folder.ensures.ok;
      loaded = c.in_ok-loaded.loaded.items;
      loads = c.in_ok-loaded.ensures.ok;
      runs = h;
    })
    c.run_loaded.ensures.ok

pub returns-clause-err : goal.returns-clause-err
returns-clause-err g c =
    let scheme = c.in_ok-scheme in
    let loaded = c.in_ok-loaded in
    if_err c.run_loaded.result
    (λ e h. inr (scheme.scheme, scheme.ensures.ok, inr (c.as_slice.result.now, rw c.as_slice.ensures.value c.in_ok-lines.ensures.ok, inr (c.in_ok-find_folder.ensures.ok, inr (loaded.loaded.items, loaded.ensures.ok, h)))))
    c.run_loaded.ensures.err
