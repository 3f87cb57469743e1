use Rattle.std.proofs.Common.{Err, IfErr, List, Ok, Result, inl, inr, subst, ℕ}
use Rattle.std.proofs.lemmas.Result.{err_from_is_err_and}
use Rattle.ended_nodes.proofs.Reporting.{keeps_same, on_ok}
use Rattle.commands.specs.Opened.{HasScheme}
use Rattle.commands.proofs.standing.stand_alone.Goals as goal

-- for any fault
any_err : {X E : Type 0} {Q : E → Type 0} (r : Result X E) → ((e : E) → Q e) → IfErr r Q
any_err (Ok x) f = tt
any_err (Err e) f = f e

pub returns-in_err-setup-clause-err : goal.returns-in_err-setup-clause-err
returns-in_err-setup-clause-err g c =
    let p = err_from_is_err_and c.from_residual-in_err-setup.result c.from_residual-in_err-setup.ensures.1 in
    let has = subst (λ (path : List ℕ). HasScheme g.A.Archive c.args.archive.now g.A.File.Read.remaining path c.in_ok-scheme.scheme) c.as_str.ensures.value c.in_ok-scheme.ensures.ok in
    rw (p.1, p.2) (inr (c.in_ok-scheme.scheme, has, inl (c.in_err-setup.ensures.err, keeps_same (g.W.Write.contents c.args.writer.now))))

pub returns-clause-ok : goal.returns-clause-ok
returns-clause-ok g c =
    let has = subst (λ (path : List ℕ). HasScheme g.A.Archive c.args.archive.now g.A.File.Read.remaining path c.in_ok-scheme.scheme) c.as_str.ensures.value c.in_ok-scheme.ensures.ok in
    on_ok c.stand.result
    (λ stands. record {
      scheme = c.in_ok-scheme.scheme;
      has_scheme = has;
      node = c.in_ok-setup.setup.node;
      named = c.in_ok-setup.ensures.ok.named;
      stands = stands;
    })
    c.stand.ensures

pub returns-clause-err : goal.returns-clause-err
returns-clause-err g c =
    let has = subst (λ (path : List ℕ). HasScheme g.A.Archive c.args.archive.now g.A.File.Read.remaining path c.in_ok-scheme.scheme) c.as_str.ensures.value c.in_ok-scheme.ensures.ok in
    any_err c.stand.result (λ fault. inr (c.in_ok-scheme.scheme, has, inr (c.in_ok-setup.setup.node, c.in_ok-setup.ensures.ok.named)))
