use Rattle.std.proofs.Common.{◌∙◌, inl, inr, sym}
use Rattle.std.proofs.lemmas.Result.{err_from_is_err_and}
use Rattle.node_setup.specs.Setups.{IsNodeWord}
use Rattle.node_setup.proofs.Setting.{links_as}
use Rattle.node_setup.proofs.setup.read_setup.Goals as goal

pub returns-in_err-peers-clause-err : goal.returns-in_err-peers-clause-err
returns-in_err-peers-clause-err g c =
    let p = err_from_is_err_and c.from_residual-in_err-peers.result c.from_residual-in_err-peers.ensures.1 in
    let named : IsNodeWord c.args.scheme.now c.args.words.now c.in-Ok.node = record { text = sym c.as_str.ensures.value ∙ c.in-Ok.ensures.ok.0; member = c.in-Ok.ensures.ok.1 } in
    rw (p.1, p.2) (inr (c.in-Ok.node, named, inr (inl (links_as _ _ _ _ _ _ _ c.guard_of-guard.ensures c.as_slice.ensures.value c.in_err-peers.ensures.err))))

pub returns-in_err-clean_up-clause-err : goal.returns-in_err-clean_up-clause-err
returns-in_err-clean_up-clause-err g c =
    let p = err_from_is_err_and c.from_residual-in_err-clean_up.result c.from_residual-in_err-clean_up.ensures.1 in
    let named : IsNodeWord c.args.scheme.now c.args.words.now c.in-Ok.node = record { text = sym c.as_str.ensures.value ∙ c.in-Ok.ensures.ok.0; member = c.in-Ok.ensures.ok.1 } in
    rw p.1 (inr (c.in-Ok.node, named, inr (inr (c.in_err-clean_up.field-0.0, p.2, c.in_err-clean_up.ensures.err))))
