use Rattle.std.proofs.Common.{◌≡◌, ◌∙◌, Option, inl, sym, ap, subst}
use Rattle.units.proofs.Same.{node_told}
use Rattle.desk.specs.StoreFault.{StoreFault}
use Rattle.desk.specs.Keeping.{IsAtDesk}
use Rattle.node_state.specs.Views.{StateView}
use Rattle.serving.proofs.Ending.{late_store, not_told, told_again}
use Rattle.serving.proofs.ends.end_desk.Goals as goal

pub returns-then-ne-clause-err : goal.returns-then-ne-clause-err
returns-then-ne-clause-err g c =
    let stored = c.end-stored.result.stored in
    let named : c.node.result ≡ stored.state.node = c.node.ensures ∙ ap (λ (h : StateView). h.node) c.state.ensures.state in
    λ scheme. inl (record {
      kept = stored;
      keeps = c.end-stored.ensures.keeps;
      other = λ e. not_told _ (node_told c.node.result c.args.node) (sym c.ne.ensures ∙ c.if-ne.true) (named ∙ e);
    })

pub returns-in-None-clause-node : goal.returns-in-None-clause-node
returns-in-None-clause-node g c =
    let named : c.node.result ≡ c.end-stored.result.stored.state.node = c.node.ensures ∙ ap (λ (h : StateView). h.node) c.state.ensures.state in
    sym named ∙ told_again _ (node_told c.node.result c.args.node) (sym c.ne.ensures ∙ c.if-ne.false)

pub returns-in-Some-clause-err : goal.returns-in-Some-clause-err
returns-in-Some-clause-err g c =
    let stored = c.end-stored.result.stored in
    let named : c.node.result ≡ stored.state.node = c.node.ensures ∙ ap (λ (h : StateView). h.node) c.state.ensures.state in
    λ scheme. rw c.store_fault.ensures
    (late_store g.S.NodeStore g.O.Opening.opened scheme c.args.node c.in-Some.fault (record {
      kept = stored;
      keeps = c.end-stored.ensures.keeps;
      node_is = sym named ∙ told_again _ (node_told c.node.result c.args.node) (sym c.ne.ensures ∙ c.if-ne.false);
      at = subst (λ (fault : Option StoreFault). IsAtDesk g.S.NodeStore g.O.Opening.opened stored fault) c.in-Some.is c.end-stored.ensures.at;
    }))
