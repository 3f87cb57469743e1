use Rattle.std.proofs.Common.{◌≡◌, ◌∙◌, length, sym, ap, subst, arith}
use Rattle.std.specs.Prelude.{All}
use Rattle.std.proofs.lemmas.List.{length-map}
use Rattle.std.proofs.lemmas.List.Elements.{All-head, All-rest}
use Rattle.desk.specs.Keeping.{MayOpen}
use Rattle.run.proofs.wiring.desks_of.Goals as goal

pub loop-node-init : goal.loop-node-init
loop-node-init g c =
    rw (c.new-desks.ensures.items, c.into_iter-node-iterator.ensures.into_iter_gives.0)
    (record { count = omega (arith, ap (λ (l : _). length l) c.requires.nodes, length-map c.args.loaded.items (λ s. s.state.node)); may_open = c.requires.may_open })

pub push_desk-requires : goal.push_desk-requires
push_desk-requires g c =
    let opens = MayOpen g.S.NodeStore g.O.Opening.opened in
    All-head opens c.in-Some.node c.next.new.self.rest.items (subst (All opens) c.in-Some.ensures.steps.0 c.loop-node.invariant.may_open)

pub peers_at-peers-requires : goal.peers_at-peers-requires
peers_at-peers-requires g c = omega (arith, c.loop-node.desks.ok.0, c.len.ensures, ap (λ (l : _). length l) c.in-Some.ensures.steps.0, c.loop-node.invariant.count)

pub loop-node-preserved : goal.loop-node-preserved
loop-node-preserved g c =
    let opens = MayOpen g.S.NodeStore g.O.Opening.opened in
    let step = c.in-Some.ensures.steps.0 in
    record {
      count = omega (arith, c.loop-node.desks.ok.0, c.push_desk.new.desks.ok.0, c.in_ok-push_desk.ensures, ap (λ (l : _). length l) step, c.loop-node.invariant.count);
      may_open = All-rest opens c.in-Some.node c.next.new.self.rest.items c.loop-node.node-iterator.rest.items step c.loop-node.invariant.may_open;
    }

pub returns : goal.returns
returns g c =
    let rest = c.loop-node.node-iterator.rest in
    let none : length rest.items ≡ 0 = sym rest.ok.0 ∙ c.in-None.ensures.steps.0 in
    omega (arith, none, c.loop-node.desks.ok.0, c.loop-node.invariant.count)
