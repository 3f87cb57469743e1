use Rattle.std.proofs.Common.{◌≡◌, ◌∙◌, ◌++◌, ◌∷◌, List, [], ap, arith, length, subst, sym, OnOk}
use Rattle.std.proofs.lemmas.List.{length-map}
use Rattle.std.proofs.lemmas.List.Elements.{All-push}
use Rattle.weave.proofs.Lists.{one_done, all_done}
use Rattle.desk.specs.Keeping.{StoredView}
use Rattle.command_faults.specs.Faults.{of_store}
use Rattle.ended_nodes.specs.Ended.{stored_in}
use Rattle.ended_nodes.proofs.Reporting.{on_ok}
use Rattle.commands.specs.Commands.{AreClosed}
use Rattle.commands.proofs.Closing.{at_next, part_done}
use Rattle.commands.proofs.running.close_stores.Goals as goal

pub loop-ended-preserved-in-Ok : goal.loop-ended-preserved-in-Ok
loop-ended-preserved-in-Ok g c =
    let closed = c.loop-ended.invariant.closed in
    let step = ap stored_in c.in-Some.ensures.steps.0 in
    let closes = g.A.Archive.closes c.args.archive.now in
    let first : AreClosed closes closed.0 = subst (λ r. OnOk r (AreClosed closes closed.0)) c.in-Ok.is closed.2 in
    record {
      closed = (closed.0 ++ c.in-Some.ended.stored ∷ [], one_done (stored_in c.args.nodes.items) closed.0 (stored_in c.loop-ended.ended-iterator.rest.items) (stored_in c.next.new.self.rest.items) c.in-Some.ended.stored closed.1 step, tt);
      first = record {
        at = length closed.0;
        kept = c.in-Some.ended.stored;
        is = at_next (stored_in c.args.nodes.items) closed.0 (stored_in c.loop-ended.ended-iterator.rest.items) (stored_in c.next.new.self.rest.items) c.in-Some.ended.stored closed.1 step;
        before = subst (AreClosed closes) (sym (part_done (stored_in c.args.nodes.items) closed.0 (stored_in c.loop-ended.ended-iterator.rest.items) closed.1)) first;
        cause = c.in-Err.fault;
        failed = subst (λ s. g.A.Archive.unclosed c.args.archive.now s c.in-Err.fault) c.into_parts-state.ensures.store c.in-Err.ensures.unclosed;
        told = c.store_fault.ensures ∙ ap (λ n. of_store n c.in-Err.fault) (c.node-node.ensures ∙ ap (λ s. s.node) c.into_parts-state.ensures.state);
      };
    }

pub loop-ended-preserved-in-Err-first : goal.loop-ended-preserved-in-Err-first
loop-ended-preserved-in-Err-first g c =
    let closed = c.loop-ended.invariant.closed in
    let all = closed.0 ++ c.in-Some.ended.stored ∷ [] in
    record {
      closed = (
        all,
        one_done (stored_in c.args.nodes.items) closed.0 (stored_in c.loop-ended.ended-iterator.rest.items) (stored_in c.next.new.self.rest.items) c.in-Some.ended.stored closed.1 (ap stored_in c.in-Some.ensures.steps.0),
        subst (λ r. OnOk r (AreClosed (g.A.Archive.closes c.args.archive.now) all)) (sym c.in-Err-first.is) tt,
      );
      first = c.loop-ended.invariant.first;
    }

pub loop-ended-preserved : goal.loop-ended-preserved
loop-ended-preserved g c =
    let closed = c.loop-ended.invariant.closed in
    let closes = g.A.Archive.closes c.args.archive.now in
    record {
      closed = (
        closed.0 ++ c.in-Some.ended.stored ∷ [],
        one_done (stored_in c.args.nodes.items) closed.0 (stored_in c.loop-ended.ended-iterator.rest.items) (stored_in c.next.new.self.rest.items) c.in-Some.ended.stored closed.1 (ap stored_in c.in-Some.ensures.steps.0),
        on_ok c.loop-ended.first (λ done. All-push (λ (k : StoredView g.row.A-Store.Denot). closes k.store) closed.0 c.in-Some.ended.stored done (subst closes c.into_parts-state.ensures.store c.in_default.ensures.closes)) closed.2,
      );
      first = c.loop-ended.invariant.first;
    }

pub returns-clause-ok : goal.returns-clause-ok
returns-clause-ok g c =
    let closed = c.loop-ended.invariant.closed in
    let left = c.loop-ended.ended-iterator.rest in
    let none : length (stored_in left.items) ≡ 0 = omega (arith, c.in-None.ensures.steps.0, left.ok.0, length-map left.items (λ e. e.stored)) in
    subst (λ (ks : List (StoredView g.row.A-Store.Denot)). OnOk c.loop-ended.first (AreClosed (g.A.Archive.closes c.args.archive.now) ks)) (sym (all_done (stored_in c.args.nodes.items) closed.0 (stored_in left.items) closed.1 none)) closed.2
