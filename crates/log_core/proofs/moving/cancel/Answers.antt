use Rattle.std.proofs.Common.{arith, refl, ◌∙◌}
use Rattle.std.proofs.lemmas.Grind.{common_steps}
use Rattle.std.specs.BTreeMap as tree
use Rattle.std.specs.BTreeSet.{contains}
use Rattle.std.specs.FinMap as finite
use Rattle.status.specs.Id.{id_cmp}
use Rattle.log_core.specs.Kept.{waiting_cmp}
use Rattle.log_core.proofs.CancelledTransactions.{changed_after, labels_after, none_labelled_yet, entries_after}
use Rattle.log_core.proofs.moving.cancel.Goals as goal

pub loop-id-init : goal.loop-id-init
loop-id-init c =
    record {
      transfers = λ t. refl;
      units = λ s. none_labelled_yet (finite.get c.args.under_way.now s);
      waits = λ w. refl;
      waiting = c.requires.waiting;
      labelled = c.requires.labelled;
    }

pub loop-id-preserved : goal.loop-id-preserved
loop-id-preserved c =
    let ids = c.args.ids.now in
    let i = c.loop-id.id-index in
    let id = c.id-item.result in
    record {
      transfers = λ t. c.finish.ensures.transfers t ∙ changed_after ids i id c.loop-id-test.true c.id-item.is t c.args.moment (tree.get id_cmp c.args.transfers.now t) (tree.get id_cmp c.loop-id.transfers t) (c.loop-id.invariant.transfers t);
      units = λ s. c.finish.ensures.units s ∙ labels_after ids i id c.loop-id-test.true c.id-item.is (finite.get c.args.under_way.now s) (finite.get c.loop-id.under_way s) (c.loop-id.invariant.units s);
      waits = λ w. c.finish.ensures.waits w ∙ entries_after ids i id c.loop-id-test.true c.id-item.is w.id (contains waiting_cmp c.args.checked.now w) (contains waiting_cmp c.loop-id.checked w) (c.loop-id.invariant.waits w);
      waiting = c.finish.ensures.waiting;
      labelled = c.finish.ensures.labelled;
    }

pub returns-clause-transfers : goal.returns-clause-transfers
returns-clause-transfers c = grind (arith, common_steps)

pub returns-clause-units : goal.returns-clause-units
returns-clause-units c = grind (arith, common_steps)

pub returns-clause-waits : goal.returns-clause-waits
returns-clause-waits c = grind (arith, common_steps)
