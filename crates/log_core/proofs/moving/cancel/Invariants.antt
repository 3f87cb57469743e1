use Rattle.std.proofs.Common.{◌≡◌, ◌&&◌, not, take}
use Rattle.std.specs.BTreeMap as tree
use Rattle.std.specs.BTreeSet.{contains}
use Rattle.std.specs.FinMap as finite
use Rattle.std.specs.Prelude.{option_map, if◌then◌else◌}
use Rattle.units.specs.Intervals.{labels_that}
use Rattle.units.specs.declared.block.Unit.{Unit as Serial}
use Rattle.status.specs.Id.{id_cmp}
use Rattle.status.specs.declared.id.TransactionId.{TransactionId}
use Rattle.status.specs.declared.status.Status.TheVariants.{Cancelled}
use Rattle.log_core.specs.Effects.{is_among}
use Rattle.log_core.specs.Kept.{waiting_cmp}
use Rattle.log_core.specs.Transfers.{AreLabelled, AreWaiting, came_at}
use Rattle.log_core.specs.declared.waiting.Waiting.{Waiting}
use Rattle.log_core.proofs.moving.cancel.Given as goal

-- the transactions so far are cancelled
abbrev pub invariant-loop-id : goal.invariant-loop-id
invariant-loop-id l = record {
  transfers : (t : TransactionId)
      → tree.get id_cmp l.transfers t ≡ (if is_among (take l.id-index l.ids) t then option_map (came_at Cancelled l.moment) (tree.get id_cmp l.initial.transfers t) else tree.get id_cmp l.initial.transfers t);
  units : (s : Serial) → finite.get l.under_way s ≡ labels_that (λ u. not (is_among (take l.id-index l.ids) u.id)) (finite.get l.initial.under_way s);
  waits : (w : Waiting) → contains waiting_cmp l.checked w ≡ (not (is_among (take l.id-index l.ids) w.id) && contains waiting_cmp l.initial.checked w);
  waiting : AreWaiting l.transfers l.checked;
  labelled : AreLabelled l.transfers l.under_way;
}
