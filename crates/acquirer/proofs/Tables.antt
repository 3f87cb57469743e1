-- The table of an acquirer's transfers as a finite map.
use Rattle.std.proofs.Common.{◌≡◌, Bool, cond, Option, sym, ap, ◌∙◌}
use Rattle.std.specs.BTreeMap as tree
use Rattle.std.specs.BTreeMap.{BTreeMap}
use Rattle.std.specs.FinMap.{FinMap, get}
use Rattle.status.proofs.IdOrder.{ids_total, exact_ids}
use Rattle.status.specs.Id.{id_cmp}
use Rattle.status.specs.declared.id.TransactionId.{TransactionId}
use Rattle.acquirer.specs.Transfers.{transfers_by_id}
use Rattle.acquirer.specs.declared.transfer.IncomingTransfer.{IncomingTransfer}
use Rattle.units.proofs.Lists.OrderedMaps.{get_entries, same_entries}

pub get_by_id : (m : BTreeMap TransactionId IncomingTransfer) (t : TransactionId) → get (transfers_by_id m) t ≡ tree.get id_cmp m t
unfolding transfers_by_id
get_by_id m t = get_entries id_cmp ids_total m t

-- tables with the same transfers
pub same_by_id : (a b : BTreeMap TransactionId IncomingTransfer) → ((t : TransactionId) → tree.get id_cmp a t ≡ tree.get id_cmp b t) → transfers_by_id a ≡ transfers_by_id b
unfolding transfers_by_id
same_by_id a b h = same_entries id_cmp ids_total exact_ids a b h

-- what the map has, by the table
pub seen : (m : BTreeMap TransactionId IncomingTransfer) (v : FinMap id_cmp IncomingTransfer) → transfers_by_id m ≡ v → (t : TransactionId) → get v t ≡ tree.get id_cmp m t
seen m v e t = ap (λ w. get w t) (sym e) ∙ get_by_id m t

-- one transfer that changed
pub changed_at : (f : Option IncomingTransfer → Option IncomingTransfer) (b : Bool) (a m : BTreeMap TransactionId IncomingTransfer) (v : FinMap id_cmp IncomingTransfer) (t : TransactionId) → transfers_by_id m ≡ v
    → tree.get id_cmp a t ≡ cond b (f (tree.get id_cmp m t)) (tree.get id_cmp m t) → get (transfers_by_id a) t ≡ cond b (f (get v t)) (get v t)
changed_at f b a m v t e h = get_by_id a t ∙ h ∙ ap (λ o. cond b (f o) o) (sym (seen m v e t))
