-- The table of an initiator's transfers as a finite map.
use Rattle.std.proofs.Common.{◌≡◌, Bool, true, false, cond, Option, Some, None, refl, sym, ap, ◌∙◌}
use Rattle.std.specs.BTreeMap as tree
use Rattle.std.specs.BTreeMap.{BTreeMap}
use Rattle.std.specs.FinMap.{FinMap, get}
use Rattle.status.proofs.Ids.{id_of_same}
use Rattle.units.proofs.Lists.OrderedMaps.{get_entries, same_entries}
use Rattle.status.proofs.IdOrder.{ids_total, exact_ids}
use Rattle.status.specs.Id.{id_cmp, same_id}
use Rattle.status.specs.declared.id.TransactionId.{TransactionId}
use Rattle.initiator.specs.Transfers.{transfers_by_id, opened}
use Rattle.initiator.specs.declared.transfer.OutgoingTransfer.{OutgoingTransfer}

pub get_by_id : (m : BTreeMap TransactionId OutgoingTransfer) (t : TransactionId) → get (transfers_by_id m) t ≡ tree.get id_cmp m t
unfolding transfers_by_id
get_by_id m t = get_entries id_cmp ids_total m t

-- tables with the same transfers
pub same_by_id : (a b : BTreeMap TransactionId OutgoingTransfer) → ((t : TransactionId) → tree.get id_cmp a t ≡ tree.get id_cmp b t) → transfers_by_id a ≡ transfers_by_id b
unfolding transfers_by_id
same_by_id a b h = same_entries id_cmp ids_total exact_ids a b h

-- what the map has, by the table
pub seen : (m : BTreeMap TransactionId OutgoingTransfer) (v : FinMap id_cmp OutgoingTransfer) → transfers_by_id m ≡ v → (t : TransactionId) → get v t ≡ tree.get id_cmp m t
seen m v e t = ap (λ w. get w t) (sym e) ∙ get_by_id m t

-- one transfer that changed
pub changed_at : (f : Option OutgoingTransfer → Option OutgoingTransfer) (b : Bool) (a m : BTreeMap TransactionId OutgoingTransfer) (v : FinMap id_cmp OutgoingTransfer) (t : TransactionId) → transfers_by_id m ≡ v
    → tree.get id_cmp a t ≡ cond b (f (tree.get id_cmp m t)) (tree.get id_cmp m t) → get (transfers_by_id a) t ≡ cond b (f (get v t)) (get v t)
changed_at f b a m v t e h = get_by_id a t ∙ h ∙ ap (λ o. cond b (f o) o) (sym (seen m v e t))

absent : (b : Bool) (o : Option OutgoingTransfer) → (b ≡ true → o ≡ None) → cond b None o ≡ o
absent true o h = sym (h refl)
absent false o h = refl

-- a transfer that was put in, where none was, and taken out again
pub same_again : (id : TransactionId) (a b m : BTreeMap TransactionId OutgoingTransfer) → tree.get id_cmp m id ≡ None → ((t : TransactionId) → tree.get id_cmp b t ≡ cond (same_id id t) (Some opened) (tree.get id_cmp m t))
    → ((t : TransactionId) → tree.get id_cmp a t ≡ cond (same_id id t) None (tree.get id_cmp b t)) → transfers_by_id a ≡ transfers_by_id m
same_again id a b m none put gone =
    same_by_id a m (λ t. gone t ∙ ap (cond (same_id id t) None) (put t) ∙ twice (same_id id t) (tree.get id_cmp m t) ∙ absent (same_id id t) (tree.get id_cmp m t) (λ e. ap (tree.get id_cmp m) (sym (id_of_same id t e)) ∙ none))
  where
    twice : (b : Bool) (o : Option OutgoingTransfer) → cond b None (cond b (Some opened) o) ≡ cond b None o
    twice true o = refl
    twice false o = refl
