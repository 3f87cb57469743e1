-- The other reservations after one transaction's reservation was changed. No public contract cites it.
use Rattle.std.specs.Prelude.{◌≡◌, List, false}
use Rattle.std.specs.BTreeMap.{BTreeMap, get}
use Rattle.units.specs.declared.block.Block.{Block}
use Rattle.status.specs.Id.{id_cmp, same_id}
use Rattle.status.specs.declared.id.TransactionId.{TransactionId}
use Rattle.accounts.specs.Tables.{blocks_of, shares_of}
use Rattle.accounts.specs.declared.reservation.Reservation.{Reservation}
use Rattle.accounts.specs.declared.reservation.Share.{Share}

-- the transaction reserves these, and the others reserve the same as before
pub record AreGiven (id : TransactionId) (blocks : List Block) (shares : List Share) (old new : BTreeMap TransactionId Reservation) : Type 0 where
  pub blocks_are : blocks_of new id ≡ blocks
  pub shares_are : shares_of new id ≡ shares
  pub others : (q : TransactionId) → same_id id q ≡ false → get id_cmp new q ≡ get id_cmp old q
