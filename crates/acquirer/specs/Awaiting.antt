-- Which transfers each account awaits, as an acquirer keeps it. No public contract cites it.
use Rattle.std.specs.Prelude.{◌≡◌, ◌==◌, ◌&&◌, Bool, false, Option}
use Rattle.std.specs.BTreeMap as tree
use Rattle.std.specs.BTreeMap.{BTreeMap}
use Rattle.std.specs.BTreeSet.{BTreeSet, contains}
use Rattle.std.specs.Option.{option_map_or}
use Rattle.std.specs.declared.cmp.Ordering.{Ordering}
use Rattle.status.specs.Id.{id_cmp, same_id}
use Rattle.status.specs.declared.id.TransactionId.{TransactionId}
use Rattle.acquirer.specs.Transfers.{is_awaited_by}
use Rattle.acquirer.specs.contracts.awaited.AwaitedOrd.TheImpl.{cmp-value as awaited-order}
use Rattle.acquirer.specs.declared.awaited.Awaited.{Awaited}
use Rattle.acquirer.specs.declared.transfer.IncomingTransfer.{IncomingTransfer}

-- by account, and then by identifier
abbrev pub awaited_cmp : Awaited → Awaited → Ordering
awaited_cmp = awaited-order.it

-- the set has the transfers that were accepted, each by its account
abbrev pub AreAwaited : BTreeMap TransactionId IncomingTransfer → BTreeSet Awaited → Type 0
AreAwaited transfers awaited = (q : Awaited) → contains awaited_cmp awaited q ≡ is_awaited_by q.account (tree.get id_cmp transfers q.id)

-- the entry is the given one
abbrev pub is_awaited_entry : Awaited → Option Awaited → Bool
is_awaited_entry q entry = option_map_or (λ p. (p.account == q.account) && same_id p.id q.id) entry false
