use Rattle.std.proofs.Common.{◌≡◌, ℕ, take}
use Rattle.std.specs.BTreeMap as tree
use Rattle.std.specs.Option.{option_map}
use Rattle.std.specs.Ordering.{nat_cmp}
use Rattle.accounts.specs.Tables.{with_fewer, share_of}
use Rattle.accounts.proofs.account.take_out_all.Given as goal

-- the units of the shares so far are out
abbrev pub invariant-loop-share : goal.invariant-loop-share
invariant-loop-share l = (n : ℕ) → tree.get nat_cmp l.accounts n ≡ option_map (with_fewer (share_of (take l.share-index l.shares) n)) (tree.get nat_cmp l.fn.accounts n)
