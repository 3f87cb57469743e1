use Rattle.std.proofs.Common.{ap, take, get_or, arith}
use Rattle.std.specs.BTreeMap as tree
use Rattle.std.specs.Ordering.{nat_cmp}
use Rattle.accounts.specs.Tables.{free_in, share_of}
use Rattle.accounts.proofs.Shares.{freed, so_far}
use Rattle.accounts.proofs.account.release_all.Goals as goal

pub release-requires : goal.release-requires
release-requires c =
    let shares = c.args.shares.now in
    let i = c.loop-share.share-index in
    let s = get_or shares i (record { account = 0; count = 0 }) in
    let fits = c.requires s.account in
    let within = so_far shares i (record { account = 0; count = 0 }) c.loop-share-test.true in
    let now = ap free_in (c.loop-share.invariant s.account) in
    let few = freed (share_of (take i shares) s.account) (tree.get nat_cmp c.args.accounts.now s.account) in
    omega (arith, fits, within, now, few)
