use Rattle.stores.proofs.Promises.{whole}
use Rattle.stores.proofs.laws.append_is_whole.Goals as goal

pub returns : goal.returns
returns g c = whole g.S.NodeStore.is_honest g.S.NodeStore.content g.S.NodeStore.may_hold g.S.NodeStore.must_reopen
