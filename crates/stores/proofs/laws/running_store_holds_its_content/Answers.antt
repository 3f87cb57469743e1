use Rattle.stores.proofs.Promises.{loaded}
use Rattle.stores.proofs.laws.running_store_holds_its_content.Goals as goal

pub returns-clause-appended : goal.returns-clause-appended
returns-clause-appended g c old new batch result appends = appends.settled

pub returns-clause-loaded : goal.returns-clause-loaded
returns-clause-loaded g c = loaded g.S.NodeStore.is_honest g.S.NodeStore.content g.S.NodeStore.may_hold g.S.NodeStore.must_reopen

pub returns-clause-reopened : goal.returns-clause-reopened
returns-clause-reopened g c old new reopens = reopens.settled
