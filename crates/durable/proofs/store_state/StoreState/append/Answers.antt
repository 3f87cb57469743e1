use Rattle.std.proofs.Common.{sym, subst}
use Rattle.sqlite.specs.Files.{over_files}
use Rattle.durable.specs.Connected as connected
use Rattle.durable.specs.Kept.{content, disk_faults}
use Rattle.store_tables.specs.Rooms.{LacksRoom}
use Rattle.durable.proofs.Linked.{linked_appends}
use Rattle.durable.proofs.store_state.StoreState.append.Goals as goal

pub returns-in-Open-clause-appends : goal.returns-in-Open-clause-appends
returns-in-Open-clause-appends g c = linked_appends g.D.Disk c.args.self.now _ c.append.new.self c.in-Open.is c.args.batch.now c.append.result c.append.ensures.appends

pub returns-in-Open-clause-full : goal.returns-in-Open-clause-full
returns-in-Open-clause-full g c = λ clean full.
    subst (λ store_state. LacksRoom (content g.D.Disk store_state) c.args.batch.now (disk_faults g.D.Disk store_state) (connected.disk_faults over_files c.append.new.self)) (sym c.in-Open.is) (c.append.ensures.full clean full)
