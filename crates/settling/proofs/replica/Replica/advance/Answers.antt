use Rattle.std.proofs.Common.{◌-◌, ◌++◌, take, drop, sym, subst, arith}
use Rattle.protocol.specs.Cores.{HasFault}
use Rattle.protocol.specs.declared.replay_fault.ReplayFault.TheVariants.{NotRecorded}
use Rattle.settling.specs.Replicas.{HasFollowed, ReplicaView}
use Rattle.settling.proofs.FollowedRecords.{fails_as, followed_on}
use Rattle.settling.proofs.replica.Replica.advance.Goals as goal
use Rattle.settling.proofs.replica.Replica.advance.Goals.{in-Ok, in-Err-NotRecorded, in-Err-NoMemory}

pub returns-clause-followed : goal.returns-clause-followed
returns-clause-followed g c held opens followed =
    let now : ReplicaView = record { scheme = g.C.NodeCore.scheme_of c.self.inside.core; node = g.C.NodeCore.node_of c.self.inside.core; journal = g.C.NodeCore.journal_of c.self.inside.core } in
    let new : ReplicaView = record { scheme = g.C.NodeCore.scheme_of c.resume.new.core; node = g.C.NodeCore.node_of c.resume.new.core; journal = g.C.NodeCore.journal_of c.resume.new.core } in
    let own = c.resume.ensures in
    followed_on held now new c.args.records.now (c.records.result - c.args.opening) c.args.count (omega (arith, c.records.ensures, opens)) own.scheme own.node own.prefix (subst (HasFollowed held c.args.records.now) (sym c.self.view_is) followed)

pub returns-clause-fault : goal.returns-clause-fault
returns-clause-fault g c =
    let now : ReplicaView = record { scheme = g.C.NodeCore.scheme_of c.self.inside.core; node = g.C.NodeCore.node_of c.self.inside.core; journal = g.C.NodeCore.journal_of c.self.inside.core } in
    let have = c.records.result - c.args.opening in
    elim c.match-resume.branch [
      | in-Ok w ↦ rw (w.result-is) tt
      | in-Err-NotRecorded w ↦
          rw (w.result-is)
          (λ held opens followed notes.
          fails_as held now c.args.records.now have (c.args.count - have) notes (NotRecorded w.in-Err-NotRecorded.place) (omega (arith, c.records.ensures, opens)) (subst (HasFollowed held c.args.records.now) (sym c.self.view_is) followed)
          (subst (HasFault now.scheme now.node (now.journal ++ take (c.args.count - have) (drop have c.args.records.now))) w.in-Err-NotRecorded.field-0-is w.in-Err-NotRecorded.ensures.fault))
      | in-Err-NoMemory w ↦ rw (w.result-is) (λ held opens followed notes. tt)
    ]
