use Rattle.std.proofs.Common.{◌≡◌, ◌++◌, length, ap, sym, arith, length-append}
use Rattle.std.proofs.lemmas.Result.{err_from_is_err_and}
use Rattle.settling.specs.Replicas.{ReplicaView}
use Rattle.settling.proofs.JudgedNotes.{awaits, fell, one_judged, too_short, unborne}
use Rattle.settling.proofs.replica.Replica.judge_all.Goals as goal

pub returns-then-note-opening-clause-fault : goal.returns-then-note-opening-clause-fault
returns-then-note-opening-clause-fault g c =
    too_short c.args.self.now c.args.records.now c.args.notes.now c.loop-k.k c.index-notes-k.result c.loop-k-test.true c.index-notes-k.is (omega (arith, c.if-note-opening.true, c.requires))

pub returns-then-count-records-clause-all : goal.returns-then-count-records-clause-all
returns-then-count-records-clause-all g c =
    let held = c.args.self.now in
    let all = length-append held.journal c.args.records.now in
    awaits held c.args.records.now c.args.notes.now c.loop-k.k c.index-notes-k.result c.loop-k-test.true c.index-notes-k.is (length (held.journal ++ c.args.records.now)) (omega (arith, all, c.requires, c.if-note-opening.false, c.if-count-records.true))

pub returns-then-note-records-clause-fault : goal.returns-then-note-records-clause-fault
returns-then-note-records-clause-fault g c =
    let own = c.records.ensures in
    let same = ap (λ (v : ReplicaView). length v.journal) c.self.view_is in
    fell c.args.self.now c.args.records.now c.args.notes.now c.loop-k.k c.index-notes-k.result c.loop-k-test.true c.index-notes-k.is c.loop-k.self c.loop-k.invariant (omega (arith, c.requires, c.if-note-opening.false))
    (omega (arith, own, same, c.if-note-records.true))

pub returns-in_err-advance-clause-fault : goal.returns-in_err-advance-clause-fault
returns-in_err-advance-clause-fault g c =
    let p = err_from_is_err_and c.from_residual.result c.from_residual.ensures.1 in
    rw (p.1, p.2) (c.in_err-advance.ensures.fault c.args.self.now (sym c.requires) c.loop-k.invariant.followed c.args.notes.now)

pub returns-in_err-judge-clause-fault : goal.returns-in_err-judge-clause-fault
returns-in_err-judge-clause-fault g c =
    let p = err_from_is_err_and c.from_residual-in_err-judge.result c.from_residual-in_err-judge.ensures.1 in
    let held = c.args.self.now in
    let mid = c.advance.new.self in
    let followed = c.advance.ensures.followed held (sym c.requires) c.loop-k.invariant.followed in
    let long : length mid.journal ≡ c.index-notes-k.result.length = omega (arith, c.in_ok-advance.ensures.long, c.if-note-opening.false) in
    rw (p.1, p.2)
    (unborne held c.args.records.now c.args.notes.now c.loop-k.k c.index-notes-k.result c.loop-k-test.true c.index-notes-k.is mid c.in_err-judge.field-0.0 followed long c.in_err-judge.ensures.fault)

pub loop-k-preserved : goal.loop-k-preserved
loop-k-preserved g c =
    let held = c.args.self.now in
    let mid = c.advance.new.self in
    let followed = c.advance.ensures.followed held (sym c.requires) c.loop-k.invariant.followed in
    let long : length mid.journal ≡ c.index-notes-k.result.length = omega (arith, c.in_ok-advance.ensures.long, c.if-note-opening.false) in
    one_judged held c.args.records.now c.args.notes.now c.loop-k.k c.index-notes-k.result c.loop-k-test.true c.index-notes-k.is c.loop-k.self mid c.judge.new.self c.loop-k.invariant followed long
    (omega (arith, c.requires, c.if-note-opening.false)) c.judge.ensures.scheme c.judge.ensures.node c.in_ok-judge.ensures.journal c.in_ok-judge.ensures.expected
