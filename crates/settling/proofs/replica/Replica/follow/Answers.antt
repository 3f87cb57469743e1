use Rattle.std.proofs.Common.{◌≡◌, ◌++◌, length, ap, sym, subst, ◌∙◌, arith}
use Rattle.std.proofs.lemmas.Result.{err_from_is_err_and}
use Rattle.settling.specs.Replicas.{AwaitsMore, ReplicaView}
use Rattle.settling.proofs.FollowedRecords.{as_whole}
use Rattle.settling.proofs.replica.Replica.follow.Goals as goal

pub returns-in_err-advance-clause-fault : goal.returns-in_err-advance-clause-fault
returns-in_err-advance-clause-fault g c =
    let p = err_from_is_err_and c.from_residual-in_err-advance.result c.from_residual-in_err-advance.ensures.1 in
    let same = ap (λ (v : ReplicaView). length v.journal) c.self.view_is in
    rw (p.1, p.2) (c.in_err-advance.ensures.fault c.args.self.now (sym same ∙ sym c.records-opening.ensures) c.in_ok-judged.ensures.followed c.args.notes.now)

pub returns-clause-all : goal.returns-clause-all
returns-clause-all g c =
    let held = c.args.self.now in
    let same = ap (λ (v : ReplicaView). length v.journal) c.self.view_is in
    let opens : length held.journal ≡ c.records-opening.result = sym same ∙ sym c.records-opening.ensures in
    let followed = c.advance.ensures.followed held opens c.in_ok-judged.ensures.followed in
    let whole : c.advance.new.self.journal ≡ held.journal ++ c.args.records.now = as_whole held c.advance.new.self c.args.records.now followed (omega (arith, c.in_ok-advance.ensures.long, opens)) in
    subst (λ l. AwaitsMore (length l) c.args.notes.now c.in_ok-judged.judged) (sym whole) c.in_ok-judged.ensures.all
