use Rattle.settling.proofs.JudgedNotes.{Judged}
use Rattle.settling.proofs.replica.Replica.judge_all.Given as goal

abbrev pub invariant-loop-k : goal.invariant-loop-k
invariant-loop-k g l = Judged l.initial.self l.records l.notes l.k l.self
