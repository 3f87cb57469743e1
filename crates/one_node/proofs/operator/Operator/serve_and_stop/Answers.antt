use Rattle.one_node.proofs.operator.Operator.serve_and_stop.Goals.{in-Ok, in-Err}
use Rattle.one_node.proofs.operator.Operator.serve_and_stop.Goals as goal

pub returns : goal.returns
returns g c = elim c.match-wait.branch [
  | in-Ok w ↦ rw (w.self-is, w.reader-is, w.writer-is, w.evidence-is, w.next-is) w.serve-next.ensures
  | in-Err w ↦ rw (w.next-is) (record { talks = λ begun is. tt })
]
