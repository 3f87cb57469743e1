use Rattle.serde_json.specs.View.{view}
use Rattle.scheme.proofs.Numbered.{written_different, written_numbered}
use Rattle.scheme.proofs.OneAnswer.{fault_told, fault_of_sorted}
use Rattle.scheme.proofs.reading.scheme.Goals as goal

pub returns-in_err-records-clause-fault : goal.returns-in_err-records-clause-fault
returns-in_err-records-clause-fault c =
    fault_told (view c.args.value.now) c.in_err-records.field-0.0 c.from_residual.result c.from_residual.ensures.1 c.in_err-records.ensures

pub returns-in-Some-clause-fault : goal.returns-in-Some-clause-fault
returns-in-Some-clause-fault c =
    let p = c.in_ok-records in
    let first = rw c.in-Some.is at c.in_ok-fault.ensures.some in
    fault_of_sorted (view c.args.value.now) p.records p.listed c.as_slice.result.now c.in-Some.fault p.ensures (rw c.as_slice.ensures c.into_sorted-members.ensures.moved) first

pub first_fault-requires-clause-numbered : goal.first_fault-requires-clause-numbered
first_fault-requires-clause-numbered c =
    let p = c.in_ok-records in
    rw c.as_slice.ensures (written_numbered (view c.args.value.now) p.records p.listed c.into_sorted-members.result p.ensures c.into_sorted-members.ensures.moved)

pub first_fault-requires-clause-kinds : goal.first_fault-requires-clause-kinds
first_fault-requires-clause-kinds c =
    let p = c.in_ok-records in
    rw c.as_slice.ensures (written_different (view c.args.value.now) p.records p.listed c.into_sorted-members.result p.ensures c.into_sorted-members.ensures.moved)
