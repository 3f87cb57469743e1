use Rattle.scheme.proofs.OneAnswer.{no_fault, one_fault}
use Rattle.scheme.proofs.reading.one_answer.Goals as goal

pub returns-clause-no_fault : goal.returns-clause-no_fault
returns-clause-no_fault c = no_fault

pub returns-clause-one_fault : goal.returns-clause-one_fault
returns-clause-one_fault c = one_fault
