use Rattle.wire.proofs.OneRecord.{text_of_one, texts_apart}
use Rattle.wire.proofs.laws.one_input.Goals as goal

pub returns-clause-one : goal.returns-clause-one
returns-clause-one c = text_of_one

pub returns-clause-apart : goal.returns-clause-apart
returns-clause-apart c = texts_apart
