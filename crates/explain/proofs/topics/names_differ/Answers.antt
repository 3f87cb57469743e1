use Rattle.explain.proofs.Names.{one_text}
use Rattle.explain.proofs.topics.names_differ.Goals as goal

pub returns : goal.returns
returns c = λ word first second a b. one_text word first second a b
