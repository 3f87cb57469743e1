use Rattle.tagged_lines.proofs.GivenOut.{given_out_has_tag}
use Rattle.tagged_lines.proofs.laws.given_has_tag.Goals as goal

pub returns : goal.returns
returns c = λ keys node raw line rest free e. given_out_has_tag keys node raw line rest free e
