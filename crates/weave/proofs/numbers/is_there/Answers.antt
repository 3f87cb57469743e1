use Rattle.std.proofs.Common.{sym, ap, ◌∙◌}
use Rattle.units.proofs.Lists.OneValue.{one_some}
use Rattle.protocol.specs.declared.event.Posted.{Posted}
use Rattle.weave.proofs.numbers.is_there.Goals as goal

pub returns-in-Some : goal.returns-in-Some
returns-in-Some c = (
  λ t. (c.in-Some.posted.now, sym c.in-Some.ensures, c.same.ensures.0 t),
  λ h. c.same.ensures.1 (ap (λ (p : Posted). p.message) (one_some c.in-Some.posted.now h.0 (c.in-Some.ensures ∙ h.1)) ∙ h.2),
)
