use Rattle.registry_core.proofs.CoreReadings.{clean_up_refused, eligible_refused}
use Rattle.registry_core.proofs.registry.RegistryCoreNodeCore.step.Goals as goal

pub returns-in-CleanUp-clause-answer : goal.returns-in-CleanUp-clause-answer
returns-in-CleanUp-clause-answer c = clean_up_refused c.args.self.now c.args.input.now c.in-CleanUp.field-0 c.in-CleanUp.is

pub returns-in-Eligible-clause-answer : goal.returns-in-Eligible-clause-answer
returns-in-Eligible-clause-answer c = eligible_refused c.args.self.now c.args.input.now c.in-Eligible.registry c.in-Eligible.may c.in-Eligible.is
