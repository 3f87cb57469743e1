use Rattle.std.proofs.Common.{arith}
use Rattle.std.proofs.Math.Logic.{∥∥₁_map}
use Rattle.durable.proofs.Reopening.{found-again, holds-again, honest-before}
use Rattle.durable.proofs.backing.files_of.Goals as goal

pub returns-clause-left : goal.returns-clause-left
returns-clause-left g c = λ db found.
    let made = c.into_store.ensures in
    ∥∥₁_map (found-again c.into_store.result c.close.result c.close.ensures made.numbered made.sound db found) (λ left. made.quiet.outcomes _ left)

pub returns-clause-honest : goal.returns-clause-honest
returns-clause-honest g c = λ honest.
    let made = c.into_store.ensures in
    let late = honest-before c.into_store.result c.close.result c.close.ensures honest in
    omega (arith, made.quiet.clean, late)

pub returns-clause-holds : goal.returns-clause-holds
returns-clause-holds g c = λ honest image there.
    let made = c.into_store.ensures in
    ∥∥₁_map (holds-again c.into_store.result c.close.result c.close.ensures made.numbered made.sound honest image there) (λ held. (held.0, made.quiet.outcomes _ held.1, held.2))
