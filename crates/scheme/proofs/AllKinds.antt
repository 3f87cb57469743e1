-- The six kinds are different ones.
use Rattle.std.proofs.Common.{List, [], ◌∷◌}
use Rattle.units.specs.declared.block.Kind.{Kind}
use Rattle.units.specs.declared.block.Kind.TheVariants.{Aau, Rmu, Eru, Cer, Tcer, Lcer}
use Rattle.scheme.specs.Grammar.{HasNoTwins}

pub aau_and_cer : HasNoTwins (Aau ∷ Cer ∷ [])
aau_and_cer = ((λ e. absurd (cc e), tt), (tt, tt))

pub all_kinds : HasNoTwins (Aau ∷ Rmu ∷ Eru ∷ Cer ∷ Tcer ∷ Lcer ∷ [])
all_kinds = ((λ e. absurd (cc e), (λ e. absurd (cc e), (λ e. absurd (cc e), (λ e. absurd (cc e), (λ e. absurd (cc e), tt))))), ((λ e. absurd (cc e), (λ e. absurd (cc e), (λ e. absurd (cc e), (λ e. absurd (cc e), tt)))), ((λ e. absurd (cc e), (λ e. absurd (cc e), (λ e. absurd (cc e), tt))), ((λ e. absurd (cc e), (λ e. absurd (cc e), tt)), ((λ e. absurd (cc e), tt), (tt, tt))))))
