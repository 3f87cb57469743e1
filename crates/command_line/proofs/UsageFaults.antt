-- The fault of the words, by the error that clap returns for them.
use Rattle.std.proofs.Common.{◌≡◌, ◌∙◌, ℕ, List, [], true, refl, sym, ap, subst, inl, inr}
use Rattle.clap.specs.Words.{App, HasKind, IsAmong, fault_of, is_simple_and_free, kind_of}
use Rattle.clap.specs.declared.error.Error.{Error}
use Rattle.clap.specs.declared.error.kind.ErrorKind.TheVariants.{OutOfMemory, DisplayHelp, DisplayVersion}
use Rattle.clap.proofs.OnLiterals.{clap_on_literals}
use Rattle.command_line.specs.Words.{IsAskedFor, IsFaultOf, IsUsageFault, faults_in, kyoto_link}
use Rattle.command_line.specs.declared.parsing.UsageFault.{UsageFault}
use Rattle.command_line.specs.declared.parsing.UsageFault.TheVariants.{Usage, Help, NoMemory}

is_free : is_simple_and_free kyoto_link ≡ true
unfolding clap_on_literals
is_free = refl

-- a clause about clap's own command holds for the program
pub has_kind : (a : App) (words : List (List ℕ)) (error : Error) → a ≡ kyoto_link
    → (is_simple_and_free a ≡ true → HasKind (fault_of a words) error) → HasKind (faults_in words) error
has_kind a words error same told = subst (λ b. HasKind (fault_of b words) error) same (told (ap is_simple_and_free same ∙ is_free))

pub has_none : (a : App) (words : List (List ℕ)) → a ≡ kyoto_link → (is_simple_and_free a ≡ true → fault_of a words ≡ []) → faults_in words ≡ []
has_none a words same told = ap (λ b. fault_of b words) (sym same) ∙ told (ap is_simple_and_free same ∙ is_free)

memory_is_not_help : OutOfMemory ≡ DisplayHelp → ⊥
memory_is_not_help e = cc

memory_is_no_version : OutOfMemory ≡ DisplayVersion → ⊥
memory_is_no_version e = cc

memory_is_not_asked_for : IsAskedFor OutOfMemory → ⊥
memory_is_not_asked_for (inl help) = memory_is_not_help help
memory_is_not_asked_for (inr version) = memory_is_no_version version

pub told : (words : List (List ℕ)) (error : Error) (fault : UsageFault) → HasKind (faults_in words) error → IsFaultOf error fault → IsUsageFault words fault
told words error NoMemory has is = tt
told words error (Help e) (inl memory) is = absurd (memory_is_not_asked_for (subst IsAskedFor memory is.1))
told words error (Help e) (inr among) is =
    let same = ap kind_of is.0 in (subst IsAskedFor (sym same) is.1, subst (λ k. IsAmong k (faults_in words)) (sym same) among)
told words error (Usage e) (inl memory) is = absurd (is.1 memory)
told words error (Usage e) (inr among) is =
    let same = ap kind_of is.0 in
    ((λ memory. is.1 (sym same ∙ memory)), (λ asked. is.2 (subst IsAskedFor same asked)), subst (λ k. IsAmong k (faults_in words)) (sym same) among)
