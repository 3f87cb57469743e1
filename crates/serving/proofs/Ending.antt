-- How a desk's end is told.
use Rattle.std.proofs.Common.{◌≡◌, ◌∙◌, ℕ, Bool, true, false, not, IsTrue, ◌↔◌, List, refl, sym, ap}
use Rattle.units.specs.declared.code.Node.{Node}
use Rattle.protocol.specs.Input.{Input}
use Rattle.protocol.specs.Scheme.{Scheme}
use Rattle.desk.specs.StoreFault.{StoreFault}
use Rattle.desk.specs.StoreFault.TheVariants.{Device, Full, Damaged, WrongNode, WrongVersion, Reopen, NoMemory}
use Rattle.desk.specs.NodeStore.{Ghosts}
use Rattle.command_faults.specs.Faults.{of_store}
use Rattle.serving.specs.Ends.{HasFailed, IsLateFault}

module _ {S : Type 0} (g : Ghosts S) (opened : Scheme → Node → List Input → ℕ → Type 0) (scheme : Scheme) where
  pub late_store : (n : Node) (fault : StoreFault) → HasFailed g opened n fault → IsLateFault g opened scheme (of_store n fault)
  late_store n Device h = h
  late_store n Full h = h
  late_store n (Damaged p) h = h
  late_store n WrongNode h = h
  late_store n WrongVersion h = h
  late_store n Reopen h = h
  late_store n NoMemory h = tt

-- ---- a test that came out otherwise

pub not_told : {P : Type 0} (test : Bool) → (IsTrue test ↔ P) → not test ≡ true → P → ⊥
not_told test told differ p =
    let never : false ≡ true = sym (ap not (told.1 p)) ∙ differ in
    cc (never)

pub told_again : {P : Type 0} (test : Bool) → (IsTrue test ↔ P) → not test ≡ false → P
told_again true told same = told.0 refl
told_again false told same = absurd (cc (same))
