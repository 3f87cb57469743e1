-- The first records of a journal, and more of them.
use Rattle.std.proofs.Common.{◌≡◌, ◌⊎◌, ◌+◌, ◌-◌, ◌≤◌, ◌++◌, ℕ, zero, suc, List, [], ◌∷◌, length, take, drop, refl, sym, ap, subst, ◌∙◌, arith, inl, inr, take-append-drop}
use Rattle.std.proofs.lemmas.List.{take_all}
use Rattle.units.specs.declared.code.Node.{Node}
use Rattle.wire.specs.declared.input.Input.{Input}
use Rattle.scheme.specs.declared.registries.Scheme.{Scheme}
use Rattle.protocol.specs.Cores.{HasFault}
use Rattle.protocol.specs.declared.replay_fault.ReplayFault.{ReplayFault}
use Rattle.protocol.proofs.Replaying.{fault_more}

pub front_more : {X : Type 0} (start more all : ℕ) (xs : List X) → all ≡ start + more → take start xs ++ take more (drop start xs) ≡ take all xs
front_more zero more all xs e = let same : more ≡ all = omega arith in ap (λ n. take n xs) same
front_more (suc start) more all [] e = take_all more [] (omega arith) ∙ sym (take_all all [] (omega arith))
front_more (suc start) more zero (x ∷ xs) e = absurd (omega arith)
front_more (suc start) more (suc all) (x ∷ xs) e = ap (λ l. x ∷ l) (front_more start more all xs (omega arith))

-- a front of the list, kept or begun anew
pub front_again : {X : Type 0} (old new xs : List X) → old ≡ take (length old) xs → (new ≡ old) ⊎ (new ≡ []) → new ≡ take (length new) xs
front_again old new xs front (inl e) = subst (λ l. l ≡ take (length l) xs) (sym e) front
front_again old new xs front (inr e) = subst (λ l. l ≡ take (length l) xs) (sym e) refl

-- such a front, with the elements after it up to a number
pub front_brought : {X : Type 0} (old new xs : List X) (start all : ℕ) → old ≡ take (length old) xs → (new ≡ old) ⊎ (new ≡ []) → start ≡ length new → length new ≤ all → new ++ take (all - start) (drop start xs) ≡ take all xs
front_brought old new xs start all front again starts short =
    let begun = front_again old new xs front again ∙ ap (λ n. take n xs) (sym starts) in
    ap (λ l. l ++ take (all - start) (drop start xs)) begun ∙ front_more start (all - start) all xs (omega (arith, starts, short))

-- a fault of the first records is a fault of the whole journal
pub fault_of_front : (scheme s : Scheme) (n m : Node) (journal front : List Input) (records : ℕ) (fault : ReplayFault) → s ≡ scheme → m ≡ n → front ≡ take records journal → HasFault s m front fault → HasFault scheme n journal fault
fault_of_front scheme s n m journal front records fault schemes nodes first bad =
    subst (λ (x : Scheme). HasFault x n journal fault) schemes
    (subst (λ (x : Node). HasFault s x journal fault) nodes
    (subst (λ (l : List Input). HasFault s m l fault) (take-append-drop records journal)
    (fault_more s m (take records journal) (drop records journal) fault (subst (λ (l : List Input). HasFault s m l fault) first bad))))
