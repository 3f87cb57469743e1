-- The faults of registries don't depend on their order, and there is one first fault at most.
use Rattle.std.proofs.Common.{◌≡◌, ◌≢◌, inl, inr, ◌≤◌, List, [], ◌∷◌, ◌++◌, length, map, sym, subst, ◌∙◌, arith, append_assoc}
use Rattle.std.specs.Prelude.{IsPermutation}
use Rattle.std.specs.List.{AllByRecursion}
use Rattle.std.proofs.lemmas.List.Sorted.{IsPermutation-refl, IsPermutation-sym, IsPermutation-trans, IsPermutation-append_left, IsPermutation-append_right, IsPermutation-append_comm, IsPermutation-map, length_permutation}
use Rattle.units.specs.Apart.{AreApart}
use Rattle.units.specs.declared.block.Block.{Block}
use Rattle.scheme.specs.Grammar.{HasNoTwins}
use Rattle.scheme.specs.Order.{AreFew, IsFreeOf, all_blocks, blocks_of, HasAccount}
use Rattle.scheme.specs.Faults.{IsFirst}
use Rattle.scheme.specs.declared.members.SchemeRegistry.{SchemeRegistry}
use Rattle.scheme.specs.declared.members.SchemeFault.{SchemeFault}
use Rattle.scheme.specs.declared.members.SchemeFault.TheVariants.{NotJson, Shape, TooMany, TooFew, CodeTwice, AccountTwice, UnknownAccount, AllotmentOverlap, NoMemory}
use Rattle.units.proofs.Lists.Permutations.{each_moved}
use Rattle.scheme.proofs.Moves.{moved, pairs_moved}

-- ---- in another order

turned : (xs : List SchemeRegistry) (x y : SchemeRegistry) (ys : List SchemeRegistry) → IsPermutation (all_blocks (xs ++ x ∷ y ∷ ys)) (all_blocks (xs ++ y ∷ x ∷ ys))
turned [] x y ys =
    let a = blocks_of x.allotted in
    let b = blocks_of y.allotted in
    let c = all_blocks ys in
    subst (λ (l : List Block). IsPermutation l (b ++ (a ++ c))) (append_assoc a b c)
    (subst (λ (l : List Block). IsPermutation ((a ++ b) ++ c) l) (append_assoc b a c) (IsPermutation-append_left c (a ++ b) (b ++ a) (IsPermutation-append_comm a b)))
turned (z ∷ zs) x y ys = IsPermutation-append_right (blocks_of z.allotted) (all_blocks (zs ++ x ∷ y ∷ ys)) (all_blocks (zs ++ y ∷ x ∷ ys)) (turned zs x y ys)

pub blocks_moved : (ms ns : List SchemeRegistry) → IsPermutation ms ns → IsPermutation (all_blocks ms) (all_blocks ns)
blocks_moved ms ns s =
    moved (λ l. IsPermutation (all_blocks ms) (all_blocks l)) (λ xs x y ys h. IsPermutation-trans (all_blocks ms) (all_blocks (xs ++ x ∷ y ∷ ys)) (all_blocks (xs ++ y ∷ x ∷ ys)) h (turned xs x y ys)) ms ns s
    (IsPermutation-refl (all_blocks ms))

twins_moved : {X : Type 0} (xs ys : List X) → IsPermutation xs ys → HasNoTwins xs → HasNoTwins ys
twins_moved xs ys s p = pairs_moved (λ x y. x ≢ y) (λ x y h e. h (sym e)) xs ys s p

few_moved : (ms ns : List SchemeRegistry) → IsPermutation ms ns → AreFew ms → AreFew ns
few_moved ms ns s few =
    let members : length ns ≡ length ms = length_permutation ms ns s in
    let blocks : length (all_blocks ns) ≡ length (all_blocks ms) = length_permutation (all_blocks ms) (all_blocks ns) (blocks_moved ms ns s) in
    let r = few.registries in
    let b = few.blocks in
    record { registries = omega arith; accounts = each_moved (λ m. length m.accounts ≤ 1_000) ms ns s few.accounts; blocks = omega arith }

pub free_moved : (f : SchemeFault) (ms ns : List SchemeRegistry) → IsPermutation ms ns → IsFreeOf f ms → IsFreeOf f ns
free_moved NotJson ms ns s p = tt
free_moved Shape ms ns s p = tt
free_moved TooMany ms ns s p = few_moved ms ns s p
free_moved TooFew ms ns s p = let l : length ns ≡ length ms = length_permutation ms ns s in omega arith
free_moved CodeTwice ms ns s p = twins_moved (map (λ m. m.code) ms) (map (λ m. m.code) ns) (IsPermutation-map (λ (m : SchemeRegistry). m.code) ms ns s) p
free_moved AccountTwice ms ns s p = each_moved (λ m. HasNoTwins m.accounts) ms ns s p
free_moved UnknownAccount ms ns s p = each_moved (λ m. AllByRecursion (λ a. HasAccount m a.account) m.allotted) ms ns s p
free_moved AllotmentOverlap ms ns s p = pairs_moved (λ a b. AreApart a.raw b.raw) (λ a b h u v w. h u w v) (all_blocks ms) (all_blocks ns) (blocks_moved ms ns s) p
free_moved NoMemory ms ns s p = tt

pub first_moved : (fs : List SchemeFault) (ms ns : List SchemeRegistry) (f : SchemeFault) → IsPermutation ms ns → IsFirst fs ms f → IsFirst fs ns f
first_moved [] ms ns f s p = absurd p
first_moved (g ∷ fs) ms ns f s (inl p) = inl (p.0, (λ free. p.1 (free_moved g ns ms (IsPermutation-sym ms ns s) free)))
first_moved (g ∷ fs) ms ns f s (inr p) = inr (free_moved g ms ns s p.0, first_moved fs ms ns f s p.1)

-- ---- one first fault

pub not_first : (fs : List SchemeFault) (ms : List SchemeRegistry) (f : SchemeFault) → AllByRecursion (λ g. IsFreeOf g ms) fs → IsFirst fs ms f → ⊥
not_first [] ms f free p = p
not_first (g ∷ fs) ms f free (inl p) = p.1 free.0
not_first (g ∷ fs) ms f free (inr p) = not_first fs ms f free.1 p.1

pub one_first : (fs : List SchemeFault) (ms : List SchemeRegistry) (f g : SchemeFault) → IsFirst fs ms f → IsFirst fs ms g → f ≡ g
one_first [] ms f g p q = absurd p
one_first (h ∷ fs) ms f g (inl p) (inl q) = p.0 ∙ sym q.0
one_first (h ∷ fs) ms f g (inl p) (inr q) = absurd (p.1 q.0)
one_first (h ∷ fs) ms f g (inr p) (inl q) = absurd (q.1 p.0)
one_first (h ∷ fs) ms f g (inr p) (inr q) = one_first fs ms f g p.1 q.1
