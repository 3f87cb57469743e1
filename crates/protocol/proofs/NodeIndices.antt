-- The nodes of a scheme by their indices, and that none stands there twice.
use Rattle.std.proofs.Common.{◌≡◌, ◌≢◌, ℕ, zero, suc, ◌+◌, ◌-◌, ◌<◌, List, [], ◌∷◌, ◌++◌, Bool, true, false, Some, inl, inr, refl, sym, ap, subst, ◌∙◌, length, map, take, option_map, arith}
use Rattle.std.specs.Prelude.{get_or, is_some, slice_get}
use Rattle.std.specs.List.{AllByRecursion, position_from}
use Rattle.std.specs.declared.cmp.Ordering.TheVariants.{Less}
use Rattle.std.proofs.lemmas.Bool.{cases_Bool, cond-false, true≢false}
use Rattle.std.proofs.lemmas.List.{map-append, take_more}
use Rattle.std.proofs.lemmas.Option.{slice_get-get_or, slice_get-map}
use Rattle.units.specs.Apart.{Pairwise}
use Rattle.units.specs.Code.{same_code, same_node}
use Rattle.units.specs.Keys.{code_cmp}
use Rattle.units.specs.declared.code.Code.{Code}
use Rattle.units.specs.declared.code.Node.{Node}
use Rattle.units.specs.declared.code.Node.TheVariants.{Itl, Registry}
use Rattle.units.proofs.Same.{code_of_same, node_of_same, same_node-refl}
use Rattle.units.proofs.UnitOrder.{code_below}
use Rattle.scheme.specs.Order.{member}
use Rattle.scheme.specs.declared.members.SchemeRegistry.{SchemeRegistry}
use Rattle.scheme.specs.declared.registries.Scheme.{Scheme}
use Rattle.units.proofs.Lists.FirstIndices.{index_below, index_later, index_map, index_passes, index_there}
use Rattle.scheme.proofs.Searching.{AreOrdered, has_code}
use Rattle.protocol.specs.Registries.{is_node, nodes, index_of}

-- ---- the index of a node

-- a registry stands one further on among the nodes than among the registries
pub registry_index : (scheme : Scheme) (c : Code) → index_of scheme (Registry c) ≡ option_map (λ i. i + 1) (position_from (has_code c) 0 scheme.members)
registry_index scheme c =
    index_map (λ (m : SchemeRegistry). Registry m.code) (λ n. same_node n (Registry c)) 1 scheme.members
    ∙ index_later (has_code c) 0 scheme.members

-- the nodes of the scheme have an index, and no other node has one
pub node_there : (scheme : Scheme) (n : Node) → is_some (index_of scheme n) ≡ is_node scheme n
node_there scheme Itl = refl
node_there scheme (Registry c) =
    ap is_some (index_map (λ (m : SchemeRegistry). Registry m.code) (λ n. same_node n (Registry c)) 1 scheme.members)
    ∙ index_there (has_code c) 1 scheme.members

pub index_within : (scheme : Scheme) (n : Node) (at : ℕ) → index_of scheme n ≡ Some at → at < length (nodes scheme)
index_within scheme n at e = index_below (λ m. same_node m n) (nodes scheme) at e

-- the element at a node's index is the node
pub node_of_index : (scheme : Scheme) (n : Node) (at : ℕ) → index_of scheme n ≡ Some at → slice_get (nodes scheme) at ≡ Some n
node_of_index scheme n at e =
    let r = index_passes (λ m. same_node m n) 0 (nodes scheme) at e in
    let same : r.0 ≡ at = omega (arith, r.1) in
    subst (λ k. slice_get (nodes scheme) k ≡ Some n) same (r.2.1 ∙ ap Some (node_of_same r.2.0 n r.2.2))

-- ---- the element at an index

member_at : (c : Code) (ms : List SchemeRegistry) → is_some (member ms c) ≡ true → (k : ℕ) × (slice_get (map (λ m. Registry m.code) ms) k ≡ Some (Registry c))
member_at c [] e = absurd (cc (e))
member_at c (m ∷ ms) e =
    elim (cases_Bool (same_code m.code c)) [
      | inl y ↦ (0, ap (λ z. Some (Registry z)) (code_of_same m.code c y))
      | inr other ↦ let r = member_at c ms (sym (ap is_some (cond-false (same_code m.code c) (Some m) (member ms c) other)) ∙ e) in (suc r.0, r.1)
    ]

pub node_at : (scheme : Scheme) (n : Node) → is_node scheme n ≡ true → (k : ℕ) × (slice_get (nodes scheme) k ≡ Some n)
node_at scheme Itl e = (0, refl)
node_at scheme (Registry c) e = let r = member_at c scheme.members e in (suc r.0, r.1)

pub registry_at : (ms : List SchemeRegistry) (at : ℕ) (d : SchemeRegistry) → at ≢ 0 → at - 1 < length ms → slice_get (Itl ∷ map (λ m. Registry m.code) ms) at ≡ Some (Registry (get_or ms (at - 1) d).code)
registry_at ms zero d some below = absurd (some refl)
registry_at ms (suc k) d some below =
    let same : k ≡ suc k - 1 = omega arith in
    slice_get-map (λ (m : SchemeRegistry). Registry m.code) ms k
    ∙ ap (option_map (λ (m : SchemeRegistry). Registry m.code)) (slice_get-get_or ms k d (omega (arith, below)))
    ∙ ap (λ i. Some (Registry (get_or ms i d).code)) same

-- ---- the nodes gathered one after another

abbrev pub all_nodes : List SchemeRegistry → List Node
all_nodes ms = Itl ∷ map (λ m. Registry m.code) ms

pub nodes_more : (ns : List Node) (ms : List SchemeRegistry) (i : ℕ) (m : SchemeRegistry) → i < length ms → m ≡ get_or ms i m → ns ≡ all_nodes (take i ms) → ns ++ Registry m.code ∷ [] ≡ all_nodes (take (i + 1) ms)
nodes_more ns ms i m h is old =
    ap (λ (l : List Node). l ++ Registry m.code ∷ []) old
    ∙ ap (λ (l : List Node). Itl ∷ l)
    (ap (λ (x : SchemeRegistry). map (λ (m : SchemeRegistry). Registry m.code) (take i ms) ++ Registry x.code ∷ []) is
    ∙ sym (map-append (λ (m : SchemeRegistry). Registry m.code) (take i ms) (get_or ms i m ∷ []))
    ∙ sym (ap (map (λ (m : SchemeRegistry). Registry m.code)) (take_more ms i m h)))

-- ---- no node twice

abbrev pub Differ : Node → Node → Type 0
Differ a b = same_node a b ≡ false

-- neither is the other
pub other_way : (a b : Node) → same_node a b ≡ false → same_node b a ≡ false
other_way a b other =
    elim (cases_Bool (same_node b a)) [
      | inl same ↦ absurd (true≢false (sym (ap (same_node a) (node_of_same b a same) ∙ same_node-refl a) ∙ other))
      | inr apart ↦ apart
    ]

-- one code isn't below itself
not_below : (a b : Code) → code_cmp a b ≡ Less → same_code a b ≡ true → ⊥
not_below a b less same = let e = code_of_same a b same in let l = subst (λ (x : Code). code_cmp a x ≡ Less) (sym e) less in let r = code_below a a l in omega arith

others_differ : (m : SchemeRegistry) (ms : List SchemeRegistry) → AllByRecursion (λ b. code_cmp m.code b.code ≡ Less) ms → AllByRecursion (Differ (Registry m.code)) (map (λ b. Registry b.code) ms)
others_differ m [] all = tt
others_differ m (b ∷ ms) all = (differs (same_code m.code b.code) refl, others_differ m ms all.1)
  where
    differs : (t : Bool) → same_code m.code b.code ≡ t → t ≡ false
    differs true e = absurd (not_below m.code b.code all.0 e)
    differs false e = refl

registries_differ : (ms : List SchemeRegistry) → AreOrdered ms → Pairwise Differ (map (λ b. Registry b.code) ms)
registries_differ [] ordered = tt
registries_differ (m ∷ ms) ordered = (others_differ m ms ordered.0, registries_differ ms ordered.1)

log_differs : (ms : List SchemeRegistry) → AllByRecursion (Differ Itl) (map (λ b. Registry b.code) ms)
log_differs [] = tt
log_differs (m ∷ ms) = (refl, log_differs ms)

pub nodes_differ : (scheme : Scheme) → Pairwise Differ (nodes scheme)
nodes_differ scheme = (log_differs scheme.members, registries_differ scheme.members scheme.sound.ordered)
