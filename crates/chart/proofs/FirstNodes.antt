-- Nodes, each once where it first occurs, with one more node.
use Rattle.std.proofs.Common.{◌≡◌, List, [], ◌∷◌, ◌++◌, Bool, true, false, cond, inl, inr, refl, sym, ap, ◌∙◌, append_assoc, append-nil}
use Rattle.std.specs.Prelude.{◌||◌, not, filter}
use Rattle.std.specs.List.{list_any}
use Rattle.std.proofs.lemmas.Bool.{cases_Bool}
use Rattle.std.proofs.lemmas.List.Elements.{filter-append}
use Rattle.units.specs.Code.{same_node}
use Rattle.units.specs.declared.code.Node.{Node}
use Rattle.units.proofs.Same.{node_of_same, same_node-refl}
use Rattle.protocol.proofs.NodeIndices.{other_way}
use Rattle.chart.specs.Chart.{first_ones}

abbrev is : Node → Node → Bool
is n m = same_node m n

abbrev isnt : Node → Node → Bool
isnt n m = not (same_node m n)

-- the list with the node, unless it has it
abbrev with_node : List Node → Node → List Node
with_node ns n = cond (list_any (is n) ns) ns (ns ++ n ∷ [])

same_turned : (x n : Node) → same_node x n ≡ true → same_node n x ≡ true
same_turned x n same = ap (same_node n) (node_of_same x n same) ∙ same_node-refl n

-- another node stays where one is left out
kept : (x n : Node) (ns : List Node) → same_node x n ≡ false → list_any (is n) (filter (isnt x) ns) ≡ list_any (is n) ns
kept x n [] apart = refl
kept x n (y ∷ ns) apart =
    elim (cases_Bool (same_node y x)) [
      | inl same ↦
          let gone : filter (isnt x) (y ∷ ns) ≡ filter (isnt x) ns = ap (λ (b : Bool). cond (not b) (y ∷ filter (isnt x) ns) (filter (isnt x) ns)) same in
          let other : same_node y n ≡ false = ap (λ (m : Node). same_node m n) (node_of_same y x same) ∙ apart in
          ap (list_any (is n)) gone ∙ kept x n ns apart ∙ sym (ap (λ (b : Bool). b || list_any (is n) ns) other)
      | inr there ↦
          let stays : filter (isnt x) (y ∷ ns) ≡ y ∷ filter (isnt x) ns = ap (λ (b : Bool). cond (not b) (y ∷ filter (isnt x) ns) (filter (isnt x) ns)) there in
          ap (list_any (is n)) stays ∙ ap (λ (b : Bool). same_node y n || b) (kept x n ns apart)
    ]

left_out : (x n : Node) (ns : List Node) → same_node n x ≡ true → filter (isnt x) (ns ++ n ∷ []) ≡ filter (isnt x) ns
left_out x n ns same =
    filter-append (isnt x) ns (n ∷ []) ∙ ap (λ (b : Bool). filter (isnt x) ns ++ cond (not b) (n ∷ []) []) same ∙ append-nil (filter (isnt x) ns)

left_in : (x n : Node) (ns : List Node) → same_node n x ≡ false → filter (isnt x) (ns ++ n ∷ []) ≡ filter (isnt x) ns ++ n ∷ []
left_in x n ns apart = filter-append (isnt x) ns (n ∷ []) ∙ ap (λ (b : Bool). filter (isnt x) ns ++ cond (not b) (n ∷ []) []) apart

has_it : (ns : List Node) (n : Node) → list_any (is n) ns ≡ true → with_node ns n ≡ ns
has_it ns n there = ap (λ (b : Bool). cond b ns (ns ++ n ∷ [])) there

lacks_it : (ns : List Node) (n : Node) → list_any (is n) ns ≡ false → with_node ns n ≡ ns ++ n ∷ []
lacks_it ns n none = ap (λ (b : Bool). cond b ns (ns ++ n ∷ [])) none

-- the others of a node, with that node or with another
same_head : (x n : Node) (ns : List Node) → same_node x n ≡ true → x ∷ filter (isnt x) (with_node ns n) ≡ with_node (x ∷ filter (isnt x) ns) n
same_head x n ns same =
    let here : with_node (x ∷ filter (isnt x) ns) n ≡ x ∷ filter (isnt x) ns = has_it (x ∷ filter (isnt x) ns) n (ap (λ (b : Bool). b || list_any (is n) (filter (isnt x) ns)) same) in
    let gone : filter (isnt x) (with_node ns n) ≡ filter (isnt x) ns =
    elim (cases_Bool (list_any (is n) ns)) [
      | inl there ↦ ap (filter (isnt x)) (has_it ns n there)
      | inr none ↦ ap (filter (isnt x)) (lacks_it ns n none) ∙ left_out x n ns (same_turned x n same)
    ]
    in
    ap (λ (l : List Node). x ∷ l) gone ∙ sym here

other_head : (x n : Node) (ns : List Node) → same_node x n ≡ false → x ∷ filter (isnt x) (with_node ns n) ≡ with_node (x ∷ filter (isnt x) ns) n
other_head x n ns apart =
    let rest : list_any (is n) (x ∷ filter (isnt x) ns) ≡ list_any (is n) ns = ap (λ (b : Bool). b || list_any (is n) (filter (isnt x) ns)) apart ∙ kept x n ns apart in
    elim (cases_Bool (list_any (is n) ns)) [
      | inl there ↦ ap (λ (l : List Node). x ∷ filter (isnt x) l) (has_it ns n there) ∙ sym (has_it (x ∷ filter (isnt x) ns) n (rest ∙ there))
      | inr none ↦
          ap (λ (l : List Node). x ∷ filter (isnt x) l) (lacks_it ns n none) ∙ ap (λ (l : List Node). x ∷ l) (left_in x n ns (other_way x n apart))
          ∙ sym (lacks_it (x ∷ filter (isnt x) ns) n (rest ∙ none))
    ]

first_more : (ns : List Node) (n : Node) → first_ones (ns ++ n ∷ []) ≡ with_node (first_ones ns) n
first_more [] n = refl
first_more (x ∷ ns) n =
    ap (λ (l : List Node). x ∷ filter (isnt x) l) (first_more ns n)
    ∙ elim (cases_Bool (same_node x n)) [
      | inl same ↦ same_head x n (first_ones ns) same
      | inr apart ↦ other_head x n (first_ones ns) apart
    ]

-- ---- a node is added, or is there

pub node_there : (nodes slice ns : List Node) (n : Node) → slice ≡ nodes → nodes ≡ first_ones ns → true ≡ list_any (λ m. same_node m n) slice → nodes ≡ first_ones (ns ++ n ∷ [])
node_there nodes slice ns n same so there =
    sym (has_it nodes n (ap (list_any (is n)) (sym same) ∙ sym there)) ∙ ap (λ (l : List Node). with_node l n) so ∙ sym (first_more ns n)

pub node_added : (nodes slice new ns : List Node) (n : Node) → slice ≡ nodes → nodes ≡ first_ones ns → false ≡ list_any (λ m. same_node m n) slice → new ≡ nodes ++ n ∷ [] → new ≡ first_ones (ns ++ n ∷ [])
node_added nodes slice new ns n same so none added =
    added ∙ sym (lacks_it nodes n (ap (list_any (is n)) (sym same) ∙ sym none)) ∙ ap (λ (l : List Node). with_node l n) so ∙ sym (first_more ns n)

pub two_added : (nodes ns : List Node) (a b : Node) → nodes ≡ first_ones ((ns ++ a ∷ []) ++ b ∷ []) → nodes ≡ first_ones (ns ++ a ∷ b ∷ [])
two_added nodes ns a b is = is ∙ ap first_ones (append_assoc ns (a ∷ []) (b ∷ []))
