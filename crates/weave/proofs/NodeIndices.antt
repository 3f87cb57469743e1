-- The journal and the count of a node by its index.
use Rattle.std.proofs.Common.{◌≡◌, ℕ, zero, suc, List, [], ◌∷◌, Option, Some, None, refl, ap, ◌∙◌, length, map}
use Rattle.std.specs.Prelude.{get_or, slice_index, slice_index_or}
use Rattle.std.specs.Option.{option_map_or}
use Rattle.units.specs.declared.code.Node.{Node}
use Rattle.units.proofs.Lists.FirstIndices.{none_from_test}
use Rattle.wire.specs.declared.input.Input.{Input}
use Rattle.scheme.specs.declared.registries.Scheme.{Scheme}
use Rattle.protocol.specs.Registries.{index_of}
use Rattle.protocol.proofs.NodeIndices.{node_there}
use Rattle.weave.specs.Following.{journal_of}
use Rattle.weave.specs.Left.{count_at}
use Rattle.weave.specs.Steps.{HasNodesAlone}

pub nodes_alone : (scheme : Scheme) (journals : List (List Input)) → HasNodesAlone scheme (journal_of scheme journals)
nodes_alone scheme journals n e = ap (λ o. option_map_or (λ k. slice_index_or journals k []) o []) (none_from_test (index_of scheme n) (node_there scheme n ∙ e))

-- ---- what stands at a node's index

module _ (scheme : Scheme) (n : Node) (at : ℕ) (index : index_of scheme n ≡ Some at) where
  pub journal_is : (js : List (List Input)) → journal_of scheme js n ≡ slice_index_or js at []
  journal_is js = ap (λ o. option_map_or (λ k. slice_index_or js k []) o []) index

-- the length of an image at an index
length_at : (js : List (List Input)) (k : ℕ) → get_or (map (λ j. length j) js) k 0 ≡ length (get_or js k [])
length_at [] k = refl
length_at (j ∷ js) zero = refl
length_at (j ∷ js) (suc k) = length_at js k

pub counted : (scheme : Scheme) (js : List (List Input)) (n : Node) → count_at scheme (map (λ j. length j) js) n ≡ length (journal_of scheme js n)
counted scheme js n = go (index_of scheme n)
  where
    go : (o : Option ℕ) → option_map_or (λ k. slice_index (map (λ j. length j) js) k) o 0 ≡ length (option_map_or (λ k. slice_index_or js k []) o [])
    go None = refl
    go (Some k) = length_at js k
