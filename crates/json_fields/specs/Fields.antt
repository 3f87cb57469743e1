-- Objects and arrays by their parts.
use Rattle.std.specs.Prelude.{◌≡◌, ℕ, List, [], ◌∷◌, Option, Some, option_map, option_and_then}
use Rattle.serde_json.specs.Data.{Data, array, Items, no_items, item}
use Rattle.serde_json.specs.Find.{get, as_object, as_str, as_number, as_u64}
use Rattle.serde_json.specs.Events.{members_len}

-- an object with that many keys; a value holds each key once
abbrev pub HasKeys : Data → ℕ → Type 0
HasKeys d count = option_map members_len (as_object d) ≡ Some count

-- the object has the value at the key
abbrev pub HasAt : Data → List ℕ → Data → Type 0
HasAt d key value = get key d ≡ Some value

-- each item writes the element at its place, and both have the same length
abbrev pub EachIs : {X : Type 0} → (Data → X → Type 0) → Items → List X → Type 0
EachIs R no_items [] = Unit {0}
EachIs R no_items (x ∷ xs) = ⊥
EachIs R (item d ds) [] = ⊥
EachIs R (item d ds) (x ∷ xs) = R d x × EachIs R ds xs

-- at the key the object has an array, whose items write the elements
abbrev pub HasList : {X : Type 0} → (Data → X → Type 0) → Data → List ℕ → List X → Type 0
HasList R d key xs = (items : Items) × HasAt d key (array items) × EachIs R items xs

-- the text and the whole number at a key
abbrev pub text_at : List ℕ → Data → Option (List ℕ)
text_at key d = option_and_then as_str (get key d)

abbrev pub number_at : List ℕ → Data → Option ℕ
number_at key d = option_and_then as_u64 (option_and_then as_number (get key d))
