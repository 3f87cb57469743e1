-- Objects by their keys and values, and arrays by their items.
use Rattle.std.specs.Prelude.{ℕ, List, [], ◌∷◌, length}
use Rattle.std.specs.List.{AllByRecursion}
use Rattle.serde_json.specs.Data.{Data, number, unsigned, array, object, Items, no_items, item, Members, no_members, member}
use Rattle.json_fields.specs.Fields.{HasKeys, HasAt}

-- a key and its value
abbrev pub Field : Type 0
Field = List ℕ × Data

-- the object has these fields, and may have others; no public contract cites it
abbrev pub HasFields : Data → List Field → Type 0
HasFields d fields = AllByRecursion (λ f. HasAt d f.0 f.1) fields

-- the object has these fields and no other, in any order; no public contract cites it
abbrev pub HasExactly : Data → List Field → Type 0
HasExactly d fields = HasKeys d (length fields) × HasFields d fields

abbrev pub members_of : List Field → Members
members_of [] = no_members
members_of (f ∷ fs) = member f.0 f.1 (members_of fs)

-- the object of these fields in this order
abbrev pub object_of : List Field → Data
object_of fields = object (members_of fields)

-- a value for each element, in their order
abbrev pub items_with : {X : Type 0} → (X → Data) → List X → Items
items_with f [] = no_items
items_with f (x ∷ xs) = item (f x) (items_with f xs)

abbrev pub array_with : {X : Type 0} → (X → Data) → List X → Data
array_with f xs = array (items_with f xs)

-- a whole number
abbrev pub whole : ℕ → Data
whole n = number (unsigned n)
