-- Tokens written one after another, as the code does, and the texts that they are.
use Rattle.std.proofs.Common.{◌≡◌, ℕ, ◌≤◌, List, [], ◌∷◌, ◌++◌, length, take, map, Some, option_and_then, Result, Ok, Err, refl, sym, ap, ◌∙◌, append_assoc, append-nil}
use Rattle.std.specs.Prelude.{OnOk}
use Rattle.std.proofs.lemmas.List.{take_all}
use Rattle.json.specs.Json.{value, if_last}
use Rattle.json.specs.Lex.{tokens}
use Rattle.json.specs.Print.{print}
use Rattle.json.specs.Token.{Token, begin_object, end_object, begin_array, end_array, key}
use Rattle.json.specs.Tree.{items_tokens, members_tokens, depth}
use Rattle.json.proofs.Printed.Trees.{value-json_tokens}
use Rattle.serde_json.specs.Data.{Data}
use Rattle.serde_json.specs.Read.{of_json, read}
use Rattle.serde_json.specs.Written.{outline, items_outline, members_outline, compact_text}
use Rattle.serde_json.proofs.Texts.{print-outline}
use Rattle.json_fields.specs.Objects.{Field, array_with, items_with, members_of, object_of}
use Rattle.json_fields.specs.Writing.{after_field, after_fields, data_tokens, each_tokens}

-- what holds after a call has returned, by what its clause says then
pub then_ok : {E : Type 0} (r : Result (Unit {0}) E) {P Q : Type 0} → (P → Q) → OnOk r P → OnOk r Q
then_ok (Ok x) f p = f p
then_ok (Err e) f p = p

-- ---- objects

fields_written : (ts : List Token) (fs : List Field) → after_fields ts fs ++ end_object ∷ [] ≡ ts ++ members_tokens (members_outline (members_of fs))
fields_written ts [] = refl
fields_written ts (f ∷ fs) =
    let rest = members_tokens (members_outline (members_of fs)) in
    fields_written (after_field ts f) fs ∙ append_assoc (ts ++ key f.0 ∷ []) (data_tokens f.1) rest ∙ append_assoc ts (key f.0 ∷ []) (data_tokens f.1 ++ rest)

-- fields and then more fields
pub fields_more : (ts : List Token) (fs gs : List Field) → after_fields (after_fields ts fs) gs ≡ after_fields ts (fs ++ gs)
fields_more ts [] gs = refl
fields_more ts (f ∷ fs) gs = fields_more (after_field ts f) fs gs

object_written : (ts : List Token) (fs : List Field) → after_fields (ts ++ begin_object ∷ []) fs ++ end_object ∷ [] ≡ ts ++ data_tokens (object_of fs)
object_written ts fs = fields_written (ts ++ begin_object ∷ []) fs ∙ append_assoc ts (begin_object ∷ []) (members_tokens (members_outline (members_of fs)))

-- as calls write them one after another
pub object_put : (fs : List Field) (ts begun filled ended : List Token) → begun ≡ ts ++ begin_object ∷ [] → filled ≡ after_fields begun fs → ended ≡ filled ++ end_object ∷ []
    → ended ≡ ts ++ data_tokens (object_of fs)
object_put fs ts begun filled ended begins fills ends = ends ∙ ap (λ us. us ++ end_object ∷ []) (fills ∙ ap (λ us. after_fields us fs) begins) ∙ object_written ts fs

-- ---- arrays

items_written : {X : Type 0} (f : X → Data) (xs : List X) → each_tokens f xs ++ end_array ∷ [] ≡ items_tokens (items_outline (items_with f xs))
items_written f [] = refl
items_written f (x ∷ xs) = append_assoc (data_tokens (f x)) (each_tokens f xs) (end_array ∷ []) ∙ ap (λ ts. data_tokens (f x) ++ ts) (items_written f xs)

-- a field that is an array with a value for each element
array_written : {X : Type 0} (ts : List Token) (k : List ℕ) (f : X → Data) (xs : List X)
    → (((ts ++ key k ∷ []) ++ begin_array ∷ []) ++ each_tokens f xs) ++ end_array ∷ [] ≡ after_field ts (k, array_with f xs)
array_written ts k f xs =
    append_assoc ((ts ++ key k ∷ []) ++ begin_array ∷ []) (each_tokens f xs) (end_array ∷ []) ∙ append_assoc (ts ++ key k ∷ []) (begin_array ∷ []) (each_tokens f xs ++ end_array ∷ [])
    ∙ ap (λ vs. (ts ++ key k ∷ []) ++ begin_array ∷ vs) (items_written f xs)

-- as calls write it one after another
pub array_put : {X : Type 0} (k : List ℕ) (f : X → Data) (xs : List X) (ts named begun filled ended : List Token)
    → named ≡ ts ++ key k ∷ [] → begun ≡ named ++ begin_array ∷ [] → filled ≡ begun ++ each_tokens f xs → ended ≡ filled ++ end_array ∷ [] → ended ≡ after_field ts (k, array_with f xs)
array_put k f xs ts named begun filled ended names begins fills ends =
    ends ∙ ap (λ us. us ++ end_array ∷ []) (fills ∙ ap (λ us. us ++ each_tokens f xs) (begins ∙ ap (λ us. us ++ begin_array ∷ []) names)) ∙ array_written ts k f xs

-- ---- texts

-- what is printed for the tokens of a value
pub printed : (d : Data) (ts : List Token) (bytes : List ℕ) → ts ≡ data_tokens d → bytes ≡ print ts → bytes ≡ compact_text d
printed d ts bytes are text = text ∙ ap print are ∙ print-outline d

-- is read as that value
pub printed_reads : (d : Data) (ts : List Token) (bytes : List ℕ) → ts ≡ data_tokens d → bytes ≡ print ts → tokens (print ts) ≡ ts → depth (outline d) ≤ 127 → of_json (outline d) ≡ Some d → read bytes ≡ Some d
printed_reads d ts bytes are text reads shallow back =
    ap (λ o. option_and_then of_json (option_and_then (λ p. if_last p.0 p.1) o))
    (ap (value 127) (ap tokens text ∙ reads ∙ are ∙ sym (append-nil (data_tokens d))) ∙ value-json_tokens (outline d) 127 [] shallow)
    ∙ back
