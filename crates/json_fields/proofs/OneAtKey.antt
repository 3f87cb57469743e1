-- The value at a key of an object: that there is one, and which one it is where it is read as a text, a number or an
-- array.
use Rattle.std.proofs.Common.{◌≡◌, ℕ, List, Option, Some, sym, ap, ◌∙◌}
use Rattle.std.specs.Prelude.{option_and_then}
use Rattle.serde_json.specs.Data.{Data, unsigned, number, string, array, Items}
use Rattle.serde_json.specs.Find.{get, as_str, as_number, as_u64, as_array}
use Rattle.json_fields.specs.Fields.{HasAt, text_at, number_at}

-- ---- one value

pub at_once : (d : Data) (key : List ℕ) (v w : Data) → HasAt d key v → HasAt d key w → v ≡ w
at_once d key v w p q = let e : Some v ≡ Some w = sym p ∙ q in cc (e)

pub text_once : (d : Data) (key s t : List ℕ) → HasAt d key (string s) → HasAt d key (string t) → s ≡ t
text_once d key s t p q = let e = at_once d key (string s) (string t) p q in cc (e)

pub whole_once : (d : Data) (key : List ℕ) (m n : ℕ) → HasAt d key (number (unsigned m)) → HasAt d key (number (unsigned n)) → m ≡ n
whole_once d key m n p q = let e = at_once d key (number (unsigned m)) (number (unsigned n)) p q in cc (e)

pub array_once : (d : Data) (key : List ℕ) (items others : Items) → HasAt d key (array items) → HasAt d key (array others) → items ≡ others
array_once d key items others p q = let e = at_once d key (array items) (array others) p q in cc (e)

-- ---- which value

pub array_at : (d : Data) (key : List ℕ) (items : Items) → Some items ≡ option_and_then as_array (get key d) → HasAt d key (array items)
array_at d key items e = own (get key d) e
  where
    own : (o : Option Data) → Some items ≡ option_and_then as_array o → o ≡ Some (array items)
    own (Some (array ds)) e = cc (e)
    own _ e = absurd (cc)

pub string_at : (d : Data) (key s : List ℕ) → Some s ≡ text_at key d → HasAt d key (string s)
string_at d key s e = own (get key d) e
  where
    own : (o : Option Data) → Some s ≡ option_and_then as_str o → o ≡ Some (string s)
    own (Some (string t)) e = cc (e)
    own _ e = absurd (cc)

pub whole_at : (d : Data) (key : List ℕ) (n : ℕ) → Some n ≡ number_at key d → HasAt d key (number (unsigned n))
whole_at d key n e = own (get key d) e
  where
    own : (o : Option Data) → Some n ≡ option_and_then as_u64 (option_and_then as_number o) → o ≡ Some (number (unsigned n))
    own (Some (number (unsigned m))) e = let same : m ≡ n = cc in ap (λ k. Some (number (unsigned k))) same
    own _ e = absurd (cc)
