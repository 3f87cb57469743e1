-- A text of JSON whose numbers are whole is one line.
use Rattle.std.proofs.Common.{◌≡◌, ℕ, ◌+◌, ◌/◌, ◌%◌, ◌^◌, ◌<◌, ◌==◌, ◌||◌, List, [], ◌∷◌, ◌++◌, Bool, true, false, cond, decimal, sym, subst, arith, true≢false, refl}
use Rattle.std.specs.List.{AllByRecursion}
use Rattle.std.specs.Prelude.{nat_lt}
use Rattle.std.proofs.lemmas.Fmt.{decimal_by_steps}
use Rattle.std.specs.Char.{digit_char}
use Rattle.json.specs.Print.{escape, escape_byte, escape_letter, quoted}
use Rattle.serde_json.specs.Data.{Data, null, boolean, number, string, array, object, unsigned, negative, float, Items, no_items, item, Members, no_members, member}
use Rattle.serde_json.specs.Written.{compact_text, items_text, members_text, comma_if}
use Rattle.units.specs.Text.{IsFreeOf}
use Rattle.json_fields.specs.Objects.{items_with}

free_append : (xs ys : List ℕ) → IsFreeOf 10 xs → IsFreeOf 10 ys → IsFreeOf 10 (xs ++ ys)
free_append [] ys p q = q
free_append (x ∷ xs) ys p q = (p.0, free_append xs ys p.1 q)

free_decimal : (n : ℕ) → n < 2 ^ 64 → IsFreeOf 10 (decimal n)
free_decimal = decimal_by_steps (λ m ds. IsFreeOf 10 ds) (λ m l. ((λ e. omega (arith, e)), tt)) (λ m ds l h. free_append ds ((48 + m % 10) ∷ []) h ((λ e. omega (arith, e)), tt))

-- ---- texts in quotes

either : {X : Type 0} (P : X → Type 0) (b : Bool) (x y : X) → (b ≡ true → P x) → (b ≡ false → P y) → P (cond b x y)
either P true x y p q = p refl
either P false x y p q = q refl

letter_free : (x : ℕ) → escape_letter x ≡ 10 → ⊥
letter_free x =
    let No = λ (n : ℕ). (n ≡ 10 → ⊥) in
    either No ((x == 34) || (x == 92)) x (cond (x == 8) 98 (cond (x == 12) 102 (cond (x == 10) 110 (cond (x == 13) 114 (cond (x == 9) 116 0)))))
    (λ t e. true≢false (sym (subst (λ (n : ℕ). ((n == 34) || (n == 92)) ≡ true) e t)))
    (λ t. either No (x == 8) 98 _ (λ t e. omega (arith, e)) (λ t. either No (x == 12) 102 _ (λ t e. omega (arith, e)) (λ t. either No (x == 10) 110 _ (λ t e. omega (arith, e))
    (λ t. either No (x == 13) 114 _ (λ t e. omega (arith, e)) (λ t. either No (x == 9) 116 0 (λ t e. omega (arith, e)) (λ t e. omega (arith, e)))))))

digit_free : (d : ℕ) → digit_char d ≡ 10 → ⊥
digit_free d = either (λ n. n ≡ 10 → ⊥) (nat_lt d 10) (48 + d) (87 + d) (λ t e. omega (arith, e)) (λ t e. omega (arith, e))

escape_byte_free : (x : ℕ) → IsFreeOf 10 (escape_byte x)
unfolding escape_byte
escape_byte_free x =
    either (IsFreeOf 10) (nat_lt 0 (escape_letter x)) (92 ∷ escape_letter x ∷ []) (cond (nat_lt x 32) (92 ∷ 117 ∷ 48 ∷ 48 ∷ digit_char (x / 16) ∷ digit_char (x % 16) ∷ []) (x ∷ []))
    (λ t. ((λ e. omega (arith, e)), (letter_free x, tt)))
    (λ t. either (IsFreeOf 10) (nat_lt x 32) (92 ∷ 117 ∷ 48 ∷ 48 ∷ digit_char (x / 16) ∷ digit_char (x % 16) ∷ []) (x ∷ [])
    (λ t. ((λ e. omega (arith, e)), ((λ e. omega (arith, e)), ((λ e. omega (arith, e)), ((λ e. omega (arith, e)), (digit_free (x / 16), (digit_free (x % 16), tt)))))))
    (λ t. ((λ e. true≢false (subst (λ (n : ℕ). nat_lt n 32 ≡ false) e t)), tt)))

escape_free : (s : List ℕ) → IsFreeOf 10 (escape s)
escape_free [] = tt
escape_free (x ∷ s) = free_append (escape_byte x) (escape s) (escape_byte_free x) (escape_free s)

quoted_free : (s : List ℕ) → IsFreeOf 10 (quoted s)
quoted_free s = ((λ e. omega (arith, e)), free_append (escape s) (34 ∷ []) (escape_free s) ((λ e. omega (arith, e)), tt))

-- ---- values

-- each number is whole and below 2^64
abbrev mutual
  pub HasWholes : Data → Type 0
  HasWholes null = Unit {0}
  HasWholes (boolean b) = Unit {0}
  HasWholes (number (unsigned n)) = n < 2 ^ 64
  HasWholes (number (negative z)) = ⊥
  HasWholes (number (float x)) = ⊥
  HasWholes (string s) = Unit {0}
  HasWholes (array ds) = ItemsHaveWholes ds
  HasWholes (object ms) = MembersHaveWholes ms

  pub ItemsHaveWholes : Items → Type 0
  ItemsHaveWholes no_items = Unit {0}
  ItemsHaveWholes (item d ds) = HasWholes d × ItemsHaveWholes ds

  pub MembersHaveWholes : Members → Type 0
  MembersHaveWholes no_members = Unit {0}
  MembersHaveWholes (member k d ms) = HasWholes d × MembersHaveWholes ms

comma_free : (later : Bool) → IsFreeOf 10 (comma_if later)
comma_free true = ((λ e. omega (arith, e)), tt)
comma_free false = tt

boolean_free : (b : Bool) → IsFreeOf 10 (compact_text (boolean b))
boolean_free true = ((λ e. omega (arith, e)), ((λ e. omega (arith, e)), ((λ e. omega (arith, e)), ((λ e. omega (arith, e)), tt))))
boolean_free false = ((λ e. omega (arith, e)), ((λ e. omega (arith, e)), ((λ e. omega (arith, e)), ((λ e. omega (arith, e)), ((λ e. omega (arith, e)), tt)))))

mutual
  pub one_line : (d : Data) → HasWholes d → IsFreeOf 10 (compact_text d)
  one_line null w = ((λ e. omega (arith, e)), ((λ e. omega (arith, e)), ((λ e. omega (arith, e)), ((λ e. omega (arith, e)), tt))))
  one_line (boolean b) w = boolean_free b
  one_line (number (unsigned n)) w = free_decimal n w
  one_line (number (negative z)) w = absurd w
  one_line (number (float x)) w = absurd w
  one_line (string s) w = quoted_free s
  one_line (array ds) w = ((λ e. omega (arith, e)), items_one_line false ds w)
  one_line (object ms) w = ((λ e. omega (arith, e)), members_one_line false ms w)

  items_one_line : (later : Bool) (ds : Items) → ItemsHaveWholes ds → IsFreeOf 10 (items_text later ds)
  items_one_line later no_items w = ((λ e. omega (arith, e)), tt)
  items_one_line later (item d ds) w =
      free_append (comma_if later) (compact_text d ++ items_text true ds) (comma_free later) (free_append (compact_text d) (items_text true ds) (one_line d w.0) (items_one_line true ds w.1))

  members_one_line : (later : Bool) (ms : Members) → MembersHaveWholes ms → IsFreeOf 10 (members_text later ms)
  members_one_line later no_members w = ((λ e. omega (arith, e)), tt)
  members_one_line later (member k d ms) w =
      free_append (comma_if later) (quoted k ++ 58 ∷ (compact_text d ++ members_text true ms)) (comma_free later)
      (free_append (quoted k) (58 ∷ (compact_text d ++ members_text true ms)) (quoted_free k)
      ((λ e. omega (arith, e)), free_append (compact_text d) (members_text true ms) (one_line d w.0) (members_one_line true ms w.1)))

pub items_have_wholes : {X : Type 0} (f : X → Data) (P : X → Type 0) → ((x : X) → P x → HasWholes (f x)) → (xs : List X) → AllByRecursion P xs → ItemsHaveWholes (items_with f xs)
items_have_wholes f P one [] all = tt
items_have_wholes f P one (x ∷ xs) all = (one x all.0, items_have_wholes f P one xs all.1)
