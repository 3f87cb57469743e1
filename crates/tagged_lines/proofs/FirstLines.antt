-- The first line of some bytes, and the line that is returned for it.
use Rattle.std.proofs.Common.{◌≡◌, ℕ, zero, suc, ◌+◌, ◌-◌, ◌<◌, ◌≤◌, inl, inr, leb, eqb, Bool, true, false, cond, List, [], ◌∷◌, ◌++◌, Option, Some, None, length, get_or, take, drop, refl, sym, ap, subst, ◌∙◌, arith, add-one, append_assoc, append-nil, length-append}
use Rattle.std.proofs.Math.Seq.{split_at, drop-length}
use Rattle.std.proofs.lemmas.Bool.{ne_eqb, eqb-true, cases_lt}
use Rattle.std.proofs.lemmas.List.{take-append-drop, drop-drop, length-take-le}
use Rattle.std.specs.Io.KnownBytes.{Consumes, Keeps, IsAtEnd}
use Rattle.std.specs.Prelude.{option_map}
use Rattle.units.specs.declared.code.Node.{Node}
use Rattle.streams.specs.Lines.{HasNoNewline}
use Rattle.streams.proofs.Streams.{free_join}
use Rattle.tags.specs.Keys.{NodeKey}
use Rattle.tagged_lines.specs.Lines.{Adds, IsFront}
use Rattle.tagged_lines.specs.Opened.{line_of, longest_tagged, opened, opened_first, opened_line}
use Rattle.tagged_lines.specs.Opening.{Fills, given_out, opening_remaining}
use Rattle.tagged_lines.specs.Views.{OpeningView}
use Rattle.tagged_lines.specs.declared.line.Added.{Added}
use Rattle.tagged_lines.specs.declared.line.Added.TheVariants.{More, Whole, TooLong}
use Rattle.tagged_lines.specs.declared.opening_reader.Stage.{Stage}
use Rattle.tagged_lines.specs.declared.opening_reader.Stage.TheVariants as stage

-- ---- lines that grow

-- the added bytes don't fit
pub long_front : (limit count : ℕ) (old bytes : List ℕ) → count ≡ limit - length old → count < length bytes → HasNoNewline (take (count + 1) bytes)
    → (front after : List ℕ) × IsFront bytes front after × (limit < length old + length front)
long_front limit count old bytes room more free =
    let front = take (count + 1) bytes in
    let size : length front ≡ count + 1 = length-take-le (count + 1) bytes (omega (arith, more)) in
    (front, drop (count + 1) bytes, record { whole = sym (take-append-drop (count + 1) bytes); free = free }, omega (arith, size, room))

-- ---- the first line

option_same : (o : Option (List ℕ)) → option_map (λ (l : List ℕ). l) o ≡ o
option_same None = refl
option_same (Some l) = refl

option_again : (b : ℕ) (front : List ℕ) (o : Option (List ℕ)) → option_map (λ (l : List ℕ). b ∷ l) (option_map (λ (l : List ℕ). front ++ l) o) ≡ option_map (λ (l : List ℕ). (b ∷ front) ++ l) o
option_again b front None = refl
option_again b front (Some l) = refl

-- bytes without a newline are a part of the first line
pub line_of_front : (front after : List ℕ) → HasNoNewline front → line_of (front ++ after) ≡ option_map (λ (l : List ℕ). front ++ l) (line_of after)
line_of_front [] after free = sym (option_same (line_of after))
line_of_front (b ∷ front) after free =
    let other : eqb b 10 ≡ false = ne_eqb b 10 free.0 in
    ap (λ (t : Bool). cond t (Some []) (option_map (λ (l : List ℕ). b ∷ l) (line_of (front ++ after)))) other
    ∙ ap (option_map (λ (l : List ℕ). b ∷ l)) (line_of_front front after free.1) ∙ option_again b front (line_of after)

pub line_of_cut : (front rest : List ℕ) → HasNoNewline front → line_of (front ++ 10 ∷ rest) ≡ Some front
line_of_cut front rest free = line_of_front front (10 ∷ rest) free ∙ ap Some (append-nil front)

pub line_of_free : (front : List ℕ) → HasNoNewline front → line_of front ≡ None
line_of_free front free = ap line_of (sym (append-nil front)) ∙ line_of_front front [] free

leb_false : (a b : ℕ) → b < a → leb a b ≡ false
leb_false a b h = grind (arith)

leb_true : (a b : ℕ) → a ≤ b → leb a b ≡ true
leb_true a b h = grind (arith)

module _ (keys : List NodeKey) (node : Node) where
  pub opened_cut : (front rest : List ℕ) → HasNoNewline front → length front ≤ longest_tagged → opened keys node (front ++ 10 ∷ rest) ≡ opened_line keys node front
  opened_cut front rest free short =
      ap (opened_first keys node) (line_of_cut front rest free) ∙ ap (λ (t : Bool). cond t (opened_line keys node front) []) (leb_true (length front) longest_tagged short)

  pub opened_free : (front : List ℕ) → HasNoNewline front → opened keys node front ≡ []
  opened_free front free = ap (opened_first keys node) (line_of_free front free)

  too_long : (front : List ℕ) (o : Option (List ℕ)) → longest_tagged < length front → opened_first keys node (option_map (λ (l : List ℕ). front ++ l) o) ≡ []
  too_long front None long = refl
  too_long front (Some l) long =
      ap (λ (t : Bool). cond t (opened_line keys node (front ++ l)) []) (leb_false (length (front ++ l)) longest_tagged (omega (arith, length-append front l, long)))

  pub opened_long : (front after : List ℕ) → HasNoNewline front → longest_tagged < length front → opened keys node (front ++ after) ≡ []
  opened_long front after free long = ap (opened_first keys node) (line_of_front front after free) ∙ too_long front (line_of after) long

-- ---- one read

-- the bytes that are left after a read are known if those before it are
pub fills_from : (old new : Option (List ℕ)) (bytes line line' : List ℕ) (s : Stage) → Consumes old new bytes
    → ((keys : List NodeKey) (node : Node) (left : List ℕ) → given_out keys node line' s left ≡ opened keys node (line ++ (bytes ++ left))) → Fills old new line line' s
fills_from None new bytes line line' s c same keys node = tt
fills_from (Some xs) None bytes line line' s c same keys node = absurd c
fills_from (Some xs) (Some ys) bytes line line' s c same keys node = same keys node ys ∙ ap (λ (t : List ℕ). opened keys node (line ++ t)) (sym c)

pub fills_more : (old new : Option (List ℕ)) (bytes line line' : List ℕ) → Consumes old new bytes → Adds longest_tagged line bytes line' More → Fills old new line line' stage.Reading
fills_more old new bytes line line' c adds =
    fills_from old new bytes line line' stage.Reading c (λ keys node left. ap (λ (t : List ℕ). opened keys node (t ++ left)) adds.0 ∙ ap (opened keys node) (append_assoc line bytes left))

pub fills_whole : (old new : Option (List ℕ)) (bytes line line' : List ℕ) → HasNoNewline line → length line' ≤ longest_tagged → Consumes old new bytes → Adds longest_tagged line bytes line' Whole → Fills old new line line' stage.Whole
fills_whole old new bytes line line' free short c (front, rest, is, same) =
    fills_from old new bytes line line' stage.Whole c (λ keys node left.
    let all : line ++ (bytes ++ left) ≡ (line ++ front) ++ 10 ∷ (rest ++ left) =
    ap (λ (t : List ℕ). line ++ (t ++ left)) is.whole ∙ ap (λ (t : List ℕ). line ++ t) (append_assoc front (10 ∷ rest) left) ∙ sym (append_assoc line front (10 ∷ (rest ++ left))) in
    ap (opened_line keys node) same ∙ sym (opened_cut keys node (line ++ front) (rest ++ left) (free_join line front free is.free) (subst (λ (t : List ℕ). length t ≤ longest_tagged) same short))
    ∙ ap (opened keys node) (sym all))

pub fills_long : (old new : Option (List ℕ)) (bytes line line' : List ℕ) → HasNoNewline line → Consumes old new bytes → Adds longest_tagged line bytes line' TooLong → Fills old new line line' (stage.Giving (length line'))
fills_long old new bytes line line' free c (same, (front, after, is, long)) =
    fills_from old new bytes line line' (stage.Giving (length line')) c (λ keys node left.
    let all : line ++ (bytes ++ left) ≡ (line ++ front) ++ (after ++ left) =
    ap (λ (t : List ℕ). line ++ (t ++ left)) is.whole ∙ ap (λ (t : List ℕ). line ++ t) (append_assoc front after left) ∙ sym (append_assoc line front (after ++ left)) in
    drop-length line' ∙ sym (opened_long keys node (line ++ front) (after ++ left) (free_join line front free is.free) (omega (arith, length-append line front, long)))
    ∙ ap (opened keys node) (sym all))

pub fills_end : (old new : Option (List ℕ)) (line line' : List ℕ) → HasNoNewline line → line' ≡ line → Consumes old new [] → IsAtEnd new → Fills old new line line' (stage.Giving (length line'))
fills_end None new line line' free same c end keys node = tt
fills_end (Some xs) None line line' free same c end keys node = absurd c
fills_end (Some xs) (Some ys) line line' free same c end keys node =
    let none : line ++ xs ≡ line = ap (λ (t : List ℕ). line ++ t) (c ∙ end) ∙ append-nil line in
    drop-length line' ∙ sym (opened_free keys node line free) ∙ ap (opened keys node) (sym none)

-- ---- returning the line

pub drop_further : (line piece : List ℕ) (at n : ℕ) → take n piece ≡ take n (drop at line) → drop at line ≡ take n piece ++ drop (at + n) line
drop_further line piece at n same =
    sym (take-append-drop n (drop at line)) ∙ ap (λ (t : List ℕ). t ++ drop n (drop at line)) (sym same) ∙ ap (λ (t : List ℕ). take n piece ++ t) (drop-drop n at line)

-- either the remaining bytes of a line from there on are known, or none are
abbrev pub Left : List ℕ → ℕ → Option (List ℕ) → Option (List ℕ)
Left line at inner = option_map (λ (left : List ℕ). drop at line) inner

pub gives_some : (inner : Option (List ℕ)) (line piece : List ℕ) (at n : ℕ) → take n piece ≡ take n (drop at line) → Consumes (Left line at inner) (Left line (at + n) inner) (take n piece)
gives_some None line piece at n same = tt
gives_some (Some xs) line piece at n same = drop_further line piece at n same

pub gives_end : (inner : Option (List ℕ)) (line : List ℕ) (at : ℕ) → length line ≤ at → IsAtEnd (Left line at inner)
gives_end None line at end = tt
gives_end (Some xs) line at end = drop_end line at end
  where
    drop_end : (l : List ℕ) (n : ℕ) → length l ≤ n → drop n l ≡ []
    drop_end [] zero h = refl
    drop_end [] (suc n) h = refl
    drop_end (x ∷ l) zero h = absurd (omega (arith, h))
    drop_end (x ∷ l) (suc n) h = drop_end l n (omega (arith, h))

-- ---- a read as its caller sees it

module _ {R : Type 0} (remaining : R → Option (List ℕ)) (v : OpeningView R) (inner : R) (keys : List NodeKey) (node : Node) (line : List ℕ) where
  abbrev at_stage : Stage → OpeningView R
  at_stage s = record { inner = inner; keys = keys; node = node; line = line; stage = s }

  pub keeps_reading : (inner' : R) (line' : List ℕ) (s s' : Stage) → v ≡ at_stage s → s ≡ stage.Reading → Fills (remaining inner) (remaining inner') line line' s'
      → Keeps (opening_remaining remaining v) (opening_remaining remaining (record { inner = inner'; keys = keys; node = node; line = line'; stage = s' }))
  keeps_reading inner' line' s s' view is fills =
      subst (λ (x : OpeningView R). Keeps (opening_remaining remaining x) (opening_remaining remaining (record { inner = inner'; keys = keys; node = node; line = line'; stage = s' }))) (sym (view ∙ ap at_stage is)) (fills keys node)

  pub gives_out : (s : Stage) (at n : ℕ) (piece : List ℕ) → v ≡ at_stage s → s ≡ stage.Giving at → take n piece ≡ take n (drop at line)
      → Consumes (opening_remaining remaining v) (opening_remaining remaining (at_stage (stage.Giving (at + n)))) (take n piece)
  gives_out s at n piece view is same =
      subst (λ (x : OpeningView R). Consumes (opening_remaining remaining x) (opening_remaining remaining (at_stage (stage.Giving (at + n)))) (take n piece)) (sym (view ∙ ap at_stage is)) (gives_some (remaining inner) line piece at n same)
