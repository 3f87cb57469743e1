-- The blocks of many allotments, one after the other.
use Rattle.std.proofs.Common.{◌≡◌, ℕ, ◌+◌, ◌<◌, List, [], ◌∷◌, ◌++◌, length, get_or, take, sym, ap, ◌∙◌, append_assoc}
use Rattle.std.proofs.lemmas.List.{take_more, append-nil}
use Rattle.scheme.specs.Order.{blocks_of, all_blocks}
use Rattle.scheme.specs.declared.members.Allotment.{Allotment}
use Rattle.scheme.specs.declared.members.SchemeRegistry.{SchemeRegistry}

blocks_push : (xs : List Allotment) (a : Allotment) → blocks_of (xs ++ a ∷ []) ≡ blocks_of xs ++ a.units
blocks_push [] a = append-nil a.units
blocks_push (x ∷ xs) a = ap (λ bs. x.units ++ bs) (blocks_push xs a) ∙ sym (append_assoc x.units (blocks_of xs) a.units)

pub blocks_more : (xs : List Allotment) (i : ℕ) (a : Allotment) → i < length xs → a ≡ get_or xs i a → blocks_of (take (i + 1) xs) ≡ blocks_of (take i xs) ++ a.units
blocks_more xs i a lt is = ap blocks_of (take_more xs i a lt ∙ ap (λ x. take i xs ++ x ∷ []) (sym is)) ∙ blocks_push (take i xs) a

all_push : (ms : List SchemeRegistry) (m : SchemeRegistry) → all_blocks (ms ++ m ∷ []) ≡ all_blocks ms ++ blocks_of m.allotted
all_push [] m = append-nil (blocks_of m.allotted)
all_push (x ∷ ms) m = ap (λ bs. blocks_of x.allotted ++ bs) (all_push ms m) ∙ sym (append_assoc (blocks_of x.allotted) (all_blocks ms) (blocks_of m.allotted))

pub all_more : (ms : List SchemeRegistry) (i : ℕ) (m : SchemeRegistry) → i < length ms → m ≡ get_or ms i m → all_blocks (take (i + 1) ms) ≡ all_blocks (take i ms) ++ blocks_of m.allotted
all_more ms i m lt is = ap all_blocks (take_more ms i m lt ∙ ap (λ x. take i ms ++ x ∷ []) (sym is)) ∙ all_push (take i ms) m
