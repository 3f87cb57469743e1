-- The views of a world, gathered one element at a time.
use Rattle.std.proofs.Common.{◌≡◌, Bool, true, false, ℕ, zero, suc, ◌+◌, ◌<◌, List, [], ◌∷◌, ◌++◌, map, take, length, get_or, Option, Some, None, refl, sym, ap, ◌∙◌, subst, arith}
use Rattle.std.specs.Prelude.{option_and_then, slice_get}
use Rattle.std.specs.List.{filter, filter_map, flat_map, cons_option}
use Rattle.std.specs.Option.{option_to_list}
use Rattle.std.proofs.lemmas.List.{append-nil, map-append, take_more}
use Rattle.std.proofs.lemmas.List.Concat.{flat_map-append}
use Rattle.std.proofs.lemmas.List.Elements.{filter-append}
use Rattle.registry_core.specs.HeldBlock.{HeldBlock}
use Rattle.scheme.specs.declared.members.SchemeRegistry.{SchemeRegistry}
use Rattle.protocol.specs.World.{World}
use Rattle.registry_core.specs.Reported.{AreHoldings}
use Rattle.world.specs.RegistryLines.{AreLines, registry_at}
use Rattle.world.specs.Stocks.{AreStocks}
use Rattle.world.specs.declared.views.Stock.{Stock}

-- the front of a list, with one element more
pub front_more : {X : Type 0} (xs : List X) (i : ℕ) (x : X) → i < length xs → x ≡ get_or xs i x → take (i + 1) xs ≡ take i xs ++ x ∷ []
front_more xs i x h is = take_more xs i x h ∙ ap (λ y. take i xs ++ y ∷ []) (sym is)

-- ---- the values gathered from all elements, and from those that pass a test

pub flat_map_next : {X Y : Type 0} (f : X → List Y) (xs : List X) (i : ℕ) (x : X) → i < length xs → x ≡ get_or xs i x → flat_map f (take (i + 1) xs) ≡ flat_map f (take i xs) ++ f x
flat_map_next f xs i x h is = ap (flat_map f) (front_more xs i x h is) ∙ flat_map-append f (take i xs) (x ∷ []) ∙ ap (λ l. flat_map f (take i xs) ++ l) (append-nil (f x))

seen_next : {X Y : Type 0} (keeps : Y → Bool) (f : X → Y) (xs : List X) (i : ℕ) (x : X) → i < length xs → x ≡ get_or xs i x → filter keeps (map f (take (i + 1) xs)) ≡ filter keeps (map f (take i xs)) ++ filter keeps (f x ∷ [])
seen_next keeps f xs i x h is = ap (λ l. filter keeps (map f l)) (front_more xs i x h is) ∙ ap (filter keeps) (map-append f (take i xs) (x ∷ [])) ∙ filter-append keeps (map f (take i xs)) (f x ∷ [])

passes : {Y : Type 0} (keeps : Y → Bool) (y : Y) → keeps y ≡ true → filter keeps (y ∷ []) ≡ y ∷ []
passes keeps y e = rw e refl

fails : {Y : Type 0} (keeps : Y → Bool) (y : Y) → keeps y ≡ false → filter keeps (y ∷ []) ≡ []
fails keeps y e = rw e refl

pub filter_next : {X Y : Type 0} (keeps : Y → Bool) (f : X → Y) (xs : List X) (i : ℕ) (x : X) → i < length xs → x ≡ get_or xs i x → keeps (f x) ≡ true → filter keeps (map f (take (i + 1) xs)) ≡ filter keeps (map f (take i xs)) ++ f x ∷ []
filter_next keeps f xs i x h is e = seen_next keeps f xs i x h is ∙ ap (λ l. filter keeps (map f (take i xs)) ++ l) (passes keeps (f x) e)

pub filter_past : {X Y : Type 0} (keeps : Y → Bool) (f : X → Y) (xs : List X) (i : ℕ) (x : X) → i < length xs → x ≡ get_or xs i x → keeps (f x) ≡ false → filter keeps (map f (take (i + 1) xs)) ≡ filter keeps (map f (take i xs))
filter_past keeps f xs i x h is e = seen_next keeps f xs i x h is ∙ ap (λ l. filter keeps (map f (take i xs)) ++ l) (fails keeps (f x) e) ∙ append-nil (filter keeps (map f (take i xs)))

-- ---- the values gathered from the elements that have one

one : {X Y : Type 0} (f : X → Option Y) (x : X) → filter_map f (x ∷ []) ≡ option_to_list (f x)
one {Y = Y} f x = of (f x)
  where
    of : (o : Option Y) → cons_option o [] ≡ option_to_list o
    of None = refl
    of (Some y) = refl

cons_append : {Y : Type 0} (o : Option Y) (ys zs : List Y) → cons_option o (ys ++ zs) ≡ cons_option o ys ++ zs
cons_append None ys zs = refl
cons_append (Some y) ys zs = refl

-- what one index more gives, if there is such an index
next : {X Y : Type 0} (f : X → Option Y) (xs : List X) (k : ℕ) → filter_map f (take (suc k) xs) ≡ filter_map f (take k xs) ++ option_to_list (option_and_then f (slice_get xs k))
next f [] zero = refl
next f [] (suc k) = refl
next f (x ∷ xs) zero = one f x
next f (x ∷ xs) (suc k) = ap (cons_option (f x)) (next f xs k) ∙ cons_append (f x) (filter_map f (take k xs)) (option_to_list (option_and_then f (slice_get xs k)))

pub filter_map_next : {X Y : Type 0} (f : X → Option Y) (xs : List X) (k : ℕ) → filter_map f (take (k + 1) xs) ≡ filter_map f (take k xs) ++ option_to_list (option_and_then f (slice_get xs k))
filter_map_next f xs k = let same : k + 1 ≡ suc k = omega arith in ap (λ i. filter_map f (take i xs)) same ∙ next f xs k

-- ---- the holdings of the registries

lines_push : (w : World) (ms : List SchemeRegistry) (lss : List (List HeldBlock)) (m : SchemeRegistry) (ls : List HeldBlock) → AreLines w ms lss → AreHoldings (registry_at w m.code) ls → AreLines w (ms ++ m ∷ []) (lss ++ ls ∷ [])
lines_push w [] [] m ls are holds = (holds, tt)
lines_push w [] (l ∷ lss) m ls are holds = absurd are
lines_push w (n ∷ ms) [] m ls are holds = absurd are
lines_push w (n ∷ ms) (l ∷ lss) m ls are holds = (are.0, lines_push w ms lss m ls are.1 holds)

stocks_push : (w : World) (ms : List SchemeRegistry) (ss : List Stock) (m : SchemeRegistry) (s : Stock) → AreStocks w ms ss → s.code ≡ m.code → AreHoldings (registry_at w m.code) s.lines → AreStocks w (ms ++ m ∷ []) (ss ++ s ∷ [])
stocks_push w ms ss m s are code holds = record {
  codes = map-append (λ (x : Stock). x.code) ss (s ∷ []) ∙ ap (λ l. l ++ s.code ∷ []) are.codes ∙ ap (λ c. map (λ (x : SchemeRegistry). x.code) ms ++ c ∷ []) code ∙ sym (map-append (λ (x : SchemeRegistry). x.code) ms (m ∷ []));
  lines = subst (AreLines w (ms ++ m ∷ [])) (sym (map-append (λ (x : Stock). x.lines) ss (s ∷ []))) (lines_push w ms (map (λ (x : Stock). x.lines) ss) m s.lines are.lines holds);
}

pub stocks_more : (w : World) (ms : List SchemeRegistry) (i : ℕ) (ss : List Stock) (m : SchemeRegistry) (s : Stock) → i < length ms → m ≡ get_or ms i m → AreStocks w (take i ms) ss → s.code ≡ m.code → AreHoldings (registry_at w m.code) s.lines
    → AreStocks w (take (i + 1) ms) (ss ++ s ∷ [])
stocks_more w ms i ss m s h is are code holds = subst (λ (l : List SchemeRegistry). AreStocks w l (ss ++ s ∷ [])) (sym (front_more ms i m h is)) (stocks_push w (take i ms) ss m s are code holds)
