-- Which nodes send to which; lists that grow by an element, seen by a part of each.
use Rattle.std.proofs.Common.{◌≡◌, ℕ, zero, suc, ◌+◌, ◌<◌, List, [], ◌∷◌, ◌++◌, length, take, drop, map, get_or, refl, ap, subst, sym, ◌∙◌, arith, length-append, append_assoc, append-nil, All, Vec, Global, Result, Ok}
use Rattle.std.specs.Prelude.{slice_get, Some}
use Rattle.std.proofs.lemmas.List.{length-map, map-append, take_all, take_more}
use Rattle.std.proofs.lemmas.List.Elements.{All-push, All-weaker}
use Rattle.std.proofs.lemmas.Option.{slice_get_within, get_or_from_slice_get}
use Rattle.units.proofs.Lists.Positions.{some_at}
use Rattle.units.specs.declared.memory.NoMemory.{NoMemory}
use Rattle.units.specs.declared.code.Node.{Node}
use Rattle.node_state.specs.Views.{SeatView}
use Rattle.sessions.specs.Orders.{AreAll}
use Rattle.run.specs.Wiring.{peers_of}

pub log_peers : (names : List Node) → 0 < length names → slice_get (peers_of names) 0 ≡ Some (drop 1 names)
log_peers [] low = absurd (omega (arith, low))
log_peers (log ∷ registries) low = refl

each_log : (log : Node) (registries : List Node) (k : ℕ) → k < length registries → slice_get (map (λ r. log ∷ []) registries) k ≡ Some (log ∷ [])
each_log log [] k low = absurd (omega (arith, low))
each_log log (r ∷ rs) zero low = refl
each_log log (r ∷ rs) (suc k) low = each_log log rs k (omega (arith, low))

pub registry_peers : (names : List Node) (at : ℕ) → 0 < at → at < length names → slice_get (peers_of names) at ≡ Some (take 1 names)
registry_peers [] at above low = absurd (omega (arith, low))
registry_peers (log ∷ registries) zero above low = absurd (omega (arith, above))
registry_peers (log ∷ registries) (suc k) above low = each_log log registries k (omega (arith, low))

-- one element more, whose part is the next of the list
pub part_more : {X Y : Type 0} (f : X → Y) (xs : List X) (x : X) (zs : List X) (ys : List Y) (k : ℕ) → zs ≡ xs ++ x ∷ [] → k < length ys → map f xs ≡ take k ys → f x ≡ get_or ys k (f x) → map f zs ≡ take (k + 1) ys
part_more f xs x zs ys k more low same item =
    ap (map f) more ∙ map-append f xs (x ∷ []) ∙ ap (λ t. t ++ f x ∷ []) same ∙ ap (λ y. take k ys ++ y ∷ []) item ∙ sym (take_more ys k (f x) low)

-- a value's source is the next of the list, and so is its part
pub part_is : {Y : Type 0} (ys : List Y) (k : ℕ) (own given : Y) → own ≡ given → given ≡ get_or ys k given → own ≡ get_or ys k own
part_is ys k own given same item = subst (λ y. y ≡ get_or ys k y) (sym same) item

-- of two lists, one handed on to the other element by element: those that have arrived, and then those that are left
pub handed_on : {X Y Z : Type 0} (f : X → Z) (g : Y → Z) (xs zs : List X) (x : X) (ys rest : List Y) (y : Y) (all : List Z) → zs ≡ xs ++ x ∷ [] → ys ≡ y ∷ rest → f x ≡ g y → map f xs ++ map g ys ≡ all → map f zs ++ map g rest ≡ all
handed_on f g xs zs x ys rest y all more next same before =
    ap (λ l. map f l ++ map g rest) more
    ∙ ap (λ l. l ++ map g rest) (map-append f xs (x ∷ []))
    ∙ append_assoc (map f xs) (f x ∷ []) (map g rest)
    ∙ ap (λ z. map f xs ++ z ∷ map g rest) same
    ∙ sym (ap (λ l. map f xs ++ map g l) next)
    ∙ before

pub all_handed : {X Y Z : Type 0} (f : X → Z) (g : Y → Z) (xs : List X) (ys : List Y) (all : List Z) → length ys ≡ 0 → map f xs ++ map g ys ≡ all → map f xs ≡ all
all_handed f g xs [] all none same = sym (append-nil (map f xs)) ∙ same
all_handed f g xs (y ∷ ys) all none same = absurd (omega (arith, none))

-- while one is left, fewer have arrived than there are
pub room_left : {X Y Z : Type 0} (f : X → Z) (g : Y → Z) (xs : List X) (ys rest : List Y) (y : Y) (all : List Z) → ys ≡ y ∷ rest → map f xs ++ map g ys ≡ all → length xs < length all
room_left f g xs ys rest y all next same =
    omega (arith, ap (λ l. length l) same, length-append (map f xs) (map g ys), length-map xs f, length-map ys g, ap (λ l. length l) next)

-- a part of a part
pub part_of_part : {X Y Z : Type 0} (f : Y → Z) (g : X → Y) (xs : List X) → map f (map g xs) ≡ map (λ x. f (g x)) xs
part_of_part f g [] = refl
part_of_part f g (x ∷ xs) = ap (λ l. f (g x) ∷ l) (part_of_part f g xs)

-- equal numbers of elements
pub pushed_count : {X : Type 0} (xs : List X) (x : X) (zs : List X) (k : ℕ) → zs ≡ xs ++ x ∷ [] → length xs ≡ k → length zs ≡ k + 1
pushed_count xs x zs k more same = ap (λ l. length l) more ∙ length-append xs (x ∷ []) ∙ ap (λ n. n + 1) same

pub all_pushed : {X : Type 0} (xs : List X) (x : X) (zs : List X) (P : X → Type 0) → zs ≡ xs ++ x ∷ [] → All P xs → P x → All P zs
all_pushed xs x zs P more all is = subst (All P) (sym more) (All-push P xs x all is)

-- ---- at the end

-- each node has its peers
pub peers_count : (names : List Node) → length (peers_of names) ≡ length names
peers_count [] = refl
peers_count (log ∷ registries) = ap suc (length-map registries (λ r. log ∷ []))

pub part_whole : {X Y : Type 0} (f : X → Y) (xs : List X) (ys : List Y) (k : ℕ) → map f xs ≡ take k ys → length ys ≡ k → map f xs ≡ ys
part_whole f xs ys k same whole = same ∙ take_all k ys (omega (arith, whole))

-- ---- the inputs that the threads of all nodes took

-- if every node has the property known of all nodes, the property known of each one's seats holds for all seats
pub all_taken : {N : Type 0} (nodes : List N) (IsAlike : N → Type 0) (Of : N → SeatView → Type 0) (IsSuch : SeatView → Type 0) → ((n : N) → IsAlike n → (s : SeatView) → Of n s → IsSuch s) → All IsAlike nodes
    → (ends : List (Result (Vec SeatView Global) NoMemory)) → length ends ≡ length nodes
    → ((k : ℕ) (n : N) (seats : Vec SeatView Global) → slice_get nodes k ≡ Some n → slice_get ends k ≡ Some (Ok seats) → All (Of n) seats.items) → AreAll IsSuch ends
all_taken nodes IsAlike Of IsSuch same alike ends count each k seats at =
    let n = some_at nodes k (omega (arith, count, slice_get_within ends k (Ok seats) at)) in
    let is : IsAlike n.0 = subst IsAlike (get_or_from_slice_get nodes k n.0 n.0 n.1) (alike k n.0 (slice_get_within nodes k n.0 n.1)) in
    All-weaker (Of n.0) IsSuch (same n.0 is) seats.items (each k n.0 seats n.1 at)
