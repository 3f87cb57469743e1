-- Messages that aren't acknowledged: their order, the messages of a set of them after it changed, and the keys of
-- messages among them.
use Rattle.std.proofs.Common.{◌≡◌, inl, inr, ℕ, zero, suc, ◌+◌, ◌<◌, ◌≤◌, ◌==◌, ◌&&◌, ◌||◌, not, Bool, true, false, List, [], ◌∷◌, ◌++◌, length, Option, Some, None, cond, take, get_or, add-one, refl, sym, ap, subst, ◌∙◌, arith}
use Rattle.std.specs.List.{slice_get}
use Rattle.std.specs.Option.{option_map_or}
use Rattle.std.specs.Prelude.{Result, Ok, Err, is_err, OnOk, OnErr}
use Rattle.std.specs.Ordering.{is_eq, is_gt}
use Rattle.std.proofs.Math.Bool.{or-false, and-false, and-true}
use Rattle.std.proofs.lemmas.Bool.{cases_lt, true≢false}
use Rattle.std.proofs.lemmas.Bool.Decides.{nat_tests}
use Rattle.std.proofs.lemmas.List.{length-take-le}
use Rattle.std.proofs.Math.Seq.{take-suc}
use Rattle.units.proofs.Same.{codes_alike}
use Rattle.units.specs.Code.{same_node}
use Rattle.units.specs.declared.code.Code.{Code}
use Rattle.units.specs.declared.code.Node.{Node}
use Rattle.units.specs.declared.code.Node.TheVariants.{Itl, Registry}
use Rattle.wire.specs.declared.message.Message.{Message}
use Rattle.records.specs.Awaiting.{among, is_at, peer_of, unacknowledged_cmp, unacknowledged_of}
use Rattle.records.specs.declared.unacknowledged.Unacknowledged.{Unacknowledged}

-- ---- one message

abbrev at : Option Code → ℕ → Unacknowledged
at r key = record { registry = r; key = key }

-- what the order takes for the same message
tied : (n : Node) (k : ℕ) (r : Option Code) (j : ℕ) → is_eq (unacknowledged_cmp (unacknowledged_of n k) (at r j)) ≡ (same_node n (peer_of r) && (k == j))
tied Itl k None j = grind (arith, nat_tests)
tied Itl k (Some d) j = refl
tied (Registry c) k None j = refl
tied (Registry c) k (Some d) j = grind (arith, nat_tests)

pub same_unacknowledged : (n : Node) (k : ℕ) (q : Unacknowledged) → is_eq (unacknowledged_cmp (unacknowledged_of n k) q) ≡ (same_node n (peer_of q.registry) && (k == q.key))
same_unacknowledged n k q = tied n k q.registry q.key

-- ---- messages with ascending keys

or_assoc : (a b c : Bool) → (a || (b || c)) ≡ ((a || b) || c)
or_assoc true b c = refl
or_assoc false b c = refl

pub among_append : (start : ℕ) (xs ys : List Message) (q : Unacknowledged) → among start (xs ++ ys) q ≡ (among start xs q || among (start + length xs) ys q)
among_append start [] ys q = ap (λ (n : ℕ). among n ys q) (omega arith)
among_append start (x ∷ xs) ys q =
    ap (λ (b : Bool). is_at start x q || b) (among_append (suc start) xs ys q)
    ∙ ap (λ (n : ℕ). is_at start x q || (among (suc start) xs q || among n ys q)) (omega arith)
    ∙ or_assoc (is_at start x q) (among (suc start) xs q) (among (start + length (x ∷ xs)) ys q)

pub among_snoc : (start : ℕ) (xs : List Message) (m : Message) (q : Unacknowledged) → among start (xs ++ m ∷ []) q ≡ (among start xs q || is_at (start + length xs) m q)
among_snoc start xs m q = among_append start xs (m ∷ []) q ∙ ap (λ (b : Bool). among start xs q || b) (or-false (is_at (start + length xs) m q))

other : (a b : ℕ) → (a ≡ b → ⊥) → (a == b) ≡ false
other a b h = grind (arith, nat_tests)

alike : (a b : ℕ) → a ≡ b → (a == b) ≡ true
alike a b h = grind (arith, nat_tests)

not_at : (key : ℕ) (m : Message) (q : Unacknowledged) → (key ≡ q.key → ⊥) → is_at key m q ≡ false
not_at key m q h = ap (λ (b : Bool). same_node m.to (peer_of q.registry) && b) (other key q.key h) ∙ and-false (same_node m.to (peer_of q.registry))

pub among_below : (start : ℕ) (ms : List Message) (q : Unacknowledged) → q.key < start → among start ms q ≡ false
among_below start [] q h = refl
among_below start (m ∷ ms) q h = ap (λ (b : Bool). b || among (suc start) ms q) (not_at start m q (λ e. absurd (omega arith))) ∙ among_below (suc start) ms q (omega arith)

-- the message at the key, by counting on
pub among_at : (start : ℕ) (ms : List Message) (q : Unacknowledged) (j : ℕ) → q.key ≡ start + j → option_map_or (λ m. same_node m.to (peer_of q.registry)) (slice_get ms j) false ≡ among start ms q
among_at start [] q j e = refl
among_at start (m ∷ ms) q zero e =
    let here : is_at start m q ≡ same_node m.to (peer_of q.registry) =
    ap (λ (b : Bool). same_node m.to (peer_of q.registry) && b) (alike start q.key (omega arith)) ∙ and-true (same_node m.to (peer_of q.registry)) in
    let later : among (suc start) ms q ≡ false = among_below (suc start) ms q (omega arith) in
    sym (ap (λ (b : Bool). is_at start m q || b) later ∙ or-false (is_at start m q) ∙ here)
among_at start (m ∷ ms) q (suc j) e =
    among_at (suc start) ms q j (omega arith) ∙ sym (ap (λ (b : Bool). b || among (suc start) ms q) (not_at start m q (λ h. absurd (omega arith))))

-- all messages from key 0 on
pub among_all : (ms : List Message) (q : Unacknowledged) → option_map_or (λ m. same_node m.to (peer_of q.registry)) (slice_get ms q.key) false ≡ among 0 ms q
among_all ms q = among_at 0 ms q q.key (omega arith)

-- ---- their order

keys_up : (r : Option Code) (i j : ℕ) → is_gt (unacknowledged_cmp (at r i) (at r j)) ≡ false → i ≤ j
keys_up None i j h = grind (arith, nat_tests)
keys_up (Some c) i j h = grind (arith, nat_tests)

up_keys : (r : Option Code) (i j : ℕ) → i ≤ j → is_gt (unacknowledged_cmp (at r i) (at r j)) ≡ false
up_keys None i j h = grind (arith, nat_tests)
up_keys (Some c) i j h = grind (arith, nat_tests)

-- what stands between two messages to one node goes to it
between : (r s : Option Code) (i j k : ℕ) → is_gt (unacknowledged_cmp (at r i) (at s j)) ≡ false → is_gt (unacknowledged_cmp (at s j) (at r k)) ≡ false → s ≡ r
between None None i j k g h = refl
between None (Some d) i j k g h = absurd (cc)
between (Some c) None i j k g h = absurd (cc)
between (Some c) (Some d) i j k g h = ap Some (codes_alike d c (first c d i j k g h) (second c d i j k g h))
  where
    first : (c d : Code) (i j k : ℕ) → is_gt (unacknowledged_cmp (at (Some c) i) (at (Some d) j)) ≡ false → is_gt (unacknowledged_cmp (at (Some d) j) (at (Some c) k)) ≡ false → d.first ≡ c.first
    first c d i j k g h = grind (arith, nat_tests)

    second : (c d : Code) (i j k : ℕ) → is_gt (unacknowledged_cmp (at (Some c) i) (at (Some d) j)) ≡ false → is_gt (unacknowledged_cmp (at (Some d) j) (at (Some c) k)) ≡ false → d.second ≡ c.second
    second c d i j k g h = grind (arith, nat_tests)

-- ---- sets that change

pub on_ok : {T E : Type 0} {P : Type 0} (r : Result T E) → is_err r ≡ false → OnOk r P → P
on_ok (Ok x) e h = h
on_ok (Err x) e h = absurd (true≢false e)

pub on_err : {T E : Type 0} {P : Type 0} (r : Result T E) → is_err r ≡ true → OnErr r P → P
on_err (Ok x) e h = absurd (true≢false (sym e))
on_err (Err x) e h = h

forgot : (t o a : Bool) → cond t false (o && not a) ≡ (o && not (a || t))
forgot true true true = refl
forgot true true false = refl
forgot true false a = refl
forgot false o true = refl
forgot false o false = refl

took : (t o a : Bool) → cond t true (o || a) ≡ (o || (a || t))
took true true a = refl
took true false true = refl
took true false false = refl
took false true a = refl
took false false true = refl
took false false false = refl

one_more : (start i : ℕ) (ms : List Message) (m : Message) (q : Unacknowledged) → i < length ms → m ≡ get_or ms i m → among start (take (i + 1) ms) q ≡ (among start (take i ms) q || is_eq (unacknowledged_cmp (unacknowledged_of m.to (start + i)) q))
one_more start i ms m q below is =
    let more : take (i + 1) ms ≡ take i ms ++ m ∷ [] = ap (λ (n : ℕ). take n ms) (add-one i) ∙ take-suc ms i m below ∙ ap (λ (x : Message). take i ms ++ x ∷ []) (sym is) in
    let count : length (take i ms) ≡ i = length-take-le i ms (omega arith) in
    ap (λ (l : List Message). among start l q) more ∙ among_snoc start (take i ms) m q
    ∙ ap (λ (n : ℕ). among start (take i ms) q || is_at (start + n) m q) count
    ∙ ap (λ (b : Bool). among start (take i ms) q || b) (sym (same_unacknowledged m.to (start + i) q))

pub forget_more : (start i : ℕ) (ms : List Message) (m : Message) (q : Unacknowledged) (old now new : Bool) → i < length ms → m ≡ get_or ms i m → now ≡ (old && not (among start (take i ms) q))
    → new ≡ cond (is_eq (unacknowledged_cmp (unacknowledged_of m.to (start + i)) q)) false now → new ≡ (old && not (among start (take (i + 1) ms) q))
forget_more start i ms m q old now new below is had has =
    let t = is_eq (unacknowledged_cmp (unacknowledged_of m.to (start + i)) q) in
    has ∙ ap (λ (b : Bool). cond t false b) had ∙ forgot t old (among start (take i ms) q) ∙ ap (λ (b : Bool). old && not b) (sym (one_more start i ms m q below is))

pub await_more : (start i : ℕ) (ms : List Message) (m : Message) (q : Unacknowledged) (old now new : Bool) → i < length ms → m ≡ get_or ms i m → now ≡ (old || among start (take i ms) q)
    → new ≡ cond (is_eq (unacknowledged_cmp (unacknowledged_of m.to (start + i)) q)) true now → new ≡ (old || among start (take (i + 1) ms) q)
await_more start i ms m q old now new below is had has =
    let t = is_eq (unacknowledged_cmp (unacknowledged_of m.to (start + i)) q) in
    has ∙ ap (λ (b : Bool). cond t true b) had ∙ took t old (among start (take i ms) q) ∙ ap (λ (b : Bool). old || b) (sym (one_more start i ms m q below is))

undo : (o a : Bool) → (a ≡ true → o ≡ false) → ((o || a) && not a) ≡ o
undo true true h = sym (h refl)
undo true false h = refl
undo false true h = refl
undo false false h = refl

-- one that is among the messages has a key from their first on
pub among_from : (start : ℕ) (ms : List Message) (q : Unacknowledged) → among start ms q ≡ true → start ≤ q.key
among_from start ms q h = elim (cases_lt q.key start) [
  | inl below ↦ absurd (true≢false (sym h ∙ among_below start ms q below))
  | inr up ↦ up
]

-- what was put in is taken out again
pub undone : (start : ℕ) (ms : List Message) (q : Unacknowledged) (old : Bool) → (start ≤ q.key → old ≡ false) → ((old || among start ms q) && not (among start ms q)) ≡ old
undone start ms q old above = undo old (among start ms q) (λ h. above (among_from start ms q h))

-- ---- the order of messages to one node

pub unacknowledged_go_up : (n : Node) (i j : ℕ) → i ≤ j → is_gt (unacknowledged_cmp (unacknowledged_of n i) (unacknowledged_of n j)) ≡ false
unacknowledged_go_up Itl i j h = up_keys None i j h
unacknowledged_go_up (Registry c) i j h = up_keys (Some c) i j h

pub between_unacknowledged : (n : Node) (q : Unacknowledged) (i k : ℕ) → is_gt (unacknowledged_cmp (unacknowledged_of n i) q) ≡ false → is_gt (unacknowledged_cmp q (unacknowledged_of n k)) ≡ false → q.registry ≡ (unacknowledged_of n i).registry
between_unacknowledged Itl q i k g h = between None q.registry i q.key k g h
between_unacknowledged (Registry c) q i k g h = between (Some c) q.registry i q.key k g h

pub keys_go_up : (n : Node) (q : Unacknowledged) (i : ℕ) → q.registry ≡ (unacknowledged_of n i).registry → is_gt (unacknowledged_cmp (unacknowledged_of n i) q) ≡ false → i ≤ q.key
keys_go_up Itl q i same h = keys_up None i q.key (subst (λ (r : Option Code). is_gt (unacknowledged_cmp (at None i) (at r q.key)) ≡ false) same h)
keys_go_up (Registry c) q i same h = keys_up (Some c) i q.key (subst (λ (r : Option Code). is_gt (unacknowledged_cmp (at (Some c) i) (at r q.key)) ≡ false) same h)

pub key_below : (n : Node) (q : Unacknowledged) (i k : ℕ) → q.registry ≡ (unacknowledged_of n i).registry → is_gt (unacknowledged_cmp q (unacknowledged_of n k)) ≡ false → q.key ≤ k
key_below Itl q i k same h = keys_up None q.key k (subst (λ (r : Option Code). is_gt (unacknowledged_cmp (at r q.key) (at None k)) ≡ false) same h)
key_below (Registry c) q i k same h = keys_up (Some c) q.key k (subst (λ (r : Option Code). is_gt (unacknowledged_cmp (at r q.key) (at (Some c) k)) ≡ false) same h)
