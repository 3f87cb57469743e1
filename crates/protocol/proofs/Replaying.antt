-- Journals whose records are each recorded at their place, with one record more; and those that are not.
use Rattle.std.specs.Prelude.{◌==◌, false, ◌≡◌, ◌⊎◌, ℕ, ◌+◌, ◌<◌, ◌≤◌, List, [], ◌∷◌, ◌++◌, length, ◌-◌, take, slice_get, Result, Ok, Err, Some, refl}
use Rattle.std.proofs.Common.{sym, ap, arith, suc, zero, inl, inr, subst, ◌∙◌, drop, get_or, append_assoc, append-nil, length-append, length-take, zero-add, take-append-drop}
use Rattle.std.proofs.Math.Seq.{take-append_seam, take-suc}
use Rattle.std.proofs.lemmas.List.{take-append-le}
use Rattle.std.proofs.lemmas.Bool.{true≢false, eq-eqb}
use Rattle.std.proofs.lemmas.Option.{slice_get_read, slice_get_within}
use Rattle.units.specs.RefusalCodes.{out_of_memory}
use Rattle.units.specs.declared.code.Node.{Node}
use Rattle.units.specs.declared.refusal.Refusal.{Refusal}
use Rattle.wire.specs.declared.input.Input.{Input}
use Rattle.scheme.specs.declared.registries.Scheme.{Scheme}
use Rattle.protocol.specs.Deciding.{IsRecorded}
use Rattle.protocol.specs.History.{Transition}
use Rattle.protocol.specs.Verdict.{verdict, history}
use Rattle.protocol.specs.Cores.{answer_of, HasFault, IsExpectedOrNoMemory, IsFirstNotRecorded, Replays, answer}
use Rattle.protocol.specs.declared.node_core.Stepped.{Stepped}
use Rattle.protocol.specs.declared.node_core.Stepped.TheVariants.{Recorded, Repeat, Late}
use Rattle.protocol.specs.declared.replay_fault.ReplayFault.{ReplayFault}
use Rattle.protocol.specs.declared.replay_fault.ReplayFault.TheVariants.{NotRecorded, NoMemory}

-- an element of a list with one more at its end
pub slice_get-snoc : {X : Type 0} (xs : List X) (y : X) (k : ℕ) (x : X) → slice_get (xs ++ y ∷ []) k ≡ Some x → (slice_get xs k ≡ Some x) ⊎ ((k ≡ length xs) × (y ≡ x))
slice_get-snoc [] y zero x e = inr (refl, cc)
slice_get-snoc [] y (suc k) x e = absurd cc
slice_get-snoc (a ∷ xs) y zero x e = inl e
slice_get-snoc (a ∷ xs) y (suc k) x e = elim (slice_get-snoc xs y k x e) [ inl h ↦ inl h | inr h ↦ inr (ap suc h.0, h.1) ]

pub slice_get_append_left : {X : Type 0} (xs ys : List X) (k : ℕ) (x : X) → slice_get xs k ≡ Some x → slice_get (xs ++ ys) k ≡ Some x
slice_get_append_left [] ys k x e = absurd cc
slice_get_append_left (a ∷ xs) ys zero x e = e
slice_get_append_left (a ∷ xs) ys (suc k) x e = slice_get_append_left xs ys k x e

-- an element of the first of two lists
pub slice_get_front : {X : Type 0} (xs ys : List X) (k : ℕ) → k < length xs → slice_get (xs ++ ys) k ≡ slice_get xs k
slice_get_front [] ys k below = absurd (omega arith)
slice_get_front (x ∷ xs) ys zero below = refl
slice_get_front (x ∷ xs) ys (suc k) below = slice_get_front xs ys k (omega arith)

-- the element right after a list
pub slice_get_seam : {X : Type 0} (xs : List X) (y : X) (ys : List X) → slice_get (xs ++ y ∷ ys) (length xs) ≡ Some y
slice_get_seam [] y ys = refl
slice_get_seam (x ∷ xs) y ys = slice_get_seam xs y ys

-- one record more, recorded at its place
pub replays_snoc : (scheme : Scheme) (n : Node) (j : List Input) (i : Input) → Replays scheme n j → answer scheme n j i ≡ Ok (Recorded (length j)) → Replays scheme n (j ++ i ∷ [])
replays_snoc scheme n j i h e k x at =
    elim (slice_get-snoc j i k x at) [
      | inl here ↦ let below : k < length j = slice_get_within j k x here in let short : k ≤ length j = omega arith in rw take-append-le (h k x here)
      | inr last ↦
          let P : ℕ → Type 0 = λ m. answer scheme n (take m (j ++ i ∷ [])) x ≡ Ok (Recorded m) in
          let whole : take (length j) (j ++ i ∷ []) ≡ j = take-append_seam j (i ∷ []) in
          subst P (sym last.0) (rw (whole, ← last.1) e)
    ]

-- the record after the first ones isn't recorded at its place
pub not_recorded_next : (scheme : Scheme) (n : Node) (j : List Input) (i : Input) (rest : List Input) → Replays scheme n j → (answer scheme n j i ≡ Ok (Recorded (length j)) → ⊥) → IsFirstNotRecorded scheme n (j ++ i ∷ rest) (length j)
not_recorded_next scheme n j i rest h refuses =
    let whole : take (length j) (j ++ i ∷ rest) ≡ j = take-append_seam j (i ∷ rest) in
    record { input = i; is = slice_get_seam j i rest; refused = λ e. refuses (rw whole at e); before = subst (Replays scheme n) (sym whole) h }

-- a journal that replays has no such record
pub replays_apart : (scheme : Scheme) (n : Node) (j : List Input) (k : ℕ) → Replays scheme n j → IsFirstNotRecorded scheme n j k → ⊥
replays_apart scheme n j k h bad = bad.refused (h k bad.input bad.is)

-- a result that says that the input isn't recorded, and isn't out of memory
abbrev pub IsRefusal : Result Stepped Refusal → Type 0
IsRefusal (Ok (Recorded place)) = ⊥
IsRefusal (Ok Repeat) = Unit {0}
IsRefusal (Ok Late) = Unit {0}
IsRefusal (Err refusal) = refusal.code ≡ out_of_memory → ⊥

not_recorded : (expected : Result Stepped Refusal) (k : ℕ) → IsRefusal expected → expected ≡ Ok (Recorded k) → ⊥
not_recorded (Ok (Recorded place)) k h e = h
not_recorded (Ok Repeat) k h e = absurd (cc (e))
not_recorded (Ok Late) k h e = absurd (cc (e))
not_recorded (Err refusal) k h e = absurd (cc (e))

is_expected : (result expected : Result Stepped Refusal) → IsRefusal result → IsExpectedOrNoMemory result expected → result ≡ expected
is_expected result expected h (inl e) = e
is_expected result expected h (inr e) = absurd (subst IsRefusal e h refl)

-- what is refused isn't recorded at its place
pub refused_at : (scheme : Scheme) (n : Node) (j : List Input) (i : Input) (k : ℕ) (result : Result Stepped Refusal) → Replays scheme n j → IsExpectedOrNoMemory result (answer scheme n j i) → IsRefusal result → k ≡ length j
    → IsFirstNotRecorded scheme n (j ++ i ∷ []) k
refused_at scheme n j i k result h expected refusal place =
    subst (IsFirstNotRecorded scheme n (j ++ i ∷ [])) (sym place)
    (not_recorded_next scheme n j i [] h (not_recorded (answer scheme n j i) (length j) (subst IsRefusal (is_expected result (answer scheme n j i) refusal expected) refusal)))

-- a record that isn't recorded among the first ones isn't recorded in the whole
pub not_recorded_more : (scheme : Scheme) (n : Node) (j rest : List Input) (k : ℕ) → IsFirstNotRecorded scheme n j k → IsFirstNotRecorded scheme n (j ++ rest) k
not_recorded_more scheme n j rest k bad =
    let below : k < length j = slice_get_within j k bad.input bad.is in
    let short : k ≤ length j = omega arith in
    let front : take k (j ++ rest) ≡ take k j = take-append-le k j rest short in
    record { input = bad.input; is = slice_get_append_left j rest k bad.input bad.is; refused = λ e. bad.refused (rw front at e); before = subst (Replays scheme n) (sym front) bad.before }

-- a fault of the first records is one of the whole
pub fault_more : (scheme : Scheme) (n : Node) (j rest : List Input) (fault : ReplayFault) → HasFault scheme n j fault → HasFault scheme n (j ++ rest) fault
fault_more scheme n j rest (NotRecorded k) bad = not_recorded_more scheme n j rest k bad
fault_more scheme n j rest NoMemory bad = tt

-- a fault at the next of some inputs is one of the journal with all of them
pub fault_at_next : (scheme s : Scheme) (n m : Node) (old j inputs : List Input) (k : ℕ) (i : Input) (fault : ReplayFault) → s ≡ scheme → m ≡ n → j ≡ old ++ take k inputs → k < length inputs → i ≡ get_or inputs k i
    → HasFault s m (j ++ i ∷ []) fault → HasFault scheme n (old ++ inputs) fault
fault_at_next scheme s n m old j inputs k i fault schemes nodes taken below item bad =
    let front : j ++ i ∷ [] ≡ old ++ take (suc k) inputs =
    ap (λ (l : List Input). l ++ i ∷ []) taken ∙ append_assoc old (take k inputs) (i ∷ []) ∙ ap (λ (x : Input). old ++ (take k inputs ++ x ∷ [])) item ∙ ap (λ (l : List Input). old ++ l) (sym (take-suc inputs k i below)) in
    let whole : (j ++ i ∷ []) ++ drop (suc k) inputs ≡ old ++ inputs =
    ap (λ (l : List Input). l ++ drop (suc k) inputs) front ∙ append_assoc old (take (suc k) inputs) (drop (suc k) inputs) ∙ ap (λ (l : List Input). old ++ l) (take-append-drop (suc k) inputs) in
    subst (λ (x : Scheme). HasFault x n (old ++ inputs) fault) schemes
    (subst (λ (x : Node). HasFault s x (old ++ inputs) fault) nodes
    (subst (λ (l : List Input). HasFault s m l fault) whole (fault_more s m (j ++ i ∷ []) (drop (suc k) inputs) fault bad)))

-- the first of some inputs that a core has not recorded
pub next_input : {X : Type 0} (old inputs before new : List X) (k : ℕ) (i : X) → before ≡ old ++ take k inputs → new ≡ before → k < length inputs → i ≡ get_or inputs k i → slice_get inputs (length new - length old) ≡ Some i
next_input old inputs before new k i taken same below item =
    let a : length (old ++ take k inputs) ≡ length old + length (take k inputs) = length-append old (take k inputs) in
    let b : length (take k inputs) ≡ k = omega (arith, length-take k inputs, below) in
    let c : length new ≡ length (old ++ take k inputs) = ap length (same ∙ taken) in
    let count : length new - length old ≡ k = omega arith in
    subst (λ (m : ℕ). slice_get inputs m ≡ Some i) (sym count) (slice_get_read inputs (length inputs) k i refl below item)

-- a code that differs from out of memory
pub refused_otherwise : (code : ℕ) → (code == out_of_memory) ≡ false → code ≡ out_of_memory → ⊥
refused_otherwise code e same = true≢false (sym (eq-eqb code out_of_memory same) ∙ e)

-- ---- journals whose verdicts are known one by one

-- each of these inputs is recorded after the past and those before it
abbrev pub AllRecorded : Scheme → Node → List Input → List Input → Type 0
AllRecorded scheme n past [] = Unit {0}
AllRecorded scheme n past (i ∷ is) = ((xs : List Transition) × (verdict scheme n (history scheme n past) i ≡ IsRecorded xs)) × AllRecorded scheme n (past ++ i ∷ []) is

recorded_at : (scheme : Scheme) (n : Node) (past is : List Input) (k : ℕ) (i : Input) → AllRecorded scheme n past is → slice_get is k ≡ Some i → answer scheme n (past ++ take k is) i ≡ Ok (Recorded (length past + k))
recorded_at scheme n past [] k i h e = absurd cc
recorded_at scheme n past (x ∷ is) zero i h e =
    let same : x ≡ i = cc (e) in
    ap (λ (l : List Input). answer scheme n l i) (append-nil past) ∙ ap (answer scheme n past) (sym same) ∙ ap (answer_of (length past)) h.0.1 ∙ ap (λ (m : ℕ). Ok (Recorded m)) (omega arith)
recorded_at scheme n past (x ∷ is) (suc k) i h e =
    let count : length (past ++ x ∷ []) ≡ length past + 1 = length-append past (x ∷ []) in
    ap (λ (l : List Input). answer scheme n l i) (sym (append_assoc past (x ∷ []) (take k is))) ∙ recorded_at scheme n (past ++ x ∷ []) is k i h.1 e ∙ ap (λ (m : ℕ). Ok (Recorded m)) (omega arith)

pub replays_from : (scheme : Scheme) (n : Node) (journal : List Input) → AllRecorded scheme n [] journal → Replays scheme n journal
replays_from scheme n journal h k i e = recorded_at scheme n [] journal k i h e ∙ ap (λ (m : ℕ). Ok (Recorded m)) (zero-add k)
