-- The records of a settled node that were ordered are those of the script's seat, in its order.
use Rattle.std.proofs.Common.{◌≡◌, ◌≢◌, ◌⊎◌, ◌∙◌, ◌<◌, ◌≤◌, ◌+◌, ◌-◌, ℕ, zero, suc, Bool, true, false, cond, List, [], ◌∷◌, ◌++◌, take, drop, Some, inl, inr, refl, sym, ap, subst, arith, All, count_by}
use Rattle.std.specs.Prelude.{◌==◌, filter, get_or, nat_lt, slice_get}
use Rattle.std.proofs.lemmas.Bool.{cases_eq, cases_lt, cases_order, eq-eqb, le-ltb, lt-ltb, ne_eqb, true≢false}
use Rattle.std.proofs.lemmas.List.Elements.{All-cons, All-head, All-nil, All-tail, All-weaker, filter-append}
use Rattle.std.proofs.lemmas.List.{drop-take}
use Rattle.std.proofs.lemmas.List.Sums.{sum_by-append}
use Rattle.std.proofs.lemmas.Option.{get_or_from_slice_get, slice_get-get_or, slice_get_within}
use Rattle.units.proofs.Lists.OneValue.{one_some}
use Rattle.units.specs.declared.code.Node.{Node}
use Rattle.protocol.specs.Input.{Input}
use Rattle.protocol.specs.declared.node_core.Stepped.TheVariants.{Recorded, Repeat, Late}
use Rattle.settling.specs.Covering.{Covers, Fits, times_named}
use Rattle.node_state.specs.Views.{StateView, SeatView}
use Rattle.node_state.specs.declared.notes.Asked.{Asked}
use Rattle.node_state.specs.declared.notes.Asked.TheVariants.{Take, Query}
use Rattle.node_state.specs.declared.notes.Lengths.TheVariants.{Grew}
use Rattle.node_state.specs.declared.notes.Ticket.{Ticket}
use Rattle.node_state.specs.declared.notes.Told.{Told}
use Rattle.node_state.specs.declared.notes.Told.TheVariants.{Step, Status, Refused}
use Rattle.sessions.specs.Orders.{HasNoOrder, HasOnly, was_ordered}
use Rattle.input_lines.specs.declared.script_line.ScriptLine.{ScriptLine}
use Rattle.serving.specs.Answers.{asked_by}
use Rattle.serving.specs.Notes.{IsOfLine}
use Rattle.serving.specs.Orders.{AreOrders, Ascend, HasOrders, IsRecordOf}
use Rattle.serving.specs.declared.answer.ScriptAnswer.{ScriptAnswer}
use Rattle.serving.specs.declared.answer.ScriptAnswer.TheVariants.{NotPossible, Told as Answered}
use Rattle.serving.specs.Committed.{ordered_from, orders_of, since}

abbrev IsOrdered : Ticket → Type 0
IsOrdered t = was_ordered t.input ≡ true

abbrev is_at : ℕ → Ticket → Bool
is_at place t = t.place == place

-- ---- counting

counted : (place : ℕ) (t : Ticket) (ts : List Ticket) → count_by (is_at place) (t ∷ ts) ≡ cond (t.place == place) 1 0 + count_by (is_at place) ts
counted place t ts = omega (arith, sum_by-append (λ (u : Ticket). cond (u.place == place) 1 0) (t ∷ []) ts)

is_one : (place : ℕ) (t : Ticket) → t.place ≡ place → ◌≡◌ {A = ℕ} (cond (t.place == place) 1 0) 1
is_one place t same = ap (λ (b : Bool). cond b 1 0) (eq-eqb t.place place same)

is_none : (place : ℕ) (t : Ticket) → t.place ≢ place → ◌≡◌ {A = ℕ} (cond (t.place == place) 1 0) 0
is_none place t other = ap (λ (b : Bool). cond b 1 0) (ne_eqb t.place place other)

none_of : (place : ℕ) (ts : List Ticket) → All (λ (t : Ticket). t.place ≢ place) ts → count_by (is_at place) ts ≡ 0
none_of place [] all = refl
none_of place (t ∷ ts) all =
    let rest = none_of place ts (All-tail (λ (u : Ticket). u.place ≢ place) t ts all) in
    omega (arith, counted place t ts, is_none place t (All-head (λ (u : Ticket). u.place ≢ place) t ts all), rest)

not_at : (place : ℕ) (ts : List Ticket) → count_by (is_at place) ts ≡ 0 → All (λ (t : Ticket). t.place ≢ place) ts
not_at place [] none = All-nil (λ (t : Ticket). t.place ≢ place)
not_at place (t ∷ ts) none =
    All-cons (λ (u : Ticket). u.place ≢ place) t ts (λ same. absurd (omega (arith, counted place t ts, is_one place t same, none))) (not_at place ts (omega (arith, counted place t ts, none)))

found_one : (place : ℕ) (ts : List Ticket) → 0 < count_by (is_at place) ts → (k : ℕ) × (t : Ticket) × (slice_get ts k ≡ Some t) × (t.place ≡ place)
found_one place [] some = absurd (omega (arith, some))
found_one place (t ∷ ts) some =
    elim (cases_eq t.place place) [
      | inl same ↦ (zero, t, refl, same)
      | inr other ↦ let more = found_one place ts (omega (arith, counted place t ts, is_none place t other, some)) in (suc more.0, more.1, more.2, more.3)
    ]

-- ---- the ordered records from a place on, and tickets that name just these

-- the ticket has the input at its place, counted from there
abbrev IsFrom : ℕ → List Input → Ticket → Type 0
IsFrom place xs t = (place ≤ t.place) × (slice_get xs (t.place - place) ≡ Some t.input)

abbrev EachOnce : ℕ → List Input → List Ticket → Type 0
EachOnce place xs ts = (k : ℕ) (x : Input) → slice_get xs k ≡ Some x → was_ordered x ≡ true → count_by (is_at (place + k)) ts ≡ 1

ascend_tail : (t : Ticket) (ts : List Ticket) → Ascend (t ∷ ts) → Ascend ts
ascend_tail t ts ascend i j u v under at_i at_j = ascend (suc i) (suc j) u v (omega (arith, under)) at_i at_j

-- none names the first place, so all name places after it
after_first : (place : ℕ) (x : Input) (xs : List Input) (ts : List Ticket) → All (IsFrom place (x ∷ xs)) ts → All (λ (t : Ticket). t.place ≢ place) ts → All (IsFrom (place + 1) xs) ts
after_first place x xs [] from none = All-nil (IsFrom (place + 1) xs)
after_first place x xs (t ∷ ts) from none =
    let here = All-head (IsFrom place (x ∷ xs)) t ts from in
    let other = All-head (λ (u : Ticket). u.place ≢ place) t ts none in
    let low : place < t.place = below place t.place here.0 other in
    let next : t.place - place ≡ suc (t.place - (place + 1)) = omega (arith, low) in
    All-cons (IsFrom (place + 1) xs) t ts
    ((omega (arith, low)), subst (λ (k : ℕ). slice_get (x ∷ xs) k ≡ Some t.input) next here.1)
    (after_first place x xs ts (All-tail (IsFrom place (x ∷ xs)) t ts from) (All-tail (λ (u : Ticket). u.place ≢ place) t ts none))
  where
    below : (a b : ℕ) → a ≤ b → b ≢ a → a < b
    below a b le differs = elim (cases_order a b) [ inl same ↦ absurd (differs (sym same)) | inr apart ↦ elim apart [ inl less ↦ less | inr more ↦ absurd (omega (arith, le, more)) ] ]

once_after : (place : ℕ) (x : Input) (xs : List Input) (ts : List Ticket) → EachOnce place (x ∷ xs) ts → EachOnce (place + 1) xs ts
once_after place x xs ts once k y at_k ordered =
    let next : place + suc k ≡ place + 1 + k = omega arith in
    subst (λ (p : ℕ). count_by (is_at p) ts ≡ 1) next (once (suc k) y at_k ordered)

-- the first place has no order: no ticket names it
none_at_first : (place : ℕ) (x : Input) (xs : List Input) (ts : List Ticket) → was_ordered x ≡ false → All (IsFrom place (x ∷ xs)) ts → All IsOrdered ts → All (λ (t : Ticket). t.place ≢ place) ts
none_at_first place x xs [] no_order from ordered = All-nil (λ (t : Ticket). t.place ≢ place)
none_at_first place x xs (t ∷ ts) no_order from ordered =
    All-cons (λ (u : Ticket). u.place ≢ place) t ts
    (λ same.
    let here = (All-head (IsFrom place (x ∷ xs)) t ts from).1 in
    let first : t.place - place ≡ zero = omega (arith, same) in
    let x_is : x ≡ t.input = one_some x t.input (subst (λ (k : ℕ). slice_get (x ∷ xs) k ≡ Some t.input) first here) in
    absurd (true≢false (sym (All-head IsOrdered t ts ordered) ∙ (sym (ap was_ordered x_is) ∙ no_order))))
    (none_at_first place x xs ts no_order (All-tail (IsFrom place (x ∷ xs)) t ts from) (All-tail IsOrdered t ts ordered))

-- the first ticket names the first place, which one ticket alone names
first_is : (place : ℕ) (x : Input) (xs : List Input) (t : Ticket) (ts : List Ticket) → All (IsFrom place (x ∷ xs)) (t ∷ ts) → Ascend (t ∷ ts) → count_by (is_at place) (t ∷ ts) ≡ 1 → t.place ≡ place
first_is place x xs t ts from ascend one =
    let found = found_one place (t ∷ ts) (omega (arith, one)) in
    let low = (All-head (IsFrom place (x ∷ xs)) t ts from).0 in
    let high : t.place ≤ found.1.place = at_most found.0 found.1 found.2 in
    omega (arith, low, high, found.3)
  where
    at_most : (k : ℕ) (u : Ticket) → slice_get (t ∷ ts) k ≡ Some u → t.place ≤ u.place
    at_most zero u is = subst (λ (v : Ticket). t.place ≤ v.place) (one_some t u is) (omega arith)
    at_most (suc k) u is = ascend 0 (suc k) t u (omega arith) refl is

once_rest : (place : ℕ) (xs : List Input) (t : Ticket) (us : List Ticket) → t.place ≡ place → EachOnce (place + 1) xs (t ∷ us) → EachOnce (place + 1) xs us
once_rest place xs t us at each k y at_k is =
    let all = each k y at_k is in
    omega (arith, all, counted (place + 1 + k) t us, is_none (place + 1 + k) t (λ e. omega (arith, at, e)))

abbrev Turns : ℕ → List Input → Type 0
Turns place xs = (ts : List Ticket) → All (IsFrom place xs) ts → All IsOrdered ts → Ascend ts → EachOnce place xs ts → ts ≡ ordered_from place xs

-- the first record was ordered: the first ticket is of it
turns_ordered : (place : ℕ) (x : Input) (xs : List Input) → Turns (place + 1) xs → was_ordered x ≡ true → (ts : List Ticket) → All (IsFrom place (x ∷ xs)) ts → All IsOrdered ts → Ascend ts → EachOnce place (x ∷ xs) ts
    → ts ≡ record { place = place; input = x } ∷ ordered_from (place + 1) xs
turns_ordered place x xs again is [] from ordered ascend once = let some = once 0 x refl is in absurd (omega (arith, some))
turns_ordered place x xs again is (t ∷ us) from ordered ascend once =
    let one : count_by (is_at place) (t ∷ us) ≡ 1 = subst (λ (p : ℕ). count_by (is_at p) (t ∷ us) ≡ 1) (omega arith) (once 0 x refl is) in
    let at : t.place ≡ place = first_is place x xs t us from ascend one in
    let none : All (λ (u : Ticket). u.place ≢ place) us = not_at place us (omega (arith, counted place t us, is_one place t at, one)) in
    let first : t.place - place ≡ zero = omega (arith, at) in
    let input : x ≡ t.input = one_some x t.input (subst (λ (k : ℕ). slice_get (x ∷ xs) k ≡ Some t.input) first (All-head (IsFrom place (x ∷ xs)) t us from).1) in
    let rest = again us (after_first place x xs us (All-tail (IsFrom place (x ∷ xs)) t us from) none) (All-tail IsOrdered t us ordered) (ascend_tail t us ascend) (once_rest place xs t us at (once_after place x xs (t ∷ us) once)) in
    ap (λ (p : ℕ). record { place = p; input = t.input } ∷ us) at ∙ (ap (λ (i : Input). record { place = place; input = i } ∷ us) (sym input) ∙ ap (λ (l : List Ticket). record { place = place; input = x } ∷ l) rest)

turns_first : (place : ℕ) (x : Input) (xs : List Input) → Turns (place + 1) xs → (b : Bool) → was_ordered x ≡ b → (ts : List Ticket) → All (IsFrom place (x ∷ xs)) ts → All IsOrdered ts → Ascend ts → EachOnce place (x ∷ xs) ts
    → ts ≡ cond b (record { place = place; input = x } ∷ ordered_from (place + 1) xs) (ordered_from (place + 1) xs)
turns_first place x xs again true is ts from ordered ascend once = turns_ordered place x xs again is ts from ordered ascend once
turns_first place x xs again false is ts from ordered ascend once = again ts (after_first place x xs ts from (none_at_first place x xs ts is from ordered)) ordered ascend (once_after place x xs ts once)

ordered_are : (xs : List Input) (place : ℕ) → Turns place xs
ordered_are [] place [] from ordered ascend once = refl
ordered_are [] place (t ∷ ts) from ordered ascend once = absurd (cc ((All-head (IsFrom place []) t ts from).1))
ordered_are (x ∷ xs) place ts from ordered ascend once = turns_first place x xs (ordered_are xs (place + 1)) (was_ordered x) refl ts from ordered ascend once

-- ---- the seats of a settled node

pub get_after : {X : Type 0} (n : ℕ) (xs : List X) (k : ℕ) → slice_get (drop n xs) k ≡ slice_get xs (n + k)
get_after zero xs k = ap (slice_get xs) (omega arith)
get_after (suc n) [] k = refl
get_after (suc n) (x ∷ xs) k = get_after n xs k ∙ ap (slice_get (x ∷ xs)) {x = suc (n + k)} (omega arith)

all_at : {X : Type 0} (P : X → Type 0) (xs : List X) (k : ℕ) (x : X) → All P xs → slice_get xs k ≡ Some x → P x
all_at P xs k x all is = subst P (get_or_from_slice_get xs k x x is) (all k x (slice_get_within xs k x is))

-- no ticket with such an input names the place of another input
unnamed : (held : StateView) (IsSuch : Input → Type 0) (place : ℕ) (x : Input) → slice_get held.journal place ≡ Some x → (IsSuch x → ⊥) → (ts : List Ticket) → All (Fits held) ts → All (λ (t : Ticket). IsSuch t.input) ts → All (λ (t : Ticket). t.place ≢ place) ts
unnamed held IsSuch place x at other ts fit such = λ k d low same.
    let x_is : x ≡ (get_or ts k d).input = one_some x (get_or ts k d).input (sym at ∙ (sym (ap (slice_get held.journal) same) ∙ (fit k d low).1)) in
    other (subst IsSuch (sym x_is) (such k d low))

module _ (held : StateView) (heard threads : List SeatView) (seat : SeatView) (covers : Covers held heard) (is : heard ≡ threads ++ seat ∷ []) where
  fits : All (λ (s : SeatView). All (Fits held) s.tickets) (threads ++ seat ∷ [])
  fits = subst (All (λ (s : SeatView). All (Fits held) s.tickets)) is covers.fits

  front : (ss : List SeatView) (s : SeatView) → All (λ (h : SeatView). All (Fits held) h.tickets) (ss ++ s ∷ []) → All (λ (h : SeatView). All (Fits held) h.tickets) ss × All (Fits held) s.tickets
  front [] s all = (All-nil (λ (h : SeatView). All (Fits held) h.tickets), All-head (λ (h : SeatView). All (Fits held) h.tickets) s [] all)
  front (h ∷ ss) s all =
      let rest = front ss s (All-tail (λ (h : SeatView). All (Fits held) h.tickets) h (ss ++ s ∷ []) all) in
      (All-cons (λ (h : SeatView). All (Fits held) h.tickets) h ss (All-head (λ (h : SeatView). All (Fits held) h.tickets) h (ss ++ s ∷ []) all) rest.0, rest.1)

  -- one ticket of all names the place of a record since the opening
  named : (place : ℕ) (x : Input) → held.opening ≤ place → slice_get held.journal place ≡ Some x → times_named threads place + count_by (is_at place) seat.tickets ≡ 1
  named place x low at =
      let all : times_named (threads ++ seat ∷ []) place ≡ 1 = subst (λ (ss : List SeatView). times_named ss place ≡ 1) is (covers.once place (low, slice_get_within held.journal place x at)) in
      omega (arith, all, sum_by-append (λ (h : SeatView). count_by (is_at place) h.tickets) threads (seat ∷ []))

  module _ (none : All HasNoOrder threads) where
    no_threads : (place : ℕ) (x : Input) → slice_get held.journal place ≡ Some x → was_ordered x ≡ true → (ss : List SeatView) → All (λ (s : SeatView). All (Fits held) s.tickets) ss → All HasNoOrder ss → times_named ss place ≡ 0
    no_threads place x at ordered [] fit without = refl
    no_threads place x at ordered (s ∷ ss) fit without =
        let rest = no_threads place x at ordered ss (All-tail (λ (h : SeatView). All (Fits held) h.tickets) s ss fit) (All-tail HasNoOrder s ss without) in
        let unfit = unnamed held (λ i. was_ordered i ≡ false) place x at (λ no. true≢false (sym ordered ∙ no)) s.tickets (All-head (λ (h : SeatView). All (Fits held) h.tickets) s ss fit) (All-head HasNoOrder s ss without) in
        omega (arith, sum_by-append (λ (h : SeatView). count_by (is_at place) h.tickets) (s ∷ []) ss, rest, none_of place s.tickets unfit)

    -- the place of an order is named by just one ticket of the script's seat
    named_once : (place : ℕ) (x : Input) → held.opening ≤ place → slice_get held.journal place ≡ Some x → was_ordered x ≡ true → count_by (is_at place) seat.tickets ≡ 1
    named_once place x low at ordered = omega (arith, named place x low at, no_threads place x at ordered threads (front threads seat fits).0 none)

    -- the script's seat has the records that were ordered, in the order of their places
    pub orders_in_turn : All IsOrdered seat.tickets → Ascend seat.tickets → seat.tickets ≡ ordered_from held.opening (drop held.opening held.journal)
    orders_in_turn ordered ascend =
        ordered_are (drop held.opening held.journal) held.opening seat.tickets
        (All-weaker (Fits held) (IsFrom held.opening (drop held.opening held.journal)) (λ t fit.
        let same : held.opening + (t.place - held.opening) ≡ t.place = omega (arith, fit.0) in
        (fit.0, get_after held.opening held.journal (t.place - held.opening) ∙ (ap (slice_get held.journal) same ∙ fit.1)))
        seat.tickets (front threads seat fits).1)
        ordered ascend
        (λ k x at is. named_once (held.opening + k) x (omega arith) (sym (get_after held.opening held.journal k) ∙ at) is)

  -- ---- the records of threads

  module _ (Takes : Input → Type 0) (took : All (HasOnly Takes) threads) (ordered : All IsOrdered seat.tickets) where
    -- some thread's seat names the place
    named_by : (place : ℕ) (ss : List SeatView) → 0 < times_named ss place → (j : ℕ) × (s : SeatView) × (slice_get ss j ≡ Some s) × (0 < count_by (is_at place) s.tickets)
    named_by place [] some = absurd (omega (arith, some))
    named_by place (s ∷ ss) some =
        elim (cases_lt 0 (count_by (is_at place) s.tickets)) [
          | inl here ↦ (zero, s, refl, here)
          | inr none ↦
              let more = named_by place ss (omega (arith, some, none, sum_by-append (λ (h : SeatView). count_by (is_at place) h.tickets) (s ∷ []) ss)) in
              (suc more.0, more.1, more.2, more.3)
        ]

    -- a record since the opening that was not ordered is one that a thread took
    pub taken_at : (place : ℕ) (x : Input) → held.opening ≤ place → slice_get held.journal place ≡ Some x → was_ordered x ≡ false → Takes x
    taken_at place x low at other =
        let unfit = unnamed held (λ i. was_ordered i ≡ true) place x at (λ yes. true≢false (sym yes ∙ other)) seat.tickets (front threads seat fits).1 ordered in
        let s = named_by place threads (omega (arith, named place x low at, none_of place seat.tickets unfit)) in
        let t = found_one place s.1.tickets s.3 in
        let fit : Fits held t.1 = all_at (Fits held) s.1.tickets t.0 t.1 (all_at (λ (h : SeatView). All (Fits held) h.tickets) threads s.0 s.1 (front threads seat fits).0 s.2) t.2 in
        let x_is : x ≡ t.1.input = one_some x t.1.input (sym at ∙ (sym (ap (slice_get held.journal) t.3) ∙ fit.1)) in
        subst Takes (sym x_is) (all_at (λ (u : Ticket). Takes u.input) s.1.tickets t.0 t.1 (all_at (HasOnly Takes) threads s.0 s.1 took s.2) t.2)

    in_front : (n : ℕ) (xs : List Input) (k : ℕ) (x : Input) → slice_get (take n xs) k ≡ Some x → slice_get xs k ≡ Some x
    in_front zero xs k x is = absurd (cc (is))
    in_front (suc n) [] k x is = absurd (cc (is))
    in_front (suc n) (y ∷ ys) zero x is = is
    in_front (suc n) (y ∷ ys) (suc k) x is = in_front n ys k x is

    -- also of those that are committed
    pub others_taken : All (λ input. was_ordered input ≡ false → Takes input) (since held)
    others_taken = λ k d low other.
        let x = get_or (since held) k d in
        let at : slice_get (since held) k ≡ Some x = slice_get-get_or (since held) k d low in
        taken_at (held.opening + k) x (omega arith)
        (in_front held.committed held.journal (held.opening + k) x (sym (get_after held.opening (take held.committed held.journal) k) ∙ at))
        other

-- ---- those that are committed

abbrev is_within : ℕ → Ticket → Bool
is_within count t = nat_lt t.place count

abbrev within : ℕ → List Ticket → List Ticket
within count ts = filter (is_within count) ts

-- beyond the count there are none
none_first : (count place : ℕ) (x : Input) (rest : List Ticket) → count ≤ place → within count rest ≡ [] → (b : Bool) → within count (cond b (record { place = place; input = x } ∷ rest) rest) ≡ []
none_first count place x rest beyond none false = none
none_first count place x rest beyond none true = ap (λ (b : Bool). cond b (record { place = place; input = x } ∷ within count rest) (within count rest)) (le-ltb place count beyond) ∙ none

none_within : (count place : ℕ) (xs : List Input) → count ≤ place → within count (ordered_from place xs) ≡ []
none_within count place [] beyond = refl
none_within count place (x ∷ xs) beyond = none_first count place x (ordered_from (place + 1) xs) beyond (none_within count (place + 1) xs (omega (arith, beyond))) (was_ordered x)

first_within : (count place : ℕ) (x : Input) (rest cut : List Ticket) → place < count → within count rest ≡ cut → (b : Bool) → within count (cond b (record { place = place; input = x } ∷ rest) rest) ≡ cond b (record { place = place; input = x } ∷ cut) cut
first_within count place x rest cut low same false = same
first_within count place x rest cut low same true =
    ap (λ (b : Bool). cond b (record { place = place; input = x } ∷ within count rest) (within count rest)) (lt-ltb place count low) ∙ ap (λ (ts : List Ticket). record { place = place; input = x } ∷ ts) same

ordered_within : (n place : ℕ) (xs : List Input) → within (place + n) (ordered_from place xs) ≡ ordered_from place (take n xs)
ordered_within zero place xs = none_within (place + 0) place xs (omega arith)
ordered_within (suc n) place [] = refl
ordered_within (suc n) place (x ∷ xs) =
    let next : place + suc n ≡ place + 1 + n = omega arith in
    let rest : within (place + suc n) (ordered_from (place + 1) xs) ≡ ordered_from (place + 1) (take n xs) = ap (λ (c : ℕ). within c (ordered_from (place + 1) xs)) next ∙ ordered_within n (place + 1) xs in
    first_within (place + suc n) place x (ordered_from (place + 1) xs) (ordered_from (place + 1) (take n xs)) (omega arith) rest (was_ordered x)

drop_beyond : (n m : ℕ) (xs : List Input) → m ≤ n → drop n (take m xs) ≡ []
drop_beyond zero zero xs low = refl
drop_beyond zero (suc m) xs low = absurd (omega (arith, low))
drop_beyond (suc n) zero xs low = refl
drop_beyond (suc n) (suc m) [] low = refl
drop_beyond (suc n) (suc m) (x ∷ xs) low = drop_beyond n m xs (omega (arith, low))

one_within : (count : ℕ) (t : Ticket) → t.place < count → within count (t ∷ []) ≡ t ∷ []
one_within count t low = ap (λ (b : Bool). cond b (t ∷ []) []) (lt-ltb t.place count low)

one_or_none : (count : ℕ) (t : Ticket) → (within count (t ∷ []) ≡ []) ⊎ (within count (t ∷ []) ≡ t ∷ [])
one_or_none count t = either (nat_lt t.place count)
  where
    either : (b : Bool) → (cond b (t ∷ []) [] ≡ []) ⊎ (cond b (t ∷ []) [] ≡ t ∷ [])
    either true = inr refl
    either false = inl refl

-- ---- the orders of the lines, as far as they are committed

abbrev IsRecordOfLine : ScriptLine → Told → List Ticket → Type 0
IsRecordOfLine l told = IsRecordOf (asked_by l.instruction) told

module _ (count : ℕ) where
  record_within : (asked : Asked) (told : Told) (ts : List Ticket) → ((input : Input) (place : ℕ) → asked ≡ Take input → told ≡ Step (Recorded place) → place < count) → IsRecordOf asked told ts → IsRecordOf asked told (within count ts)
  record_within (Take input) (Step (Recorded place)) ts low is = ap (within count) is ∙ one_within count (record { place = place; input = input }) (low input place refl refl)
  record_within (Take input) (Step Repeat) ts low is = ap (within count) is
  record_within (Take input) (Step Late) ts low is = ap (within count) is
  record_within (Take input) (Status status) ts low is = ap (within count) is
  record_within (Take input) (Refused refusal) ts low (inl none) = inl (ap (within count) none)
  record_within (Take input) (Refused refusal) ts low (inr some) =
      elim (one_or_none count (record { place = some.1.0; input = input })) [
        | inl none ↦ inl (ap (within count) some.1.1 ∙ none)
        | inr one ↦ inr (some.0, (some.1.0, ap (within count) some.1.1 ∙ one))
      ]
  record_within (Query id) told ts low is = ap (within count) is

  at_node_within : (n : Node) (l : ScriptLine) (answer : ScriptAnswer) (ts : List Ticket)
      → ((input : Input) (place : ℕ) → l.node ≡ n → asked_by l.instruction ≡ Take input → answer ≡ Answered (Step (Recorded place)) → place < count) → IsOfLine IsRecordOfLine n l answer ts → IsOfLine IsRecordOfLine n l answer (within count ts)
  at_node_within n l NotPossible ts low is = ap (within count) is
  at_node_within n l (Answered told) ts low is = (
    (λ here. record_within (asked_by l.instruction) told ts (λ input place asked same. low input place here asked (ap Answered same)) (is.0 here)),
    (λ other. ap (within count) (is.1 other)),
  )

  pub orders_within : (n : Node) (ls : List ScriptLine) (answers : List ScriptAnswer) (ts : List Ticket)
      → ((k : ℕ) (l : ScriptLine) (input : Input) (place : ℕ) → slice_get ls k ≡ Some l → slice_get answers k ≡ Some (Answered (Step (Recorded place))) → l.node ≡ n → asked_by l.instruction ≡ Take input → place < count)
      → AreOrders n ls answers ts → AreOrders n ls answers (within count ts)
  orders_within n [] answers ts low is = ap (within count) is
  orders_within n (l ∷ ls) [] ts low is = ap (within count) is
  orders_within n (l ∷ ls) (a ∷ answers) ts low is = (
    within count is.0,
    within count is.1,
    ap (within count) is.2 ∙ filter-append (is_within count) is.0 is.1,
    at_node_within n l a is.0 (λ input place here asked same. low 0 l input place refl (ap Some same) here asked) is.3,
    orders_within n ls answers is.1 (λ k m input place at_line at_answer here asked. low (suc k) m input place at_line at_answer here asked) is.4,
  )

-- the committed orders of a node whose threads made the notes that a single thread would have made
pub committed_orders : (n : Node) (held : StateView) (heard threads : List SeatView) (seat : SeatView) (lines : List ScriptLine) (answers : List ScriptAnswer) → Covers held heard → seat.lengths ≡ Grew → heard ≡ threads ++ seat ∷ [] → All HasNoOrder threads
    → HasOrders n lines answers seat
    → ((k : ℕ) (l : ScriptLine) (input : Input) (place : ℕ) → slice_get lines k ≡ Some l → slice_get answers k ≡ Some (Answered (Step (Recorded place))) → l.node ≡ n → asked_by l.instruction ≡ Take input → place < held.committed)
    → AreOrders n lines answers (orders_of held)
committed_orders n held heard threads seat lines answers covers grew is none has low =
    let whole = orders_in_turn held heard threads seat covers is none has.ordered (has.turns grew).0 in
    subst (AreOrders n lines answers) (ap (within held.committed) whole ∙ cut held.opening held.committed held.journal) (orders_within held.committed n lines answers seat.tickets low has.orders)
  where
    cut : (opening committed : ℕ) (journal : List Input) → within committed (ordered_from opening (drop opening journal)) ≡ ordered_from opening (drop opening (take committed journal))
    cut opening committed journal =
        elim (cases_lt opening committed) [
          | inl below ↦
              let split : committed ≡ opening + (committed - opening) = omega (arith, below) in
              ap (λ (c : ℕ). within c (ordered_from opening (drop opening journal))) split ∙ (ordered_within (committed - opening) opening (drop opening journal)
              ∙ ap (ordered_from opening) (sym (drop-take opening (committed - opening) journal) ∙ ap (λ (c : ℕ). drop opening (take c journal)) (sym split)))
          | inr beyond ↦ none_within committed opening (drop opening journal) beyond ∙ ap (ordered_from opening) (sym (drop_beyond opening committed journal beyond))
        ]
