-- The order of awaited transfers: those of one account stand together, and none of them before the least identifier.
use Rattle.std.proofs.Common.{◌≡◌, ℕ, ◌≤◌, false, List, ◌∷◌, refl, arith}
use Rattle.std.proofs.lemmas.Bool.{false_from_ne_true}
use Rattle.std.specs.BTreeSet.{BTreeSet, contains, IsKeyRangeOf}
use Rattle.std.specs.Ordering.{is_gt, nat_cmp, ordering_then}
use Rattle.std.specs.declared.cmp.Ordering.{Ordering}
use Rattle.std.specs.declared.cmp.Ordering.TheVariants.{Less, Equal, Greater}
use Rattle.std.specs.declared.ops.Bound.TheVariants.{Included, Unbounded}
use Rattle.units.proofs.Lists.Comparisons.{compared, compared_then}
use Rattle.status.specs.Id.{id_cmp}
use Rattle.status.specs.declared.id.TransactionId.{TransactionId}
use Rattle.acquirer.specs.Awaiting.{awaited_cmp}
use Rattle.acquirer.specs.declared.awaited.Awaited.{Awaited}

up : (x y : ℕ) → x ≤ y → is_gt (nat_cmp x y) ≡ false
up x y h = compared (λ r. is_gt r ≡ false) x y (λ l. refl) (λ e. refl) (λ g. absurd (omega arith))

then_up : (r s : Ordering) → is_gt r ≡ false → is_gt s ≡ false → is_gt (ordering_then r s) ≡ false
then_up Less s h g = refl
then_up Equal s h g = g
then_up Greater s h g = absurd (cc (h))

-- no identifier is before AA1
pub least_id : (t : TransactionId) → is_gt (ordering_then (ordering_then (nat_cmp 65 t.code.first) (nat_cmp 65 t.code.second)) (nat_cmp 1 t.number)) ≡ false
least_id t =
    then_up (ordering_then (nat_cmp 65 t.code.first) (nat_cmp 65 t.code.second)) (nat_cmp 1 t.number)
    (then_up (nat_cmp 65 t.code.first) (nat_cmp 65 t.code.second) (up 65 t.code.first t.code.letters.0.0) (up 65 t.code.second t.code.letters.1.0)) (up 1 t.number t.in_range.0)

starts : (l q : Awaited) → q.account ≡ l.account → is_gt (id_cmp l.id q.id) ≡ false → is_gt (awaited_cmp l q) ≡ false
starts l q e h = compared_then (λ r. is_gt r ≡ false) l.account q.account (id_cmp l.id q.id) (λ x. refl) (λ x. h) (λ x. absurd (omega arith))

accounts_go_up : (x y : Awaited) → is_gt (awaited_cmp x y) ≡ false → x.account ≤ y.account
accounts_go_up x y = compared_then (λ r. is_gt r ≡ false → x.account ≤ y.account) x.account y.account (id_cmp x.id y.id) (λ l h. omega arith) (λ e h. omega arith) (λ g h. absurd (cc (h)))

-- where the first of a range is of another account, none of the account is there
pub none_of : (awaited : BTreeSet Awaited) (l found : Awaited) (rest : List Awaited) → IsKeyRangeOf awaited_cmp (Included l) Unbounded awaited (found ∷ rest)
    → ((t : TransactionId) → is_gt (id_cmp l.id t) ≡ false) → (found.account ≡ l.account → ⊥) → (q : Awaited) → q.account ≡ l.account → contains awaited_cmp awaited q ≡ false
none_of awaited l found rest range least other q e =
    false_from_ne_true (contains awaited_cmp awaited q) (λ h.
    let start = starts l q e (least q.id) in
    let low = accounts_go_up l found range.1.0.0 in
    let high = accounts_go_up found q (range.2 q (start, tt) h) in
    other (omega arith))
