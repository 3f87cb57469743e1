-- The text of a transaction's identifier.
use Rattle.std.specs.Prelude.{◌≡◌, ℕ, List, ◌++◌, decimal, Bool, true, false, ◌==◌, ◌&&◌, nat_le, Option, Some, None, refl}
use Rattle.std.proofs.Common.{sym, true≢false}
use Rattle.std.proofs.lemmas.Bool.{leb-true}
use Rattle.units.specs.declared.code.Code.{Code}
use Rattle.units.specs.Code.{code_text, same_code}
use Rattle.units.specs.Limits.{last_transaction}
use Rattle.std.specs.declared.cmp.Ordering.{Ordering}
use Rattle.status.specs.Facts.{IsTransactionNumber}
use Rattle.status.specs.contracts.id.TransactionIdOrd.TheImpl.{cmp-value as id-order}
use Rattle.status.specs.declared.id.TransactionId.{TransactionId}

-- the code, then the number
abbrev pub id_text : TransactionId → List ℕ
id_text t = code_text t.code ++ decimal t.number

abbrev pub same_id : TransactionId → TransactionId → Bool
same_id a b = same_code a.code b.code && (a.number == b.number)

-- by code and number
abbrev pub id_cmp : TransactionId → TransactionId → Ordering
id_cmp = id-order.it

abbrev pub is_number : ℕ → Bool
is_number n = nat_le 1 n && nat_le n last_transaction

-- a number that passes the test is in range
pub number_from : (n : ℕ) → is_number n ≡ true → IsTransactionNumber n
number_from n e = let h = both (nat_le 1 n) (nat_le n last_transaction) e in (leb-true 1 n h.0, leb-true n last_transaction h.1)
  where
    both : (a b : Bool) → (a && b) ≡ true → (a ≡ true) × (b ≡ true)
    both true b h = (refl, h)
    both false b h = absurd (true≢false (sym h))

abbrev pub id_if : Code → (n : ℕ) (b : Bool) → is_number n ≡ b → Option TransactionId
id_if code n true e = Some (record { code = code; number = n; in_range = number_from n e })
id_if code n false e = None

-- the identifier of that code and number, where the number is in range
abbrev pub id_at : Code → ℕ → Option TransactionId
id_at code n = id_if code n (is_number n) refl
