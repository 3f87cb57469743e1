-- The first cause of an order's refusal, found part by part.
use Rattle.std.proofs.Common.{◌≡◌, ℕ, ◌+◌, ◌<◌, [], ◌∷◌, ◌++◌, Bool, true, false, true≢false, Some, None, is_none, refl, ◌∙◌, arith}
use Rattle.std.specs.Prelude.{nat_le}
use Rattle.std.proofs.lemmas.Bool.{and_right, lt-leb}
use Rattle.units.specs.Limits.{last_transaction}
use Rattle.units.specs.RefusalCodes.{transactions_used_up}
use Rattle.units.specs.declared.code.Code.{Code}
use Rattle.status.specs.Id.{id_at, id_if, is_number}
use Rattle.status.specs.Order.{Order}
use Rattle.status.specs.declared.id.TransactionId.{TransactionId}
use Rattle.scheme.specs.declared.registries.Scheme.{Scheme}
use Rattle.protocol.specs.Checks.{Causes, Holding}
use Rattle.checks.proofs.FirstCauses.{first_within, first_beyond}
use Rattle.checks.specs.Following.{block_refusals, holding_refusals, receiver_refusals}
use Rattle.checks.specs.Refusing.{first_of, order_refusals}

-- that no number is left
abbrev pub number_refusals : Code → ℕ → Causes
number_refusals c last = (is_none (id_at c (last + 1)), transactions_used_up) ∷ []

module _ (scheme : Scheme) (c : Code) (known : Holding) (last : ℕ) (o : Order) where
  abbrev of_holding : Causes
  of_holding = holding_refusals scheme c known o.account o.units

  abbrev of_receiver : Causes
  of_receiver = receiver_refusals scheme c o

  past_blocks : first_of (block_refusals o.units) ≡ None → first_of (order_refusals scheme c known last o) ≡ first_of (of_holding ++ (of_receiver ++ number_refusals c last))
  past_blocks none = first_beyond (block_refusals o.units) (of_holding ++ (of_receiver ++ number_refusals c last)) none

  past_holding : first_of (block_refusals o.units) ≡ None → first_of of_holding ≡ None → first_of (order_refusals scheme c known last o) ≡ first_of (of_receiver ++ number_refusals c last)
  past_holding none held = past_blocks none ∙ first_beyond of_holding (of_receiver ++ number_refusals c last) held

  past_receiver : first_of (block_refusals o.units) ≡ None → first_of of_holding ≡ None → first_of of_receiver ≡ None → first_of (order_refusals scheme c known last o) ≡ first_of (number_refusals c last)
  past_receiver none held goes = past_holding none held ∙ first_beyond of_receiver (number_refusals c last) goes

  pub in_holding : (n : ℕ) → first_of (block_refusals o.units) ≡ None → first_of (holding_refusals scheme c known o.account o.units) ≡ Some n → first_of (order_refusals scheme c known last o) ≡ Some n
  in_holding n none e = past_blocks none ∙ first_within of_holding (of_receiver ++ number_refusals c last) n e

  pub in_receiver : (n : ℕ) → first_of (block_refusals o.units) ≡ None → first_of (holding_refusals scheme c known o.account o.units) ≡ None → first_of (receiver_refusals scheme c o) ≡ Some n → first_of (order_refusals scheme c known last o) ≡ Some n
  in_receiver n none held e = past_holding none held ∙ first_within of_receiver (number_refusals c last) n e

  pub in_number : first_of (block_refusals o.units) ≡ None → first_of (holding_refusals scheme c known o.account o.units) ≡ None → first_of (receiver_refusals scheme c o) ≡ None → id_at c (last + 1) ≡ None
      → first_of (order_refusals scheme c known last o) ≡ Some transactions_used_up
  in_number none held goes used = past_receiver none held goes ∙ rw used refl

  pub in_none : (t : TransactionId) → first_of (block_refusals o.units) ≡ None → first_of (holding_refusals scheme c known o.account o.units) ≡ None → first_of (receiver_refusals scheme c o) ≡ None → id_at c (last + 1) ≡ Some t
      → first_of (order_refusals scheme c known last o) ≡ None
  in_none t none held goes next = past_receiver none held goes ∙ rw next refl

-- ---- numbers of transactions

none_if : (c : Code) (n : ℕ) (b : Bool) (e : is_number n ≡ b) → b ≡ false → id_if c n b e ≡ None
none_if c n true e h = absurd (true≢false h)
none_if c n false e h = refl

-- a number that doesn't fit 32 bits is out of range
pub past_last : (c : Code) (n : ℕ) → (n < 4294967296 → ⊥) → id_at c n ≡ None
past_last c n h = none_if c n (is_number n) refl (and_right (nat_le 1 n) (nat_le n last_transaction) (lt-leb n last_transaction (omega (arith, h))))
