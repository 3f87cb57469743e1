-- When the terms that stand in a table's checks are `id = 1`.
use Rattle.std.proofs.Common.{◌≡◌, ℕ, zero, suc, refl, List, slice_index_or, pos, ap, sym, ◌∙◌, ◌<◌, arith}
use Rattle.sqlite_value.specs.declared.value.Value.TheVariants.{Null, Int}
use Rattle.sqlite.specs.Term.{Term, lit, col, op2}
use Rattle.sqlite_sql.specs.declared.ops.BinaryOp.{BinaryOp}
use Rattle.sqlite_schema.specs.declared.code.Op.{Op}
use Rattle.sqlite_schema.specs.declared.code.Op.TheVariants.{Literal, Column, Unary, Binary, Case}
use Rattle.sqlite_schema.specs.Code.{op_term, term_to}
use Rattle.store_tables.specs.Layout.{IsFirst}
use Rattle.store_tables.specs.Tables.{is_first, equality}

column_from : (below : ℕ → Term) (op : Op) → op_term below op ≡ col 1 0 → op ≡ Column 1 0
column_from below (Literal v) e = absurd cc
column_from below (Column slot at) e = cc
column_from below (Unary op a) e = absurd cc
column_from below (Binary op a b) e = absurd cc
column_from below (Case t a b) e = absurd cc

one_from : (below : ℕ → Term) (op : Op) → op_term below op ≡ lit (Int (pos 1)) → op ≡ Literal (Int (pos 1))
one_from below (Literal v) e = cc
one_from below (Column slot at) e = absurd cc
one_from below (Unary op a) e = absurd cc
one_from below (Binary op a b) e = absurd cc
one_from below (Case t a b) e = absurd cc

parts_of : (op : BinaryOp) (a b : Term) → op2 op a b ≡ is_first → (op ≡ equality) × (a ≡ col 1 0) × (b ≡ lit (Int (pos 1)))
parts_of op a b e = (cc, cc, cc)

-- a comparison at a place has these parts exactly where the term there is `id = 1`
pub first_at : (ops : List Op) (n root left right : ℕ) (op : BinaryOp) → 1 < n → slice_index_or ops root (Literal Null) ≡ Binary op left right
    → (IsFirst ops op left right → term_to ops n root ≡ is_first) × (term_to ops n root ≡ is_first → IsFirst ops op left right)
first_at ops zero root left right op low at = absurd (omega arith)
first_at ops (suc zero) root left right op low at = absurd (omega arith)
first_at ops (suc (suc n)) root left right op low at =
    let is : term_to ops (suc (suc n)) root ≡ op2 op (term_to ops (suc n) left) (term_to ops (suc n) right) = ap (op_term (term_to ops (suc n))) at in (
      λ first.
          is ∙ (let same = first.0 in rw (same, ap (op_term (term_to ops n)) first.1, ap (op_term (term_to ops n)) first.2) refl),
      λ e.
          let parts = parts_of op (term_to ops (suc n) left) (term_to ops (suc n) right) (sym is ∙ e) in
          (parts.0, column_from (term_to ops n) (slice_index_or ops left (Literal Null)) parts.1, one_from (term_to ops n) (slice_index_or ops right (Literal Null)) parts.2),
    )
