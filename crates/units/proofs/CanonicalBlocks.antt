-- Blocks whose intervals are in order, with no neighbours to join, are their own canonical form.
use Rattle.std.proofs.Common.{◌≡◌, suc, List, [], ◌∷◌, true, false, inl, inr, refl, ap, ◌∙◌, arith, map}
use Rattle.std.specs.Prelude.{◌==◌}
use Rattle.std.specs.Ordering.{is_lt}
use Rattle.std.proofs.lemmas.Bool.{and_parts, cases_Bool, cond-true, cond-false, eqb-true}
use Rattle.units.specs.Canonical.{AreCanonical, GoesOn, IsBefore, canonical, comes_before, goes_on, in_order, interval_of, join_block, joined, put_block}
use Rattle.units.specs.Code.{same_code}
use Rattle.units.specs.Intervals.{numbered}
use Rattle.units.specs.Keys.{first_unit}
use Rattle.units.specs.Unit.{same_kind, same_period}
use Rattle.units.specs.declared.block.Block.{Block}
use Rattle.units.specs.declared.block.Kind.{Kind}
use Rattle.units.specs.declared.block.RawBlock.{RawBlock}
use Rattle.units.proofs.Same.{code_of_same, kind_of_same, period_of_same}
use Rattle.units.proofs.UnitOrder.{index_rises, less_from_index}

abbrev raws_of : List Block → List RawBlock
raws_of blocks = map (λ (b : Block). b.raw) blocks

-- a block that ends before another begins comes before it
comes-first : (b c : Block) → IsBefore (λ (k : Kind). 0) (interval_of b) (interval_of c) → comes_before b.raw c.raw ≡ true
comes-first b c (inl h) = absurd (omega arith)
comes-first b c (inr h) =
    let r = b.in_range in
    let q = c.in_range in
    let rises = index_rises (numbered (interval_of b) b.raw.last) (numbered (interval_of c) c.raw.first) r.2 (omega arith) h.1 in
    ap is_lt (less_from_index (first_unit b.raw) (first_unit c.raw) (omega arith) (omega arith) (omega arith))

not-joined : (b c : Block) → (GoesOn (interval_of b) (interval_of c) → ⊥) → goes_on b.raw c.raw ≡ false
not-joined b c h =
    elim (cases_Bool (goes_on b.raw c.raw)) [
      | inl y ↦
          let x = and_parts (same_code b.raw.origin c.raw.origin) _ y in
          let z = and_parts (same_period b.raw.period c.raw.period) _ x.1 in
          let v = and_parts (same_kind b.raw.kind c.raw.kind) (suc b.raw.last == c.raw.first) z.1 in
          let next = eqb-true (suc b.raw.last) c.raw.first v.1 in
          absurd
          (h
          (record {
            origin = code_of_same b.raw.origin c.raw.origin x.0;
            period = period_of_same b.raw.period c.raw.period z.0;
            next = omega arith;
            label = kind_of_same b.raw.kind c.raw.kind v.0;
          }))
      | inr n ↦ n
    ]

ordered-fixed : (bs : List Block) → AreCanonical (λ (k : Kind). 0) (map interval_of bs) → in_order (raws_of bs) ≡ raws_of bs
ordered-fixed [] h = refl
ordered-fixed (b ∷ []) h = refl
ordered-fixed (b ∷ c ∷ bs) h =
    ap (put_block b.raw) (ordered-fixed (c ∷ bs) h.2) ∙ cond-true (comes_before b.raw c.raw) (b.raw ∷ c.raw ∷ raws_of bs) (c.raw ∷ put_block b.raw (raws_of bs)) (comes-first b c h.0)

joined-fixed : (bs : List Block) → AreCanonical (λ (k : Kind). 0) (map interval_of bs) → joined (raws_of bs) ≡ raws_of bs
joined-fixed [] h = refl
joined-fixed (b ∷ []) h = refl
joined-fixed (b ∷ c ∷ bs) h =
    ap (join_block b.raw) (joined-fixed (c ∷ bs) h.2) ∙ cond-false (goes_on b.raw c.raw) (record b.raw { last = c.raw.last } ∷ raws_of bs) (b.raw ∷ c.raw ∷ raws_of bs) (not-joined b c h.1)

pub canonical_fixed : (bs : List Block) → AreCanonical (λ (k : Kind). 0) (map interval_of bs) → canonical (raws_of bs) ≡ raws_of bs
canonical_fixed bs h = ap joined (ordered-fixed bs h) ∙ joined-fixed bs h
