-- Blocks in the order of their first units: where each ends before the next one begins, no two share a unit, and
-- where one doesn't, it has the first unit of the next.
use Rattle.std.proofs.Common.{◌≡◌, inl, inr, true, false, refl, sym, arith, ◌∙◌}
use Rattle.std.specs.declared.cmp.Ordering.TheVariants.{Less}
use Rattle.std.specs.Ordering.{is_lt}
use Rattle.std.proofs.lemmas.Bool.{true≢false, and_from, le-leb}
use Rattle.units.specs.Apart.{AreApart}
use Rattle.units.specs.Keys.{unit_cmp, unit_numbered, first_unit}
use Rattle.units.specs.Unit.{has_unit}
use Rattle.units.specs.declared.block.Block.{Block}
use Rattle.units.proofs.Cutting.{within, within_from}
use Rattle.units.proofs.UnitOrder.{below, either, less_from_below, same_line, up_to_from_sorted, index_rises, less_from_index}

-- the last unit of a comes before the first one of b
abbrev pub EndsBefore : Block → Block → Type 0
EndsBefore a b = unit_cmp (unit_numbered a.raw a.raw.last) (first_unit b.raw) ≡ Less

pub ends_transitive : (a b c : Block) → EndsBefore a b → EndsBefore b c → EndsBefore a c
ends_transitive a b c p q =
    let r = a.in_range in
    let s = b.in_range in
    let t = c.in_range in
    let low = index_rises (unit_numbered a.raw a.raw.last) (first_unit b.raw) (omega arith) (omega arith) p in
    let high = index_rises (unit_numbered b.raw b.raw.last) (first_unit c.raw) (omega arith) (omega arith) q in
    less_from_index (unit_numbered a.raw a.raw.last) (first_unit c.raw) (omega arith) (omega arith) (omega arith)

-- such blocks share no unit
pub apart_behind : (a b : Block) → EndsBefore a b → AreApart a.raw b.raw
apart_behind a b behind s p q =
    let i = within a.raw.origin s.origin a.raw.period s.period a.raw.first a.raw.last s.number p in
    let j = within b.raw.origin s.origin b.raw.period s.period b.raw.first b.raw.last s.number q in
    let one = i.one ∙ sym j.one in
    let two = i.two ∙ sym j.two in
    let period = i.period ∙ sym j.period in
    let high = i.high in
    let low = j.low in
    let h = (below (unit_numbered a.raw a.raw.last) (first_unit b.raw) behind).number (omega arith) in
    omega arith

-- not so where an earlier block has the first unit of a later one
pub shared : (a b : Block) → has_unit a.raw (first_unit b.raw) ≡ true → AreApart a.raw b.raw → ⊥
shared a b h apart =
    let s = b.in_range in
    let own = within_from b.raw.origin b.raw.origin b.raw.period b.raw.period b.raw.first b.raw.last b.raw.first (record { one = refl; two = refl; period = refl; low = omega arith; high = omega arith }) in
    apart (first_unit b.raw) h own

-- and where it lacks that unit, it ends before the later one begins
pub behind : (a b : Block) → is_lt (unit_cmp (first_unit b.raw) (first_unit a.raw)) ≡ false → has_unit a.raw (first_unit b.raw) ≡ false → EndsBefore a b
behind a b sorted none = elim (either (unit_numbered a.raw a.raw.last) (first_unit b.raw)) [
  | inl lower ↦ less_from_below (unit_numbered a.raw a.raw.last) (first_unit b.raw) lower
  | inr up ↦
      let next = up_to_from_sorted (first_unit a.raw) (first_unit b.raw) sorted in
      let i = next.line in
      let j = up.line in
      let line = same_line (first_unit a.raw) (first_unit b.raw) (omega arith) in
      let first = next.number j in
      let last = up.number i in
      absurd (true≢false (sym (and_from _ _ line.0 (and_from _ _ line.1 (and_from _ _ (le-leb _ _ first) (le-leb _ _ last)))) ∙ none))
]
