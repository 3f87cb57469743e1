-- Spans, which are the values of an ordered map at the first units of intervals, and the interval that a first unit and
-- its span make.
use Rattle.std.specs.Prelude.{◌≡◌, ◌+◌, List, map, Bool, true, not, ◌&&◌, Option, Some, None, if◌then◌else◌}
use Rattle.std.specs.Option.{option_map, option_or}
use Rattle.std.specs.List.{list_any}
use Rattle.std.specs.Ordering.{is_lt}
use Rattle.std.specs.BTreeMap.{BTreeMap, IsOrdered, get, is_at}
use Rattle.units.specs.Canonical.{GoesOn}
use Rattle.units.specs.Facts.{IsRange}
use Rattle.units.specs.Intervals.{has, label_at}
use Rattle.units.specs.Keys.{unit_cmp, unit_numbered, first_unit}
use Rattle.units.specs.Unit.{has_unit}
use Rattle.units.specs.declared.block.Block.{Block}
use Rattle.units.specs.declared.block.RawBlock.{RawBlock}
use Rattle.units.specs.declared.block.Unit.{Unit as Serial}
use Rattle.units.specs.declared.interval.Interval.{Interval}
use Rattle.units.specs.declared.unit_map.Span.{Span}

-- the interval from its first unit on
abbrev pub interval_at : {M : Type 0} → Serial → Span M → Interval M
interval_at k s = record { origin = k.origin; period = k.period; first = k.number; last = s.last; label = s.label }

-- the intervals of the entries
abbrev pub intervals_of : {M : Type 0} → List (Serial × Span M) → List (Interval M)
intervals_of entries = map (λ e. interval_at e.0 e.1) entries

-- ---- what the code follows; no public contract cites what stands below

-- numbers are in range, and no span begins within another one
pub record AreParted {M : Type 0} (held : Serial → Option (Span M)) : Type 0 where
  pub ranges : (k : Serial) (s : Span M) → held k ≡ Some s → IsRange k.number s.last
  pub apart : (k l : Serial) (s t : Span M) → held k ≡ Some s → held l ≡ Some t → has (interval_at k s) l ≡ true → k ≡ l

-- each span gives its units its label, and each unit with a label is in one
pub record Mean {M : Type 0} (held : Serial → Option (Span M)) (labels : Serial → Option M) : Type 0 where
  pub gives : (k u : Serial) (s : Span M) → held k ≡ Some s → has (interval_at k s) u ≡ true → labels u ≡ Some s.label
  pub given : (u : Serial) (m : M) → labels u ≡ Some m → (k : Serial) × (s : Span M) × (held k ≡ Some s) × (has (interval_at k s) u ≡ true)

-- a span begins at the unit where another one ends, with its label
pub record IsSeam {M : Type 0} (held : Serial → Option (Span M)) (u : Serial) : Type 0 where
  pub before : Serial
  pub left : Span M
  pub right : Span M
  pub first : held before ≡ Some left
  pub second : held u ≡ Some right
  pub goes_on : GoesOn (interval_at before left) (interval_at u right)

-- the labels that the intervals of the map give
abbrev pub labels_in : {M : Type 0} → BTreeMap Serial (Span M) → Serial → Option M
labels_in m u = label_at (intervals_of m.entries) u

-- spans that are parted and in order, with no two that could be one
pub record IsSpanMap {M : Type 0} (m : BTreeMap Serial (Span M)) : Type 0 where
  pub ordered : IsOrdered unit_cmp m
  pub parted : AreParted (get unit_cmp m)
  pub joined : (u : Serial) → IsSeam (get unit_cmp m) u → ⊥

-- the value at k is w, and the others are as they were
abbrev pub Puts : {M : Type 0} → Serial → Option (Span M) → (Serial → Option (Span M)) → (Serial → Option (Span M)) → Type 0
Puts k w old new = (q : Serial) → new q ≡ (if is_at (unit_cmp k) q then w else old q)

-- no span goes across the front of the unit
abbrev pub IsCutAt : {M : Type 0} → (Serial → Option (Span M)) → Serial → Type 0
IsCutAt {M} held v = (k : Serial) (s : Span M) → held k ≡ Some s → has (interval_at k s) v ≡ true → k ≡ v

-- from one unit to another, both included
abbrev pub is_between : Serial → Serial → Serial → Bool
is_between from to u = not (is_lt (unit_cmp u from)) && not (is_lt (unit_cmp to u))

-- the unit after it
abbrev pub after_unit : Serial → Serial
after_unit u = record { origin = u.origin; period = u.period; number = u.number + 1 }

-- the unit after the block's last
abbrev pub end_unit : RawBlock → Serial
end_unit b = unit_numbered b (b.last + 1)

-- the block has the unit, or ends right before it
abbrev pub reaches : RawBlock → Serial → Bool
reaches b u = is_between (first_unit b) (end_unit b) u

abbrev pub reached : List Block → Serial → Bool
reached blocks u = list_any (λ b. reaches b.raw u) blocks

-- the span with that label, or none where there is no label
abbrev pub relabelled : {M : Type 0} → Span M → Option M → Option (Span M)
relabelled s label = option_map (λ m. record { last = s.last; label = m }) label

-- the span with its label changed by the function, or none
abbrev pub respanned : {M : Type 0} → (M → Option M) → Option (Span M) → Option (Span M)
respanned after None = None
respanned after (Some s) = relabelled s (after s.label)

-- the span, if there is one, has its label changed by the relation
abbrev pub IsChanged : {M : Type 0} → (M → Option M → Type 0) → Option (Span M) → Option (Span M) → Type 0
IsChanged R None new = new ≡ None
IsChanged {M} R (Some s) new = (r : Option M) × R s.label r × (new ≡ relabelled s r)

-- each span was there, with the same last number
abbrev pub AreReshaped : {M : Type 0} → (Serial → Option (Span M)) → (Serial → Option (Span M)) → Type 0
AreReshaped {M} old new = (q : Serial) (t : Span M) → new q ≡ Some t → (s : Span M) × (old q ≡ Some s) × (s.last ≡ t.last)

-- one span for the block's units, or none
abbrev pub filled : {M : Type 0} → RawBlock → Option M → (Serial → Option (Span M)) → Serial → Option (Span M)
filled b given held q = if has_unit b q then (if is_at (unit_cmp (first_unit b)) q then option_map (λ m. record { last = b.last; label = m }) given else None) else held q

-- the labels with that label at the unit, where the unit had none and is to have one
abbrev pub begun : {M : Type 0} → Serial → Option M → (Serial → Option M) → Serial → Option M
begun v given labels u = if is_at (unit_cmp v) u then option_or (labels u) given else labels u
