-- The steps of the code that sets and changes labels; no public contract cites them.
use Rattle.std.specs.Prelude.{◌≡◌, ◌⊎◌, List, [], ◌∷◌, true, false, Option, Some, None, IsSome, find, if◌then◌else◌}
use Rattle.std.specs.Option.{option_and_then, option_map_or}
use Rattle.std.specs.List.{AllByRecursion}
use Rattle.std.specs.BTreeMap.{BTreeMap, IsOrdered, get, is_at}
use Rattle.units.specs.Keys.{unit_cmp, first_unit}
use Rattle.units.specs.Spans.{AreParted, AreReshaped, Mean, IsSeam, IsCutAt, after_unit, end_unit, reaches, reached, respanned, begun}
use Rattle.units.specs.Unit.{has_unit, covers}
use Rattle.units.specs.declared.block.Block.{Block}
use Rattle.units.specs.declared.block.RawBlock.{RawBlock}
use Rattle.units.specs.declared.block.Unit.{Unit as Serial}
use Rattle.units.specs.declared.unit_map.Span.{Span}
use Rattle.units.specs.declared.unit_map.cutting.Step.{Step}
use Rattle.units.specs.declared.unit_map.setting.Prepared.{Prepared}
use Rattle.units.specs.declared.unit_map.cutting.Step.TheVariants.{Nothing, Put, Cut}

-- how the spans before the step are restored from those after it
abbrev pub Restores : {M : Type 0} → Step M → (Serial → Option (Span M)) → (Serial → Option (Span M)) → Type 0
Restores Nothing old new = (q : Serial) → old q ≡ new q
Restores (Put v) old new = (q : Serial) → old q ≡ (if is_at (unit_cmp v) q then None else new q)
Restores (Cut k v s) old new = (is_at (unit_cmp v) k ≡ false) × IsSome (new k) × ((q : Serial) → old q ≡ (if is_at (unit_cmp k) q then Some s else (if is_at (unit_cmp v) q then None else new q)))

-- no span goes across the front of the unit any more, and one begins there if the unit was to have a label
pub record IsBegun {M : Type 0} (v : Serial) (given : Option M) (old new : Serial → Option (Span M)) : Type 0 where
  pub parted : AreParted new
  pub means : (f : Serial → Option M) → Mean old f → Mean new (begun v given f)
  pub cut : IsCutAt new v
  pub cuts : (q : Serial) → IsCutAt old q → IsCutAt new q
  pub key : IsSome given → IsSome (new v)
  pub keys : (q : Serial) → IsSome (old q) → IsSome (new q)
  pub seams : (q : Serial) → IsSeam new q → IsSeam old q ⊎ ((q ≡ v) ⊎ (IsSome given × (q ≡ after_unit v)))

-- the same at both ends of a block
pub record IsPrepared {M : Type 0} (b : RawBlock) (given : Option M) (old new : Serial → Option (Span M)) : Type 0 where
  pub parted : AreParted new
  pub means : (f : Serial → Option M) → Mean old f → (g : Serial → Option M) × Mean new g × ((u : Serial) → has_unit b u ≡ false → g u ≡ f u)
  pub first : IsCutAt new (first_unit b)
  pub end : IsCutAt new (end_unit b)
  pub cuts : (q : Serial) → IsCutAt old q → IsCutAt new q
  pub key : IsSome given → IsSome (new (first_unit b))
  pub keys : (q : Serial) → IsSome (old q) → IsSome (new q)
  pub seams : (q : Serial) → IsSeam new q → IsSeam old q ⊎ (reaches b q ≡ true)

-- the block's ends were prepared, and both steps can be taken back
pub record Prepares {M : Type 0} (p : Prepared M) (old new : Serial → Option (Span M)) : Type 0 where
  pub prepared : IsPrepared p.block.raw p.label old new
  pub middle : Serial → Option (Span M)
  pub first : Restores p.first old middle
  pub end : Restores p.end middle new

-- the blocks were prepared one after another, the first of the list last
abbrev pub ArePrepared : {M : Type 0} → List (Prepared M) → (Serial → Option (Span M)) → (Serial → Option (Span M)) → Type 0
ArePrepared [] old new = old ≡ new
ArePrepared (p ∷ ps) old new = (before : _) × (ArePrepared ps old before × Prepares p before new)

-- each block that was given a label has one span, in the place of those of its units; new places where a span goes on
-- where another ends are only at the blocks
pub record AreSetIn {M : Type 0} (blocks : List Block) (old new : Serial → Option (Span M)) : Type 0 where
  pub parted : AreParted new
  pub cuts : (q : Serial) → AllByRecursion (λ b. has_unit b.raw q ≡ true → q ≡ first_unit b.raw) blocks → IsCutAt old q → IsCutAt new q
  pub keys : (q : Serial) → covers blocks q ≡ false → IsSome (old q) → IsSome (new q)
  pub seams : (q : Serial) → IsSeam new q → IsSeam old q ⊎ (reached blocks q ≡ true)

-- each unit of the blocks has the label that is given to its block, and the others have theirs
abbrev pub set_to : {M : Type 0} → (Block → Option M) → List Block → (Serial → Option M) → Serial → Option M
set_to given blocks labels u = option_map_or given (find (λ b. has_unit b.raw u) blocks) (labels u)

-- no span goes on where another ends in the blocks or at their ends; the labels stay, and elsewhere a span goes on
-- where another ends only as before
pub record AreJoinedIn {M : Type 0} (blocks : List Block) (old new : BTreeMap Serial (Span M)) : Type 0 where
  pub parted : AreParted (get unit_cmp new)
  pub ordered : IsOrdered unit_cmp new
  pub means : (f : Serial → Option M) → Mean (get unit_cmp old) f → Mean (get unit_cmp new) f
  pub seams : (q : Serial) → IsSeam (get unit_cmp new) q → IsSeam (get unit_cmp old) q × (reached blocks q ≡ false)

-- each span that begins in the blocks has its label changed by the relation, or is taken out; the relation must leave
-- the labels that it gives unchanged
pub record AreChangedIn {M : Type 0} (R : M → Option M → Type 0) (blocks : List Block) (old new : BTreeMap Serial (Span M)) : Type 0 where
  pub parted : AreParted (get unit_cmp new)
  pub ordered : IsOrdered unit_cmp new
  pub changed : (after : M → Option M) → ((m : M) (r : Option M) → R m r → r ≡ after m) → ((m : M) → option_and_then after (after m) ≡ after m)
      → (q : Serial) → get unit_cmp new q ≡ (if covers blocks q then respanned after (get unit_cmp old q) else get unit_cmp old q)
  pub same : (q : Serial) (s : Span M) → get unit_cmp old q ≡ Some s → ((r : Option M) → R s.label r → r ≡ Some s.label) → get unit_cmp new q ≡ Some s
  pub reshaped : AreReshaped (get unit_cmp old) (get unit_cmp new)
  pub fewer : ((m r : M) → R m (Some r) → r ≡ m) → (q : Serial) (t : Span M) → get unit_cmp new q ≡ Some t → get unit_cmp old q ≡ Some t
  pub outside : (q : Serial) → covers blocks q ≡ false → get unit_cmp new q ≡ get unit_cmp old q
