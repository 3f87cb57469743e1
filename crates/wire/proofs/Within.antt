-- Messages whose units are within a format.
use Rattle.std.proofs.Common.{ℕ, ◌<◌, ◌≤◌, ◌↔◌, IsTrue, List, [], ◌∷◌, length, Bool, arith}
use Rattle.std.specs.Bool.{MatchBool}
use Rattle.std.specs.List.{AllByRecursion, AllWithin, HoldsAt}
use Rattle.std.proofs.lemmas.Bool.{MatchBool-at_true}
use Rattle.std.proofs.lemmas.Iterator.Search.{true_from_All}
use Rattle.std.proofs.lemmas.List.Elements.{All-from_all_within, All-from_recursion, recursion_from_All}
use Rattle.units.specs.Facts.{IsRange}
use Rattle.units.specs.declared.block.Block.{Block}
use Rattle.units.specs.declared.block.RawBlock.{RawBlock}
use Rattle.status.specs.Content.{raws}
use Rattle.wire.specs.Messages.{IsSound}
use Rattle.wire.specs.Records.{AreUnitsWithin, last_unit_of}
use Rattle.wire.specs.declared.message.Body.{Body}
use Rattle.wire.specs.declared.message.Body.TheVariants.{Proposal, Notification, Request}
use Rattle.wire.specs.declared.record_format.RecordFormat.TheVariants.{Two}

-- ---- a test of each block

of_raws : (P : RawBlock → Type 0) (bs : List Block) → AllByRecursion (λ b. P b.raw) bs → AllByRecursion P (raws bs)
of_raws P [] all = tt
of_raws P (b ∷ bs) all = (all.0, of_raws P bs all.1)

to_blocks : (P : RawBlock → Type 0) (bs : List Block) → AllByRecursion P (raws bs) → AllByRecursion (λ b. P b.raw) bs
to_blocks P [] all = tt
to_blocks P (b ∷ bs) all = (all.0, to_blocks P bs all.1)

pub up_to_decided : (last : ℕ) (bs : List Block) (r : Bool)
    → MatchBool r (AllWithin (λ (b : Block). b.raw.last ≤ last) bs 0 (length bs)) ((k : ℕ) × (k < length bs) × HoldsAt (λ (b : Block). last < b.raw.last) bs k)
    → IsTrue r ↔ AllByRecursion (λ b. b.last ≤ last) (raws bs)
up_to_decided last bs r cases =
    let up_to = λ (b : Block). b.raw.last ≤ last in (
      λ yes. of_raws (λ b. b.last ≤ last) bs (recursion_from_All up_to bs (All-from_all_within up_to bs (MatchBool-at_true _ _ yes cases))),
      λ all. true_from_All up_to (λ (b : Block). last < b.raw.last) r bs (λ b le lt. omega arith) cases (All-from_recursion up_to bs (to_blocks (λ b. b.last ≤ last) bs all)),
    )

-- ---- the format that is written

up_to_last : (bs : List RawBlock) → AllByRecursion (λ b. IsRange b.first b.last) bs → AllByRecursion (λ b. b.last ≤ last_unit_of Two) bs
up_to_last [] are = tt
up_to_last (b ∷ bs) are = (are.0.2, up_to_last bs are.1)

-- it has all units of sound messages
pub within_two : (b : Body) → IsSound b → AreUnitsWithin Two b
within_two (Proposal p) is = up_to_last p.content.units is.in_range
within_two (Notification n) is = tt
within_two Request is = tt
