-- A JSON value whose text is read as no block.
use Rattle.std.proofs.Common.{◌≡◌, ℕ, List, Some, refl, sym, ap, subst, ◌∙◌}
use Rattle.std.specs.Prelude.{Result, Ok, Err, IfNone, IfOk}
use Rattle.std.specs.Result.{result_ok}
use Rattle.serde_json.specs.Data.{Data, string}
use Rattle.serde_json.specs.Find.{as_str}
use Rattle.units.specs.Facts.{IsRange}
use Rattle.units.specs.Block.{IsRawText}
use Rattle.units.specs.declared.block.RawBlock.{RawBlock}
use Rattle.units.specs.declared.block.Block.{Block}
use Rattle.units.specs.declared.block.BlockFault.{BlockFault}
use Rattle.units.specs.declared.block.BlockFault.TheVariants.{Shape, Range}
use Rattle.json_fields.specs.Found.{Reads}
use Rattle.units.proofs.OneText.{raw_same}

value_text : (d : Data) (text t : List ℕ) → Some text ≡ as_str d → d ≡ string t → text ≡ t
value_text d text t e is = let same : Some text ≡ Some t = e ∙ ap as_str is in cc (same)

-- no block, where what `Is` says of a block has the value write its text
pub block_none : (Is : Block → Type 0) (d : Data) (text : List ℕ) (r : Result Block BlockFault) → ((b : Block) → Is b → (t : List ℕ) × (d ≡ string t) × IsRawText t b.raw)
    → Some text ≡ as_str d → (r ≡ Err Shape → (w : RawBlock) → IsRawText text w → ⊥)
    → (r ≡ Err Range → (w : RawBlock) × IsRawText text w × (IsRange w.first w.last → ⊥)) → IfNone (result_ok r) ((b : Block) → Is b → ⊥)
block_none Is d text (Ok b) writes e shape range = tt
block_none Is d text (Err Shape) writes e shape range = λ b is.
    let own = writes b is in
    shape refl b.raw (subst (λ s. IsRawText s b.raw) (sym (value_text d text own.0 e own.1)) own.2)
block_none Is d text (Err Range) writes e shape range = λ b is.
    let own = writes b is in
    let w = range refl in
    w.2 (subst (λ r. IsRange r.first r.last) (raw_same text b.raw w.0 (subst (λ s. IsRawText s b.raw) (sym (value_text d text own.0 e own.1)) own.2) w.1) b.in_range)

-- the value is that text
pub is_text : (d : Data) (text : List ℕ) → Some text ≡ as_str d → d ≡ string text
is_text d text e = go d e where
  go : (d : Data) → Some text ≡ as_str d → d ≡ string text
  go (string t) e = let same : t ≡ text = cc (e) in ap string same
  go d e = absurd (cc (e))

-- the block that the text writes, or none, where what `Is` says of a block is that the value writes its text
pub block_reads : (Is : Block → Type 0) (d : Data) (text : List ℕ) (r : Result Block BlockFault) → ((b : Block) → Is b → (t : List ℕ) × (d ≡ string t) × IsRawText t b.raw)
    → ((b : Block) → d ≡ string text → IsRawText text b.raw → Is b) → Some text ≡ as_str d → IfOk r (λ b. IsRawText text b.raw) → (r ≡ Err Shape → (w : RawBlock) → IsRawText text w → ⊥)
    → (r ≡ Err Range → (w : RawBlock) × IsRawText text w × (IsRange w.first w.last → ⊥)) → Reads Is (result_ok r)
block_reads Is d text (Ok b) writes there e ok shape range = there b (is_text d text e) ok
block_reads Is d text (Err Shape) writes there e ok shape range = block_none Is d text (Err Shape) writes e shape range
block_reads Is d text (Err Range) writes there e ok shape range = block_none Is d text (Err Range) writes e shape range
