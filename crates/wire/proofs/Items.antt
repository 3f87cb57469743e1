-- The items of arrays, one by one and as lists.
use Rattle.std.proofs.Common.{◌≡◌, ℕ, ◌<◌, ◌^◌, List, [], ◌∷◌, ◌++◌, Some, ap, sym, subst, refl, arith, Result}
use Rattle.std.specs.Prelude.{option_and_then, codes}
use Rattle.std.specs.List.{AllByRecursion}
use Rattle.serde_json.specs.Data.{Data, Items, item, no_items, array}
use Rattle.serde_json.specs.Find.{get, as_array}
use Rattle.units.specs.Block.{raw_text, IsRawText}
use Rattle.units.specs.Facts.{IsRange}
use Rattle.units.specs.declared.block.Block.{Block}
use Rattle.units.specs.declared.block.RawBlock.{RawBlock}
use Rattle.status.specs.Content.{raws}
use Rattle.json_fields.specs.Fields.{EachIs, HasAt}
use Rattle.json_fields.specs.Found.{Finds}
use Rattle.json_fields.specs.declared.fault.TextFault.{TextFault}
use Rattle.json_fields.proofs.Parts.{finds_same}
use Rattle.json_fields.proofs.OneAtKey.{array_at, array_once}
use Rattle.json_fields.specs.Writing.{data_tokens, each_tokens}
use Rattle.wire.specs.Objects.{whole_items, numbers, block_data, block_items, blocks}
use Rattle.wire.specs.Reading.{IsBlockItem, IsRawItem, IsCodeItem}

-- ---- one item

-- the text of a block in range is that of a raw block
pub own_text : (r : RawBlock) → IsRange r.first r.last → IsRawText (raw_text r) r
own_text r range = record { spelled = refl; first = omega (arith, range.1, range.2); last = omega (arith, range.2) }

-- ---- items and lists

pub raws_tokens : (bs : List Block) → each_tokens (λ (b : Block). block_data b.raw) bs ≡ each_tokens block_data (raws bs)
raws_tokens [] = refl
raws_tokens (b ∷ bs) = ap (λ ts. data_tokens (block_data b.raw) ++ ts) (raws_tokens bs)

pub items_of_blocks : (ds : Items) (bs : List Block) → EachIs IsBlockItem ds bs → ds ≡ block_items (raws bs)
items_of_blocks no_items [] e = refl
items_of_blocks no_items (b ∷ bs) e = absurd e
items_of_blocks (item d ds) [] e = absurd e
items_of_blocks (item d ds) (b ∷ bs) e = let here = e.0 in let rest = items_of_blocks ds bs e.1 in cc (here, rest)

pub blocks_of_items : (ds : Items) (bs : List Block) → ds ≡ block_items (raws bs) → EachIs IsBlockItem ds bs
blocks_of_items ds bs e = subst (λ xs. EachIs IsBlockItem xs bs) (sym e) (own bs)
  where
    own : (bs : List Block) → EachIs IsBlockItem (block_items (raws bs)) bs
    own [] = tt
    own (b ∷ bs) = (refl, own bs)

abbrev pub AreShort : List RawBlock → Type 0
AreShort rs = AllByRecursion (λ b. (b.first < 10 ^ 18) × (b.last < 10 ^ 18)) rs

pub items_of_raws : (ds : Items) (rs : List RawBlock) → EachIs IsRawItem ds rs → (ds ≡ block_items rs) × AreShort rs
items_of_raws no_items [] e = (refl, tt)
items_of_raws no_items (b ∷ bs) e = absurd e
items_of_raws (item d ds) [] e = absurd e
items_of_raws (item d ds) (b ∷ bs) e = let here = e.0.0 in let rest = items_of_raws ds bs e.1 in let same = rest.0 in (cc (here, same), ((e.0.1, e.0.2), rest.1))

pub raws_of_items : (ds : Items) (rs : List RawBlock) → ds ≡ block_items rs → AreShort rs → EachIs IsRawItem ds rs
raws_of_items ds rs e short = subst (λ xs. EachIs IsRawItem xs rs) (sym e) (own rs short)
  where
    own : (rs : List RawBlock) → AreShort rs → EachIs IsRawItem (block_items rs) rs
    own [] short = tt
    own (r ∷ rs) short = ((refl, short.0.0, short.0.1), own rs short.1)

pub items_of_codes : (ds : Items) (cs : List ℕ) → EachIs IsCodeItem ds cs → (ds ≡ whole_items cs) × AllByRecursion (λ c. c < 2 ^ 16) cs
items_of_codes no_items [] e = (refl, tt)
items_of_codes no_items (b ∷ bs) e = absurd e
items_of_codes (item d ds) [] e = absurd e
items_of_codes (item d ds) (b ∷ bs) e = let here = e.0.0 in let rest = items_of_codes ds bs e.1 in let same = rest.0 in (cc (here, same), (e.0.1, rest.1))

pub codes_of_items : (ds : Items) (cs : List ℕ) → ds ≡ whole_items cs → AllByRecursion (λ c. c < 2 ^ 16) cs → EachIs IsCodeItem ds cs
codes_of_items ds cs e small = subst (λ xs. EachIs IsCodeItem xs cs) (sym e) (own cs small)
  where
    own : (cs : List ℕ) → AllByRecursion (λ c. c < 2 ^ 16) cs → EachIs IsCodeItem (whole_items cs) cs
    own [] small = tt
    own (c ∷ cs) small = ((refl, small.0), own cs small.1)

-- ---- lists at their keys

pub listed_blocks : (d : Data) (ds : Items) (r : Result (List Block) TextFault) → Some ds ≡ option_and_then as_array (get (codes "units") d) → Finds (EachIs IsBlockItem ds) r
    → Finds (λ bs. HasAt d (codes "units") (blocks (raws bs))) r
listed_blocks d ds r at f =
    let is = array_at d (codes "units") ds at in
    finds_same (EachIs IsBlockItem ds) (λ bs. HasAt d (codes "units") (blocks (raws bs))) r (λ bs e. subst (λ xs. HasAt d (codes "units") (array xs)) (items_of_blocks ds bs e) is)
    (λ bs e. blocks_of_items ds bs (array_once d (codes "units") ds (block_items (raws bs)) is e)) f

pub listed_raws : (d : Data) (ds : Items) (r : Result (List RawBlock) TextFault) → Some ds ≡ option_and_then as_array (get (codes "units") d) → Finds (EachIs IsRawItem ds) r
    → Finds (λ rs. HasAt d (codes "units") (blocks rs) × AreShort rs) r
listed_raws d ds r at f =
    let is = array_at d (codes "units") ds at in
    finds_same (EachIs IsRawItem ds) (λ rs. HasAt d (codes "units") (blocks rs) × AreShort rs) r
    (λ rs e. let h = items_of_raws ds rs e in (subst (λ xs. HasAt d (codes "units") (array xs)) h.0 is, h.1))
    (λ rs e. raws_of_items ds rs (array_once d (codes "units") ds (block_items rs) is e.0) e.1) f

pub listed_codes : (d : Data) (ds : Items) (r : Result (List ℕ) TextFault) → Some ds ≡ option_and_then as_array (get (codes "codes") d) → Finds (EachIs IsCodeItem ds) r
    → Finds (λ cs. HasAt d (codes "codes") (numbers cs) × AllByRecursion (λ c. c < 2 ^ 16) cs) r
listed_codes d ds r at f =
    let is = array_at d (codes "codes") ds at in
    finds_same (EachIs IsCodeItem ds) (λ cs. HasAt d (codes "codes") (numbers cs) × AllByRecursion (λ c. c < 2 ^ 16) cs) r
    (λ cs e. let h = items_of_codes ds cs e in (subst (λ xs. HasAt d (codes "codes") (array xs)) h.0 is, h.1))
    (λ cs e. codes_of_items ds cs (array_once d (codes "codes") ds (whole_items cs) is e.0) e.1) f
