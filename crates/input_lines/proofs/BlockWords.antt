-- Words that write raw blocks, one each.
use Rattle.std.proofs.Common.{◌≡◌, ℕ, ◌+◌, ◌<◌, List, [], ◌∷◌, ◌++◌, length, get_or, drop, map, refl, ap, ◌∙◌, arith, subst}
use Rattle.std.proofs.lemmas.List.{append-nil, drop_all, drop_more}
use Rattle.std.specs.List.{AllByRecursion}
use denote.Ref.{Bor}
use Rattle.units.specs.Block.{raw_text, IsRawText}
use Rattle.units.specs.declared.block.RawBlock.{RawBlock}
use Rattle.input_lines.specs.Words.{AreBlocks, IsShort, texts}
use Rattle.input_lines.proofs.SpacedWords.{all_more}

-- the blocks so far, and the words that are left
pub record Gathered (words : List (List ℕ)) (blocks : List RawBlock) (rest : List (List ℕ)) : Type 0 where
  pub spelled : words ≡ map raw_text blocks ++ rest
  pub short : AllByRecursion IsShort blocks
  pub none : ((b : List RawBlock) → AreBlocks rest b → ⊥) → (b : List RawBlock) → AreBlocks words b → ⊥

written_more : (blocks : List RawBlock) (r : RawBlock) (rest : List (List ℕ)) → map raw_text blocks ++ raw_text r ∷ rest ≡ map raw_text (blocks ++ r ∷ []) ++ rest
written_more [] r rest = refl
written_more (b ∷ bs) r rest = ap (λ (l : List (List ℕ)). raw_text b ∷ l) (written_more bs r rest)

-- the first block, and those of the other words
block_first : (w : List ℕ) (rest : List (List ℕ)) (b : List RawBlock) → AreBlocks (w ∷ rest) b → (r : RawBlock) × (others : List RawBlock) × IsRawText w r × AreBlocks rest others
block_first w rest [] are = let e = are.spelled in cc
block_first w rest (r ∷ others) are =
    let e = are.spelled in
    (r, others, record { spelled = cc (e); first = are.short.0.0; last = are.short.0.1 }, record { spelled = cc (e); short = are.short.1 })

-- a word that writes no block
pub no_block : (words : List (Bor (List ℕ))) (i : ℕ) (d : Bor (List ℕ)) → i < length words → ((r : RawBlock) → IsRawText (get_or words i d).now r → ⊥)
    → (b : List RawBlock) → AreBlocks (texts (drop i words)) b → ⊥
no_block words i d low never b are =
    let p = block_first (get_or words i d).now (texts (drop (i + 1) words)) b (subst (λ l. AreBlocks (texts l) b) (drop_more words i d low) are) in
    never p.0 p.2

pub gathered_more : (words : List (Bor (List ℕ))) (blocks : List RawBlock) (i : ℕ) (d : Bor (List ℕ)) (r : RawBlock) → i < length words
    → Gathered (texts words) blocks (texts (drop i words)) → IsRawText (get_or words i d).now r → Gathered (texts words) (blocks ++ r ∷ []) (texts (drop (i + 1) words))
gathered_more words blocks i d r low so_far is =
    let e = drop_more words i d low in
    let others : List (List ℕ) = texts (drop (i + 1) words) in
    record {
      spelled = so_far.spelled ∙ ap (λ l. map raw_text blocks ++ texts l) e ∙ ap (λ (t : List ℕ). map raw_text blocks ++ t ∷ others) is.spelled ∙ written_more blocks r others;
      short = all_more IsShort blocks r so_far.short (is.first, is.last);
      none = λ never. so_far.none (λ b are. let p = block_first (get_or words i d).now others b (subst (λ l. AreBlocks (texts l) b) e are) in never p.1 p.3);
    }

pub gathered_all : (words : List (Bor (List ℕ))) (blocks : List RawBlock) (i : ℕ) → (i < length words → ⊥) → Gathered (texts words) blocks (texts (drop i words)) → AreBlocks (texts words) blocks
gathered_all words blocks i high all = record {
  spelled = all.spelled ∙ ap (λ l. map raw_text blocks ++ texts l) (drop_past i words high) ∙ append-nil (map raw_text blocks);
  short = all.short;
}
  where
    drop_past : (k : ℕ) (xs : List (Bor (List ℕ))) → (k < length xs → ⊥) → drop k xs ≡ []
    drop_past k xs h = drop_all k xs (omega arith)
