-- Tests of the units of blocks, by maps of units.
use Rattle.std.proofs.Common.{◌≡◌, ◌≢◌, List, [], ◌∷◌, Bool, true, false, true≢false, not, Option, Some, None, IsSome, is_some, is_none, IsTrue, ◌||◌, refl, sym, ap, ◌∙◌}
use Rattle.std.specs.Bool.{OnTrue, OnFalse}
use Rattle.std.specs.FinMap.{FinMap, get}
use Rattle.std.specs.List.{list_any}
use Rattle.std.specs.Option.{option_map, option_map_or}
use Rattle.std.proofs.lemmas.List.Folds.{list_any-append}
use Rattle.std.proofs.lemmas.Option.{none-some}
use Rattle.units.proofs.LabelTests.{on_true, on_false, on_not_false, on_not_true}
use Rattle.units.specs.Keys.{unit_cmp}
use Rattle.units.specs.Unit.{has_unit}
use Rattle.units.specs.declared.block.Block.{Block}
use Rattle.units.specs.declared.block.RawBlock.{RawBlock}
use Rattle.units.specs.declared.block.Unit.{Unit as Serial}
use Rattle.status.specs.Content.{raws}
use Rattle.protocol.proofs.UnitsOfBlocks.{block_of_piece, piece_of_block}
use Rattle.protocol.specs.Pieces.{Piece, pieces, pieces_of}
use Rattle.units.proofs.Lists.SomePass.{list_any_in, list_any_not}

-- ---- one block

abbrev pub at_unit : RawBlock → Serial → Piece
at_unit b s = record { unit = s; kind = b.kind }

-- a test that one of the block's units passes, or none
pub some_told : (test : Piece → Bool) (b : RawBlock) (r : Bool) → OnTrue r ((s : Serial) × IsTrue (has_unit b s) × (test (at_unit b s) ≡ true)) → OnFalse r ((s : Serial) → IsTrue (has_unit b s) → test (at_unit b s) ≡ false)
    → r ≡ list_any test (pieces_of b)
some_told test b true some none = sym (list_any_in test (pieces_of b) (at_unit b some.0) (piece_of_block b some.0 some.1) some.2)
some_told test b false some none =
    sym (list_any_not test (pieces_of b) (λ p i e.
    let h = block_of_piece b p i in
    let same : p ≡ at_unit b p.unit = λ j. record { unit = p.unit; kind = h.1 j } in
    true≢false (sym e ∙ ap test same ∙ none p.unit h.0)))

module _ {M : Type 0} (m : FinMap unit_cmp M) (b : RawBlock) where
  -- a test of labels that some unit passes
  passes_at : (passes : M → Bool) (o : Option M) → option_map passes o ≡ Some true → option_map_or passes o false ≡ true
  passes_at passes None e = absurd (none-some true e)
  passes_at passes (Some x) e = cc

  fails_at : (passes : M → Bool) (o : Option M) → option_map passes o ≢ Some true → option_map_or passes o false ≡ false
  fails_at passes None no' = refl
  fails_at passes (Some x) no' = go (passes x) no'
    where
      go : (t : Bool) → Some t ≢ Some true → t ≡ false
      go true h = absurd (h refl)
      go false h = refl

  pub some_labelled : (test : Piece → Bool) (passes : M → Bool) → ((s : Serial) → test (at_unit b s) ≡ option_map_or passes (get m s) false) → (r : Bool)
      → OnTrue r ((s : Serial) × IsTrue (has_unit b s) × (option_map passes (get m s) ≡ Some true)) → OnFalse r ((s : Serial) → IsTrue (has_unit b s) → option_map passes (get m s) ≢ Some true) → r ≡ list_any test (pieces_of b)
  some_labelled test passes same r some none =
      some_told test b r (on_true r _ _ (λ w. (w.0, w.1, same w.0 ∙ passes_at passes (get m w.0) w.2)) some) (on_false r _ _ (λ f s h. same s ∙ fails_at passes (get m s) (f s h)) none)

  there_at : (o : Option M) → option_map (λ _. true) o ≡ Some true → is_none o ≡ false
  there_at None e = absurd (none-some true e)
  there_at (Some x) e = refl

  missing_at : (o : Option M) → option_map (λ _. true) o ≢ Some true → is_none o ≡ true
  missing_at None no' = refl
  missing_at (Some x) no' = absurd (no' refl)

  pub some_missing : (r : Bool) → OnTrue r ((s : Serial) → IsTrue (has_unit b s) → option_map (λ _. true) (get m s) ≡ Some true) → OnFalse r ((s : Serial) × IsTrue (has_unit b s) × (option_map (λ _. true) (get m s) ≢ Some true))
      → not r ≡ list_any (λ p. is_none (get m p.unit)) (pieces_of b)
  some_missing r all some =
      some_told (λ p. is_none (get m p.unit)) b (not r) (on_not_false r _ _ (λ w. (w.0, w.1, missing_at (get m w.0) w.2)) some) (on_not_true r _ _ (λ f s h. there_at (get m s) (f s h)) all)

  pub some_there : (r : Bool) → OnTrue r ((s : Serial) → IsTrue (has_unit b s) → get m s ≡ None) → OnFalse r ((s : Serial) × IsTrue (has_unit b s) × IsSome (get m s)) → not r ≡ list_any (λ p. is_some (get m p.unit)) (pieces_of b)
  some_there r none some = some_told (λ p. is_some (get m p.unit)) b (not r) (on_not_false r _ _ (λ w. w) some) (on_not_true r _ _ (λ f s h. ap is_some (f s h)) none)

-- ---- all blocks

pub each_block : (test : Piece → Bool) (blocks : List Block) → list_any (λ b. list_any test (pieces_of b.raw)) blocks ≡ list_any test (pieces (raws blocks))
each_block test [] = refl
each_block test (b ∷ bs) = ap (λ x. list_any test (pieces_of b.raw) || x) (each_block test bs) ∙ sym (list_any-append test (pieces_of b.raw) (pieces (raws bs)))

-- tests that say the same of each unit
pub same_tests : (f g : Piece → Bool) → ((p : Piece) → f p ≡ g p) → (ps : List Piece) → list_any f ps ≡ list_any g ps
same_tests f g same [] = refl
same_tests f g same (p ∷ ps) = ap (λ x. x || list_any f ps) (same p) ∙ ap (λ x. g p || x) (same_tests f g same ps)
