-- The lines of a piece, given one after another.
use Rattle.std.proofs.Common.{◌≡◌, ℕ, ◌+◌, ◌<◌, ◌≤◌, List, ◌++◌, length, Option, refl, sym, ap, subst, ◌∙◌, arith, append-nil, length-append}
use Rattle.std.specs.List.{AllByRecursion}
use Rattle.units.specs.Limits.{longest_line}
use Rattle.streams.specs.SplitterView.{SplitterView}
use Rattle.streams.specs.Lines.{stream_of, IsWithin, Splits, IsOver}
use Rattle.streams.specs.Calls.{GoesOn}
use Rattle.streams.proofs.Streams.{stream_join}
use Rattle.exchanges.specs.Given.{Given, lines_of}
use Rattle.exchanges.specs.Pieces.{piece_end, open_with, IsSmall, ServesPiece, most_lines}
use Rattle.exchanges.specs.Pieces.{ServesLines}
use Rattle.exchanges.specs.CountedView.{CountedView}
use Rattle.exchanges.specs.declared.pieces.PieceEnd.{PieceEnd}
use Rattle.exchanges.specs.declared.pieces.PieceEnd.TheVariants as piece
use Rattle.exchanges.specs.declared.replying.LinesEnd.{LinesEnd}
use Rattle.exchanges.specs.declared.replying.LinesEnd.TheVariants.{AllReplied, Stopped, WriteFault, NoMemory}
use Rattle.exchanges.proofs.Replies.{lines_short, lines_length, each_front}
use Rattle.exchanges.proofs.Served.{cut_short}

whole_first : (bytes rest : List ℕ) (ls later : List (List ℕ)) (given : List Given) → bytes ≡ stream_of ls rest → ls ≡ lines_of given ++ later → bytes ≡ stream_of (lines_of given) (stream_of later rest)
whole_first bytes rest ls later given x y =
    x ∙ ap (λ (l : List (List ℕ)). stream_of l rest) y ∙ stream_join (lines_of given) later rest

each_first : (P : List ℕ → Type 0) (ls later : List (List ℕ)) (given : List Given) → AllByRecursion P ls → ls ≡ lines_of given ++ later → AllByRecursion P (lines_of given)
each_first P ls later given each y = each_front P (lines_of given) later (subst (λ (l : List (List ℕ)). AllByRecursion P l) y each)

-- no more lines than bytes
pub few_lines : (held piece rest : List ℕ) (ls : List (List ℕ)) → length held ≤ longest_line → length piece ≤ 4096 → held ++ piece ≡ stream_of ls rest → length ls ≤ most_lines
few_lines held piece rest ls h p e =
    let short = lines_short ls rest in
    let sizes : length held + length piece ≡ length (stream_of ls rest) = sym (length-append held piece) ∙ ap length e in
    omega (arith, short, sizes, h, p)

module _ {W : Type 0} (contents : W → Option (List ℕ)) where
  -- all lines, or the first of them
  pub piece_ends : (left left' : ℕ) (w w' : CountedView W) (old new : List Given) (bytes rest : List ℕ) (held : SplitterView) (ls : List (List ℕ)) (all : PieceEnd) (end : LinesEnd)
      → (ServesLines contents left w w' old new ls AllReplied → end ≡ AllReplied → ServesPiece contents left left' w w' old new bytes held all)
      → bytes ≡ stream_of ls rest → AllByRecursion (IsWithin longest_line) ls → ServesLines contents left w w' old new ls end
      → ServesPiece contents left left' w w' old new bytes held (piece_end all end)
  piece_ends left left' w w' old new bytes rest held ls all AllReplied whole_case whole each s = whole_case s refl
  piece_ends left left' w w' old new bytes rest held ls all Stopped whole_case whole each s = record {
    given = s.given;
    rest = stream_of s.later rest;
    joined = s.joined;
    whole = whole_first bytes rest ls s.later s.given whole s.first;
    each = each_first (IsWithin longest_line) ls s.later s.given each s.first;
    ends = s.ends;
  }
  piece_ends left left' w w' old new bytes rest held ls all (WriteFault n) whole_case whole each s = record {
    given = s.given;
    rest = stream_of s.later rest;
    joined = s.joined;
    whole = whole_first bytes rest ls s.later s.given whole s.first;
    each = each_first (IsWithin longest_line) ls s.later s.given each s.first;
    ends = s.ends;
  }
  piece_ends left left' w w' old new bytes rest held ls all NoMemory whole_case whole each s = record {
    given = s.given;
    rest = stream_of s.later rest;
    joined = s.joined;
    whole = whole_first bytes rest ls s.later s.given whole s.first;
    each = each_first (IsWithin longest_line) ls s.later s.given each s.first;
    ends = s.ends;
  }

  all_given : (left : ℕ) (w w' : CountedView W) (old new : List Given) (ls : List (List ℕ)) (s : ServesLines contents left w w' old new ls AllReplied) → ls ≡ lines_of s.given
  all_given left w w' old new ls s = s.first ∙ ap (λ (l : List (List ℕ)). lines_of s.given ++ l) s.ends.1 ∙ append-nil (lines_of s.given)

  -- every line of a piece, and bytes that are no line yet
  pub piece_replied : (left left' : ℕ) (w w' : CountedView W) (old new : List Given) (bytes rest : List ℕ) (held : SplitterView) (ls : List (List ℕ)) (n : ℕ) → n ≡ length ls → held ≡ open_with rest
      → Splits longest_line bytes ls rest → GoesOn left left' w.calls w'.calls → 0 < left' → ServesLines contents left w w' old new ls AllReplied
      → ServesPiece contents left left' w w' old new bytes held (piece.Replied n)
  piece_replied left left' w w' old new bytes rest held ls n count open_so splits goes spare s =
      let exact = all_given left w w' old new ls s in
      record {
        given = s.given;
        rest = rest;
        joined = s.joined;
        whole = splits.whole ∙ ap (λ (l : List (List ℕ)). stream_of l rest) exact;
        each = subst (λ (l : List (List ℕ)). AllByRecursion (IsWithin longest_line) l) exact splits.each;
        ends = (s.ends.0, count ∙ ap length exact ∙ lines_length s.given, open_so, splits.rest_within, goes, spare);
      }

  -- every line before one that is too long
  pub piece_too_long : (left left' : ℕ) (w w' : CountedView W) (old new : List Given) (bytes : List ℕ) (held : SplitterView) (ls : List (List ℕ)) → IsOver longest_line bytes ls
      → ServesLines contents left w w' old new ls AllReplied → ServesPiece contents left left' w w' old new bytes held piece.TooLong
  piece_too_long left left' w w' old new bytes held ls over s =
      let exact = all_given left w w' old new ls s in
      record {
        given = s.given;
        rest = over.over;
        joined = s.joined;
        whole = over.whole ∙ ap (λ (l : List (List ℕ)). stream_of l over.over) exact;
        each = subst (λ (l : List (List ℕ)). AllByRecursion (IsWithin longest_line) l) exact over.each;
        ends = (s.ends.0, over.long, over.no_line);
      }

  pub small_end : (left : ℕ) (w w' : CountedView W) (old new : List Given) (ls : List (List ℕ)) (all : PieceEnd) (end : LinesEnd) → length ls ≤ most_lines → IsSmall all
      → ServesLines contents left w w' old new ls end → IsSmall (piece_end all end)
  small_end left w w' old new ls all AllReplied few small s = small
  small_end left w w' old new ls all Stopped few small s = tt
  small_end left w w' old new ls all (WriteFault n) few small s = let short = cut_short contents left n w w' old new ls s in omega (arith, short, few)
  small_end left w w' old new ls all NoMemory few small s = tt
