use Rattle.std.proofs.Common.{◌≡◌, ◌≤◌, ◌++◌, ℕ, List, length, arith, sym, ap, subst, ◌∙◌}
use Rattle.units.specs.Limits.{longest_line}
use Rattle.streams.specs.SplitterView.{SplitterView}
use Rattle.streams.specs.Lines.{Splits, IsOver}
use Rattle.streams.specs.Splitting.{Faults}
use Rattle.streams.specs.declared.splitter.Line.{Line}
use Rattle.streams.specs.declared.splitter.LineFault.{LineFault}
use Rattle.streams.specs.declared.splitter.LineFault.TheVariants as faults
use Rattle.exchanges.specs.Pieces.{open_with, most_lines}
use Rattle.exchanges.specs.declared.pieces.PieceEnd.TheVariants.{Replied, TooLong}
use Rattle.exchanges.proofs.Cuts.{few_lines, piece_ends, piece_replied, piece_too_long, small_end}
use Rattle.exchanges.proofs.pieces.serve_piece.Goals as goal

-- the splitter's limit
limit_of : (held : SplitterView) → held ≡ open_with held.rest → held.limit ≡ longest_line
limit_of held e = ap (λ (h : SplitterView). h.limit) e

-- it takes more
still_open : (old new : SplitterView) → old ≡ open_with old.rest → new ≡ record old { rest = new.rest } → new ≡ open_with new.rest
still_open old new e x = x ∙ ap (λ (h : SplitterView). record h { rest = new.rest }) e

-- what a fault says about the bytes
over_of : (old new : SplitterView) (piece : List ℕ) (fault : LineFault) (ls : List Line) → fault ≡ faults.TooLong ls → Faults old new piece fault → IsOver old.limit (old.rest ++ piece) ls
over_of old new piece fault ls e h = let told = subst (λ (f : LineFault). Faults old new piece f) e h in told.1

pub serve_lines-end-requires-clause-few : goal.serve_lines-end-requires-clause-few
serve_lines-end-requires-clause-few g c =
    let splits = c.in-Ok.ensures.1 in
    rw c.as_slice.ensures (few_lines c.args.splitter.now.rest c.args.piece.now c.feed.new.self.rest c.in-Ok.lines c.requires.within.1 c.requires.short splits.whole)

pub serve_lines-end-requires-in-Err-TooLong-clause-few : goal.serve_lines-end-requires-in-Err-TooLong-clause-few
serve_lines-end-requires-in-Err-TooLong-clause-few g c =
    let over = over_of c.args.splitter.now c.feed.new.self c.args.piece.now c.in-Err-TooLong.field-0 c.in-Err-TooLong.lines c.in-Err-TooLong.field-0-is c.in-Err-TooLong.ensures in
    rw c.as_slice-in-Err-TooLong.ensures (few_lines c.args.splitter.now.rest c.args.piece.now over.over c.in-Err-TooLong.lines c.requires.within.1 c.requires.short over.whole)

pub returns-in-Ok-clause-serves : goal.returns-in-Ok-clause-serves
returns-in-Ok-clause-serves g c =
    let ls = c.as_slice.result.now in
    let old = c.args.splitter.now in
    let limit = limit_of old c.requires.open in
    let same = c.as_slice.ensures in
    let count = c.as_slice-count.ensures in
    let splits : Splits longest_line (old.rest ++ c.args.piece.now) ls c.feed.new.self.rest =
    rw (same, ← limit) (c.in-Ok.ensures.1) in
    rw c.end_of_piece.ensures (piece_ends g.W.Write.contents c.args.left.now c.serve_lines-end.new.left _ _ _ _ (old.rest ++ c.args.piece.now) c.feed.new.self.rest c.feed.new.self ls _ c.serve_lines-end.result
    (λ s e. piece_replied g.W.Write.contents _ _ _ _ _ _ _ c.feed.new.self.rest _ ls _ (ap length (count ∙ sym same)) (still_open old c.feed.new.self c.requires.open c.in-Ok.ensures.2) splits (c.serve_lines-end.ensures.goes e) (c.serve_lines-end.ensures.spare e) s)
    splits.whole splits.each c.serve_lines-end.ensures.serves)

pub returns-in-Ok-clause-small : goal.returns-in-Ok-clause-small
returns-in-Ok-clause-small g c =
    let ls = c.as_slice.result.now in
    let splits = c.in-Ok.ensures.1 in
    let few : length ls ≤ most_lines = rw c.as_slice.ensures (few_lines c.args.splitter.now.rest c.args.piece.now c.feed.new.self.rest c.in-Ok.lines c.requires.within.1 c.requires.short splits.whole) in
    let count : length c.as_slice-count.result.now ≤ most_lines = omega (arith, few, ap length (c.as_slice-count.ensures ∙ sym c.as_slice.ensures)) in
    rw c.end_of_piece.ensures (small_end g.W.Write.contents c.args.left.now _ _ _ _ ls (Replied (length c.as_slice-count.result.now)) c.serve_lines-end.result few count c.serve_lines-end.ensures.serves)

pub returns-in-Err-TooLong-clause-serves : goal.returns-in-Err-TooLong-clause-serves
returns-in-Err-TooLong-clause-serves g c =
    let ls = c.as_slice-in-Err-TooLong.result.now in
    let old = c.args.splitter.now in
    let limit = limit_of old c.requires.open in
    let told = over_of old c.feed.new.self c.args.piece.now c.in-Err-TooLong.field-0 c.in-Err-TooLong.lines c.in-Err-TooLong.field-0-is c.in-Err-TooLong.ensures in
    let over : IsOver longest_line (old.rest ++ c.args.piece.now) ls = rw (c.as_slice-in-Err-TooLong.ensures, ← limit) told in
    rw c.end_of_piece-in-Err-TooLong.ensures (piece_ends g.W.Write.contents c.args.left.now c.serve_lines-end-in-Err-TooLong.new.left _ _ _ _ (old.rest ++ c.args.piece.now) over.over c.feed.new.self ls TooLong c.serve_lines-end-in-Err-TooLong.result
    (λ s e. piece_too_long g.W.Write.contents _ _ _ _ _ _ _ _ ls over s)
    over.whole over.each c.serve_lines-end-in-Err-TooLong.ensures.serves)

pub returns-in-Err-TooLong-clause-small : goal.returns-in-Err-TooLong-clause-small
returns-in-Err-TooLong-clause-small g c =
    let over = over_of c.args.splitter.now c.feed.new.self c.args.piece.now c.in-Err-TooLong.field-0 c.in-Err-TooLong.lines c.in-Err-TooLong.field-0-is c.in-Err-TooLong.ensures in
    let few : length c.as_slice-in-Err-TooLong.result.now ≤ most_lines = rw c.as_slice-in-Err-TooLong.ensures (few_lines c.args.splitter.now.rest c.args.piece.now over.over c.in-Err-TooLong.lines c.requires.within.1 c.requires.short over.whole) in
    rw c.end_of_piece-in-Err-TooLong.ensures (small_end g.W.Write.contents c.args.left.now _ _ _ _ c.as_slice-in-Err-TooLong.result.now TooLong c.serve_lines-end-in-Err-TooLong.result few tt c.serve_lines-end-in-Err-TooLong.ensures.serves)
