use Rattle.std.proofs.Common.{◌≡◌, ◌<◌, ◌+◌, ◌*◌, ◌∷◌, [], length, take, drop, arith, refl, length-take}
use Rattle.std.proofs.lemmas.Grind.{common_steps}
use Rattle.exchanges.proofs.Lines.{lines_around, lines_more}
use Rattle.exchanges.proofs.Replies.{goes_more}
use Rattle.exchanges.proofs.Served.{served_more, serves_stop, serves_no_memory, serves_cut, cut_short}
use Rattle.exchanges.proofs.replying.serve_lines.Goals as goal

pub returns-in-Stopped-clause-serves : goal.returns-in-Stopped-clause-serves
returns-in-Stopped-clause-serves g c =
    let ls = c.args.lines.now in
    let m = c.as_slice.result.now in
    let whole = lines_around ls c.loop-line.line-index c.line-item.result m c.loop-line-test.true c.line-item.is c.as_slice.ensures in
    rw whole (serves_stop g.W.Write.contents c.args.left.now c.loop-line.left _ _ _ _ _ _ (take c.loop-line.line-index ls) (m ∷ []) (drop (c.loop-line.line-index + 1) ls) c.loop-line.invariant.served c.in-Stopped.ensures.serves)

pub overflow_add-result : goal.overflow_add-result
overflow_add-result g c =
    let below = cut_short g.W.Write.contents c.loop-line.left c.in-WriteFault.count _ _ _ _ (c.as_slice.result.now ∷ []) c.in-WriteFault.ensures.serves in
    let few = c.requires.few in
    let low = c.loop-line-test.true in
    omega (arith, below, c.loop-line.invariant.count, few, low)

pub returns-in-WriteFault-clause-serves : goal.returns-in-WriteFault-clause-serves
returns-in-WriteFault-clause-serves g c =
    let ls = c.args.lines.now in
    let m = c.as_slice.result.now in
    let i = c.loop-line.line-index in
    let low : i < length ls = c.loop-line-test.true in
    let whole = lines_around ls i c.line-item.result m low c.line-item.is c.as_slice.ensures in
    let count : c.loop-line.written + c.in-WriteFault.count ≡ 31 * length (take i ls) + c.in-WriteFault.count =
    omega (arith, length-take i ls, c.loop-line.invariant.count, low) in
    rw whole (serves_cut g.W.Write.contents c.args.left.now c.loop-line.left c.in-WriteFault.count _ _ _ _ _ _ _ (take i ls) (m ∷ []) (drop (i + 1) ls) count c.loop-line.invariant.goes c.loop-line.invariant.served c.in-WriteFault.ensures.serves)

pub returns-in-NoMemory-clause-serves : goal.returns-in-NoMemory-clause-serves
returns-in-NoMemory-clause-serves g c =
    let ls = c.args.lines.now in
    let m = c.as_slice.result.now in
    let whole = lines_around ls c.loop-line.line-index c.line-item.result m c.loop-line-test.true c.line-item.is c.as_slice.ensures in
    rw whole (serves_no_memory g.W.Write.contents c.args.left.now c.loop-line.left _ _ _ _ _ _ (take c.loop-line.line-index ls) (m ∷ []) (drop (c.loop-line.line-index + 1) ls) c.loop-line.invariant.served c.in-NoMemory.ensures.serves)

pub loop-line-preserved : goal.loop-line-preserved
loop-line-preserved g c =
    let ls = c.args.lines.now in
    let m = c.as_slice.result.now in
    let i = c.loop-line.line-index in
    let more = lines_more ls i c.line-item.result m c.loop-line-test.true c.line-item.is c.as_slice.ensures in
    let goes = c.in-AllReplied.ensures.goes refl in
    record {
      spare = c.in-AllReplied.ensures.spare refl;
      goes = goes_more _ _ _ _ _ _ c.loop-line.invariant.goes goes;
      count = omega (arith, c.loop-line.invariant.count);
      served = rw (← more) (served_more g.W.Write.contents c.loop-line.left _ _ _ _ _ _ (take i ls) (m ∷ []) c.loop-line.invariant.served c.in-AllReplied.ensures.serves);
    }

pub returns-clause-serves : goal.returns-clause-serves
returns-clause-serves g c = grind (arith, common_steps)
