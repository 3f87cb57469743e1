use Rattle.std.proofs.Common.{take, arith, rules, ◌∙◌}
use Rattle.std.proofs.lemmas.Grind.{common_steps}
use Rattle.exchanges.proofs.Replies.{goes_more}
use Rattle.exchanges.proofs.Heard.{heard_more, takes_more, holds_within, ends_too_long, ends_stopped, ends_no_memory, ends_cut}
use Rattle.exchanges.proofs.serving.serve_session.Goals as goal

pub loop-reads-preserved-in-Replied : goal.loop-reads-preserved-in-Replied
loop-reads-preserved-in-Replied g c =
    let h = c.loop-reads.invariant in
    let p = c.in-Replied.ensures.serves in
    let few = c.in-Replied.ensures.small in
    let counts = c.in-Ok.ensures.counts in
    record {
      turns = search rules;
      calls = search rules;
      spare_reads = h.spare_reads;
      spare_writes = p.ends.5;
      reader_goes = record { sound = counts.1 ∙ h.reader_goes.sound; spared = search rules };
      writer_goes = goes_more _ _ _ _ _ _ h.writer_goes p.ends.4;
      takes_more = takes_more c.serve_piece.new.splitter p.rest p.ends.2;
      within = holds_within c.serve_piece.new.splitter p.rest p.ends.2 p.ends.3;
      fits = omega (arith, h.fits, few);
      heard = heard_more g.R.Read.remaining g.W.Write.contents c.loop-reads.writes_left c.serve_piece.new.left _ _ _ _ _ _ _ _ _ c.loop-reads.splitter.rest (take c.in-Ok.n c.read_once.new.piece) c.loop-reads.written c.in-Replied.lines c.serve_piece.new.splitter h.heard c.in-Ok.ensures.bytes.0 p;
    }

pub returns-in-TooLong : goal.returns-in-TooLong
returns-in-TooLong g c =
    let h = c.loop-reads.invariant in
    let sound = c.in-Ok.ensures.counts.1 ∙ h.reader_goes.sound in
    ends_too_long g.R.Read.remaining g.W.Write.contents c.loop-reads.writes_left c.serve_piece.new.left _ _ _ _ _ _ _ _ _ c.loop-reads.splitter.rest (take c.in-Ok.n c.read_once.new.piece) c.loop-reads.written c.serve_piece.new.splitter h.heard c.in-Ok.ensures.bytes.0 sound c.in-TooLong.ensures.serves

pub returns-in-Stopped : goal.returns-in-Stopped
returns-in-Stopped g c =
    let h = c.loop-reads.invariant in
    let sound = c.in-Ok.ensures.counts.1 ∙ h.reader_goes.sound in
    ends_stopped g.R.Read.remaining g.W.Write.contents c.loop-reads.writes_left c.serve_piece.new.left _ _ _ _ _ _ _ _ _ c.loop-reads.splitter.rest (take c.in-Ok.n c.read_once.new.piece) c.loop-reads.written c.serve_piece.new.splitter h.heard c.in-Ok.ensures.bytes.0 sound c.in-Stopped.ensures.serves

pub returns-in-WriteFault : goal.returns-in-WriteFault
returns-in-WriteFault g c =
    let h = c.loop-reads.invariant in
    let sound = c.in-Ok.ensures.counts.1 ∙ h.reader_goes.sound in
    ends_cut g.R.Read.remaining g.W.Write.contents c.loop-reads.writes_left c.serve_piece.new.left _ _ _ _ _ _ _ _ _ c.loop-reads.splitter.rest (take c.in-Ok.n c.read_once.new.piece) c.loop-reads.written c.in-WriteFault.count c.serve_piece.new.splitter h.heard c.in-Ok.ensures.bytes.0 sound h.writer_goes c.in-WriteFault.ensures.serves

pub returns-in-NoMemory : goal.returns-in-NoMemory
returns-in-NoMemory g c =
    let h = c.loop-reads.invariant in
    let sound = c.in-Ok.ensures.counts.1 ∙ h.reader_goes.sound in
    ends_no_memory g.R.Read.remaining g.W.Write.contents c.loop-reads.writes_left c.serve_piece.new.left _ _ _ _ _ _ _ _ _ c.loop-reads.splitter.rest (take c.in-Ok.n c.read_once.new.piece) c.loop-reads.written c.serve_piece.new.splitter h.heard c.in-Ok.ensures.bytes.0 sound c.in-NoMemory.ensures.serves

pub returns-in-Ok-eq0 : goal.returns-in-Ok-eq0
returns-in-Ok-eq0 g c = grind arith

pub returns-in-Err-Failed : goal.returns-in-Err-Failed
returns-in-Err-Failed g c = grind (arith, common_steps)

pub returns-then-reads_left-eq0 : goal.returns-then-reads_left-eq0
returns-then-reads_left-eq0 g c = grind (arith, common_steps)
