use Rattle.replies.proofs.ToldOfMessages.{ended_at_once, ended_of}
use Rattle.replies.proofs.pending.answer_job.Goals as goal

pub returns-in-Answered-clause-asks : goal.returns-in-Answered-clause-asks
returns-in-Answered-clause-asks g c =
    let b = c.in-Answered.ensures.begins in
    record {
      moment = b.moment;
      time = b.time;
      note = b.note;
      asked = b.asked;
      taken = b.taken;
      ends = ended_at_once c.args.seat.now c.begin_job.new.seat b.note c.in-Answered.answer b.becomes.0 b.seat b.becomes.1 b.becomes.2;
    }

pub returns-in-Pending-clause-asks : goal.returns-in-Pending-clause-asks
returns-in-Pending-clause-asks g c =
    let b = c.in-Pending.ensures.begins in
    record {
      moment = b.moment;
      time = b.time;
      note = b.note;
      asked = b.asked;
      taken = b.taken;
      ends = ended_of c.args.seat.now c.begin_job.new.seat c.confirm.new.seat b.note c.in-Pending.pending.note c.confirm.result b.becomes c.confirm.ensures.judged b.seat c.confirm.ensures.end;
    }
