use Rattle.std.proofs.Common.{[], ◌∷◌, arith, inl, refl, subst, sym}
use Rattle.sessions.specs.Sending.{IsLast, IsReceivedBy}
use Rattle.sessions.specs.Threads.{AreOfThread}
use Rattle.sessions.specs.declared.sending.Sent.{Sent}
use Rattle.sessions.specs.declared.senders.PassEnd.TheVariants.{Unreachable}
use Rattle.sessions.proofs.SentMessages.{all_tried, passed, tried_more}
use Rattle.sessions.proofs.Taking.{after_sending}
use Rattle.sessions.proofs.senders.send_pass.Goals as goal

pub loop-init : goal.loop-init
loop-init g c = record { taken = c.requires; row = inl refl; tried = []; next = refl; tries = refl }

pub loop-preserved : goal.loop-preserved
loop-preserved g c =
    let to_send = g.D.SharedNode.is_to_send in
    let got = IsReceivedBy (g.N.Network.leads c.args.network.now) g.N.Reader.Read.remaining g.N.Writer.Write.contents in
    let tells = g.N.Clock.tells c.args.network.now in
    let did = c.send_next-sent.ensures in
    let sent = c.send_next-sent.result in
    record {
      taken = subst (AreOfThread to_send got tells) (sym c.forget_notes.ensures) (after_sending to_send got tells _ _ c.loop.seat c.send_next-sent.new.seat _ did.sends c.loop.invariant.taken);
      row = grind arith;
      tried = c.in-Received.key ∷ c.loop.invariant.tried;
      next = refl;
      tries =
          tried_more to_send got c.args.peer c.committed_sends-end.result c.loop.from c.in-Received.key c.args.seat.now c.loop.seat c.send_next-sent.new.seat c.forget_notes.new.self sent c.loop.invariant.tried
          c.loop.invariant.next c.loop.invariant.tries did.sends did.parted c.forget_notes.ensures c.in-Received.is;
    }

pub returns-in-Unreachable-clause-passes : goal.returns-in-Unreachable-clause-passes
returns-in-Unreachable-clause-passes g c =
    let to_send = g.D.SharedNode.is_to_send in
    let got = IsReceivedBy (g.N.Network.leads c.args.network.now) g.N.Reader.Read.remaining g.N.Writer.Write.contents in
    let did = c.send_next-sent.ensures in
    passed to_send got g.D.SharedNode.have_sent c.args.peer c.committed_sends-end.result c.loop.from c.args.seat.now c.loop.seat c.send_next-sent.new.seat c.forget_notes.new.self c.send_next-sent.result c.loop.invariant.tried Unreachable
    c.committed_sends-end.ensures c.loop.invariant.next c.loop.invariant.tries did.sends did.parted c.forget_notes.ensures (subst (λ (s : Sent). IsLast s Unreachable) (sym c.in-Unreachable.is) tt)

pub returns-in-Nothing-clause-passes : goal.returns-in-Nothing-clause-passes
returns-in-Nothing-clause-passes g c =
    let to_send = g.D.SharedNode.is_to_send in
    let got = IsReceivedBy (g.N.Network.leads c.args.network.now) g.N.Reader.Read.remaining g.N.Writer.Write.contents in
    let did = c.send_next-sent.ensures in
    passed to_send got g.D.SharedNode.have_sent c.args.peer c.committed_sends-end.result c.loop.from c.args.seat.now c.loop.seat c.send_next-sent.new.seat c.forget_notes.new.self c.send_next-sent.result c.loop.invariant.tried _
    c.committed_sends-end.ensures c.loop.invariant.next c.loop.invariant.tries did.sends did.parted c.forget_notes.ensures (all_tried c.send_next-sent.result c.in-Nothing.is)
