use Rattle.sessions.proofs.SentMessages.{received_by}
use Rattle.sessions.proofs.delivery.Outgoing.deliver.Goals as goal

pub invariant_of-result : goal.invariant_of-result
invariant_of-result g c = received_by (g.N.Network.leads c.args.self.now.network.now) g.N.Reader.Read.remaining g.N.Writer.Write.contents c.args.self.now.peer c.args.self.now.message.now c.in-Some.reader c.in-Some.writer _ c.deliver_over.new.reader _ c.deliver_over.new.writer c.in-Some.ensures c.new-reader.ensures c.new-writer.ensures c.in-Ok.ensures.exchange

pub returns-in-Ok-clause-received : goal.returns-in-Ok-clause-received
returns-in-Ok-clause-received g c = received_by (g.N.Network.leads c.args.self.now.network.now) g.N.Reader.Read.remaining g.N.Writer.Write.contents c.args.self.now.peer c.args.self.now.message.now c.in-Some.reader c.in-Some.writer _ c.deliver_over.new.reader _ c.deliver_over.new.writer c.in-Some.ensures c.new-reader.ensures c.new-writer.ensures c.in-Ok.ensures.exchange
