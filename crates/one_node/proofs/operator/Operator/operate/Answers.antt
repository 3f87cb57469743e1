use Rattle.std.proofs.Common.{subst}
use Rattle.one_node.specs.Operating.{IsNext, held_nowhere}
use Rattle.one_node.specs.declared.operator.Next.{Next}
use Rattle.one_node.proofs.Turning.{talks_followed, talks_none, talks_on}
use Rattle.one_node.proofs.operator.Operator.operate.Goals as goal

pub loop-init : goal.loop-init
loop-init g c = λ begun is. (begun, talks_none c.args.client.now.scheme.now c.args.client.now.node (g.N.Clock.tells c.args.client.now.network.now) held_nowhere begun (g.I.Read.remaining c.args.reader.now) (g.W.Write.contents c.args.writer.now) c.args.self.now.count c.args.evidence.now, is)

pub loop-preserved : goal.loop-preserved
loop-preserved g c = λ begun is.
    let client = c.args.client.now in
    let tells = g.N.Clock.tells client.network.now in
    let remaining = g.I.Read.remaining in
    let contents = g.W.Write.contents in
    let before = c.loop.invariant begun is in
    let more = c.in_ok-next.ensures.talks before.0 before.2 in
    let kept = talks_on client.scheme.now client.node tells held_nowhere begun before.0 before.0 (remaining c.args.reader.now) (remaining c.loop.reader) (remaining c.loop.reader) (contents c.args.writer.now) (contents c.loop.writer) (contents c.loop.writer) c.args.self.now.count c.loop.self.count c.loop.self.count c.args.evidence.now c.loop.evidence c.keep_few.new.self
    before.1 (talks_followed client.scheme.now client.node tells held_nowhere before.0 (remaining c.loop.reader) (contents c.loop.writer) c.loop.self.count c.loop.evidence c.keep_few.new.self c.in_ok-keep_few.ensures) in (
      more.0,
      talks_on client.scheme.now client.node tells held_nowhere begun before.0 more.0 (remaining c.args.reader.now) (remaining c.loop.reader) (remaining c.step.new.reader) (contents c.args.writer.now) (contents c.loop.writer) (contents c.step.new.writer) c.args.self.now.count c.loop.self.count c.step.new.self.count c.args.evidence.now c.keep_few.new.self c.step.new.evidence
          kept more.1,
      subst (λ (next : Next). IsNext c.step.new.self.line.held.items (remaining c.step.new.reader) more.0 next) c.in-On.is more.2,
    )

pub returns-in_default : goal.returns-in_default
returns-in_default g c = record {
  operates = record {
    talks = λ begun is.
        let client = c.args.client.now in
        let tells = g.N.Clock.tells client.network.now in
        let remaining = g.I.Read.remaining in
        let contents = g.W.Write.contents in
        let before = c.loop.invariant begun is in
        let more = c.in_ok-next.ensures.talks before.0 before.2 in
        let kept = talks_on client.scheme.now client.node tells held_nowhere begun before.0 before.0 (remaining c.args.reader.now) (remaining c.loop.reader) (remaining c.loop.reader) (contents c.args.writer.now) (contents c.loop.writer) (contents c.loop.writer) c.args.self.now.count c.loop.self.count c.loop.self.count c.args.evidence.now c.loop.evidence c.keep_few.new.self
        before.1 (talks_followed client.scheme.now client.node tells held_nowhere before.0 (remaining c.loop.reader) (contents c.loop.writer) c.loop.self.count c.loop.evidence c.keep_few.new.self c.in_ok-keep_few.ensures) in (
          more.0,
          talks_on client.scheme.now client.node tells held_nowhere begun before.0 more.0 (remaining c.args.reader.now) (remaining c.loop.reader) (remaining c.step.new.reader) (contents c.args.writer.now) (contents c.loop.writer) (contents c.step.new.writer) c.args.self.now.count c.loop.self.count c.step.new.self.count c.args.evidence.now c.keep_few.new.self c.step.new.evidence
              kept more.1,
          more.2,
        );
  };
  asks = c.in_ok-next.ensures.asks;
}
