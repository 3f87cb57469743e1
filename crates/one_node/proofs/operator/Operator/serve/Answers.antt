use Rattle.std.proofs.Common.{[], ◌∷◌, ◌++◌, ℕ, List, subst, sym}
use Rattle.protocol.specs.Input.{Input}
use Rattle.one_node.specs.Operating.{IsNext, Talks}
use Rattle.one_node.specs.declared.operator.Next.{Next}
use Rattle.one_node.proofs.Stepping.{begins, export_talks}
use Rattle.one_node.proofs.Turning.{talks_as, talks_followed, talks_none, talks_on}
use Rattle.one_node.proofs.operator.Operator.serve.Goals as goal

pub loop-init : goal.loop-init
loop-init g c = λ begun is. (begun, talks_none c.args.client.now.scheme.now c.args.client.now.node (g.N.Clock.tells c.args.client.now.network.now) (g.E.Exporter.holds c.args.exporter.now c.args.client.now.node) begun (g.I.Read.remaining c.args.reader.now) (g.W.Write.contents c.args.writer.now) c.args.self.now.count c.args.evidence.now, is)

pub loop-preserved : goal.loop-preserved
loop-preserved g c = λ begun is.
    let client = c.args.client.now in
    let scheme = client.scheme.now in
    let tells = g.N.Clock.tells client.network.now in
    let holds : List ℕ → List Input → Type 0 = g.E.Exporter.holds c.args.exporter.now client.node in
    let remaining = g.I.Read.remaining in
    let contents = g.W.Write.contents in
    let did = c.operate.new in
    let before = c.loop.invariant begun is in
    let more = c.in_ok-next.ensures.operates.talks before.0 before.2 in
    let asked = subst (λ (next : Next). IsNext did.self.line.held.items (remaining did.reader) more.0 next) c.in-Export.is more.2 in
    let first = talks_on scheme client.node tells holds begun before.0 more.0 (remaining c.args.reader.now) (remaining c.loop.reader) (remaining did.reader) (contents c.args.writer.now) (contents c.loop.writer) (contents did.writer) c.args.self.now.count c.loop.self.count did.self.count c.args.evidence.now c.loop.evidence did.evidence
    before.1 (talks_as scheme client.node tells holds before.0 (remaining c.loop.reader) (remaining did.reader) (contents c.loop.writer) (contents did.writer) c.loop.self.count did.self.count c.loop.evidence did.evidence more.0 more.1) in
    let exported = c.export.new in
    let second = talks_on scheme client.node tells holds begun more.0 more.0 (remaining c.args.reader.now) (remaining did.reader) (remaining did.reader) (contents c.args.writer.now) (contents did.writer) (contents did.writer) c.args.self.now.count did.self.count did.self.count c.args.evidence.now did.evidence exported.evidence
    first (talks_followed scheme client.node tells holds more.0 (remaining did.reader) (contents did.writer) did.self.count did.evidence exported.evidence c.in_ok-export-in-Export.ensures.followed) in (
      [],
      talks_on scheme client.node tells holds begun more.0 [] (remaining c.args.reader.now) (remaining did.reader) (remaining did.reader) (contents c.args.writer.now) (contents did.writer) (contents exported.writer) c.args.self.now.count did.self.count exported.self.count c.args.evidence.now exported.evidence exported.evidence
          second
          (subst (λ (bytes : List ℕ). Talks scheme client.node tells holds bytes (remaining did.reader) (remaining did.reader) (contents did.writer) (contents exported.writer) did.self.count exported.self.count exported.evidence exported.evidence []) (sym asked.0)
          (export_talks scheme client.node tells holds did.self.line.held.items (remaining did.reader) (contents did.writer) (contents exported.writer) did.self.count exported.self.count exported.evidence c.in_ok-export-in-Export.ensures.answered)),
      begins exported.self.line.held.items c.in_ok-export-in-Export.ensures.line,
    )

pub returns-in_default : goal.returns-in_default
returns-in_default g c = record {
  talks = λ begun is.
      let client = c.args.client.now in
      let scheme = client.scheme.now in
      let tells = g.N.Clock.tells client.network.now in
      let holds : List ℕ → List Input → Type 0 = g.E.Exporter.holds c.args.exporter.now client.node in
      let remaining = g.I.Read.remaining in
      let contents = g.W.Write.contents in
      let did = c.operate.new in
      let before = c.loop.invariant begun is in
      let more = c.in_ok-next.ensures.operates.talks before.0 before.2 in (
        more.0,
        talks_on scheme client.node tells holds begun before.0 more.0 (remaining c.args.reader.now) (remaining c.loop.reader) (remaining did.reader) (contents c.args.writer.now) (contents c.loop.writer) (contents did.writer) c.args.self.now.count c.loop.self.count did.self.count c.args.evidence.now c.loop.evidence did.evidence
            before.1 (talks_as scheme client.node tells holds before.0 (remaining c.loop.reader) (remaining did.reader) (contents c.loop.writer) (contents did.writer) c.loop.self.count did.self.count c.loop.evidence did.evidence more.0 more.1),
        more.2,
      );
}
