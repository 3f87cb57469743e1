use Rattle.std.proofs.Common.{◌≡◌, ◌∙◌, [], ap, refl, subst, sym}
use Rattle.units.specs.declared.code.Node.{Node}
use Rattle.node_state.specs.Views.{StateView, committed_records}
use Rattle.desk.specs.Keeping.{IsToSend}
use Rattle.sessions.specs.Sending.{IsReceivedBy}
use Rattle.sessions.specs.Threads.{IsOfThread}
use Rattle.settling.specs.Replicas.{ReplicaView}
use Rattle.one_node.specs.Lives.{IsLife, opens_with}
use Rattle.one_node.specs.Operating.{IsNext}
use Rattle.one_node.specs.declared.operator.Next.{Next}
use Rattle.one_node.proofs.Ending.{life_of}
use Rattle.one_node.proofs.Stepping.{begins}
use Rattle.one_node.proofs.living.live.Goals as goal

pub returns-in-Ok-clause-life : goal.returns-in-Ok-clause-life
returns-in-Ok-clause-life g c =
    let scheme = c.args.setting.now.scheme.now in
    let network = c.args.setting.now.network.now in
    let tells = g.N.Clock.tells network in
    let loaded = c.args.loaded.state in
    let node : Node = c.node-node.result in
    let same : node ≡ loaded.node = c.node-node.ensures ∙ ap (λ (h : StateView). h.node) c.state.ensures.state in
    let takes = IsOfThread (IsToSend g.N.Store.NodeStore g.K.Opening.opened) (IsReceivedBy (g.N.Network.leads network) g.N.Reader.Read.remaining g.N.Writer.Write.contents) tells in
    let start = c.new-evidence in
    let ended = c.in_ok-stored-in-Ok in
    let ran = c.run_desk-ran.new in
    let operator = c.in_ok-operator.operator in
    let empty : operator.line.held.items ≡ [] = c.in_ok-operator.ensures.line in
    let talked = c.in-Ok.ensures.talks.talks [] (begins operator.line.held.items empty) in
    let asked = subst (λ (next : Next). IsNext ran.operator.line.held.items (g.I.Read.remaining ran.reader) talked.0 next) ended.ensures.asked talked.2 in
    subst (λ (n : Node). IsLife scheme n tells takes (g.E.Exporter.holds c.args.exporter.now n) loaded.journal (committed_records ended.stored.state) (g.I.Read.remaining c.args.reader.now) (g.I.Read.remaining ran.reader) (g.W.Write.contents c.args.writer.now) (g.W.Write.contents c.write_end.new.writer)) same
    (life_of scheme node tells takes (g.E.Exporter.holds c.args.exporter.now node) start.result start.ensures.seat start.ensures.judged
    (ap (λ (r : ReplicaView). r.scheme) start.ensures.replica ∙ c.in_ok-new.ensures.0) (ap (λ (r : ReplicaView). r.node) start.ensures.replica ∙ c.in_ok-new.ensures.1)
    g.N.Store.NodeStore g.K.Opening.opened loaded.journal (λ its m journal faults is. subst (λ (n : Node). opens_with scheme n loaded.journal its m journal faults) (sym same) (c.requires.opens its m journal faults is))
    ended.stored c.in-Ok.remains.threads.items c.in-Ok.remains.evidence ended.ensures.ends c.in-Ok.ensures.none c.in-Ok.ensures.taken
    (g.I.Read.remaining c.args.reader.now) (g.I.Read.remaining ran.reader) (g.W.Write.contents c.args.writer.now) (g.W.Write.contents ran.writer) (g.W.Write.contents c.write_end.new.writer) operator.count ran.operator.count talked.0 c.in_ok-operator.ensures.count talked.1 asked c.in_ok-write_end-in-Ok.ensures)
