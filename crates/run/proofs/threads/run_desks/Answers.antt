use Rattle.std.proofs.Common.{◌≡◌, ◌∙◌, sym, subst}
use Rattle.sessions.specs.Sending.{IsReceivedBy}
use Rattle.sessions.specs.Threads.{AreOfThread}
use Rattle.run.proofs.Wired.{all_taken}
use Rattle.run.proofs.Written.{both_ok}
use Rattle.run.proofs.threads.run_desks.Goals as goal

pub returns-clause-taken : goal.returns-clause-taken
returns-clause-taken g c =
    let network = c.args.network.now in
    let nodes = c.in_ok-nodes.nodes in
    both_ok c.run_beside.result
    (λ heard len each. all_taken nodes.items (λ n. n.network.now ≡ network)
    (λ n. AreOfThread g.D.SharedNode.is_to_send (IsReceivedBy (g.N.Network.leads n.network.now) g.N.Reader.Read.remaining g.N.Writer.Write.contents) (g.N.Clock.tells n.network.now))
    (AreOfThread g.D.SharedNode.is_to_send (IsReceivedBy (g.N.Network.leads network) g.N.Reader.Read.remaining g.N.Writer.Write.contents) (g.N.Clock.tells network))
    (λ n alike s is. subst (λ net. AreOfThread g.D.SharedNode.is_to_send (IsReceivedBy (g.N.Network.leads net) g.N.Reader.Read.remaining g.N.Writer.Write.contents) (g.N.Clock.tells net) s) alike is) c.in_ok-nodes.ensures.network heard.threads.items
    (sym heard.threads.ok.0 ∙ len ∙ nodes.ok.0) each)
    c.run_beside.ensures.len c.run_beside.ensures.taken
