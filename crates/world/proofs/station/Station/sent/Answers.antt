use Rattle.std.proofs.Common.{None, sym, subst, ◌<◌, ◌≤◌, ◌∙◌, take}
use Rattle.std.proofs.lemmas.Bool.{cond-false, cond-true}
use Rattle.std.specs.Prelude.{slice_get}
use Rattle.protocol.specs.History.{sends}
use Rattle.protocol.specs.Verdict.{history}
use Rattle.protocol.proofs.Histories.{sent_so}
use Rattle.world.specs.Cores.{journal_of, node_of, scheme_of}
use Rattle.world.proofs.TailsOfJournals.{beyond}
use Rattle.world.proofs.station.Station.sent.Goals.{else-self-via-then-self+else-key-sent_by, else-self-via-else-self}
use Rattle.world.proofs.station.Station.sent.Goals as goal

pub returns-then-key-sent_by : goal.returns-then-key-sent_by
returns-then-key-sent_by c =
    let k = c.args.self.now.core in
    c.outbox.ensures
    ∙ sent_so (scheme_of k) (node_of k) (journal_of k) c.args.self.now.committed c.args.key (subst (λ n. c.args.key < n) c.sent_by.ensures c.if-key-sent_by.true)
    ∙ sym (cond-true c.args.self.now.runs (slice_get (sends (history (scheme_of k) (node_of k) (take c.args.self.now.committed (journal_of k)))) c.args.key) None c.if-self.true)

pub returns-else-self : goal.returns-else-self
returns-else-self c =
    let k = c.args.self.now.core in
    let message = slice_get (sends (history (scheme_of k) (node_of k) (take c.args.self.now.committed (journal_of k)))) c.args.key in
    elim c.else-self.branch [
      | else-self-via-then-self+else-key-sent_by w ↦
          sym (cond-true c.args.self.now.runs message None w.if-self.true
          ∙ beyond (sends (history (scheme_of k) (node_of k) (take c.args.self.now.committed (journal_of k)))) c.args.key (subst (λ n. n ≤ c.args.key) w.sent_by.ensures w.if-key-sent_by.false))
      | else-self-via-else-self w ↦ sym (cond-false c.args.self.now.runs message None w.if-self.false)
    ]
