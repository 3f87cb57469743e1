use Rattle.std.proofs.Common.{ap, subst₂, sym, ◌∙◌}
use Rattle.sessions.specs.Serving.{IsRepliedTo}
use Rattle.sessions.proofs.GivenBack.{replied_to}
use Rattle.sessions.proofs.session_threads.serve_one.Goals as goal

pub returns-in-PeerEnded-clause-replied : goal.returns-in-PeerEnded-clause-replied
returns-in-PeerEnded-clause-replied g c =
    let remaining = g.Rd.Read.remaining in
    let contents = g.Wr.Write.contents in
    let reader = c.args.reader in
    let writer = c.args.writer in
    let back = replied_to (λ u. u.inner) remaining contents _ _ _ _ _ _ reader writer (ap (λ v. v.inner.inner) c.new-reader.ensures ∙ c.new.ensures.inner) (ap (λ v. v.inner) c.new-writer.ensures) c.in-PeerEnded.ensures in
    subst₂ (IsRepliedTo remaining contents reader writer) (sym (c.into_inner-in-PeerEnded.ensures ∙ ap (λ u. u.inner) c.into_inner.ensures)) (sym c.into_inner-in-PeerEnded-2.ensures) back
