use Rattle.std.proofs.Common.{◌≡◌, ◌+◌, arith, refl, sym, ap, ◌∙◌, [], inl, inr}
use Rattle.connections.proofs.LateOnes.{late_more, none_late}
use Rattle.connections.proofs.held.Held.end_late.Goals as goal

pub loop-init : goal.loop-init
loop-init c = ([], none_late c.args.now c.args.self.now.connections.waiting.entries, refl)

pub loop-preserved : goal.loop-preserved
loop-preserved c =
    let h = c.loop.invariant in
    let more =
    late_more c.args.now c.in-Some.number h.0 c.args.self.now.connections.waiting.entries c.loop.self.connections.waiting.entries c.look_at.new.self.connections.waiting.entries
    (sym c.in-Some.ensures) (c.look_at.ensures.gone refl) h.1 in
    (more.0, more.1, more.2 ∙ ap (λ n. n + 1) h.2)

pub returns-in-None : goal.returns-in-None
returns-in-None c = let h = c.loop.invariant in (h.0, h.1, inr (sym c.in-None.ensures))

pub returns : goal.returns
returns c =
    let h = c.loop.invariant in
    let same : c.loop.counter ≡ c.args.most = omega (arith, c.loop-test.false, c.loop.auto.counter-end) in
    (h.0, h.1, inl (h.2 ∙ same))
