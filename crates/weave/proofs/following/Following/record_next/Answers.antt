use Rattle.std.proofs.Common.{ℕ, List, length, sym, ap, subst, ◌∙◌, arith}
use Rattle.std.specs.Prelude.{IfNone, IfSome}
use Rattle.weave.specs.Steps.{IsNextBy, Waits, whole_at, without_tails}
use Rattle.weave.specs.declared.following.Following.{Following}
use Rattle.protocol.proofs.NodeIndices.{index_within}
use Rattle.weave.proofs.Rounds.{rests, rests_nowhere, takes_fewer, takes_posting, takes_whole, whole_stations}
use Rattle.weave.proofs.following.Following.record_next.Goals as goal

pub returns-in_default-clause-follows : goal.returns-in_default-clause-follows
returns-in_default-clause-follows c =
    rests_nowhere c.args.scheme.now c.args.self.now c.args.node c.requires.follows c.requires.quiet (sym c.index_of.ensures ∙ c.in_default.is)

pub next_event-requires : goal.next_event-requires
next_event-requires c = c.requires.follows.follows.numbered

pub returns-in_default-2-clause-follows : goal.returns-in_default-2-clause-follows
returns-in_default-2-clause-follows c =
    let f : Following = c.args.self.now in
    rests c.args.scheme.now f c.args.node c.requires.follows c.requires.quiet (subst (λ o. IfNone o (Waits (without_tails f.world) (whole_at f.world) c.args.node)) c.in_default-2.is c.in_ok-event.ensures.none)

pub post_all-requires : goal.post_all-requires
post_all-requires c =
    let below = index_within c.args.scheme.now c.args.node c.in-Some.at (sym c.in-Some.ensures) in
    omega (arith, below, c.requires.follows.follows.counted, ap (λ (ks : List ℕ). length ks) c.in_ok-take.ensures.posted)

pub returns-clause-follows : goal.returns-clause-follows
returns-clause-follows c =
    let f : Following = c.args.self.now in
    let by : IsNextBy f.world c.args.node c.in-Some-2.event = subst (λ o. IfSome o (IsNextBy f.world c.args.node)) c.in-Some-2.is c.in_ok-event.ensures.some in
    c.in_ok-post_all.ensures.follows c.args.scheme.now (sym c.in-Some.ensures)
    (takes_posting c.args.scheme.now f c.take.new.self c.args.node c.in-Some-2.event c.in-Some.at c.requires.follows c.requires.quiet (sym c.in-Some.ensures) by c.in_ok-take.ensures)

pub returns-clause-whole : goal.returns-clause-whole
returns-clause-whole c n =
    let f : Following = c.args.self.now in
    let by : IsNextBy f.world c.args.node c.in-Some-2.event = subst (λ o. IfSome o (IsNextBy f.world c.args.node)) c.in-Some-2.is c.in_ok-event.ensures.some in
    whole_stations c.take.new.self.world c.post_all.new.self.world c.in_ok-post_all.ensures.stations n
    ∙ takes_whole c.args.scheme.now f c.take.new.self c.args.node c.in-Some-2.event c.in-Some.at c.requires.follows c.requires.quiet (sym c.in-Some.ensures) by c.in_ok-take.ensures n

pub returns-clause-fewer : goal.returns-clause-fewer
returns-clause-fewer c =
    let f : Following = c.args.self.now in
    let by : IsNextBy f.world c.args.node c.in-Some-2.event = subst (λ o. IfSome o (IsNextBy f.world c.args.node)) c.in-Some-2.is c.in_ok-event.ensures.some in
    takes_fewer c.args.scheme.now f c.take.new.self c.args.node c.in-Some-2.event c.in-Some.at c.requires.follows c.requires.quiet (sym c.in-Some.ensures) by c.in_ok-take.ensures c.post_all.new.self.world c.in_ok-post_all.ensures.stations
