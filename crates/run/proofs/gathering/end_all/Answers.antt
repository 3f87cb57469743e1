use Rattle.std.proofs.Common.{◌≡◌, ◌∙◌, ◌<◌, ◌+◌, ◌++◌, ◌∷◌, [], Option, get_or, length, map, take, refl, sym, ap, subst, arith, length-append}
use Rattle.std.specs.Option.{option_to_list}
use Rattle.std.specs.Prelude.{All}
use Rattle.std.proofs.lemmas.List.{length-map, map-append}
use Rattle.std.proofs.lemmas.List.Elements.{All-nil, All-push}
use Rattle.std.proofs.lemmas.Result.{err_from_is_err_and}
use Rattle.node_state.specs.Views.{SeatView}
use Rattle.sessions.specs.Orders.{HasOnly}
use Rattle.ended_nodes.specs.Ended.{stored_in}
use Rattle.serving.specs.Ends.{EndsWell}
use Rattle.run.proofs.Collected.{gathered_more, rest_more, such_left}
use Rattle.run.proofs.Wired.{part_is, part_more, part_of_part, part_whole}
use Rattle.run.proofs.gathering.end_all.Goals as goal

pub loop-desk-init : goal.loop-desk-init
loop-desk-init g c =
    rw (c.new-ended.ensures.items, c.into_iter-desk-iterator.ensures.into_iter_gives.0, c.into_iter-script.ensures.rest, c.into_iter-threads.ensures.rest)
    (record {
      names = refl;
      well = All-nil (EndsWell g.S.NodeStore g.K.Opening.opened);
      count = omega (arith, c.requires.desks, c.args.desks.ok.0);
      rest = refl;
      each = λ k s h under. absurd (omega (arith, under));
      such = c.requires.threads;
    })

pub end_node-requires : goal.end_node-requires
end_node-requires g c =
    (such_left (HasOnly g.K.Taking.takes) c.loop-desk.threads.rest.items c.next-in-loop-desk.new.self.rest.items c.next-in-loop-desk.result c.next-in-loop-desk.ensures.items c.loop-desk.invariant.such).0

pub loop-desk-preserved : goal.loop-desk-preserved
loop-desk-preserved g c =
    let kept = c.loop-desk.invariant in
    let step = c.in-Some.ensures.steps.0 in
    let ended = c.loop-desk.ended.items in
    let new = c.push.new.nodes.items in
    let node = c.in-Ok.node in
    let pushed = c.in_ok-push-in-Ok.ensures in
    let ends = EndsWell g.S.NodeStore g.K.Opening.opened in
    let heard = c.in-Ok.ensures.seats in
    let rest = c.loop-desk.script.rest.items in
    let next = c.next-in-loop-desk-2.new.self.rest.items in
    let taken : rest ≡ heard.0 ∷ next = subst (λ (found : Option SeatView). rest ≡ option_to_list found ++ next) heard.1 c.next-in-loop-desk-2.ensures.items in
    let longer : length new ≡ length ended + 1 = omega (arith, ap (λ l. length l) pushed, length-append ended (node ∷ [])) in
    let low : length ended < length c.args.names.now = omega (arith, ap (λ l. length l) step, kept.count) in
    let at : c.len.result ≡ length ended = c.len.ensures ∙ c.loop-desk.ended.ok.0 in
    let own : node.stored.state.node ≡ get_or c.args.names.now (length ended) node.stored.state.node =
    part_is c.args.names.now (length ended) node.stored.state.node c.index-names-len.result c.in-Ok.ensures.node
    (subst (λ k. c.index-names-len.result ≡ get_or c.args.names.now k c.index-names-len.result) at c.index-names-len.is) in
    record {
      names = subst (λ n. map (λ e. e.stored.state.node) new ≡ take n c.args.names.now) (sym longer)
          (part_more (λ e. e.stored.state.node) ended node new c.args.names.now (length ended) pushed low kept.names own);
      well = subst (All ends) (sym (ap stored_in pushed ∙ map-append (λ e. e.stored) ended (node ∷ []))) (All-push ends (stored_in ended) node.stored kept.well c.in-Ok.ensures.well);
      count = omega (arith, longer, ap (λ l. length l) step, kept.count);
      rest = rest_more g.K.Taking.takes (λ e. e.seats.items) c.args.script.items ended node heard.0 rest next kept.rest taken new pushed;
      each = gathered_more g.K.Taking.takes (λ e. e.seats.items) c.args.script.items ended node heard.0 rest next kept.rest taken new pushed heard.2 kept.each;
      such = (such_left (HasOnly g.K.Taking.takes) c.loop-desk.threads.rest.items c.next-in-loop-desk.new.self.rest.items c.next-in-loop-desk.result c.next-in-loop-desk.ensures.items kept.such).1;
    }

pub returns-clause-ended : goal.returns-clause-ended
returns-clause-ended g c =
    let kept = c.loop-desk.invariant in
    let rest = c.loop-desk.desk-iterator.rest in
    let none : length rest.items ≡ 0 = sym rest.ok.0 ∙ c.in-None.ensures.steps.0 in
    let ended = c.loop-desk.ended.items in
    let all : length c.args.names.now ≡ length ended = omega (arith, kept.count, none) in
    λ scheme is. record {
      nodes_are = part_of_part (λ s. s.state.node) (λ e. e.stored) ended ∙ part_whole (λ e. e.stored.state.node) ended c.args.names.now (length ended) kept.names all ∙ is;
      well = kept.well;
    }

pub returns-clause-seats : goal.returns-clause-seats
returns-clause-seats g c =
    let kept = c.loop-desk.invariant in
    let rest = c.loop-desk.desk-iterator.rest in
    let none : length rest.items ≡ 0 = sym rest.ok.0 ∙ c.in-None.ensures.steps.0 in
    let ended = c.loop-desk.ended.items in
    let all : length ended ≡ length c.args.script.items = omega (arith, kept.count, none, c.requires.script, c.args.script.ok.0) in
    record {
      count = omega (arith, length-map ended (λ e. e.seats.items), all);
      each = λ k s h under. kept.each k s h (omega (arith, under, all));
    }

pub returns-in_err-push-in-Ok-clause-err : goal.returns-in_err-push-in-Ok-clause-err
returns-in_err-push-in-Ok-clause-err g c = λ scheme.
    let p = err_from_is_err_and c.from_residual.result c.from_residual.ensures.1 in
    rw (p.1, p.2) tt

pub returns-in-Err-clause-err : goal.returns-in-Err-clause-err
returns-in-Err-clause-err g c = c.in-Err.ensures.err
