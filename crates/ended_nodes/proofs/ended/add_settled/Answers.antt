use Rattle.std.proofs.Common.{◌≡◌, ◌∙◌, ◌++◌, ◌∷◌, ◌<◌, List, [], length, map, sym, ap, subst, arith}
use Rattle.std.specs.Prelude.{All}
use Rattle.std.proofs.lemmas.List.{length-map}
use Rattle.std.proofs.lemmas.List.Elements.{All-push}
use Rattle.units.specs.declared.code.Node.{Node}
use Rattle.protocol.specs.Registries.{nodes}
use Rattle.settling.specs.Settling.{IsSettled}
use Rattle.node_state.specs.Views.{StateView, SeatView, committed_records}
use Rattle.world.specs.Cores.{journal_of, node_of, scheme_of}
use Rattle.world.specs.declared.any_core.Core.{Core}
use Rattle.weave.proofs.Lists.{map_get}
use Rattle.weave.proofs.Replayed.{nodes_more}
use Rattle.ended_nodes.specs.Ended.{seats_in, states_in, stored_in}
use Rattle.ended_nodes.specs.Settled.{FailsToSettleAt}
use Rattle.ended_nodes.proofs.Settling.{fails_at, found_at, image_found, journals_more, settled_more}
use Rattle.ended_nodes.proofs.ended.add_settled.Goals as goal

pub returns-in-Err-clause-err : goal.returns-in-Err-clause-err
returns-in-Err-clause-err g c =
    let scheme = c.args.scheme.now in
    let at = c.loop-at.at in
    let helds = states_in c.args.ended.now in
    let node = c.index-ended-at.result in
    let held = node.stored.state in
    let seats = node.seats in
    let names : length c.args.names.now ≡ length (nodes scheme) = ap (λ (l : List Node). length l) c.requires.all in
    let low : at < length c.args.ended.now = omega (arith, c.loop-at-test.true, c.loop-at.auto.at-end) in
    let low_stored : at < length (stored_in c.args.ended.now) = omega (arith, low, length-map c.args.ended.now (λ e. e.stored)) in
    let is_stored = sym (map_get (λ e. e.stored) c.args.ended.now at node node.stored low c.index-ended-at.is) in
    fails_at scheme helds (seats_in c.args.ended.now) at c.index-names-at.result held seats.items c.in-Err.fault
    (found_at c.args.names.now (nodes scheme) at c.index-names-at.result c.requires.all c.index-names-at.is (omega (arith, low, names, c.requires.ended)))
    (image_found (λ s. s.state) (stored_in c.args.ended.now) at node.stored is_stored low_stored)
    (image_found (λ e. e.seats.items) c.args.ended.now at node c.index-ended-at.is low)
    c.loop-at.invariant.settled
    (subst (λ (hs : List SeatView). FailsToSettleAt scheme c.index-names-at.result held hs c.in-Err.fault) c.as_slice.ensures.value
    (subst (λ (h : StateView). FailsToSettleAt scheme c.index-names-at.result h c.as_slice.result.now c.in-Err.fault) c.state.ensures.state c.in-Err.ensures.err))

pub loop-at-preserved : goal.loop-at-preserved
loop-at-preserved g c =
    let scheme = c.args.scheme.now in
    let at = c.loop-at.at in
    let helds = states_in c.args.ended.now in
    let node = c.index-ended-at.result in
    let held = node.stored.state in
    let seats = node.seats in
    let core = c.in-Ok.core in
    let kept = c.loop-at.invariant in
    let pushed = c.push_reserved.ensures.items ∙ ap (λ (l : List Core). l ++ core ∷ []) c.reserve.ensures.items in
    let names : length c.args.names.now ≡ length (nodes scheme) = ap (λ (l : List Node). length l) c.requires.all in
    let low : at < length c.args.ended.now = omega (arith, c.loop-at-test.true, c.loop-at.auto.at-end) in
    let low_stored : at < length (stored_in c.args.ended.now) = omega (arith, low, length-map c.args.ended.now (λ e. e.stored)) in
    let is_stored = sym (map_get (λ e. e.stored) c.args.ended.now at node node.stored low c.index-ended-at.is) in
    let below : at < length helds = omega (arith, low_stored, length-map (stored_in c.args.ended.now) (λ s. s.state)) in
    let named = found_at c.args.names.now (nodes scheme) at c.index-names-at.result c.requires.all c.index-names-at.is (omega (arith, low, names, c.requires.ended)) in
    let same = map_get (λ s. s.state) (stored_in c.args.ended.now) at node.stored held low_stored is_stored in
    record {
      settled =
          settled_more scheme helds (seats_in c.args.ended.now) at c.index-names-at.result held seats.items named
          (image_found (λ s. s.state) (stored_in c.args.ended.now) at node.stored is_stored low_stored)
          (image_found (λ e. e.seats.items) c.args.ended.now at node c.index-ended-at.is low)
          (subst (λ (hs : List SeatView). IsSettled scheme c.index-names-at.result held hs) c.as_slice.ensures.value
          (subst (λ (h : StateView). IsSettled scheme c.index-names-at.result h c.as_slice.result.now) c.state.ensures.state c.in-Ok.ensures.ok)) kept.settled;
      nodes_are = ap (map node_of) pushed ∙ nodes_more c.loop-at.cores.items core (nodes scheme) at c.index-names-at.result kept.nodes_are c.in-Ok.ensures.node named;
      schemes = subst (All (λ (it : Core). scheme_of it ≡ scheme)) (sym pushed) (All-push (λ (it : Core). scheme_of it ≡ scheme) c.loop-at.cores.items core kept.schemes c.in-Ok.ensures.scheme);
      journals = ap (map journal_of) pushed ∙ journals_more c.loop-at.cores.items core helds at held below (sym same) kept.journals (c.in-Ok.ensures.journal ∙ ap committed_records c.state.ensures.state);
    }

pub returns-clause-ok : goal.returns-clause-ok
returns-clause-ok g c = λ k m held seats under. c.loop-at.invariant.settled k m held seats (omega (arith, under, c.loop-at-test.false, c.loop-at.auto.at-end, length-map c.args.ended.now (λ e. e.stored), length-map (stored_in c.args.ended.now) (λ s. s.state)))
