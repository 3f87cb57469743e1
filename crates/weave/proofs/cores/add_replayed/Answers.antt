use Rattle.std.proofs.Common.{◌≡◌, ◌++◌, ◌∷◌, ◌<◌, ◌∙◌, Bor, List, [], Some, length, map, sym, ap, subst, arith, length-append}
use Rattle.std.proofs.lemmas.Grind.{common_steps, elements}
use Rattle.std.specs.Prelude.{All, slice_get}
use Rattle.std.proofs.lemmas.List.{length-map, map-append}
use Rattle.std.proofs.lemmas.List.Elements.{All-push}
use Rattle.units.specs.declared.code.Node.{Node}
use Rattle.wire.specs.declared.input.Input.{Input}
use Rattle.protocol.specs.Registries.{nodes}
use Rattle.world.specs.Cores as node_cores
use Rattle.world.specs.declared.any_core.Core.{Core}
use Rattle.weave.proofs.Lists.{get_at, image_at}
use Rattle.weave.proofs.Replayed.{AreAheadSoFar, ahead_more, nodes_more}
use Rattle.weave.proofs.cores.add_replayed.Goals as goal

pub loop-at-preserved : goal.loop-at-preserved
loop-at-preserved c =
    let kept = c.loop-at.invariant in
    let core = c.in_ok-replayed_one.field-0 in
    let pushed = c.push_reserved.ensures.items ∙ ap (λ (l : List Core). l ++ core ∷ []) c.in_ok-reserve.ensures.items in
    let names = c.requires.all in
    let below : c.loop-at.at < length c.args.names.now = c.loop-at-test.true in
    let named : slice_get (nodes c.args.scheme.now) c.loop-at.at ≡ Some c.index-names-at.result =
    ap (λ (ns : List Node). slice_get ns c.loop-at.at) (sym names) ∙ get_at c.args.names.now c.loop-at.at c.index-names-at.result below ∙ ap Some (sym c.index-names-at.is) in
    let journal : slice_get (map (λ (j : Bor (List Input)). j.now) c.args.journals.now) c.loop-at.at ≡ Some c.index-journals-at.result.now =
    image_at (λ (j : Bor (List Input)). j.now) c.args.journals.now c.loop-at.at c.index-journals-at.result (omega (arith, below, c.requires.as_many, ap (λ (ns : List Node). length ns) names)) ∙ ap (λ (j : Bor (List Input)). Some j.now) (sym c.index-journals-at.is) in
    let count = length-map c.loop-at.cores.items node_cores.journal_of ∙ kept.count in
    record {
      nodes_are = ap (map node_cores.node_of) pushed ∙ nodes_more c.loop-at.cores.items core (nodes c.args.scheme.now) c.loop-at.at c.index-names-at.result kept.nodes_are c.in_ok-replayed_one.ensures.node named;
      schemes = subst (All (λ (core : Core). node_cores.scheme_of core ≡ c.args.scheme.now)) (sym pushed)
          (All-push (λ (core : Core). node_cores.scheme_of core ≡ c.args.scheme.now) c.loop-at.cores.items core kept.schemes c.in_ok-replayed_one.ensures.scheme);
      ahead = subst (AreAheadSoFar c.args.scheme.now (map (λ (j : Bor (List Input)). j.now) c.args.journals.now)) (sym (ap (map node_cores.journal_of) pushed ∙ map-append node_cores.journal_of c.loop-at.cores.items (core ∷ [])))
          (ahead_more c.args.scheme.now (map (λ (j : Bor (List Input)). j.now) c.args.journals.now) (map node_cores.journal_of c.loop-at.cores.items) c.loop-at.at c.index-names-at.result c.index-journals-at.result.now (node_cores.journal_of core) count named journal
          c.in_ok-replayed_one.ensures.ahead kept.ahead);
      count = omega (arith, ap (λ (l : List Core). length l) pushed, length-append c.loop-at.cores.items (core ∷ []), kept.count);
    }

pub returns-clause-nodes : goal.returns-clause-nodes
returns-clause-nodes c = grind (arith, elements)

pub returns-clause-ahead : goal.returns-clause-ahead
returns-clause-ahead c = grind (arith, common_steps)
