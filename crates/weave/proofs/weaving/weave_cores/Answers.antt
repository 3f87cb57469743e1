use Rattle.std.proofs.Common.{◌∙◌, List, length, map, sym, ap}
use Rattle.std.proofs.lemmas.List.{length-map}
use Rattle.units.specs.declared.code.Node.{Node}
use Rattle.world.specs.Cores as node_cores
use Rattle.world.specs.declared.any_core.Core.{Core}
use Rattle.weave.proofs.Replayed.{ahead_all, counts_twice}
use Rattle.weave.proofs.weaving.weave_cores.Goals as goal

pub returns-clause-ok : goal.returns-clause-ok
returns-clause-ok g c =
    let count = length-map c.args.cores.items node_cores.journal_of ∙ sym (length-map c.args.cores.items node_cores.node_of) ∙ ap (λ (l : List Node). length l) c.requires.nodes in
    c.weave_on.ensures.ok (map node_cores.journal_of c.args.cores.items) (c.as_slice-2.ensures.value ∙ c.in_ok-counts.ensures ∙ ap (map (λ (core : Core). length (node_cores.journal_of core))) c.as_slice.ensures.value ∙ counts_twice c.args.cores.items)
    (ahead_all c.args.scheme.now (map node_cores.journal_of c.args.cores.items) count)

pub returns-clause-err : goal.returns-clause-err
returns-clause-err g c =
    let count = length-map c.args.cores.items node_cores.journal_of ∙ sym (length-map c.args.cores.items node_cores.node_of) ∙ ap (λ (l : List Node). length l) c.requires.nodes in
    c.weave_on.ensures.err (map node_cores.journal_of c.args.cores.items) (c.as_slice-2.ensures.value ∙ c.in_ok-counts.ensures ∙ ap (map (λ (core : Core). length (node_cores.journal_of core))) c.as_slice.ensures.value ∙ counts_twice c.args.cores.items)
    (ahead_all c.args.scheme.now (map node_cores.journal_of c.args.cores.items) count)
