use Rattle.std.proofs.Common.{◌∙◌, List, length, map, sym, ap}
use Rattle.std.proofs.lemmas.List.{length-map}
use Rattle.units.specs.declared.code.Node.{Node}
use Rattle.world.specs.Cores as node_cores
use Rattle.loading.proofs.runs.find_run.Goals as goal

pub returns-clause-journals : goal.returns-clause-journals
returns-clause-journals g c =
    let count = length-map c.args.cores.items node_cores.journal_of ∙ sym (length-map c.args.cores.items node_cores.node_of) ∙ ap (λ (l : List Node). length l) c.requires.nodes in
    c.cores_of_woven.ensures.journals c.args.scheme.now (map node_cores.journal_of c.args.cores.items) count c.weave_cores.ensures.ok

pub returns-clause-err : goal.returns-clause-err
returns-clause-err g c = c.cores_of_woven.ensures.err c.args.scheme.now (map node_cores.journal_of c.args.cores.items) c.weave_cores.ensures.err

pub returns-clause-nodes : goal.returns-clause-nodes
returns-clause-nodes g c = c.cores_of_woven.ensures.nodes c.args.scheme.now (map node_cores.journal_of c.args.cores.items) c.weave_cores.ensures.ok

pub returns-clause-schemes : goal.returns-clause-schemes
returns-clause-schemes g c = c.cores_of_woven.ensures.schemes c.args.scheme.now (map node_cores.journal_of c.args.cores.items) c.weave_cores.ensures.ok
