use Rattle.std.proofs.Common.{◌∙◌, List, length, map, refl, sym, ap, subst}
use Rattle.std.proofs.lemmas.Bool.{eqb-true}
use Rattle.std.proofs.lemmas.List.{length-map}
use Rattle.units.specs.declared.code.Node.{Node}
use Rattle.protocol.specs.World.{opening, run}
use Rattle.world.specs.Cores as node_cores
use Rattle.weave.specs.declared.cut.Rest.{Rest}
use Rattle.weave.proofs.CutOff.{is_cut, none_there, whole_world}
use Rattle.weave.proofs.Rests.{AreRests}
use Rattle.weave.proofs.cut.cut_cores.Goals as goal

pub returns-then-is_empty : goal.returns-then-is_empty
returns-then-is_empty g c =
    let scheme = c.args.scheme.now in
    let f = c.in_ok-world.field-0 in
    let js = map node_cores.journal_of c.args.cores.items in
    let count = length-map c.args.cores.items node_cores.journal_of ∙ sym (length-map c.args.cores.items node_cores.node_of) ∙ ap (λ (l : List Node). length l) c.requires.nodes in
    let among = c.as_slice.ensures.value ∙ c.in_ok-nodes.ensures in
    let rests = subst (λ (ns : List Node). AreRests f.world ns c.in_ok-rests.rests.items) among (c.in_ok-rests.ensures.nodes, c.in_ok-rests.ensures.each) in
    let empty = none_there c.in_ok-rests.rests.items (sym c.in_ok-rests.rests.ok.0 ∙ eqb-true c.in_ok-rests.rests.len 0 (sym c.if-is_empty.ensures)) in
    let none = sym (ap (map (λ (r : Rest). r.node)) empty) ∙ rests.0 in
    is_cut scheme js f c.in_ok-world.ensures.follows c.in_ok-world.ensures.done c.in_ok-world.ensures.whole count (record { events = f.events; world = f.world; rests = c.in_ok-rests.rests }) refl
    (whole_world scheme js f c.in_ok-world.ensures.follows c.in_ok-world.ensures.done c.in_ok-world.ensures.whole count none) rests

pub returns : goal.returns
returns g c =
    let scheme = c.args.scheme.now in
    let f = c.in_ok-world.field-0 in
    let js = map node_cores.journal_of c.args.cores.items in
    let count = length-map c.args.cores.items node_cores.journal_of ∙ sym (length-map c.args.cores.items node_cores.node_of) ∙ ap (λ (l : List Node). length l) c.requires.nodes in
    let among = c.as_slice.ensures.value ∙ c.in_ok-nodes.ensures in
    let rests = subst (λ (ns : List Node). AreRests f.world ns c.in_ok-rests.rests.items) among (c.in_ok-rests.ensures.nodes, c.in_ok-rests.ensures.each) in
    is_cut scheme js f c.in_ok-world.ensures.follows c.in_ok-world.ensures.done c.in_ok-world.ensures.whole count (record { events = f.events; world = c.into_world-world.result; rests = c.in_ok-rests.rests }) refl (c.into_world-world.ensures ∙ c.in_ok-reached.ensures.world ∙ ap (λ es. run (opening scheme) es) c.as_slice-2.ensures.value) rests
