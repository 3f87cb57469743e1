use Rattle.std.proofs.Common.{◌++◌, ◌∷◌, [], List, map, sym, ap, ◌∙◌, subst}
use Rattle.std.specs.Prelude.{All}
use Rattle.std.proofs.lemmas.List.{map-append}
use Rattle.std.proofs.lemmas.List.Elements.{All-push}
use Rattle.protocol.specs.World.{Station}
use Rattle.world.specs.Kept.{IsFresh}
use Rattle.world.specs.Stations.{station_of}
use Rattle.world.specs.declared.station.Station.{Station as Kept}
use Rattle.world.proofs.stations.add_opening_station.Goals as goal

pub returns-clause-opens : goal.returns-clause-opens
returns-clause-opens c =
    ap (map station_of) (c.push_reserved.ensures.items ∙ ap (λ (l : List Kept). l ++ c.in_ok-opening_station.field-0 ∷ []) c.in_ok-reserve.ensures.items)
    ∙ map-append station_of c.args.stations.now.items (c.in_ok-opening_station.field-0 ∷ [])
    ∙ ap (λ (s : Station). map station_of c.args.stations.now.items ++ s ∷ []) c.in_ok-opening_station.ensures.opens

pub returns-clause-fresh : goal.returns-clause-fresh
returns-clause-fresh c = λ kept.
    subst (All (IsFresh c.args.scheme.now)) (sym (c.push_reserved.ensures.items ∙ ap (λ (l : List Kept). l ++ c.in_ok-opening_station.field-0 ∷ []) c.in_ok-reserve.ensures.items))
    (All-push (IsFresh c.args.scheme.now) c.args.stations.now.items c.in_ok-opening_station.field-0 kept c.in_ok-opening_station.ensures.fresh)
