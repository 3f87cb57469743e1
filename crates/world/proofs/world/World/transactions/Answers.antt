use Rattle.std.proofs.Common.{arith, ◌++◌, List, map, sym, ap, ◌∙◌}
use Rattle.std.proofs.lemmas.Grind.{common_steps}
use Rattle.std.proofs.Common.{append-nil, flat_map, take}
use Rattle.units.specs.declared.code.Node.TheVariants.{Registry}
use Rattle.scheme.specs.declared.members.SchemeRegistry.{SchemeRegistry}
use Rattle.protocol.specs.Claims.{live_of}
use Rattle.protocol.specs.History.{Entry}
use Rattle.protocol.specs.Table.{ProposedTransfer, proposed}
use Rattle.registry_core.specs.Registry as registries
use Rattle.world.specs.Transfers.{transfer_of}
use Rattle.world.proofs.GrowingViews.{flat_map_next}
use Rattle.world.proofs.RegistriesInWorlds.{registry_is}
use Rattle.world.proofs.world.World.transactions.Goals.{in-Some+in_ok-add_all_proposed, in_default}
use Rattle.world.proofs.world.World.transactions.Goals as goal

pub loop-member-preserved : goal.loop-member-preserved
loop-member-preserved c =
    let world = c.args.self.now in
    let of = λ (m : SchemeRegistry). proposed (live_of world (Registry m.code)) in
    let ms = c.registries-member-items.result.now in
    let i = c.loop-member.member-index in
    let m = c.member-item.result in
    let next = sym (flat_map_next of ms i m c.loop-member-test.true c.member-item.is) in
    let before = flat_map of (take i ms) in
    elim c.match-registry.branch [
      | in-Some+in_ok-add_all_proposed w ↦
          ap (λ v. map transfer_of v.items) w.transfers-is
          ∙ w.in_ok-add_all_proposed.ensures
          ∙ ap (λ (l : List ProposedTransfer). l ++ proposed (registries.past w.in-Some.core.now)) c.loop-member.invariant
          ∙ ap (λ (r : registries.RegistryCoreView). before ++ proposed (registries.past r)) (registry_is world m.code w.in-Some.core.now w.in-Some.ensures.core)
          ∙ next
      | in_default w ↦
          ap (λ v. map transfer_of v.items) w.transfers-is
          ∙ c.loop-member.invariant
          ∙ sym (append-nil before)
          ∙ sym (ap (λ (es : List Entry). before ++ proposed es) w.in_default.ensures.none)
          ∙ next
    ]

pub returns : goal.returns
returns c = grind (arith, common_steps)
