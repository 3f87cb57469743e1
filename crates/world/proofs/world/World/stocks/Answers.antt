use Rattle.std.proofs.Common.{arith, ◌≡◌, ◌∙◌, ◌+◌, List, true, false, is_some, refl, sym, ap, subst, take}
use Rattle.std.proofs.lemmas.Grind.{common_steps}
use Rattle.registry_core.specs.HeldBlock.{HeldBlock}
use Rattle.scheme.specs.Order.{member}
use Rattle.scheme.specs.declared.members.SchemeRegistry.{SchemeRegistry}
use Rattle.protocol.specs.World.{World}
use Rattle.registry_core.specs.Registry.{RegistryCoreView}
use Rattle.registry_core.specs.Reported.{AreHoldings}
use Rattle.world.specs.RegistryLines.{registry_at}
use Rattle.world.specs.Stocks.{AreStocks}
use Rattle.world.specs.declared.views.Stock.{Stock}
use Rattle.world.proofs.GrowingViews.{stocks_more}
use Rattle.world.proofs.RegistriesInWorlds.{has_found, lacks, registry_is}
use Rattle.world.proofs.world.World.stocks.Goals.{in-Some+in_ok-lines+in_ok-push, in_default}
use Rattle.world.proofs.world.World.stocks.Goals as goal

never : true ≡ false → ⊥
never e = cc (e)

pub loop-member-preserved : goal.loop-member-preserved
loop-member-preserved c =
    let world = c.args.self.now in
    let ms = c.registries-member-items.result.now in
    let i = c.loop-member.member-index in
    let m = c.member-item.result in
    elim c.match-registry.branch [
      | in-Some+in_ok-lines+in_ok-push w ↦
          let lines = w.from_vec.result in
          let its : AreHoldings (registry_at world m.code) w.in_ok-lines.field-0.items = subst (λ (r : RegistryCoreView). AreHoldings r w.in_ok-lines.field-0.items) (registry_is world m.code w.in-Some.core.now w.in-Some.ensures.core) w.in_ok-lines.ensures in
          let holds : AreHoldings (registry_at world m.code) lines = subst (λ (ls : List HeldBlock). AreHoldings (registry_at world m.code) ls) (sym w.from_vec.ensures) its in
          let more = stocks_more world ms i c.loop-member.stocks.items m (record { code = m.code; lines = lines }) c.loop-member-test.true c.member-item.is c.loop-member.invariant refl holds in
          subst (λ (ss : List Stock). AreStocks world (take (i + 1) ms) ss) (sym (ap (λ v. v.items) w.stocks-is ∙ w.in_ok-push.ensures.items)) more
      | in_default w ↦
          let found : is_some (member world.scheme.members m.code) ≡ true = subst (λ (l : List SchemeRegistry). is_some (member l m.code) ≡ true) (c.registries-member-items.ensures ∙ ap (λ (x : World). x.scheme.members) c.self.view_is) (has_found ms i m c.loop-member-test.true c.member-item.is) in
          absurd (never (sym found ∙ lacks world m.code w.in_default.ensures.core))
    ]

pub returns : goal.returns
returns c = grind (arith, common_steps)
