use Rattle.std.proofs.Common.{rules, ◌≡◌, ◌≤◌, ◌-◌, ℕ, take, drop, length, min, ap, ◌∙◌, subst, sym, IfOk, IfErr, arith}
use Rattle.std.proofs.lemmas.Grind.{common_steps}
use Rattle.std.proofs.lemmas.List.{length-drop, take_min}
use Rattle.sqlite.specs.State.{HasCleanDisk}
use Rattle.sqlite.specs.Held.{state}
use Rattle.durable.specs.Connected.{content}
use Rattle.stores.specs.Records.{AreRecords, IsDamagedAt}
use Rattle.stores.specs.declared.fault.StoreFault.TheVariants.{Damaged}
use Rattle.durable.proofs.open_store.OpenStore.load_page.Goals as goal
use Rattle.durable.proofs.open_store.OpenStore.load_page.Goals.{After-records_between}

counted : (g : _) (c : After-records_between g) → HasCleanDisk (state g.S.Store c.records_between.new.self.conn) → c.args.self.now.count ≡ length (content g.S.Store c.args.self.now)
counted g c clean =
    let v = sym c.self.view_is in
    let early = subst (λ k. HasCleanDisk (state g.S.Store k.conn)) v (c.records_between.ensures.honest clean) in
    subst (λ k. k.count ≡ length (content g.S.Store k)) (sym v) (c.self.invariant.2 early (search rules)).counted

-- the places up to the end of the page, or of the content, are those of the page
part : (g : _) (c : After-records_between g) → HasCleanDisk (state g.S.Store c.records_between.new.self.conn)
    → take (c.min-until.result - c.args.from) (drop c.args.from (content g.S.Store c.args.self.now)) ≡ take c.args.max (drop c.args.from (content g.S.Store c.args.self.now))
part g c clean =
    let places = content g.S.Store c.args.self.now in
    let n = counted g c clean in
    let m = length-drop c.args.from places in
    let until : c.min-until.result - c.args.from ≡ min c.args.max (length (drop c.args.from places)) = grind (arith, common_steps) in
    ap (λ k. take k (drop c.args.from places)) until ∙ take_min c.args.max (drop c.args.from places)

pub returns-clause-loads : goal.returns-clause-loads
returns-clause-loads g c = record {
  reopen = search rules;
  honest = c.records_between.ensures.honest;
  ok = λ clean. subst (λ places. IfOk c.records_between.result (λ inputs. AreRecords places inputs.items)) (part g c clean) (c.records_between.ensures.ok clean);
  damaged = λ clean. subst (λ places. IfErr c.records_between.result (λ e. (p : ℕ) → e ≡ Damaged p → (c.args.from ≤ p) × IsDamagedAt (p - c.args.from) places)) (part g c clean) (c.records_between.ensures.damaged clean);
  named = λ runs. c.records_between.ensures.named;
  stops = λ runs. c.records_between.ensures.stops;
  runs = c.records_between.ensures.runs;
  kept = c.records_between.ensures.kept;
  crash = λ clean runs next held. c.records_between.ensures.crash clean next held;
}
