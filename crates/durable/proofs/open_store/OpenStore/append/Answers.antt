use Rattle.std.proofs.Common.{◌≡◌, inl, inr, Some, ◌++◌, ◌∙◌, length, map, sym, subst, ap, rules, arith}
use Rattle.std.proofs.lemmas.List.{length-map}
use Rattle.sqlite.specs.State.{HasCleanDisk}
use Rattle.sqlite.specs.Held.{state}
use Rattle.wire.specs.Records.{record_text}
use Rattle.wire.specs.declared.input.Input.{Input}
use Rattle.stores.specs.Bodies.{items}
use Rattle.durable.specs.Connected.{content}
use Rattle.store_tables.specs.Held.{followed_by}
use Rattle.stores.specs.Records.{Places, written}
use Rattle.store_tables.specs.Rooms.{HasNoRoom}
use Rattle.store_tables.proofs.NoRoom.{bodies_of}
use Rattle.durable.proofs.open_store.OpenStore.append.Goals as goal

pub returns-clause-appends : goal.returns-clause-appends
returns-clause-appends g c = record {
  reopen = search rules;
  named = λ runs. c.put.ensures.named;
  stops = c.put.ensures.stops;
  runs = c.put.ensures.runs;
  honest = c.put.ensures.honest;
  empty = search rules;
  ok = search rules;
  refused = λ clean runs. c.put.ensures.refused clean;
  crash = λ clean runs next held.
      let old = content g.S.Store c.args.self.now in
      let same : followed_by old (map items c.deref.result.now) ≡ old ++ written c.args.batch.now =
      ap (λ ts. followed_by old (map items ts)) c.deref.ensures.value ∙ ap (λ (z : Places). old ++ z) c.in-Ok.ensures.texts in
      elim (c.put.ensures.crash clean next held) [
        | inl is ↦ inl is
        | inr is ↦ inr (is ∙ same)
      ];
  settled = c.put.ensures.durable;
}

pub returns-clause-full : goal.returns-clause-full
returns-clause-full g c = λ clean full.
    let v = sym c.self.view_is in
    let early = subst (λ k. HasCleanDisk (state g.S.Store k.conn)) v (c.put.ensures.honest clean) in
    let n : c.args.self.now.count ≡ length (content g.S.Store c.args.self.now) = subst (λ k. k.count ≡ length (content g.S.Store k)) (sym v) (c.self.invariant.2 early (search rules)).counted in
    let same : bodies_of c.deref.result.now ≡ written c.args.batch.now = ap bodies_of c.deref.ensures.value ∙ c.in-Ok.ensures.texts in
    let bodies = length-map (map items c.deref.result.now) (λ body. Some body) ∙ length-map c.deref.result.now items in
    let places = length-map c.args.batch.now (λ (i : Input). Some (record_text i)) in
    let m : length c.deref.result.now ≡ length c.args.batch.now = sym bodies ∙ ap length same ∙ places in
    elim (c.put.ensures.full clean full) [
      | inl many ↦ inl (λ few. many (omega (arith, n, m, few)))
      | inr none ↦ inr (subst (HasNoRoom _ _) same none)
    ]
