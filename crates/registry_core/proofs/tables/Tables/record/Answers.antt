use Rattle.std.proofs.Common.{inl, refl, sym, ap, subst, ◌∙◌}
use Rattle.units.specs.declared.code.Node.TheVariants.{Registry}
use Rattle.records.specs.Sending.{Sends}
use Rattle.protocol.specs.Verdict.{history}
use Rattle.protocol.proofs.TakenIntoRecords.{recorded_into, room_enters, unfitting}
use Rattle.registry_core.proofs.EffectsMayBe.{effects_send, may_carry}
use Rattle.registry_core.proofs.KeptByOrders.{kept_carried}
use Rattle.registry_core.proofs.TakenInputs.{GivenUp, takes_err, takes_refused}
use Rattle.registry_core.proofs.tables.Tables.record.Goals as goal

pub returns-in_err-place : goal.returns-in_err-place
returns-in_err-place c =
    let s = c.args.self.now.scheme in
    let k = c.args.self.now.code in
    let was = c.args.self.now in
    let i = c.args.input.now in
    let x = c.requires.transitions in
    takes_err s k was _ i c.from_residual.result _ c.requires.kept (record { scheme = refl; code = refl; records = c.in_err-place.ensures.0; holdings = refl; initiator = refl; acquirer = refl }) c.from_residual.ensures.1
    (λ r e. subst (λ q. GivenUp s k was i q.code) (sym e) (unfitting s (Registry k) was.records.inputs i x.0 c.in_err-place.field-0.0.code x.1 c.in_err-place.ensures.1))

pub carry_out-done-requires : goal.carry_out-done-requires
carry_out-done-requires c =
    let s = c.args.self.now.scheme in
    let k = c.args.self.now.code in
    let was = c.args.self.now in
    let i = c.args.input.now in
    let x = c.requires.transitions in
    may_carry s k was i x.0 c.args.effect c.requires.kept (room_enters s (Registry k) was.records.inputs i x.0 x.1 c.in_ok-place.ensures.0) x.3 c.requires.allowed

pub returns-in-Err : goal.returns-in-Err
returns-in-Err c =
    let was = c.args.self.now in
    let carried = c.in-Err.ensures in
    takes_refused was.scheme was.code was _ c.args.input.now c.in-Err.refused c.requires.kept
    (record { scheme = refl; code = refl; records = c.take_back.ensures was.records c.args.input.now _ c.in_ok-place.ensures.2; holdings = carried.err.2; initiator = carried.err.0; acquirer = carried.err.1 })
    (inl carried.refused)

pub returns : goal.returns
returns c =
    let s = c.args.self.now.scheme in
    let k = c.args.self.now.code in
    let was = c.args.self.now in
    let i = c.args.input.now in
    let x = c.requires.transitions in
    let admitted = c.in_ok-place.ensures in
    let enters = room_enters s (Registry k) was.records.inputs i x.0 x.1 admitted.0 in
    let sends = effects_send k (history s (Registry k) was.records.inputs) i x.0 c.args.effect x.3 ∙ ap (λ ms. Sends ms) (sym (c.into_vec.ensures ∙ x.2)) in
    record {
      taken = recorded_into s (Registry k) was.records _ i x.0 _ c.in_ok-place.place c.requires.kept.records enters admitted.1 admitted.2 sends;
      kept = kept_carried s k was _ i x.0 c.args.effect c.requires.kept enters x.3 c.in_default.ensures.ok (ap (λ r. r.inputs) admitted.2);
      scheme_is = refl;
      code_is = refl;
    }
