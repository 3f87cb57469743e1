use Rattle.std.proofs.Common.{inl, refl, sym, ap, subst, ◌∙◌}
use Rattle.units.specs.declared.code.Node.TheVariants.{Itl}
use Rattle.records.specs.Sending.{Sends}
use Rattle.protocol.proofs.TakenIntoRecords.{recorded_into, room_enters, unfitting}
use Rattle.log_core.proofs.CarriedEffects.{effects_send, may_carry, same_carried_out}
use Rattle.log_core.proofs.KeptByOrders.{kept_carried}
use Rattle.log_core.proofs.KnownLabels.{labelled_so}
use Rattle.log_core.proofs.TakenInputs.{GivenUp, takes_err, takes_refused}
use Rattle.log_core.proofs.tables.Tables.record.Goals as goal

pub returns-in_err-place : goal.returns-in_err-place
returns-in_err-place c =
    let s = c.args.self.now.scheme in
    let was = c.args.self.now in
    let i = c.args.input.now in
    let x = c.requires.transitions in
    takes_err s was _ i c.from_residual.result _ c.requires.kept
    (record { scheme = refl; records = c.in_err-place.ensures.0; allotments = refl; book = refl; under_way = refl; orders = λ d. refl; transfers = λ t. refl; checked = λ w. refl }) c.from_residual.ensures.1
    (λ r e. subst (λ q. GivenUp s was i q.code) (sym e) (unfitting s Itl was.records.inputs i x.0 c.in_err-place.field-0.0.code x.1 c.in_err-place.ensures.1))

pub carry_out-requires-clause-may : goal.carry_out-requires-clause-may
carry_out-requires-clause-may c =
    let s = c.args.self.now.scheme in
    let was = c.args.self.now in
    let i = c.args.input.now in
    let x = c.requires.transitions in
    may_carry s was i x.0 c.args.effect c.requires.kept (room_enters s Itl was.records.inputs i x.0 x.1 c.in_ok-place.ensures.0) x.3 c.requires.allowed

pub carry_out-requires-clause-labelled : goal.carry_out-requires-clause-labelled
carry_out-requires-clause-labelled c = labelled_so c.args.self.now.scheme c.args.self.now c.requires.kept

pub take_back-requires : goal.take_back-requires
take_back-requires c = (c.args.self.now.records.sent, _, ap (λ r. r.sent) (c.carry_out.ensures.records ∙ c.in_ok-place.ensures.2))

pub returns-in-Err : goal.returns-in-Err
returns-in-Err c =
    let was = c.args.self.now in
    let same = c.in-Err.ensures.err in
    takes_refused was.scheme was _ c.args.input.now c.in-Err.refused c.requires.kept
    (record {
      scheme = same.scheme;
      records = c.take_back.ensures was.records c.args.input.now _ (c.carry_out.ensures.records ∙ c.in_ok-place.ensures.2);
      allotments = same.allotments;
      book = same.book;
      under_way = same.under_way;
      orders = same.orders;
      transfers = same.transfers;
      checked = same.checked;
    })
    (inl c.in-Err.ensures.refused)

pub returns : goal.returns
returns c =
    let s = c.args.self.now.scheme in
    let was = c.args.self.now in
    let i = c.args.input.now in
    let x = c.requires.transitions in
    let admitted = c.in_ok-place.ensures in
    let enters = room_enters s Itl was.records.inputs i x.0 x.1 admitted.0 in
    let more = c.carry_out.ensures.records ∙ admitted.2 in
    record {
      taken = recorded_into s Itl was.records _ i x.0 _ c.in_ok-place.place c.requires.kept.records enters admitted.1 more (effects_send _ i x.0 c.args.effect x.3 ∙ ap (λ ms. Sends ms) (sym (c.into_vec.ensures ∙ x.2)));
      kept = kept_carried s was _ i x.0 c.args.effect c.requires.kept enters x.3 c.requires.allowed (same_carried_out c.args.effect _ was _ (refl, refl, refl) c.in_default.ensures.ok) (ap (λ r. r.inputs) more);
      scheme_is = c.carry_out.ensures.scheme;
    }
