use Rattle.std.proofs.Common.{refl, sym, ap, subst, ◌∙◌}
use Rattle.protocol.specs.declared.event.Outcome.TheVariants.{Recorded}
use Rattle.trace.specs.Followed.{HasLines}
use Rattle.trace.proofs.EventRows.{after, gave, recorded_at, recorded_place, row_unrecorded}
use Rattle.trace.proofs.RowLines.{no_lines}
use Rattle.trace.proofs.following.Tracing.give.Goals as goal

pub returns-in_ok-add_record : goal.returns-in_ok-add_record
returns-in_ok-add_record c =
    let t = c.args.self.now in
    let next = c.apply.new.self in
    let e = c.args.event.now in
    let place = c.in-Some.place in
    let came = recorded_place c.in_ok-outcome.outcome place (sym c.place_of.ensures ∙ c.in-Some.is) in
    let does = ap (after next) (sym came) ∙ c.in_ok-outcome.ensures.ok in
    let same = c.in_ok-add_record.ensures.same in
    gave t c.add_record.new.self e next (Recorded place) c.requires.sent does c.args.node c.requires.given same.0 same.3 same.1 same.2
    (λ r g at. c.in_ok-add_record.ensures.lines t.world r at (recorded_at t.world next e r c.args.node (Recorded place) place does refl g at) (rw c.as_world.ensures at c.status-before.ensures) c.requires.sent)

pub returns-in_default : goal.returns-in_default
returns-in_default c =
    let t = c.args.self.now in
    let next = c.apply.new.self in
    let o = c.in_ok-outcome.outcome in
    gave t (record t { world = next }) c.args.event.now next o c.requires.sent c.in_ok-outcome.ensures.ok c.args.node c.requires.given refl refl refl refl
    (λ r g at. subst (HasLines t.form t.text.items t.text.items) (sym (row_unrecorded t.world next t.id r o (sym c.place_of.ensures ∙ c.in_default.is))) (no_lines t.form t.text.items))
