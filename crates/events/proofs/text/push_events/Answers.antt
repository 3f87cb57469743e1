use Rattle.std.proofs.Common.{◌≡◌, ◌+◌, [], ◌∷◌, ◌++◌, take, ap, sym, subst, ◌∙◌, append_assoc}
use Rattle.std.proofs.lemmas.List.{take_more}
use Rattle.protocol.specs.declared.event.WorldEvent.{WorldEvent}
use Rattle.events.specs.Runs.{AreEventLines}
use Rattle.events.proofs.Lines.{line_more}
use Rattle.events.proofs.text.push_events.Goals as goal

pub loop-event-preserved : goal.loop-event-preserved
loop-event-preserved c =
    let before = c.loop-event.invariant in
    let added = c.in_ok-push_event.ensures in
    let events = c.args.events.now in
    let at = c.loop-event.event-index in
    let event = c.event-item.result in
    let one : take (at + 1) events ≡ take at events ++ event ∷ [] = take_more events at event c.loop-event-test.true ∙ ap (λ (e : WorldEvent). take at events ++ e ∷ []) (sym c.event-item.is) in (
      before.0 ++ (added.0 ++ 10 ∷ []),
      subst (AreEventLines (before.0 ++ (added.0 ++ 10 ∷ []))) (sym one) (line_more before.0 (take at events) added.0 event before.1 added.1 added.2),
      added.3 ∙ ap (λ bs. bs ++ (added.0 ++ 10 ∷ [])) before.2 ∙ append_assoc c.args.text.now.items before.0 (added.0 ++ 10 ∷ []),
    )
