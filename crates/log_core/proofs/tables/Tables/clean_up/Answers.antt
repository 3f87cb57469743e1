use Rattle.std.proofs.Common.{sym, ap, subst, ◌∙◌}
use Rattle.std.specs.Prelude.{IsPermutation}
use Rattle.units.specs.declared.code.Node.TheVariants.{Itl}
use Rattle.protocol.specs.AtLog as log
use Rattle.protocol.specs.History.{transitions_of}
use Rattle.protocol.specs.Verdict.{history}
use Rattle.log_core.specs.Taking.{IsMessageOrCleanUp, verdict_by_rules}
use Rattle.safety.proofs.MovesAndHistories.LongerHistories.{made_history}
use Rattle.log_core.proofs.AgedTransfers.{cancelled_sends, none_listed, some_listed}
use Rattle.log_core.proofs.CleanedUp.{expired_messages}
use Rattle.log_core.proofs.CleanedIds.{expired_ids}
use Rattle.log_core.proofs.CleanedVerdicts.{clean_up_effect, clean_up_enters, clean_up_known, clean_up_repeats}
use Rattle.protocol.specs.declared.decision.Stale.TheVariants.{Repeat}
use Rattle.log_core.proofs.TakenInputs.{takes_unmoved}
use Rattle.log_core.proofs.tables.Tables.clean_up.Goals as goal

pub returns-then-is_empty : goal.returns-then-is_empty
returns-then-is_empty c =
    let s = c.args.self.now.scheme in
    let was = c.args.self.now in
    let kept = c.requires.kept in
    let a = c.in_ok-ids.ensures.aged in
    let ids = c.in_ok-ids.ids in
    let are = expired_ids s was kept c.args.moment.seconds a.1.front a.1.rest a.1.parts c.expired.ensures.ordered a.1.aged a.1.young ids.items (subst (λ l. IsPermutation l ids.items) (sym a.1.held) a.2) c.in_ok-ids.ensures.sorted in
    takes_unmoved s was c.args.input.now Repeat kept (ap (verdict_by_rules s was) c.requires.input ∙ clean_up_repeats s was c.args.moment (are ∙ none_listed ids.items ids.len ids.ok.0 (sym c.is_empty.ensures ∙ c.if-is_empty.true)))

pub record-requires-clause-transitions : goal.record-requires-clause-transitions
record-requires-clause-transitions c =
    let s = c.args.self.now.scheme in
    let was = c.args.self.now in
    let kept = c.requires.kept in
    let a = c.in_ok-ids.ensures.aged in
    let ids = c.in_ok-ids.ids in
    let are = expired_ids s was kept c.args.moment.seconds a.1.front a.1.rest a.1.parts c.expired.ensures.ordered a.1.aged a.1.young ids.items (subst (λ l. IsPermutation l ids.items) (sym a.1.held) a.2) c.in_ok-ids.ensures.sorted in
    let some = some_listed ids.items ids.len ids.ok.0 (sym c.is_empty.ensures ∙ c.if-is_empty.false) in
    let xs = transitions_of (history s Itl was.records.inputs) in (
      log.expired xs c.args.moment.seconds,
      ap (verdict_by_rules s was) c.requires.input ∙ clean_up_enters s was c.args.moment some.0 some.1 (are ∙ some.2),
      c.in_ok-messages.ensures ∙ cancelled_sends s was kept c.as_slice.result.now ids.items c.as_slice.ensures.value
          ∙ sym (expired_messages s (history s Itl was.records.inputs) (made_history s Itl was.records.inputs) c.args.moment.seconds ids.items are),
      (subst IsMessageOrCleanUp (sym c.requires.input) tt, clean_up_effect s was c.args.moment.seconds ids are),
    )

pub record-requires-clause-allowed : goal.record-requires-clause-allowed
record-requires-clause-allowed c =
    let s = c.args.self.now.scheme in
    let was = c.args.self.now in
    let kept = c.requires.kept in
    let a = c.in_ok-ids.ensures.aged in
    let ids = c.in_ok-ids.ids in
    let are = expired_ids s was kept c.args.moment.seconds a.1.front a.1.rest a.1.parts c.expired.ensures.ordered a.1.aged a.1.young ids.items (subst (λ l. IsPermutation l ids.items) (sym a.1.held) a.2) c.in_ok-ids.ensures.sorted in
    clean_up_known s was c.args.moment.seconds ids are kept
