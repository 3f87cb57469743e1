-- The decision of a role on an input, and the verdict on it; and the change of the tables by the decision.
use Rattle.std.proofs.Common.{append-nil, ◌≡◌, ◌+◌, ◌⊎◌, ℕ, cond, true, false, List, [], ◌∷◌, Some, None, Ok, Err, inl, inr, refl, sym, ap, subst, ◌∙◌}
use Rattle.std.specs.FinMap.{get}
use Rattle.std.specs.List.{list_any}
use Rattle.std.specs.Option.{option_map_or}
use Rattle.std.specs.Prelude.{Bool, Option, Result, is_some}
use Rattle.std.specs.Result.{IsErrAnd}
use Rattle.units.specs.Code.{same_code}
use Rattle.units.specs.RefusalCodes.{out_of_memory}
use Rattle.units.specs.declared.code.Code.{Code}
use Rattle.units.specs.declared.code.Node.TheVariants.{Registry}
use Rattle.units.specs.declared.refusal.Refusal.{Refusal}
use Rattle.status.specs.Content.{Content}
use Rattle.status.specs.Id.{id_at}
use Rattle.status.specs.Order.{Order}
use Rattle.status.specs.Rows.{acquirer_row, initiator_row}
use Rattle.status.specs.declared.id.TransactionId.{TransactionId}
use Rattle.status.specs.declared.moment.Moment.{Moment}
use Rattle.status.specs.declared.rows.Row.{Row}
use Rattle.status.specs.declared.rows.Row.TheVariants.{Move}
use Rattle.status.specs.declared.rows.RowInput.{RowInput}
use Rattle.status.specs.declared.rows.RowInput.TheVariants as column
use Rattle.status.specs.declared.rows.RowInput.TheVariants.{Notified}
use Rattle.status.specs.declared.status.Status.{Status}
use Rattle.wire.specs.NotifiedStatuses.{notified_status}
use Rattle.wire.specs.declared.input.Input.{Input}
use Rattle.wire.specs.declared.input.Input.TheVariants.{Propose, Received, Request}
use Rattle.wire.specs.declared.message.Message.{Message}
use Rattle.protocol.proofs.MessageForms as message
use Rattle.protocol.proofs.MessageForms.{ProposalMessage, NotificationMessage}
use Rattle.scheme.specs.declared.registries.Scheme.{Scheme}
use Rattle.protocol.specs.AtRegistry.{content_of, holding, registry_refusals, unless_held}
use Rattle.protocol.specs.Checks.{Holding, acquirer_findings}
use Rattle.protocol.specs.Deciding.{content_in, recorded_if_room, moved, column_of_proposal}
use Rattle.protocol.specs.Decisions.{decided, step_of, unless}
use Rattle.protocol.specs.Effects.{acquirer_sends, initiator_sends}
use Rattle.protocol.specs.History.{Entry, Transition, messages_of, newest, proposals, transitions_of}
use Rattle.protocol.specs.Pieces.{pieces}
use Rattle.protocol.specs.Verdict.{history}
use Rattle.protocol.specs.declared.decision.Decision.{Decision}
use Rattle.protocol.specs.declared.decision.Decision.TheVariants.{Moves, Stays}
use Rattle.protocol.specs.declared.decision.Stale.{Stale}
use Rattle.protocol.specs.declared.node_core.Stepped.{Stepped}
use Rattle.protocol.proofs.DecidedVerdicts.{decided_so, moves_by, same_column, verdict_of}
use Rattle.checks.specs.Knowing.{Knows}
use Rattle.checks.specs.Refusing.{first_of, order_refusals}
use Rattle.initiator.specs.Transfers as initiator
use Rattle.acquirer.specs.Transfers as acquirer
use Rattle.acquirer.specs.declared.transfer.IncomingTransfer.{IncomingTransfer}
use Rattle.safety.proofs.MovesAndHistories.TableRows.{acquirer_offered}
use Rattle.safety.proofs.OneRegistry.TransactionEnds.{own_code}
use Rattle.registry_core.specs.Effects.{AreEffects, IsEffect, ending}
use Rattle.registry_core.specs.Kept.{IsKept}
use Rattle.registry_core.specs.Taking.{Takes, verdict_by_rules}
use Rattle.registry_core.specs.declared.effect.RegistryEffect.{RegistryEffect}
use Rattle.registry_core.specs.declared.tables.Tables.{Tables}
use Rattle.registry_core.proofs.DecidedInputs.{ending_effect, knows_so, welcome_foreign}
use Rattle.registry_core.proofs.FirstRefusals.{order_refused}
use Rattle.registry_core.proofs.RowsOfInputs.{arrive_row, finish_row, propose_row, request_row, conclude_row}
use Rattle.registry_core.proofs.TablesSayHistory.{foreign_known_so}
use Rattle.registry_core.proofs.TakenInputs.{GivenUp, are_same, verdict_so, takes_err, takes_unmoved}

-- the history of the tables' journal
abbrev past : Scheme → Code → Tables → List Entry
past scheme c tables = history scheme (Registry c) tables.records.inputs

-- the verdict on the input is the one that the decision makes, whose transition to a status is that one
pub record Decided (scheme : Scheme) (c : Code) (tables : Tables) (input : Input) (to : Status → Transition) (d : Result Decision Refusal) : Type 0 where
  pub verdict_is : verdict_by_rules scheme c tables input ≡ verdict_of scheme (past scheme c tables) to d

-- one transition has the effect that it asks for
one_effect : (c : Code) (es : List Entry) (input : Input) (x : Transition) (effect : RegistryEffect) → IsEffect c es input x effect → AreEffects c es input (x ∷ []) effect
one_effect c es input x effect h = h

-- ---- what the tables do

module _ {scheme : Scheme} {c : Code} {tables : Tables} {input : Input} {to : Status → Transition} {d : Result Decision Refusal} (kept : IsKept scheme c tables) (by : Decided scheme c tables input to d) where
  pub takes_failed : {result : Result Stepped Refusal} {r : Refusal} → d ≡ Err r → IsErrAnd result (λ e. e ≡ r) → Takes scheme c tables tables input result
  takes_failed {result} {r} h e =
      takes_err scheme c tables tables input result (λ e. e ≡ r) kept (are_same tables) e (λ e is. subst (λ (q : Refusal). GivenUp scheme c tables input q.code) (sym is) (inr (by.verdict_is ∙ ap (verdict_of scheme (past scheme c tables) to) h)))

  pub takes_stale : {why : Stale} {step : Stepped} → d ≡ Ok (Stays why) → step ≡ step_of why → Takes scheme c tables tables input (Ok step)
  takes_stale {why} {step} h is =
      subst (λ (s : Stepped). Takes scheme c tables tables input (Ok s)) (sym is) (takes_unmoved scheme c tables input why kept (by.verdict_is ∙ ap (verdict_of scheme (past scheme c tables) to) h))

  pub moves_so : (effect : RegistryEffect) {given : Input} {new : Status} {ms : List Message} → input ≡ given → d ≡ Ok (Moves new) → ms ≡ (to new).messages → IsEffect c (past scheme c tables) given (to new) effect
      → (xs : List Transition) × (verdict_by_rules scheme c tables input ≡ recorded_if_room scheme (past scheme c tables) xs) × (ms ≡ messages_of xs) × AreEffects c (past scheme c tables) input xs effect
  moves_so effect {given} {new} {ms} is h sent e = (
    to new ∷ [],
    by.verdict_is ∙ ap (verdict_of scheme (past scheme c tables) to) h,
    sent ∙ sym (append-nil (to new).messages),
    one_effect c (past scheme c tables) input (to new) effect (subst (λ i. IsEffect c (past scheme c tables) i (to new) effect) (sym is) e),
  )

-- where memory ran out, nothing has changed
pub takes_no_memory : {scheme : Scheme} {c : Code} {tables : Tables} {input : Input} {result : Result Stepped Refusal} → IsKept scheme c tables → IsErrAnd result (λ e. e.code ≡ out_of_memory) → Takes scheme c tables tables input result
takes_no_memory {scheme} {c} {tables} {input} {result} kept e = takes_err scheme c tables tables input result (λ e. e.code ≡ out_of_memory) kept (are_same tables) e (λ e is. inl is)

-- ---- a proposal that moves is new

moves_new : (t : TransactionId) (x : Option IncomingTransfer) (found : List ℕ) (new : Status) → acquirer_row (acquirer.known_transfer x) (column_of_proposal (acquirer.kept_content x) found) ≡ Move new → acquirer.kept_content x ≡ None
moves_new t None found new h = refl
moves_new t (Some x) found new h = go x.content refl
  where
    go : (k : Option Content) → x.content ≡ k → x.content ≡ None
    go None is = is
    go (Some k) is =
        absurd
        (acquirer_offered (record { id = t; new = x.status; content = Some k; moment = 0; messages = [] }) found new
        (subst (λ (o : Option Content). acquirer_row (acquirer.known_of (record x { content = o })) (column_of_proposal o found) ≡ Move new) is h))

-- ---- the decisions of the roles

module _ {scheme : Scheme} {c : Code} {tables : Tables} (kept : IsKept scheme c tables) where
  -- an order to transfer units that isn't refused, under the next identifier
  pub order_passes : (o : Order) → ((q : Holding) → Knows scheme tables.initiator.code tables.holdings q → first_of (order_refusals scheme tables.initiator.code q tables.initiator.last o) ≡ None)
      → first_of (order_refusals scheme c (holding scheme c (past scheme c tables)) (proposals (past scheme c tables)) o) ≡ None
  order_passes o passes =
      let h = holding scheme c (past scheme c tables) in
      subst (λ l. first_of (order_refusals scheme c h l o) ≡ None) kept.kept.last (subst (λ e. Knows scheme e tables.holdings h → first_of (order_refusals scheme e h tables.initiator.last o) ≡ None) kept.kept.initiator (passes h) (knows_so scheme c tables kept))

  -- an order that is refused, or memory ran out
  pub order_given_up : {input : Input} {o : Order} {code : ℕ} → input ≡ Propose o
      → ((q : Holding) → Knows scheme tables.initiator.code tables.holdings q → (code ≡ out_of_memory) ⊎ (first_of (order_refusals scheme tables.initiator.code q tables.initiator.last o) ≡ Some code))
      → GivenUp scheme c tables input code
  order_given_up {input} {o} {code} given why =
      let h = holding scheme c (past scheme c tables) in
      elim (subst (λ l. (code ≡ out_of_memory) ⊎ (first_of (order_refusals scheme c h l o) ≡ Some code)) kept.kept.last
      (subst (λ e. Knows scheme e tables.holdings h → (code ≡ out_of_memory) ⊎ (first_of (order_refusals scheme e h tables.initiator.last o) ≡ Some code)) kept.kept.initiator (why h) (knows_so scheme c tables kept))) [
        | inl memory ↦ inl memory
        | inr first ↦ inr (ap (verdict_by_rules scheme c tables) given ∙ verdict_so scheme c tables (Propose o) ∙ order_refused scheme c (past scheme c tables) o code first)
      ]

  abbrev pub to_propose : Order → TransactionId → Status → Transition
  to_propose o t = moved t (Some (content_of o)) 0 (initiator_sends c t (Some (content_of o)) column.Propose)

  pub proposed : {input : Input} {d : Result Decision Refusal} {o : Order} {t : TransactionId} → input ≡ Propose o → ((q : Holding) → Knows scheme tables.initiator.code tables.holdings q → first_of (order_refusals scheme tables.initiator.code q tables.initiator.last o) ≡ None)
      → id_at tables.initiator.code (tables.initiator.last + 1) ≡ Some t → d ≡ decided (initiator_row (initiator.known_transfer (get tables.initiator.transfers t)) column.Propose) → Decided scheme c tables input (to_propose o t) d
  proposed {input} {d} {o} {t} given passes number decides =
      let at = subst (λ l. id_at c (l + 1) ≡ Some t) kept.kept.last (subst (λ e. id_at e (tables.initiator.last + 1) ≡ Some t) kept.kept.initiator number) in
      record {
        verdict_is =
            ap (verdict_by_rules scheme c tables) given ∙ propose_row scheme c tables kept o t (order_passes o passes) at (own_code scheme c (proposals (past scheme c tables) + 1) t at)
            ∙ decided_so scheme (past scheme c tables) (to_propose o t) [] (initiator_row (initiator.known_transfer (get tables.initiator.transfers t)) column.Propose) d decides;
      }

  pub proposal_sent : (o : Order) {t : TransactionId} {k : Content} {ms : List Message} (new : Status) → k ≡ content_of o → ms ≡ initiator_sends tables.initiator.code t (Some k) column.Propose → ms ≡ (to_propose o t new).messages
  proposal_sent o {t} {k} {ms} new content sent = sent ∙ (λ i. initiator_sends (kept.kept.initiator i) t (Some (content i)) column.Propose)

  -- an order to ask for a transfer's cancellation
  abbrev asked_column : TransactionId → RowInput
  asked_column t = initiator.column_of_request (get tables.initiator.transfers t)

  abbrev pub last_content : TransactionId → Option Content
  last_content t = content_in (newest (transitions_of (past scheme c tables)) t)

  abbrev pub to_ask : TransactionId → Status → Transition
  to_ask t = moved t (last_content t) 0 (initiator_sends c t (last_content t) (asked_column t))

  pub requested : {input : Input} {d : Result Decision Refusal} {t : TransactionId} → input ≡ Request t
      → d ≡ unless (initiator.cancellation_refusals tables.initiator t) (decided (initiator_row (initiator.known_transfer (get tables.initiator.transfers t)) (asked_column t))) → Decided scheme c tables input (to_ask t) d
  requested {input} {d} {t} given decides =
      record {
        verdict_is =
            ap (verdict_by_rules scheme c tables) given ∙ request_row scheme c tables kept t
            ∙ decided_so scheme (past scheme c tables) (to_ask t) (initiator.cancellation_refusals tables.initiator t) (initiator_row (initiator.known_transfer (get tables.initiator.transfers t)) (asked_column t)) d decides;
      }

  pub request_sent : (t : TransactionId) {ms : List Message} (new : Status) → ((k : Option Content) → ms ≡ initiator_sends tables.initiator.code t k (asked_column t)) → ms ≡ (to_ask t new).messages
  request_sent t {ms} new sent = sent (last_content t) ∙ ap (λ e. initiator_sends e t (last_content t) (asked_column t)) kept.kept.initiator

  -- a proposal
  abbrev pub findings : ProposalMessage → List ℕ
  findings p = acquirer_findings scheme c (holding scheme c (past scheme c tables)) p.content

  abbrev kept_in : ProposalMessage → Option Content
  kept_in p = acquirer.kept_content (get tables.acquirer.transfers p.id)

  abbrev arrive_row_of : ProposalMessage → Row
  arrive_row_of p = acquirer_row (acquirer.known_transfer (get tables.acquirer.transfers p.id)) (column_of_proposal (kept_in p) (findings p))

  abbrev pub to_arrive : ProposalMessage → Moment → Status → Transition
  to_arrive p moment = moved p.id (Some p.content) moment.seconds (acquirer_sends c p.id (findings p) (column_of_proposal (kept_in p) (findings p)))

  -- what was found in it, where it is new
  abbrev pub AreFound : ProposalMessage → List ℕ → Type 0
  AreFound p codes = (q : Holding) → Knows scheme tables.acquirer.code tables.holdings q → codes ≡ cond (is_some (kept_in p)) [] (acquirer_findings scheme tables.acquirer.code q p.content)

  found_so : (p : ProposalMessage) (codes : List ℕ) → AreFound p codes → codes ≡ cond (is_some (kept_in p)) [] (findings p)
  found_so p codes found =
      let h = holding scheme c (past scheme c tables) in
      subst (λ e. Knows scheme e tables.holdings h → codes ≡ cond (is_some (kept_in p)) [] (acquirer_findings scheme e h p.content)) kept.kept.acquirer (found h) (knows_so scheme c tables kept)

  arrive_decides : {d : Result Decision Refusal} (p : ProposalMessage) (codes : List ℕ) → AreFound p codes → d ≡ decided (acquirer_row (acquirer.known_transfer (get tables.acquirer.transfers p.id)) (column_of_proposal (kept_in p) codes)) → d ≡ decided (arrive_row_of p)
  arrive_decides p codes found decides = decides ∙ ap (λ col. decided (acquirer_row (acquirer.known_transfer (get tables.acquirer.transfers p.id)) col)) (same_column (kept_in p) codes (findings p) (found_so p codes found))

  pub arrived : {input : Input} {d : Result Decision Refusal} {p : ProposalMessage} {moment : Moment} {codes : List ℕ} → input ≡ Received (message.proposal p) moment → first_of (registry_refusals c (past scheme c tables) (message.proposal p)) ≡ None → AreFound p codes
      → d ≡ decided (acquirer_row (acquirer.known_transfer (get tables.acquirer.transfers p.id)) (column_of_proposal (kept_in p) codes)) → Decided scheme c tables input (to_arrive p moment) d
  arrived {input} {d} {p} {moment} {codes} given welcome found decides =
      record {
        verdict_is =
            ap (verdict_by_rules scheme c tables) given ∙ arrive_row scheme c tables kept p moment (findings p) welcome (welcome_foreign c (past scheme c tables) p welcome) refl
            ∙ decided_so scheme (past scheme c tables) (to_arrive p moment) [] (arrive_row_of p) d (arrive_decides p codes found decides);
      }

  pub arrival_sent : {d : Result Decision Refusal} (p : ProposalMessage) {codes : List ℕ} {new : Status} {ms : List Message} (moment : Moment) → AreFound p codes
      → d ≡ decided (acquirer_row (acquirer.known_transfer (get tables.acquirer.transfers p.id)) (column_of_proposal (kept_in p) codes)) → d ≡ Ok (Moves new) → ms ≡ acquirer_sends tables.acquirer.code p.id codes (column_of_proposal None codes) → ms ≡ (to_arrive p moment new).messages
  arrival_sent {d} p {codes} {new} {ms} moment found decides h sent =
      let new_here = moves_new p.id (get tables.acquirer.transfers p.id) (findings p) new (moves_by (arrive_row_of p) new (sym (arrive_decides p codes found decides) ∙ h)) in
      let same : codes ≡ findings p = found_so p codes found ∙ ap (λ k. cond (is_some k) [] (findings p)) new_here in
      sent ∙ (λ i. acquirer_sends (kept.kept.acquirer i) p.id (same i) (column_of_proposal None (same i))) ∙ ap (λ k. acquirer_sends c p.id (findings p) (column_of_proposal k (findings p))) (sym new_here)

  -- a notification on a transfer out of the registry
  abbrev conclude_row_of : NotificationMessage → Row
  conclude_row_of n = initiator_row (initiator.known_transfer (get tables.initiator.transfers n.id)) (Notified (notified_status n.notified))

  abbrev pub to_conclude : NotificationMessage → Moment → Status → Transition
  to_conclude n moment = moved n.id (last_content n.id) moment.seconds (initiator_sends c n.id (last_content n.id) (Notified (notified_status n.notified)))

  pub concluded : {input : Input} {d : Result Decision Refusal} {n : NotificationMessage} {moment : Moment} {told : Status} → input ≡ Received (message.notification n) moment → first_of (registry_refusals c (past scheme c tables) (message.notification n)) ≡ None → same_code n.id.code c ≡ true
      → told ≡ notified_status n.notified → d ≡ decided (initiator_row (initiator.known_transfer (get tables.initiator.transfers n.id)) (Notified told)) → Decided scheme c tables input (to_conclude n moment) d
  concluded {input} {d} {n} {moment} {told} given welcome own is decides =
      record {
        verdict_is =
            ap (verdict_by_rules scheme c tables) given ∙ conclude_row scheme c tables kept n moment welcome own
            ∙ decided_so scheme (past scheme c tables) (to_conclude n moment) [] (conclude_row_of n) d (decides ∙ ap (λ s. decided (initiator_row (initiator.known_transfer (get tables.initiator.transfers n.id)) (Notified s))) is);
      }

  pub conclusion_sent : (n : NotificationMessage) {told : Status} {ms : List Message} (moment : Moment) (new : Status) → told ≡ notified_status n.notified → ((k : Option Content) → ms ≡ initiator_sends tables.initiator.code n.id k (Notified told)) → ms ≡ (to_conclude n moment new).messages
  conclusion_sent n {told} {ms} moment new is sent = sent (last_content n.id) ∙ (λ i. initiator_sends (kept.kept.initiator i) n.id (last_content n.id) (Notified (is i)))

  -- a notification on a transfer to the registry
  abbrev pub to_finish : NotificationMessage → Moment → Status → Transition
  to_finish n moment = moved n.id (last_content n.id) moment.seconds []

  abbrev pub is_held : Holding → NotificationMessage → Bool
  is_held q n = option_map_or (λ x. list_any (λ p. q.is_held p.unit) (pieces x.units)) (acquirer.kept_content (get tables.acquirer.transfers n.id)) false

  abbrev finish_row_of : NotificationMessage → Row
  finish_row_of n = unless_held (is_held (holding scheme c (past scheme c tables)) n) (acquirer_row (acquirer.known_transfer (get tables.acquirer.transfers n.id)) (Notified (notified_status n.notified)))

  -- the acquirer's decision on one of that status
  abbrev pub AreDecided : NotificationMessage → Status → Result Decision Refusal → Type 0
  AreDecided n told d = (q : Holding) → Knows scheme tables.acquirer.code tables.holdings q → d ≡ decided (unless_held (is_held q n) (acquirer_row (acquirer.known_transfer (get tables.acquirer.transfers n.id)) (Notified told)))

  finish_decides : {d : Result Decision Refusal} (n : NotificationMessage) {told : Status} → told ≡ notified_status n.notified → AreDecided n told d → d ≡ decided (finish_row_of n)
  finish_decides {d} n {told} is decides =
      let h = holding scheme c (past scheme c tables) in
      subst (λ e. Knows scheme e tables.holdings h → d ≡ decided (unless_held (is_held h n) (acquirer_row (acquirer.known_transfer (get tables.acquirer.transfers n.id)) (Notified told)))) kept.kept.acquirer (decides h) (knows_so scheme c tables kept)
      ∙ ap (λ t. decided (unless_held (is_held h n) (acquirer_row (acquirer.known_transfer (get tables.acquirer.transfers n.id)) (Notified t)))) is

  pub finished : {input : Input} {d : Result Decision Refusal} {n : NotificationMessage} {moment : Moment} {told : Status} → input ≡ Received (message.notification n) moment
      → first_of (registry_refusals c (past scheme c tables) (message.notification n)) ≡ None → same_code n.id.code c ≡ false → told ≡ notified_status n.notified → AreDecided n told d → Decided scheme c tables input (to_finish n moment) d
  finished {input} {d} {n} {moment} {told} given welcome foreign is decides =
      record {
        verdict_is =
            ap (verdict_by_rules scheme c tables) given ∙ finish_row scheme c tables kept n moment welcome foreign ∙ decided_so scheme (past scheme c tables) (to_finish n moment) [] (finish_row_of n) d (finish_decides n is decides);
      }

  -- what ends the transfer is the effect
  pub finish_effect : {d : Result Decision Refusal} (n : NotificationMessage) (moment : Moment) {told new : Status} {effect : RegistryEffect} → same_code n.id.code c ≡ false → told ≡ notified_status n.notified → AreDecided n told d
      → d ≡ Ok (Moves new) → effect ≡ ending (is_some (get tables.acquirer.transfers n.id)) n.id new → IsEffect c (past scheme c tables) (Received (message.notification n) moment) (to_finish n moment new) effect
  finish_effect {d} n moment {told} {new} {effect} foreign is decides h ends =
      let row = moves_by (finish_row_of n) new (sym (finish_decides n is decides) ∙ h) in
      subst (λ e. IsEffect c (past scheme c tables) (Received (message.notification n) moment) (to_finish n moment new) e) (sym ends)
      (ending_effect scheme c tables kept n moment (notified_status n.notified) new (is_held (holding scheme c (past scheme c tables)) n) (to_finish n moment new) foreign refl
      (ap (λ q. unless_held (is_held (holding scheme c (past scheme c tables)) n) (acquirer_row q (Notified (notified_status n.notified)))) (sym (foreign_known_so scheme c tables kept n.id foreign)) ∙ row))
