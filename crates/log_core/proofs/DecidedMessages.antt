-- The decision of the log's table on a message, and the verdict on it; and the change of the tables by the decision.
use Rattle.std.proofs.Common.{append-nil, cond, Err, List, None, Ok, Option, Result, Some, [], ap, inr, refl, subst, sym, ℕ, ◌∙◌, ◌∷◌, ◌≡◌}
use Rattle.std.specs.Prelude.{is_some, option_map}
use Rattle.std.specs.Result.{IsErrAnd}
use Rattle.units.specs.declared.code.Node.TheVariants.{Itl}
use Rattle.units.specs.declared.refusal.Refusal.{Refusal}
use Rattle.status.specs.Content.{Content}
use Rattle.status.specs.Rows.{log_row}
use Rattle.status.specs.declared.id.TransactionId.{TransactionId}
use Rattle.status.specs.declared.moment.Moment.{Moment}
use Rattle.status.specs.declared.rows.Row.{Row}
use Rattle.status.specs.declared.rows.Row.TheVariants as rows
use Rattle.status.specs.declared.rows.RowInput.{RowInput}
use Rattle.status.specs.declared.rows.RowInput.TheVariants as column
use Rattle.status.specs.declared.status.Status.{Status}
use Rattle.wire.specs.NotifiedStatuses.{notified_codes, notified_status}
use Rattle.wire.specs.declared.input.Input.{Input}
use Rattle.wire.specs.declared.input.Input.TheVariants.{Received}
use Rattle.wire.specs.declared.message.Message.{Message}
use Rattle.protocol.proofs.MessageForms as message
use Rattle.protocol.proofs.MessageForms.{ProposalMessage, NotificationMessage, RequestMessage}
use Rattle.scheme.specs.declared.registries.Scheme.{Scheme}
use Rattle.protocol.specs.AtLog.{ledger, log_answer, log_refusals}
use Rattle.protocol.specs.Checks.{Ledger, log_findings}
use Rattle.protocol.specs.Deciding as decide
use Rattle.protocol.specs.Deciding.{IsRefused, content_in, recorded_if_room, column_of_proposal}
use Rattle.protocol.specs.Decisions.{decided, step_of}
use Rattle.protocol.specs.Effects.{log_sends}
use Rattle.protocol.specs.History.{Entry, Transition, messages_of, newest, transitions_of}
use Rattle.protocol.specs.Verdict.{history}
use Rattle.protocol.specs.declared.decision.Decision.{Decision}
use Rattle.protocol.specs.declared.decision.Decision.TheVariants.{Moves, Stays}
use Rattle.protocol.specs.declared.decision.Stale.{Stale}
use Rattle.protocol.specs.declared.node_core.Stepped.{Stepped}
use Rattle.protocol.proofs.DecidedVerdicts.{decided_so, moves_by, same_column, verdict_of}
use Rattle.checks.specs.Knowing.{Registers}
use Rattle.checks.specs.Refusing.{first_of}
use Rattle.checks.proofs.FirstCauses.{refuse_first, refuse_none}
use Rattle.log_core.specs.Effects.{AreEffects, transfer_state_content, transfer_state_in}
use Rattle.log_core.specs.Kept.{IsKept}
use Rattle.log_core.specs.Readings.{of_transition}
use Rattle.log_core.specs.Taking.{Takes, verdict_by_rules}
use Rattle.log_core.specs.Transfers.{known_transfer_state}
use Rattle.log_core.specs.declared.effect.LogEffect.{LogEffect}
use Rattle.log_core.specs.declared.tables.Tables.{Tables}
use Rattle.log_core.proofs.KnownRegisters.{registers_so}
use Rattle.log_core.proofs.TakenInputs.{GivenUp, are_same, takes_err, takes_unmoved, verdict_so}

-- the history of the tables' journal
abbrev past : Scheme → Tables → List Entry
past scheme tables = history scheme Itl tables.records.inputs

-- the verdict on the input is the one that the decision makes, whose transition to a status is that one
pub record Decided (scheme : Scheme) (tables : Tables) (input : Input) (to : Status → Transition) (d : Result Decision Refusal) : Type 0 where
  pub verdict_is : verdict_by_rules scheme tables input ≡ verdict_of scheme (past scheme tables) to d

-- ---- what the tables do

module _ {scheme : Scheme} {tables : Tables} {input : Input} {to : Status → Transition} {d : Result Decision Refusal} (kept : IsKept scheme tables) (by : Decided scheme tables input to d) where
  pub takes_failed : {result : Result Stepped Refusal} {r : Refusal} → d ≡ Err r → IsErrAnd result (λ e. e ≡ r) → Takes scheme tables tables input result
  takes_failed {result} {r} h e =
      takes_err scheme tables tables input result (λ e. e ≡ r) kept (are_same tables) e (λ e is. subst (λ (q : Refusal). GivenUp scheme tables input q.code) (sym is) (inr (by.verdict_is ∙ ap (verdict_of scheme (past scheme tables) to) h)))

  pub takes_stale : {why : Stale} {step : Stepped} → d ≡ Ok (Stays why) → step ≡ step_of why → Takes scheme tables tables input (Ok step)
  takes_stale {why} {step} h is =
      subst (λ (s : Stepped). Takes scheme tables tables input (Ok s)) (sym is) (takes_unmoved scheme tables input why kept (by.verdict_is ∙ ap (verdict_of scheme (past scheme tables) to) h))

  pub moves_so : (effect : LogEffect) {new : Status} {ms : List Message} → d ≡ Ok (Moves new) → ms ≡ (to new).messages → AreEffects input (to new ∷ []) effect
      → (xs : List Transition) × (verdict_by_rules scheme tables input ≡ recorded_if_room scheme (past scheme tables) xs) × (ms ≡ messages_of xs) × AreEffects input xs effect
  moves_so effect {new} {ms} h sent e = (to new ∷ [], by.verdict_is ∙ ap (verdict_of scheme (past scheme tables) to) h, sent ∙ sym (append-nil (to new).messages), e)

-- ---- the tables' entry of a transaction is that of its newest transition

known_of : (o : Option Transition) → known_transfer_state (option_map of_transition o) ≡ decide.known o
known_of None = refl
known_of (Some x) = refl

content_of_newest : (o : Option Transition) → transfer_state_content (option_map of_transition o) ≡ content_in o
content_of_newest None = refl
content_of_newest (Some x) = refl

module _ {scheme : Scheme} {tables : Tables} (kept : IsKept scheme tables) where
  abbrev pub last : TransactionId → Option Transition
  last t = newest (transitions_of (past scheme tables)) t

  known_so : (t : TransactionId) → known_transfer_state (transfer_state_in tables t) ≡ decide.known (last t)
  known_so t = ap known_transfer_state (kept.kept.transfers t) ∙ known_of (last t)

  pub content_so : (t : TransactionId) → transfer_state_content (transfer_state_in tables t) ≡ content_in (last t)
  content_so t = ap transfer_state_content (kept.kept.transfers t) ∙ content_of_newest (last t)

  -- the decision on an input of that column, by the tables and by the history
  abbrev pub IsDecided : TransactionId → RowInput → Result Decision Refusal → Type 0
  IsDecided t col d = d ≡ decided (log_row (known_transfer_state (transfer_state_in tables t)) col)

  abbrev pub row_at : TransactionId → RowInput → Row
  row_at t col = log_row (decide.known (last t)) col

  decides : {d : Result Decision Refusal} (t : TransactionId) (col : RowInput) → IsDecided t col d → d ≡ decided (row_at t col)
  decides t col is = is ∙ ap (λ k. decided (log_row k col)) (known_so t)

  pub row_moves : {d : Result Decision Refusal} {new : Status} (t : TransactionId) (col : RowInput) → IsDecided t col d → d ≡ Ok (Moves new) → row_at t col ≡ rows.Move new
  row_moves {d} {new} t col is h = moves_by (row_at t col) new (sym (decides t col is) ∙ h)

  -- ---- a message that isn't refused before the table is consulted

  abbrev pub IsWelcome : Message → Type 0
  IsWelcome m = first_of (log_refusals scheme (past scheme tables) m) ≡ None

  answered : (m : Message) (moment : Moment) → IsWelcome m → verdict_by_rules scheme tables (Received m moment) ≡ log_answer scheme (past scheme tables) moment.seconds m.id m.body
  answered m moment welcome = verdict_so scheme tables (Received m moment) ∙ refuse_none (log_refusals scheme (past scheme tables) m) (log_answer scheme (past scheme tables) moment.seconds m.id m.body) welcome

  pub refused : (m : Message) (moment : Moment) (code : ℕ) → first_of (log_refusals scheme (past scheme tables) m) ≡ Some code → verdict_by_rules scheme tables (Received m moment) ≡ IsRefused code
  refused m moment code first = verdict_so scheme tables (Received m moment) ∙ refuse_first (log_refusals scheme (past scheme tables) m) (log_answer scheme (past scheme tables) moment.seconds m.id m.body) code first

  -- its transition to a status
  abbrev comes_to : TransactionId → Option Content → List ℕ → Moment → RowInput → Status → Transition
  comes_to t k codes moment col = decide.moved t k moment.seconds (log_sends t k codes col)

  -- ---- a proposal

  abbrev pub findings : ProposalMessage → List ℕ
  findings p = log_findings scheme (ledger scheme (past scheme tables)) p.id.code p.content

  abbrev pub proposal_column : ProposalMessage → RowInput
  proposal_column p = column_of_proposal (content_in (last p.id)) (findings p)

  abbrev pub to_check : ProposalMessage → Moment → Status → Transition
  to_check p moment = comes_to p.id (Some p.content) (findings p) moment (proposal_column p)

  -- what was found in it, where it is new, and its column by that
  abbrev pub AreFound : ProposalMessage → List ℕ → Type 0
  AreFound p codes = (q : Ledger) → Registers scheme tables.register q → codes ≡ cond (is_some (transfer_state_content (transfer_state_in tables p.id))) [] (log_findings scheme q p.id.code p.content)

  found_so : (p : ProposalMessage) (codes : List ℕ) → AreFound p codes → codes ≡ cond (is_some (content_in (last p.id))) [] (findings p)
  found_so p codes found = found (ledger scheme (past scheme tables)) (registers_so scheme tables kept) ∙ ap (λ k. cond (is_some k) [] (findings p)) (content_so p.id)

  pub checked_column : {col : RowInput} {codes : List ℕ} (p : ProposalMessage) → AreFound p codes → col ≡ column_of_proposal (transfer_state_content (transfer_state_in tables p.id)) codes → col ≡ proposal_column p
  checked_column {col} {codes} p found is = is ∙ ap (λ k. column_of_proposal k codes) (content_so p.id) ∙ same_column (content_in (last p.id)) codes (findings p) (found_so p codes found)

  pub checked : {input : Input} {d : Result Decision Refusal} {p : ProposalMessage} {moment : Moment} {col : RowInput} → input ≡ Received (message.proposal p) moment → IsWelcome (message.proposal p) → col ≡ proposal_column p → IsDecided p.id col d
      → Decided scheme tables input (to_check p moment) d
  checked {input} {d} {p} {moment} {col} given welcome is d_is =
      record {
        verdict_is =
            ap (verdict_by_rules scheme tables) given ∙ answered (message.proposal p) moment welcome
            ∙ decided_so scheme (past scheme tables) (to_check p moment) [] (row_at p.id (proposal_column p)) d (decides p.id (proposal_column p) (subst (λ c. IsDecided p.id c d) is d_is));
      }

  pub check_sent : (p : ProposalMessage) {codes : List ℕ} {ms : List Message} (moment : Moment) (new : Status) → AreFound p codes → last p.id ≡ None → ms ≡ log_sends p.id (Some p.content) codes (column_of_proposal None codes) → ms ≡ (to_check p moment new).messages
  check_sent p {codes} {ms} moment new found unknown sent =
      let unread : content_in (last p.id) ≡ None = ap content_in unknown in
      let same : codes ≡ findings p = found_so p codes found ∙ ap (λ k. cond (is_some k) [] (findings p)) unread in
      sent ∙ (λ i. log_sends p.id (Some p.content) (same i) (column_of_proposal None (same i))) ∙ ap (λ k. log_sends p.id (Some p.content) (findings p) (column_of_proposal k (findings p))) (sym unread)

  -- ---- a notification

  abbrev pub notified_column : NotificationMessage → RowInput
  notified_column n = column.Notified (notified_status n.notified)

  abbrev pub to_advance : NotificationMessage → Moment → Status → Transition
  to_advance n moment = comes_to n.id (content_in (last n.id)) (notified_codes n.notified) moment (notified_column n)

  pub notified : {input : Input} {d : Result Decision Refusal} {n : NotificationMessage} {moment : Moment} → input ≡ Received (message.notification n) moment → IsWelcome (message.notification n) → IsDecided n.id (notified_column n) d → Decided scheme tables input (to_advance n moment) d
  notified {input} {d} {n} {moment} given welcome is =
      record {
        verdict_is =
            ap (verdict_by_rules scheme tables) given ∙ answered (message.notification n) moment welcome ∙ decided_so scheme (past scheme tables) (to_advance n moment) [] (row_at n.id (notified_column n)) d (decides n.id (notified_column n) is);
      }

  -- ---- a request

  abbrev pub to_withdraw : RequestMessage → Moment → Status → Transition
  to_withdraw r moment = comes_to r.id (content_in (last r.id)) [] moment column.Request

  pub requested : {input : Input} {d : Result Decision Refusal} {r : RequestMessage} {moment : Moment} → input ≡ Received (message.request r) moment → IsWelcome (message.request r) → IsDecided r.id column.Request d → Decided scheme tables input (to_withdraw r moment) d
  requested {input} {d} {r} {moment} given welcome is =
      record {
        verdict_is =
            ap (verdict_by_rules scheme tables) given ∙ answered (message.request r) moment welcome ∙ decided_so scheme (past scheme tables) (to_withdraw r moment) [] (row_at r.id column.Request) d (decides r.id column.Request is);
      }

  -- the messages that are sent after either, by the content that the tables have
  pub sent_of : {k : Option Content} {ms : List Message} (t : TransactionId) (codes : List ℕ) (col : RowInput) → k ≡ transfer_state_content (transfer_state_in tables t) → ms ≡ log_sends t k codes col → ms ≡ log_sends t (content_in (last t)) codes col
  sent_of {k} {ms} t codes col is sent = sent ∙ ap (λ c. log_sends t c codes col) (is ∙ content_so t)
