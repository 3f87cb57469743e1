-- The codes with which verdicts refuse: each cause's code passes a test, and so does each refusal's.
use Rattle.std.proofs.Common.{◌≡◌, ℕ, List, [], ◌∷◌, length, Bool, true, false, not, cond, ◌&&◌, Option, Some, None, ◌==◌, refl, subst}
use Rattle.std.specs.Prelude.{nat_le, Contains}
use Rattle.std.specs.List.{list_all, list_any}
use Rattle.std.proofs.lemmas.Bool.{eqb-true, false≢true, and_parts}
use Rattle.std.proofs.lemmas.Map.Views.{Contains-from_any}
use Rattle.units.specs.Code.{same_code}
use Rattle.units.specs.RefusalCodes.{no_row, journal_full, node_stopped, out_of_memory, transactions_used_up}
use Rattle.units.specs.declared.code.Code.{Code}
use Rattle.units.specs.declared.code.Node.{Node}
use Rattle.units.specs.declared.code.Node.TheVariants.{Itl, Registry}
use Rattle.status.specs.Content.{Content}
use Rattle.status.specs.declared.id.TransactionId.{TransactionId}
use Rattle.status.specs.declared.moment.Moment.{Moment}
use Rattle.status.specs.declared.rows.Row.{Row}
use Rattle.status.specs.declared.rows.Row.TheVariants.{Move, Repeat, Late, Refused}
use Rattle.status.specs.declared.rows.RowInput.{RowInput}
use Rattle.status.specs.declared.status.Status.{Status}
use Rattle.wire.specs.declared.input.Input.{Input}
use Rattle.wire.specs.declared.input.Input.TheVariants.{Propose, Request, OpenAccount, CloseAccount, Ack, CleanUp, Eligible, Received}
use Rattle.wire.specs.declared.message.Body.{Body}
use Rattle.wire.specs.declared.message.Body.TheVariants as body
use Rattle.wire.specs.declared.message.Message.{Message}
use Rattle.scheme.specs.declared.registries.Scheme.{Scheme}
use Rattle.protocol.specs.AtLog as log
use Rattle.protocol.specs.AtRegistry as registry
use Rattle.protocol.specs.Checks.{Causes, propose_refusals}
use Rattle.protocol.specs.Deciding.{Verdict, IsRecorded, IsRepeat, IsLate, IsRefused, refuse, recorded_if_room, by_row, acknowledge, ack_refusals}
use Rattle.protocol.specs.History.{Transition, Entry, is_acknowledged}
use Rattle.protocol.specs.Refusing.{message_codes}
use Rattle.protocol.specs.Verdict.{verdict}

-- a verdict that refuses only with codes that pass
abbrev pub Only : (ℕ → Bool) → Verdict → Type 0
Only passes v = (code : ℕ) → v ≡ IsRefused code → passes code ≡ true

pub refused_same : (a b : ℕ) → IsRefused a ≡ IsRefused b → a ≡ b
refused_same a b e = cc (e)

pub only_refused : (passes : ℕ → Bool) (code : ℕ) → passes code ≡ true → Only passes (IsRefused code)
only_refused passes code p c e = subst (λ (k : ℕ). passes k ≡ true) (refused_same code c e) p

pub only_repeat : (passes : ℕ → Bool) → Only passes IsRepeat
only_repeat passes code e = absurd (cc (e))

pub only_late : (passes : ℕ → Bool) → Only passes IsLate
only_late passes code e = absurd (cc (e))

pub only_entered : (passes : ℕ → Bool) (xs : List Transition) → Only passes (IsRecorded xs)
only_entered passes xs code e = absurd (cc (e))

pub only_cond : (passes : ℕ → Bool) (b : Bool) (u v : Verdict) → Only passes u → Only passes v → Only passes (cond b u v)
only_cond passes true u v p q = p
only_cond passes false u v p q = q

pub only_enters : (passes : ℕ → Bool) → passes journal_full ≡ true → (scheme : Scheme) (es : List Entry) (xs : List Transition) → Only passes (recorded_if_room scheme es xs)
only_enters passes full scheme es xs = only_cond passes (nat_le scheme.records (length es)) (IsRefused journal_full) (IsRecorded xs) (only_refused passes journal_full full) (only_entered passes xs)

pub only_refuse : (passes : ℕ → Bool) (cs : Causes) (v : Verdict) → list_all (λ c. passes c.1) cs ≡ true → Only passes v → Only passes (refuse cs v)
only_refuse passes [] v p w = w
only_refuse passes (c ∷ cs) v p w =
    only_cond passes c.0 (IsRefused c.1) (refuse cs v)
    (only_refused passes c.1 (and_parts (passes c.1) (list_all (λ d. passes d.1) cs) p).0)
    (only_refuse passes cs v (and_parts (passes c.1) (list_all (λ d. passes d.1) cs) p).1 w)

-- codes of refusals by tables, or for lack of room
pub record Rows (passes : ℕ → Bool) : Type 0 where
  pub row : passes no_row ≡ true
  pub full : passes journal_full ≡ true

pub only_row : (passes : ℕ → Bool) → Rows passes → (scheme : Scheme) (es : List Entry) (to : Status → Transition) (row : Row) → Only passes (by_row scheme es to row)
only_row passes h scheme es to (Move new) = only_enters passes h.full scheme es (to new ∷ [])
only_row passes h scheme es to Repeat = only_repeat passes
only_row passes h scheme es to Late = only_late passes
only_row passes h scheme es to Refused = only_refused passes no_row h.row

only_role : (passes : ℕ → Bool) → Rows passes → (scheme : Scheme) (c : Code) (es : List Entry) (t : TransactionId) (last : Option Transition) (moment : ℕ) (input : RowInput) → Only passes (registry.in_role scheme c es t last moment input)
only_role passes h scheme c es t last moment input = only_cond passes (same_code t.code c) _ _ (only_row passes h scheme es _ _) (only_row passes h scheme es _ _)

-- ---- messages

registry_answered : (passes : ℕ → Bool) → Rows passes → (scheme : Scheme) (c : Code) (es : List Entry) (moment : ℕ) (t : TransactionId) (b : Body) → Only passes (registry.registry_answer scheme c es moment t b)
registry_answered passes h scheme c es moment t (body.Proposal p) = only_row passes h scheme es _ _
registry_answered passes h scheme c es moment t (body.Notification n) = only_role passes h scheme c es t _ moment _
registry_answered passes h scheme c es moment t body.Request = only_role passes h scheme c es t _ moment _

pub registry_message : (passes : ℕ → Bool) → Rows passes → (scheme : Scheme) (c : Code) (es : List Entry) (moment : ℕ) (m : Message)
    → list_all (λ d. passes d.1) (registry.registry_refusals c es m) ≡ true → Only passes (registry.registry_message scheme c es moment m)
registry_message passes h scheme c es moment m causes = only_refuse passes (registry.registry_refusals c es m) _ causes (registry_answered passes h scheme c es moment m.id m.body)

log_answered : (passes : ℕ → Bool) → Rows passes → (scheme : Scheme) (es : List Entry) (moment : ℕ) (t : TransactionId) (b : Body) → Only passes (log.log_answer scheme es moment t b)
log_answered passes h scheme es moment t (body.Proposal p) = only_row passes h scheme es _ _
log_answered passes h scheme es moment t (body.Notification n) = only_row passes h scheme es _ _
log_answered passes h scheme es moment t body.Request = only_row passes h scheme es _ _

pub log_message : (passes : ℕ → Bool) → Rows passes → (scheme : Scheme) (es : List Entry) (moment : ℕ) (m : Message) → list_all (λ d. passes d.1) (log.log_refusals scheme es m) ≡ true
    → Only passes (log.log_message scheme es moment m)
log_message passes h scheme es moment m causes = only_refuse passes (log.log_refusals scheme es m) _ causes (log_answered passes h scheme es moment m.id m.body)

-- one of the codes with which messages are refused
abbrev of_message : ℕ → Bool
of_message code = list_any (λ d. code == d) message_codes

rows_of_message : Rows of_message
rows_of_message = record { row = refl; full = refl }

registry_codes : (c : Code) (es : List Entry) (t : TransactionId) (b : Body) → list_all (λ d. of_message d.1) (registry.registry_body_refusals c es t b) ≡ true
registry_codes c es t (body.Proposal p) = refl
registry_codes c es t (body.Notification n) = refl
registry_codes c es t body.Request = refl

log_codes : (es : List Entry) (from : Node) (t : TransactionId) (b : Body) → list_all (λ d. of_message d.1) (log.log_body_refusals es from t b) ≡ true
log_codes es from t (body.Proposal p) = refl
log_codes es from t (body.Notification n) = refl
log_codes es from t body.Request = refl

pub message_only : (scheme : Scheme) (n : Node) (es : List Entry) (m : Message) (moment : Moment) → Only of_message (verdict scheme n es (Received m moment))
unfolding verdict
message_only scheme Itl es m moment = log_message of_message rows_of_message scheme es moment.seconds m (log_codes es m.from m.id m.body)
message_only scheme (Registry c) es m moment = registry_message of_message rows_of_message scheme c es moment.seconds m (registry_codes c es m.id m.body)

pub message_code : (scheme : Scheme) (n : Node) (es : List Entry) (m : Message) (moment : Moment) (code : ℕ) → verdict scheme n es (Received m moment) ≡ IsRefused code → Contains message_codes code
message_code scheme n es m moment code e = Contains-from_any {eq = ◌==◌} eqb-true code message_codes (message_only scheme n es m moment code e)

-- ---- every input

-- neither of the two codes that come from the program that runs a node
abbrev of_verdict : ℕ → Bool
of_verdict code = not (code == node_stopped) && not (code == out_of_memory)

rows_of_verdict : Rows of_verdict
rows_of_verdict = record { row = refl; full = refl }

registry_codes_2 : (c : Code) (es : List Entry) (t : TransactionId) (b : Body) → list_all (λ d. of_verdict d.1) (registry.registry_body_refusals c es t b) ≡ true
registry_codes_2 c es t (body.Proposal p) = refl
registry_codes_2 c es t (body.Notification n) = refl
registry_codes_2 c es t body.Request = refl

log_codes_2 : (es : List Entry) (from : Node) (t : TransactionId) (b : Body) → list_all (λ d. of_verdict d.1) (log.log_body_refusals es from t b) ≡ true
log_codes_2 es from t (body.Proposal p) = refl
log_codes_2 es from t (body.Notification n) = refl
log_codes_2 es from t body.Request = refl

only_ack : (scheme : Scheme) (es : List Entry) (key : ℕ) → Only of_verdict (acknowledge scheme es key)
only_ack scheme es key =
    only_refuse of_verdict (ack_refusals es key) _ refl
    (only_cond of_verdict (is_acknowledged es key) IsRepeat (recorded_if_room scheme es []) (only_repeat of_verdict) (only_enters of_verdict refl scheme es []))

only_offer : (scheme : Scheme) (c : Code) (es : List Entry) (k : Content) (t : Option TransactionId) → Only of_verdict (registry.new_transfer_verdict scheme c es k t)
only_offer scheme c es k None = only_refused of_verdict transactions_used_up refl
only_offer scheme c es k (Some t) = only_row of_verdict rows_of_verdict scheme es _ _

only_clean_up : (scheme : Scheme) (es : List Entry) (xs : List Transition) → Only of_verdict (log.clean_up scheme es xs)
only_clean_up scheme es [] = only_repeat of_verdict
only_clean_up scheme es (x ∷ xs) = only_enters of_verdict refl scheme es (x ∷ xs)

refused_row : Only of_verdict (IsRefused no_row)
refused_row = only_refused of_verdict no_row refl

pub verdict_only : (scheme : Scheme) (n : Node) (es : List Entry) (input : Input) → Only of_verdict (verdict scheme n es input)
unfolding verdict
verdict_only scheme Itl es (CleanUp t) = only_clean_up scheme es _
verdict_only scheme Itl es (Eligible c may) = only_refuse of_verdict (log.eligible_refusals scheme c) _ refl (only_cond of_verdict _ IsRepeat (recorded_if_room scheme es []) (only_repeat of_verdict) (only_enters of_verdict refl scheme es []))
verdict_only scheme Itl es (Ack n) = only_ack scheme es n.value
verdict_only scheme Itl es (Received m t) = log_message of_verdict rows_of_verdict scheme es t.seconds m (log_codes_2 es m.from m.id m.body)
verdict_only scheme Itl es (Propose o) = refused_row
verdict_only scheme Itl es (Request t) = refused_row
verdict_only scheme Itl es (OpenAccount n) = refused_row
verdict_only scheme Itl es (CloseAccount n) = refused_row
verdict_only scheme (Registry c) es (Propose o) = only_refuse of_verdict (propose_refusals scheme c (registry.holding scheme c es) o) _ refl (only_offer scheme c es _ _)
verdict_only scheme (Registry c) es (Request t) = only_refuse of_verdict (registry.request_refusals c es t) _ refl (only_role of_verdict rows_of_verdict scheme c es t _ 0 _)
verdict_only scheme (Registry c) es (OpenAccount n) = only_refuse of_verdict (registry.open_refusals scheme c es n.value) _ refl (only_enters of_verdict refl scheme es [])
verdict_only scheme (Registry c) es (CloseAccount n) = only_refuse of_verdict (registry.close_refusals scheme c es n.value) _ refl (only_enters of_verdict refl scheme es [])
verdict_only scheme (Registry c) es (Ack n) = only_ack scheme es n.value
verdict_only scheme (Registry c) es (Received m t) = registry_message of_verdict rows_of_verdict scheme c es t.seconds m (registry_codes_2 c es m.id m.body)
verdict_only scheme (Registry c) es (CleanUp t) = refused_row
verdict_only scheme (Registry c) es (Eligible d may) = refused_row

pub never_stopped : (scheme : Scheme) (n : Node) (es : List Entry) (input : Input) → verdict scheme n es input ≡ IsRefused node_stopped → ⊥
never_stopped scheme n es input e = false≢true (verdict_only scheme n es input node_stopped e)

pub never_memory : (scheme : Scheme) (n : Node) (es : List Entry) (input : Input) → verdict scheme n es input ≡ IsRefused out_of_memory → ⊥
never_memory scheme n es input e = false≢true (verdict_only scheme n es input out_of_memory e)
