-- Which records of a node are a script's orders: journals, scripts and answers as values.
use Rattle.std.proofs.Common.{◌≡◌, ◌≢◌, ◌<◌, ◌∙◌, ◌+◌, ℕ, zero, suc, All, List, [], ◌∷◌, ◌++◌, true, false, None, length, inl, inr, refl, ap, subst, arith, lit<, true≢false}
use Rattle.std.proofs.lemmas.Option.{slice_get_within}
use Rattle.units.specs.declared.code.Node.{Node}
use Rattle.units.specs.declared.code.Node.TheVariants.{Itl, Registry}
use Rattle.units.specs.declared.refusal.Refusal.{Refusal}
use Rattle.protocol.specs.Input.{Input}
use Rattle.protocol.specs.Input.TheVariants as input
use Rattle.protocol.specs.NotifiedStatus.TheVariants as notified
use Rattle.protocol.specs.declared.node_core.Stepped.TheVariants.{Recorded}
use Rattle.protocol.proofs.WorkedScheme.{nz, jp, nz_node, jp_node, block, nz1, scheme_s, first_of_may, number, notification}
use Rattle.node_state.specs.Views.{StateView}
use Rattle.node_state.specs.declared.notes.Ticket.{Ticket}
use Rattle.node_state.specs.declared.notes.Told.TheVariants.{Step, Status, Refused}
use Rattle.input_lines.specs.declared.instruction.Instruction.{Instruction}
use Rattle.input_lines.specs.declared.instruction.Instruction.TheVariants.{Order, Status as Ask}
use Rattle.input_lines.specs.declared.script_line.ScriptLine.{ScriptLine}
use Rattle.serving.specs.Orders.{AreOrders}
use Rattle.serving.specs.declared.answer.ScriptAnswer.{ScriptAnswer}
use Rattle.serving.specs.declared.answer.ScriptAnswer.TheVariants.{NotPossible, Told}
use Rattle.sessions.specs.Orders.{was_ordered}
use Rattle.run.specs.Runs.{HaveOthers}
use Rattle.serving.specs.Committed.{orders_of, since}

abbrev close : Input
close = input.CloseAccount (number 2 (lit< tt))

abbrev transfer : Input
transfer = input.Propose (record { account = 1; acquirer = jp; to_account = 7; units = block 1 1 ∷ [] })

abbrev acknowledgement : Input
acknowledgement = input.Ack (number 0 (lit< tt))

abbrev message : Input
message = input.Received (notification Itl nz_node nz1 notified.Accepted) first_of_may

abbrev at : ℕ → Input → Ticket
at place i = record { place = place; input = i }

-- ---- the records of a node that were ordered

-- the account was closed before the opening; the last record isn't committed
abbrev held : StateView
held = record { scheme = scheme_s; node = nz_node; journal = close ∷ transfer ∷ acknowledgement ∷ message ∷ close ∷ transfer ∷ []; committed = 5; opening = 1; runs = true }

pub ordered_since_opening : orders_of held ≡ at 1 transfer ∷ at 4 close ∷ []
ordered_since_opening = refl

-- each kind of order is one
pub kinds_of_orders : orders_of (record held { journal = transfer ∷ input.Request nz1 ∷ input.OpenAccount (number 2 (lit< tt)) ∷ input.CleanUp first_of_may ∷ input.Eligible nz true ∷ []; opening = 0 })
    ≡ at 0 transfer ∷ at 1 (input.Request nz1) ∷ at 2 (input.OpenAccount (number 2 (lit< tt))) ∷ at 3 (input.CleanUp first_of_may) ∷ at 4 (input.Eligible nz true) ∷ []
kinds_of_orders = refl

-- ---- the records of a node that were not ordered

pub since_opening : since held ≡ transfer ∷ acknowledgement ∷ message ∷ close ∷ []
since_opening = refl

abbrev log : StateView
log = record { scheme = scheme_s; node = Itl; journal = message ∷ []; committed = 0; opening = 0; runs = true }

abbrev jp_state : StateView
jp_state = record { scheme = scheme_s; node = jp_node; journal = message ∷ []; committed = 1; opening = 1; runs = true }

abbrev all_states : List StateView
all_states = log ∷ jp_state ∷ held ∷ []

-- the acknowledgement and the message since NZ's opening must be inputs that threads take
pub others_are_taken : (Takes : Input → Type 0) → HaveOthers Takes scheme_s all_states → Takes acknowledgement × Takes message
others_are_taken Takes have = let nz = have nz_node 2 held refl refl in (nz 1 close (lit< tt) refl, nz 2 close (lit< tt) refl)

-- and no other records must: those recorded before, not committed yet, or ordered
module _ (Takes : Input → Type 0) where
  abbrev Such : Input → Type 0
  Such i = was_ordered i ≡ false → Takes i

  none : All Such []
  none k d low = absurd (omega (arith, low))

  of_nz : Takes acknowledgement → Takes message → All Such (since held)
  of_nz acknowledged received zero d low is = absurd (true≢false is)
  of_nz acknowledged received (suc zero) d low is = acknowledged
  of_nz acknowledged received (suc (suc zero)) d low is = received
  of_nz acknowledged received (suc (suc (suc zero))) d low is = absurd (true≢false is)
  of_nz acknowledged received (suc (suc (suc (suc k)))) d low is = absurd (omega (arith, low))

  pub taken_are_all : Takes acknowledgement → Takes message → HaveOthers Takes scheme_s all_states
  taken_are_all acknowledged received n zero h place is = let same : log ≡ h = cc (is) in subst (λ s. All Such (since s)) same none
  taken_are_all acknowledged received n (suc zero) h place is = let same : jp_state ≡ h = cc (is) in subst (λ s. All Such (since s)) same none
  taken_are_all acknowledged received n (suc (suc zero)) h place is = let same : held ≡ h = cc (is) in subst (λ s. All Such (since s)) same (of_nz acknowledged received)
  taken_are_all acknowledged received n (suc (suc (suc k))) h place is = absurd (omega (arith, slice_get_within all_states (suc (suc (suc k))) h is))

-- ---- scripts

abbrev told : ℕ → ScriptAnswer
told place = Told (Step (Recorded place))

abbrev refused : ℕ → ScriptAnswer
refused code = Told (Refused (record { code = code }))

abbrev to : Node → Instruction → ScriptLine
to n i = record { node = n; instruction = i }

-- NZ transfers, JP closes an account that it hasn't, a question, and NZ closes an account
abbrev lines : List ScriptLine
lines = to nz_node (Order transfer) ∷ to jp_node (Order close) ∷ to nz_node (Ask nz1) ∷ to nz_node (Order close) ∷ []

abbrev answers : List ScriptAnswer
answers = told 1 ∷ refused 113 ∷ Told (Status None) ∷ told 4 ∷ []

abbrev letter : Node → ℕ
letter Itl = 0
letter (Registry c) = c.first

jp_is_not_nz : jp_node ≢ nz_node
jp_is_not_nz e = let same : ◌≡◌ {A = ℕ} 74 78 = ap letter e in omega arith

pub orders_of_nz : AreOrders nz_node lines answers (at 1 transfer ∷ at 4 close ∷ [])
orders_of_nz = (
  at 1 transfer ∷ [],
  at 4 close ∷ [],
  refl,
  ((λ here. refl), (λ other. absurd (other refl))),
  (
    [],
    at 4 close ∷ [],
    refl,
    ((λ here. absurd (jp_is_not_nz here)), (λ other. refl)),
    ([], at 4 close ∷ [], refl, ((λ here. refl), (λ other. refl)), (at 4 close ∷ [], [], refl, ((λ here. refl), (λ other. absurd (other refl))), refl)),
  ),
)

abbrev one_line : ScriptAnswer → List Ticket → Type 0
one_line answer records = AreOrders nz_node (to nz_node (Order transfer) ∷ []) (answer ∷ []) records

-- the records that one line left, if its node returned that result
same_records : (records first rest : List Ticket) → records ≡ first ++ rest → rest ≡ [] → (expected : List Ticket) → first ≡ expected → records ≡ expected ++ []
same_records records first rest all none expected is = all ∙ (ap (λ (r : List Ticket). first ++ r) none ∙ ap (λ (f : List Ticket). f ++ []) is)

count_is : (records : List Ticket) (expected : List Ticket) → records ≡ expected ++ [] → length records ≡ length (expected ++ [])
count_is records expected e = ap (λ (r : List Ticket). length r) e

pub not_twice : one_line (told 1) (at 1 transfer ∷ at 2 transfer ∷ []) → ⊥
not_twice h = let two : ◌≡◌ {A = ℕ} 2 1 = count_is (at 1 transfer ∷ at 2 transfer ∷ []) (at 1 transfer ∷ []) (same_records _ h.0 h.1 h.2 h.4 (at 1 transfer ∷ []) (h.3.0 refl)) in omega arith

pub not_left_out : one_line (told 1) [] → ⊥
not_left_out h = let none : ◌≡◌ {A = ℕ} 0 1 = count_is [] (at 1 transfer ∷ []) (same_records [] h.0 h.1 h.2 h.4 (at 1 transfer ∷ []) (h.3.0 refl)) in omega arith

pub not_if_refused : one_line (refused 105) (at 1 transfer ∷ []) → ⊥
not_if_refused h =
    elim (h.3.0 refl) [
      | inl none ↦ let one : ◌≡◌ {A = ℕ} 1 0 = count_is (at 1 transfer ∷ []) [] (same_records _ h.0 h.1 h.2 h.4 [] none) in omega arith
      | inr some ↦ let code : ◌≡◌ {A = ℕ} 105 48 = ap (λ (r : Refusal). r.code) some.0 in omega arith
    ]

-- a node that stopped may have recorded it
pub stopped_before_or_after : one_line (refused 48) [] × one_line (refused 48) (at 1 transfer ∷ [])
stopped_before_or_after = (
  ([], [], refl, ((λ here. inl refl), (λ other. refl)), refl),
  (at 1 transfer ∷ [], [], refl, ((λ here. inr (refl, (1, refl))), (λ other. absurd (other refl))), refl),
)

pub not_possible_is_none : one_line NotPossible []
not_possible_is_none = ([], [], refl, refl, refl)
