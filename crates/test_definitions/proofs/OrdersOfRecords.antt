-- Records that are next in their turn, and journals that can't be followed; journals that replay, and the first record
-- of one that doesn't; and codes with which nothing is refused.
use Rattle.std.proofs.Common.{◌≡◌, ℕ, zero, suc, ◌<◌, true, false, List, [], ◌∷◌, Option, Some, inl, inr, refl, ap, subst, arith}
use Rattle.std.specs.Prelude.{Result, Ok, Err, Contains, unwrap_or}
use Rattle.units.specs.declared.code.Node.{Node}
use Rattle.units.specs.declared.code.Node.TheVariants.{Itl, Registry}
use Rattle.units.specs.declared.refusal.Refusal.{Refusal}
use Rattle.wire.specs.declared.input.Input.{Input}
use Rattle.wire.specs.declared.input.Input.TheVariants.{Propose}
use Rattle.wire.specs.declared.message.ProposalStatus.TheVariants as proposal
use Rattle.wire.specs.declared.notified.NotifiedStatus.TheVariants as notified
use Rattle.protocol.specs.declared.event.WorldEvent.TheVariants.{Take, Commit, Post}
use Rattle.protocol.specs.declared.node_core.Stepped.{Stepped}
use Rattle.protocol.specs.declared.node_core.Stepped.TheVariants.{Recorded}
use Rattle.protocol.specs.declared.replay_fault.ReplayFault.TheVariants.{NotRecorded, NoMemory}
use Rattle.protocol.specs.Cores.{HasFault, IsAt, IsExpectedOrNoMemory, IsFirstNotRecorded, Replays, answer}
use Rattle.protocol.specs.Plausible.{AllSent, IsPlausible}
use Rattle.protocol.specs.Refusing.{MessagesRefusedBy, NeverRefusedBy}
use Rattle.protocol.specs.Verdict.{verdict}
use Rattle.protocol.specs.Weave.{ArePrefixes, Gives, HasNext, InTurn, IsNext, IsQuiet, IsStuck, Placed, Projects, WasSent, journals_of}
use Rattle.protocol.specs.World.{opening, step}
use Rattle.protocol.proofs.WorkedScheme.{nz, jp, nz_node, jp_node, block, nz1, scheme_s, first_of_may, propose, commit, notification, after}
use Rattle.test_definitions.proofs.ShortNames.{au, to_jp, proposes, comes, orders, again}

abbrev order : Input
order = orders 1 jp 7 (block 1 1 ∷ [])

-- the proposal that NZ sends for it, as the log receives it
abbrev proposed : Input
proposed = comes (proposes nz_node Itl nz1 proposal.Proposed (to_jp (block 1 1 ∷ [])))

abbrev placed : Node → Input → Placed
placed n input = record { node = n; input = input }

-- no node has a record
abbrev nothing : Node → List Input
nothing n = []

-- ---- received after it was sent, by the node to which it was sent

abbrev nz_ordered : Node → List Input
nz_ordered = journals_of (placed nz_node order ∷ [])

pub was_sent : WasSent scheme_s nz_ordered Itl proposed × WasSent scheme_s nothing nz_node order
unfolding verdict
was_sent = ((refl, (0, (omega arith), refl)), tt)

pub sent_by_nobody : WasSent scheme_s nothing Itl proposed → ⊥
unfolding verdict
sent_by_nobody h = let below : h.1.0 < 0 = h.1.1 in omega arith

pub sent_to_another : WasSent scheme_s nz_ordered jp_node proposed → ⊥
sent_to_another h = let e : Itl ≡ jp_node = h.0 in cc (e)

-- ---- next in its turn

pub next_records : IsNext scheme_s nothing (placed nz_node order) × IsNext scheme_s nz_ordered (placed Itl proposed)
unfolding verdict
next_records = ((refl, (_, refl), tt), (refl, (_, refl), (refl, (0, (omega arith), refl))))

-- nobody proposed it
pub refused_is_not_next : IsNext scheme_s nothing (placed nz_node (comes (notification Itl nz_node nz1 notified.Accepted))) → ⊥
unfolding verdict
refused_is_not_next h = cc (h.1.1)

pub not_next_at_a_stranger : IsNext scheme_s nothing (placed (Registry au) order) → ⊥
not_next_at_a_stranger h = let e : false ≡ true = h.0 in cc (e)

pub not_next_before_it_is_sent : IsNext scheme_s nothing (placed Itl proposed) → ⊥
unfolding verdict
not_next_before_it_is_sent h = sent_by_nobody h.2

pub in_turn : InTurn scheme_s (placed Itl proposed ∷ placed nz_node order ∷ [])
unfolding verdict
in_turn = (next_records.1, (next_records.0, tt))

pub out_of_turn : InTurn scheme_s (placed nz_node order ∷ placed Itl proposed ∷ []) → ⊥
unfolding verdict
out_of_turn h = not_next_before_it_is_sent h.1.0

-- ---- journals that go on

abbrev both : Node → List Input
both = journals_of (placed Itl proposed ∷ placed nz_node order ∷ [])

pub goes_on : HasNext scheme_s nothing both × HasNext scheme_s nz_ordered both
unfolding verdict
goes_on = ((placed nz_node order, next_records.0, ([], refl)), (placed Itl proposed, next_records.1, ([], refl)))

pub longer_is_no_prefix : ArePrefixes nz_ordered nothing → ⊥
longer_is_no_prefix h = let e : [] ≡ order ∷ (h nz_node).0 = (h nz_node).1 in cc (e)

abbrev account_in : List Input → ℕ
account_in (Propose o ∷ is) = o.account
account_in _ = 0

pub other_is_no_prefix : ArePrefixes nz_ordered (λ n. orders 2 jp 7 (block 1 1 ∷ []) ∷ []) → ⊥
other_is_no_prefix h = let e : ◌≡◌ {A = ℕ} 2 1 = ap account_in (h nz_node).1 in omega arith

-- ---- which event gives a node an input

pub given : Gives (opening scheme_s) (Take nz_node order) nz_node order
given = (refl, refl)

pub given_by_none : (Gives (opening scheme_s) (Commit nz_node 1) nz_node order → ⊥) × (Gives (opening scheme_s) (Post nz_node 0) nz_node order → ⊥)
given_by_none = (λ h. h, λ h. h)

abbrev letter : Node → ℕ
letter Itl = 0
letter (Registry c) = c.first

pub given_to_another : Gives (opening scheme_s) (Take jp_node order) nz_node order → ⊥
given_to_another h = let e : ◌≡◌ {A = ℕ} 74 78 = ap letter h.0 in omega arith

-- ---- journals that events lead to, worlds that are stuck, and quiet ones

abbrev ordered : Node → List Input
ordered n = order ∷ []

pub no_events_no_journals : Projects scheme_s [] ordered → ⊥
no_events_no_journals h = let e : [] ≡ order ∷ [] = (h nz_node).0 in cc (e)

pub a_tail_is_no_journal : Projects scheme_s (propose nz 1 jp 7 (block 1 1 ∷ []) ∷ []) nothing → ⊥
unfolding step verdict
a_tail_is_no_journal h = let e : order ∷ [] ≡ [] = (h nz_node).1 in cc (e)

pub not_stuck : IsStuck (opening scheme_s) ordered → ⊥
unfolding step verdict
not_stuck h = h nz_node order [] (Take nz_node order) 0 refl (refl, refl) refl

pub not_quiet_before_a_post : IsQuiet (after (propose nz 1 jp 7 (block 1 1 ∷ []) ∷ commit nz_node 1 ∷ [])) → ⊥
unfolding step verdict
not_quiet_before_a_post q = let found = q.posted nz_node 0 _ refl in let below : found.0 < 0 = found.1 in omega arith

-- ---- journals that replay, and those that don't

order_recorded : (i : Input) → Some order ≡ Some i → answer scheme_s nz_node [] i ≡ Ok (Recorded 0)
unfolding verdict
order_recorded i e = subst (λ (o : Option Input). answer scheme_s nz_node [] (unwrap_or o order) ≡ Ok (Recorded 0)) e refl

pub replays_one : Replays scheme_s nz_node (order ∷ [])
unfolding verdict
replays_one zero input e = order_recorded input e
replays_one (suc k) input e = absurd (cc)

-- the units are reserved by the first order
pub replays_not : Replays scheme_s nz_node (order ∷ order ∷ []) → ⊥
unfolding verdict
replays_not h = cc (h 1 order refl)

pub second_not_recorded : IsFirstNotRecorded scheme_s nz_node (order ∷ order ∷ []) 1
unfolding verdict
second_not_recorded = record { input = order; is = refl; refused = λ e. cc (e); before = replays_one }

-- the inputs after it play no part
pub second_of_three_not_recorded : IsFirstNotRecorded scheme_s nz_node (order ∷ order ∷ order ∷ []) 1
unfolding verdict
second_of_three_not_recorded = record { input = order; is = refl; refused = λ e. cc (e); before = replays_one }

pub first_is_recorded : IsFirstNotRecorded scheme_s nz_node (order ∷ order ∷ []) 0 → ⊥
unfolding verdict
first_is_recorded bad = bad.refused (order_recorded bad.input bad.is)

pub faults_of_journals : HasFault scheme_s nz_node (order ∷ order ∷ []) (NotRecorded 1) × HasFault scheme_s nz_node (order ∷ []) NoMemory
unfolding verdict
faults_of_journals = (second_not_recorded, tt)

pub faults_at : IsAt 1 (NotRecorded 1) × IsAt 1 NoMemory × (IsAt 1 (NotRecorded 2) → ⊥)
faults_at = (refl, tt, λ e. let same : ◌≡◌ {A = ℕ} 2 1 = e in omega arith)

-- ---- what is expected, or out of memory in its place

abbrev expected : Result Stepped Refusal
expected = Ok (Recorded 0)

pub expected_or_memory : IsExpectedOrNoMemory expected expected × IsExpectedOrNoMemory (Err (record { code = 50 })) expected
expected_or_memory = (inl refl, inr refl)

pub repeat_is_not_expected : IsExpectedOrNoMemory again expected → ⊥
repeat_is_not_expected (inl e) = cc (e)
repeat_is_not_expected (inr e) = cc (e)

abbrev code_of : Result Stepped Refusal → ℕ
code_of (Ok x) = 0
code_of (Err r) = r.code

pub refusal_is_not_expected : IsExpectedOrNoMemory (Err (record { code = 46 })) expected → ⊥
refusal_is_not_expected (inl e) = cc (e)
refusal_is_not_expected (inr e) = let code : ◌≡◌ {A = ℕ} 46 50 = ap code_of e in omega arith

-- ---- journals that aren't even plausible

pub sent_by_the_whole : AllSent scheme_s both (proposed ∷ []) Itl
unfolding verdict
sent_by_the_whole = ((refl, (0, (omega arith), refl)), tt)

pub not_plausible_at_a_stranger : IsPlausible scheme_s ordered → ⊥
not_plausible_at_a_stranger h = let e : order ∷ [] ≡ [] = (h (Registry au)).0 refl in cc (e)

-- ---- codes

pub refused_by_42 : NeverRefusedBy 42 → ⊥
unfolding verdict
refused_by_42 h = h scheme_s Itl [] (comes (notification nz_node jp_node nz1 notified.Completed)) refl

only_43 : Contains {X = ℕ} (43 ∷ []) 42 → ⊥
only_43 (zero, below, e) = let same : ◌≡◌ {A = ℕ} 43 42 = e in omega arith
only_43 (suc k, below, e) = omega arith

pub refused_by_more : MessagesRefusedBy (43 ∷ []) → ⊥
unfolding verdict
refused_by_more h = only_43 (h scheme_s Itl [] (notification nz_node jp_node nz1 notified.Completed) first_of_may 42 refl)
