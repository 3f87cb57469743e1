-- The words of orders and questions: as a node's operator writes them, and as a script does, with the node's name.
use Rattle.std.proofs.Common.{◌≡◌, ℕ, suc, false, true, List, [], ◌∷◌, codes, length, refl, ap, arith, lit≤, lit<}
use Rattle.std.specs.Fmt.{digits}
use Rattle.units.specs.declared.code.Node.TheVariants.{Itl}
use Rattle.status.specs.Moment.{IsMomentText}
use Rattle.status.specs.declared.moment.Moment.{Moment}
use Rattle.status.specs.declared.status.Status.TheVariants as status
use Rattle.wire.specs.declared.input.Input.{Input}
use Rattle.wire.specs.declared.input.Input.TheVariants.{Propose, Request, OpenAccount, CloseAccount, Ack, CleanUp, Eligible}
use Rattle.protocol.proofs.WorkedScheme.{nz, jp, nz_node, jp_node, block, nz1, number}
use Rattle.input_lines.specs.Instructions.{AreInstructionWords, AreScriptWords}
use Rattle.input_lines.specs.declared.instruction.Instruction.TheVariants.{Order, Status, Until}

abbrev day : List ℕ
day = codes "2012-05-02T00:00:00Z"

abbrev transfer : Input
transfer = Propose (record { account = 1; acquirer = jp; to_account = 7; units = block 1 100 ∷ [] })

-- ---- without the node's name

pub a_transfer : AreInstructionWords (codes "propose" ∷ codes "1" ∷ codes "JP" ∷ codes "7" ∷ codes "NZ:1:1-100:AAU" ∷ []) (Order transfer)
unfolding digits
a_transfer = (refl, record { account = lit< tt; to_account = lit< tt; units = ((lit< tt, lit< tt), tt) })

pub a_request : AreInstructionWords (codes "request" ∷ codes "NZ1" ∷ []) (Order (Request nz1))
unfolding digits
a_request = refl

pub an_opening : AreInstructionWords (codes "open" ∷ codes "2" ∷ []) (Order (OpenAccount (number 2 (lit< tt))))
unfolding digits
an_opening = refl

pub a_closing : AreInstructionWords (codes "close" ∷ codes "2" ∷ []) (Order (CloseAccount (number 2 (lit< tt))))
unfolding digits
a_closing = refl

pub a_clean_up : (m : Moment) → IsMomentText day m → AreInstructionWords (codes "clean-up" ∷ day ∷ []) (Order (CleanUp m))
a_clean_up m is = record { text = day; spelled = refl; names = is }

pub an_eligibility : AreInstructionWords (codes "eligible" ∷ codes "NZ" ∷ codes "yes" ∷ []) (Order (Eligible nz true)) × AreInstructionWords (codes "eligible" ∷ codes "NZ" ∷ codes "no" ∷ []) (Order (Eligible nz false))
an_eligibility = (refl, refl)

pub a_question : AreInstructionWords (codes "status" ∷ codes "NZ1" ∷ []) (Status nz1)
unfolding digits
a_question = refl

-- one turn at least, and a million at most
pub a_wait : AreInstructionWords (codes "until" ∷ codes "NZ1" ∷ codes "Completed" ∷ codes "1" ∷ []) (Until nz1 status.Completed 1)
    × AreInstructionWords (codes "until" ∷ codes "NZ1" ∷ codes "Completed" ∷ codes "1000000" ∷ []) (Until nz1 status.Completed 1_000_000)
unfolding digits
a_wait = ((refl, lit≤ tt, lit≤ tt), (refl, lit≤ tt, lit≤ tt))

pub no_wait : ((words : List (List ℕ)) → AreInstructionWords words (Until nz1 status.Completed 0) → ⊥) × ((words : List (List ℕ)) → AreInstructionWords words (Until nz1 status.Completed 1_000_001) → ⊥)
no_wait = ((λ words is. let low = is.1 in omega arith), (λ words is. let high = is.2 in omega arith))

-- no line gives a node an acknowledgement
pub no_acknowledgement : (words : List (List ℕ)) → AreInstructionWords words (Order (Ack (number 0 (lit< tt)))) → ⊥
no_acknowledgement words is = is

-- ---- with the node's name, which stands after the first word

pub a_transfer_of_nz : AreScriptWords (codes "propose" ∷ codes "NZ" ∷ codes "1" ∷ codes "JP" ∷ codes "7" ∷ codes "NZ:1:1-100:AAU" ∷ []) nz_node (Order transfer)
a_transfer_of_nz = record { first = codes "propose"; others = codes "1" ∷ codes "JP" ∷ codes "7" ∷ codes "NZ:1:1-100:AAU" ∷ []; spelled = refl; told = a_transfer }

pub a_question_to_jp : AreScriptWords (codes "status" ∷ codes "JP" ∷ codes "NZ1" ∷ []) jp_node (Status nz1)
a_question_to_jp = record { first = codes "status"; others = codes "NZ1" ∷ []; spelled = refl; told = a_question }

-- the lines of orders that only the log takes have no name
pub orders_of_the_log : ((m : Moment) → IsMomentText day m → AreScriptWords (codes "clean-up" ∷ day ∷ []) Itl (Order (CleanUp m))) × AreScriptWords (codes "eligible" ∷ codes "NZ" ∷ codes "no" ∷ []) Itl (Order (Eligible nz false))
orders_of_the_log = ((λ m is. (refl, a_clean_up m is)), (refl, refl))

-- an account is opened at a node, and without its name the line is no script's
pub no_nameless_opening : AreScriptWords (codes "open" ∷ codes "2" ∷ []) nz_node (Order (OpenAccount (number 2 (lit< tt)))) → ⊥
no_nameless_opening is = let two : ◌≡◌ {A = ℕ} 2 (suc (suc (length is.others))) = ap (λ (ws : List (List ℕ)). length ws) is.spelled in let more : ◌≡◌ {A = ℕ} (suc (length is.others)) 2 = ap (λ (ws : List (List ℕ)). length ws) is.told in omega (arith, two, more)
