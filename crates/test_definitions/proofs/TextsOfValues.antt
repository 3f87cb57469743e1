-- The texts of codes, nodes, numbers, blocks, transactions and statuses, and texts that write none.
use Rattle.std.proofs.Common.{◌≡◌, ◌∙◌, ℕ, false, true, List, [], ◌∷◌, ◌++◌, length, refl, sym, ap, true≢false, arith, lit≤, lit<}
use Rattle.std.specs.Fmt.{digits}
use Rattle.std.specs.Prelude.{bytes_eq, codes}
use Rattle.units.specs.Block.{IsRawText, period_text, kind_text}
use Rattle.units.specs.Code.{code_text, node_text}
use Rattle.units.specs.Facts.{IsRange}
use Rattle.units.specs.Text.{IsNumberText, IsFreeOf}
use Rattle.units.specs.declared.block.Kind.TheVariants.{Aau, Tcer, Lcer}
use Rattle.units.specs.declared.block.Period.{Period}
use Rattle.units.specs.declared.block.Period.TheVariants.{First, Second}
use Rattle.units.specs.declared.block.RawBlock.{RawBlock}
use Rattle.units.specs.declared.code.Code.{Code}
use Rattle.units.specs.declared.code.Node.{Node}
use Rattle.units.specs.declared.code.Node.TheVariants.{Itl, Registry}
use Rattle.status.specs.Facts.{IsTransactionNumber}
use Rattle.status.specs.Id.{id_text}
use Rattle.status.specs.Status.{status_text}
use Rattle.status.specs.declared.status.Status.{Status}
use Rattle.status.specs.declared.status.Status.TheVariants.{Proposed, Checked, Accepted, Rejected, Terminated, Cancelled, Completed}
use Rattle.protocol.proofs.WorkedScheme.{nz}

-- ---- nodes, periods, kinds and numbers

pub nodes : (node_text Itl ≡ codes "ITL") × (node_text (Registry nz) ≡ codes "NZ")
nodes = (refl, refl)

-- two texts that the test of their bytes finds different
differ : (a b : List ℕ) → bytes_eq a b ≡ false → bytes_eq a a ≡ true → a ≡ b → ⊥
differ a b no_match match e = true≢false (sym match ∙ (ap (bytes_eq a) e ∙ no_match))

abbrev IsNoNode : List ℕ → Type 0
IsNoNode text = (n : Node) → text ≡ node_text n → ⊥

abbrev first_of : List ℕ → ℕ
first_of [] = 0
first_of (a ∷ rest) = a

small_code : IsNoNode (codes "nz")
small_code Itl e = differ _ _ refl refl e
small_code (Registry c) e = let same : ◌≡◌ {A = ℕ} 110 c.first = ap first_of e in let range = c.letters.0.1 in omega arith

small_log : IsNoNode (codes "itl")
small_log Itl e = differ _ _ refl refl e
small_log (Registry c) e = let same : ◌≡◌ {A = ℕ} 3 2 = ap length e in omega arith

code_and_space : IsNoNode (codes "NZ ")
code_and_space Itl e = differ _ _ refl refl e
code_and_space (Registry c) e = let same : ◌≡◌ {A = ℕ} 3 2 = ap length e in omega arith

no_text : IsNoNode []
no_text Itl e = differ _ _ refl refl e
no_text (Registry c) e = let same : ◌≡◌ {A = ℕ} 0 2 = ap length e in omega arith

pub no_nodes : IsNoNode (codes "nz") × IsNoNode (codes "itl") × IsNoNode (codes "NZ ") × IsNoNode []
no_nodes = (small_code, small_log, code_and_space, no_text)

pub periods : (period_text First ≡ codes "1") × (period_text Second ≡ codes "2")
periods = (refl, refl)

pub kinds : (kind_text Aau ≡ codes "AAU") × (kind_text Tcer ≡ codes "tCER") × (kind_text Lcer ≡ codes "lCER")
kinds = (refl, refl, refl)

-- the greatest number of 18 digits
pub greatest_number : IsNumberText (codes "999999999999999999") 999_999_999_999_999_999
unfolding digits
greatest_number = (refl, lit< tt)

-- the text before the first colon has none
pub cut_at_a_colon : (codes "AA:BB:CC" ≡ codes "AA" ++ 58 ∷ codes "BB:CC") × IsFreeOf 58 (codes "AA")
cut_at_a_colon = (refl, (λ e. omega arith, (λ e. omega arith, tt)))

-- ---- blocks

abbrev of_nz : ℕ → ℕ → RawBlock
of_nz first last = record { origin = nz; period = First; kind = Aau; first = first; last = last }

-- C is 67 and H is 72
abbrev ch : Code
ch = record { first = 67; second = 72; letters = ((lit≤ tt, lit≤ tt), (lit≤ tt, lit≤ tt)) }

pub a_block : IsRawText (codes "CH:2:101-250:tCER") (record { origin = ch; period = Second; kind = Tcer; first = 101; last = 250 })
unfolding digits
a_block = record { spelled = refl; first = lit< tt; last = lit< tt }

pub all_units_of_a_period : IsRawText (codes "NZ:1:1-999999999999999:AAU") (of_nz 1 999_999_999_999_999) × IsRange 1 999_999_999_999_999
unfolding digits
all_units_of_a_period = (record { spelled = refl; first = lit< tt; last = lit< tt }, (lit≤ tt, lit≤ tt, lit≤ tt))

pub the_last_unit : IsRawText (codes "NZ:1:999999999999999-999999999999999:AAU") (of_nz 999_999_999_999_999 999_999_999_999_999) × IsRange 999_999_999_999_999 999_999_999_999_999
unfolding digits
the_last_unit = (record { spelled = refl; first = lit< tt; last = lit< tt }, (lit≤ tt, lit≤ tt, lit≤ tt))

pub beyond_the_last_unit : IsRawText (codes "NZ:1:1-1000000000000000:AAU") (of_nz 1 1_000_000_000_000_000) × (IsRange 1 1_000_000_000_000_000 → ⊥)
unfolding digits
beyond_the_last_unit = (record { spelled = refl; first = lit< tt; last = lit< tt }, λ h. let e = h.2 in omega arith)

pub unit_zero : IsRawText (codes "NZ:1:0-5:AAU") (of_nz 0 5) × (IsRange 0 5 → ⊥)
unfolding digits
unit_zero = (record { spelled = refl; first = lit< tt; last = lit< tt }, λ h. let e = h.0 in omega arith)

pub backwards : IsRawText (codes "NZ:1:6-5:AAU") (of_nz 6 5) × (IsRange 6 5 → ⊥)
unfolding digits
backwards = (record { spelled = refl; first = lit< tt; last = lit< tt }, λ h. let e = h.1 in omega arith)

fourth : List ℕ → ℕ
fourth (a ∷ b ∷ c ∷ d ∷ rest) = d
fourth _ = 0

-- the text has a 3 in place of the period
third : (c : Code) (p : Period) (rest : List ℕ) → codes "NZ:3:1-5:AAU" ≡ code_text c ++ 58 ∷ (period_text p ++ rest) → ⊥
unfolding fourth
third c First rest e = let same : ◌≡◌ {A = ℕ} 51 49 = ap fourth e in omega arith
third c Second rest e = let same : ◌≡◌ {A = ℕ} 51 50 = ap fourth e in omega arith

pub no_third_period : (r : RawBlock) → IsRawText (codes "NZ:3:1-5:AAU") r → ⊥
no_third_period r h = third r.origin r.period _ h.spelled

-- ---- transactions

pub the_last_transaction : IsTransactionNumber 999_999 × ((h : IsTransactionNumber 999_999) → id_text (record { code = nz; number = 999_999; in_range = h }) ≡ codes "NZ999999")
unfolding digits
the_last_transaction = ((lit≤ tt, lit≤ tt), λ h. refl)

-- ---- statuses

pub names_of_statuses : (status_text Proposed ≡ codes "Proposed") × (status_text Checked ≡ codes "Checked") × (status_text Accepted ≡ codes "Accepted") × (status_text Rejected ≡ codes "Rejected")
    × (status_text Terminated ≡ codes "Terminated") × (status_text Cancelled ≡ codes "Cancelled") × (status_text Completed ≡ codes "Completed")
names_of_statuses = (refl, refl, refl, refl, refl, refl, refl)

abbrev NamesNone : List ℕ → Type 0
NamesNone text = (s : Status) → text ≡ status_text s → ⊥

small_letter : NamesNone (codes "proposed")
small_letter Proposed e = differ _ _ refl refl e
small_letter Checked e = differ _ _ refl refl e
small_letter Accepted e = differ _ _ refl refl e
small_letter Rejected e = differ _ _ refl refl e
small_letter Terminated e = differ _ _ refl refl e
small_letter Cancelled e = differ _ _ refl refl e
small_letter Completed e = differ _ _ refl refl e

space_at_the_end : NamesNone (codes "Proposed ")
space_at_the_end Proposed e = differ _ _ refl refl e
space_at_the_end Checked e = differ _ _ refl refl e
space_at_the_end Accepted e = differ _ _ refl refl e
space_at_the_end Rejected e = differ _ _ refl refl e
space_at_the_end Terminated e = differ _ _ refl refl e
space_at_the_end Cancelled e = differ _ _ refl refl e
space_at_the_end Completed e = differ _ _ refl refl e

one_letter_less : NamesNone (codes "Canceled")
one_letter_less Proposed e = differ _ _ refl refl e
one_letter_less Checked e = differ _ _ refl refl e
one_letter_less Accepted e = differ _ _ refl refl e
one_letter_less Rejected e = differ _ _ refl refl e
one_letter_less Terminated e = differ _ _ refl refl e
one_letter_less Cancelled e = differ _ _ refl refl e
one_letter_less Completed e = differ _ _ refl refl e

no_letter : NamesNone []
no_letter Proposed e = differ _ _ refl refl e
no_letter Checked e = differ _ _ refl refl e
no_letter Accepted e = differ _ _ refl refl e
no_letter Rejected e = differ _ _ refl refl e
no_letter Terminated e = differ _ _ refl refl e
no_letter Cancelled e = differ _ _ refl refl e
no_letter Completed e = differ _ _ refl refl e

pub names_of_no_status : NamesNone (codes "proposed") × NamesNone (codes "Proposed ") × NamesNone (codes "Canceled") × NamesNone []
names_of_no_status = (small_letter, space_at_the_end, one_letter_less, no_letter)
