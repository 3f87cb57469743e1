-- Orders to transfer units: every cause of refusal at once, then one cause less each time; the limits from both sides.
use Rattle.std.proofs.Common.{◌≡◌, true, false, List, [], ◌∷◌, ◌++◌, Some, None, refl, lit<}
use Rattle.std.specs.Prelude.{◌==◌, ◌&&◌}
use Rattle.units.specs.Unit.{same_kind}
use Rattle.units.specs.declared.block.Kind.TheVariants.{Aau, Rmu}
use Rattle.units.specs.declared.block.RawBlock.{RawBlock}
use Rattle.units.specs.declared.code.Node.TheVariants.{Itl}
use Rattle.status.specs.Id.{id_at, number_from}
use Rattle.status.specs.Order.{Order}
use Rattle.status.specs.declared.id.TransactionId.{TransactionId}
use Rattle.status.specs.declared.status.Status.TheVariants.{Proposed}
use Rattle.wire.specs.declared.input.Input.{Input}
use Rattle.wire.specs.declared.input.Input.TheVariants.{CloseAccount, OpenAccount, CleanUp, Eligible}
use Rattle.wire.specs.declared.message.ProposalStatus.TheVariants as proposal
use Rattle.protocol.specs.AtRegistry.{new_transfer_verdict}
use Rattle.protocol.specs.Checks.{Holding, codes_of, propose_refusals}
use Rattle.protocol.specs.Deciding.{IsRefused}
use Rattle.protocol.specs.Verdict.{verdict, history}
use Rattle.protocol.proofs.WorkedScheme.{nz, jp, nz_node, block, block_of, nz1, nz2, scheme_s, scheme_of_one, first_of_may, number}
use Rattle.test_definitions.proofs.ShortNames.{au, nz3, to_jp, proposes, orders, Answer, recorded, refused, answers, moves}

-- ---- one cause less each time: units 91 to 100 are reserved, and account 2 is closed

abbrev before : List Input
before = orders 1 jp 7 (block 91 100 ∷ []) ∷ CloseAccount (number 2 (lit< tt)) ∷ []

-- the faults of each block, hidden behind a later one: reserved, not held, there twice, out of range
abbrev reserved_block : List RawBlock
reserved_block = block 95 95 ∷ []

abbrev not_held : List RawBlock
not_held = reserved_block ++ block 101 101 ∷ []

abbrev overlapping : List RawBlock
overlapping = not_held ++ block 1 3 ∷ block 3 4 ∷ []

abbrev out_of_range : List RawBlock
out_of_range = overlapping ++ block 6 5 ∷ []

abbrev twelve : List RawBlock
twelve = block 11 11 ∷ block 12 12 ∷ block 13 13 ∷ block 14 14 ∷ block 15 15 ∷ block 16 16 ∷ block 17 17 ∷ block 18 18 ∷ block 19 19 ∷ block 20 20 ∷ block 21 21 ∷ block 22 22 ∷ []

abbrev after : List Input → List Answer
after inputs = answers scheme_s nz_node before inputs

pub block_count_before_range : after (orders 2 au 0 (twelve ++ out_of_range) ∷ orders 2 au 0 (block 23 24 ∷ out_of_range) ∷ []) ≡ refused 101 ∷ refused 102 ∷ []
unfolding verdict
block_count_before_range = refl

pub range_before_overlap : after (orders 2 au 0 out_of_range ∷ orders 2 au 0 overlapping ∷ []) ≡ refused 102 ∷ refused 103 ∷ []
unfolding verdict
range_before_overlap = refl

pub overlap_before_account : after (orders 2 au 0 overlapping ∷ orders 2 au 0 not_held ∷ []) ≡ refused 103 ∷ refused 104 ∷ []
unfolding verdict
overlap_before_account = refl

pub account_before_holding : after (orders 2 au 0 not_held ∷ orders 1 au 0 not_held ∷ []) ≡ refused 104 ∷ refused 105 ∷ []
unfolding verdict
account_before_holding = refl

pub holding_before_reservation : after (orders 1 au 0 not_held ∷ orders 1 au 0 reserved_block ∷ []) ≡ refused 105 ∷ refused 106 ∷ []
unfolding verdict
holding_before_reservation = refl

pub reservation_before_acquirer : after (orders 1 au 0 reserved_block ∷ orders 1 au 0 (block 1 3 ∷ []) ∷ []) ≡ refused 106 ∷ refused 107 ∷ []
unfolding verdict
reservation_before_acquirer = refl

pub acquirer_before_receiving_account : after (orders 1 au 0 (block 1 3 ∷ []) ∷ orders 1 jp 0 (block 1 3 ∷ []) ∷ orders 1 jp 7 (block 1 3 ∷ []) ∷ []) ≡ refused 107 ∷ refused 108 ∷ recorded 2 ∷ []
unfolding verdict
acquirer_before_receiving_account = refl

-- the same by the other half of each cause: no block, the number 0, an account that isn't there, a kind, this registry,
-- and a number that is too great
pub other_halves : after (orders 3 nz 1_000_000_000 []
    ∷ orders 3 nz 1_000_000_000 (block 95 95 ∷ block_of Rmu 1 1 ∷ block 1 1 ∷ block 0 0 ∷ [])
    ∷ orders 3 nz 1_000_000_000 (block 95 95 ∷ block_of Rmu 1 1 ∷ block 1 1 ∷ [])
    ∷ orders 3 nz 1_000_000_000 (block 95 95 ∷ block_of Rmu 1 1 ∷ [])
    ∷ orders 1 nz 1_000_000_000 (block 95 95 ∷ block_of Rmu 1 1 ∷ [])
    ∷ orders 1 nz 1_000_000_000 (block 95 95 ∷ [])
    ∷ orders 1 nz 1_000_000_000 (block 1 1 ∷ [])
    ∷ orders 1 jp 1_000_000_000 (block 1 1 ∷ [])
    ∷ orders 1 jp 7 (block 1 1 ∷ [])
    ∷ [])
    ≡ refused 101 ∷ refused 102 ∷ refused 103 ∷ refused 104 ∷ refused 105 ∷ refused 106 ∷ refused 107 ∷ refused 108 ∷ recorded 2 ∷ []
unfolding verdict
other_halves = refl

-- one block of many is enough for each cause, whichever it is
pub one_of_many : after (orders 1 jp 7 (block 1 1 ∷ block 6 5 ∷ block 2 2 ∷ [])
    ∷ orders 1 jp 7 (block 1 2 ∷ block 5 5 ∷ block 2 3 ∷ [])
    ∷ orders 1 jp 7 (block 1 2 ∷ block 100 101 ∷ [])
    ∷ orders 1 jp 7 (block 1 2 ∷ block_of Rmu 3 3 ∷ block 4 4 ∷ [])
    ∷ orders 1 jp 7 (block 1 2 ∷ block 90 91 ∷ block 4 4 ∷ [])
    ∷ [])
    ≡ refused 102 ∷ refused 103 ∷ refused 105 ∷ refused 105 ∷ refused 106 ∷ []
unfolding verdict
one_of_many = refl

-- units that another account has, reserved or not
pub other_account : answers scheme_s nz_node (orders 1 jp 7 (block 91 100 ∷ []) ∷ []) (orders 2 jp 7 (block 1 1 ∷ []) ∷ orders 2 jp 7 (block 95 95 ∷ []) ∷ []) ≡ refused 105 ∷ refused 105 ∷ []
unfolding verdict
other_account = refl

-- a full journal comes after all of them
pub full_comes_last : answers scheme_of_one nz_node (CloseAccount (number 2 (lit< tt)) ∷ []) (orders 1 jp 7 [] ∷ orders 1 jp 7 (block 6 5 ∷ []) ∷ orders 1 jp 7 (block 1 1 ∷ block 1 1 ∷ []) ∷ orders 2 jp 7 (block 1 1 ∷ [])
    ∷ orders 1 jp 7 (block 101 101 ∷ []) ∷ orders 1 nz 7 (block 1 1 ∷ []) ∷ orders 1 jp 0 (block 1 1 ∷ []) ∷ orders 1 jp 7 (block 1 1 ∷ []) ∷ [])
    ≡ refused 101 ∷ refused 102 ∷ refused 103 ∷ refused 104 ∷ refused 105 ∷ refused 107 ∷ refused 108 ∷ refused 49 ∷ []
unfolding verdict
full_comes_last = refl

-- ---- limits from both sides

pub most_blocks : answers scheme_s nz_node [] (orders 1 jp 7 (twelve ++ block 1 1 ∷ block 2 2 ∷ block 3 3 ∷ block 4 4 ∷ []) ∷ orders 1 jp 7 (twelve ++ block 1 1 ∷ block 2 2 ∷ block 3 3 ∷ block 4 4 ∷ block 5 5 ∷ []) ∷ orders 1 jp 7 (block 1 1 ∷ []) ∷ orders 1 jp 7 [] ∷ [])
    ≡ recorded 0 ∷ refused 101 ∷ recorded 0 ∷ refused 101 ∷ []
unfolding verdict
most_blocks = refl

pub last_accounts : answers scheme_s nz_node [] (orders 1 jp 999_999_999 (block 1 1 ∷ []) ∷ orders 1 jp 1_000_000_000 (block 1 1 ∷ []) ∷ orders 1 jp 1 (block 1 1 ∷ []) ∷ orders 1 jp 0 (block 1 1 ∷ []) ∷ []) ≡ recorded 0 ∷ refused 108 ∷ recorded 0 ∷ refused 108 ∷ []
unfolding verdict
last_accounts = refl

-- in range, and not held
pub last_units : answers scheme_s nz_node [] (orders 1 jp 7 (block 999_999_999_999_999 999_999_999_999_999 ∷ []) ∷ orders 1 jp 7 (block 1_000_000_000_000_000 1_000_000_000_000_000 ∷ []) ∷ orders 1 jp 7 (block 999_999_999_999_999 1_000_000_000_000_000 ∷ [])
    ∷ orders 1 jp 7 (block 1 1 ∷ []) ∷ orders 1 jp 7 (block 0 1 ∷ []) ∷ orders 1 jp 7 (block 5 5 ∷ []) ∷ orders 1 jp 7 (block 5 4 ∷ []) ∷ [])
    ≡ refused 105 ∷ refused 102 ∷ refused 102 ∷ recorded 0 ∷ refused 102 ∷ recorded 0 ∷ refused 102 ∷ []
unfolding verdict
last_units = refl

-- all units of one kind are held in account 1, and none is reserved
abbrev all_free : Holding
all_free = record {
  is_closed = λ account. false;
  has = λ account p. (account == 1) && same_kind p.kind Aau;
  is_held = λ s. true;
  is_reserved = λ s. false;
}

abbrev greatest : Order
greatest = record { account = 1; acquirer = jp; to_account = 999_999_999; units = block 999_999_999_999_998 999_999_999_999_999 ∷ twelve ++ block 1 1 ∷ block 2 2 ∷ block 3 3 ∷ [] }

pub all_limits_at_once : codes_of (propose_refusals scheme_s nz all_free greatest) ≡ []
all_limits_at_once = refl

-- ---- numbers are given in order, regardless of the records between them

pub numbers_in_order : (moves scheme_s nz_node (CloseAccount (number 2 (lit< tt)) ∷ orders 1 jp 7 (block 1 1 ∷ []) ∷ OpenAccount (number 2 (lit< tt)) ∷ []) (orders 1 jp 7 (block 2 2 ∷ []))
    ≡ record { id = nz2; new = Proposed; content = Some (to_jp (block 2 2 ∷ [])); messages = proposes nz_node Itl nz2 proposal.Proposed (to_jp (block 2 2 ∷ [])) ∷ [] } ∷ [])
    × (moves scheme_s nz_node (orders 1 jp 7 (block 1 1 ∷ []) ∷ orders 1 jp 7 (block 2 2 ∷ []) ∷ []) (orders 1 jp 7 (block 3 3 ∷ []))
    ≡ record { id = nz3; new = Proposed; content = Some (to_jp (block 3 3 ∷ [])); messages = proposes nz_node Itl nz3 proposal.Proposed (to_jp (block 3 3 ∷ [])) ∷ [] } ∷ [])
unfolding verdict
numbers_in_order = (refl, refl)

abbrev last_id : TransactionId
last_id = record { code = nz; number = 999_999; in_range = number_from 999_999 refl }

pub last_number : (id_at nz 999_999 ≡ Some last_id) × (id_at nz 1_000_000 ≡ None) × (id_at nz 1 ≡ Some nz1) × (id_at nz 0 ≡ None)
last_number = (refl, refl, refl, refl)

-- no number is left; also where the journal is full
pub numbers_used_up : (new_transfer_verdict scheme_s nz [] (to_jp (block 1 1 ∷ [])) None ≡ IsRefused 109)
    × (new_transfer_verdict scheme_of_one nz (history scheme_of_one nz_node (CloseAccount (number 2 (lit< tt)) ∷ [])) (to_jp (block 1 1 ∷ [])) None ≡ IsRefused 109)
unfolding verdict
numbers_used_up = (refl, refl)

-- ---- orders of the log

pub orders_of_the_log : answers scheme_s nz_node [] (CleanUp first_of_may ∷ Eligible jp false ∷ Eligible au true ∷ []) ≡ refused 46 ∷ refused 46 ∷ refused 46 ∷ []
unfolding verdict
orders_of_the_log = refl
