-- The codes of refusals, and those of the findings of checks: the twins of the constants in src/refusal_code.rt.
use Rattle.std.specs.Prelude.{ℕ}

-- the line is no message of the grammar
abbrev pub not_a_message : ℕ
not_a_message = 41

-- the message is addressed to another node
abbrev pub other_addressee : ℕ
other_addressee = 42

-- the sender is no node that may send to this one
abbrev pub sender_not_allowed : ℕ
sender_not_allowed = 43

-- the message isn't for that party to send
abbrev pub wrong_party : ℕ
wrong_party = 44

-- the identifier is known with another content
abbrev pub other_content : ℕ
other_content = 45

-- the tables have no row for the input
abbrev pub no_row : ℕ
no_row = 46

-- a notification of a transaction that isn't known
abbrev pub unknown_transaction : ℕ
unknown_transaction = 47

-- the node has stopped
abbrev pub node_stopped : ℕ
node_stopped = 48

-- the journal is full
abbrev pub journal_full : ℕ
journal_full = 49

-- memory ran out
abbrev pub out_of_memory : ℕ
out_of_memory = 50

-- there is no block, or more than `most_blocks`
abbrev pub wrong_block_count : ℕ
wrong_block_count = 101

-- the numbers of a block are out of order or out of range
abbrev pub block_out_of_range : ℕ
block_out_of_range = 102

-- a unit is in two blocks, or is there already
abbrev pub blocks_overlap : ℕ
blocks_overlap = 103

-- the account is unknown or closed
abbrev pub account_not_open : ℕ
account_not_open = 104

-- a unit isn't held in that account with that kind
abbrev pub unit_not_held : ℕ
unit_not_held = 105

-- a unit is reserved for a transfer
abbrev pub unit_reserved : ℕ
unit_reserved = 106

-- the acquiring registry is unknown, or is the same registry
abbrev pub no_such_acquirer : ℕ
no_such_acquirer = 107

-- the number of the receiving account is out of range
abbrev pub account_out_of_range : ℕ
account_out_of_range = 108

-- the registry has given its last transaction number
abbrev pub transactions_used_up : ℕ
transactions_used_up = 109

-- the account isn't in the scheme
abbrev pub unknown_account : ℕ
unknown_account = 110

-- the account is open already, or closed already
abbrev pub already_so : ℕ
already_so = 111

-- the account holds units
abbrev pub holds_units : ℕ
holds_units = 112

-- a transfer into the account is accepted
abbrev pub transfer_accepted : ℕ
transfer_accepted = 113

-- the registry isn't in the scheme
abbrev pub unknown_registry : ℕ
unknown_registry = 114

-- the registry hasn't proposed the transaction
abbrev pub not_proposed_here : ℕ
not_proposed_here = 115

-- the transaction no longer has the status Proposed
abbrev pub no_longer_proposed : ℕ
no_longer_proposed = 116

-- the acquirer is unknown, or is the initiator
abbrev pub wrong_acquirer : ℕ
wrong_acquirer = 201

-- a unit is in two blocks
abbrev pub unit_repeated : ℕ
unit_repeated = 202

-- a unit isn't allotted
abbrev pub unit_not_allotted : ℕ
unit_not_allotted = 203

-- a unit is owned by a registry other than the initiator
abbrev pub other_owner : ℕ
other_owner = 204

-- a unit is in another transfer
abbrev pub other_transfer : ℕ
other_transfer = 205

-- a unit is of another kind
abbrev pub other_kind : ℕ
other_kind = 206

-- the initiator isn't eligible
abbrev pub initiator_not_eligible : ℕ
initiator_not_eligible = 207

-- the acquirer isn't eligible
abbrev pub acquirer_not_eligible : ℕ
acquirer_not_eligible = 208

-- the receiving account isn't in the scheme
abbrev pub receiver_unknown : ℕ
receiver_unknown = 301

-- the receiving account is closed
abbrev pub receiver_closed : ℕ
receiver_closed = 302

-- a unit is held already
abbrev pub unit_already_held : ℕ
unit_already_held = 303

-- a block is of a kind that the acquirer doesn't take
abbrev pub kind_not_taken : ℕ
kind_not_taken = 304
