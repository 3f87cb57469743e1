-- The grammar of schemes: which JSON values write which registries.
use Rattle.std.specs.Prelude.{◌≡◌, ◌≢◌, ℕ, ◌≤◌, List, codes}
use Rattle.serde_json.specs.Data.{Data, unsigned, boolean, number, string}
use Rattle.units.specs.Apart.{Pairwise}
use Rattle.units.specs.Code.{code_text}
use Rattle.units.specs.Block.{kind_text, IsRawText}
use Rattle.units.specs.Facts.{IsAccountNumber}
use Rattle.units.specs.Limits.{last_account, most_records}
use Rattle.units.specs.declared.block.Block.{Block}
use Rattle.units.specs.declared.block.Kind.{Kind}
use Rattle.json_fields.specs.Fields.{HasKeys, HasAt, HasList}
use Rattle.scheme.specs.declared.members.Allotment.{Allotment}
use Rattle.scheme.specs.declared.members.SchemeRegistry.{SchemeRegistry}

-- ---- lists

-- no element is there twice
abbrev pub HasNoTwins : {X : Type 0} → List X → Type 0
HasNoTwins xs = Pairwise (λ x y. x ≢ y) xs

-- ---- values

-- an account's number
abbrev pub IsAccount : Data → ℕ → Type 0
IsAccount d n = (d ≡ number (unsigned n)) × IsAccountNumber n

-- the text of a kind
abbrev pub IsKind : Data → Kind → Type 0
IsKind d k = d ≡ string (kind_text k)

-- the text of a block, with numbers in range as in every block
abbrev pub IsBlock : Data → Block → Type 0
IsBlock d b = (text : List ℕ) × (d ≡ string text) × IsRawText text b.raw

-- ---- objects

-- the blocks that an account has at the start
pub record IsAllotment (d : Data) (a : Allotment) : Type 0 where
  pub keys : HasKeys d 2
  pub account : HasAt d (codes "account") (number (unsigned a.account))
  pub from_one : 1 ≤ a.account
  pub to_last : a.account ≤ last_account
  pub units : HasList IsBlock d (codes "units") a.units

-- a registry; the kinds that it takes are different ones
pub record IsMember (d : Data) (m : SchemeRegistry) : Type 0 where
  pub keys : HasKeys d 5
  pub code : HasAt d (codes "code") (string (code_text m.code))
  pub eligible : HasAt d (codes "eligible") (boolean m.eligible)
  pub accounts : HasList IsAccount d (codes "accounts") m.accounts
  pub allotted : HasList IsAllotment d (codes "allotted") m.allotted
  pub kinds : HasList IsKind d (codes "kinds") m.kinds
  pub no_twins : HasNoTwins m.kinds

-- a number of records from 1 to `most_records`, and registries in the order of the array
pub record IsWritten (d : Data) (records : ℕ) (members : List SchemeRegistry) : Type 0 where
  pub keys : HasKeys d 2
  pub records_at : HasAt d (codes "records") (number (unsigned records))
  pub some_records : 1 ≤ records
  pub few_records : records ≤ most_records
  pub registries : HasList IsMember d (codes "registries") members
