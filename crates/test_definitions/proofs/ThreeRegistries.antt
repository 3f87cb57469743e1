-- A scheme of three registries as a value: AU, which has nothing and may not take part at the start, and JP and NZ with
-- units of their own. NZ's units are of three kinds.
use Rattle.std.proofs.Common.{◌≡◌, ℕ, ◌<◌, true, false, List, [], ◌∷◌, map, refl, ap, arith, lit≤, lit<}
use Rattle.std.specs.List.{AllByRecursion}
use Rattle.units.proofs.SharedUnits.{apart_from}
use Rattle.units.specs.Apart.{AllApart}
use Rattle.units.specs.Facts.{IsAccountNumber, IsRange}
use Rattle.units.specs.declared.block.Block.{Block}
use Rattle.units.specs.declared.block.Kind.TheVariants.{Aau, Rmu, Eru, Cer, Tcer, Lcer}
use Rattle.units.specs.declared.block.Period.TheVariants.{First}
use Rattle.units.specs.declared.block.RawBlock.{RawBlock}
use Rattle.units.specs.declared.code.Code.{Code}
use Rattle.units.specs.declared.code.Node.{Node}
use Rattle.units.specs.declared.code.Node.TheVariants.{Registry}
use Rattle.scheme.specs.Grammar.{HasNoTwins}
use Rattle.scheme.proofs.AllKinds.{aau_and_cer, all_kinds}
use Rattle.scheme.specs.Order.{AreFew, AreMembers, all_blocks}
use Rattle.scheme.specs.declared.members.SchemeRegistry.{SchemeRegistry}
use Rattle.scheme.specs.declared.registries.Scheme.{Scheme}
use Rattle.protocol.proofs.WorkedScheme.{nz, jp, block, block_of, thousand}
use Rattle.test_definitions.proofs.ShortNames.{au}

abbrev pub au_node : Node
au_node = Registry au

-- units of JP's first period
abbrev pub jp_block : ℕ → ℕ → RawBlock
jp_block first last = record { origin = jp; period = First; kind = Aau; first = first; last = last }

-- ---- the registries

pub range_of_jp : IsRange 1 10
range_of_jp = (lit≤ tt, lit≤ tt, lit≤ tt)

pub range_of_aau : IsRange 1 20
range_of_aau = (lit≤ tt, lit≤ tt, lit≤ tt)

pub range_of_cer : IsRange 21 24
range_of_cer = (lit≤ tt, lit≤ tt, lit≤ tt)

pub range_of_rmu : IsRange 25 28
range_of_rmu = (lit≤ tt, lit≤ tt, lit≤ tt)

abbrev units_of_jp : Block
units_of_jp = record { raw = jp_block 1 10; in_range = range_of_jp }

abbrev aau : Block
aau = record { raw = block 1 20; in_range = range_of_aau }

abbrev cer : Block
cer = record { raw = block_of Cer 21 24; in_range = range_of_cer }

abbrev rmu : Block
rmu = record { raw = block_of Rmu 25 28; in_range = range_of_rmu }

abbrev au_member : SchemeRegistry
au_member = record { code = au; accounts = 1 ∷ 5 ∷ []; allotted = []; eligible = false; kinds = Aau ∷ [] }

abbrev jp_member : SchemeRegistry
jp_member = record { code = jp; accounts = 1 ∷ 7 ∷ 8 ∷ []; allotted = record { account = 7; units = units_of_jp ∷ [] } ∷ []; eligible = true; kinds = Aau ∷ Cer ∷ [] }

abbrev nz_member : SchemeRegistry
nz_member = record {
  code = nz;
  accounts = 1 ∷ 2 ∷ 7 ∷ [];
  allotted = record { account = 1; units = aau ∷ cer ∷ [] } ∷ record { account = 2; units = rmu ∷ [] } ∷ [];
  eligible = true;
  kinds = Aau ∷ Rmu ∷ Eru ∷ Cer ∷ Tcer ∷ Lcer ∷ [];
}

abbrev members : List SchemeRegistry
members = au_member ∷ jp_member ∷ nz_member ∷ []

-- ---- why this is a scheme

few : AreFew members
few = record { registries = lit≤ tt; accounts = (lit≤ tt, (lit≤ tt, (lit≤ tt, tt))); blocks = lit≤ tt }

differ : (a b : ℕ) → a < b → a ≡ b → ⊥
differ a b below same = omega arith

codes_differ : (c d : Code) → c.first < d.first → c ≡ d → ⊥
codes_differ c d below same = differ c.first d.first below (ap (λ (x : Code). x.first) same)

codes_apart : HasNoTwins (map (λ m. m.code) members)
codes_apart = ((codes_differ au jp (lit< tt), (codes_differ au nz (lit< tt), tt)), ((codes_differ jp nz (lit< tt), tt), (tt, tt)))

accounts_of_au : HasNoTwins au_member.accounts
accounts_of_au = ((differ 1 5 (lit< tt), tt), (tt, tt))

accounts_of_jp : HasNoTwins jp_member.accounts
accounts_of_jp = ((differ 1 7 (lit< tt), (differ 1 8 (lit< tt), tt)), ((differ 7 8 (lit< tt), tt), (tt, tt)))

accounts_of_nz : HasNoTwins nz_member.accounts
accounts_of_nz = ((differ 1 2 (lit< tt), (differ 1 7 (lit< tt), tt)), ((differ 2 7 (lit< tt), tt), (tt, tt)))

blocks_apart : AllApart (all_blocks members)
blocks_apart = (
  (apart_from units_of_jp.raw aau.raw refl, (apart_from units_of_jp.raw cer.raw refl, (apart_from units_of_jp.raw rmu.raw refl, tt))),
  ((apart_from aau.raw cer.raw refl, (apart_from aau.raw rmu.raw refl, tt)), ((apart_from cer.raw rmu.raw refl, tt), (tt, tt))),
)

numbers_of_au : AllByRecursion IsAccountNumber au_member.accounts
numbers_of_au = ((lit≤ tt, lit≤ tt), ((lit≤ tt, lit≤ tt), tt))

numbers_of_jp : AllByRecursion IsAccountNumber jp_member.accounts
numbers_of_jp = ((lit≤ tt, lit≤ tt), ((lit≤ tt, lit≤ tt), ((lit≤ tt, lit≤ tt), tt)))

numbers_of_nz : AllByRecursion IsAccountNumber nz_member.accounts
numbers_of_nz = ((lit≤ tt, lit≤ tt), ((lit≤ tt, lit≤ tt), ((lit≤ tt, lit≤ tt), tt)))

-- the codes differ, no account stands twice, each allotment is to an account, and no unit is allotted twice
pub sound : AreMembers members
sound = record {
  free = (few, (lit≤ tt, (codes_apart, ((accounts_of_au, (accounts_of_jp, (accounts_of_nz, tt))), ((tt, ((refl, tt), ((refl, (refl, tt)), tt))), (blocks_apart, tt))))));
  numbered = (numbers_of_au, (numbers_of_jp, (numbers_of_nz, tt)));
  kinds = ((tt, tt), (aau_and_cer, (all_kinds, tt)));
  ordered = ((refl, (refl, tt)), ((refl, tt), (tt, tt)));
}

abbrev pub scheme_t : Scheme
scheme_t = record { records = 1000; members = members; in_range = thousand; sound = sound }
