-- Which lists are codes of findings, which parts are those of a content or an order, when two contents are the same,
-- and which units a block and an interval have; each limit from both sides.
use Rattle.std.proofs.Common.{◌≡◌, ℕ, ◌+◌, ◌<◌, ◌≤◌, false, true, List, [], ◌∷◌, ◌++◌, map, refl, arith, lit≤, lit<}
use Rattle.units.specs.Cutting.{blocks_meet}
use Rattle.units.specs.Intervals.{has}
use Rattle.units.specs.Limits.{too_long}
use Rattle.units.specs.Unit.{has_unit}
use Rattle.units.specs.declared.block.Kind.TheVariants.{Cer, Rmu, Tcer}
use Rattle.units.specs.declared.block.Period.TheVariants.{First, Second}
use Rattle.units.specs.declared.block.RawBlock.{RawBlock}
use Rattle.units.specs.declared.code.Code.{Code}
use Rattle.units.specs.declared.interval.Interval.{Interval}
use Rattle.status.specs.Content.{Content, IsContent, same_content}
use Rattle.status.specs.Order.{IsOrder}
use Rattle.wire.specs.Codes.{AreLogCodes, AreAcquirerCodes}
use Rattle.protocol.proofs.WorkedScheme.{nz, jp, block, block_of, unit}
use Rattle.test_definitions.proofs.ShortNames.{terms}

-- ---- the log's codes

abbrev eight : List ℕ
eight = 201 ∷ 202 ∷ 203 ∷ 204 ∷ 205 ∷ 206 ∷ 207 ∷ 208 ∷ []

pub codes_of_the_log : AreLogCodes (201 ∷ []) × AreLogCodes (208 ∷ []) × AreLogCodes eight
codes_of_the_log = ((lit≤ tt, ((lit≤ tt, lit≤ tt), tt)), (lit≤ tt, ((lit≤ tt, lit≤ tt), tt)), (lit≤ tt, ((lit≤ tt, lit≤ tt), ((lit≤ tt, lit≤ tt), ((lit≤ tt, lit≤ tt), ((lit≤ tt, lit≤ tt), ((lit≤ tt, lit≤ tt), ((lit≤ tt, lit≤ tt), ((lit≤ tt, lit≤ tt), ((lit≤ tt, lit≤ tt), tt))))))))))

pub no_codes_of_the_log : (AreLogCodes [] → ⊥) × (AreLogCodes (200 ∷ []) → ⊥) × (AreLogCodes (209 ∷ []) → ⊥) × (AreLogCodes (301 ∷ []) → ⊥) × (AreLogCodes (203 ∷ 203 ∷ []) → ⊥) × (AreLogCodes (203 ∷ 202 ∷ []) → ⊥)
    × (AreLogCodes (207 ∷ 208 ∷ 209 ∷ []) → ⊥)
no_codes_of_the_log = (
  λ h. let e = h.0 in omega arith,
  λ h. let e = h.1.0.0 in omega arith,
  λ h. let e = h.1.0.1 in omega arith,
  λ h. let e = h.1.0.1 in omega arith,
  λ h. let e = h.1.1.0.0 in omega arith,
  λ h. let e = h.1.1.0.0 in omega arith,
  λ h. let e = h.1.1.1.0.1 in omega arith,
)

pub no_ninth_code : AreLogCodes (eight ++ 208 ∷ []) → ⊥
no_ninth_code h = let e = h.1.1.1.1.1.1.1.1.1.0.0 in omega arith

-- ---- the acquirer's codes

pub codes_of_the_acquirer : AreAcquirerCodes (301 ∷ []) × AreAcquirerCodes (304 ∷ []) × AreAcquirerCodes (301 ∷ 302 ∷ 303 ∷ 304 ∷ [])
codes_of_the_acquirer = ((lit≤ tt, ((lit≤ tt, lit≤ tt), tt)), (lit≤ tt, ((lit≤ tt, lit≤ tt), tt)), (lit≤ tt, ((lit≤ tt, lit≤ tt), ((lit≤ tt, lit≤ tt), ((lit≤ tt, lit≤ tt), ((lit≤ tt, lit≤ tt), tt))))))

pub no_codes_of_the_acquirer : (AreAcquirerCodes [] → ⊥) × (AreAcquirerCodes (300 ∷ []) → ⊥) × (AreAcquirerCodes (305 ∷ []) → ⊥) × (AreAcquirerCodes (201 ∷ []) → ⊥) × (AreAcquirerCodes (302 ∷ 302 ∷ []) → ⊥)
    × (AreAcquirerCodes (302 ∷ 301 ∷ []) → ⊥) × (AreAcquirerCodes (301 ∷ 302 ∷ 303 ∷ 304 ∷ 304 ∷ []) → ⊥)
no_codes_of_the_acquirer = (
  λ h. let e = h.0 in omega arith,
  λ h. let e = h.1.0.0 in omega arith,
  λ h. let e = h.1.0.1 in omega arith,
  λ h. let e = h.1.0.0 in omega arith,
  λ h. let e = h.1.1.0.0 in omega arith,
  λ h. let e = h.1.1.0.0 in omega arith,
  λ h. let e = h.1.1.1.1.1.0.0 in omega arith,
)

-- ---- contents

abbrev copies : List RawBlock → List RawBlock
copies blocks = blocks ++ blocks

abbrev hundred : List RawBlock
hundred = block 1 100 ∷ []

abbrev sixteen : List RawBlock
sixteen = copies (copies (copies (copies hundred)))

pub limits_of_a_content : IsContent (terms 1 jp 999_999_999 hundred) × IsContent (terms 999_999_999 jp 1 sixteen)
limits_of_a_content = (
  record { account = (lit≤ tt, lit≤ tt); to_account = (lit≤ tt, lit≤ tt); some_units = lit≤ tt; few_units = lit≤ tt; in_range = ((lit≤ tt, lit≤ tt, lit≤ tt), tt) },
  record {
    account = (lit≤ tt, lit≤ tt);
    to_account = (lit≤ tt, lit≤ tt);
    some_units = lit≤ tt;
    few_units = lit≤ tt;
    in_range = (one, (one, (one, (one, (one, (one, (one, (one, (one, (one, (one, (one, (one, (one, (one, (one, tt))))))))))))))));
  },
)
  where
    one : (1 ≤ 1) × (1 ≤ 100) × (100 ≤ 999_999_999_999_999)
    one = (lit≤ tt, lit≤ tt, lit≤ tt)

pub beyond_a_content : (IsContent (terms 0 jp 7 hundred) → ⊥) × (IsContent (terms 1_000_000_000 jp 7 hundred) → ⊥) × (IsContent (terms 1 jp 0 hundred) → ⊥) × (IsContent (terms 1 jp 1_000_000_000 hundred) → ⊥)
    × (IsContent (terms 1 jp 7 []) → ⊥) × (IsContent (terms 1 jp 7 (block 1 100 ∷ sixteen)) → ⊥)
beyond_a_content = (
  λ h. let e = h.account.0 in omega arith,
  λ h. let e = h.account.1 in omega arith,
  λ h. let e = h.to_account.0 in omega arith,
  λ h. let e = h.to_account.1 in omega arith,
  λ h. let e = h.some_units in omega arith,
  λ h. let e = h.few_units in omega arith,
)

-- ---- contents are compared part by part, and their blocks as lists

-- C is 67 and H is 72
abbrev ch : Code
ch = record { first = 67; second = 72; letters = ((lit≤ tt, lit≤ tt), (lit≤ tt, lit≤ tt)) }

abbrev of_ch : ℕ → ℕ → RawBlock
of_ch first last = record { origin = ch; period = Second; kind = Cer; first = first; last = last }

abbrev two : List RawBlock
two = block 1 100 ∷ of_ch 5 5 ∷ []

abbrev others : List Content
others =
    terms 2 jp 7 two
    ∷ terms 1 nz 7 two
    ∷ terms 1 jp 8 two
    ∷ terms 1 jp 7 (block 1 100 ∷ of_ch 5 6 ∷ [])
    ∷ terms 1 jp 7 (of_ch 5 5 ∷ block 1 100 ∷ [])
    ∷ terms 1 jp 7 (block 1 100 ∷ [])
    ∷ terms 1 jp 7 (block 1 100 ∷ of_ch 5 5 ∷ of_ch 5 5 ∷ [])
    ∷ []

pub contents_are_compared_in_each_part : (same_content (terms 1 jp 7 two) (terms 1 jp 7 two) ≡ true)
    × (map (same_content (terms 1 jp 7 two)) others ≡ false ∷ false ∷ false ∷ false ∷ false ∷ false ∷ false ∷ [])
    × (map (λ c. same_content c (terms 1 jp 7 two)) others ≡ false ∷ false ∷ false ∷ false ∷ false ∷ false ∷ false ∷ [])
contents_are_compared_in_each_part = (refl, refl, refl)

-- ---- orders

abbrev ordered : ℕ → ℕ → List RawBlock
ordered first last = record { origin = nz; period = Second; kind = Rmu; first = first; last = last } ∷ []

pub limits_of_an_order : IsOrder (record { account = 999_999_999_999_999_999; acquirer = jp; to_account = 0; units = ordered 6 5 })
    × IsOrder (record { account = 0; acquirer = jp; to_account = 999_999_999_999_999_999; units = ordered 999_999_999_999_999_999 999_999_999_999_999_999 })
limits_of_an_order = (record { account = lit< tt; to_account = lit< tt; units = ((lit< tt, lit< tt), tt) }, record { account = lit< tt; to_account = lit< tt; units = ((lit< tt, lit< tt), tt) })

pub beyond_an_order : (IsOrder (record { account = 1_000_000_000_000_000_000; acquirer = jp; to_account = 0; units = ordered 6 5 }) → ⊥)
    × (IsOrder (record { account = 0; acquirer = jp; to_account = 1_000_000_000_000_000_000; units = ordered 6 5 }) → ⊥)
    × (IsOrder (record { account = 0; acquirer = jp; to_account = 0; units = ordered 1_000_000_000_000_000_000 5 }) → ⊥)
    × (IsOrder (record { account = 0; acquirer = jp; to_account = 0; units = ordered 6 1_000_000_000_000_000_000 }) → ⊥)
beyond_an_order = (
  λ h. let e = h.account in omega arith,
  λ h. let e = h.to_account in omega arith,
  λ h. let e = h.units.0.0 in omega arith,
  λ h. let e = h.units.0.1 in omega arith,
)

pub numbers_of_18_digits : (999_999_999_999_999_999 < too_long) × (1_000_000_000_000_000_000 < too_long → ⊥)
numbers_of_18_digits = (lit< tt, λ e. omega arith)

-- ---- units of blocks and intervals

abbrev long : RawBlock
long = record { origin = ch; period = Second; kind = Tcer; first = 101; last = 250 }

pub has_its_last_unit : (has_unit long (record { origin = ch; period = Second; number = 250 }) ≡ true) × (150 + 101 ≡ 250 + 1)
has_its_last_unit = (refl, refl)

pub blocks_that_share_a_unit : (blocks_meet (block 1 5) (block 6 10) ≡ false) × (blocks_meet (block 1 5) (block_of Cer 10 11) ≡ false) × (blocks_meet (block 6 10) (block_of Cer 10 11) ≡ true)
blocks_that_share_a_unit = (refl, refl, refl)

abbrev four_to_six : Interval ℕ
four_to_six = record { origin = nz; period = First; first = 4; last = 6; label = 0 }

pub units_of_an_interval : map (has four_to_six) (unit 3 ∷ unit 4 ∷ unit 6 ∷ unit 7 ∷ record { origin = nz; period = Second; number = 5 } ∷ record { origin = jp; period = First; number = 5 } ∷ []) ≡ false ∷ true ∷ true ∷ false ∷ false ∷ false ∷ []
units_of_an_interval = refl
