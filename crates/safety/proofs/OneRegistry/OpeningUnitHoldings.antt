-- The unit holdings and accounts with which a registry opens: what the scheme allots to it, reserved by none, in the
-- form in which `Holdings::credit` puts one allotment after another.
use Rattle.scheme.specs.Allotted as start
use Rattle.scheme.specs.Order as order
use Rattle.scheme.proofs.Blocks.{blocks_more}
use Rattle.std.proofs.lemmas.List.{take_more}
use Rattle.std.proofs.lemmas.List.Folds.{list_any-append}
use Rattle.std.proofs.lemmas.Bool.{or_cases, or_left, or_right, cases_Bool, cond-false, cond-true, false_from_ne_true}
use Rattle.units.specs.Apart.{AllApart, AreApart}
use Rattle.std.specs.List.{AllByRecursion, list_any}
use Rattle.scheme.specs.declared.members.Allotment.{Allotment}
use Rattle.units.specs.declared.block.Block.{Block}
use Rattle.std.proofs.Common.{Bool, List, None, Option, Some, [], ap, cond, false, inl, inr, refl, subst, sym, true, ℕ, ◌++◌, ◌+◌, ◌==◌, ◌∙◌, ◌∷◌, ◌≡◌, append_assoc, drop, get_or, length, take, take-append-drop, ◌<◌, ◌||◌}
use Rattle.units.specs.declared.code.Code.{Code}
use Rattle.safety.proofs.OwnersOfUnits.SumsOverRegistries.{CodesRise, allotted_code, codes_rise, holder_member, other_member}
use Rattle.scheme.specs.Order.{HasAccount, all_blocks, blocks_of}
use Rattle.scheme.specs.declared.members.Holder.{Holder}
use Rattle.units.proofs.Lists.FirstIndices.{none_from_test}
use Rattle.units.proofs.Lists.Membership.{In, In_find}
use Rattle.accounts.specs.declared.unit_holding.UnitHolding.{UnitHolding}
use Rattle.scheme.specs.declared.members.SchemeRegistry.{SchemeRegistry}
use Rattle.accounts.specs.declared.unit_holding.AccountStatus.TheVariants.{Open}
use Rattle.scheme.specs.declared.registries.Scheme.{Scheme}
use Rattle.units.specs.declared.block.Unit.{Unit as Serial}
use Rattle.protocol.specs.Registries.{allotted, lists_account, member}
use Rattle.safety.proofs.OneRegistry.UsedAccounts.{allotted_in_blocks, or_some}
use Rattle.units.proofs.Same.{code_of_same, same_code-refl}
use Rattle.units.specs.Unit.{covers, has_unit}
use Rattle.std.specs.Prelude.{if◌then◌else◌, find, is_some, option_map}
use Rattle.accounts.specs.Holdings.{free_unit_holding, kind_in}
use Rattle.protocol.specs.History.{is_with}
use Rattle.protocol.specs.Held.{allotted_unit_holding}
use Rattle.protocol.specs.Held.{unit_holding_at, unit_holding_in, account_status_at}
use Rattle.safety.proofs.ListLemmas.FirstFound.{any_found, mapped_some}
use Rattle.units.proofs.Lists.OneValue.{clash, one_some}
use Rattle.std.specs.Option.{option_or}
use Rattle.safety.proofs.ListLemmas.TestsOfSameness.{other_code}
use Rattle.units.specs.Code.{same_code}
use Rattle.safety.proofs.OneRegistry.StepsOfUnitHoldings.{or_none}

-- a unit as a holder has it at the start
abbrev pub held_free : Holder → UnitHolding
held_free h = free_unit_holding h.account h.kind

-- what a registry has of what the scheme allots
abbrev unit_holding_among : Code → Option Holder → Option UnitHolding
unit_holding_among c h = cond (is_with c h) (option_map held_free h) None

held_once : (b : Bool) → ((cond b 1 0 + 0) == (0 + 1)) ≡ b
held_once true = refl
held_once false = refl

position_unit_holding : (h : Option Holder) → option_map (unit_holding_in None) (option_map (λ (h : Holder). record { account = h.account; kind = h.kind }) h) ≡ option_map held_free h
position_unit_holding None = refl
position_unit_holding (Some h) = refl

-- with no transition a unit is held as the scheme allots it
pub opening_unit_holding : (scheme : Scheme) (c : Code) (s : Serial) → unit_holding_at scheme c [] s ≡ cond (is_with c (allotted scheme s)) (option_map held_free (allotted scheme s)) None
opening_unit_holding scheme c s = λ i. cond (held_once (is_with c (allotted scheme s)) i) (position_unit_holding (allotted scheme s) i) None

-- ---- blocks that share no unit

each_parts : {X : Type 0} (P : X → Type 0) (xs ys : List X) → AllByRecursion P (xs ++ ys) → AllByRecursion P xs × AllByRecursion P ys
each_parts P [] ys h = (tt, h)
each_parts P (x ∷ xs) ys h = let r = each_parts P xs ys h.1 in ((h.0, r.0), r.1)

apart_at : (b : Block) (bs : List Block) → AllByRecursion (λ (d : Block). AreApart b.raw d.raw) bs → (s : Serial) → has_unit b.raw s ≡ true → covers bs s ≡ true → ⊥
apart_at b [] h s x y = cc (y)
apart_at b (d ∷ ds) h s x y =
    elim (or_cases (has_unit d.raw s) (covers ds s) y) [
      | inl i ↦ h.0 s x i
      | inr j ↦ apart_at b ds h.1 s x j
    ]

pub apart_parts : (xs ys : List Block) → AllApart (xs ++ ys) → AllApart xs × AllApart ys × ((s : Serial) → covers xs s ≡ true → covers ys s ≡ true → ⊥)
apart_parts [] ys h = (tt, h, λ s x y. cc (x))
apart_parts (b ∷ xs) ys h =
    let r = apart_parts xs ys h.1 in
    let p = each_parts (λ (d : Block). AreApart b.raw d.raw) xs ys h.0 in (
      (p.0, r.0),
      r.1,
      λ s x y. elim (or_cases (has_unit b.raw s) (covers xs s) x) [
        | inl i ↦ apart_at b ys p.1 s i y
        | inr j ↦ r.2 s j y
      ],
    )

-- ---- the allotments of one registry

holder_unit_holding : (code : Code) (parts : List Allotment) (s : Serial) → option_map held_free (start.allotted_in code parts s) ≡ allotted_unit_holding parts s
holder_unit_holding code [] s = refl
holder_unit_holding code (a ∷ parts) s = go (find (λ (b : Block). has_unit b.raw s) a.units) (holder_unit_holding code parts s)
  where
    go : (o : Option Block) → option_map held_free (start.allotted_in code parts s) ≡ allotted_unit_holding parts s
        → option_map held_free (option_or (option_map (λ (b : Block). start.holder code a.account b.raw.kind) o) (start.allotted_in code parts s))
        ≡ option_or (option_map (free_unit_holding a.account) (option_map (λ (b : Block). b.raw.kind) o)) (allotted_unit_holding parts s)
    go None e = e
    go (Some b) e = refl

-- they hold the units of their blocks
pub allotted_covers : (parts : List Allotment) (s : Serial) → is_some (allotted_unit_holding parts s) ≡ covers (blocks_of parts) s
allotted_covers [] s = refl
allotted_covers (a ∷ parts) s =
    or_some (option_map (free_unit_holding a.account) (kind_in a.units s)) (allotted_unit_holding parts s)
    ∙ ap (λ t. t || is_some (allotted_unit_holding parts s))
    (mapped_some (free_unit_holding a.account) (kind_in a.units s) ∙ sym (any_found (λ (b : Block). has_unit b.raw s) (λ (b : Block). b.raw.kind) a.units))
    ∙ ap (λ t. covers a.units s || t) (allotted_covers parts s)
    ∙ sym (list_any-append (λ (b : Block). has_unit b.raw s) a.units (blocks_of parts))

unheld : (parts : List Allotment) (s : Serial) → (covers (blocks_of parts) s ≡ true → ⊥) → allotted_unit_holding parts s ≡ None
unheld parts s none = none_from_test (allotted_unit_holding parts s) (allotted_covers parts s ∙ false_from_ne_true (covers (blocks_of parts) s) none)

-- ---- the registry among those of the scheme

-- registries of other codes give it nothing
others_none : (c : Code) (ms : List SchemeRegistry) (s : Serial) → ((m : SchemeRegistry) → In m ms → m.code ≡ c → ⊥) → unit_holding_among c (start.allotted ms s) ≡ None
others_none c ms s other = go (start.allotted ms s) refl
  where
    go : (o : Option Holder) → start.allotted ms s ≡ o → unit_holding_among c o ≡ None
    go None e = refl
    go (Some h) e =
        let m = holder_member ms s h e in
        cond-false (same_code h.registry c) (Some (held_free h)) None (other_code h.registry c (λ d. other m.0 m.1 (sym m.2 ∙ d)))

covers_member : (m : SchemeRegistry) (ms : List SchemeRegistry) (s : Serial) → In m ms → covers (blocks_of m.allotted) s ≡ true → covers (all_blocks ms) s ≡ true
covers_member m [] s i h = absurd i
covers_member m (n ∷ ms) s (inl e) h =
    list_any-append (λ (b : Block). has_unit b.raw s) (blocks_of n.allotted) (all_blocks ms)
    ∙ or_left (covers (blocks_of n.allotted) s) (covers (all_blocks ms) s) (ap (λ (z : SchemeRegistry). covers (blocks_of z.allotted) s) e ∙ h)
covers_member m (n ∷ ms) s (inr i) h =
    list_any-append (λ (b : Block). has_unit b.raw s) (blocks_of n.allotted) (all_blocks ms)
    ∙ or_right (covers (blocks_of n.allotted) s) (covers (all_blocks ms) s) (covers_member m ms s i h)

member_in : (c : Code) (m : SchemeRegistry) (ms : List SchemeRegistry) → order.member ms c ≡ Some m → In m ms × (m.code ≡ c)
member_in c m ms h = let g = In_find (λ (n : SchemeRegistry). same_code n.code c) ms m h in (g.0, code_of_same m.code c g.1)

unit_holding_of_member : (c : Code) (m : SchemeRegistry) (ms : List SchemeRegistry) (s : Serial) → CodesRise ms → AllApart (all_blocks ms) → order.member ms c ≡ Some m → unit_holding_among c (start.allotted ms s) ≡ allotted_unit_holding m.allotted s
unit_holding_of_member c m [] s rise apart h = absurd (cc (h))
unit_holding_of_member c m (n ∷ ms) s rise apart h =
    elim (cases_Bool (same_code n.code c)) [
      | inl y ↦
          let same : n ≡ m = one_some n m (sym (cond-true (same_code n.code c) (Some n) (order.member ms c) y) ∙ h) in
          here (code_of_same n.code c y) (start.allotted_in n.code n.allotted s) refl ∙ ap (λ (z : SchemeRegistry). allotted_unit_holding z.allotted s) same
      | inr d ↦
          let rest : order.member ms c ≡ Some m = sym (cond-false (same_code n.code c) (Some n) (order.member ms c) d) ∙ h in
          there d rest (start.allotted_in n.code n.allotted s) refl (unit_holding_of_member c m ms s rise.1 (apart_parts (blocks_of n.allotted) (all_blocks ms) apart).1 rest)
    ]
  where
    -- it is the first
    here : n.code ≡ c → (o : Option Holder) → start.allotted_in n.code n.allotted s ≡ o → unit_holding_among c (option_or o (start.allotted ms s)) ≡ allotted_unit_holding n.allotted s
    here code None e = others_none c ms s (λ k i d. other_member n ms rise.0 k i (code ∙ sym d)) ∙ ap (option_map held_free) (sym e) ∙ holder_unit_holding n.code n.allotted s
    here code (Some k) e =
        let mine : same_code k.registry c ≡ true = ap (λ z. same_code z c) (allotted_code n.code n.allotted s k e ∙ code) ∙ same_code-refl c in
        cond-true (same_code k.registry c) (Some (held_free k)) None mine ∙ ap (option_map held_free) (sym e) ∙ holder_unit_holding n.code n.allotted s

    -- it is one of the others
    there : same_code n.code c ≡ false → order.member ms c ≡ Some m → (o : Option Holder) → start.allotted_in n.code n.allotted s ≡ o → unit_holding_among c (start.allotted ms s) ≡ allotted_unit_holding m.allotted s
        → unit_holding_among c (option_or o (start.allotted ms s)) ≡ allotted_unit_holding m.allotted s
    there d rest None e older = older
    there d rest (Some k) e older =
        let theirs : same_code k.registry c ≡ false = ap (λ z. same_code z c) (allotted_code n.code n.allotted s k e) ∙ d in
        let covered : covers (blocks_of n.allotted) s ≡ true = sym (allotted_in_blocks s n.code n.allotted) ∙ ap is_some e in
        let i = (member_in c m ms rest).0 in
        cond-false (same_code k.registry c) (Some (held_free k)) None theirs
        ∙ sym (unheld m.allotted s (λ y. (apart_parts (blocks_of n.allotted) (all_blocks ms) apart).2 s covered (covers_member m ms s i y)))

-- it opens with what the scheme allots to it
pub opening_of_member : (scheme : Scheme) (c : Code) (m : SchemeRegistry) → member scheme c ≡ Some m → (s : Serial) → unit_holding_at scheme c [] s ≡ allotted_unit_holding m.allotted s
opening_of_member scheme c m h s = opening_unit_holding scheme c s ∙ unit_holding_of_member c m scheme.members s (codes_rise scheme) scheme.sound.free.1.1.1.1.1.0 h

-- a registry that the scheme doesn't have opens with nothing
pub opening_of_none : (scheme : Scheme) (c : Code) → member scheme c ≡ None → (s : Serial) → unit_holding_at scheme c [] s ≡ None
opening_of_none scheme c h s = opening_unit_holding scheme c s ∙ others_none c scheme.members s (λ m i e. other scheme.members h m i e)
  where
    other : (ms : List SchemeRegistry) → order.member ms c ≡ None → (m : SchemeRegistry) → In m ms → m.code ≡ c → ⊥
    other [] none m i e = absurd i
    other (n ∷ ms) none m i e =
        elim (cases_Bool (same_code n.code c)) [
          | inl y ↦ let found = sym (cond-true (same_code n.code c) (Some n) (order.member ms c) y) ∙ none in cc (found)
          | inr d ↦
              let rest : order.member ms c ≡ None = sym (cond-false (same_code n.code c) (Some n) (order.member ms c) d) ∙ none in
              elim i [
                | inl is ↦ clash (same_code n.code c) (ap (λ (z : SchemeRegistry). same_code z.code c) is ∙ ap (λ z. same_code z c) e ∙ same_code-refl c) d
                | inr k ↦ other ms rest m k e
              ]
        ]

-- no unit is in two of its blocks
pub member_apart : (scheme : Scheme) (c : Code) (m : SchemeRegistry) → member scheme c ≡ Some m → AllApart (blocks_of m.allotted)
member_apart scheme c m h = go scheme.members scheme.sound.free.1.1.1.1.1.0 (member_in c m scheme.members h).0
  where
    go : (ms : List SchemeRegistry) → AllApart (all_blocks ms) → In m ms → AllApart (blocks_of m.allotted)
    go [] apart i = absurd i
    go (n ∷ ms) apart (inl e) = subst (λ (z : SchemeRegistry). AllApart (blocks_of z.allotted)) e (apart_parts (blocks_of n.allotted) (all_blocks ms) apart).0
    go (n ∷ ms) apart (inr i) = go ms (apart_parts (blocks_of n.allotted) (all_blocks ms) apart).1 i

-- its allotments are for accounts that it has
pub member_accounts : (scheme : Scheme) (c : Code) (m : SchemeRegistry) → member scheme c ≡ Some m → AllByRecursion (λ a. HasAccount m a.account) m.allotted
member_accounts scheme c m h = go scheme.members scheme.sound.free.1.1.1.1.0 (member_in c m scheme.members h).0
  where
    go : (ms : List SchemeRegistry) → AllByRecursion (λ (m : SchemeRegistry). AllByRecursion (λ a. HasAccount m a.account) m.allotted) ms → In m ms → AllByRecursion (λ a. HasAccount m a.account) m.allotted
    go [] each i = absurd i
    go (n ∷ ms) each (inl e) = subst (λ (z : SchemeRegistry). AllByRecursion (λ a. HasAccount z a.account) z.allotted) e each.0
    go (n ∷ ms) each (inr i) = go ms each.1 i

-- ---- one allotment after another, the last first

pub allotment_first : (a : Allotment) (parts : List Allotment) → AllApart (blocks_of (a ∷ parts)) → AllApart a.units × AllApart (blocks_of parts) × ((s : Serial) → covers a.units s ≡ true → allotted_unit_holding parts s ≡ None)
allotment_first a parts apart = let p = apart_parts a.units (blocks_of parts) apart in (p.0, p.1, λ s y. unheld parts s (p.2 s y))

-- ---- one allotment after another, the first first

allotted_unit_holding_snoc : (parts : List Allotment) (a : Allotment) (s : Serial) → allotted_unit_holding (parts ++ a ∷ []) s ≡ option_or (allotted_unit_holding parts s) (option_map (free_unit_holding a.account) (kind_in a.units s))
allotted_unit_holding_snoc [] a s = or_none (option_map (free_unit_holding a.account) (kind_in a.units s))
allotted_unit_holding_snoc (b ∷ parts) a s =
    ap (option_or (option_map (free_unit_holding b.account) (kind_in b.units s))) (allotted_unit_holding_snoc parts a s)
    ∙ sym (or_thrice (option_map (free_unit_holding b.account) (kind_in b.units s)) (allotted_unit_holding parts s) (option_map (free_unit_holding a.account) (kind_in a.units s)))
  where
    or_thrice : {X : Type 0} (x y z : Option X) → option_or (option_or x y) z ≡ option_or x (option_or y z)
    or_thrice None y z = refl
    or_thrice (Some x) y z = refl

either_first : {X : Type 0} (x y : Option X) → (is_some x ≡ true → y ≡ None) → option_or y x ≡ option_or x y
either_first None y none = or_none y
either_first (Some x) y none = ap (λ o. option_or o (Some x)) (none refl)

-- a further allotment: its blocks share no unit, none of them is held yet, and then they are credited
pub record Further (a : Allotment) (before after : List Allotment) : Type 0 where
  pub apart : AllApart a.units
  pub absent : (s : Serial) → covers a.units s ≡ true → allotted_unit_holding before s ≡ None
  pub credited : (s : Serial) → allotted_unit_holding after s ≡ option_or (option_map (free_unit_holding a.account) (kind_in a.units s)) (allotted_unit_holding before s)

further : (a : Allotment) (before : List Allotment) → AllApart (blocks_of before ++ a.units) → Further a before (before ++ a ∷ [])
further a before apart =
    let p = apart_parts (blocks_of before) a.units apart in
    let absent = λ (s : Serial) (y : covers a.units s ≡ true). unheld before s (λ x. p.2 s x y) in
    record {
      apart = p.1;
      absent = absent;
      credited = λ s.
          allotted_unit_holding_snoc before a s
          ∙ either_first (option_map (free_unit_holding a.account) (kind_in a.units s)) (allotted_unit_holding before s)
          (λ y. absent s (any_found (λ (b : Block). has_unit b.raw s) (λ (b : Block). b.raw.kind) a.units ∙ sym (mapped_some (free_unit_holding a.account) (kind_in a.units s)) ∙ y));
    }

blocks_take : (parts : List Allotment) (i : ℕ) → blocks_of parts ≡ blocks_of (take i parts) ++ blocks_of (drop i parts)
blocks_take parts i = ap blocks_of (sym (take-append-drop i parts)) ∙ blocks_both (take i parts) (drop i parts)
  where
    blocks_both : (xs ys : List Allotment) → blocks_of (xs ++ ys) ≡ blocks_of xs ++ blocks_of ys
    blocks_both [] ys = refl
    blocks_both (x ∷ xs) ys = ap (λ bs. x.units ++ bs) (blocks_both xs ys) ∙ sym (append_assoc x.units (blocks_of xs) (blocks_of ys))

-- the allotment at an index
pub allotment_more : (parts : List Allotment) (i : ℕ) (a : Allotment) → AllApart (blocks_of parts) → i < length parts → a ≡ get_or parts i a → Further a (take i parts) (take (i + 1) parts)
allotment_more parts i a apart lt is =
    let longer : take (i + 1) parts ≡ take i parts ++ a ∷ [] = take_more parts i a lt ∙ ap (λ x. take i parts ++ x ∷ []) (sym is) in
    let front = (apart_parts (blocks_of (take (i + 1) parts)) (blocks_of (drop (i + 1) parts)) (subst AllApart (blocks_take parts (i + 1)) apart)).0 in
    subst (Further a (take i parts)) (sym longer) (further a (take i parts) (subst AllApart (blocks_more parts i a lt is) front))

-- its accounts are all open
pub opening_account_status : (scheme : Scheme) (c : Code) (m : SchemeRegistry) → member scheme c ≡ Some m → (n : ℕ) → account_status_at scheme c [] n ≡ (if list_any (λ a. a == n) m.accounts then Some Open else None)
opening_account_status scheme c m h n = ap (λ o. cond (lists_account o n) (Some Open) None) h
