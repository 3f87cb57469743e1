-- The table of a world is one text: the lines of a registry's holdings are determined by how its units are held, and
-- all other lines by the world itself.
use Rattle.std.specs.Prelude.{flat_map}
use Rattle.std.proofs.Common.{◌≡◌, List, [], ◌∷◌, ◌++◌, true, refl, sym, ap, subst, ◌∙◌, map}
use Rattle.units.proofs.Lists.Membership.{In_map, map_In}
use Rattle.units.proofs.Lists.Positions.{In_contains, contains_in}
use Rattle.units.proofs.OneText.{block_same}
use Rattle.units.specs.Facts.{IsRange}
use Rattle.units.specs.Intervals.{has}
use Rattle.units.specs.declared.interval.Interval.{Interval}
use Rattle.registry_core.specs.HeldBlock.{HeldBlock}
use Rattle.registry_core.specs.Lines.{unit_holding_interval}
use Rattle.registry_core.specs.Registry.{RegistryCoreView}
use Rattle.registry_core.specs.Reported.{AreHoldings}
use Rattle.registry_core.specs.UnitHolding.{UnitHolding}
use Rattle.scheme.specs.declared.members.SchemeRegistry.{SchemeRegistry}
use Rattle.protocol.specs.Table.{due}
use Rattle.protocol.specs.World.{World}
use Rattle.world.specs.RegistryLines.{AreLines, registry_at}
use Rattle.world.specs.declared.views.Stock.{Stock}
use Rattle.report.specs.ReportLines.{owed_lines, registry_lines}
use Rattle.report.specs.Table.{stock_lines, transaction_lines}
use Rattle.report.specs.declared.form.Form.{Form}
use Rattle.unit_laws.specs.OneTable.{HasOneTable}
use Rattle.unit_laws.proofs.OneOrder.{AreInRange, GiveAsWell, one_order}

-- ---- the lines of one registry

-- a line is its interval
line_same : (l k : HeldBlock) → unit_holding_interval l ≡ unit_holding_interval k → l ≡ k
line_same l k e =
    let raw : l.block.raw ≡ k.block.raw = λ i. record { origin = (e i).origin; period = (e i).period; kind = (e i).label.kind; first = (e i).first; last = (e i).last } in
    let block = block_same l.block k.block raw in
    λ i. record { account = (e i).label.account; block = block i; reserving = (e i).label.reserving }

lines_same : (ls ks : List HeldBlock) → map unit_holding_interval ls ≡ map unit_holding_interval ks → ls ≡ ks
lines_same [] [] e = refl
lines_same [] (k ∷ ks) e = absurd (cc (e))
lines_same (l ∷ ls) [] e = absurd (cc (e))
lines_same (l ∷ ls) (k ∷ ks) e =
    let first : unit_holding_interval l ≡ unit_holding_interval k = cc (e) in
    let rest : map unit_holding_interval ls ≡ map unit_holding_interval ks = cc (e) in
    let a = line_same l k first in
    let b = lines_same ls ks rest in
    ap (λ (z : HeldBlock). z ∷ ls) a ∙ ap (λ zs. k ∷ zs) b

in_range : (lines : List HeldBlock) → AreInRange (map unit_holding_interval lines)
in_range lines i h = let l = In_map unit_holding_interval i lines h in subst (λ (z : Interval UnitHolding). IsRange z.first z.last) l.2 l.0.block.in_range

module _ (r : RegistryCoreView) where
  -- both lists say how each unit is held
  give_as_well : (ls ks : List HeldBlock) → AreHoldings r ls → AreHoldings r ks → GiveAsWell (map unit_holding_interval ls) (map unit_holding_interval ks)
  give_as_well ls ks one other s m g =
      let l = In_map unit_holding_interval g.0 ls g.1 in
      let unit = subst (λ (z : Interval UnitHolding). has z s ≡ true) (sym l.2) g.2 in
      let so = ap (λ (z : Interval UnitHolding). z.label) l.2 ∙ g.3 in
      let held = (one.exact s m).1 (record { line = l.0; among = contains_in ls l.0 l.1; has = unit; so = so }) in
      let there = (other.exact s m).0 held in
      (unit_holding_interval there.line, map_In unit_holding_interval there.line ks (In_contains ks there.line there.among), there.has, there.so)

  one_list : (ls ks : List HeldBlock) → AreHoldings r ls → AreHoldings r ks → ls ≡ ks
  one_list ls ks one other =
      lines_same ls ks
      (one_order (λ (u : UnitHolding). u.account) (map unit_holding_interval ls) (map unit_holding_interval ks) (in_range ls) (in_range ks) one.in_order other.in_order (give_as_well ls ks one other)
      (give_as_well ks ls other one))

-- ---- the lines of all registries

all_lines : (w : World) (members : List SchemeRegistry) (lss kss : List (List HeldBlock)) → AreLines w members lss → AreLines w members kss → lss ≡ kss
all_lines w [] [] [] one other = refl
all_lines w [] [] (ks ∷ kss) one other = absurd other
all_lines w [] (ls ∷ lss) kss one other = absurd one
all_lines w (m ∷ ms) [] kss one other = absurd one
all_lines w (m ∷ ms) (ls ∷ lss) [] one other = absurd other
all_lines w (m ∷ ms) (ls ∷ lss) (ks ∷ kss) one other =
    ap (λ (z : List HeldBlock). z ∷ lss) (one_list (registry_at w m.code) ls ks one.0 other.0) ∙ ap (λ zs. ks ∷ zs) (all_lines w ms lss kss one.1 other.1)

stocks_spelled : (form : Form) (one other : List Stock) → map (λ (s : Stock). s.code) one ≡ map (λ (s : Stock). s.code) other → map (λ (s : Stock). s.lines) one ≡ map (λ (s : Stock). s.lines) other
    → flat_map (stock_lines form) one ≡ flat_map (stock_lines form) other
stocks_spelled form [] [] codes lines = refl
stocks_spelled form [] (t ∷ ts) codes lines = absurd (cc (codes))
stocks_spelled form (s ∷ ss) [] codes lines = absurd (cc (codes))
stocks_spelled form (s ∷ ss) (t ∷ ts) codes lines =
    let code : s.code ≡ t.code = cc (codes) in
    let more_codes : map (λ (s : Stock). s.code) ss ≡ map (λ (s : Stock). s.code) ts = cc (codes) in
    let line : s.lines ≡ t.lines = cc (lines) in
    let more_lines : map (λ (s : Stock). s.lines) ss ≡ map (λ (s : Stock). s.lines) ts = cc (lines) in
    let rest = stocks_spelled form ss ts more_codes more_lines in
    ap (λ c. registry_lines form c s.lines ++ flat_map (stock_lines form) ss) code ∙ ap (λ ls. registry_lines form t.code ls ++ flat_map (stock_lines form) ss) line
    ∙ ap (λ text. stock_lines form t ++ text) rest

-- ---- the text

pub one_table : (w : World) → HasOneTable w
one_table w form one other a b =
    let codes = a.are.codes ∙ sym b.are.codes in
    let lines = all_lines w w.scheme.members _ _ a.are.lines b.are.lines in
    let stocks = stocks_spelled form a.stocks b.stocks codes lines in
    a.spelled ∙ ap (λ text. transaction_lines form w ++ (text ++ owed_lines form (due w))) stocks ∙ sym b.spelled
