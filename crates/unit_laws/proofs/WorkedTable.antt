-- The table of an opening world, in which NZ holds a hundred units and JP none, and that no other text is this table.
use Rattle.std.specs.Fmt.{digits}
use Rattle.std.specs.Option.{option_or}
use Rattle.std.specs.Prelude.{◌==◌, option_map}
use Rattle.std.proofs.Common.{◌≡◌, ◌∙◌, ℕ, ◌+◌, List, [], ◌∷◌, Bool, true, cond, Option, Some, None, codes, inl, inr, refl, sym, ap, subst, lit<}
use Rattle.std.proofs.lemmas.Bool.{cases_Bool}
use Rattle.units.specs.Unit.{has_unit}
use Rattle.units.specs.declared.block.Block.{Block}
use Rattle.units.specs.declared.block.Kind.TheVariants.{Aau}
use Rattle.units.specs.declared.block.Unit.{Unit as Serial}
use Rattle.units.specs.declared.code.Code.{Code}
use Rattle.units.proofs.Lists.OneValue.{one_some}
use Rattle.units.proofs.Lists.Positions.{In_contains}
use Rattle.scheme.specs.Allotted.{holder}
use Rattle.scheme.specs.declared.members.Holder.{Holder}
use Rattle.registry_core.specs.HeldBlock.{HeldBlock}
use Rattle.registry_core.specs.Reported.{AreHoldings, HasSo, IsHeldSo}
use Rattle.registry_core.specs.UnitHolding.{UnitHolding}
use Rattle.protocol.specs.History.{Position, is_with}
use Rattle.protocol.specs.Registries.{allotted}
use Rattle.protocol.specs.World.{World}
use Rattle.protocol.proofs.WorkedScheme.{after, block, hundred, jp, nz, scheme_s}
use Rattle.world.specs.RegistryLines.{registry_at}
use Rattle.world.specs.declared.views.Stock.{Stock}
use Rattle.report.specs.Table.{IsTable}
use Rattle.report.specs.declared.form.Form.TheVariants.{Lines}
use Rattle.unit_laws.proofs.TableOfWorld.{one_table}

abbrev opened : World
opened = after []

-- ---- how a unit is allotted and held

-- to NZ, if its block has the unit
abbrev holder_if : Bool → Option Holder
holder_if b = option_or (option_or (option_map (λ (z : Block). holder nz 1 z.raw.kind) (cond b (Some hundred) None)) None) None

allotted_if : (s : Serial) → allotted scheme_s s ≡ holder_if (has_unit (block 1 100) s)
allotted_if s = refl

-- the registry holds a unit that is allotted so
abbrev held_if : Code → Option Holder → Bool
held_if c o = (cond {A = ℕ} (is_with c o) 1 0 + 0) == (0 + 1)

abbrev placed_if : Option Holder → Option Position
placed_if o = option_map (λ (h : Holder). record { account = h.account; kind = h.kind }) o

-- ---- the lines of each registry

abbrev nz_line : HeldBlock
nz_line = record { account = 1; block = hundred; reserving = None }

abbrev is_so : UnitHolding
is_so = record { account = 1; kind = Aau; reserving = None }

nz_lists : (s : Serial) (u : UnitHolding) → IsHeldSo (registry_at opened nz) s u → HasSo (nz_line ∷ []) s u
nz_lists s u h =
    elim (cases_Bool (has_unit (block 1 100) s)) [
      | inl y ↦
          let at = one_some _ _ (sym (ap (λ b. placed_if (holder_if b)) y) ∙ h.placed) in
          let by = h.reserved in
          record { line = nz_line; among = (0, lit< tt, refl); has = y; so = λ i. record { account = (at i).account; kind = (at i).kind; reserving = by i } }
      | inr n ↦ let e = sym (ap (λ b. held_if nz (holder_if b)) n) ∙ h.held in absurd (cc (e))
    ]

nz_holds : (s : Serial) (u : UnitHolding) → HasSo (nz_line ∷ []) s u → IsHeldSo (registry_at opened nz) s u
nz_holds s u g =
    elim (In_contains (nz_line ∷ []) g.line g.among) [
      | inl e ↦
          let y : has_unit (block 1 100) s ≡ true = subst (λ (l : HeldBlock). has_unit l.block.raw s ≡ true) (sym e) g.has in
          let so : is_so ≡ u = ap (λ (l : HeldBlock). record { account = l.account; kind = l.block.raw.kind; reserving = l.reserving }) e ∙ g.so in
          record {
            held = ap (λ b. held_if nz (holder_if b)) y;
            placed = ap (λ b. placed_if (holder_if b)) y ∙ ap (λ (v : UnitHolding). Some (record { account = v.account; kind = v.kind })) so;
            reserved = ap (λ (v : UnitHolding). v.reserving) so;
          }
      | inr none ↦ absurd none
    ]

jp_lists : (s : Serial) (u : UnitHolding) → IsHeldSo (registry_at opened jp) s u → HasSo [] s u
jp_lists s u h =
    elim (cases_Bool (has_unit (block 1 100) s)) [
      | inl y ↦ let e = sym (ap (λ b. held_if jp (holder_if b)) y) ∙ h.held in absurd (cc (e))
      | inr n ↦ let e = sym (ap (λ b. held_if jp (holder_if b)) n) ∙ h.held in absurd (cc (e))
    ]

holdings_of_nz : AreHoldings (registry_at opened nz) (nz_line ∷ [])
holdings_of_nz = record { in_order = tt; exact = λ s u. (nz_lists s u, nz_holds s u) }

holdings_of_jp : AreHoldings (registry_at opened jp) []
holdings_of_jp = record { in_order = tt; exact = λ s u. (jp_lists s u, λ g. absurd (In_contains [] g.line g.among)) }

-- ---- the table

abbrev pub opening_text : List ℕ
opening_text = codes "registry JP held 0 spendable 0\nregistry NZ held 100 spendable 100\nholds NZ 1 NZ:1:1-100:AAU free\nowed 0\nend\n"

abbrev stocks : List Stock
stocks = record { code = jp; lines = [] } ∷ record { code = nz; lines = nz_line ∷ [] } ∷ []

pub opening_table : IsTable Lines opened opening_text
unfolding digits
opening_table = record { stocks = stocks; are = record { codes = refl; lines = (holdings_of_jp, (holdings_of_nz, tt)) }; spelled = refl }

pub no_other : (text : List ℕ) → IsTable Lines opened text → text ≡ opening_text
no_other text table = one_table opened Lines text opening_text table opening_table

pub not_the_empty_text : IsTable Lines opened [] → ⊥
not_the_empty_text table = let e = no_other [] table in cc (e)
