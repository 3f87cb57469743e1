-- Verdicts on orders on eligibility, by what the log's register keeps.
use Rattle.std.specs.BTreeMap as tree
use Rattle.std.proofs.Common.{◌≡◌, Bool, true, false, not, cond, [], refl, sym, ap, ◌∙◌}
use Rattle.std.specs.Prelude.{unwrap_or}
use mathlib.Core.Bool.{beq}
use Rattle.units.specs.Keys.{code_cmp}
use Rattle.units.specs.RefusalCodes.{unknown_registry}
use Rattle.units.specs.declared.code.Code.{Code}
use Rattle.units.specs.declared.code.Node.TheVariants.{Itl}
use Rattle.wire.specs.declared.input.Input.TheVariants.{Eligible}
use Rattle.scheme.specs.declared.registries.Scheme.{Scheme}
use Rattle.protocol.specs.AtLog.{same_bool}
use Rattle.protocol.specs.Deciding.{IsRefused, IsRepeat, recorded_if_room}
use Rattle.protocol.specs.Registries.{has_member}
use Rattle.protocol.specs.Verdict.{history}
use Rattle.checks.specs.Knowing.{starts_eligible}
use Rattle.log_core.specs.Kept.{IsKept}
use Rattle.log_core.specs.Taking.{verdict_by_rules}
use Rattle.log_core.specs.declared.tables.Tables.{Tables}
use Rattle.log_core.proofs.KnownRegisters.{registers_so}
use Rattle.log_core.proofs.TakenInputs.{verdict_so}

module _ (scheme : Scheme) (tables : Tables) (kept : IsKept scheme tables) (c : Code) (may : Bool) where
  rest : (b d : Bool) → has_member scheme c ≡ b → unwrap_or (tree.get code_cmp tables.register.orders c) (starts_eligible scheme c) ≡ d
      → verdict_by_rules scheme tables (Eligible c may) ≡ cond (not b) (IsRefused unknown_registry) (cond (same_bool d may) IsRepeat (recorded_if_room scheme (history scheme Itl tables.records.inputs) []))
  rest b d e f =
      let es = history scheme Itl tables.records.inputs in
      let eligible = (registers_so scheme tables kept).is_eligible c ∙ f in
      verdict_so scheme tables (Eligible c may) ∙ (λ i. cond (not (e i)) (IsRefused unknown_registry) (cond (same_bool (eligible i) may) IsRepeat (recorded_if_room scheme es [])))

  pub eligible_unknown : has_member scheme c ≡ false → verdict_by_rules scheme tables (Eligible c may) ≡ IsRefused unknown_registry
  eligible_unknown e = rest false _ e refl

  tested : (d : Bool) → same_bool d may ≡ beq d may
  tested d = go d may
    where
      go : (a b : Bool) → same_bool a b ≡ beq a b
      go true true = refl
      go false false = refl
      go true false = refl
      go false true = refl

  pub eligible_again : (d : Bool) → has_member scheme c ≡ true → d ≡ unwrap_or (tree.get code_cmp tables.register.orders c) (starts_eligible scheme c) → beq d may ≡ true → verdict_by_rules scheme tables (Eligible c may) ≡ IsRepeat
  eligible_again d e is f = rest true d e (sym is) ∙ ap (λ b. cond b IsRepeat (recorded_if_room scheme (history scheme Itl tables.records.inputs) [])) (tested d ∙ f)

  pub eligible_enters : (d : Bool) → has_member scheme c ≡ true → d ≡ unwrap_or (tree.get code_cmp tables.register.orders c) (starts_eligible scheme c) → beq d may ≡ false
      → verdict_by_rules scheme tables (Eligible c may) ≡ recorded_if_room scheme (history scheme Itl tables.records.inputs) []
  eligible_enters d e is f = rest true d e (sym is) ∙ ap (λ b. cond b IsRepeat (recorded_if_room scheme (history scheme Itl tables.records.inputs) [])) (tested d ∙ f)
