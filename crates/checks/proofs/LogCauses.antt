-- The findings of the log, by its register of units and registries.
use Rattle.std.proofs.Common.{◌≡◌, List, [], ◌∷◌, ◌++◌, ℕ, Bool, true, not, Option, Some, None, is_some, is_none, unwrap_or, ◌&&◌, ◌||◌, refl, sym, ap, ◌∙◌, true≢false}
use Rattle.std.specs.BTreeMap as tree
use Rattle.std.specs.FinMap.{get}
use Rattle.std.specs.List.{list_any}
use Rattle.std.specs.Option.{option_map}
use Rattle.units.specs.Code.{same_code}
use Rattle.units.specs.Keys.{code_cmp}
use Rattle.units.specs.RefusalCodes.{wrong_acquirer, unit_repeated, unit_not_allotted, other_owner, other_transfer, other_kind, initiator_not_eligible, acquirer_not_eligible}
use Rattle.units.specs.declared.code.Code.{Code}
use Rattle.units.proofs.Same.{code_of_same}
use Rattle.status.specs.Content.{Content}
use Rattle.scheme.specs.declared.members.Holder.{Holder}
use Rattle.scheme.specs.declared.registries.Scheme.{Scheme}
use Rattle.protocol.specs.Checks.{Ledger, codes_of, log_causes, log_findings, is_of_another, has_other_kind}
use Rattle.protocol.specs.Pieces.{pieces, repeats}
use Rattle.protocol.specs.Registries.{allotted, has_member}
use Rattle.checks.proofs.LabelledUnits.{same_tests}
use Rattle.checks.specs.Following.{is_of_other, unit_causes}
use Rattle.checks.specs.Knowing.{Registers, starts_eligible}
use Rattle.checks.specs.declared.register.BookEntry.{BookEntry}
use Rattle.checks.specs.declared.register.Register.{Register}

pub owner_of_same : (a b : BookEntry) → same_code a.registry b.registry ≡ true → a ≡ b
owner_of_same a b e = let same = code_of_same a.registry b.registry e in λ i. record { registry = same i }

-- owners are known of the allotted units
owner_alike : (c : Code) (o : Option BookEntry) (holder : Option Holder) → is_some (option_map (λ (x : BookEntry). x.registry) o) ≡ is_some holder → is_of_other c o ≡ is_of_another holder (option_map (λ x. x.registry) o) c
owner_alike c None None e = refl
owner_alike c None (Some h) e = absurd (true≢false (sym e))
owner_alike c (Some o) None e = absurd (true≢false e)
owner_alike c (Some o) (Some h) e = refl

module _ (scheme : Scheme) (register : Register) (known : Ledger) (knows : Registers scheme register known) (initiator : Code) (k : Content) where
  unallotted : list_any (λ p. is_none (get register.allotments p.unit)) (pieces k.units) ≡ list_any (λ p. is_none (allotted scheme p.unit)) (pieces k.units)
  unallotted = same_tests (λ p. is_none (get register.allotments p.unit)) (λ p. is_none (allotted scheme p.unit)) (λ p. ap is_none (knows.allotments p.unit)) (pieces k.units)

  owned : list_any (λ p. is_of_other initiator (get register.book p.unit)) (pieces k.units) ≡ list_any (λ p. is_of_another (allotted scheme p.unit) (known.owner p.unit) initiator) (pieces k.units)
  owned =
      same_tests (λ p. is_of_other initiator (get register.book p.unit)) (λ p. is_of_another (allotted scheme p.unit) (known.owner p.unit) initiator)
      (λ p.
      let same = knows.owner p.unit in
      owner_alike initiator (get register.book p.unit) (allotted scheme p.unit) (ap is_some (sym same) ∙ knows.owned p.unit) ∙ ap (λ o. is_of_another (allotted scheme p.unit) o initiator) (sym same))
      (pieces k.units)

  busy : list_any (λ p. is_some (get register.under_way p.unit)) (pieces k.units) ≡ list_any (λ p. known.is_busy p.unit) (pieces k.units)
  busy = same_tests (λ p. is_some (get register.under_way p.unit)) (λ p. known.is_busy p.unit) (λ p. sym (knows.is_busy p.unit)) (pieces k.units)

  other : list_any (λ p. has_other_kind (get register.allotments p.unit) p.kind) (pieces k.units) ≡ list_any (λ p. has_other_kind (allotted scheme p.unit) p.kind) (pieces k.units)
  other = same_tests (λ p. has_other_kind (get register.allotments p.unit) p.kind) (λ p. has_other_kind (allotted scheme p.unit) p.kind) (λ p. ap (λ o. has_other_kind o p.kind) (knows.allotments p.unit)) (pieces k.units)

  may_of : (c : Code) (may : Bool) → may ≡ unwrap_or (tree.get code_cmp register.orders c) (starts_eligible scheme c) → may ≡ known.is_eligible c
  may_of c may e = e ∙ sym (knows.is_eligible c)

  pub log_found : (stranger may barred : Bool) (found : List ℕ) → stranger ≡ (not (has_member scheme k.acquirer) || same_code k.acquirer initiator)
      → may ≡ unwrap_or (tree.get code_cmp register.orders initiator) (starts_eligible scheme initiator)
      → barred ≡ (has_member scheme k.acquirer && not (unwrap_or (tree.get code_cmp register.orders k.acquirer) (starts_eligible scheme k.acquirer)))
      → found ≡ codes_of (((stranger, wrong_acquirer) ∷ []) ++ unit_causes register initiator k.units ++ ((not may, initiator_not_eligible) ∷ []) ++ ((barred, acquirer_not_eligible) ∷ [])) → found ≡ log_findings scheme known initiator k
  log_found stranger may barred found e1 e2 e3 h =
      let so = ap not (may_of initiator may e2) in
      let out = e3 ∙ ap (λ x. has_member scheme k.acquirer && not x) (sym (knows.is_eligible k.acquirer)) in
      let same : ((stranger, wrong_acquirer) ∷ []) ++ unit_causes register initiator k.units ++ ((not may, initiator_not_eligible) ∷ []) ++ ((barred, acquirer_not_eligible) ∷ []) ≡ log_causes scheme known initiator k =
      λ i.
      (e1 i, wrong_acquirer)
      ∷ (repeats (pieces k.units), unit_repeated)
      ∷ (unallotted i, unit_not_allotted)
      ∷ (owned i, other_owner)
      ∷ (busy i, other_transfer)
      ∷ (other i, other_kind)
      ∷ (so i, initiator_not_eligible)
      ∷ (out i, acquirer_not_eligible)
      ∷ [] in
      h ∙ ap codes_of same
