-- The verdict on an input that a role has decided, by the causes of refusals and the row of its table.
use Rattle.std.proofs.Common.{◌≡◌, ℕ, Bool, true, false, cond, List, [], ◌∷◌, Option, Some, None, Result, Ok, Err, refl, sym, ap, ◌∙◌}
use Rattle.std.specs.Prelude.{is_some}
use Rattle.units.specs.declared.refusal.Refusal.{Refusal}
use Rattle.status.specs.Content.{Content}
use Rattle.status.specs.declared.rows.Row.{Row}
use Rattle.status.specs.declared.rows.Row.TheVariants.{Move, Repeat, Late, Refused}
use Rattle.status.specs.declared.status.Status.{Status}
use Rattle.scheme.specs.declared.registries.Scheme.{Scheme}
use Rattle.protocol.specs.Checks.{Causes}
use Rattle.protocol.specs.Deciding.{IsLate, IsRefused, IsRepeat, Verdict, by_row, column_of_proposal, recorded_if_room, refuse}
use Rattle.protocol.specs.Decisions.{decided, unless}
use Rattle.protocol.specs.History.{Entry, Transition}
use Rattle.protocol.specs.declared.decision.Decision.{Decision}
use Rattle.protocol.specs.declared.decision.Decision.TheVariants.{Moves, Stays}
use Rattle.protocol.specs.declared.decision.Stale.{Stale}
use Rattle.protocol.specs.declared.decision.Stale.TheVariants as stale

abbrev pub stale_verdict : Stale → Verdict
stale_verdict stale.Repeat = IsRepeat
stale_verdict stale.Late = IsLate

-- the column of a proposal doesn't ask what was found in one that is equal to a recorded one
pub same_column : (k : Option Content) (codes found : List ℕ) → codes ≡ cond (is_some k) [] found → column_of_proposal k codes ≡ column_of_proposal k found
same_column (Some k) codes found is = refl
same_column None codes found is = ap (column_of_proposal None) is

-- a row that moves is the one that a decision moves by
pub moves_by : (row : Row) (new : Status) → decided row ≡ Ok (Moves new) → row ≡ Move new
moves_by (Move old) new h = cc (h)
moves_by Repeat new h = absurd (cc (h))
moves_by Late new h = absurd (cc (h))
moves_by Refused new h = absurd (cc (h))

module _ (scheme : Scheme) (es : List Entry) (to : Status → Transition) where
  -- where it moves, the transition to its status is recorded
  abbrev pub verdict_of : Result Decision Refusal → Verdict
  verdict_of (Ok (Moves new)) = recorded_if_room scheme es (to new ∷ [])
  verdict_of (Ok (Stays why)) = stale_verdict why
  verdict_of (Err refusal) = IsRefused refusal.code

  by_row_so : (row : Row) → by_row scheme es to row ≡ verdict_of (decided row)
  by_row_so (Move new) = refl
  by_row_so Repeat = refl
  by_row_so Late = refl
  by_row_so Refused = refl

  unless_so : (cs : Causes) (d : Result Decision Refusal) → refuse cs (verdict_of d) ≡ verdict_of (unless cs d)
  unless_so [] d = refl
  unless_so (c ∷ cs) d = go c.0 c.1 (unless_so cs d)
    where
      go : (b : Bool) (code : ℕ) → refuse cs (verdict_of d) ≡ verdict_of (unless cs d) → cond b (IsRefused code) (refuse cs (verdict_of d)) ≡ verdict_of (cond b (Err (record { code = code })) (unless cs d))
      go true code rest = refl
      go false code rest = rest

  pub decided_so : (cs : Causes) (row : Row) (d : Result Decision Refusal) → d ≡ unless cs (decided row) → refuse cs (by_row scheme es to row) ≡ verdict_of d
  decided_so cs row d is = ap (refuse cs) (by_row_so row) ∙ unless_so cs (decided row) ∙ ap verdict_of (sym is)
