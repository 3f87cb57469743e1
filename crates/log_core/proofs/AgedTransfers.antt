-- The transactions that a clean-up finds: the front of the set of those that stand Checked, with one more, whether
-- there is one, and the messages that are sent for them.
use Rattle.std.proofs.Common.{List, [], append_assoc, arith, false, length, map, refl, sym, true, ap, ◌++◌, ◌==◌, ◌∙◌, ◌∷◌, ◌≡◌, ℕ}
use Rattle.std.specs.Prelude.{flat_map}
use Rattle.std.proofs.lemmas.Bool.{eqb-false, eqb-true}
use Rattle.std.specs.List.{AllByRecursion}
use Rattle.status.specs.declared.id.TransactionId.{TransactionId}
use Rattle.units.specs.declared.code.Node.TheVariants.{Itl}
use Rattle.status.specs.declared.rows.RowInput.TheVariants as column
use Rattle.scheme.specs.declared.registries.Scheme.{Scheme}
use Rattle.protocol.specs.Deciding.{content_in}
use Rattle.protocol.specs.Effects.{log_sends}
use Rattle.protocol.specs.History.{newest, transitions_of}
use Rattle.protocol.specs.Verdict.{history}
use Rattle.log_core.specs.Cleaning.{IsAged}
use Rattle.log_core.specs.Effects.{transfer_state_content, transfer_state_in}
use Rattle.log_core.specs.Kept.{IsKept}
use Rattle.log_core.specs.declared.tables.Tables.{Tables}
use Rattle.log_core.proofs.DecidedMessages.{content_so}
use Rattle.log_core.specs.declared.waiting.Waiting.{Waiting}

pub aged_more : (moment : ℕ) (front : List Waiting) (w : Waiting) → AllByRecursion (IsAged moment) front → IsAged moment w → AllByRecursion (IsAged moment) (front ++ w ∷ [])
aged_more moment [] w h g = (g, tt)
aged_more moment (v ∷ vs) w h g = (h.0, aged_more moment vs w h.1 g)

pub ids_more : (front : List Waiting) (w : Waiting) → map (λ (v : Waiting). v.id) (front ++ w ∷ []) ≡ map (λ (v : Waiting). v.id) front ++ w.id ∷ []
ids_more [] w = refl
ids_more (v ∷ vs) w = ap (λ ids. v.id ∷ ids) (ids_more vs w)

pub parts_more : (keys front rest more : List Waiting) (w : Waiting) → keys ≡ front ++ rest → rest ≡ w ∷ more → keys ≡ (front ++ w ∷ []) ++ more
parts_more keys front rest more w parts is = parts ∙ ap (λ r. front ++ r) is ∙ sym (append_assoc front (w ∷ []) more)

-- ---- whether there is one

pub none_listed : {X : Type 0} (xs : List X) (n : ℕ) → n ≡ length xs → (n == 0) ≡ true → xs ≡ []
none_listed [] n e h = refl
none_listed (x ∷ xs) n e h = let zero_is = eqb-true n 0 h in absurd (omega arith)

pub some_listed : {X : Type 0} (xs : List X) (n : ℕ) → n ≡ length xs → (n == 0) ≡ false → (x : X) × (ys : List X) × (xs ≡ x ∷ ys)
some_listed [] n e h = let other = eqb-false n 0 h in absurd (omega arith)
some_listed (x ∷ xs) n e h = (x, xs, refl)

-- ---- the messages that are sent for each of them

pub cancelled_sends : (scheme : Scheme) (tables : Tables) → IsKept scheme tables → (shown ids : List TransactionId) → shown ≡ ids → flat_map (λ t. log_sends t (transfer_state_content (transfer_state_in tables t)) [] column.CleanUp) shown
    ≡ flat_map (λ t. log_sends t (content_in (newest (transitions_of (history scheme Itl tables.records.inputs)) t)) [] column.CleanUp) ids
cancelled_sends scheme tables kept shown ids is = λ i. flat_map (λ t. log_sends t (content_so kept t i) [] column.CleanUp) (is i)
