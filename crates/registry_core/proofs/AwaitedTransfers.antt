-- A transfer into an account is awaited exactly when some transaction of another registry stands Accepted and has
-- that account.
use Rattle.status.specs.declared.status.Status.TheVariants.{Accepted}
use Rattle.std.proofs.Common.{Bool, List, None, Option, Some, false, not, refl, subst, true, ℕ, ◌&&◌, ◌==◌, ◌∙◌, ◌≡◌, ap}
use Rattle.units.specs.declared.code.Code.{Code}
use Rattle.status.specs.Content.{Content}
use Rattle.protocol.specs.History.{Entry, Transition, is_status, newest, stands_at, transitions_of}
use Rattle.safety.proofs.MovesAndHistories.NewestTransitions.{Made, newest_id}
use Rattle.units.specs.declared.code.Node.TheVariants.{Registry}
use Rattle.scheme.specs.declared.registries.Scheme.{Scheme}
use Rattle.safety.proofs.OneRegistry.SoundHistories.{Sound, sound_history}
use Rattle.status.specs.declared.id.TransactionId.{TransactionId}
use Rattle.std.proofs.lemmas.Bool.{and_from, and_parts, eq-eqb, eqb-true, not-true}
use Rattle.protocol.specs.AtRegistry.{is_awaited}
use Rattle.units.proofs.Lists.SomePass.{list_any_in, list_any_some}
use Rattle.safety.proofs.MovesAndHistories.TableMoves.{newest_some}
use Rattle.std.specs.Prelude.{option_map}
use Rattle.std.specs.Option.{option_map_or}
use Rattle.units.specs.Code.{same_code}
use Rattle.status.specs.Status.{same_status}
use Rattle.safety.proofs.ListLemmas.TestsOfSameness.{status_of_same}
use Rattle.protocol.specs.Verdict.{transitions_made}

-- a transaction of another registry that stands Accepted, with the account that its units go to
pub record Awaited (c : Code) (xs : List Transition) (account : ℕ) : Type 0 where
  pub id : TransactionId
  pub last : Transition
  pub content : Content
  pub is : newest xs id ≡ Some last
  pub foreign : same_code id.code c ≡ false
  pub new : last.new ≡ Accepted
  pub known : last.content ≡ Some content
  pub account_is : content.to_account ≡ account

abbrev goes_to : ℕ → Option Content → Bool
goes_to account k = option_map_or (λ k. k.to_account == account) k false

abbrev awaits : Code → List Transition → ℕ → Transition → Bool
awaits c xs account x = not (same_code x.id.code c) && (stands_at xs x.id Accepted && goes_to account x.content)

going : (account : ℕ) (k : Option Content) → goes_to account k ≡ true → (content : Content) × (k ≡ Some content) × (content.to_account ≡ account)
going account None e = absurd (cc (e))
going account (Some k) e = (k, refl, eqb-true k.to_account account e)

pub awaited_some : (scheme : Scheme) (c : Code) (xs : List Transition) (account : ℕ) → Sound scheme c xs → is_awaited c xs account ≡ true → Awaited c xs account
awaited_some scheme c xs account sound h =
    let x = list_any_some (awaits c xs account) xs h in
    let parts = and_parts (not (same_code x.0.id.code c)) (stands_at xs x.0.id Accepted && goes_to account x.0.content) x.2 in
    let rest = and_parts (stands_at xs x.0.id Accepted) (goes_to account x.0.content) parts.1 in
    let last = newest_some xs x.0 x.1 in
    let status : same_status last.0.new Accepted ≡ true = subst (λ o. is_status (option_map (λ (y : Transition). y.new) o) Accepted ≡ true) last.1 rest.0 in
    let k = going account x.0.content rest.1 in
    record {
      id = x.0.id;
      last = last.0;
      content = k.0;
      is = last.1;
      foreign = not-true (same_code x.0.id.code c) parts.0;
      new = status_of_same last.0.new Accepted status;
      known = sound.contents x.0 last.0 x.1 last.1 ∙ k.1;
      account_is = k.2;
    }

pub some_awaited : (c : Code) (xs : List Transition) (account : ℕ) → Awaited c xs account → is_awaited c xs account ≡ true
some_awaited c xs account a =
    let about = newest_id xs a.id a.last a.is in
    let foreign : same_code a.last.id.code c ≡ false = ap (λ (t : TransactionId). same_code t.code c) about.1 ∙ a.foreign in
    let stands_so : stands_at xs a.last.id Accepted ≡ true =
    ap (λ t. stands_at xs t Accepted) about.1 ∙ ap (λ o. is_status (option_map (λ (y : Transition). y.new) o) Accepted) a.is ∙ ap (λ z. same_status z Accepted) a.new in
    let to : goes_to account a.last.content ≡ true = ap (goes_to account) a.known ∙ eq-eqb a.content.to_account account a.account_is in
    list_any_in (awaits c xs account) xs a.last about.0
    (and_from (not (same_code a.last.id.code c)) (stands_at xs a.last.id Accepted && goes_to account a.last.content) (ap not foreign) (and_from (stands_at xs a.last.id Accepted) (goes_to account a.last.content) stands_so to))

-- of a history
pub awaited_in : (scheme : Scheme) (c : Code) (es : List Entry) (account : ℕ) → Made scheme (Registry c) es → is_awaited c (transitions_of es) account ≡ true → Awaited c (transitions_of es) account
awaited_in scheme c es account transitions_made h = awaited_some scheme c (transitions_of es) account (sound_history scheme c es transitions_made) h

-- the same as a test of a row with the newest status and the content
pub awaited_row : (scheme : Scheme) (c : Code) (xs : List Transition) (account : ℕ) → Sound scheme c xs → is_awaited c xs account ≡ true
    → (t : TransactionId) × ((x : Transition) × (same_code t.code c ≡ false) × (newest xs t ≡ Some x) × ((same_status x.new Accepted && option_map_or (λ k. k.to_account == account) x.content false) ≡ true))
awaited_row scheme c xs account sound h =
    let a = awaited_some scheme c xs account sound h in
    let to : goes_to account a.last.content ≡ true = ap (goes_to account) a.known ∙ eq-eqb a.content.to_account account a.account_is in
    (a.id, (a.last, a.foreign, a.is, and_from (same_status a.last.new Accepted) (goes_to account a.last.content) (ap (λ z. same_status z Accepted) a.new) to))

pub row_awaited : (c : Code) (xs : List Transition) (account : ℕ) (t : TransactionId) (x : Transition) → same_code t.code c ≡ false → newest xs t ≡ Some x
    → (same_status x.new Accepted && option_map_or (λ k. k.to_account == account) x.content false) ≡ true → is_awaited c xs account ≡ true
row_awaited c xs account t x foreign is h =
    let parts = and_parts (same_status x.new Accepted) (goes_to account x.content) h in
    let k = going account x.content parts.1 in
    some_awaited c xs account (record { id = t; last = x; content = k.0; is = is; foreign = foreign; new = status_of_same x.new Accepted parts.0; known = k.1; account_is = k.2 })
