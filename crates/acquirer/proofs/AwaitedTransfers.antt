-- Which transfers are awaited, when one is put in or has come to its end.
use Rattle.std.proofs.Common.{◌≡◌, ℕ, ◌||◌, ◌&&◌, Bool, true, false, not, cond, Option, Some, None, refl, sym, ap, ◌∙◌}
use Rattle.std.proofs.Math.Bool.{or-false, and-true}
use Rattle.std.specs.Option.{option_map}
use Rattle.status.specs.Status.{same_status}
use Rattle.status.specs.declared.status.Status.{Status}
use Rattle.status.specs.declared.status.Status.TheVariants.{Accepted}
use Rattle.acquirer.specs.Transfers.{is_awaited_by, finished}
use Rattle.acquirer.specs.declared.transfer.IncomingTransfer.{IncomingTransfer}
use Rattle.std.specs.Option.{option_map_or}
use Rattle.std.specs.Prelude.{◌==◌}

and_not : (a : Bool) → (a && not a) ≡ false
and_not true = refl
and_not false = refl

pub awaited_put : (account : ℕ) (b : Bool) (old : Option IncomingTransfer) (x : IncomingTransfer) → (b ≡ true → old ≡ None) → (is_awaited_by account old || (b && is_awaited_by account (Some x))) ≡ is_awaited_by account (cond b (Some x) old)
awaited_put account true old x h = ap (λ o. is_awaited_by account o || is_awaited_by account (Some x)) (h refl)
awaited_put account false old x h = or-false (is_awaited_by account old)

-- put in, and taken out again
pub awaited_again : (account : ℕ) (b : Bool) (old : Option IncomingTransfer) (x : IncomingTransfer) → (b ≡ true → old ≡ None)
    → ((is_awaited_by account old || (b && is_awaited_by account (Some x))) && not (b && is_awaited_by account (Some x))) ≡ is_awaited_by account old
awaited_again account true old x h = ap (λ o. (is_awaited_by account o || is_awaited_by account (Some x)) && not (is_awaited_by account (Some x))) (h refl) ∙ and_not (is_awaited_by account (Some x)) ∙ sym (ap (is_awaited_by account) (h refl))
awaited_again account false old x h = and-true (is_awaited_by account old || false) ∙ or-false (is_awaited_by account old)

over : (account : ℕ) (new : Status) (o : Option IncomingTransfer) → same_status new Accepted ≡ false → is_awaited_by account (option_map (finished new) o) ≡ false
over account new None h = refl
over account new (Some x) h = ap (λ b. b && option_map_or (λ k. k.to_account == account) x.content false) h

pub awaited_finish : (account : ℕ) (new : Status) (b : Bool) (old at : Option IncomingTransfer) → same_status new Accepted ≡ false → (b ≡ true → old ≡ at)
    → (is_awaited_by account old && not (b && is_awaited_by account at)) ≡ is_awaited_by account (cond b (option_map (finished new) old) old)
awaited_finish account new true old at h e = ap (λ o. is_awaited_by account o && not (is_awaited_by account at)) (e refl) ∙ and_not (is_awaited_by account at) ∙ sym (over account new old h)
awaited_finish account new false old at h e = and-true (is_awaited_by account old)
