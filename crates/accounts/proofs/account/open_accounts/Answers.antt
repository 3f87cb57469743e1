use Rattle.std.proofs.Common.{◌≡◌, ◌∷◌, [], take, get_or, Bool, true, false, ◌||◌, cond, eqb, Some, None, refl, sym, ap, ◌∙◌}
use Rattle.std.specs.BTreeMap as tree
use Rattle.std.specs.List.{list_any}
use Rattle.std.specs.Ordering.{nat_cmp}
use Rattle.std.proofs.lemmas.List.{take_more}
use Rattle.std.proofs.lemmas.List.Folds.{list_any-append}
use Rattle.accounts.specs.Accounts.{opened}
use Rattle.accounts.proofs.AccountStatuses.{tied, turned}
use Rattle.accounts.proofs.account.open_accounts.Goals as goal

-- one more number
one_more : (here before : Bool) → cond here (Some opened) (cond before (Some opened) None) ≡ cond (before || (here || false)) (Some opened) None
one_more true true = refl
one_more true false = refl
one_more false true = refl
one_more false false = refl

pub loop-number-preserved : goal.loop-number-preserved
loop-number-preserved c n =
    let numbers = c.args.numbers.now in
    let i = c.loop-number.number-index in
    let k = get_or numbers i 0 in
    let more = take_more numbers i 0 c.loop-number-test.true in
    let before = list_any (λ a. eqb a n) (take i numbers) in
    c.in_ok-insert.ensures.updates.0 n
    ∙ ap (λ t. cond t (Some opened) (tree.get nat_cmp c.loop-number.accounts n)) (tied k n)
    ∙ ap (cond (eqb n k) (Some opened)) (c.loop-number.invariant n)
    ∙ ap (λ t. cond t (Some opened) (cond before (Some opened) None)) (turned n k)
    ∙ one_more (eqb k n) before
    ∙ ap (λ t. cond t (Some opened) None) (sym (ap (list_any (λ a. eqb a n)) more ∙ list_any-append (λ a. eqb a n) (take i numbers) (k ∷ [])))
