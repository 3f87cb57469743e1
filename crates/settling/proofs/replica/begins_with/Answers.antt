use Rattle.std.proofs.Common.{◌≡◌, ◌∙◌, ◌++◌, length, take, drop, ap, refl, sym, arith, take-append-drop}
use Rattle.std.proofs.lemmas.List.{take_all}
use Rattle.settling.proofs.replica.begins_with.Goals as goal

pub returns : goal.returns
returns c =
    let journal = c.args.journal.now in
    let records = c.args.records.now in
    let all : c.loop-k.k ≡ length records = omega (arith, c.loop-k.auto.k-end, c.loop-k-test.false) in
    let front : take (length records) journal ≡ records = ap (λ n. take n journal) (sym all) ∙ (c.loop-k.invariant ∙ take_all c.loop-k.k records c.loop-k-test.false) in
    let rest = drop (length records) journal in
    (λ yes. (rest, sym (take-append-drop (length records) journal) ∙ ap (λ l. l ++ rest) front), λ begins. refl)
