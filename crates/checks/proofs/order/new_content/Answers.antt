use Rattle.std.proofs.Common.{Option, Some, None, IfNone, refl, sym, subst}
use Rattle.std.specs.Option.{IsSome}
use Rattle.status.specs.Content.{IsContent, raws}
use Rattle.checks.proofs.CanonicalLengths.{is_content}
use Rattle.checks.proofs.order.new_content.Goals as goal

is_some : {X P : Type 0} (o : Option X) → P → IfNone o (P → ⊥) → IsSome o
is_some None p none = absurd (none p)
is_some (Some x) p none = refl

pub unwrap-requires : goal.unwrap-requires
unwrap-requires c =
    let o = c.args.order.now in
    let first = sym c.account.ensures.value in
    let second = sym c.acquirer.ensures in
    let third = sym c.to_account.ensures.value in
    let fourth = sym c.from_vec.ensures in
    let sound = is_content o c.args.units.items c.requires.units c.requires.blocks c.requires.account c.requires.to_account in
    is_some c.new-content.result (subst IsContent (λ i. record { account = first i; acquirer = second i; to_account = third i; units = raws (fourth i) }) sound) c.new-content.ensures.none
