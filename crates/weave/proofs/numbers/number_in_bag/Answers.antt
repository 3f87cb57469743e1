use Rattle.std.proofs.Common.{ℕ, List, [], sym, ◌∙◌}
use Rattle.std.specs.BTreeMap as tree
use Rattle.std.specs.Option.{option_map_or}
use Rattle.status.specs.Id.{id_cmp}
use Rattle.status.specs.declared.id.TransactionId.{TransactionId}
use Rattle.weave.proofs.Lists.{if_none, mapped}
use Rattle.weave.proofs.Tried.{not_numbered}
use Rattle.weave.proofs.numbers.number_in_bag.Goals as goal

pub returns-clause-none : goal.returns-clause-none
returns-clause-none c =
    let numbers : TransactionId → List ℕ = λ t. option_map_or (λ v. v.items) (tree.get id_cmp c.args.numbers.now t) [] in
    if_none c.find_number.result
    (λ none.
    not_numbered numbers c.args.world.now.bag c.args.message.now c.as_slice.result.now c.requires
    (mapped _ c.in_ok-found.found.now c.in_ok-found.ensures.value (λ v. v.items) ∙ sym c.as_slice.ensures.value) none)
    c.find_number.ensures.none
