use Rattle.std.proofs.Common.{◌≡◌, subst, rules}
use Rattle.store_tables.specs.declared.owner_row.FileOwner.TheVariants.{OtherFormat, OtherNode, ThisNode}
use Rattle.durable.specs.Opening.{IsOwner, IsNegative}
use Rattle.durable.proofs.Verdicts.{below_zero, other_format, other_node, a_store}
use Rattle.durable.proofs.opening.verdict.Goals as goal

pub returns-then-is_negative-clause-verdict : goal.returns-then-is_negative-clause-verdict
returns-then-is_negative-clause-verdict c node db has owner end = below_zero node db c.args.least has end (search rules)

pub returns-in-OtherFormat-default-clause-verdict : goal.returns-in-OtherFormat-default-clause-verdict
returns-in-OtherFormat-default-clause-verdict c node db has owner end =
    let is : c.args.owner ≡ OtherFormat = search rules in
    let high : IsNegative c.args.least → ⊥ = search rules in
    other_format node db c.args.least has (subst (IsOwner node db) is owner) end high

pub returns-in-OtherNode-default-clause-verdict : goal.returns-in-OtherNode-default-clause-verdict
returns-in-OtherNode-default-clause-verdict c node db has owner end =
    let is : c.args.owner ≡ OtherNode = search rules in
    let high : IsNegative c.args.least → ⊥ = search rules in
    other_node node db c.args.least has (subst (IsOwner node db) is owner) end high

pub returns-in-ThisNode-default-clause-verdict : goal.returns-in-ThisNode-default-clause-verdict
returns-in-ThisNode-default-clause-verdict c node db has owner end =
    let is : c.args.owner ≡ ThisNode c.in-ThisNode-default.format = search rules in
    let high : IsNegative c.args.least → ⊥ = search rules in
    a_store c.in-ThisNode-default.format node db c.args.least has (subst (IsOwner node db) is owner) end high
