use Rattle.std.proofs.Common.{◌∙◌, Bor, List, map}
use Rattle.wire.specs.declared.input.Input.{Input}
use Rattle.weave.proofs.Replayed.{lengths_twice}
use Rattle.weave.proofs.weaving.weave.Goals as goal

pub returns-clause-ok : goal.returns-clause-ok
returns-clause-ok c = c.weave_on.ensures.ok (map (λ (j : Bor (List Input)). j.now) c.args.journals.now) (c.as_slice.ensures.value ∙ c.in_ok-counts.ensures ∙ lengths_twice c.args.journals.now) c.in_ok-cores.ensures.ahead

pub returns-clause-err : goal.returns-clause-err
returns-clause-err c = c.weave_on.ensures.err (map (λ (j : Bor (List Input)). j.now) c.args.journals.now) (c.as_slice.ensures.value ∙ c.in_ok-counts.ensures ∙ lengths_twice c.args.journals.now) c.in_ok-cores.ensures.ahead
