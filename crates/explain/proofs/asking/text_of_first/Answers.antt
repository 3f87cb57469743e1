use Rattle.std.proofs.Common.{ap, string_bytes, sym, ◌∙◌}
use Rattle.explain.proofs.Tried.{found_at, passed}
use Rattle.explain.proofs.asking.text_of_first.Goals as goal

pub returns-in-Some : goal.returns-in-Some
returns-in-Some c = (
  c.as_str.result.now,
  found_at string_bytes c.args.names.now c.loop-name.name-index c.name-item.result c.loop-name-test.true c.as_str.result.now c.in-Some.text.now
      c.loop-name.invariant (ap string_bytes (sym c.name-item.is) ∙ sym c.as_str.ensures.value) c.in-Some.ensures.some,
  c.in-Some.ensures.some,
)

pub loop-name-preserved : goal.loop-name-preserved
loop-name-preserved c =
    passed string_bytes c.args.names.now c.loop-name.name-index c.name-item.result c.loop-name-test.true c.as_str.result.now
    c.loop-name.invariant (ap string_bytes (sym c.name-item.is) ∙ sym c.as_str.ensures.value) c.in_default.ensures.none
