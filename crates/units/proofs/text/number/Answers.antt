use Rattle.std.proofs.Common.{◌≡◌, ◌≢◌, ◌≤◌, length, get_or, lit<, sym, ◌∙◌, true≢false}
use Rattle.std.proofs.lemmas.Str.Pattern.{starts_char}
use Rattle.units.proofs.Numbers.{long_no_number, plus_no_number, lead_no_number, number_read, number_refused}
use Rattle.units.proofs.text.number.Goals as goal
use Rattle.units.proofs.text.number.Goals.{then-text-gt-MOST_DIGITS-via-then-text-gt-MOST_DIGITS, then-text-gt-MOST_DIGITS-via-else-text-gt-MOST_DIGITS+then-starts_with, else-text-gt1-via-then-text-gt1+else-starts_with-2, else-text-gt1-via-else-text-gt1}

pub returns-then-text-gt-MOST_DIGITS-clause-none : goal.returns-then-text-gt-MOST_DIGITS-clause-none
returns-then-text-gt-MOST_DIGITS-clause-none c =
    elim c.then-text-gt-MOST_DIGITS.branch [
      | then-text-gt-MOST_DIGITS-via-then-text-gt-MOST_DIGITS w ↦ long_no_number c.args.text.now w.if-text-gt-MOST_DIGITS.true
      | then-text-gt-MOST_DIGITS-via-else-text-gt-MOST_DIGITS+then-starts_with w ↦ plus_no_number c.args.text.now ((starts_char 43 _ w.starts_with.result w.starts_with.ensures.cases (lit< tt) (lit< tt)).0 w.if-starts_with.true)
    ]

pub returns-then-starts_with-2-clause-none : goal.returns-then-starts_with-2-clause-none
returns-then-starts_with-2-clause-none c =
    lead_no_number c.args.text.now c.if-text-gt1.true
    ((starts_char 48 _ c.starts_with-then-text-gt1.result c.starts_with-then-text-gt1.ensures.cases (lit< tt) (lit< tt)).0 c.if-starts_with-2.true)

pub returns-clause-some : goal.returns-clause-some
returns-clause-some c =
    let plain : get_or c.args.text.now 0 0 ≢ 43 = λ e. true≢false (sym ((starts_char 43 _ c.starts_with.result c.starts_with.ensures.cases (lit< tt) (lit< tt)).1 e) ∙ c.if-starts_with.false) in
    let lead : get_or c.args.text.now 0 0 ≡ 48 → length c.args.text.now ≤ 1 =
    elim c.else-text-gt1.branch [
      | else-text-gt1-via-then-text-gt1+else-starts_with-2 w ↦ λ e. absurd (true≢false (sym ((starts_char 48 _ w.starts_with-then-text-gt1.result w.starts_with-then-text-gt1.ensures.cases (lit< tt) (lit< tt)).1 e) ∙ w.if-starts_with-2.false))
      | else-text-gt1-via-else-text-gt1 w ↦ λ e. w.if-text-gt1.false
    ] in
    rw c.ok.ensures.value (number_read c.args.text.now c.parse.result c.parse.ensures.value.0 c.if-text-gt-MOST_DIGITS.false plain lead)

pub returns-clause-none : goal.returns-clause-none
returns-clause-none c = rw c.ok.ensures.value (number_refused c.args.text.now c.parse.result c.parse.ensures.value.0)
