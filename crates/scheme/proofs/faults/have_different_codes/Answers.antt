use Rattle.std.proofs.Common.{◌≡◌, ◌∙◌, sym, ap, arith}
use Rattle.units.proofs.Same.{code_of_same}
use Rattle.scheme.specs.declared.members.SchemeRegistry.{SchemeRegistry}
use Rattle.scheme.proofs.Told.{yes, no, all_rise, not_risen, codes_step, other_from_test}
use Rattle.scheme.proofs.faults.have_different_codes.Goals as goal

pub returns-then-eq : goal.returns-then-eq
returns-then-eq c =
    let a = c.index-members-i.result in
    let b = c.index-members-i-in-loop-i.result in
    let same : a.code ≡ b.code
    = ap (λ (m : SchemeRegistry). m.code) c.index-members-i.is ∙ code_of_same _ _ (sym c.eq.ensures ∙ c.if-eq.true) ∙ sym (ap (λ (m : SchemeRegistry). m.code) c.index-members-i-in-loop-i.is) in
    no (not_risen c.args.members.now c.loop-i.i a b (omega arith) c.loop-i-test.true c.index-members-i.is c.index-members-i-in-loop-i.is same)

pub loop-i-preserved : goal.loop-i-preserved
loop-i-preserved c =
    let a = c.index-members-i.result in
    let b = c.index-members-i-in-loop-i.result in
    let other : a.code ≡ b.code → ⊥
    = λ e. other_from_test _ _ (sym c.eq.ensures ∙ c.if-eq.false) (sym (ap (λ (m : SchemeRegistry). m.code) c.index-members-i.is) ∙ e ∙ ap (λ (m : SchemeRegistry). m.code) c.index-members-i-in-loop-i.is) in
    codes_step c.args.members.now c.loop-i.i a b (omega arith) c.loop-i-test.true c.index-members-i.is c.index-members-i-in-loop-i.is c.requires other c.loop-i.invariant

pub returns : goal.returns
returns c = yes (all_rise c.args.members.now c.loop-i.i c.loop-i-test.false c.loop-i.invariant)
