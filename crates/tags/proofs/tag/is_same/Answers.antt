use Rattle.std.proofs.Common.{◌≡◌, inl, inr, bit_xor, get_or, refl, arith}
use Rattle.std.specs.Int.Bits.{xor_self}
use Rattle.std.proofs.lemmas.List.{ext_get_or}
use Rattle.std.proofs.lemmas.Bool.{cases_lt, eqb-true, eq-eqb}
use Rattle.tags.proofs.Bits.{same_from_xor, zero_left, zero_right}
use Rattle.tags.proofs.tag.is_same.Goals as goal

pub loop-i-preserved : goal.loop-i-preserved
loop-i-preserved c =
    let now = c.loop-i.invariant in
    let these = c.args.these.now in
    let those = c.args.those.now in
    let i = c.loop-i.i in
    let step = bit_xor (get_or these i 0) (get_or those i 0) in
    record {
      same = λ none k below.
          elim (cases_lt k i) [
            | inl before ↦ now.same (zero_left c.loop-i.differing step none) k before
            | inr at ↦
                let here : k ≡ i = omega arith in
                rw here (same_from_xor (get_or these i 0) (get_or those i 0) (zero_right c.loop-i.differing step none))
          ];
      zero = λ e. rw (now.zero e, e, xor_self) refl;
    }

pub returns : goal.returns
returns c = (
  λ h.
      let none : c.loop-i.differing ≡ 0 = eqb-true _ _ h in
      ext_get_or 0 c.args.these.now c.args.those.now (omega arith) (λ i below. c.loop-i.invariant.same none i (omega arith)),
  λ e. eq-eqb _ _ (c.loop-i.invariant.zero e),
)
