use Rattle.std.proofs.Common.{◌∙◌, inl, inr, refl, subst, sym}
use Rattle.units.specs.Apart.{AllApart}
use Rattle.scheme.proofs.Told.{so, not_so, codes_rise, codes_differ}
use Rattle.scheme.proofs.faults.first_fault.Goals as goal

pub returns-then-not-have_different_codes-clause-some : goal.returns-then-not-have_different_codes-clause-some
returns-then-not-have_different_codes-clause-some c =
    inr (
      so c.are_few.result c.are_few.ensures c.if-not-are_few.false,
      inr (
        c.if-members-lt-LEAST_REGISTRIES.false,
        inl (
          refl,
          (λ free.
              not_so c.have_different_codes.result c.have_different_codes.ensures c.if-not-have_different_codes.true (codes_rise c.args.members.now c.requires.sorted free)),
        ),
      ),
    )

pub returns-then-not-branch-clause-some : goal.returns-then-not-branch-clause-some
returns-then-not-branch-clause-some c =
    let differ = codes_differ c.args.members.now (so c.have_different_codes.result c.have_different_codes.ensures c.if-not-have_different_codes.false) in
    inr (
      so c.are_few.result c.are_few.ensures c.if-not-are_few.false,
      inr (
        c.if-members-lt-LEAST_REGISTRIES.false,
        inr (
          differ,
          inl (
            refl,
            not_so c.in_ok-have_different_accounts.field-0 c.in_ok-have_different_accounts.ensures c.if-not-branch.true,
          ),
        ),
      ),
    )

pub returns-then-not-branch-2-clause-some : goal.returns-then-not-branch-2-clause-some
returns-then-not-branch-2-clause-some c =
    let differ = codes_differ c.args.members.now (so c.have_different_codes.result c.have_different_codes.ensures c.if-not-have_different_codes.false) in
    let apart = so c.in_ok-have_different_accounts.field-0 c.in_ok-have_different_accounts.ensures c.if-not-branch.false in
    inr (
      so c.are_few.result c.are_few.ensures c.if-not-are_few.false,
      inr (
        c.if-members-lt-LEAST_REGISTRIES.false,
        inr (
          differ,
          inr (
            apart,
            inl (
              refl,
              not_so c.in_ok-have_known_accounts.field-0 c.in_ok-have_known_accounts.ensures c.if-not-branch-2.true,
            ),
          ),
        ),
      ),
    )

pub returns-then-not-are_apart-clause-some : goal.returns-then-not-are_apart-clause-some
returns-then-not-are_apart-clause-some c =
    let differ = codes_differ c.args.members.now (so c.have_different_codes.result c.have_different_codes.ensures c.if-not-have_different_codes.false) in
    let apart = so c.in_ok-have_different_accounts.field-0 c.in_ok-have_different_accounts.ensures c.if-not-branch.false in
    let known = so c.in_ok-have_known_accounts.field-0 c.in_ok-have_known_accounts.ensures c.if-not-branch-2.false in
    let blocks = c.as_mut_slice.ensures.value ∙ c.in_ok-blocks.ensures in
    inr (
      so c.are_few.result c.are_few.ensures c.if-not-are_few.false,
      inr (
        c.if-members-lt-LEAST_REGISTRIES.false,
        inr (
          differ,
          inr (
            apart,
            inr (
              known,
              inl (
                refl,
                (λ free.
                    not_so c.are_apart.result c.are_apart.ensures c.if-not-are_apart.true (subst AllApart (sym blocks) free)),
              ),
            ),
          ),
        ),
      ),
    )

pub returns-clause-none : goal.returns-clause-none
returns-clause-none c =
    let rise = so c.have_different_codes.result c.have_different_codes.ensures c.if-not-have_different_codes.false in
    let apart = so c.in_ok-have_different_accounts.field-0 c.in_ok-have_different_accounts.ensures c.if-not-branch.false in
    let known = so c.in_ok-have_known_accounts.field-0 c.in_ok-have_known_accounts.ensures c.if-not-branch-2.false in
    let blocks = c.as_mut_slice.ensures.value ∙ c.in_ok-blocks.ensures in
    let few = so c.are_few.result c.are_few.ensures c.if-not-are_few.false in
    let free = subst AllApart blocks (so c.are_apart.result c.are_apart.ensures c.if-not-are_apart.false) in
    record { free = (few, (c.if-members-lt-LEAST_REGISTRIES.false, (codes_differ c.args.members.now rise, (apart, (known, (free, tt)))))); numbered = c.requires.numbered; kinds = c.requires.kinds; ordered = rise }
