use Rattle.std.proofs.Common.{◌∙◌, List, ap, map, refl, subst, sym}
use Rattle.std.specs.Prelude.{slice_get}
use Rattle.world.specs.Cores as node_cores
use Rattle.weave.specs.declared.cut.Rest.{Rest}
use Rattle.audit.specs.Cuts.{IsCutText}
use Rattle.audit.proofs.CutTexts.{none_first}
use Rattle.audit.proofs.cutting.audit_cut.Goals as goal

pub returns-in-None-clause-ok : goal.returns-in-None-clause-ok
returns-in-None-clause-ok g c =
    let scheme = c.args.scheme.now in
    let journals = map node_cores.journal_of c.in_ok-cores.cores.items in
    let rests = c.in_ok-cut.cut.rests.items in
    let made = c.in_ok-text.ensures scheme journals c.in_ok-cut.ensures in
    let none = none_first rests (ap (λ (rs : List Rest). slice_get rs 0) (sym c.deref.ensures.value) ∙ sym c.in-None.ensures.value) in (
      c.as_str.result.now,
      record {
        journals = journals;
        loaded = c.in_ok-cores.ensures.ok;
        is_text = subst (λ (rs : List Rest). IsCutText c.args.form scheme journals rs c.as_str.result.now) none (subst (IsCutText c.args.form scheme journals rests) (sym c.as_str.ensures.value) made);
      },
      c.in_ok-write_out.ensures.ok,
    )

pub returns-clause-err : goal.returns-clause-err
returns-clause-err g c =
    let scheme = c.args.scheme.now in
    let journals = map node_cores.journal_of c.in_ok-cores.cores.items in
    let rests = c.in_ok-cut.cut.rests.items in
    let made = c.in_ok-text.ensures scheme journals c.in_ok-cut.ensures in (
      rests,
      c.as_str.result.now,
      record { journals = journals; loaded = c.in_ok-cores.ensures.ok; is_text = subst (IsCutText c.args.form scheme journals rests) (sym c.as_str.ensures.value) made },
      record { first = c.in-Some.rest.now; is = ap (λ (rs : List Rest). slice_get rs 0) (sym c.deref.ensures.value) ∙ sym c.in-Some.ensures.value; node = refl; placed = refl },
      c.in_ok-write_out.ensures.ok,
    )
