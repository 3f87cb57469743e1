-- The text of a cut, and the first record beyond it.
use Rattle.std.proofs.Common.{◌≡◌, ◌∙◌, ◌++◌, ℕ, All, List, [], ◌∷◌, filter, map, ap, subst, refl}
use Rattle.std.specs.Prelude.{slice_get, None}
use Rattle.std.specs.List.{flat_map}
use Rattle.protocol.specs.Input.{Input}
use Rattle.protocol.specs.Registries.{nodes}
use Rattle.protocol.specs.Scheme.{Scheme}
use Rattle.protocol.specs.Weave.{IsQuiet}
use Rattle.protocol.specs.World.{World}
use Rattle.weave.specs.Cuts.{IsBeyond, IsCut, goes_beyond}
use Rattle.weave.specs.Following.{committed_at, journal_of}
use Rattle.weave.specs.declared.cut.Cut.{Cut}
use Rattle.weave.specs.declared.cut.Rest.{Rest}
use Rattle.report.specs.Table.{IsSafeTable}
use Rattle.report.specs.declared.form.Form.{Form}
use Rattle.audit.specs.Cuts.{IsCutText, rest_lines}

pub cut_text : (form : Form) (scheme : Scheme) (js : List (List Input)) (cut : Cut) (empty first text : List ℕ) → IsCut scheme (journal_of scheme js) cut → empty ≡ [] → (table : List ℕ) × IsSafeTable form scheme cut.events.items table × (first ≡ empty ++ table)
    → text ≡ first ++ flat_map (rest_lines form) cut.rests.items → IsCutText form scheme js cut.rests.items text
cut_text form scheme js cut empty first text is none table whole = record {
  events = cut.events.items;
  furthest = is.furthest;
  quiet = subst IsQuiet is.world is.quiet;
  table = table.0;
  is_table = table.1;
  left = subst (λ (w : World). map (λ (r : Rest). r.node) cut.rests.items ≡ filter (goes_beyond (journal_of scheme js) (committed_at w)) (nodes scheme)) is.world is.left;
  beyond = subst (λ (w : World). All (IsBeyond scheme (journal_of scheme js) (committed_at w)) cut.rests.items) is.world is.beyond;
  whole = is.whole;
  is = whole ∙ ap (λ (bytes : List ℕ). bytes ++ flat_map (rest_lines form) cut.rests.items) (table.2 ∙ ap (λ (bytes : List ℕ). bytes ++ table.0) none);
}

-- where there is no first rest, there is no rest at all
pub none_first : (rests : List Rest) → slice_get rests 0 ≡ None → rests ≡ []
none_first [] e = refl
none_first (r ∷ rs) e = absurd (cc (e))
