use Rattle.std.proofs.Common.{◌≡◌, ◌∙◌, ◌<◌, ◌≤◌, ℕ, List, length, get_or, Option, Some, None, Bor, ap, sym, subst, arith}
use Rattle.std.specs.Prelude.{option_copied, slice_get, IfSome}
use Rattle.std.specs.Option.{MatchOption}
use Rattle.std.proofs.lemmas.Option.{slice_get-get_or}
use Rattle.scheme.specs.declared.members.SchemeRegistry.{SchemeRegistry}
use Rattle.units.proofs.Lists.FirstIndices.{index_below, index_find, index_nowhere}
use Rattle.scheme.proofs.Searching.{has_code}
use Rattle.scheme.proofs.registries.Scheme.member.Goals as goal

-- the element that is lent at an index that the list has
lent : (ms : List SchemeRegistry) (i : ℕ) (r : Option (Bor SchemeRegistry)) (P : Bor SchemeRegistry → Type 0) → i < length ms → MatchOption r (length ms ≤ i) P → IfSome r (λ m. m.now ≡ get_or ms i m.now) → option_copied r ≡ slice_get ms i
lent ms i None P below past is = absurd (omega (arith, below, past))
lent ms i (Some m) P below past is = ap Some is ∙ sym (slice_get-get_or ms i m.now below)

pub returns-in_err-index : goal.returns-in_err-index
returns-in_err-index c = ap (λ (r : Option (Bor SchemeRegistry)). option_copied r) c.from_residual.ensures ∙ sym (index_nowhere (has_code c.args.code) c.args.self.now.members (sym c.in_err-index.ensures))

pub returns : goal.returns
returns c =
    let below =
    subst (λ (ms : List SchemeRegistry). c.in_ok-index.index < length ms) (sym c.registries.ensures)
    (index_below (has_code c.args.code) c.args.self.now.members c.in_ok-index.index (sym c.in_ok-index.ensures)) in
    lent c.registries.result.now c.in_ok-index.index c.get.result _ below c.get.ensures.lookup.3 c.get.ensures.lookup.1
    ∙ ap (λ (ms : List SchemeRegistry). slice_get ms c.in_ok-index.index) c.registries.ensures
    ∙ index_find (has_code c.args.code) c.args.self.now.members c.in_ok-index.index (sym c.in_ok-index.ensures)
