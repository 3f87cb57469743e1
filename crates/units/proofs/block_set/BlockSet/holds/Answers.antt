use Rattle.std.proofs.Common.{Some, sym, ap, ◌∙◌, refl, rules}
use Rattle.std.specs.FinMap.{get}
use Rattle.std.specs.Option.{option_map}
use Rattle.std.proofs.lemmas.Bool.{OnTrue_from, OnTrue_at, OnFalse_from, OnFalse_at}
use Rattle.units.proofs.BlockLists.{is_kind, kind_from, kind_eq, passed}
use Rattle.units.proofs.block_set.BlockSet.holds.Goals as goal

pub returns-clause-all : goal.returns-clause-all
returns-clause-all c =
    let k = c.args.block.now.raw.kind in
    let found = c.has_all_of.ensures.all (is_kind k) (λ m r h. search rules) in
    OnTrue_from c.has_all_of.result _ (λ e u h.
    let is = passed (is_kind k) (get c.self.inside.kinds u) (OnTrue_at e found u h) in
    ap (λ m. get m u) (sym c.self.view_is) ∙ is.1 ∙ ap Some (kind_from is.0 k is.2))

pub returns-clause-lacking : goal.returns-clause-lacking
returns-clause-lacking c =
    let k = c.args.block.now.raw.kind in
    let found = c.has_all_of.ensures.some (is_kind k) (λ m r h. search rules) in
    OnFalse_from c.has_all_of.result _ (λ e.
    let one = OnFalse_at e found in
    (one.0, one.1, λ same. one.2 (ap (option_map (is_kind k)) (ap (λ m. get m one.0) c.self.view_is ∙ same) ∙ ap Some (kind_eq k k refl))))
