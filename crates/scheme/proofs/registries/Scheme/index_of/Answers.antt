use Rattle.std.proofs.Common.{◌∙◌, ap, sym, rules, subst}
use Rattle.std.specs.List.{position_from}
use Rattle.std.proofs.lemmas.List.Sorted.{answers_always}
use Rattle.scheme.specs.declared.members.SchemeRegistry.{SchemeRegistry}
use Rattle.scheme.proofs.Searching.{AreOrdered, has_code, searched}
use Rattle.scheme.proofs.registries.Scheme.index_of.Goals as goal

pub returns : goal.returns
returns c =
    c.ok.ensures.value
    ∙ searched c.registries.result.now c.args.code c.binary_search_by_key.result (subst AreOrdered (sym c.registries.ensures) c.args.self.now.sound.ordered) c.binary_search_by_key.ensures.bound
    (c.binary_search_by_key.ensures.position (λ (m : SchemeRegistry). m.code) (answers_always _ _ _ (λ f a r g called. search rules)))
    ∙ ap (position_from (has_code c.args.code) 0) c.registries.ensures
