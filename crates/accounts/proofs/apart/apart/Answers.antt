use Rattle.std.proofs.Common.{◌≡◌, ◌+◌, List, [], ◌∷◌, ◌++◌, take, Bool, true, false, ◌||◌, cond, Option, Some, refl, sym, ap, subst, ◌∙◌, arith, inl, inr}
use Rattle.std.specs.FinMap.{get, get-empty}
use Rattle.std.specs.Option.{is_some}
use Rattle.std.proofs.lemmas.Bool.{cases_Bool}
use Rattle.std.proofs.lemmas.List.{take_more, take_all}
use Rattle.std.proofs.lemmas.List.Folds.{list_any-append}
use Rattle.std.proofs.lemmas.Option.{none-some, same_Some}
use Rattle.units.specs.Intervals.{AreKept, label_at}
use Rattle.units.specs.Keys.{unit_cmp}
use Rattle.units.specs.Unit.{has_unit, covers}
use Rattle.units.specs.declared.block.Block.{Block}
use Rattle.units.specs.declared.block.Kind.{Kind}
use Rattle.units.specs.declared.block.Unit.{Unit as Serial}
use Rattle.accounts.specs.Refusals.{IsUnitOf}
use Rattle.accounts.proofs.Parts.{apart_from_kept, there_covered, labelled, among_front, among_last}
use Rattle.accounts.proofs.apart.apart.Goals as goal

pub loop-block-init : goal.loop-block-init
loop-block-init c = record {
  there = λ s. ap (λ m. is_some (get m s)) c.new-kinds.ensures ∙ ap is_some (get-empty unit_cmp s);
  kinds = λ s k e. absurd (none-some k (sym (ap (λ m. get m s) c.new-kinds.ensures ∙ get-empty unit_cmp s) ∙ e));
}

put : (t : Bool) (k : Kind) (o : Option Kind) (b : Bool) → is_some o ≡ b → is_some (cond t (Some k) o) ≡ (b || (t || false))
put true k o true e = refl
put true k o false e = refl
put false k o true e = e
put false k o false e = e

of_front : (bs : List Block) (b c : Block) (s : Serial) → IsUnitOf bs c s → IsUnitOf (bs ++ b ∷ []) c s
of_front bs b c s of = record { among = among_front bs (b ∷ []) c of.among; has = of.has }

pub loop-block-preserved : goal.loop-block-preserved
loop-block-preserved c =
    let blocks = c.args.blocks.now in
    let i = c.loop-block.block-index in
    let b = c.block-item.result in
    let so_far = take i blocks in
    let more : take (i + 1) blocks ≡ so_far ++ b ∷ [] = take_more blocks i b c.loop-block-test.true ∙ ap (λ (x : Block). so_far ++ x ∷ []) (sym c.block-item.is) in
    record {
      there = λ s.
          ap is_some (c.in_ok-set.ensures.ok s)
          ∙ put (has_unit b.raw s) b.raw.kind (get c.loop-block.kinds s) (covers so_far s) (c.loop-block.invariant.there s)
          ∙ sym (ap (λ bs. covers bs s) more ∙ list_any-append (λ (x : Block). has_unit x.raw s) so_far (b ∷ []));
      kinds = λ s k e.
          let now : cond (has_unit b.raw s) (Some b.raw.kind) (get c.loop-block.kinds s) ≡ Some k = sym (c.in_ok-set.ensures.ok s) ∙ e in
          subst (λ bs. (x : Block) × IsUnitOf bs x s × (x.raw.kind ≡ k)) (sym more) (elim (cases_Bool (has_unit b.raw s)) [
            | inl yes' ↦ (b, record { among = among_last so_far b; has = yes' }, same_Some b.raw.kind k (rw yes' at now))
            | inr no' ↦ let w = c.loop-block.invariant.kinds s k (rw no' at now) in (w.0, of_front so_far b w.0 s w.1, w.2)
          ]);
    }

pub returns-clause-apart : goal.returns-clause-apart
returns-clause-apart c = apart_from_kept c.in_ok-blocks_of.field-0.items (subst AreKept (sym (c.in_ok-blocks_of.ensures ∙ c.deref.ensures.value)) c.in_ok-intervals.ensures.kept)

pub returns-clause-same : goal.returns-clause-same
returns-clause-same c s =
    let parts = c.in_ok-blocks_of.field-0.items in
    let same = c.in_ok-blocks_of.ensures ∙ c.deref.ensures.value in
    sym (there_covered parts s)
    ∙ ap (λ is. is_some (label_at is s)) same
    ∙ ap is_some (c.in_ok-intervals.ensures.same s)
    ∙ c.loop-block.invariant.there s
    ∙ ap (λ bs. covers bs s) (take_all c.loop-block.block-index c.args.blocks.now (omega arith))

pub returns-clause-kinds : goal.returns-clause-kinds
returns-clause-kinds c p s of =
    let parts = c.in_ok-blocks_of.field-0.items in
    let same = c.in_ok-blocks_of.ensures ∙ c.deref.ensures.value in
    let apart = apart_from_kept parts (subst AreKept (sym same) c.in_ok-intervals.ensures.kept) in
    let is : get c.loop-block.kinds s ≡ Some p.raw.kind = sym (ap (λ is. label_at is s) same ∙ c.in_ok-intervals.ensures.same s) ∙ labelled parts p s apart of in
    subst (λ bs. (b : Block) × IsUnitOf bs b s × (b.raw.kind ≡ p.raw.kind)) (take_all c.loop-block.block-index c.args.blocks.now (omega arith)) (c.loop-block.invariant.kinds s p.raw.kind is)
