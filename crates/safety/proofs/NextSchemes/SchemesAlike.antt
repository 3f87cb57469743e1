-- Any two next schemes of a world allot its units alike.
use Rattle.std.proofs.Common.{◌≡◌, List, Option, Some, refl, sym, ap, ◌∙◌}
use Rattle.units.proofs.Lists.OneValue.{one_some}
use Rattle.units.specs.declared.block.Block.{Block}
use Rattle.units.specs.declared.block.Unit.{Unit as Serial}
use Rattle.units.specs.declared.code.Code.{Code}
use Rattle.units.specs.declared.code.Node.{Node}
use Rattle.status.specs.Content.{Content}
use Rattle.scheme.specs.declared.members.Holder.{Holder}
use Rattle.scheme.specs.declared.registries.Scheme.{Scheme}
use Rattle.protocol.specs.Claims.{at_registry}
use Rattle.protocol.specs.History.{Entry, Position, credited_position, position}
use Rattle.protocol.specs.Owner.{Owner, OneOwner, Owns, At, Due}
use Rattle.protocol.specs.Registries.{allotted}
use Rattle.safety.specs.NextScheme.{AllotAlike, IsNext, IsPlaced, position_of}

same_holder : (h k : Holder) → h.registry ≡ k.registry → position_of h ≡ position_of k → h ≡ k
same_holder h k e d = λ i. record { registry = e i; account = (d i).account; kind = (d i).kind }

same_place : (next other : Scheme) (s : Serial) (c d : Code) (p q : Option Position) → c ≡ d → p ≡ q → IsPlaced next s c p → IsPlaced other s d q → allotted next s ≡ allotted other s
same_place next other s c d p q e g one two =
    let at = one_some (position_of one.holder) (position_of two.holder) (sym one.there ∙ g ∙ two.there) in
    one.is ∙ ap Some (same_holder one.holder two.holder (one.registry ∙ e ∙ sym two.registry) at) ∙ sym two.is

pub alike : (scheme next other : Scheme) (f : Node → List Entry) (added more : List Block) → OneOwner scheme f → IsNext scheme f added next → IsNext scheme f more other → AllotAlike scheme next other
alike scheme next other f added more old one two s was = let a = old.some s was in go a.0 a.1
  where
    go : (a : Owner) → Owns scheme f s a → allotted next s ≡ allotted other s
    go (At c) owns =
        let here = position scheme c (at_registry f c) s in
        same_place next other s c c here here refl refl (one.held s c owns.0 owns.1) (two.held s c owns.0 owns.1)
    go (Due t) owing =
        let p = one.owed s t owing in
        let q = two.owed s t owing in
        let same = one_some p.known q.known (sym p.is ∙ q.is) in
        let to = ap (λ (k : Content). k.acquirer) same in
        let there = ap (λ (k : Content). credited_position s k) same in
        same_place next other s p.known.acquirer q.known.acquirer (credited_position s p.known) (credited_position s q.known) to there p.placed q.placed
