use Rattle.std.proofs.Common.{sym, ◌∙◌, ap}
use Rattle.units.specs.contracts.block.KindPartialEq.TheImpl.{ghosts}
use Rattle.std.specs.List.{list_any}
use Rattle.units.proofs.BlockLists.{kind_from, kind_eq}
use Rattle.scheme.specs.Grammar.{IsKind}
use Rattle.json_fields.specs.Fields.{EachIs}
use Rattle.json_fields.proofs.Lists.{each_more, met_at}
use Rattle.json_fields.proofs.Parts.{not_read_too, read_so}
use Rattle.scheme.specs.Grammar.{HasNoTwins}
use Rattle.serde_json.specs.View.{view, items_view}
use Rattle.scheme.proofs.Lists.{in_list, not_in_list, no_twins_push, each_twin}
use Rattle.scheme.proofs.Unique.{kind_one}
use Rattle.scheme.proofs.grammar.different_kinds.Goals as goal

pub returns-in_err-kind : goal.returns-in_err-kind
returns-in_err-kind c =
    not_read_too (IsKind (view c.value-item.result)) (λ xs. EachIs IsKind (items_view c.args.values.now) xs × HasNoTwins xs) c.kind.result c.in_err-kind.field-0.0 c.from_residual.result c.in_err-kind.ensures.value c.from_residual.ensures.1
    (λ ys is. let m = met_at IsKind c.args.values.now c.loop-value.value-index c.value-item.result ys c.loop-value-test.true c.value-item.is is.0 in (m.here, m.is))
    c.kind.ensures

pub returns-then-contains : goal.returns-then-contains
returns-then-contains c xs p =
    let e = c.if-contains.ensures.value ∙ ap (list_any (λ y. ghosts.eq y c.in_ok-kind.kind)) c.deref.ensures.value in
    each_twin IsKind kind_one c.args.values.now c.loop-value.value-index c.value-item.result c.loop-value.kinds.items c.in_ok-kind.kind c.loop-value-test.true c.value-item.is
    c.loop-value.invariant.0 (read_so (IsKind (view c.value-item.result)) c.kind.result c.in_ok-kind.kind c.in_ok-kind.ensures.value c.kind.ensures) (in_list ghosts.eq kind_from c.loop-value.kinds.items c.in_ok-kind.kind (sym e)) xs p.0 p.1

pub loop-value-preserved : goal.loop-value-preserved
loop-value-preserved c =
    let e = c.if-contains.ensures.value ∙ ap (list_any (λ y. ghosts.eq y c.in_ok-kind.kind)) c.deref.ensures.value in
    rw c.in_ok-push.ensures.items (
      each_more IsKind c.args.values.now c.loop-value.value-index c.loop-value.kinds.items c.value-item.result c.in_ok-kind.kind c.loop-value-test.true c.value-item.is c.loop-value.invariant.0
          (read_so (IsKind (view c.value-item.result)) c.kind.result c.in_ok-kind.kind c.in_ok-kind.ensures.value c.kind.ensures),
      no_twins_push c.loop-value.kinds.items c.in_ok-kind.kind c.loop-value.invariant.1 (not_in_list ghosts.eq kind_eq c.loop-value.kinds.items c.in_ok-kind.kind (sym e)),
    )
