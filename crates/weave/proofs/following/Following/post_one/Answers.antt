use Rattle.std.proofs.Common.{◌≡◌, ◌++◌, ◌∷◌, [], List, length, refl, sym, ap, subst, ◌∙◌}
use Rattle.std.specs.Prelude.{slice_get}
use Rattle.std.proofs.lemmas.Option.{none-some}
use Rattle.protocol.specs.World.{World, step}
use Rattle.protocol.specs.declared.event.Outcome.{Outcome}
use Rattle.protocol.specs.declared.event.Posted.{Posted}
use Rattle.protocol.specs.declared.event.WorldEvent.{WorldEvent}
use Rattle.protocol.specs.declared.event.WorldEvent.TheVariants.{Post}
use Rattle.weave.specs.declared.following.Following.{Following}
use Rattle.weave.proofs.Lists.{none_lent}
use Rattle.weave.proofs.Rounds.{posts_by}
use Rattle.weave.proofs.Tried.{came, post_goes, post_rests, stands_last}
use Rattle.weave.proofs.following.Following.post_one.Goals as goal

pub returns-in_default : goal.returns-in_default
returns-in_default c =
    let f : Following = c.args.self.now in
    let r = post_rests f.world c.apply_post.new.world c.args.node c.args.key c.in_ok-apply_post.field-0 c.in_default.not-Done c.in_ok-apply_post.ensures in
    (r.0, ap (λ (z : World). record f { world = z }) r.1)

pub unreachable-requires : goal.unreachable-requires
unreachable-requires c =
    let f : Following = c.args.self.now in
    let went = post_goes f.world c.apply_post.new.world c.args.node c.args.key (subst (λ (z : Outcome). came c.apply_post.new.world z ≡ step f.world (Post c.args.node c.args.key)) c.in-Done.is c.in_ok-apply_post.ensures) in
    none-some _
    (sym (none_lent c.bag_message.result _ c.bag_message.ensures c.in_default-bag_message.is)
    ∙ ap (λ (b : List Posted). slice_get c.apply_post.new.world.bag (length b)) c.bag.ensures
    ∙ stands_last f.world c.apply_post.new.world c.args.node c.args.key went.0 went.2)

pub returns : goal.returns
returns c =
    let f : Following = c.args.self.now in
    let went = post_goes f.world c.apply_post.new.world c.args.node c.args.key (subst (λ (z : Outcome). came c.apply_post.new.world z ≡ step f.world (Post c.args.node c.args.key)) c.in-Done.is c.in_ok-apply_post.ensures) in
    posts_by f _ c.args.node c.args.key went.0 c.in-Some.posted.now c.in-Some.posted.now.message.id c.in-Some.posted.now.message.to c.bag.result.now went.1 went.2 c.bag.ensures c.in-Some.ensures refl refl
    c.in_ok-add_number.ensures (c.push_reserved.ensures.items ∙ ap (λ (xs : List WorldEvent). xs ++ Post c.args.node c.args.key ∷ []) c.in_ok-reserve.ensures.items) refl c.in_ok-push.ensures.items
