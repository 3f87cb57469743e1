use Rattle.std.proofs.Common.{◌++◌, ◌∷◌, [], List, ap, ◌∙◌, append_assoc}
use Rattle.protocol.specs.declared.event.WorldEvent.{WorldEvent}
use Rattle.protocol.specs.declared.event.WorldEvent.TheVariants.{Commit}
use Rattle.units.specs.declared.code.Node.{Node}
use Rattle.weave.specs.declared.following.Following.{Following}
use Rattle.weave.proofs.following.Following.take.Goals as goal

pub returns : goal.returns
returns c =
    let f : Following = c.args.self.now in
    let same = c.in-Ok.ensures.same in
    record {
      world = c.in-Ok.ensures.world;
      events =
          c.push_reserved-2.ensures.items
          ∙ ap (λ (xs : List WorldEvent). xs ++ c.in-Ok.commit ∷ []) (c.push_reserved.ensures.items ∙ ap (λ (xs : List WorldEvent). xs ++ c.args.event ∷ []) same.0)
          ∙ ap (λ (e : WorldEvent). (f.events.items ++ c.args.event ∷ []) ++ e ∷ []) c.in-Ok.ensures.event
          ∙ append_assoc f.events.items (c.args.event ∷ []) (Commit c.args.node 1 ∷ []);
      numbers = λ t. rw same.2;
      posted = rw same.3;
      pending = c.push_reserved-3.ensures.items ∙ ap (λ (ns : List Node). ns ++ c.args.node ∷ []) same.1;
    }
