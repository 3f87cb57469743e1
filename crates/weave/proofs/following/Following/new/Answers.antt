use Rattle.std.proofs.Common.{ap, sym, ◌∙◌, replicate}
use Rattle.protocol.specs.World.{World}
use Rattle.weave.specs.Steps.{whole_at}
use Rattle.weave.proofs.Opened.{none_at, opened, whole_is}
use Rattle.weave.proofs.following.Following.new.Goals as goal

pub returns-clause-follows : goal.returns-clause-follows
returns-clause-follows c =
    opened c.args.scheme.now c.args.cores.items _ c.requires.nodes c.in_ok-uncommitted.ensures c.new.ensures.items (λ t. none_at c.new-2.result c.new-2.ensures.empty t) (c.in_ok-vec.ensures.items_if_clones_equal (λ y h. h) ∙ ap (λ n. replicate n 0) (c.len.ensures ∙ c.in_ok-pending.pending.ok.0)) (sym c.in_ok-vec.field-0.ok.0 ∙ c.in_ok-vec.ensures.len ∙ c.len.ensures ∙ c.in_ok-pending.pending.ok.0)
    c.in_ok-pending.ensures

pub returns-clause-whole : goal.returns-clause-whole
returns-clause-whole c n = ap (λ (w : World). whole_at w n) c.in_ok-uncommitted.ensures ∙ whole_is c.args.scheme.now c.args.cores.items c.requires.nodes n
