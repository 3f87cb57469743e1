use Rattle.std.proofs.Common.{◌∙◌}
use Rattle.weave.proofs.Rounds.{posted_on, posting_ends, posts_posting, posts_same}
use Rattle.weave.proofs.following.Following.post_from.Goals as goal

pub returns-in-Rests-clause-follows : goal.returns-in-Rests-clause-follows
returns-in-Rests-clause-follows c scheme i =
    posting_ends scheme c.loop-key.self c.post_one.new.self c.args.node c.loop-key.key (c.loop-key.invariant.posting scheme i) c.in_ok-post_one.field-0 c.in-Rests.is c.in_ok-post_one.ensures

pub loop-key-preserved : goal.loop-key-preserved
loop-key-preserved c =
    let p = posted_on c.loop-key.self c.post_one.new.self c.args.node c.loop-key.key c.in_ok-post_one.field-0 c.in_default.not-Rests c.in_ok-post_one.ensures in
    record {
      posting = λ scheme i. posts_posting scheme c.loop-key.self c.post_one.new.self c.args.node c.loop-key.key (c.loop-key.invariant.posting scheme i) p;
      stations = posts_same c.loop-key.self c.post_one.new.self c.args.node c.loop-key.key p ∙ c.loop-key.invariant.stations;
      posted = p.posted ∙ c.loop-key.invariant.posted;
    }
