use Rattle.std.proofs.Common.{◌≡◌, ◌<◌, List, ℕ, length, sym, refl, subst}
use Rattle.std.specs.Prelude.{slice_index}
use Rattle.weave.specs.Kept.{IsPosting}
use Rattle.weave.specs.declared.following.Following.{Following}
use Rattle.weave.proofs.Lists.{in_range}
use Rattle.weave.proofs.Rounds.{stored}
use Rattle.weave.proofs.following.Following.post_all.Goals as goal

pub returns-clause-follows : goal.returns-clause-follows
returns-clause-follows c scheme index posting =
    let f : Following = c.args.self.now in
    let first : slice_index f.posted.items c.args.at ≡ c.index-first.result.now = in_range f.posted.items c.args.at c.index-first.result.now 0 c.requires c.index-first.ensures in
    let went = c.in_ok-until.ensures.follows scheme (subst (IsPosting scheme f c.args.node) first posting) in
    let within = subst (λ (ks : List ℕ). c.args.at < length ks) (sym c.in_ok-until.ensures.posted) c.requires in
    stored scheme c.post_from.new.self _ c.args.node c.in_ok-until.until went.0 c.args.at index within went.1 refl refl (λ t. refl) refl refl
