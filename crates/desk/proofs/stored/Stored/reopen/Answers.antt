use Rattle.std.proofs.Common.{length, ap, ◌∙◌}
use Rattle.desk.proofs.Keepings.{kept_reopened}
use Rattle.desk.proofs.stored.Stored.reopen.Goals as goal

pub invariant_of-result : goal.invariant_of-result
invariant_of-result g c =
    let did = c.commit.ensures in
    let parts = c.into_parts-state.ensures in
    kept_reopened g.S.NodeStore c.into_parts-state.result.0 c.go_on.new.self c.commit.new.self c.open_anew.new.self c.into_parts-state.result.1 c.commit.new.store _ c.in-Ok.field-0 c.commit.result
    c.go_on.ensures did.state c.in-Ok.is c.open_anew.ensures (ap g.S.NodeStore.must_reopen parts.store ∙ c.requires) did.whose did.own (ap length c.journal-records.ensures.value)
    (did.count, (λ none. let nothing = did.none none in (nothing.0, nothing.2)), did.some) parts.keeps

pub returns-in-Ok-clause-keeps : goal.returns-in-Ok-clause-keeps
returns-in-Ok-clause-keeps g c =
    let did = c.commit.ensures in
    let parts = c.into_parts-state.ensures in
    kept_reopened g.S.NodeStore c.into_parts-state.result.0 c.go_on.new.self c.commit.new.self c.open_anew.new.self c.into_parts-state.result.1 c.commit.new.store _ c.in-Ok.field-0 c.commit.result
    c.go_on.ensures did.state c.in-Ok.is c.open_anew.ensures (ap g.S.NodeStore.must_reopen parts.store ∙ c.requires) did.whose did.own (ap length c.journal-records.ensures.value)
    (did.count, (λ none. let nothing = did.none none in (nothing.0, nothing.2)), did.some) parts.keeps
