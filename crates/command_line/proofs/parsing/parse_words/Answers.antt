use Rattle.std.proofs.Common.{◌≡◌, true, map, subst, sym}
use Rattle.clap.specs.Takes.{takes}
use Rattle.clap.specs.Words.{HasMatchesOf}
use Rattle.command_line.proofs.UsageFaults.{has_kind, has_none, told}
use Rattle.command_line.proofs.parsing.parse_words.Goals as goal

pub returns-clause-taken : goal.returns-clause-taken
returns-clause-taken g c =
    λ taken. c.fault_of.ensures.memory (c.in-Err.ensures.passes (subst (λ a. takes a (map g.S.AsStr.text c.args.words.now) ≡ true) (sym c.in-Ok.ensures.0) taken))

pub returns-clause-fault : goal.returns-clause-fault
returns-clause-fault g c =
    told (map g.S.AsStr.text c.args.words.now) c.in-Err.error c.fault_of.result
    (has_kind _ (map g.S.AsStr.text c.args.words.now) c.in-Err.error c.in-Ok.ensures.0 c.in-Err.ensures.kinds) c.fault_of.ensures.kind

pub returns-in-Some-clause-ok : goal.returns-in-Some-clause-ok
returns-in-Some-clause-ok g c =
    let words = map g.S.AsStr.text c.args.words.now in
    let found = c.in-Ok-try_get_matches_from in
    (found.matches, subst (λ a. HasMatchesOf a words found.matches) c.in-Ok.ensures.0 found.ensures.matches, c.in-Some.ensures)

pub returns-in-Some-clause-right : goal.returns-in-Some-clause-right
returns-in-Some-clause-right g c =
    has_none _ (map g.S.AsStr.text c.args.words.now) c.in-Ok.ensures.0 c.in-Ok-try_get_matches_from.ensures.kinds
