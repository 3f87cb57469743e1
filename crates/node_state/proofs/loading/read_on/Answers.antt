use Rattle.std.proofs.Common.{◌≡◌, ◌++◌, ◌<◌, ◌≤◌, length, List, ap, subst, ◌∙◌, arith, length-append}
use Rattle.std.proofs.lemmas.Grind.{elements}
use Rattle.wire.specs.declared.input.Input.{Input}
use Rattle.protocol.specs.Cores.{HasFault}
use Rattle.std.proofs.lemmas.Result.{err_from_is_err_and}
use Rattle.stores.specs.Records.{page_size}
use Rattle.node_state.proofs.Reading.{page_after, page_failed, page_read, page_last, page_not_resumed}
use Rattle.node_state.proofs.loading.read_on.Goals as goal

pub returns-in_err-page-clause-read : goal.returns-in_err-page-clause-read
returns-in_err-page-clause-read g c first read =
    let p = err_from_is_err_and c.from_residual.result c.from_residual.ensures.1 in
    let journal = g.C.NodeCore.journal_of c.args.core.now in
    rw (p.1, p.2)
    (page_failed g.S.NodeStore (g.C.NodeCore.scheme_of c.args.core.now) (g.C.NodeCore.node_of c.args.core.now) first c.args.store.now c.next_page.new.store journal _ c.journal.ensures.replays read
    (page_after g.S.NodeStore c.args.store.now c.next_page.new.store (length c.journal.result.now) journal _ (ap length c.journal.ensures.value) c.in_err-page.ensures.loads))

pub returns-then-inputs-clause-read : goal.returns-then-inputs-clause-read
returns-then-inputs-clause-read g c first read =
    let journal : g.C.NodeCore.journal_of c.resume.new.core ≡ g.C.NodeCore.journal_of c.args.core.now ++ c.in_ok-page.page.items =
    c.in-Ok.ensures.ok ∙ ap (λ (l : List Input). g.C.NodeCore.journal_of c.args.core.now ++ l) c.as_slice-inputs.ensures.value in
    let few : length c.in_ok-page.page.items < page_size = omega (arith, c.if-inputs.true, ap (λ (l : List Input). length l) c.as_slice-inputs.ensures.value) in
    rw journal
    (page_last g.S.NodeStore _ _ first c.args.store.now c.next_page.new.store _ c.in_ok-page.page few read
    (page_after g.S.NodeStore c.args.store.now c.next_page.new.store (length c.journal.result.now) (g.C.NodeCore.journal_of c.args.core.now) _ (ap length c.journal.ensures.value) c.in_ok-page.ensures.loads))

pub returns-else-inputs-clause-read : goal.returns-else-inputs-clause-read
returns-else-inputs-clause-read g c first read =
    let journal : g.C.NodeCore.journal_of c.resume.new.core ≡ g.C.NodeCore.journal_of c.args.core.now ++ c.in_ok-page.page.items =
    c.in-Ok.ensures.ok ∙ ap (λ (l : List Input). g.C.NodeCore.journal_of c.args.core.now ++ l) c.as_slice-inputs.ensures.value in
    let full : page_size ≤ length c.in_ok-page.page.items = omega (arith, c.if-inputs.false, ap (λ (l : List Input). length l) c.as_slice-inputs.ensures.value) in
    rw journal
    (page_read g.S.NodeStore first c.args.store.now c.next_page.new.store _ c.in_ok-page.page full read
    (page_after g.S.NodeStore c.args.store.now c.next_page.new.store (length c.journal.result.now) (g.C.NodeCore.journal_of c.args.core.now) _ (ap length c.journal.ensures.value) c.in_ok-page.ensures.loads))

pub returns-in-Err-clause-read : goal.returns-in-Err-clause-read
returns-in-Err-clause-read g c first read =
    let scheme = g.C.NodeCore.scheme_of c.args.core.now in
    let n = g.C.NodeCore.node_of c.args.core.now in
    let journal = g.C.NodeCore.journal_of c.args.core.now in
    let after = g.C.NodeCore.journal_of c.resume.new.core in
    let bad = subst (λ (inputs : List Input). HasFault scheme n (journal ++ inputs) c.in-Err.fault) c.as_slice-inputs.ensures.value c.in-Err.ensures.fault in
    let grown : length journal ≤ length after = omega (arith, ap (λ (l : List Input). length l) c.in-Err.ensures.prefix ∙ length-append journal _) in
    rw c.damage_of.ensures
    (page_not_resumed g.S.NodeStore scheme n first c.args.store.now c.next_page.new.store journal c.in_ok-page.page (length after) c.in-Err.fault read
    (page_after g.S.NodeStore c.args.store.now c.next_page.new.store (length c.journal.result.now) journal _ (ap length c.journal.ensures.value) c.in_ok-page.ensures.loads) grown c.in-Err.ensures.place bad)

pub returns-else-inputs-clause-grows : goal.returns-else-inputs-clause-grows
returns-else-inputs-clause-grows g c = grind (arith, elements)
