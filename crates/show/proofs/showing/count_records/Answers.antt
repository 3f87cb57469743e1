use Rattle.std.proofs.Common.{◌≡◌, ℕ, min, length, arith}
use Rattle.stores.specs.Records.{IsDamagedAt}
use Rattle.stores.specs.declared.fault.StoreFault.{StoreFault}
use Rattle.stores.specs.declared.fault.StoreFault.TheVariants.{Damaged}
use Rattle.show.proofs.Pages.{passed-on, next-page, last-page, damaged-later}
use Rattle.show.proofs.showing.count_records.Goals as goal

pub returns-in_err-page-clause-damaged : goal.returns-in_err-page-clause-damaged
returns-in_err-page-clause-damaged g c = λ h.
    let s = g.S.NodeStore in
    let so_far = c.loop-count.invariant in
    passed-on (λ (fault : StoreFault). (p : ℕ) → fault ≡ Damaged p → IsDamagedAt p (s.content c.args.store.now)) c.in_err-page.field-0.0 c.from_residual.result c.from_residual.ensures.1
    (damaged-later s c.args.store.now c.loop-count.store c.load_page.new.self so_far.0 c.loop-count.count c.in_err-page.field-0.0 so_far.1 so_far.2 c.in_err-page.ensures.loads h)

pub returns-then-few-lt-PAGE-clause-ok : goal.returns-then-few-lt-PAGE-clause-ok
returns-then-few-lt-PAGE-clause-ok g c =
    let s = g.S.NodeStore in
    let so_far = c.loop-count.invariant in
    let page = c.in_ok-page.page in
    let few : c.min-few.result ≡ min 256 (length page.items) = omega arith in
    last-page s c.args.store.now c.loop-count.store c.load_page.new.self so_far.0 page c.loop-count.count c.min-few.result so_far.1 so_far.2 c.in_ok-page.ensures.loads c.in_ok-page.ensures.count few c.if-few-lt-PAGE.true

pub loop-count-preserved : goal.loop-count-preserved
loop-count-preserved g c =
    let s = g.S.NodeStore in
    let so_far = c.loop-count.invariant in
    let page = c.in_ok-page.page in
    let few : c.min-few.result ≡ min 256 (length page.items) = omega arith in
    next-page s c.args.store.now c.loop-count.store c.load_page.new.self so_far.0 page c.loop-count.count c.min-few.result so_far.1 so_far.2 c.in_ok-page.ensures.loads c.in_ok-page.ensures.count few
