use Rattle.std.proofs.Common.{◌≡◌, ◌≢◌, ◌≤◌, ◌-◌, ℕ, min, length, take, ap, ◌∙◌, arith}
use Rattle.std.proofs.lemmas.List.{length-take-le}
use Rattle.stores.specs.declared.fault.StoreFault.{StoreFault}
use Rattle.stores.specs.declared.fault.StoreFault.TheVariants.{Damaged}
use Rattle.show.specs.Show.{record_lines}
use Rattle.show.proofs.Pages.{passed-on, page-sound, page-length, page-reads, records-length}
use Rattle.show.proofs.showing.page_text.Goals as goal

pub returns-in_err-page-clause-sound : goal.returns-in_err-page-clause-sound
returns-in_err-page-clause-sound g c = λ h all are low.
    let place = c.args.place in
    passed-on (λ (fault : StoreFault). (p : ℕ) → fault ≢ Damaged p) c.in_err-page.field-0.0 c.from_residual.result c.from_residual.ensures.1
    (λ p e. page-sound place 256 (p - place) (g.S.NodeStore.content c.args.store.now) all are (c.in_err-page.ensures.loads.damaged h p e).1)

pub returns-then-len-few-clause-sound : goal.returns-then-len-few-clause-sound
returns-then-len-few-clause-sound g c = λ h all are low p e.
    let places = g.S.NodeStore.content c.args.store.now in
    let page = c.in_ok-page.page in
    let size : length page.items ≡ min 256 (length places - c.args.place) = page-length c.args.place 256 places page.items (c.in_ok-page.ensures.loads.ok h) in
    let many : length places ≡ length all = records-length places all are in
    omega arith

pub returns-clause-ok : goal.returns-clause-ok
returns-clause-ok g c =
    let s = g.S.NodeStore in
    let page = c.in_ok-page.page in
    let few = c.min-few.result in
    let within : c.min-few.result ≤ length page.items = omega arith in
    let most : c.min-few.result ≤ 256 = omega arith in
    let counted : c.min-few.result ≡ min 256 (c.args.count - c.args.place) = omega arith in (
      take few page.items,
      length-take-le few page.items within ∙ counted,
      c.in_ok-text.ensures ∙ ap (λ l. record_lines c.args.form c.args.place (take few l)) c.as_slice.ensures.value,
      page-reads s c.args.store.now c.load_page.new.self c.args.place few page most within c.in_ok-page.ensures.loads c.in_ok-page.ensures.count,
    )
