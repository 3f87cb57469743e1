use Rattle.std.proofs.Common.{◌≡◌, ◌++◌, length, refl, ◌∙◌, arith}
use Rattle.stores.specs.declared.fault.StoreFault.{StoreFault}
use Rattle.stores.specs.declared.fault.StoreFault.TheVariants.{NoMemory}
use Rattle.command_faults.specs.declared.fault.OpFault.{OpFault}
use Rattle.command_faults.specs.declared.fault.OpFault.TheVariants.{Store}
use Rattle.show.specs.Pages.{Stops, FailsToWrite}
use Rattle.show.specs.Show.{record_lines}
use Rattle.show.proofs.Pages.{passed-on, true-false, stops-here}
use Rattle.show.proofs.ShownPages.{both, shows-more, begun-more, begun-here}
use Rattle.show.proofs.ShowFaults.{fails-writing, none-told}
use Rattle.show.proofs.showing.write_records.Goals as goal

pub returns-in_err-written-clause-err : goal.returns-in_err-written-clause-err
returns-in_err-written-clause-err g c =
    let s = g.S.NodeStore in
    let old = c.args.store.now in
    let new = c.page_text.new.store in
    let v = g.W.Write.contents c.args.writer.now in
    let x = g.W.Write.contents c.loop-place.writer in
    let w = g.W.Write.contents c.write_more.new.writer in
    let e = c.in_err-written.field-0.0 in
    let so_far = c.loop-place.invariant.shows in
    let page = c.in-Ok.ensures.ok in
    let text = c.as_slice.result.now in
    let is : text ≡ record_lines c.args.form c.loop-place.place page.0 = c.as_slice.ensures.value ∙ page.2 in
    passed-on (λ (e : OpFault). FailsToWrite c.args.form e c.args.node c.args.count (s.is_honest new) (s.content old) v w) e c.from_residual.result c.from_residual.ensures.1
    (fails-writing c.args.form e c.args.node c.args.count c.loop-place.written (s.is_honest new) (s.content old) text v x w c.in_err-written.ensures.err
    (begun-more s c.args.form old c.loop-place.store new v x w c.loop-place.place c.loop-place.written page.0 text so_far is page.3)
    (begun-here s c.args.form old c.loop-place.store new v x w c.loop-place.place c.loop-place.written so_far page.3.honest))

pub returns-in_err-written-clause-stops : goal.returns-in_err-written-clause-stops
returns-in_err-written-clause-stops g c =
    let s = g.S.NodeStore in
    let old = c.args.store.now in
    let new = c.page_text.new.store in
    let v = g.W.Write.contents c.args.writer.now in
    let x = g.W.Write.contents c.loop-place.writer in
    let w = g.W.Write.contents c.write_more.new.writer in
    let e = c.in_err-written.field-0.0 in
    let so_far = c.loop-place.invariant.shows in
    let page = c.in-Ok.ensures.ok in
    let reads = both s c.args.form old c.loop-place.store new v x c.loop-place.place c.loop-place.written page.0 so_far page.3 in
    passed-on (λ (e : OpFault). (fault : StoreFault) × Stops s old new fault × ((f : StoreFault) → e ≡ Store c.args.node f → f ≡ fault)) e c.from_residual.result c.from_residual.ensures.1 (
      NoMemory,
      stops-here s old new 0 (so_far.inputs ++ page.0) NoMemory reads (λ w. true-false (s.must_reopen old) w c.requires) tt refl,
      λ f same. none-told e c.args.node NoMemory f c.loop-place.written c.as_slice.result.now x w c.in_err-written.ensures.err same,
    )

pub loop-place-preserved : goal.loop-place-preserved
loop-place-preserved g c =
    let s = g.S.NodeStore in
    let v = g.W.Write.contents c.args.writer.now in
    let x = g.W.Write.contents c.loop-place.writer in
    let w = g.W.Write.contents c.write_more.new.writer in
    let page = c.in-Ok.ensures.ok in
    let text = c.as_slice.result.now in
    let is : text ≡ record_lines c.args.form c.loop-place.place page.0 = c.as_slice.ensures.value ∙ page.2 in
    let few : length page.0 ≡ c.min-place.result = omega (arith, page.1) in
    let added = c.in_ok-written.ensures.ok in
    record {
      shows = shows-more s c.args.form c.args.store.now c.loop-place.store c.page_text.new.store v x w c.loop-place.place c.loop-place.written c.min-place.result page.0 text c.loop-place.invariant.shows few is page.3
          c.in_ok-written.written added.0 added.1;
      runs = c.in-Ok.ensures.runs;
      within = omega arith;
    }
