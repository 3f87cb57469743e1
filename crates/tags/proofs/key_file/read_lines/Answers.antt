use Rattle.std.proofs.Common.{[], ◌∷◌, length-append, arith, rules}
use Rattle.tags.proofs.KeyLines.{reads_next, fault_of_line}
use Rattle.tags.proofs.key_file.read_lines.Goals as goal

pub loop-preserved : goal.loop-preserved
loop-preserved c =
    let ok = c.in_ok-add_line.ensures.ok in
    let old = c.loop.entries.items in
    let size = length-append old (ok.0 ∷ []) in
    let count = c.loop.invariant.count in
    record {
      reads = rw ok.1 (reads_next c.args.text.now old c.loop.left.now c.next_line.result.0.now c.next_line.result.1.now ok.0 c.loop.invariant.reads c.next_line.ensures ok.2 ok.3 ok.4);
      count = rw ok.1 (omega (arith, size, count));
    }

pub returns-in_err-add_line-clause-fault : goal.returns-in_err-add_line-clause-fault
returns-in_err-add_line-clause-fault c =
    let fault = fault_of_line c.args.text.now c.loop.entries.items c.loop.left.now c.next_line.result.0.now c.next_line.result.1.now c.in_err-add_line.field-0.0 c.loop.invariant.reads c.next_line.ensures c.in_err-add_line.ensures.err in
    search (rules, fault)
