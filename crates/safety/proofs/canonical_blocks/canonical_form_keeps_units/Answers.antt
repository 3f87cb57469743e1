use Rattle.protocol.proofs.CanonicalBlocks.{canonical_found, canonical_no_repeats}
use Rattle.safety.proofs.CanonicalOrder.{canonical_in_order}
use Rattle.safety.proofs.canonical_blocks.canonical_form_keeps_units.Goals as goal

pub returns : goal.returns
returns c = record {
  units = canonical_found;
  once = canonical_no_repeats;
  ordered = canonical_in_order;
}
