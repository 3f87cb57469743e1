use Rattle.std.proofs.Common.{ap, sym, ◌∙◌, arith}
use Rattle.std.proofs.Math.Seq.{drop-length}
use Rattle.std.specs.FinMap as map
use Rattle.scheme.specs.Allotted.{allotted}
use Rattle.scheme.proofs.registries.Scheme.allotments.Goals as goal

pub loop-left-init : goal.loop-left-init
loop-left-init c = record {
  within = omega arith;
  put = λ u. ap (λ m. map.get m u) c.new-holders.ensures ∙ map.get-empty _ u ∙ sym (ap (λ members. allotted members u) (drop-length c.registries-members.result.now));
}
