use Rattle.std.proofs.Common.{rules, subst, sym}
use Rattle.units.specs.Keys.{code_cmp}
use Rattle.scheme.specs.Reading.{AreSorted}
use Rattle.scheme.specs.declared.members.SchemeRegistry.{SchemeRegistry}
use Rattle.scheme.proofs.Told.{sorted_by}
use Rattle.scheme.proofs.listed.UnsortedRegistries.into_sorted.Goals as goal

pub returns-clause-sorted : goal.returns-clause-sorted
returns-clause-sorted c = subst AreSorted (sym c.from_vec.ensures) (sorted_by (λ (m : SchemeRegistry). m.code) code_cmp c.sort_unstable_by_key.new.self.items c.sort_unstable_by_key.ensures.sorted (λ a r q h. search rules))
