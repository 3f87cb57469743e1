use Rattle.std.proofs.Common.{Option, ap, sym, ◌∙◌}
use Rattle.std.specs.Option.{option_map_or}
use Rattle.records.specs.declared.record.Record.{Record}
use Rattle.records.proofs.Sendings.{total_last}
use Rattle.records.proofs.record.sends_after.Goals as goal

pub returns-in-Some : goal.returns-in-Some
returns-in-Some c = ap (λ (o : Option Record). option_map_or (λ r. r.sends) o 0) c.in-Some.ensures.value ∙ sym (total_last 0 c.args.records.now)
