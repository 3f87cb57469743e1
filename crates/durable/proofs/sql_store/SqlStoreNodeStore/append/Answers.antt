use Rattle.std.proofs.Common.{refl, rules}
use Rattle.durable.proofs.Stores.{same-store}
use Rattle.durable.proofs.sql_store.SqlStoreNodeStore.append.Goals as goal

pub returns-in-Err-clause-appends : goal.returns-in-Err-clause-appends
returns-in-Err-clause-appends g c =
    let h = c.in-Err.ensures.appends in
    record {
      reopen = λ waits. let same = h.reopen waits in (same.0, same-store c.args.self.now c.append.new.self c.count_fault-self.result _ same.1 (search rules));
      named = h.named;
      stops = h.stops;
      runs = h.runs;
      honest = h.honest;
      empty = λ runs none. let never = (h.empty runs none).0 in absurd (cc (never));
      ok = h.ok;
      refused = h.refused;
      crash = h.crash;
      settled = h.settled;
    }

pub returns-in-Ok-clause-appends : goal.returns-in-Ok-clause-appends
returns-in-Ok-clause-appends g c =
    let h = c.append.ensures.appends in
    record {
      reopen = search rules;
      named = search rules;
      stops = search rules;
      runs = search rules;
      honest = h.honest;
      empty = λ runs none. let same = h.empty runs none in (refl, same-store c.args.self.now c.append.new.self c.args.self.now.faults _ same.1 refl);
      ok = search rules;
      refused = search rules;
      crash = h.crash;
      settled = h.settled;
    }
