use Rattle.std.proofs.Common.{rules}
use Rattle.durable.proofs.Stores.{same-store}
use Rattle.durable.proofs.sql_store.SqlStoreNodeStore.load_page.Goals as goal

pub returns-in-Err-clause-loads : goal.returns-in-Err-clause-loads
returns-in-Err-clause-loads g c =
    let h = c.in-Err.ensures.loads in
    record {
      reopen = λ waits. let same = h.reopen waits in (same.0, same-store c.args.self.now c.load_page.new.self c.count_fault-self.result _ same.1 (search rules));
      honest = h.honest;
      ok = h.ok;
      damaged = h.damaged;
      named = h.named;
      stops = h.stops;
      runs = h.runs;
      kept = h.kept;
      crash = h.crash;
    }
