use Rattle.std.proofs.Common.{refl, subst, rules}
use Rattle.durable.specs.Kept.{IsHonest, MayHold, AreFilesOf}
use Rattle.durable.proofs.Stores.{found-and-refused, had-files, left-again, settled-again}
use Rattle.durable.proofs.sql_store.SqlStoreNodeStore.reopen.Goals as goal

pub returns-in-Ok-clause-reopens : goal.returns-in-Ok-clause-reopens
returns-in-Ok-clause-reopens g c = record {
  named = search rules;
  runs = search rules;
  stops = search rules;
  honest = λ clean. subst (λ store_state. IsHonest g.D.Disk store_state) c.replace.ensures.value (c.into_files-files.ensures.honest (c.in-Ok.ensures.found clean).1.honest);
  settles = λ clean.
      settled-again g.D.Disk c.args.self.now.store_state c.replace.result c.into_files-files.result _ c.replace.ensures.value g.met.D.Disk.seen_may_stay c.into_files-files.ensures.left (c.in-Ok.ensures.found clean);
  settled = λ clean runs next held. c.in-Ok.ensures.durable clean next held;
  refused = search rules;
}

pub returns-in-Err-clause-reopens : goal.returns-in-Err-clause-reopens
returns-in-Err-clause-reopens g c = record {
  named = search rules;
  runs = search rules;
  stops = search rules;
  honest = search rules;
  settles = search rules;
  settled = search rules;
  refused = λ clean refuses.
      let old = c.args.self.now.store_state in
      let files = c.into_files-files.result in
      let found = found-and-refused g.D.Disk files c.in-Err.files c.in-Err.fault refuses (c.in-Err.ensures.unharmed clean) in (
        subst (λ store_state. IsHonest g.D.Disk store_state) c.replace.ensures.value (c.into_files-files.ensures.honest found.1.honest),
        λ next held. left-again g.D.Disk files c.in-Err.files (MayHold g.D.Disk old) found.0 next g.met.D.Disk.seen_may_stay found.1 found.2
            (had-files g.D.Disk old c.replace.result files c.replace.ensures.value c.into_files-files.ensures.left) held,
      );
}

pub returns-in-Err-clause-spared : goal.returns-in-Err-clause-spared
returns-in-Err-clause-spared g c = record {
  files = c.into_files-files.result;
  left = c.in-Err.files;
  had = (
    subst (λ store_state. AreFilesOf g.D.Disk store_state c.into_files-files.result) c.replace.ensures.value c.into_files-files.ensures.files,
    had-files g.D.Disk c.args.self.now.store_state c.replace.result c.into_files-files.result c.replace.ensures.value c.into_files-files.ensures.left,
  );
  has = refl;
  spared = c.in-Err.ensures.spared;
}

pub returns-in-Err-clause-fault : goal.returns-in-Err-clause-fault
returns-in-Err-clause-fault g c clean = (
  c.into_files-files.result,
  (
    subst (λ store_state. AreFilesOf g.D.Disk store_state c.into_files-files.result) c.replace.ensures.value c.into_files-files.ensures.files,
    had-files g.D.Disk c.args.self.now.store_state c.replace.result c.into_files-files.result c.replace.ensures.value c.into_files-files.ensures.left,
  ),
  c.in-Err.ensures.fault clean,
)
