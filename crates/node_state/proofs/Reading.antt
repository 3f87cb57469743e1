-- A store that is read page by page into a core.
use Rattle.std.proofs.Common.{◌≡◌, ◌++◌, ◌+◌, ◌-◌, ◌*◌, ◌<◌, ◌≤◌, ℕ, zero, suc, Bool, true, false, List, [], ◌∷◌, length, take, drop, Some, None, Result, Ok, Err, Vec, IsTrue, refl, sym, ap, subst, ◌∙◌, arith, inl, inr, length-append}
use Rattle.std.proofs.Common.{Global}
use Rattle.std.proofs.lemmas.Option.{slice_get_within}
use Rattle.units.specs.declared.code.Node.{Node}
use Rattle.wire.specs.declared.input.Input.{Input}
use Rattle.scheme.specs.declared.registries.Scheme.{Scheme}
use Rattle.protocol.specs.Cores.{HasFault, IsAt, IsFirstNotRecorded, Replays}
use Rattle.protocol.specs.declared.replay_fault.ReplayFault.{ReplayFault}
use Rattle.protocol.specs.declared.replay_fault.ReplayFault.TheVariants as replay
use Rattle.stores.specs.Calls.{Loads}
use Rattle.stores.specs.Faults.{is_device_fault, IsReadFault}
use Rattle.stores.specs.Records.{Places, AreRecords, IsDamagedAt, page_size}
use Rattle.stores.specs.declared.fault.StoreFault.{StoreFault}
use Rattle.stores.specs.declared.fault.StoreFault.TheVariants.{Reopen, Damaged, NoMemory}
use Rattle.stores.specs.declared.node_store.NodeStore.{Ghosts}
use Rattle.stores.proofs.Fronts.{none-damaged}
use Rattle.node_state.specs.Loading.{IsInPage, IsLoaded, IsReadTo, damage_of}

-- ---- places

damaged_front : (q m : ℕ) (places : Places) → IsDamagedAt q (take m places) → IsDamagedAt q places
damaged_front q zero places h = absurd (none-damaged q h)
damaged_front q (suc m) [] h = absurd (none-damaged q h)
damaged_front zero (suc m) (place ∷ places) h = h
damaged_front (suc q) (suc m) (None ∷ places) h = h
damaged_front (suc q) (suc m) (Some text ∷ places) h = (h.0, damaged_front q m places h.1)

damaged_within : (q m : ℕ) (places : Places) → IsDamagedAt q (take m places) → q < m
damaged_within q zero places h = absurd (none-damaged q h)
damaged_within q (suc m) [] h = absurd (none-damaged q h)
damaged_within zero (suc m) (place ∷ places) h = omega arith
damaged_within (suc q) (suc m) (None ∷ places) h = absurd h
damaged_within (suc q) (suc m) (Some text ∷ places) h = let below = damaged_within q m places h.1 in omega (arith, below)

-- damage after places with records
damaged_after : (records : List Input) (p q m : ℕ) (places : Places) → p ≡ length records + q → AreRecords (take (length records) places) records → IsDamagedAt q (take m (drop (length records) places)) → IsDamagedAt p places
damaged_after [] p q m places is read h = let same : q ≡ p = omega arith in subst (λ (k : ℕ). IsDamagedAt k places) same (damaged_front q m places h)
damaged_after (record_here ∷ records) p q m [] is read h = absurd read
damaged_after (record_here ∷ records) p q m (None ∷ places) is read h = absurd read
damaged_after (record_here ∷ records) zero q m (Some text ∷ places) is read h = absurd (omega arith)
damaged_after (record_here ∷ records) (suc p) q m (Some text ∷ places) is read h = ((record_here, read.0), damaged_after records p q m places (omega arith) read.1 h)

-- a page with fewer places than were asked for has all places that there are
page_whole : (m : ℕ) (places : Places) (page : List Input) → length page < m → AreRecords (take m places) page → AreRecords places page
page_whole zero places page few h = absurd (omega arith)
page_whole (suc m) [] page few h = h
page_whole (suc m) (None ∷ places) page few h = absurd h
page_whole (suc m) (Some text ∷ places) [] few h = absurd h
page_whole (suc m) (Some text ∷ places) (input ∷ page) few h = (h.0, page_whole m places page (omega arith) h.1)

-- there is nothing after a page with fewer records than were asked for
all_read : (records page : List Input) (m : ℕ) (places : Places) → length page < m → AreRecords (take (length records) places) records → AreRecords (take m (drop (length records) places)) page → AreRecords places (records ++ page)
all_read [] page m places few read h = page_whole m places page few h
all_read (record_here ∷ records) page m [] few read h = absurd read
all_read (record_here ∷ records) page m (None ∷ places) few read h = absurd read
all_read (record_here ∷ records) page m (Some text ∷ places) few read h = (read.0, all_read records page m places few read.1 h)

page_front : (m : ℕ) (places : Places) (page : List Input) → AreRecords (take m places) page → AreRecords (take (length page) places) page
page_front m places [] h = tt
page_front zero places (input ∷ page) h = absurd h
page_front (suc m) [] (input ∷ page) h = absurd h
page_front (suc m) (None ∷ places) (input ∷ page) h = absurd h
page_front (suc m) (Some text ∷ places) (input ∷ page) h = (h.0, page_front m places page h.1)

-- a page after the places with records
more_read : (records page : List Input) (m : ℕ) (places : Places) → AreRecords (take (length records) places) records → AreRecords (take m (drop (length records) places)) page → AreRecords (take (length (records ++ page)) places) (records ++ page)
more_read [] page m places read h = page_front m places page h
more_read (record_here ∷ records) page m [] read h = absurd read
more_read (record_here ∷ records) page m (None ∷ places) read h = absurd read
more_read (record_here ∷ records) page m (Some text ∷ places) read h = (read.0, more_read records page m places read.1 h)

-- all places to the end of such a page have records
through_page : (records page : List Input) (m all : ℕ) (places : Places) → all ≡ length records + m → AreRecords (take (length records) places) records → AreRecords (take m (drop (length records) places)) page
    → AreRecords (take all places) (records ++ page)
through_page [] page m all places is read h = let same : m ≡ all = omega arith in subst (λ (k : ℕ). AreRecords (take k places) page) same h
through_page (record_here ∷ records) page m all [] is read h = absurd read
through_page (record_here ∷ records) page m all (None ∷ places) is read h = absurd read
through_page (record_here ∷ records) page m zero (Some text ∷ places) is read h = absurd (omega arith)
through_page (record_here ∷ records) page m (suc all) (Some text ∷ places) is read h = (read.0, through_page records page m all places (omega arith) read.1 h)

-- there are no more records than places
count_within : (m : ℕ) (places : Places) (page : List Input) → AreRecords (take m places) page → length page ≤ m
count_within m places [] h = omega arith
count_within zero places (input ∷ page) h = absurd h
count_within (suc m) [] (input ∷ page) h = absurd h
count_within (suc m) (None ∷ places) (input ∷ page) h = absurd h
count_within (suc m) (Some text ∷ places) (input ∷ page) h = let rest = count_within m places page h.1 in omega (arith, rest)

-- a place of the page that comes after whole pages
in_page : (pages start place : ℕ) → start ≡ pages * page_size → start ≤ place → place < start + page_size → IsInPage pages place
in_page pages start place is from to = (omega (arith, is, from), omega (arith, is, to))

-- ---- the state after a page

reopen_only : {X : Type 0} (fault : StoreFault) → let told : Result X StoreFault = Err fault in told ≡ Err Reopen → fault ≡ Reopen
reopen_only fault e = cc (e)

never_reopen : {X : Type 0} (x : X) → let told : Result X StoreFault = Ok x in told ≡ Err Reopen → ⊥
never_reopen x e = cc (e)

module _ {S : Type 0} (g : Ghosts S) where
  abbrev ReadTo : S → S → List Input → Type 0
  ReadTo old new journal = IsReadTo g old new journal

  abbrev Loaded : Scheme → Node → S → S → Result (List Input) StoreFault → Type 0
  Loaded scheme n old new result = IsLoaded g scheme n old new result

  -- the page after the journal was asked for
  abbrev LoadsPage : S → S → List Input → Result (Vec Input Global) StoreFault → Type 0
  LoadsPage old new journal result = Loads g.is_honest g.content g.may_hold g.must_reopen old new (length journal) (take page_size (drop (length journal) (g.content old))) result

  -- the same, if the place is given as a number
  pub page_after : (old new : S) (from : ℕ) (journal : List Input) (result : Result (Vec Input Global) StoreFault) → from ≡ length journal
      → Loads g.is_honest g.content g.may_hold g.must_reopen old new from (take page_size (drop from (g.content old))) result → LoadsPage old new journal result
  page_after old new from journal result is loads = subst (λ (k : ℕ). Loads g.is_honest g.content g.may_hold g.must_reopen old new k (take page_size (drop k (g.content old))) result) is loads

  ran_as : (old new : S) (waits : Bool) → g.must_reopen old ≡ waits → (IsTrue (g.must_reopen old) → new ≡ old) → g.must_reopen new ≡ false → g.must_reopen old ≡ false
  ran_as old new true was same runs = ap g.must_reopen (sym (same was)) ∙ runs
  ran_as old new false was same runs = was

  -- a store that runs after a call ran before it
  pub ran_before : (old new : S) → (IsTrue (g.must_reopen old) → new ≡ old) → g.must_reopen new ≡ false → g.must_reopen old ≡ false
  ran_before old new same runs = ran_as old new (g.must_reopen old) refl same runs

  -- nothing was read yet
  pub opened : (store : S) → ReadTo store store []
  opened store = record { same = inl refl; honest = λ h. h; kept = λ h. refl; records = λ h. tt; whole = λ h. (0, refl) }

  runs_on : (old mid : S) (journal : List Input) → ReadTo old mid journal → g.must_reopen old ≡ false → g.must_reopen mid ≡ false
  runs_on old mid journal read runs = elim read.same [ inl same ↦ ap g.must_reopen same ∙ runs | inr both ↦ both.1 ]

  waits_on : (old mid : S) (journal : List Input) → ReadTo old mid journal → IsTrue (g.must_reopen old) → mid ≡ old
  waits_on old mid journal read waits = elim read.same [ inl same ↦ same | inr both ↦ let never : true ≡ false = sym waits ∙ both.0 in absurd (cc (never)) ]

  pub page_failed : (scheme : Scheme) (n : Node) (old mid new : S) (journal : List Input) (fault : StoreFault) → Replays scheme n journal → ReadTo old mid journal → LoadsPage mid new journal (Err fault) → Loaded scheme n old new (Err fault)
  page_failed scheme n old mid new journal fault recorded read loads = record {
    reopen = λ waits.
        let same = waits_on old mid journal read waits in
        let told = loads.reopen (subst (λ (s : S). IsTrue (g.must_reopen s)) (sym same) waits) in
        (ap Err (reopen_only fault told.0), told.1 ∙ same);
    honest = λ h. read.honest (loads.honest h);
    ok = λ h. tt;
    damaged = λ h place is.
        let found = loads.damaged h place is in
        let early = loads.honest h in
        let whole = read.whole early in
        let below = damaged_within (place - length journal) page_size (drop (length journal) (g.content mid)) found.1 in
        inl (record {
          pages = whole.0;
          here = in_page whole.0 (length journal) place whole.1 found.0 (omega (arith, below));
          records = journal;
          before = subst (λ (k : ℕ). AreRecords (take k (g.content old)) journal) whole.1 (read.records early);
          recorded = recorded;
          damaged = damaged_after journal place (place - length journal) page_size (g.content old) (omega (arith, found.0)) (read.records early)
              (subst (λ (places : Places). IsDamagedAt (place - length journal) (take page_size (drop (length journal) places))) (read.kept early) found.1);
        });
    named = λ runs. loads.named (runs_on old mid journal read runs);
    stops = λ runs. loads.stops (runs_on old mid journal read runs);
    runs = tt;
    kept = λ h runs. loads.kept h runs ∙ read.kept (loads.honest h);
    crash = λ h runs next held. loads.crash h (runs_on old mid journal read runs) next held ∙ read.kept (loads.honest h);
  }

  -- a store that must be reopened returns no page
  ran : (mid new : S) (journal : List Input) (page : Vec Input Global) (waits : Bool) → g.must_reopen mid ≡ waits → LoadsPage mid new journal (Ok page) → g.must_reopen mid ≡ false
  ran mid new journal page true was loads = absurd (never_reopen page (loads.reopen was).0)
  ran mid new journal page false was loads = was

  ran_first : (old mid : S) (journal : List Input) → ReadTo old mid journal → g.must_reopen mid ≡ false → g.must_reopen old ≡ false
  ran_first old mid journal read runs = elim read.same [ inl same ↦ ap g.must_reopen (sym same) ∙ runs | inr both ↦ both.0 ]

  was_running : (old mid new : S) (journal : List Input) (page : Vec Input Global) → ReadTo old mid journal → LoadsPage mid new journal (Ok page) → g.must_reopen old ≡ false
  was_running old mid new journal page read loads = ran_first old mid journal read (ran mid new journal page (g.must_reopen mid) refl loads)

  -- the records of the page, among the places of the store as it was first
  page_of : (old mid new : S) (journal : List Input) (page : Vec Input Global) → ReadTo old mid journal → LoadsPage mid new journal (Ok page) → g.is_honest new → AreRecords (take page_size (drop (length journal) (g.content old))) page.items
  page_of old mid new journal page read loads h = subst (λ (places : Places). AreRecords (take page_size (drop (length journal) places)) page.items) (read.kept (loads.honest h)) (loads.ok h)

  -- one whole page more
  pub page_read : (old mid new : S) (journal : List Input) (page : Vec Input Global) → page_size ≤ length page.items → ReadTo old mid journal → LoadsPage mid new journal (Ok page) → ReadTo old new (journal ++ page.items)
  page_read old mid new journal page full read loads = record {
    same = inr (was_running old mid new journal page read loads, loads.runs);
    honest = λ h. read.honest (loads.honest h);
    kept = λ h. loads.kept h loads.runs ∙ read.kept (loads.honest h);
    records = λ h. more_read journal page.items page_size (g.content old) (read.records (loads.honest h)) (page_of old mid new journal page read loads h);
    whole = λ h.
        let before = read.whole (loads.honest h) in
        let most = count_within page_size (drop (length journal) (g.content old)) page.items (page_of old mid new journal page read loads h) in
        (before.0 + 1, length-append journal page.items ∙ omega (arith, before.1, most, full));
  }

  -- a page with fewer records than were asked for is the last
  pub page_last : (scheme : Scheme) (n : Node) (old mid new : S) (journal : List Input) (page : Vec Input Global) → length page.items < page_size → ReadTo old mid journal → LoadsPage mid new journal (Ok page)
      → Loaded scheme n old new (Ok (journal ++ page.items))
  page_last scheme n old mid new journal page few read loads =
      let runs = was_running old mid new journal page read loads in
      record {
        reopen = λ waits. let never : true ≡ false = sym waits ∙ runs in absurd (cc (never));
        honest = λ h. read.honest (loads.honest h);
        ok = λ h. all_read journal page.items page_size (g.content old) few (read.records (loads.honest h)) (page_of old mid new journal page read loads h);
        damaged = λ h. tt;
        named = λ r. tt;
        stops = λ r. tt;
        runs = loads.runs;
        kept = λ h r. loads.kept h loads.runs ∙ read.kept (loads.honest h);
        crash = λ h r next held. loads.crash h (runs_on old mid journal read r) next held ∙ read.kept (loads.honest h);
      }

  -- a record of the page isn't recorded, or memory ran out
  page_left : (scheme : Scheme) (n : Node) (old mid new : S) (journal : List Input) (page : Vec Input Global) (fault : StoreFault) → ReadTo old mid journal → LoadsPage mid new journal (Ok page)
      → IsReadFault fault → is_device_fault fault ≡ false → ((place : ℕ) → fault ≡ Damaged place → (length journal ≤ place) × IsFirstNotRecorded scheme n (journal ++ page.items) place) → Loaded scheme n old new (Err fault)
  page_left scheme n old mid new journal page fault read loads named device bad =
      let runs = was_running old mid new journal page read loads in
      record {
        reopen = λ waits. let never : true ≡ false = sym waits ∙ runs in absurd (cc (never));
        honest = λ h. read.honest (loads.honest h);
        ok = λ h. tt;
        damaged = λ h place is.
            let early = loads.honest h in
            let whole = read.whole early in
            let here = page_of old mid new journal page read loads h in
            let most = count_within page_size (drop (length journal) (g.content old)) page.items here in
            let found = bad place is in
            let below = slice_get_within (journal ++ page.items) place found.1.input found.1.is in
            inr (record {
              pages = whole.0;
              here = in_page whole.0 (length journal) place whole.1 found.0 (omega (arith, below, length-append journal page.items, most));
              records = journal ++ page.items;
              through = through_page journal page.items page_size ((whole.0 + 1) * page_size) (g.content old) (omega (arith, whole.1)) (read.records early) here;
              unrecorded = found.1;
            });
        named = λ r. named;
        stops = λ r. loads.runs ∙ sym device;
        runs = tt;
        kept = λ h r. loads.kept h loads.runs ∙ read.kept (loads.honest h);
        crash = λ h r next held. loads.crash h (runs_on old mid journal read r) next held ∙ read.kept (loads.honest h);
      }

  page_refused : (scheme : Scheme) (n : Node) (old mid new : S) (journal : List Input) (page : Vec Input Global) (place : ℕ) → ReadTo old mid journal → LoadsPage mid new journal (Ok page)
      → length journal ≤ place → IsFirstNotRecorded scheme n (journal ++ page.items) place → Loaded scheme n old new (Err (Damaged place))
  page_refused scheme n old mid new journal page place read loads from bad =
      page_left scheme n old mid new journal page (Damaged place) read loads tt refl
      (λ k is. let same : place ≡ k = cc (is) in subst (λ (p : ℕ). (length journal ≤ p) × IsFirstNotRecorded scheme n (journal ++ page.items) p) same (from, bad))

  page_too_large : (scheme : Scheme) (n : Node) (old mid new : S) (journal : List Input) (page : Vec Input Global) → ReadTo old mid journal → LoadsPage mid new journal (Ok page)
      → Loaded scheme n old new (Err NoMemory)
  page_too_large scheme n old mid new journal page read loads =
      page_left scheme n old mid new journal page NoMemory read loads tt refl (λ k is. absurd (cc (is)))

  -- the records of the page don't continue the journal before them; the core has recorded some of them
  pub page_not_resumed : (scheme : Scheme) (n : Node) (old mid new : S) (journal : List Input) (page : Vec Input Global) (reached : ℕ) (fault : ReplayFault) → ReadTo old mid journal → LoadsPage mid new journal (Ok page)
      → length journal ≤ reached → IsAt reached fault → HasFault scheme n (journal ++ page.items) fault → Loaded scheme n old new (Err (damage_of fault))
  page_not_resumed scheme n old mid new journal page reached (replay.NotRecorded place) read loads from at bad = page_refused scheme n old mid new journal page place read loads (omega (arith, from, at)) bad
  page_not_resumed scheme n old mid new journal page reached replay.NoMemory read loads from at bad = page_too_large scheme n old mid new journal page read loads
