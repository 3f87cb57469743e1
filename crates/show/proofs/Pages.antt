-- Pages of a store, one after another: the records that were read, and the fault that ended the reading.
use Rattle.std.proofs.Common.{◌≡◌, ◌≤◌, ◌<◌, ◌+◌, ◌-◌, ℕ, zero, suc, Bool, false, true≢false, List, [], ◌∷◌, ◌++◌, Some, None, Result, Ok, Err, IfErr, Vec, Global, IsTrue, min, length, take, drop, refl, sym, ap, subst, ◌∙◌, arith, length-append}
use Rattle.std.specs.Result.{IsErrAnd}
use Rattle.std.proofs.Math.Seq.{take-add}
use Rattle.std.proofs.lemmas.List.{take-take, take_all, length-take-le, length-take, length-drop}
use Rattle.wire.specs.declared.input.Input.{Input}
use Rattle.stores.specs.Calls.{Loads}
use Rattle.stores.specs.Faults.{count_after, IsReadFault}
use Rattle.stores.specs.Records.{Places, AreRecords, IsDamagedAt}
use Rattle.stores.specs.declared.fault.StoreFault.{StoreFault}
use Rattle.stores.specs.declared.fault.StoreFault.TheVariants.{Damaged}
use Rattle.stores.proofs.Fronts.{records-append, records-take, records-drop, none-damaged}
use Rattle.stores.specs.declared.node_store.NodeStore.{Ghosts}
use Rattle.show.specs.Pages.{Reads, Stops}

-- ---- places

pub records-length : (places : Places) (inputs : List Input) → AreRecords places inputs → length places ≡ length inputs
records-length [] [] are = refl
records-length [] (i ∷ inputs) are = absurd are
records-length (None ∷ places) inputs are = absurd are
records-length (Some t ∷ places) [] are = absurd are
records-length (Some t ∷ places) (i ∷ inputs) are = ap suc (records-length places inputs are.1)

-- a damaged place among the first ones
damaged-take : (n p : ℕ) (places : Places) → IsDamagedAt p (take n places) → IsDamagedAt p places
damaged-take zero p places h = absurd (none-damaged p h)
damaged-take (suc n) p [] h = h
damaged-take (suc n) zero (place ∷ places) h = h
damaged-take (suc n) (suc p) (None ∷ places) h = absurd h
damaged-take (suc n) (suc p) (Some t ∷ places) h = (h.0, damaged-take n p places h.1)

-- a damaged place after records
damaged-drop : (k p : ℕ) (places : Places) (inputs : List Input) → AreRecords (take k places) inputs → k ≤ p → IsDamagedAt (p - k) (drop k places) → IsDamagedAt p places
damaged-drop zero p places inputs are low h = let same : p - 0 ≡ p = omega arith in subst (λ n. IsDamagedAt n places) same h
damaged-drop (suc k) zero places inputs are low h = absurd (omega arith)
damaged-drop (suc k) (suc p) [] inputs are low h = absurd (none-damaged (suc p - suc k) h)
damaged-drop (suc k) (suc p) (None ∷ places) inputs are low h = absurd are
damaged-drop (suc k) (suc p) (Some t ∷ places) [] are low h = absurd are
damaged-drop (suc k) (suc p) (Some t ∷ places) (i ∷ inputs) are low h =
    let same : suc p - suc k ≡ p - k = omega arith in
    ((i, are.0), damaged-drop k p places inputs are.1 (omega arith) (subst (λ n. IsDamagedAt n (drop k places)) same h))

pub damaged-page : (k n p : ℕ) (places : Places) (inputs : List Input) → AreRecords (take k places) inputs → k ≤ p → IsDamagedAt (p - k) (take n (drop k places)) → IsDamagedAt p places
damaged-page k n p places inputs are low h = damaged-drop k p places inputs are low (damaged-take n (p - k) (drop k places) h)

not-damaged : (p : ℕ) (places : Places) (inputs : List Input) → AreRecords places inputs → IsDamagedAt p places → ⊥
not-damaged p [] inputs are h = none-damaged p h
not-damaged p (None ∷ places) inputs are h = are
not-damaged p (Some t ∷ places) [] are h = are
not-damaged zero (Some t ∷ places) (i ∷ inputs) are h = h i are.0
not-damaged (suc p) (Some t ∷ places) (i ∷ inputs) are h = not-damaged p places inputs are.1 h.1

-- no page of records has a damaged place
pub page-sound : (k n p : ℕ) (places : Places) (all : List Input) → AreRecords places all → IsDamagedAt p (take n (drop k places)) → ⊥
page-sound k n p places all are h = not-damaged p (take n (drop k places)) (take n (drop k all)) (records-take _ n (drop k places) (drop k all) (records-drop _ k places all are)) h

-- how many records a page has
pub page-length : (k n : ℕ) (places : Places) (page : List Input) → AreRecords (take n (drop k places)) page → length page ≡ min n (length places - k)
page-length k n places page are = sym (records-length (take n (drop k places)) page are) ∙ length-take n (drop k places) ∙ ap (min n) (length-drop k places)

-- the error that a `?` returns
pub passed-on : {X E : Type 0} (P : E → Type 0) (f : E) (r : Result X E) → IsErrAnd r (λ e. e ≡ f) → P f → IfErr r P
passed-on P f (Ok x) same p = tt
passed-on P f (Err e) same p = subst P (sym same) p

pub true-false : (b : Bool) → IsTrue b → b ≡ false → ⊥
true-false b t e = true≢false (sym t ∙ e)

-- ---- a store

module _ {S : Type 0} (g : Ghosts S) where
  abbrev Read : S → S → ℕ → List Input → Type 0
  Read old new from inputs = Reads g old new from inputs

  abbrev Ends : S → S → StoreFault → Type 0
  Ends old new fault = Stops g old new fault

  pub reads-more : (old mid new : S) (inputs page : List Input) (from : ℕ) → length inputs ≡ from → Read old mid 0 inputs → Read mid new from page → Read old new 0 (inputs ++ page)
  reads-more old mid new inputs page from many p q =
      let places = g.content old in
      let k = length inputs in
      let n = length page in
      let joined : take k places ++ take n (drop k places) ≡ take (length (inputs ++ page)) places = sym (take-add k n places) ∙ ap (λ m. take m places) (sym (length-append inputs page)) in
      record {
        are = λ h.
            let here : AreRecords (take n (drop from (g.content mid))) page = q.are h in
            let at : AreRecords (take n (drop k (g.content mid))) page = subst (λ m. AreRecords (take n (drop m (g.content mid))) page) (sym many) here in
            let next : AreRecords (take n (drop k places)) page = subst (λ ps. AreRecords (take n (drop k ps)) page) (p.kept (q.honest h)) at in
            subst (λ ps. AreRecords ps (inputs ++ page)) joined (records-append _ (take k places) inputs (take n (drop k places)) page (p.are (q.honest h)) next);
        honest = λ h. p.honest (q.honest h);
        kept = λ h. q.kept h ∙ p.kept (q.honest h);
        counted = q.counted ∙ p.counted;
        runs = λ w. q.runs (p.runs w);
        waits = λ w.
            let first = p.waits w in
            let next = q.waits (subst (λ s. IsTrue (g.must_reopen s)) (sym first.0) w) in
            (next.0 ∙ first.0, ap (λ l. l ++ page) first.1 ∙ next.1);
      }

  -- the reading itself succeeded, and then a fault came that is not the device's
  pub stops-here : (old new : S) (from : ℕ) (inputs : List Input) (fault : StoreFault) → Read old new from inputs → (IsTrue (g.must_reopen old) → ⊥) → IsReadFault fault → count_after (g.faults old) fault ≡ g.faults old → Ends old new fault
  stops-here old new from inputs fault p running read uncounted = record {
    honest = p.honest;
    kept = λ h w. p.kept h;
    counted = p.counted ∙ sym uncounted;
    named = λ w. read;
    reopen = λ w. absurd (running w);
  }

  -- all places were read
  pub reads-all : (old new : S) (inputs : List Input) → Read old new 0 inputs → g.is_honest new → length (g.content old) ≤ length inputs → AreRecords (g.content old) inputs
  reads-all old new inputs p h most = subst (λ ps. AreRecords ps inputs) (take_all (length inputs) (g.content old) most) (p.are h)

  abbrev LoadsPage : S → S → ℕ → Result (Vec Input Global) StoreFault → Type 0
  LoadsPage old new from result = Loads g.is_honest g.content g.may_hold g.must_reopen old new from (take 256 (drop from (g.content old))) result

  -- the first records of a page that was read
  pub page-reads : (old new : S) (from n : ℕ) (page : Vec Input Global) → n ≤ 256 → n ≤ length page.items
      → LoadsPage old new from (Ok page) → g.faults new ≡ g.faults old → Read old new from (take n page.items)
  page-reads old new from n page few within loads counted =
      let part = drop from (g.content old) in
      let size : length (take n page.items) ≡ n = length-take-le n page.items within in
      record {
        are = λ h.
            let front : AreRecords (take n (take 256 part)) (take n page.items) = records-take _ n (take 256 part) page.items (loads.ok h) in
            let here : AreRecords (take n part) (take n page.items) = subst (λ ps. AreRecords ps (take n page.items)) (take-take n 256 part few) front in
            subst (λ m. AreRecords (take m part) (take n page.items)) (sym size) here;
        honest = loads.honest;
        kept = λ h. loads.kept h loads.runs;
        counted = counted;
        runs = λ w. loads.runs;
        waits = λ w. let e = (loads.reopen w).0 in absurd (cc (e));
      }

  -- a page that isn't full: all places were read
  all-places : (old mid new : S) (inputs : List Input) (page : Vec Input Global) (from n : ℕ) → length inputs ≡ from → Read old mid 0 inputs
      → LoadsPage mid new from (Ok page) → g.faults new ≡ g.faults mid → n ≡ min 256 (length page.items) → n < 256 → g.is_honest new → AreRecords (g.content old) (inputs ++ take n page.items)
  all-places old mid new inputs page from n many p loads counted few short h =
      let within : n ≤ length page.items = omega arith in
      let both : Read old new 0 (inputs ++ take n page.items) = reads-more old mid new inputs (take n page.items) from many p (page-reads mid new from n page (omega arith) within loads counted) in
      let same : g.content mid ≡ g.content old = p.kept (loads.honest h) in
      let size : length page.items ≡ min 256 (length (g.content old) - from) = page-length from 256 (g.content mid) page.items (loads.ok h) ∙ ap (λ ps. min 256 (length ps - from)) same in
      let taken : length (take n page.items) ≡ n = length-take-le n page.items within in
      reads-all old new (inputs ++ take n page.items) both h (omega (arith, length-append inputs (take n page.items)))

  -- one page more was read
  pub next-page : (old mid new : S) (inputs : List Input) (page : Vec Input Global) (from n : ℕ) → length inputs ≡ from → Read old mid 0 inputs
      → LoadsPage mid new from (Ok page) → g.faults new ≡ g.faults mid → n ≡ min 256 (length page.items) → (more : List Input) × (length more ≡ from + n) × Read old new 0 more
  next-page old mid new inputs page from n many p loads counted few =
      let within : n ≤ length page.items = omega arith in
      let taken : length (take n page.items) ≡ n = length-take-le n page.items within in (
        inputs ++ take n page.items,
        omega (arith, length-append inputs (take n page.items)),
        reads-more old mid new inputs (take n page.items) from many p (page-reads mid new from n page (omega arith) within loads counted),
      )

  -- the last page
  pub last-page : (old mid new : S) (inputs : List Input) (page : Vec Input Global) (from n : ℕ) → length inputs ≡ from → Read old mid 0 inputs
      → LoadsPage mid new from (Ok page) → g.faults new ≡ g.faults mid → n ≡ min 256 (length page.items) → n < 256
      → (all : List Input) × (length all ≡ from + n) × Read old new 0 all × (g.is_honest new → AreRecords (g.content old) all)
  last-page old mid new inputs page from n many p loads counted few short =
      let within : n ≤ length page.items = omega arith in
      let taken : length (take n page.items) ≡ n = length-take-le n page.items within in (
        inputs ++ take n page.items,
        omega (arith, length-append inputs (take n page.items)),
        reads-more old mid new inputs (take n page.items) from many p (page-reads mid new from n page (omega arith) within loads counted),
        all-places old mid new inputs page from n many p loads counted few short,
      )

  -- a page with a damaged record
  pub damaged-later : (old mid new : S) (inputs : List Input) (from : ℕ) (fault : StoreFault) → length inputs ≡ from → Read old mid 0 inputs
      → LoadsPage mid new from (Err fault) → g.is_honest new → (p : ℕ) → fault ≡ Damaged p → IsDamagedAt p (g.content old)
  damaged-later old mid new inputs from fault many q loads h p e =
      let places = g.content old in
      let same : g.content mid ≡ places = q.kept (loads.honest h) in
      let told = loads.damaged h p e in
      let here : IsDamagedAt (p - from) (take 256 (drop from places)) = subst (λ ps. IsDamagedAt (p - from) (take 256 (drop from ps))) same told.1 in
      let front : AreRecords (take from places) inputs = subst (λ k. AreRecords (take k places) inputs) many (q.are (loads.honest h)) in
      damaged-page from 256 p places inputs front told.0 here

  -- all records were read, and then the same number again
  pub read-twice : (old mid new : S) (all inputs : List Input) → Read old mid 0 all → (g.is_honest mid → AreRecords (g.content old) all) → Read mid new 0 inputs → length inputs ≡ length all
      → g.is_honest new → AreRecords (g.content old) inputs
  read-twice old mid new all inputs p are q many h =
      let same : g.content mid ≡ g.content old = p.kept (q.honest h) in
      let size : length (g.content mid) ≡ length all = ap length same ∙ records-length (g.content old) all (are (q.honest h)) in
      subst (λ ps. AreRecords ps inputs) same (reads-all mid new inputs q h (omega arith))
