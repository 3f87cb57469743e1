-- A state and its store: what each call leaves known of the two.
use Rattle.std.proofs.Common.{◌≡◌, ◌+◌, ◌<◌, ◌≤◌, ◌++◌, ℕ, zero, suc, Bool, true, false, List, [], ◌∷◌, length, take, drop, Result, Ok, Err, IfOk, Some, None, if◌then◌else◌, refl, sym, ap, subst, ◌∙◌, arith, inl, inr, append-nil}
use Rattle.std.proofs.lemmas.List.{take_all, drop_all, drop_at, take-append-drop, take-append-le, drop-append-le, length-take-le, length-drop, length-append, length-map, map-append}
use Rattle.units.specs.declared.code.Node.{Node}
use Rattle.units.specs.declared.refusal.Refusal.{Refusal}
use Rattle.wire.specs.Records.{record_text}
use Rattle.wire.specs.declared.input.Input.{Input}
use Rattle.scheme.specs.declared.registries.Scheme.{Scheme}
use Rattle.protocol.specs.Cores.{after}
use Rattle.protocol.specs.declared.node_core.Stepped.{Stepped}
use Rattle.protocol.specs.declared.node_core.Stepped.TheVariants.{Recorded, Repeat, Late}
use Rattle.stores.specs.Calls.{Appends}
use Rattle.stores.specs.Records.{Places, AreRecords, written}
use Rattle.stores.specs.declared.fault.StoreFault.{StoreFault}
use Rattle.stores.specs.declared.node_store.NodeStore.{Ghosts}
use Rattle.node_state.specs.Calls.{Takes, Tells, batch_of, committed_by, done}
use Rattle.desk.specs.Keeping.{AreTexts, HaveFirst, IsKept}
use Rattle.node_state.specs.Loading.{IsLoaded}
use Rattle.node_state.specs.Views.{StateView, opened_with, tail}
use Rattle.node_state.specs.declared.notes.Told.{Told}
use Rattle.node_state.proofs.JournalFronts.{front_more}
use Rattle.settling.proofs.FollowedRecords.{take_own}

-- ---- lists

take_fits : {X : Type 0} (n : ℕ) (xs : List X) → length (take n xs) ≤ length xs
take_fits zero xs = omega arith
take_fits (suc n) [] = omega arith
take_fits (suc n) (x ∷ xs) = omega (arith, take_fits n xs)

-- ---- places

written_more : (xs ys : List Input) → written (xs ++ ys) ≡ written xs ++ written ys
written_more xs ys = map-append (λ input. Some (record_text input)) xs ys

texts_count : (places : Places) (inputs : List Input) → AreTexts places inputs → length places ≡ length inputs
texts_count [] [] are = refl
texts_count [] (i ∷ inputs) are = absurd are
texts_count (None ∷ places) inputs are = absurd are
texts_count (Some t ∷ places) [] are = absurd are
texts_count (Some t ∷ places) (i ∷ inputs) are = omega (arith, texts_count places inputs are.1)

texts_loaded : (places : Places) (inputs : List Input) → AreRecords places inputs → AreTexts places inputs
texts_loaded [] [] are = tt
texts_loaded [] (i ∷ inputs) are = absurd are
texts_loaded (None ∷ places) inputs are = absurd are
texts_loaded (Some t ∷ places) [] are = absurd are
texts_loaded (Some t ∷ places) (i ∷ inputs) are = (inl are.0, texts_loaded places inputs are.1)

texts_written : (inputs : List Input) → AreTexts (written inputs) inputs
texts_written [] = tt
texts_written (i ∷ inputs) = (inr refl, texts_written inputs)

-- places with the texts of the first records, and then the records that were written
texts_more : (count : ℕ) (places : Places) (inputs more : List Input) → AreTexts (take count places) inputs → drop count places ≡ written more → AreTexts places (inputs ++ more)
texts_more zero places [] more are since = subst (λ (ps : Places). AreTexts ps more) (sym since) (texts_written more)
texts_more zero places (i ∷ inputs) more are since = absurd are
texts_more (suc n) [] [] more are since = subst (λ (ps : Places). AreTexts ps more) (sym since) (texts_written more)
texts_more (suc n) [] (i ∷ inputs) more are since = absurd are
texts_more (suc n) (None ∷ places) inputs more are since = absurd are
texts_more (suc n) (Some t ∷ places) [] more are since = absurd are
texts_more (suc n) (Some t ∷ places) (i ∷ inputs) more are since = (are.0, texts_more n places inputs more are.1 since)

opening_fits : (opening count : ℕ) (journal : List Input) (places : Places) → opening ≤ length journal → HaveFirst opening journal count places → opening ≤ length places
opening_fits opening count journal places o h =
    let n = texts_count (take opening places) (take opening journal) h.before in
    let m = length-take-le opening journal o in
    let fits = take_fits opening places in
    omega (arith, n, m, fits)

-- there are as many places as records
pub places_count : (opening count : ℕ) (journal : List Input) (places : Places) → opening ≤ count → count ≤ length journal → HaveFirst opening journal count places → length places ≡ count
places_count opening count journal places o c h =
    let fits = opening_fits opening count journal places (omega (arith, o, c)) h in
    let n = length-drop opening places in
    let m = length-drop opening (take count journal) in
    let all = length-take-le count journal c in
    let same : length (drop opening places) ≡ length (drop opening (take count journal)) =
    ap length h.since ∙ length-map (drop opening (take count journal)) (λ input. Some (record_text input)) in
    omega (arith, fits, n, m, all, same, o)

opened : (opening count : ℕ) (journal : List Input) (places : Places) → opening ≡ length journal → count ≡ length journal → AreTexts places journal → HaveFirst opening journal count places
opened opening count journal places o c are =
    let n = texts_count places journal are in
    let all : take opening journal ≡ journal = take_all opening journal (omega (arith, o)) in
    let all_places : take opening places ≡ places = take_all opening places (omega (arith, o, n)) in
    let whole : take count journal ≡ journal = take_all count journal (omega (arith, c)) in
    let none : drop opening (take count journal) ≡ [] = ap (drop opening) whole ∙ drop_all opening journal (omega (arith, o)) in
    record {
      before = subst (λ xs. AreTexts xs (take opening journal)) (sym all_places) (subst (AreTexts places) (sym all) are);
      since = drop_all opening places (omega (arith, o, n)) ∙ sym (ap written none);
    }

-- all of the journal is committed, and the state opens anew
reopened : (opening count : ℕ) (journal : List Input) (places : Places) → opening ≤ count → count ≡ length journal → HaveFirst opening journal count places → HaveFirst count journal count places
reopened opening count journal places o c h =
    let whole : take count journal ≡ journal = take_all count journal (omega (arith, c)) in
    let since : drop opening places ≡ written (drop opening journal) = h.since ∙ ap (λ xs. written (drop opening xs)) whole in
    let both : take opening journal ++ drop opening journal ≡ journal = take-append-drop opening journal in
    let texts : AreTexts places journal = subst (AreTexts places) both (texts_more opening places (take opening journal) (drop opening journal) h.before since) in
    opened count count journal places c c texts

-- the journal goes on
longer : (opening count : ℕ) (journal more : List Input) (places : Places) → opening ≤ length journal → count ≤ length journal → HaveFirst opening journal count places → HaveFirst opening (journal ++ more) count places
longer opening count journal more places o c h = record {
  before = subst (AreTexts (take opening places)) (sym (take-append-le opening journal more o)) h.before;
  since = h.since ∙ sym (ap (λ xs. written (drop opening xs)) (take-append-le count journal more c));
}

-- a batch was appended
further : (opening committed most : ℕ) (journal batch : List Input) (places : Places) → opening ≤ committed → committed ≤ length journal → batch ≡ take most (drop committed journal)
    → HaveFirst opening journal committed places → HaveFirst opening journal (committed + length batch) (places ++ written batch)
further opening committed most journal batch places o c is h =
    let own : take (length batch) (drop committed journal) ≡ batch = ap (λ xs. take (length xs) (drop committed journal)) is ∙ (take_own most (drop committed journal) ∙ sym is) in
    let all : take (committed + length batch) journal ≡ take committed journal ++ batch =
    sym (front_more committed (length batch) (committed + length batch) journal refl) ∙ ap (λ xs. take committed journal ++ xs) own in
    let n = length-take-le committed journal c in
    let fits = opening_fits opening committed journal places (omega (arith, o, c)) h in
    let behind : drop opening (take (committed + length batch) journal) ≡ drop opening (take committed journal) ++ batch =
    ap (drop opening) all ∙ drop-append-le opening (take committed journal) batch (omega (arith, n, o)) in
    record {
      before = subst (λ xs. AreTexts xs (take opening journal)) (sym (take-append-le opening places (written batch) fits)) h.before;
      since = drop-append-le opening places (written batch) fits
          ∙ (ap (λ xs. xs ++ written batch) h.since
          ∙ sym (ap written behind ∙ written_more (drop opening (take committed journal)) batch));
    }

-- if the store has the first records with the batch appended, the batch's texts are those of the tail's next records
pub just_tail : (opening committed : ℕ) (journal batch : List Input) (places : Places) → opening ≤ committed → committed + length batch ≤ length journal
    → HaveFirst opening journal committed places → HaveFirst opening journal (committed + length batch) (places ++ written batch) → written batch ≡ written (take (length batch) (drop committed journal))
just_tail opening committed journal batch places o c before now =
    let n = length-take-le committed journal (omega (arith, c)) in
    let early = opening_fits opening committed journal places (omega (arith, o, c)) before in
    let all : take (committed + length batch) journal ≡ take committed journal ++ take (length batch) (drop committed journal) = sym (front_more committed (length batch) (committed + length batch) journal refl) in
    let right : drop opening (take (committed + length batch) journal) ≡ drop opening (take committed journal) ++ take (length batch) (drop committed journal) =
    ap (drop opening) all ∙ drop-append-le opening (take committed journal) (take (length batch) (drop committed journal)) (omega (arith, n, o)) in
    let left : written (drop opening (take committed journal)) ++ written batch ≡ drop opening (places ++ written batch) =
    sym (drop-append-le opening places (written batch) early ∙ ap (λ xs. xs ++ written batch) before.since) in
    let same : written (drop opening (take committed journal)) ++ written batch ≡ written (drop opening (take committed journal)) ++ written (take (length batch) (drop committed journal)) =
    left ∙ (now.since ∙ (ap written right ∙ written_more (drop opening (take committed journal)) (take (length batch) (drop committed journal)))) in
    let long = length (written (drop opening (take committed journal))) in
    sym (drop_at (written (drop opening (take committed journal))) (written batch) long refl)
    ∙ (ap (drop long) same ∙ drop_at (written (drop opening (take committed journal))) (written (take (length batch) (drop committed journal))) long refl)

batch_fits : (committed most : ℕ) (journal batch : List Input) → committed ≤ length journal → batch ≡ take most (drop committed journal) → committed + length batch ≤ length journal
batch_fits committed most journal batch c is =
    let n = take_fits most (drop committed journal) in
    let m = length-drop committed journal in
    let l = ap length is in
    omega (arith, n, m, l, c)

-- ---- journals

pub after_more : (journal : List Input) (input : Input) (result : Result Stepped Refusal) → (more : List Input) × (after journal input result ≡ journal ++ more)
after_more journal input (Ok (Recorded place)) = (input ∷ [], refl)
after_more journal input (Ok Repeat) = ([], sym (append-nil journal))
after_more journal input (Ok Late) = ([], sym (append-nil journal))
after_more journal input (Err refusal) = ([], sym (append-nil journal))

-- ---- a state and its store

pub never_ok : (fault : StoreFault) → let told : Result ℕ StoreFault = Err fault in told ≡ Ok 0 → ⊥
never_ok fault e = cc (e)

pub ok_zero : (count : ℕ) → let told : Result ℕ StoreFault = Ok count in told ≡ Ok 0 → count ≡ 0
ok_zero count e = cc (e)

module _ {S : Type 0} (g : Ghosts S) where
  abbrev Kept : StateView → S → Type 0
  Kept held store = IsKept g (record { state = held; store = store })

  kept_longer : (held : StateView) (more : List Input) (store : S) → Kept held store → Kept (record held { journal = held.journal ++ more }) store
  kept_longer held more store kept =
      let within = kept.committed in
      let early = kept.opening in
      let n = length-append held.journal more in
      record {
        opening = kept.opening;
        committed = omega (arith, within, n);
        whose = kept.whose;
        own = kept.own;
        runs = kept.runs;
        has = λ honest runs. longer held.opening held.committed held.journal more (g.content store) (omega (arith, early, within)) within (kept.has honest runs);
        found = λ honest next held_next.
            let some = kept.found honest next held_next in
            let least = some.least in
            let most = some.most in
            record {
              count = some.count;
              least = least;
              most = omega (arith, most, n);
              first = longer held.opening some.count held.journal more next (omega (arith, early, within)) most some.first;
            };
      }

  kept_after : (held : StateView) (input : Input) (result : Result Stepped Refusal) (store : S) → Kept held store → Kept (record held { journal = after held.journal input result }) store
  kept_after held input result store kept =
      let is = after_more held.journal input result in
      subst (λ (journal : List Input). Kept (record held { journal = journal }) store) (sym is.1) (kept_longer held is.0 store kept)

  takes_cases : (old new : StateView) (input : Input) (result : Result Stepped Refusal) (store : S) (runs : Bool) → old.runs ≡ runs → Takes old input result new → Kept old store → Kept new store
  takes_cases old new input result store false is takes kept = subst (λ (h : StateView). Kept h store) (sym (takes.0 is).1) kept
  takes_cases old new input result store true is takes kept = subst (λ (h : StateView). Kept h store) (sym (takes.1 is).1) (kept_after old input result store kept)

  -- an input was recorded, or it wasn't
  pub kept_taken : (old new : StateView) (input : Input) (told : Told) (store : S) → Tells old input told new → Kept old store → Kept new store
  kept_taken old new input told store tells kept = takes_cases old new input tells.0 store old.runs refl tells.2 kept

  -- the state was stopped
  pub kept_stopped : (held : StateView) (store : S) → Kept held store → Kept (record held { runs = false }) store
  kept_stopped held store kept = record {
    opening = kept.opening;
    committed = kept.committed;
    whose = kept.whose;
    own = kept.own;
    runs = λ never. absurd (cc (never));
    has = kept.has;
    found = λ honest next held_next.
        let some = kept.found honest next held_next in
        record { count = some.count; least = some.least; most = some.most; first = some.first };
  }

  -- a call leaves the store's node as it was, and an honest store that runs and named that node as its owner still does
  record Owns (old new : S) : Type 0 where
    pub whose : g.whose new ≡ g.whose old
    pub own : g.is_honest new → g.must_reopen new ≡ false → g.is_own old → g.is_own new

  -- the batch was appended
  kept_appended : (held : StateView) (old new : S) (most : ℕ) (batch : List Input) → held.runs ≡ true → batch ≡ take most (tail held) → Owns old new
      → Appends g.is_honest g.content g.may_hold g.must_reopen old new batch (Ok tt) → Kept held old → Kept (record held { committed = held.committed + length batch }) new
  kept_appended held old new most batch running is owns appends kept =
      let within = kept.committed in
      let early = kept.opening in
      let fits = batch_fits held.committed most held.journal batch within is in
      let has : g.is_honest new → HaveFirst held.opening held.journal (held.committed + length batch) (g.content new) = λ honest.
      subst (HaveFirst held.opening held.journal (held.committed + length batch)) (sym (appends.ok honest))
      (further held.opening held.committed most held.journal batch (g.content old) early within is (kept.has (appends.honest honest) (kept.runs running))) in
      record {
        opening = omega (arith, early);
        committed = fits;
        whose = owns.whose ∙ kept.whose;
        own = λ honest runs. owns.own honest runs (kept.own (appends.honest honest) (kept.runs running));
        runs = λ runs. appends.runs;
        has = λ honest runs. has honest;
        found = λ honest next held_next. record {
          count = held.committed + length batch;
          least = omega arith;
          most = fits;
          first = subst (HaveFirst held.opening held.journal (held.committed + length batch)) (sym (appends.settled honest appends.runs next held_next)) (has honest);
        };
      }

  -- the batch wasn't appended
  kept_failed : (held : StateView) (old new : S) (most : ℕ) (batch : List Input) (fault : StoreFault) → held.runs ≡ true → batch ≡ take most (tail held) → Owns old new
      → Appends g.is_honest g.content g.may_hold g.must_reopen old new batch (Err fault) → Kept held old → Kept (record held { runs = false }) new
  kept_failed held old new most batch fault running is owns appends kept =
      let within = kept.committed in
      let early = kept.opening in
      let fits = batch_fits held.committed most held.journal batch within is in
      let waits : g.must_reopen new ≡ false → ⊥ = λ runs. (let never : true ≡ false = sym appends.stops ∙ runs in cc (never)) in
      record {
        opening = early;
        committed = within;
        whose = owns.whose ∙ kept.whose;
        own = λ honest runs. absurd (waits runs);
        runs = λ never. absurd (cc (never));
        has = λ honest runs. absurd (waits runs);
        found = λ honest next held_next.
            let before = kept.has (appends.honest honest) (kept.runs running) in
            elim (appends.crash honest (kept.runs running) next held_next) [
              | inl none ↦ record {
                count = held.committed;
                least = omega arith;
                most = within;
                first = subst (HaveFirst held.opening held.journal held.committed) (sym none) before;
              }
              | inr all ↦ record {
                count = held.committed + length batch;
                least = omega arith;
                most = fits;
                first = subst (HaveFirst held.opening held.journal (held.committed + length batch)) (sym all) (further held.opening held.committed most held.journal batch (g.content old) early within is before);
              }
            ];
      }

  -- the contract of a commit, about its result
  abbrev Committing : StateView → S → S → Result ℕ StoreFault → List Input → Type 0
  Committing held old new result batch =
      IfOk result (λ count. count ≡ length batch)
      × (length batch ≡ 0 → (result ≡ Ok 0) × (new ≡ old))
      × (0 < length batch → Appends g.is_honest g.content g.may_hold g.must_reopen old new batch (done result))

  kept_nothing : (held : StateView) (old new : S) (result : Result ℕ StoreFault) → result ≡ Ok 0 → new ≡ old → Kept held old → Kept (committed_by held result) new
  kept_nothing held old new (Err fault) none same kept = absurd (never_ok fault none)
  kept_nothing held old new (Ok count) none same kept =
      let zero_more : held.committed ≡ held.committed + count = omega (arith, ok_zero count none) in
      subst (λ (n : ℕ). Kept (record held { committed = n }) new) zero_more (subst (λ (s : S). Kept held s) (sym same) kept)

  kept_batch : (held : StateView) (old new : S) (most : ℕ) (result : Result ℕ StoreFault) (batch : List Input) → held.runs ≡ true → batch ≡ take most (tail held) → Owns old new
      → IfOk result (λ count. count ≡ length batch) → Appends g.is_honest g.content g.may_hold g.must_reopen old new batch (done result) → Kept held old → Kept (committed_by held result) new
  kept_batch held old new most (Ok count) batch running is owns counts appends kept =
      subst (λ (n : ℕ). Kept (record held { committed = held.committed + n }) new) (sym counts) (kept_appended held old new most batch running is owns appends kept)
  kept_batch held old new most (Err fault) batch running is owns counts appends kept = kept_failed held old new most batch fault running is owns appends kept

  kept_some : (held : StateView) (old new : S) (most : ℕ) (result : Result ℕ StoreFault) (batch : List Input) → held.runs ≡ true → batch ≡ take most (tail held) → Owns old new
      → Committing held old new result batch → Kept held old → Kept (committed_by held result) new
  kept_some held old new most result [] running is owns commits kept = let none = commits.1 refl in kept_nothing held old new result none.0 none.1 kept
  kept_some held old new most result (input ∷ rest) running is owns commits kept =
      kept_batch held old new most result (input ∷ rest) running is owns commits.0 (commits.2 (omega arith)) kept

  commit_cases : (held : StateView) (old new : S) (most : ℕ) (result : Result ℕ StoreFault) (runs : Bool) → held.runs ≡ runs → Owns old new
      → Committing held old new result (if runs then take most (tail held) else []) → Kept held old → Kept (committed_by held result) new
  commit_cases held old new most result true is owns commits kept = kept_some held old new most result (take most (tail held)) is refl owns commits kept
  commit_cases held old new most result false is owns commits kept = let none = commits.1 refl in kept_nothing held old new result none.0 none.1 kept

  -- a commit of at most `most` records
  pub kept_committed : (held : StateView) (old new : S) (most : ℕ) (result : Result ℕ StoreFault) → g.whose new ≡ g.whose old → (g.is_honest new → g.must_reopen new ≡ false → g.is_own old → g.is_own new)
      → Committing held old new result (batch_of held most) → Kept held old → Kept (committed_by held result) new
  kept_committed held old new most result whose own commits kept = commit_cases held old new most result held.runs refl (record { whose = whose; own = own }) commits kept

  -- ---- the opening

  waits_no : (old new : S) (scheme : Scheme) (n : Node) (journal : List Input) (waits : Bool) → g.must_reopen old ≡ waits → IsLoaded g scheme n old new (Ok journal) → g.must_reopen old ≡ false
  waits_no old new scheme n journal true is loaded = absurd (cc ((loaded.reopen is).0))
  waits_no old new scheme n journal false is loaded = is

  -- all records of the store were loaded
  pub kept_loaded : (scheme : Scheme) (n : Node) (journal : List Input) (old new : S) → IsLoaded g scheme n old new (Ok journal)
      → g.whose new ≡ g.whose old → (g.is_honest new → g.must_reopen new ≡ false → g.is_own old → g.is_own new) → g.whose old ≡ n → (g.is_honest old → g.must_reopen old ≡ false → g.is_own old)
      → Kept (opened_with scheme n journal) new
  kept_loaded scheme n journal old new loaded same keeps_own whose own =
      let ran = waits_no old new scheme n journal (g.must_reopen old) refl loaded in
      record {
        opening = omega arith;
        committed = omega arith;
        whose = same ∙ whose;
        own = λ honest runs. keeps_own honest runs (own (loaded.honest honest) ran);
        runs = λ runs. loaded.runs;
        has = λ honest runs. opened (length journal) (length journal) journal (g.content new) refl refl (texts_loaded (g.content new) journal (subst (λ places. AreRecords places journal) (sym (loaded.kept honest runs)) (loaded.ok honest)));
        found = λ honest next held_next. record {
          count = length journal;
          least = omega arith;
          most = omega arith;
          first = opened (length journal) (length journal) journal next refl refl (texts_loaded next journal (subst (λ places. AreRecords places journal) (sym (loaded.crash honest ran next held_next)) (loaded.ok honest)));
        };
      }

  -- ---- a state that opens anew

  -- the state runs again
  kept_again : (held : StateView) (store : S) → g.must_reopen store ≡ false → Kept held store → Kept (record held { runs = true }) store
  kept_again held store running kept = record {
    opening = kept.opening;
    committed = kept.committed;
    whose = kept.whose;
    own = kept.own;
    runs = λ runs. running;
    has = kept.has;
    found = λ honest next held_next.
        let some = kept.found honest next held_next in
        record { count = some.count; least = some.least; most = some.most; first = some.first };
  }

  -- its journal is committed as a whole, and counts as the journal of its opening
  kept_anew : (held : StateView) (store : S) → held.committed ≡ length held.journal → Kept held store → Kept (record held { opening = held.committed }) store
  kept_anew held store all kept = record {
    opening = omega arith;
    committed = kept.committed;
    whose = kept.whose;
    own = kept.own;
    runs = kept.runs;
    has = λ honest runs. reopened held.opening held.committed held.journal (g.content store) kept.opening all (kept.has honest runs);
    found = λ honest next held_next.
        let some = kept.found honest next held_next in
        let least = some.least in
        let most = some.most in
        let early = kept.opening in
        let same : some.count ≡ held.committed = omega (arith, least, most, all) in
        record {
          count = held.committed;
          least = omega arith;
          most = kept.committed;
          first = reopened held.opening held.committed held.journal next early all (subst (λ (n : ℕ). HaveFirst held.opening held.journal n next) same some.first);
        };
  }

  -- a stopped state was opened anew: it ran again, and committed the records that weren't committed
  pub kept_reopened : (held again settled anew : StateView) (old new : S) (most count : ℕ) (result : Result ℕ StoreFault)
      → again ≡ record held { runs = true } → settled ≡ committed_by again result → result ≡ Ok count → anew ≡ record settled { opening = settled.committed }
      → g.must_reopen old ≡ false → g.whose new ≡ g.whose old → (g.is_honest new → g.must_reopen new ≡ false → g.is_own old → g.is_own new)
      → most ≡ length again.journal → Committing again old new result (batch_of again most) → Kept held old → Kept anew new
  kept_reopened held again settled anew old new most count result runs_again commits_all is_ok opens_anew running whose own enough commits kept =
      let ran : Kept again old = subst (λ (h : StateView). Kept h old) (sym runs_again) (kept_again held old running kept) in
      let kept_settled : Kept settled new = subst (λ (h : StateView). Kept h new) (sym commits_all) (kept_committed again old new most result whose own commits ran) in
      let state_is : settled ≡ record again { committed = again.committed + count } = commits_all ∙ ap (committed_by again) is_ok in
      let runs : again.runs ≡ true = ap (λ (h : StateView). h.runs) runs_again in
      let counted : count ≡ length (batch_of again most) = subst (λ (r : Result ℕ StoreFault). IfOk r (λ n. n ≡ length (batch_of again most))) is_ok commits.0 in
      let batch : length (batch_of again most) ≡ length (take most (tail again)) = ap (λ (b : Bool). length (if b then take most (tail again) else [])) runs in
      let n = length-drop again.committed again.journal in
      let all : length (take most (tail again)) ≡ length (tail again) = ap length (take_all most (tail again) (omega (arith, n, enough))) in
      let within = ran.committed in
      let committed : settled.committed ≡ again.committed + count = ap (λ (h : StateView). h.committed) state_is in
      let journal : length settled.journal ≡ length again.journal = ap (λ (h : StateView). length h.journal) state_is in
      let whole : settled.committed ≡ length settled.journal = omega (arith, n, counted, batch, all, within, committed, journal) in
      subst (λ (h : StateView). Kept h new) (sym opens_anew) (kept_anew settled new whole kept_settled)
