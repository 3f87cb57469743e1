use Rattle.std.proofs.Common.{◌≡◌, ◌≤◌, ◌-◌, Bor, List, ℕ, map, take, drop, length, ap, ◌∙◌, subst, sym, IfOk, IfErr, Ok, Err, Result, Vec, Global, arith, false}
use Rattle.sqlite.specs.State.{HasCleanDisk}
use Rattle.sqlite.specs.Held.{state}
use Rattle.wire.specs.declared.input.Input.{Input}
use Rattle.durable.specs.Connected.{content, IsCounted}
use Rattle.stores.specs.Records.{Places, AreRecords, IsDamagedAt}
use Rattle.store_tables.specs.Pages.{rows_within}
use Rattle.stores.specs.Records.{unbroken}
use Rattle.store_tables.specs.Tables.{entry_rows}
use Rattle.stores.specs.declared.fault.StoreFault.{StoreFault}
use Rattle.stores.specs.declared.fault.StoreFault.TheVariants.{Damaged}
use Rattle.store_tables.proofs.PlacesRead.{front, as-many}
use Rattle.durable.proofs.open_store.OpenStore.records_between.Goals as goal

-- a finding that holds for every list of places whose front was read holds for these places
at-ok : (first n : ℕ) (places : Places) (bodies : List (List ℕ)) (r : Result (Vec Input Global) StoreFault) → length places ≡ n → unbroken places ≡ bodies
    → IfOk r (λ inputs. (all : Places) → length all ≡ n → unbroken all ≡ bodies → AreRecords all inputs.items) → IfOk r (λ inputs. AreRecords places inputs.items)
at-ok first n places bodies (Ok inputs) len is each = each places len is
at-ok first n places bodies (Err e) len is each = tt

at-err : (first n : ℕ) (places : Places) (bodies : List (List ℕ)) (r : Result (Vec Input Global) StoreFault) → length places ≡ n → unbroken places ≡ bodies
    → IfErr r (λ e. (p : ℕ) → e ≡ Damaged p → (first ≤ p) × ((all : Places) → length all ≡ n → unbroken all ≡ bodies → IsDamagedAt (p - first) all))
    → IfErr r (λ e. (p : ℕ) → e ≡ Damaged p → (first ≤ p) × IsDamagedAt (p - first) places)
at-err first n places bodies (Ok inputs) len is each = tt
at-err first n places bodies (Err e) len is each = λ p same. let it = each p same in (it.0, it.1 places len is)

abbrev places : (g : _) → goal.After-drop-rows-2 g → Places
places g c = take (c.args.until - c.args.first) (drop c.args.first (content g.S.Store c.args.self.now))

counted : (g : _) (c : goal.After-drop-rows-2 g) → HasCleanDisk (state g.S.Store c.rows_of.new.conn) → IsCounted g.S.Store c.args.self.now
counted g c clean =
    let v = sym c.self.view_is in
    subst (IsCounted g.S.Store) (sym v) (c.self.invariant.2 (c.rows_of.ensures.clean clean) (subst (λ k. k.must_reopen ≡ false) v c.requires.runs))

long : (g : _) (c : goal.After-drop-rows-2 g) → HasCleanDisk (state g.S.Store c.rows_of.new.conn) → length (places g c) ≡ c.args.until - c.args.first
long g c clean = let k = (counted g c clean).counted in let w = c.requires.within in as-many c.args.first c.args.until (content g.S.Store c.args.self.now) (omega (arith, k, w))

read : (g : _) (c : goal.After-drop-rows-2 g) → HasCleanDisk (state g.S.Store c.rows_of.new.conn) → unbroken (places g c) ≡ map (λ (b : Bor (List ℕ)). b.now) c.deref-2.result.now
read g c clean =
    front c.args.first c.args.until (state g.S.Store c.args.self.now.conn).committed.trees c.deref.result.now c.deref-2.result.now c.requires.some (counted g c clean).ready.store
    (c.deref.ensures.value ∙ c.in-Ok.ensures.rows clean ∙ ap (λ k. rows_within c.args.first (c.args.until - 1) (entry_rows (state g.S.Store k.conn).committed.trees)) c.self.view_is) (ap (map (λ (b : Bor (List ℕ)). b.now)) c.deref-2.ensures.value ∙ c.in-Ok-bodies.ensures.ok)

pub returns-clause-ok : goal.returns-clause-ok
returns-clause-ok g c = λ clean. at-ok c.args.first _ (places g c) _ c.decode_records.result (long g c clean) (read g c clean) c.decode_records.ensures.ok

pub returns-clause-damaged : goal.returns-clause-damaged
returns-clause-damaged g c = λ clean. at-err c.args.first _ (places g c) _ c.decode_records.result (long g c clean) (read g c clean) c.decode_records.ensures.damaged
