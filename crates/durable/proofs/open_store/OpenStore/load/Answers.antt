use Rattle.std.proofs.Common.{◌≡◌, refl, ◌≤◌, ◌-◌, ℕ, Bool, take, drop, length, subst, sym, IfOk, IfErr, IsTrue, Ok, Err, Result, Vec, Global, arith, true, false}
use Rattle.std.proofs.lemmas.List.{take_all}
use Rattle.sqlite.specs.State.{HasCleanDisk}
use Rattle.sqlite.specs.Held.{state}
use Rattle.wire.specs.declared.input.Input.{Input}
use Rattle.durable.specs.Connected.{content}
use Rattle.stores.specs.Records.{Places, AreRecords, IsDamagedAt}
use Rattle.stores.specs.declared.fault.StoreFault.{StoreFault}
use Rattle.stores.specs.declared.fault.StoreFault.TheVariants.{Damaged, Reopen}
use Rattle.durable.proofs.open_store.OpenStore.load.Goals as goal

-- to read as many places as there are is to read all of them
all : (places : Places) (waiting : Bool) (n : ℕ) (P : Places → Type 0) → (IsTrue waiting → P places) → (waiting ≡ false → n ≡ length places) → P (take n (drop 0 places)) → P places
all places true n P waits counted found = waits refl
all places false n P waits counted found = subst P (take_all n places (let m = counted refl in omega (arith, m))) found

ok_waiting : (places : Places) (r : Result (Vec Input Global) StoreFault) → r ≡ Err Reopen → IfOk r (λ inputs. AreRecords places inputs.items)
ok_waiting places (Ok inputs) is = absurd (cc (is))
ok_waiting places (Err e) is = tt

damaged_waiting : (places : Places) (r : Result (Vec Input Global) StoreFault) → r ≡ Err Reopen → IfErr r (λ e. (p : ℕ) → e ≡ Damaged p → (0 ≤ p) × IsDamagedAt (p - 0) places)
damaged_waiting places (Ok inputs) is = tt
damaged_waiting places (Err e) is = λ p same. let reopen : e ≡ Reopen = cc (is) in absurd (cc (same, reopen))

pub returns-clause-loads : goal.returns-clause-loads
returns-clause-loads g c =
    let h = c.load_page-2.ensures.loads in
    let v = sym c.load_page.view_is in
    let places = content g.S.Store c.args.self.now in
    let counted : HasCleanDisk (state g.S.Store c.load_page-2.new.self.conn) → c.args.self.now.must_reopen ≡ false → c.load_page.inside.count ≡ length places =
    λ clean runs. let early = subst (λ k. HasCleanDisk (state g.S.Store k.conn)) v (h.honest clean) in
    subst (λ k. c.load_page.inside.count ≡ length (content g.S.Store k)) (sym v) (c.load_page.invariant.2 early (subst (λ k. k.must_reopen ≡ false) v runs)).counted in
    record {
      reopen = h.reopen;
      honest = h.honest;
      ok = λ clean. all places c.args.self.now.must_reopen c.load_page.inside.count (λ found. IfOk c.load_page-2.result (λ inputs. AreRecords found inputs.items)) (λ w. ok_waiting places c.load_page-2.result (h.reopen w).0) (counted clean) (h.ok clean);
      damaged = λ clean. all places c.args.self.now.must_reopen c.load_page.inside.count (λ found. IfErr c.load_page-2.result (λ e. (p : ℕ) → e ≡ Damaged p → (0 ≤ p) × IsDamagedAt (p - 0) found))
          (λ w. damaged_waiting places c.load_page-2.result (h.reopen w).0) (counted clean) (h.damaged clean);
      named = h.named;
      stops = h.stops;
      runs = h.runs;
      kept = h.kept;
      crash = h.crash;
    }
