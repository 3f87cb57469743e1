-- The open store of a store state returns and leaves the same as the store state.
use Rattle.std.proofs.Common.{◌≡◌, ℕ, List, Result, Vec, Global, sym, subst, ap}
use Rattle.sqlite.specs.Files.{over_files}
use Rattle.sqlite_disk.specs.declared.Disk.{Ghosts}
use Rattle.sqlite_store.specs.declared.store.FileStore.{FileStore}
use Rattle.wire.specs.declared.input.Input.{Input}
use Rattle.stores.specs.Calls.{Appends, Loads}
use Rattle.durable.specs.Connected.{OpenStoreView}
use Rattle.durable.specs.Connected as connected
use Rattle.durable.specs.Kept.{IsHonest, MayHold, content, must_reopen}
use Rattle.stores.specs.Records.{Places}
use Rattle.stores.specs.declared.fault.StoreFault.{StoreFault}
use Rattle.durable.specs.declared.store_state.StoreState.{StoreState}
use Rattle.durable.specs.declared.store_state.StoreState.TheVariants.{Open}

module _ {D : Type 0} (g : Ghosts D) (store_state : StoreState D g) (old new : OpenStoreView (FileStore D g)) (is : store_state ≡ Open old) where
  pub linked_appends : (batch : List Input) (r : Result Unit StoreFault) → Appends (connected.IsHonest over_files) (connected.content over_files) (connected.MayHold over_files) (λ k. k.must_reopen) old new batch r
      → Appends (IsHonest g) (content g) (MayHold g) (must_reopen g) store_state (Open new) batch r
  linked_appends batch r h =
      subst (λ (l : StoreState D g). Appends (IsHonest g) (content g) (MayHold g) (must_reopen g) l (Open new) batch r) (sym is) (record {
        reopen = λ w. let x = h.reopen w in (x.0, ap Open x.1);
        named = h.named;
        stops = h.stops;
        runs = h.runs;
        honest = h.honest;
        empty = λ w e. let x = h.empty w e in (x.0, ap Open x.1);
        ok = h.ok;
        refused = h.refused;
        crash = h.crash;
        settled = h.settled;
      })

  -- for places that are part of the content
  pub linked_loads : (first : ℕ) (part : Places → Places) (r : Result (Vec Input Global) StoreFault)
      → Loads (connected.IsHonest over_files) (connected.content over_files) (connected.MayHold over_files) (λ k. k.must_reopen) old new first (part (connected.content over_files old)) r
      → Loads (IsHonest g) (content g) (MayHold g) (must_reopen g) store_state (Open new) first (part (content g store_state)) r
  linked_loads first part r h =
      subst (λ (l : StoreState D g). Loads (IsHonest g) (content g) (MayHold g) (must_reopen g) l (Open new) first (part (content g l)) r) (sym is) (record {
        reopen = λ w. let x = h.reopen w in (x.0, ap Open x.1);
        honest = h.honest;
        ok = h.ok;
        damaged = h.damaged;
        named = h.named;
        stops = h.stops;
        runs = h.runs;
        kept = h.kept;
        crash = h.crash;
      })
