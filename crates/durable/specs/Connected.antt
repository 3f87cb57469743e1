-- A store over an open connection, by what it keeps.
use Rattle.std.specs.Prelude.{◌≡◌, ◌≤◌, ◌^◌, ℕ, Bool, false, List, length, refl}
use Rattle.std.specs.Coded.{Coded, code_by, coded×, coded_ℕ, coded_bool}
use Rattle.sqlite.specs.Store.{Ghosts}
use Rattle.sqlite.specs.Tree.{Trees}
use Rattle.sqlite.specs.State.{HasCleanDisk}
use Rattle.sqlite.specs.Held.{Held, held_code, state}
use Rattle.store_tables.specs.Held.{IsReady, slots_in, node_in}
use Rattle.store_migration.specs.Migrating.{IsOpenedAs}
use Rattle.stores.specs.Records.{Places}

pub record OpenStoreView (S : Type 0) : Type 0 where
  pub conn : Held S
  -- the number of places of the content
  pub count : ℕ
  -- a fault stopped it, and it must be reopened first
  pub must_reopen : Bool

-- its code, as each type has one; no public contract cites it
abbrev pub connected_code : {S : Type 0} → Coded S → Coded (OpenStoreView S)
connected_code {S} store =
    code_by (Held S × (ℕ × Bool)) (coded× (held_code store) (coded× coded_ℕ coded_bool)) (λ k. (k.conn, (k.count, k.must_reopen))) (λ p. record { conn = p.0; count = p.1.0; must_reopen = p.1.1 })
    (λ _. refl)

module _ {S : Type 0} (g : Ghosts S) where
  abbrev pub IsHonest : OpenStoreView S → Type 0
  IsHonest k = HasCleanDisk (state g k.conn)

  abbrev pub content : OpenStoreView S → Places
  content k = slots_in (state g k.conn).committed.trees

  -- the owner in the last commit
  abbrev pub owner : OpenStoreView S → List ℕ
  owner k = node_in (state g k.conn).committed.trees

  -- how many calls of its disk have failed
  abbrev pub disk_faults : OpenStoreView S → ℕ
  disk_faults k = (state g k.conn).faults

  -- a content that an opening may give it after a crash
  abbrev pub MayHold : OpenStoreView S → Places → Type 0
  MayHold k next = (db : Trees) × (state g k.conn).may_leave db × IsOpenedAs db next

  -- ---- what the code follows; no public contract cites what stands below

  -- its last commit is a store, whose places were counted
  pub record IsCounted (k : OpenStoreView S) : Type 0 where
    pub ready : IsReady (state g k.conn)
    pub counted : k.count ≡ length (content k)

  -- no transaction is open, and a store that runs was counted
  abbrev pub IsSound : OpenStoreView S → Type 0
  IsSound k = (k.conn.in_transaction ≡ false) × (k.count ≤ 2 ^ 63) × (IsHonest k → k.must_reopen ≡ false → IsCounted k)
