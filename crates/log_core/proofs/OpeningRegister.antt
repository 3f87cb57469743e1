-- The log's tables before any record.
use Rattle.std.specs.BTreeMap as tree
use Rattle.std.specs.BTreeMap.{is_at}
use Rattle.std.specs.BTreeSet.{IsEmpty}
use Rattle.std.specs.FinMap as map
use Rattle.std.proofs.Common.{List, None, Option, Some, [], ap, refl, subst, sym, ◌∙◌, ◌≡◌}
use Rattle.std.specs.FinMap.{get-empty}
use Rattle.std.specs.List.{list_any}
use Rattle.std.specs.Map.{lookup}
use Rattle.std.specs.Option.{option_or}
use Rattle.std.specs.Ordering.{is_eq}
use Rattle.std.specs.Prelude.{option_map}
use Rattle.units.specs.Intervals.{label_at}
use Rattle.units.specs.Keys.{code_cmp, unit_cmp}
use Rattle.units.specs.Spans.{intervals_of}
use Rattle.units.specs.declared.block.Unit.{Unit as Serial}
use Rattle.units.specs.declared.code.Node.TheVariants.{Itl}
use Rattle.units.specs.declared.unit_map.Span.{Span}
use Rattle.status.specs.Id.{id_cmp}
use Rattle.scheme.specs.declared.members.Holder.{Holder}
use Rattle.scheme.specs.declared.registries.Scheme.{Scheme}
use Rattle.checks.specs.declared.register.BookEntry.{BookEntry}
use Rattle.records.specs.Records.{RecordsView}
use Rattle.protocol.specs.Cores.{AreRecordsOf}
use Rattle.protocol.specs.Registries.{allotted}
use Rattle.protocol.specs.Verdict.{history}
use Rattle.protocol.proofs.TakenIntoRecords.{no_records}
use Rattle.log_core.specs.Kept.{AreKept, IsKept, waiting_cmp}
use Rattle.log_core.specs.Readings.{of_transfer, owner, owner_of}
use Rattle.log_core.specs.declared.tables.Tables.{Tables}

-- ---- the book

with_none : {X : Type 0} (o : Option X) → o ≡ option_or o None
with_none None = refl
with_none (Some x) = refl

-- before any of the intervals, no unit has an owner in the book
pub none_yet : (holders : map.FinMap unit_cmp Holder) (book : map.FinMap unit_cmp BookEntry) (entries left : List (Serial × Span Holder)) → left ≡ entries → book ≡ map.empty
    → ((s : Serial) → label_at (intervals_of entries) s ≡ map.get holders s) → (s : Serial) → option_map owner_of (map.get holders s) ≡ option_or (option_map owner_of (label_at (intervals_of left) s)) (map.get book s)
none_yet holders book entries left is empty means s =
    ap (option_map owner_of) (sym (means s) ∙ ap (λ es. label_at (intervals_of es) s) (sym is)) ∙ with_none (option_map owner_of (label_at (intervals_of left) s))
    ∙ ap (option_or (option_map owner_of (label_at (intervals_of left) s))) (sym (ap (λ m. map.get m s) empty ∙ get-empty unit_cmp s))

pub owners_so : (scheme : Scheme) (holders : map.FinMap unit_cmp Holder) (book : map.FinMap unit_cmp BookEntry) → ((s : Serial) → map.get holders s ≡ allotted scheme s) → ((s : Serial) → map.get book s ≡ option_map owner_of (map.get holders s))
    → (s : Serial) → map.get book s ≡ owner scheme [] s
owners_so scheme holders book starts owned s = owned s ∙ ap (option_map owner_of) (starts s) ∙ go (allotted scheme s)
  where
    go : (o : Option Holder) → option_map owner_of o ≡ option_map (λ c. record { registry = c }) (option_map (λ (h : Holder). h.registry) o)
    go None = refl
    go (Some h) = refl

-- ---- the tables

module _ (scheme : Scheme) (tables : Tables) where
  pub record AreOpening : Type 0 where
    pub records : tables.records ≡ record { inputs = []; sent = [] }
    pub allotments : (s : Serial) → map.get tables.register.allotments s ≡ allotted scheme s
    pub book : (s : Serial) → map.get tables.register.book s ≡ owner scheme [] s
    pub under_way : tables.register.under_way ≡ map.empty
    pub orders : tree.IsEmpty tables.register.orders
    pub transfers : tree.IsEmpty tables.transfers
    pub checked : IsEmpty tables.checked

  opening_kept : AreOpening → AreKept scheme [] tables
  opening_kept h =
      record {
        allotments = h.allotments;
        book = h.book;
        under_way = λ s. ap (λ m. map.get m s) h.under_way ∙ get-empty unit_cmp s;
        orders = λ c. ap (lookup (λ k. is_eq (code_cmp c k))) h.orders;
        transfers = λ t. ap (λ es. option_map of_transfer (lookup (λ k. is_eq (id_cmp t k)) es)) h.transfers;
        checked = λ w. ap (list_any (is_at (waiting_cmp w))) h.checked;
      }

  pub kept_opening : AreOpening → IsKept scheme tables
  kept_opening h =
      record {
        records = subst (λ (q : RecordsView). AreRecordsOf scheme Itl q.inputs q) (sym h.records) (no_records scheme Itl);
        kept = subst (λ (q : RecordsView). AreKept scheme (history scheme Itl q.inputs) tables) (sym h.records) (opening_kept h);
      }
