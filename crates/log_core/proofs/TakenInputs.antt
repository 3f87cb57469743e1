-- The change of tables by an input: none, where it is refused or was acted on before, or one record more.
use Rattle.std.proofs.Common.{◌≡◌, ℕ, Ok, Err, inr, refl, sym, ap, subst, ◌∙◌}
use Rattle.std.specs.BTreeMap as tree
use Rattle.std.specs.FinMap as map
use Rattle.std.specs.BTreeSet.{contains}
use Rattle.std.specs.Prelude.{Result}
use Rattle.std.specs.Result.{IsErrAnd}
use Rattle.units.specs.Keys.{code_cmp}
use Rattle.units.specs.RefusalCodes.{no_row}
use Rattle.units.specs.declared.code.Node.TheVariants.{Itl}
use Rattle.units.specs.declared.refusal.Refusal.{Refusal}
use Rattle.wire.specs.declared.input.Input.{Input}
use Rattle.wire.specs.declared.input.Input.TheVariants.{Propose, Request, OpenAccount, CloseAccount}
use Rattle.scheme.specs.declared.registries.Scheme.{Scheme}
use Rattle.records.specs.Records.{RecordsView}
use Rattle.protocol.specs.AtLog.{log_verdict}
use Rattle.protocol.specs.Deciding.{IsRefused}
use Rattle.protocol.specs.Decisions.{step_of}
use Rattle.protocol.specs.Taking.{TakesInto}
use Rattle.protocol.specs.Verdict.{history, verdict}
use Rattle.protocol.specs.declared.decision.Stale.{Stale}
use Rattle.protocol.specs.declared.node_core.Stepped.{Stepped}
use Rattle.protocol.proofs.DecidedVerdicts.{stale_verdict}
use Rattle.protocol.proofs.TakenIntoRecords as records
use Rattle.log_core.specs.Kept.{AreKept, IsKept, waiting_cmp}
use Rattle.log_core.specs.Taking.{Takes, verdict_by_rules}
use Rattle.log_core.specs.Transfers.{AreSame, transfer_state_of}
use Rattle.log_core.specs.declared.tables.Tables.{Tables}

pub are_same : (tables : Tables) → AreSame tables tables
are_same tables = record { scheme = refl; records = refl; allotments = refl; book = refl; under_way = refl; orders = λ c. refl; transfers = λ t. refl; checked = λ w. refl }

pub verdict_so : (scheme : Scheme) (tables : Tables) (input : Input) → verdict_by_rules scheme tables input ≡ log_verdict scheme (history scheme Itl tables.records.inputs) input
unfolding verdict
verdict_so scheme tables input = refl

module _ (scheme : Scheme) where
  abbrev pub GivenUp : Tables → Input → ℕ → Type 0
  GivenUp tables input code = records.GivenUp scheme Itl tables.records.inputs input code

  -- the tables say as much of the same journal
  kept_same : (tables tables' : Tables) → IsKept scheme tables → AreSame tables tables' → AreKept scheme (history scheme Itl tables'.records.inputs) tables'
  kept_same tables tables' h same =
      let k = h.kept in
      subst (λ (q : RecordsView). AreKept scheme (history scheme Itl q.inputs) tables') (sym same.records)
      (record {
        allotments = λ s. ap (λ x. map.get x s) same.allotments ∙ k.allotments s;
        book = λ s. ap (λ x. map.get x s) same.book ∙ k.book s;
        under_way = λ s. ap (λ x. map.get x s) same.under_way ∙ k.under_way s;
        orders = λ c. same.orders c ∙ k.orders c;
        transfers = λ t. same.transfers t ∙ k.transfers t;
        checked = λ w. same.checked w ∙ k.checked w;
      })

  -- the same of the same tables
  pub kept_unchanged : (tables tables' : Tables) → IsKept scheme tables → tables'.records.inputs ≡ tables.records.inputs → tables'.register ≡ tables.register → tables'.transfers ≡ tables.transfers → tables'.checked ≡ tables.checked
      → AreKept scheme (history scheme Itl tables'.records.inputs) tables'
  kept_unchanged tables tables' h inputs register transfers checked =
      let k = h.kept in
      subst (λ js. AreKept scheme (history scheme Itl js) tables') (sym inputs)
      (record {
        allotments = λ s. ap (λ r. map.get r.allotments s) register ∙ k.allotments s;
        book = λ s. ap (λ r. map.get r.book s) register ∙ k.book s;
        under_way = λ s. ap (λ r. map.get r.under_way s) register ∙ k.under_way s;
        orders = λ c. ap (λ r. tree.get code_cmp r.orders c) register ∙ k.orders c;
        transfers = λ t. ap (λ m. transfer_state_of m t) transfers ∙ k.transfers t;
        checked = λ w. ap (λ c. contains waiting_cmp c w) checked ∙ k.checked w;
      })

  -- nothing has changed
  takes_same : (tables tables' : Tables) (input : Input) (result : Result Stepped Refusal) → IsKept scheme tables → AreSame tables tables' → TakesInto scheme Itl tables.records tables'.records input result → Takes scheme tables tables' input result
  takes_same tables tables' input result h same taken = record { taken = taken; kept = kept_same tables tables' h same; scheme_is = same.scheme }

  pub takes_refused : (tables tables' : Tables) (input : Input) (r : Refusal) → IsKept scheme tables → AreSame tables tables' → GivenUp tables input r.code → Takes scheme tables tables' input (Err r)
  takes_refused tables tables' input r h same why = takes_same tables tables' input (Err r) h same (records.refused_into scheme Itl tables.records tables'.records input r h.records same.records why)

  -- as `?` returns an error
  pub takes_err : (tables tables' : Tables) (input : Input) (result : Result Stepped Refusal) (P : Refusal → Type 0) → IsKept scheme tables → AreSame tables tables' → IsErrAnd result P → ((r : Refusal) → P r → GivenUp tables input r.code)
      → Takes scheme tables tables' input result
  takes_err tables tables' input result P h same e why = takes_same tables tables' input result h same (records.err_into scheme Itl tables.records tables'.records input result P h.records same.records e why)

  pub takes_unmoved : (tables : Tables) (input : Input) (why : Stale) → IsKept scheme tables → verdict_by_rules scheme tables input ≡ stale_verdict why → Takes scheme tables tables input (Ok (step_of why))
  takes_unmoved tables input why h is = takes_same tables tables input (Ok (step_of why)) h (are_same tables) (records.stale_into scheme Itl tables.records input why h.records is)

  -- ---- orders of registries

  abbrev pub IsOrder : Input → Type 0
  IsOrder (Propose o) = Unit {0}
  IsOrder (Request t) = Unit {0}
  IsOrder (OpenAccount n) = Unit {0}
  IsOrder (CloseAccount n) = Unit {0}
  IsOrder _ = ⊥

  order_refused : (tables : Tables) (order : Input) → IsOrder order → verdict_by_rules scheme tables order ≡ IsRefused no_row
  order_refused tables (Propose o) h = verdict_so scheme tables (Propose o)
  order_refused tables (Request t) h = verdict_so scheme tables (Request t)
  order_refused tables (OpenAccount n) h = verdict_so scheme tables (OpenAccount n)
  order_refused tables (CloseAccount n) h = verdict_so scheme tables (CloseAccount n)
  order_refused tables _ h = absurd h

  pub takes_order : (tables tables' : Tables) (input order : Input) → IsKept scheme tables → AreSame tables tables' → input ≡ order → IsOrder order → Takes scheme tables tables' input (Err (record { code = no_row }))
  takes_order tables tables' input order h same is of = takes_refused tables tables' input (record { code = no_row }) h same (inr (ap (verdict_by_rules scheme tables) is ∙ order_refused tables order of))
