-- The change of tables by an input: none, where it is refused or was acted on before, or one record more.
use Rattle.std.proofs.Common.{◌≡◌, ℕ, Ok, Err, refl, sym, ap, subst, ◌∙◌}
use Rattle.std.specs.FinMap as map
use Rattle.std.specs.Prelude.{Result}
use Rattle.std.specs.Result.{IsErrAnd}
use Rattle.units.specs.declared.code.Code.{Code}
use Rattle.units.specs.declared.code.Node.TheVariants.{Registry}
use Rattle.units.specs.declared.refusal.Refusal.{Refusal}
use Rattle.wire.specs.declared.input.Input.{Input}
use Rattle.scheme.specs.declared.registries.Scheme.{Scheme}
use Rattle.records.specs.Records.{RecordsView}
use Rattle.protocol.specs.AtRegistry.{registry_verdict}
use Rattle.protocol.specs.Decisions.{step_of}
use Rattle.protocol.specs.Taking.{TakesInto}
use Rattle.protocol.specs.Verdict.{history, verdict}
use Rattle.protocol.specs.declared.decision.Stale.{Stale}
use Rattle.protocol.specs.declared.node_core.Stepped.{Stepped}
use Rattle.protocol.proofs.DecidedVerdicts.{stale_verdict}
use Rattle.protocol.proofs.TakenIntoRecords as records
use Rattle.registry_core.specs.Kept.{AreKept, IsKept}
use Rattle.registry_core.specs.Taking.{Takes, verdict_by_rules}
use Rattle.registry_core.specs.declared.tables.Tables.{Tables}

-- tables with the same contents
pub record AreSame (tables tables' : Tables) : Type 0 where
  pub scheme : tables'.scheme ≡ tables.scheme
  pub code : tables'.code ≡ tables.code
  pub records : tables'.records ≡ tables.records
  pub holdings : tables'.holdings ≡ tables.holdings
  pub initiator : tables'.initiator ≡ tables.initiator
  pub acquirer : tables'.acquirer ≡ tables.acquirer

pub are_same : (tables : Tables) → AreSame tables tables
are_same tables = record { scheme = refl; code = refl; records = refl; holdings = refl; initiator = refl; acquirer = refl }

pub verdict_so : (scheme : Scheme) (c : Code) (tables : Tables) (input : Input) → verdict_by_rules scheme c tables input ≡ registry_verdict scheme c (history scheme (Registry c) tables.records.inputs) input
unfolding verdict
verdict_so scheme c tables input = refl

module _ (scheme : Scheme) (c : Code) where
  abbrev pub GivenUp : Tables → Input → ℕ → Type 0
  GivenUp tables input code = records.GivenUp scheme (Registry c) tables.records.inputs input code

  -- the tables say as much of the same journal
  pub kept_same : (tables tables' : Tables) → IsKept scheme c tables → tables'.records.inputs ≡ tables.records.inputs → tables'.initiator ≡ tables.initiator → tables'.acquirer ≡ tables.acquirer → tables'.holdings ≡ tables.holdings
      → AreKept scheme c (history scheme (Registry c) tables'.records.inputs) tables'
  kept_same tables tables' h inputs initiating acquiring held =
      let k = h.kept in
      subst (λ js. AreKept scheme c (history scheme (Registry c) js) tables') (sym inputs)
      (record {
        unit_holdings = λ s. ap (λ x. map.get x.unit_holdings s) held ∙ k.unit_holdings s;
        accounts = λ n. ap (λ x. map.get x.accounts n) held ∙ k.accounts n;
        initiator = ap (λ x. x.code) initiating ∙ k.initiator;
        last = ap (λ x. x.last) initiating ∙ k.last;
        own = λ t. ap (λ x. map.get x.transfers t) initiating ∙ k.own t;
        acquirer = ap (λ x. x.code) acquiring ∙ k.acquirer;
        foreign = λ t. ap (λ x. map.get x.transfers t) acquiring ∙ k.foreign t;
      })

  -- nothing has changed
  takes_same : (tables tables' : Tables) (input : Input) (result : Result Stepped Refusal) → IsKept scheme c tables → AreSame tables tables' → TakesInto scheme (Registry c) tables.records tables'.records input result → Takes scheme c tables tables' input result
  takes_same tables tables' input result h same taken =
      record {
        taken = taken;
        kept = kept_same tables tables' h (ap (λ (q : RecordsView). q.inputs) same.records) same.initiator same.acquirer same.holdings;
        scheme_is = same.scheme;
        code_is = same.code;
      }

  pub takes_refused : (tables tables' : Tables) (input : Input) (r : Refusal) → IsKept scheme c tables → AreSame tables tables' → GivenUp tables input r.code → Takes scheme c tables tables' input (Err r)
  takes_refused tables tables' input r h same why = takes_same tables tables' input (Err r) h same (records.refused_into scheme (Registry c) tables.records tables'.records input r h.records same.records why)

  -- as `?` returns an error
  pub takes_err : (tables tables' : Tables) (input : Input) (result : Result Stepped Refusal) (P : Refusal → Type 0) → IsKept scheme c tables → AreSame tables tables' → IsErrAnd result P → ((r : Refusal) → P r → GivenUp tables input r.code)
      → Takes scheme c tables tables' input result
  takes_err tables tables' input result P h same e why = takes_same tables tables' input result h same (records.err_into scheme (Registry c) tables.records tables'.records input result P h.records same.records e why)

  pub takes_unmoved : (tables : Tables) (input : Input) (why : Stale) → IsKept scheme c tables → verdict_by_rules scheme c tables input ≡ stale_verdict why → Takes scheme c tables tables input (Ok (step_of why))
  takes_unmoved tables input why h is = takes_same tables tables input (Ok (step_of why)) h (are_same tables) (records.stale_into scheme (Registry c) tables.records input why h.records is)
