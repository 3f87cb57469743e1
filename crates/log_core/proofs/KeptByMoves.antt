-- The tables are readings of the longer history as they were of the shorter one: after one record more, once its effect
-- is carried out. `IsEffect` says nothing about the transactions that were known before. Where a request cancels a
-- transaction that stands Checked, it holds of `Begin` with the content too, and where a request cancels one that
-- wasn't known, it holds of `Cancel` too. Neither of these, carried out, keeps the tables: `kept_moved` asks for
-- `IsOfKnown` besides.
use Rattle.std.specs.FinMap as finite
use Rattle.std.specs.BTreeMap as tree
use Rattle.std.specs.BTreeSet.{contains}
use Rattle.std.proofs.Common.{Bool, List, None, Option, Some, [], ap, false, inl, inr, map, not, refl, subst, sym, true, ℕ, ◌&&◌, ◌++◌, ◌==◌, ◌||◌, ◌∙◌, ◌∷◌, ◌≡◌}
use Rattle.std.specs.Prelude.{if◌then◌else◌, is_some, option_map}
use Rattle.std.specs.Option.{option_or}
use Rattle.std.proofs.lemmas.Bool.{cases_Bool, cond-false, cond-true}
use Rattle.units.specs.Intervals.{labels_that}
use Rattle.units.specs.Keys.{code_cmp}
use Rattle.units.specs.declared.block.Unit.{Unit as Serial}
use Rattle.units.specs.declared.code.Code.{Code}
use Rattle.units.specs.declared.code.Node.TheVariants.{Itl}
use Rattle.status.specs.Id.{same_id}
use Rattle.status.specs.Status.{same_status}
use Rattle.status.specs.declared.id.TransactionId.{TransactionId}
use Rattle.status.specs.declared.status.Status.{Status}
use Rattle.status.specs.declared.status.Status.TheVariants.{Accepted, Cancelled, Checked, Completed}
use Rattle.wire.specs.declared.input.Input.{Input}
use Rattle.wire.specs.declared.input.Input.TheVariants.{CleanUp, Received}
use Rattle.scheme.specs.declared.registries.Scheme.{Scheme}
use Rattle.checks.specs.declared.register.UnderWay.{UnderWay}
use Rattle.protocol.proofs.Histories.{history_recorded}
use Rattle.protocol.specs.Deciding.{IsRecorded}
use Rattle.protocol.specs.History.{Entry, Transition, allows, has_serial, newest, transitions_of}
use Rattle.protocol.specs.Verdict.{history, transitions_made}
use Rattle.units.proofs.Lists.Membership.{In, map_In}
use Rattle.safety.proofs.ListLemmas.TestsOfSameness.{status_of_same}
use Rattle.safety.proofs.MovesAndHistories.LongerHistories.{made_history}
use Rattle.safety.proofs.MovesAndHistories.NewestTransitions.{Made, made_log}
use Rattle.safety.proofs.OneLog.OwnersInLog.{IsBusy, log_live}
use Rattle.log_core.specs.Effects.{Carried, IsCancelledAt, IsEffect, IsAdvanced, came_to, transfer_state_content, handed_over, is_among, transfer_state_in}
use Rattle.log_core.specs.Kept.{AreKept, IsKept, waiting_cmp}
use Rattle.log_core.specs.Readings.{TransferState, last_order, of_transition, under_way}
use Rattle.log_core.specs.Taking.{verdict_by_rules}
use Rattle.log_core.specs.Transfers.{IsOfKnown}
use Rattle.log_core.specs.declared.effect.TransferEffect.{TransferEffect}
use Rattle.log_core.specs.declared.effect.TransferEffect.TheVariants.{Begin, Cancel, Advance}
use Rattle.log_core.specs.declared.tables.Tables.{Tables}
use Rattle.log_core.specs.declared.waiting.Waiting.{Waiting}
use Rattle.log_core.proofs.KeptTransfers.{transfer_state_begun, transfer_state_came, waits_begun, waits_ended}
use Rattle.log_core.proofs.KeptUnits.{entry, owner_handed, owner_kept, under_way_begun, under_way_ended, under_way_same}
use Rattle.safety.proofs.OneLog.KnownContents.{move_keeps}
use Rattle.log_core.proofs.KnownEffects.{all_in, here_first, here_second, ids_of, of_one, advanced_ended, advanced_known, advanced_unchecked, not_advanced}
use Rattle.safety.proofs.ListLemmas.FirstFound.{mapped, some_is}

-- an input on which transitions are recorded
abbrev pub IsMessageOrCleanUp : Input → Type 0
IsMessageOrCleanUp (Received m moment) = Unit {0}
IsMessageOrCleanUp (CleanUp moment) = Unit {0}
IsMessageOrCleanUp _ = ⊥

-- ---- what such an input isn't

abbrev AsMoves : Input → Type 0
AsMoves input = (c : Code) → allows c input ≡ None

as_moves : (input : Input) → IsMessageOrCleanUp input → AsMoves input
as_moves (Received m moment) h = λ c. refl
as_moves (CleanUp moment) h = λ c. refl
as_moves _ h = absurd h

-- ---- one record more

pub kept_recorded : (scheme : Scheme) (tables tables' : Tables) (input : Input) (front : List Transition) → verdict_by_rules scheme tables input ≡ IsRecorded front → tables'.records.inputs ≡ tables.records.inputs ++ input ∷ []
    → AreKept scheme (entry input front ∷ history scheme Itl tables.records.inputs) tables' → AreKept scheme (history scheme Itl tables'.records.inputs) tables'
kept_recorded scheme tables tables' input front enters journal more =
    subst (λ (hs : List Entry). AreKept scheme hs tables') (sym (ap (history scheme Itl) journal ∙ history_recorded scheme Itl tables.records.inputs input front enters)) more

module _ (scheme : Scheme) (es : List Entry) (tables tables' : Tables) (kept : AreKept scheme es tables) (input : Input) (moves : AsMoves input) where
  abbrev xs : List Transition
  xs = transitions_of es

  orders_so : (front : List Transition) → tables'.register.orders ≡ tables.register.orders → (c : Code) → tree.get code_cmp tables'.register.orders c ≡ last_order (entry input front ∷ es) c
  orders_so front same c = ap (λ m. tree.get code_cmp m c) same ∙ kept.orders c ∙ ap (λ (o : Option Bool). option_or o (last_order es c)) (sym (moves c))

  allotments_so : tables'.register.allotments ≡ tables.register.allotments → (s : Serial) → finite.get tables'.register.allotments s ≡ finite.get tables.register.allotments s
  allotments_so same s = ap (λ m. finite.get m s) same

  -- ---- a transaction that wasn't known

  module _ (x : Transition) (transitions_made : Made scheme Itl (entry input (x ∷ []) ∷ es)) where
    begun_kept : newest xs x.id ≡ None → (IsAdvanced x.new → ⊥) → Carried (Begin x.id x.new x.content) x.moment tables tables' → AreKept scheme (entry input (x ∷ []) ∷ es) tables'
    begun_kept none not_advanced_is carried =
        let other = not_advanced x.new not_advanced_is in
        record {
          allotments = λ s. allotments_so carried.allotments s ∙ kept.allotments s;
          book = λ s.
              carried.book s
              ∙ kept.book s
              ∙ sym (owner_kept scheme (x ∷ []) xs s (λ z i. of_one (λ z. same_status z.new Completed ≡ false) x z other.1 i));
          under_way = λ s.
              carried.under_way s
              ∙ ap (λ (o : Option UnderWay). if same_status x.new Checked && has_serial x.content s then Some (record { id = x.id }) else o) (kept.under_way s)
              ∙ under_way_begun scheme es s input x transitions_made none other.0;
          orders = orders_so (x ∷ []) carried.orders;
          transfers = λ t. carried.transfers t ∙ ap (λ (o : Option TransferState). if same_id x.id t then Some (of_transition x) else o) (kept.transfers t) ∙ transfer_state_begun x xs none t;
          checked = λ w.
              carried.checked w
              ∙ ap (λ b. (same_status x.new Checked && (same_id x.id w.id && (x.moment == w.since.seconds))) || b) (kept.checked w)
              ∙ waits_begun x xs none w.since.seconds w.id;
        }

    -- ---- a transaction that has come to Accepted, Rejected or Completed

    advanced_kept : IsAdvanced x.new → Carried (Advance x.id x.new) x.moment tables tables' → AreKept scheme (entry input (x ∷ []) ∷ es) tables'
    advanced_kept advanced carried =
        let move = made_log scheme (entry input (x ∷ [])) es x transitions_made (inl refl) in
        let known = advanced_known scheme es input x move advanced in
        let q = known.0 in
        let was = known.1 in
        let content = move_keeps scheme es input x q move was in
        let left = λ (s : Serial). labels_that (λ (u : UnderWay). not (same_id u.id x.id)) (under_way xs s) in
        record {
          allotments = λ s. allotments_so carried.allotments s ∙ kept.allotments s;
          book = λ s.
              carried.book s
              ∙ ap (λ (o : Option TransferState). if same_status x.new Completed then handed_over (transfer_state_content o) s (finite.get tables.register.book s) else finite.get tables.register.book s)
              (kept.transfers x.id ∙ ap (option_map of_transition) was)
              ∙ (λ i. if same_status x.new Completed then handed_over (sym content i) s (kept.book s i) else kept.book s i)
              ∙ owner_handed scheme x xs s;
          under_way = λ s.
              carried.under_way s
              ∙ ap (λ (o : Option UnderWay). if same_status x.new Accepted then o else labels_that (λ (u : UnderWay). not (same_id u.id x.id)) o) (kept.under_way s)
              ∙ (elim (cases_Bool (same_status x.new Accepted)) [
                | inl y ↦
                    cond-true (same_status x.new Accepted) (under_way xs s) (left s) y
                    ∙ under_way_same scheme es s input x transitions_made q was (log_live scheme es input x q move was) (subst IsBusy (sym (status_of_same x.new Accepted y)) tt) content
                | inr n ↦
                    cond-false (same_status x.new Accepted) (under_way xs s) (left s) n
                    ∙ under_way_ended scheme es s input (x ∷ []) (λ t. same_id t x.id) transitions_made (here_second x) (λ z i. of_one (λ z. IsBusy z.new → ⊥) x z (advanced_ended x.new advanced n) i)
              ]);
          orders = orders_so (x ∷ []) carried.orders;
          transfers = λ t.
              carried.transfers t
              ∙ ap (λ (o : Option TransferState). if same_id x.id t then option_map (came_to x.new x.moment) o else o) (kept.transfers t)
              ∙ transfer_state_came (x ∷ []) xs (λ t. same_id x.id t) (here_first x) x.new x.moment (λ z i. of_one (λ z. (z.new ≡ x.new) × (z.moment ≡ x.moment)) x z (refl, refl) i)
              (λ z i. of_one (λ z. (q : Transition) × (newest xs z.id ≡ Some q) × (z.content ≡ q.content)) x z (q, was, content) i) t;
          checked = λ w.
              carried.checked w
              ∙ ap (λ b. not (same_id x.id w.id) && b) (kept.checked w)
              ∙ waits_ended (x ∷ []) xs (λ t. same_id x.id t) (here_first x) (λ z i. of_one (λ z. same_status z.new Checked ≡ false) x z (advanced_unchecked x.new advanced) i) w.since.seconds w.id;
        }

  -- ---- transactions that are cancelled

  cancelled_kept : (front : List Transition) (ids : List TransactionId) (moment : ℕ) → Made scheme Itl (entry input front ∷ es) → map (λ (x : Transition). x.id) front ≡ ids → ((z : Transition) → In z front → IsCancelledAt moment z)
      → ((t : TransactionId) → In t ids → is_some (transfer_state_in tables t) ≡ true)
      → tables'.register.allotments ≡ tables.register.allotments → tables'.register.orders ≡ tables.register.orders
      → ((t : TransactionId) → transfer_state_in tables' t ≡ (if is_among ids t then option_map (came_to Cancelled moment) (transfer_state_in tables t) else transfer_state_in tables t))
      → ((s : Serial) → finite.get tables'.register.under_way s ≡ labels_that (λ u. not (is_among ids u.id)) (finite.get tables.register.under_way s))
      → ((s : Serial) → finite.get tables'.register.book s ≡ finite.get tables.register.book s)
      → ((w : Waiting) → contains waiting_cmp tables'.checked w ≡ (not (is_among ids w.id) && contains waiting_cmp tables.checked w)) → AreKept scheme (entry input front ∷ es) tables'
  cancelled_kept front ids moment transitions_made are cancelled known allotments orders transfers under book checked =
      let among = is_among ids in
      let of = ids_of front ids are in
      let status = λ (P : Status → Type 0) (p : P Cancelled) (z : Transition) (i : In z front). subst P (sym (cancelled z i).0) p in
      let follows : (z : Transition) → In z front → (q : Transition) × (newest xs z.id ≡ Some q) × (z.content ≡ q.content) = λ z i.
      let there : In z.id ids = subst (In z.id) are (map_In (λ (x : Transition). x.id) z front i) in
      let stood = some_is (transfer_state_in tables z.id) (known z.id there) in
      let q = mapped of_transition (newest xs z.id) stood.0 (sym (kept.transfers z.id) ∙ stood.1) in
      (q.0, q.1, move_keeps scheme es input z q.0 (made_log scheme (entry input front) es z transitions_made i) q.1) in
      record {
        allotments = λ s. allotments_so allotments s ∙ kept.allotments s;
        book = λ s. book s ∙ kept.book s ∙ sym (owner_kept scheme front xs s (status (λ z. same_status z Completed ≡ false) refl));
        under_way = λ s.
            under s
            ∙ ap (labels_that (λ u. not (among u.id))) (kept.under_way s)
            ∙ under_way_ended scheme es s input front among transitions_made of (status (λ z. IsBusy z → ⊥) (λ b. b));
        orders = orders_so front orders;
        transfers = λ t.
            transfers t
            ∙ ap (λ (o : Option TransferState). if among t then option_map (came_to Cancelled moment) o else o) (kept.transfers t)
            ∙ transfer_state_came front xs among of Cancelled moment cancelled follows t;
        checked = λ w.
            checked w ∙ ap (λ b. not (among w.id) && b) (kept.checked w) ∙ waits_ended front xs among of (status (λ z. same_status z Checked ≡ false) refl) w.since.seconds w.id;
      }

  moved_kept : (front : List Transition) (effect : TransferEffect) (moment : ℕ) → Made scheme Itl (entry input front ∷ es) → IsEffect front moment effect → IsOfKnown (transfer_state_in tables) effect → Carried effect moment tables tables' → AreKept scheme (entry input front ∷ es) tables'
  moved_kept front (Begin id new content) moment transitions_made h known carried =
      let x = h.0 in
      let id_is = sym h.2 in
      let new_is = sym h.3 in
      let content_is = sym h.4 in
      let fresh = unknown_newest (newest xs x.id) (sym (kept.transfers x.id) ∙ ap (transfer_state_in tables) h.2 ∙ known) in
      let same : Begin id new content ≡ Begin x.id x.new x.content = λ i. Begin (id_is i) (new_is i) (content_is i) in
      subst (λ (f : List Transition). AreKept scheme (entry input f ∷ es) tables') (sym h.1)
      (begun_kept x (subst (λ (f : List Transition). Made scheme Itl (entry input f ∷ es)) h.1 transitions_made)
      fresh (λ advanced. h.6 (subst IsAdvanced h.3 advanced))
      (subst (λ (e : TransferEffect). Carried e x.moment tables tables') same (subst (λ m. Carried (Begin id new content) m tables tables') (sym h.5) carried)))
    where
      unknown_newest : (o : Option Transition) → option_map of_transition o ≡ None → o ≡ None
      unknown_newest None e = refl
      unknown_newest (Some q) e = absurd (cc (e))
  moved_kept front (Advance id new) moment transitions_made h known carried =
      let x = h.0 in
      let id_is = sym h.2 in
      let new_is = sym h.3 in
      let same : Advance id new ≡ Advance x.id x.new = λ i. Advance (id_is i) (new_is i) in
      subst (λ (f : List Transition). AreKept scheme (entry input f ∷ es) tables') (sym h.1)
      (advanced_kept x (subst (λ (f : List Transition). Made scheme Itl (entry input f ∷ es)) h.1 transitions_made)
      (subst IsAdvanced new_is h.5)
      (subst (λ (e : TransferEffect). Carried e x.moment tables tables') same (subst (λ m. Carried (Advance id new) m tables tables') (sym h.4) carried)))
  moved_kept front (Cancel ids) moment transitions_made h known carried =
      cancelled_kept front ids.items moment transitions_made h.0 (λ z i. all_in (IsCancelledAt moment) front z h.1 i)
      (λ t i. all_in (λ u. is_some (transfer_state_in tables u) ≡ true) ids.items t known i)
      carried.allotments carried.orders carried.transfers carried.under_way carried.book carried.checked

pub kept_moved : (scheme : Scheme) (tables tables' : Tables) (input : Input) (xs : List Transition) (effect : TransferEffect) (moment : ℕ) → IsKept scheme tables → verdict_by_rules scheme tables input ≡ IsRecorded xs → IsMessageOrCleanUp input
    → IsEffect xs moment effect → IsOfKnown (transfer_state_in tables) effect → Carried effect moment tables tables' → tables'.records.inputs ≡ tables.records.inputs ++ input ∷ [] → AreKept scheme (history scheme Itl tables'.records.inputs) tables'
kept_moved scheme tables tables' input xs effect moment kept enters given h known carried journal =
    let es = history scheme Itl tables.records.inputs in
    kept_recorded scheme tables tables' input xs enters journal
    (moved_kept scheme es tables tables' kept.kept input (as_moves input given) xs effect moment (sym (ap transitions_made enters), made_history scheme Itl tables.records.inputs) h known carried)
