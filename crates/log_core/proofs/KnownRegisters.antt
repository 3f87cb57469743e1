-- The log's register of units and registries gives the facts that its checks need about its history.
use Rattle.std.proofs.Common.{Bool, List, None, Option, Some, [], ap, false, inl, inr, refl, subst, sym, true, unwrap_or, ◌&&◌, ◌++◌, ◌∙◌, ◌∷◌, ◌≡◌}
use Rattle.std.specs.Prelude.{is_some, option_map}
use Rattle.std.specs.Option.{option_or}
use Rattle.std.proofs.lemmas.Bool.{and_left, and_parts, cases_Bool, cond-false, cond-true}
use Rattle.units.specs.declared.block.Unit.{Unit as Serial}
use Rattle.units.specs.declared.code.Code.{Code}
use Rattle.units.specs.declared.code.Node.TheVariants.{Itl}
use Rattle.status.specs.Content.{Content}
use Rattle.status.specs.Status.{same_status}
use Rattle.status.specs.declared.status.Status.TheVariants.{Completed}
use Rattle.wire.specs.declared.input.Input.{Input}
use Rattle.scheme.specs.declared.members.Holder.{Holder}
use Rattle.scheme.specs.declared.registries.Scheme.{Scheme}
use Rattle.checks.specs.Knowing.{Registers, starts_eligible}
use Rattle.checks.specs.declared.register.BookEntry.{BookEntry}
use Rattle.protocol.specs.AtLog.{ledger}
use Rattle.protocol.specs.History.{Entry, Transition, allows, book_owner, carries, has_serial, is_eligible, transitions_of}
use Rattle.protocol.specs.Registries.{allotted}
use Rattle.protocol.specs.Verdict.{history}
use Rattle.safety.proofs.ListLemmas.TestsOfSameness.{status_of_same}
use Rattle.safety.proofs.MovesAndHistories.LongerHistories.{made_history}
use Rattle.safety.proofs.MovesAndHistories.NewestTransitions.{Made}
use Rattle.safety.proofs.MovesAndHistories.TableMoves.{LogMove}
use Rattle.safety.proofs.OneLog.LogInputs.{each_log_move}
use Rattle.safety.proofs.OneLog.OwnersInLog.{Busy, in_book, log_live}
use Rattle.log_core.specs.Effects.{IsAdvanced}
use Rattle.log_core.specs.Kept.{IsKept}
use Rattle.log_core.specs.Readings.{is_under_way_with, last_order}
use Rattle.log_core.specs.declared.tables.Tables.{Tables}
use Rattle.safety.proofs.OneLog.KnownContents.{move_keeps}
use Rattle.log_core.proofs.KnownEffects.{advanced_known}
use Rattle.safety.proofs.ListLemmas.FirstFound.{any_found, mapped_some}

-- ---- a unit has an owner exactly where it is allotted

abbrev acquirer_in : Option Content → Option Code
acquirer_in k = option_map (λ (content : Content). content.acquirer) k

acquirer_there : (k : Option Content) (s : Serial) → has_serial k s ≡ true → is_some (acquirer_in k) ≡ true
acquirer_there None s h = absurd (cc (h))
acquirer_there (Some k) s h = refl

module _ (scheme : Scheme) (s : Serial) where
  abbrev IsOwned : List Transition → Type 0
  IsOwned xs = is_some (book_owner scheme xs s) ≡ is_some (allotted scheme s)

  -- a unit of a transfer that is completed was owned
  completed_owned : (es : List Entry) (input : Input) (x : Transition) → Made scheme Itl es → LogMove scheme es input x → x.new ≡ Completed → carries x s ≡ true → book_owner scheme (transitions_of es) s ≡ Some x.id.code
  completed_owned es input x made move done has =
      let known = advanced_known scheme es input x move (subst IsAdvanced (sym done) tt) in
      let content = move_keeps scheme es input x known.0 move known.1 in
      let busy : Busy s (transitions_of es) x.id =
      record {
        last = known.0;
        is = known.1;
        new = log_live scheme es input x known.0 move known.1;
        has = subst (λ k. has_serial k s ≡ true) content has;
      } in
      (in_book scheme s es made).owner x.id busy

  still_owned : (x : Transition) (xs : List Transition) → (same_status x.new Completed && carries x s) ≡ false → IsOwned xs → IsOwned (x ∷ xs)
  still_owned x xs n old = ap is_some (cond-false (same_status x.new Completed && carries x s) (acquirer_in x.content) (book_owner scheme xs s) n) ∙ old

  owned_move : (es : List Entry) (input : Input) (x : Transition) → Made scheme Itl es → LogMove scheme es input x → IsOwned (transitions_of es) → IsOwned (x ∷ transitions_of es)
  owned_move es input x made move old =
      let xs = transitions_of es in
      elim (cases_Bool (same_status x.new Completed && carries x s)) [
        | inl y ↦
            let parts = and_parts (same_status x.new Completed) (carries x s) y in
            let before = completed_owned es input x made move (status_of_same x.new Completed parts.0) parts.1 in
            ap is_some (cond-true (same_status x.new Completed && carries x s) (acquirer_in x.content) (book_owner scheme xs s) y)
            ∙ acquirer_there x.content s parts.1
            ∙ sym (ap is_some before)
            ∙ old
        | inr n ↦ still_owned x xs n old
      ]

  pub owned_so : (es : List Entry) → Made scheme Itl es → is_some (book_owner scheme (transitions_of es) s) ≡ is_some (allotted scheme s)
  owned_so =
      each_log_move scheme IsOwned (mapped_some (λ (h : Holder). h.registry) (allotted scheme s)) owned_move
      (λ es input x front made move gone all old new.
      still_owned x (front ++ transitions_of es) (and_left (same_status x.new Completed) (carries x s) (subst (λ z. same_status z Completed ≡ false) (sym gone) refl)) new)

-- ---- a registry is eligible as the last order for it says, else as at the start

or_else : (o p : Option Bool) (d : Bool) → unwrap_or o (unwrap_or p d) ≡ unwrap_or (option_or o p) d
or_else None p d = refl
or_else (Some b) p d = refl

pub eligible_so : (scheme : Scheme) (es : List Entry) (c : Code) → is_eligible scheme es c ≡ unwrap_or (last_order es c) (starts_eligible scheme c)
eligible_so scheme [] c = refl
eligible_so scheme (e ∷ es) c = ap (unwrap_or (allows c e.input)) (eligible_so scheme es c) ∙ or_else (allows c e.input) (last_order es c) (starts_eligible scheme c)

-- ---- of the tables

owner_read : (o : Option Code) → o ≡ option_map (λ (w : BookEntry). w.registry) (option_map (λ (c : Code). record { registry = c }) o)
owner_read None = refl
owner_read (Some c) = refl

pub registers_so : (scheme : Scheme) (tables : Tables) → IsKept scheme tables → Registers scheme tables.register (ledger scheme (history scheme Itl tables.records.inputs))
registers_so scheme tables kept =
    let es = history scheme Itl tables.records.inputs in
    let xs = transitions_of es in
    record {
      allotments = kept.kept.allotments;
      owner = λ s. owner_read (book_owner scheme xs s) ∙ ap (option_map (λ (w : BookEntry). w.registry)) (sym (kept.kept.book s));
      owned = λ s. owned_so scheme s es (made_history scheme Itl tables.records.inputs);
      is_busy = λ s. any_found (is_under_way_with xs s) (λ (x : Transition). record { id = x.id }) xs ∙ ap is_some (sym (kept.kept.under_way s));
      is_eligible = λ c. eligible_so scheme es c ∙ ap (λ o. unwrap_or o (starts_eligible scheme c)) (sym (kept.kept.orders c));
    }
