-- The unit holding of each unit after one more transition of a registry: one lemma for each way in which an input
-- makes a transition, over every transition of that form, and the same for the transitions as `RegistryMove` writes
-- them.
use Rattle.units.specs.declared.block.Block.{Block}
use Rattle.units.specs.declared.code.Code.{Code}
use Rattle.status.specs.declared.status.Status.TheVariants.{Completed, Proposed}
use Rattle.status.specs.Content.{Content, raws}
use Rattle.safety.proofs.OneRegistry.SoundHistories.{ContentsKept, Sound, follows_keeps, sound_history}
use Rattle.safety.proofs.OneRegistry.StepsOfUnitHoldings.{Ends, covers_raws, foreign_unit_holding, moved_unit_holding, newly_reserved, released_unit_holding, removed_unit_holding, taken_unit_holding, waits_on}
use Rattle.protocol.specs.History.{Entry, Transition, carries, credits, gives, has_serial, holds, newest, position, reserved, transitions_of, reserver}
use Rattle.std.proofs.Common.{List, None, Some, [], ap, false, inl, inr, not, subst, sym, true, ◌&&◌, ◌∙◌, ◌∷◌, ◌≡◌}
use Rattle.safety.proofs.OneRegistry.UnitsCountedOnce.{asked, again, quiet, Local, Waits, finished_move, free_content, initiator_new, newest_cons, concluded_move}
use Rattle.safety.proofs.MovesAndHistories.NewestTransitions.{Made, newest_id}
use Rattle.status.specs.declared.rows.Row.TheVariants.{Move}
use Rattle.status.specs.declared.rows.RowInput.TheVariants.{Notified}
use Rattle.units.specs.declared.code.Node.TheVariants.{Registry}
use Rattle.scheme.specs.declared.registries.Scheme.{Scheme}
use Rattle.units.specs.declared.block.Unit.{Unit as Serial}
use Rattle.status.specs.declared.rows.RecordedStatus.TheVariants.{Stands}
use Rattle.status.specs.declared.status.Status.{Status}
use Rattle.status.specs.declared.id.TransactionId.{TransactionId}
use Rattle.status.specs.Rows.{acquirer_row, initiator_row}
use Rattle.std.proofs.lemmas.Bool.{and_left, and_right, cases_Bool, cond-false, cond-true, false_from_ne_true}
use Rattle.units.proofs.Lists.OneValue.{clash, one_some}
use Rattle.units.specs.Unit.{covers, have_unit}
use Rattle.accounts.specs.Holdings.{free_unit_holding, is_reserved_by, kind_in, released, reserved as reserved_by}
use Rattle.protocol.specs.AtRegistry.{holds_some}
use Rattle.status.proofs.Ids.{id_of_same, same_id-refl}
use Rattle.safety.proofs.MovesAndHistories.TableRows.{initiator_from}
use Rattle.protocol.specs.Held.{unit_holding_at}
use Rattle.safety.proofs.OneRegistry.UnitHoldingsOfUnits.{unit_holding_of_unheld, reserver_same, waits_reserver}
use Rattle.units.specs.Intervals.{labels_that}
use Rattle.safety.proofs.MovesAndHistories.TransitionForms.{moved}
use Rattle.std.specs.Prelude.{if◌then◌else◌, option_map}
use Rattle.std.specs.Option.{option_or}
use Rattle.units.specs.Code.{same_code}
use Rattle.status.specs.Id.{same_id}
use Rattle.status.specs.Status.{same_status}

unfinished : (new : Status) → new ≡ Proposed → same_status new Completed ≡ false
unfinished new e = ap (λ z. same_status z Completed) e

quiet_credits : (c : Code) (s : Serial) (x : Transition) → same_status x.new Completed ≡ false → credits c s x ≡ false
quiet_credits c s x open_end = and_left (same_status x.new Completed) (not (same_code x.id.code c) && carries x s) open_end

quiet_gives : (c : Code) (s : Serial) (x : Transition) → same_status x.new Completed ≡ false → gives c s x ≡ false
quiet_gives c s x open_end = and_left (same_status x.new Completed) (same_code x.id.code c && carries x s) open_end

module _ (scheme : Scheme) (c : Code) (es : List Entry) (made : Made scheme (Registry c) es) where
  -- a transition with the same content as the newest one of its transaction
  keeps : (x q : Transition) (t : TransactionId) → newest (transitions_of es) t ≡ Some q → x.id ≡ t → x.content ≡ q.content → ContentsKept (x ∷ transitions_of es)
  keeps x q t was about content =
      let xs = transitions_of es in
      follows_keeps x xs (inr (q, ap (newest xs) about ∙ was, content)) (sound_history scheme c es made).contents

  -- the first of its transaction
  begins : (x : Transition) → newest (transitions_of es) x.id ≡ None → ContentsKept (x ∷ transitions_of es)
  begins x fresh = follows_keeps x (transitions_of es) (inl fresh) (sound_history scheme c es made).contents

  -- one with the same parts
  as_moved : (x q : Transition) (t : TransactionId) → newest (transitions_of es) t ≡ Some q → x.id ≡ t → x.content ≡ q.content → moved q x.new x.moment x.messages ≡ x
  as_moved x q t was about content =
      let same = (newest_id (transitions_of es) t q was).1 ∙ sym about in
      λ i. record { id = same i; new = x.new; content = sym content i; moment = x.moment; messages = x.messages }

  -- ---- a proposal of units that are held and free reserves them

  pub unit_holding_after_proposal : (x : Transition) (k : Content) → newest (transitions_of es) x.id ≡ None → same_code x.id.code c ≡ true → x.new ≡ Proposed → x.content ≡ Some k
      → ((s : Serial) → have_unit k.units s ≡ true → (holds scheme c (transitions_of es) s ≡ true) × (reserved c (transitions_of es) s ≡ false)) → (s : Serial)
      → unit_holding_at scheme c (x ∷ transitions_of es) s ≡ (if have_unit k.units s then option_map (reserved_by x.id) (unit_holding_at scheme c (transitions_of es) s) else unit_holding_at scheme c (transitions_of es) s)
  unit_holding_after_proposal x k fresh own new content free s =
      let xs = transitions_of es in
      let old = sound_history scheme c es made in
      let open_end = unfinished x.new new in
      let carried = λ (u : Serial). ap (λ o. has_serial o u) content in
      let sound : Sound scheme c (x ∷ xs) =
      record { contents = begins x fresh; local = λ u. asked scheme c u x xs (quiet_gives c u x open_end) (quiet_credits c u x open_end) (λ has. free u (sym (carried u) ∙ has)) (old.local u) } in
      let unit_holding = unit_holding_at scheme c xs s in
      elim (cases_Bool (have_unit k.units s)) [
        | inl y ↦
            let w : Waits c s (x ∷ xs) x.id = record { last = x; is = cond-true (same_id x.id x.id) (Some x) (newest xs x.id) (same_id-refl x.id); new = new; own = own; has = carried s ∙ y } in
            moved_unit_holding scheme c s x xs (Some x.id) (quiet_gives c s x open_end) (quiet_credits c s x open_end) (waits_reserver scheme c s (x ∷ xs) x.id sound w)
            ∙ newly_reserved (holds scheme c xs s) (reserver c xs s) (position scheme c xs s) x.id
            ∙ sym (cond-true (have_unit k.units s) (option_map (reserved_by x.id) unit_holding) unit_holding y)
        | inr n ↦
            moved_unit_holding scheme c s x xs (reserver c xs s) (quiet_gives c s x open_end) (quiet_credits c s x open_end)
            (reserver_same scheme c s (x ∷ xs) xs sound old
            (λ u w. elim (newest_cons x xs u w.last w.is) [
              | inl e ↦ clash (carries x s) (subst (λ (z : Transition). carries z s ≡ true) (sym e.0) w.has) (carried s ∙ n)
              | inr e ↦ record { last = w.last; is = e.0; new = w.new; own = w.own; has = w.has }
            ])
            (λ u w. waits_on scheme c s x xs u (false_from_ne_true (same_id x.id u) (λ y. let no = sym fresh ∙ ap (newest xs) (id_of_same x.id u y) ∙ w.is in cc (no))) w))
            ∙ sym (cond-false (have_unit k.units s) (option_map (reserved_by x.id) unit_holding) unit_holding n)
      ]

  -- ---- a request for cancellation leaves each unit holding

  pub unit_holding_after_asking : (x q : Transition) (t : TransactionId) → newest (transitions_of es) t ≡ Some q → same_code t.code c ≡ true → q.new ≡ Proposed → x.id ≡ t → x.new ≡ Proposed → x.content ≡ q.content → (s : Serial)
      → unit_holding_at scheme c (x ∷ transitions_of es) s ≡ unit_holding_at scheme c (transitions_of es) s
  unit_holding_after_asking x q t was own stood about new content s =
      let xs = transitions_of es in
      let old = sound_history scheme c es made in
      let open_end = unfinished x.new new in
      let here : newest xs x.id ≡ Some q = ap (newest xs) about ∙ was in
      let sound : Sound scheme c (x ∷ xs) =
      record { contents = keeps x q t was about content; local = λ u. again scheme c u x q xs (quiet_gives c u x open_end) (quiet_credits c u x open_end) here stood content (old.local u) } in
      moved_unit_holding scheme c s x xs (reserver c xs s) (quiet_gives c s x open_end) (quiet_credits c s x open_end)
      (reserver_same scheme c s (x ∷ xs) xs sound old
      (λ u w. elim (newest_cons x xs u w.last w.is) [
        | inl e ↦
            record {
              last = q;
              is = ap (newest xs) (sym e.1) ∙ here;
              new = stood;
              own = w.own;
              has = subst (λ k. has_serial k s ≡ true) content (subst (λ (z : Transition). carries z s ≡ true) (sym e.0) w.has);
            }
        | inr e ↦ record { last = w.last; is = e.0; new = w.new; own = w.own; has = w.has }
      ])
      (λ u w. elim (cases_Bool (same_id x.id u)) [
        | inl y ↦
            let last : w.last ≡ q = one_some w.last q (sym w.is ∙ ap (newest xs) (sym (id_of_same x.id u y)) ∙ here) in
            record {
              last = x;
              is = cond-true (same_id x.id u) (Some x) (newest xs u) y;
              new = new;
              own = w.own;
              has = subst (λ k. has_serial k s ≡ true) (ap (λ (z : Transition). z.content) last ∙ sym content) w.has;
            }
        | inr n ↦ waits_on scheme c s x xs u n w
      ]))

  -- ---- what another registry begins leaves each unit holding

  pub unit_holding_after_arrival : (x : Transition) → newest (transitions_of es) x.id ≡ None → same_code x.id.code c ≡ false → (x.new ≡ Proposed → ⊥) → same_status x.new Completed ≡ false → (s : Serial)
      → unit_holding_at scheme c (x ∷ transitions_of es) s ≡ unit_holding_at scheme c (transitions_of es) s
  unit_holding_after_arrival x fresh foreign other open_end s =
      let xs = transitions_of es in
      let old = sound_history scheme c es made in
      let sound : Sound scheme c (x ∷ xs) = record { contents = begins x fresh; local = λ u. quiet scheme c u x xs (quiet_gives c u x open_end) (quiet_credits c u x open_end) other (old.local u) } in
      foreign_unit_holding scheme c s x xs sound old foreign (quiet_gives c s x open_end) (quiet_credits c s x open_end)

  -- ---- the end of a transfer out of this registry

  concluded_sound : (x q : Transition) (t : TransactionId) (told : Status) → newest (transitions_of es) t ≡ Some q → same_code t.code c ≡ true → x.id ≡ t → x.content ≡ q.content
      → initiator_row (Stands q.new) (Notified told) ≡ Move x.new → Sound scheme c (x ∷ transitions_of es)
  concluded_sound x q t told was own about content move =
      record {
        contents = keeps x q t was about content;
        local = λ u.
            subst (λ z. Local scheme c u (z ∷ transitions_of es)) (as_moved x q t was about content)
            (concluded_move scheme c u es t told x.moment q x.new x.messages was own move ((sound_history scheme c es made).local u));
      }

  concluded_ends : (x q : Transition) (t : TransactionId) (told : Status) → newest (transitions_of es) t ≡ Some q → same_code t.code c ≡ true → x.id ≡ t → x.content ≡ q.content
      → initiator_row (Stands q.new) (Notified told) ≡ Move x.new → (s : Serial) → Ends scheme c s x (transitions_of es) q
  concluded_ends x q t told was own about content move s =
      (ap (newest (transitions_of es)) about ∙ was, (initiator_from q.new told x.new move).0, ap (λ (z : TransactionId). same_code z.code c) about ∙ own, content, initiator_new q.new told x.new move)

  -- without completion its units are released
  pub unit_holding_after_release : (x q : Transition) (t : TransactionId) (told : Status) → newest (transitions_of es) t ≡ Some q → same_code t.code c ≡ true → x.id ≡ t → x.content ≡ q.content
      → initiator_row (Stands q.new) (Notified told) ≡ Move x.new → same_status x.new Completed ≡ false → (s : Serial)
      → unit_holding_at scheme c (x ∷ transitions_of es) s ≡ option_map (released t) (unit_holding_at scheme c (transitions_of es) s)
  unit_holding_after_release x q t told was own about content move open_end s =
      let xs = transitions_of es in
      released_unit_holding scheme c s x xs q (concluded_sound x q t told was own about content move) (sound_history scheme c es made) (concluded_ends x q t told was own about content move s) open_end
      ∙ ap (λ u. option_map (released u) (unit_holding_at scheme c xs s)) about

  -- with completion they are removed
  pub unit_holding_after_removal : (x q : Transition) (t : TransactionId) (told : Status) → newest (transitions_of es) t ≡ Some q → same_code t.code c ≡ true → x.id ≡ t → x.content ≡ q.content
      → initiator_row (Stands q.new) (Notified told) ≡ Move x.new → same_status x.new Completed ≡ true → (s : Serial)
      → unit_holding_at scheme c (x ∷ transitions_of es) s ≡ labels_that (λ unit_holding. not (is_reserved_by t unit_holding)) (unit_holding_at scheme c (transitions_of es) s)
  unit_holding_after_removal x q t told was own about content move done s =
      let xs = transitions_of es in
      removed_unit_holding scheme c s x xs q (concluded_sound x q t told was own about content move) (sound_history scheme c es made) (concluded_ends x q t told was own about content move s) done
      ∙ ap (λ u. labels_that (λ unit_holding. not (is_reserved_by u unit_holding)) (unit_holding_at scheme c xs s)) about

  -- ---- the end of a transfer into this registry

  finished_sound : (x q : Transition) (t : TransactionId) (told : Status) → newest (transitions_of es) t ≡ Some q → same_code t.code c ≡ false → x.id ≡ t → x.content ≡ q.content → x.messages ≡ []
      → acquirer_row (Stands q.new) (Notified told) ≡ Move x.new → (same_status x.new Completed && holds_some scheme c (transitions_of es) q.content) ≡ false → Sound scheme c (x ∷ transitions_of es)
  finished_sound x q t told was foreign about content sent move none =
      let whole : moved q x.new x.moment [] ≡ x = ap (moved q x.new x.moment) (sym sent) ∙ as_moved x q t was about content in
      record {
        contents = keeps x q t was about content;
        local = λ u.
            subst (λ z. Local scheme c u (z ∷ transitions_of es)) whole
            (finished_move scheme c u es t told x.moment q x.new was foreign move none ((sound_history scheme c es made).local u));
      }

  -- without completion each unit holding stays
  pub unit_holding_after_foreign_end : (x q : Transition) (t : TransactionId) (told : Status) → newest (transitions_of es) t ≡ Some q → same_code t.code c ≡ false → x.id ≡ t → x.content ≡ q.content → x.messages ≡ []
      → acquirer_row (Stands q.new) (Notified told) ≡ Move x.new → same_status x.new Completed ≡ false → (s : Serial) → unit_holding_at scheme c (x ∷ transitions_of es) s ≡ unit_holding_at scheme c (transitions_of es) s
  unit_holding_after_foreign_end x q t told was foreign about content sent move open_end s =
      let xs = transitions_of es in
      let none = and_left (same_status x.new Completed) (holds_some scheme c xs q.content) open_end in
      let theirs : same_code x.id.code c ≡ false = ap (λ (z : TransactionId). same_code z.code c) about ∙ foreign in
      foreign_unit_holding scheme c s x xs (finished_sound x q t told was foreign about content sent move none) (sound_history scheme c es made) theirs (quiet_gives c s x open_end) (quiet_credits c s x open_end)

  -- with completion its units are taken in
  pub unit_holding_after_credit : (x q : Transition) (t : TransactionId) (told : Status) (k : Content) (blocks : List Block) → newest (transitions_of es) t ≡ Some q → same_code t.code c ≡ false → x.id ≡ t → x.content ≡ q.content → x.messages ≡ []
      → acquirer_row (Stands q.new) (Notified told) ≡ Move x.new → same_status x.new Completed ≡ true → q.content ≡ Some k → holds_some scheme c (transitions_of es) (Some k) ≡ false → raws blocks ≡ k.units → (s : Serial)
      → unit_holding_at scheme c (x ∷ transitions_of es) s ≡ option_or (option_map (free_unit_holding k.to_account) (kind_in blocks s)) (unit_holding_at scheme c (transitions_of es) s)
  unit_holding_after_credit x q t told k blocks was foreign about content sent move done known none units s =
      let xs = transitions_of es in
      let free = and_right (same_status x.new Completed) (holds_some scheme c xs q.content) (ap (holds_some scheme c xs) known ∙ none) in
      let theirs : same_code x.id.code c ≡ false = ap (λ (z : TransactionId). same_code z.code c) about ∙ foreign in
      taken_unit_holding scheme c s x xs k blocks (finished_sound x q t told was foreign about content sent move free) (sound_history scheme c es made) theirs done (content ∙ known) none units

-- none of the content's units is there before
pub unit_holdings_before_credit : (scheme : Scheme) (c : Code) (xs : List Transition) (k : Content) (blocks : List Block) → holds_some scheme c xs (Some k) ≡ false → raws blocks ≡ k.units → (s : Serial) → covers blocks s ≡ true → unit_holding_at scheme c xs s ≡ None
unit_holdings_before_credit scheme c xs k blocks none units s y = unit_holding_of_unheld scheme c s xs (free_content scheme c s xs (Some k) (ap (λ us. have_unit us s) (sym units) ∙ covers_raws blocks s ∙ y) none)
