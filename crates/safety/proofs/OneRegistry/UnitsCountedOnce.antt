-- One registry by itself, for all messages that it receives: a unit is counted there once or not at all.
-- The proof is an induction over the registry's transitions with the invariant `Local`: a unit is given away at most
-- as often as it was there or came, it came at most once more than it went, and at most one transfer of it waits,
-- which then has it there. The cases are the moves of `RegistryMove`, grouped by what they do to one unit: nothing,
-- propose it, give it away, or take it in. The checks of a proposal refuse a second transfer of the unit, and an
-- acquirer does not complete a transfer of a unit that it holds.
use Rattle.std.specs.List.{count_by}
use Rattle.std.proofs.Common.{◌≡◌, ℕ, ◌+◌, ◌≤◌, List, [], ◌∷◌, ◌++◌, Bool, true, false, not, cond, Option, Some, None, ◌⊎◌, inl, inr, refl, sym, ap, subst, ◌∙◌, arith}
use Rattle.std.specs.Prelude.{◌&&◌, nat_le, length, option_map}
use Rattle.std.proofs.lemmas.Bool.{and_parts, and_from, and_left, and_right, not-false, cond-true, cond-false, cases_Bool, eqb-true, eqb-false}
use Rattle.units.specs.Code.{same_code}
use Rattle.units.specs.RefusalCodes.{journal_full}
use Rattle.units.specs.declared.block.Unit.{Unit as Serial}
use Rattle.units.specs.declared.code.Code.{Code}
use Rattle.units.specs.declared.code.Node.TheVariants.{Registry}
use Rattle.status.proofs.Ids.{id_of_same, same_id-refl}
use Rattle.status.specs.Content.{Content}
use Rattle.status.specs.Id.{same_id, id_at}
use Rattle.status.specs.Rows.{initiator_row, acquirer_row}
use Rattle.status.specs.Status.{same_status}
use Rattle.status.specs.declared.id.TransactionId.{TransactionId}
use Rattle.status.specs.declared.rows.RecordedStatus.TheVariants.{Stands}
use Rattle.status.specs.declared.rows.Row.{Row}
use Rattle.status.specs.declared.rows.Row.TheVariants.{Move, Repeat, Late, Refused}
use Rattle.status.specs.declared.rows.RowInput.{RowInput}
use Rattle.status.specs.declared.rows.RowInput.TheVariants as column
use Rattle.status.specs.declared.rows.RowInput.TheVariants.{Notified}
use Rattle.status.specs.declared.status.Status.{Status}
use Rattle.status.specs.declared.status.Status.TheVariants.{Proposed, Cancelled, Completed}
use Rattle.wire.specs.NotifiedStatuses.{notified_status}
use Rattle.wire.specs.declared.input.Input.{Input}
use Rattle.wire.specs.declared.input.Input.TheVariants.{Propose, Request, OpenAccount, CloseAccount, Ack, CleanUp, Eligible, Received}
use Rattle.wire.specs.declared.message.Message.{Message}
use Rattle.wire.specs.declared.message.Body.{Body}
use Rattle.wire.specs.declared.message.Body.TheVariants as body
use Rattle.scheme.specs.declared.registries.Scheme.{Scheme}
use Rattle.protocol.specs.Pieces.{Piece, pieces}
use Rattle.protocol.specs.Registries.{allotted}
use Rattle.protocol.specs.History.{Transition, Entry, transitions_of, newest, stands_at, is_status, has_serial, carries, gives, credits, is_with, at_start, holds, reserved, position, is_acknowledged, proposals}
use Rattle.protocol.specs.Checks.{Causes, propose_refusals}
use Rattle.protocol.specs.Deciding.{Verdict, IsRecorded, IsRepeat, IsRefused, refuse, recorded_if_room, known, content_in, by_row, ack_refusals}
use Rattle.protocol.specs.AtRegistry.{holding, is_position, content_of, new_transfer_verdict, in_role, unless_held, holds_some, request_refusals, request_column, registry_refusals, registry_answer, open_refusals, close_refusals, registry_verdict}
use Rattle.protocol.specs.Claims.{CountedOnce}
use Rattle.protocol.specs.Verdict.{verdict, transitions_made as made_of}
use Rattle.safety.proofs.MovesAndHistories.TransitionForms.{proposed, asking, arrived, arrived_status, concluded_messages, bare, moved}
use Rattle.protocol.proofs.CanonicalBlocks.{canonical_piece}
use Rattle.units.proofs.Lists.SomePass.{list_any_none, list_any_in}
use Rattle.protocol.proofs.CountsInLists.{count_no, count_yes}
use Rattle.safety.proofs.MovesAndHistories.NewestTransitions.{Made, made_registry, newest_id}
use Rattle.units.proofs.Lists.Membership.{In}
use Rattle.units.proofs.Lists.OneValue.{clash}
use Rattle.safety.proofs.MovesAndHistories.TableMoves.{RegistryMove, proposes, asks, arrives, bares, concludes, finishes}
use Rattle.safety.proofs.MovesAndHistories.TableRows.{word_to, initiator_from, acquirer_from}
use Rattle.protocol.proofs.UnitsOfBlocks.{piece_of}

-- the newest transition is the one in front, or that of the older ones
pub newest_cons : (x : Transition) (xs : List Transition) (t : TransactionId) (y : Transition) → newest (x ∷ xs) t ≡ Some y
    → ((x ≡ y) × (x.id ≡ t)) ⊎ ((newest xs t ≡ Some y) × (same_id x.id t ≡ false))
newest_cons x xs t y h =
    elim (cases_Bool (same_id x.id t)) [
      | inl a ↦ let e : Some x ≡ Some y = sym (cond-true (same_id x.id t) (Some x) (newest xs t) a) ∙ h in let same : x ≡ y = cc (e) in inl (same, id_of_same x.id t a)
      | inr n ↦ inr (sym (cond-false (same_id x.id t) (Some x) (newest xs t) n) ∙ h, n)
    ]

-- ---- the transitions of one input at a registry are none or one

abbrev pub Single : List Transition → Type 0
Single xs = (xs ≡ []) ⊎ ((x : Transition) × (xs ≡ x ∷ []))

pub single_refuse : (cs : Causes) (v : Verdict) → Single (made_of v) → Single (made_of (refuse cs v))
single_refuse [] v h = h
single_refuse (c ∷ cs) v h = go c.0 c.1 (refuse cs v) (single_refuse cs v h)
  where
    go : (b : Bool) (n : ℕ) (u : Verdict) → Single (made_of u) → Single (made_of (cond b (IsRefused n) u))
    go true n u i = inl refl
    go false n u i = i

pub single_cond : (b : Bool) (u v : Verdict) → Single (made_of u) → Single (made_of v) → Single (made_of (cond b u v))
single_cond true u v h i = h
single_cond false u v h i = i

pub none_enter : (scheme : Scheme) (es : List Entry) → Single (made_of (recorded_if_room scheme es []))
none_enter scheme es = single_cond (nat_le scheme.records (length es)) (IsRefused journal_full) (IsRecorded []) (inl refl) (inl refl)

pub one_enters : (scheme : Scheme) (es : List Entry) (x : Transition) → Single (made_of (recorded_if_room scheme es (x ∷ [])))
one_enters scheme es x = single_cond (nat_le scheme.records (length es)) (IsRefused journal_full) (IsRecorded (x ∷ [])) (inl refl) (inr (x, refl))

module _ (scheme : Scheme) (c : Code) (es : List Entry) where
  single_row : (to : Status → Transition) (row : Row) → Single (made_of (by_row scheme es to row))
  single_row to (Move new) = one_enters scheme es (to new)
  single_row to Repeat = inl refl
  single_row to Late = inl refl
  single_row to Refused = inl refl

  single_offer : (k : Content) (t : Option TransactionId) → Single (made_of (new_transfer_verdict scheme c es k t))
  single_offer k None = inl refl
  single_offer k (Some t) = single_row _ (initiator_row (known (newest (transitions_of es) t)) column.Propose)

  single_in_role : (t : TransactionId) (last : Option Transition) (moment : ℕ) (input : RowInput) → Single (made_of (in_role scheme c es t last moment input))
  single_in_role t last moment input =
      single_cond (same_code t.code c) _ _ (single_row _ (initiator_row (known last) input))
      (single_row _ (unless_held (holds_some scheme c (transitions_of es) (content_in last)) (acquirer_row (known last) input)))

  single_answer : (t : TransactionId) (b : Body) (moment : ℕ) → Single (made_of (registry_answer scheme c es moment t b))
  single_answer t (body.Proposal p) moment = single_row _ (acquirer_row (known (newest (transitions_of es) t)) _)
  single_answer t (body.Notification n) moment = single_in_role t (newest (transitions_of es) t) moment (column.Notified (notified_status n))
  single_answer t body.Request moment = single_in_role t (newest (transitions_of es) t) moment column.Request

  single_transitions : (input : Input) → Single (made_of (registry_verdict scheme c es input))
  single_transitions (Propose o) =
      single_refuse (propose_refusals scheme c (holding scheme c es) o) (new_transfer_verdict scheme c es (content_of o) (id_at c (proposals es + 1)))
      (single_offer (content_of o) (id_at c (proposals es + 1)))
  single_transitions (Request t) =
      single_refuse (request_refusals c es t) (in_role scheme c es t (newest (transitions_of es) t) 0 (request_column es t))
      (single_in_role t (newest (transitions_of es) t) 0 (request_column es t))
  single_transitions (OpenAccount n) = single_refuse (open_refusals scheme c es n.value) (recorded_if_room scheme es []) (none_enter scheme es)
  single_transitions (CloseAccount n) = single_refuse (close_refusals scheme c es n.value) (recorded_if_room scheme es []) (none_enter scheme es)
  single_transitions (Ack n) =
      single_refuse (ack_refusals es n.value) (cond (is_acknowledged es n.value) IsRepeat (recorded_if_room scheme es []))
      (single_cond (is_acknowledged es n.value) IsRepeat (recorded_if_room scheme es []) (inl refl) (none_enter scheme es))
  single_transitions (CleanUp t) = inl refl
  single_transitions (Eligible d may) = inl refl
  single_transitions (Received m moment) = single_refuse (registry_refusals c es m) (registry_answer scheme c es moment.seconds m.id m.body) (single_answer m.id m.body moment.seconds)

pub made_single : (scheme : Scheme) (c : Code) (e : Entry) (es : List Entry) → Made scheme (Registry c) (e ∷ es) → Single e.transitions
unfolding verdict
made_single scheme c e es transitions_made = subst Single (sym transitions_made.0) (single_transitions scheme c es e.input)

-- ---- no notification brings a transfer back to Proposed

pub initiator_new : (a told new : Status) → initiator_row (Stands a) (Notified told) ≡ Move new → new ≡ Proposed → ⊥
initiator_new a told new h e =
    let m = initiator_from a told new h in
    let t : told ≡ Proposed = sym m.1 ∙ ap word_to e in
    let r : initiator_row (Stands Proposed) (Notified Proposed) ≡ Move new =
    subst (λ b. initiator_row (Stands b) (Notified Proposed) ≡ Move new) m.0 (subst (λ w. initiator_row (Stands a) (Notified w) ≡ Move new) t h) in
    cc (r)

pub acquirer_new : (a told new : Status) → acquirer_row (Stands a) (Notified told) ≡ Move new → new ≡ Proposed → ⊥
acquirer_new a told new h e =
    let m = acquirer_from a told new h in
    elim m.2 [
      | inl x ↦ let y : Proposed ≡ Completed = sym e ∙ m.1 ∙ x in cc (y)
      | inr x ↦ let y : Proposed ≡ Cancelled = sym e ∙ m.1 ∙ x in cc (y)
    ]

pub arrived_quiet : (found : List ℕ) → (same_status (arrived_status found) Completed ≡ false) × (arrived_status found ≡ Proposed → ⊥)
arrived_quiet [] = (refl, λ e. cc (e))
arrived_quiet (n ∷ ns) = (refl, λ e. cc (e))

-- ---- one unit at one registry

-- a transfer of the unit that waits at its initiator
pub record Waits (c : Code) (s : Serial) (xs : List Transition) (t : TransactionId) : Type 0 where
  pub last : Transition
  pub is : newest xs t ≡ Some last
  pub new : last.new ≡ Proposed
  pub own : same_code t.code c ≡ true
  pub has : carries last s ≡ true

pub record Local (scheme : Scheme) (c : Code) (s : Serial) (xs : List Transition) : Type 0 where
  pub low : count_by (gives c s) xs ≤ at_start scheme c s + count_by (credits c s) xs
  pub high : at_start scheme c s + count_by (credits c s) xs ≤ count_by (gives c s) xs + 1
  pub kept : (t : TransactionId) → Waits c s xs t → count_by (gives c s) xs + 1 ≤ at_start scheme c s + count_by (credits c s) xs
  pub one : (t u : TransactionId) → Waits c s xs t → Waits c s xs u → t ≡ u

start_once : (b : Bool) → cond b 1 0 + 0 ≤ 0 + 1
start_once true = omega arith
start_once false = omega arith

pub and_second : (a b : Bool) → (a && b) ≡ false → a ≡ true → b ≡ false
and_second true b h e = h
and_second false b h e = absurd (cc (e))

module _ (scheme : Scheme) (c : Code) (s : Serial) where
  pub waits_older : (x : Transition) (xs : List Transition) (t : TransactionId) → (x.new ≡ Proposed → ⊥) → Waits c s (x ∷ xs) t → Waits c s xs t × (same_id x.id t ≡ false)
  waits_older x xs t other w =
      elim (newest_cons x xs t w.last w.is) [
        | inl e ↦ absurd (other (ap (λ (z : Transition). z.new) e.0 ∙ w.new))
        | inr e ↦ (record { last = w.last; is = e.0; new = w.new; own = w.own; has = w.has }, e.1)
      ]

  -- one that moves no unit and waits for none
  pub quiet : (x : Transition) (xs : List Transition) → gives c s x ≡ false → credits c s x ≡ false → (x.new ≡ Proposed → ⊥) → Local scheme c s xs → Local scheme c s (x ∷ xs)
  quiet x xs given credited other l =
      let o = count_no (gives c s) x xs given in
      let i = count_no (credits c s) x xs credited in
      record {
        low = let a = l.low in omega arith;
        high = let a = l.high in omega arith;
        kept = λ t w. let a = l.kept t (waits_older x xs t other w).0 in omega arith;
        one = λ t u w v. l.one t u (waits_older x xs t other w).0 (waits_older x xs u other v).0;
      }

  -- one by which a transfer that waited gives the unit
  gone : (x : Transition) (xs : List Transition) → gives c s x ≡ true → credits c s x ≡ false → (x.new ≡ Proposed → ⊥) → Waits c s xs x.id → Local scheme c s xs → Local scheme c s (x ∷ xs)
  gone x xs given credited other was l =
      let o = count_yes (gives c s) x xs given in
      let i = count_no (credits c s) x xs credited in
      record {
        low = let a = l.kept x.id was in omega arith;
        high = let a = l.high in omega arith;
        kept = λ t w. absurd (
            let v = waits_older x xs t other w in
            let e = l.one x.id t was v.0 in
            clash (same_id x.id t) (subst (λ z. same_id x.id z ≡ true) e (same_id-refl x.id)) v.1);
        one = λ t u w v. l.one t u (waits_older x xs t other w).0 (waits_older x xs u other v).0;
      }

  -- one that credits a unit that isn't held
  come : (x : Transition) (xs : List Transition) → gives c s x ≡ false → credits c s x ≡ true → (x.new ≡ Proposed → ⊥) → holds scheme c xs s ≡ false → Local scheme c s xs → Local scheme c s (x ∷ xs)
  come x xs given credited other free l =
      let o = count_no (gives c s) x xs given in
      let i = count_yes (credits c s) x xs credited in
      let n = eqb-false (at_start scheme c s + count_by (credits c s) xs) (count_by (gives c s) xs + 1) free in
      record {
        low = let a = l.low in omega arith;
        high = let a = l.high in omega arith;
        kept = λ t w. let a = l.kept t (waits_older x xs t other w).0 in omega arith;
        one = λ t u w v. l.one t u (waits_older x xs t other w).0 (waits_older x xs u other v).0;
      }

  -- a transfer that waits makes its units reserved
  pub reserved_waits : (xs : List Transition) (t : TransactionId) → Waits c s xs t → reserved c xs s ≡ true
  reserved_waits xs t w =
      let about = newest_id xs t w.last w.is in
      let own : same_code w.last.id.code c ≡ true = subst (λ (z : TransactionId). same_code z.code c ≡ true) (sym about.1) w.own in
      let waiting : same_status w.last.new Proposed ≡ true = subst (λ z. same_status z Proposed ≡ true) (sym w.new) refl in
      let here : stands_at xs t Proposed ≡ true = subst (λ o. is_status (option_map (λ (y : Transition). y.new) o) Proposed ≡ true) (sym w.is) waiting in
      let stands : stands_at xs w.last.id Proposed ≡ true = subst (λ z. stands_at xs z Proposed ≡ true) (sym about.1) here in
      list_any_in (λ (x : Transition). same_code x.id.code c && (stands_at xs x.id Proposed && carries x s)) xs w.last about.0
      (and_from (same_code w.last.id.code c) (stands_at xs w.last.id Proposed && carries w.last s) own (and_from (stands_at xs w.last.id Proposed) (carries w.last s) stands w.has))

  -- a proposal of units that are held and not reserved
  pub asked : (x : Transition) (xs : List Transition) → gives c s x ≡ false → credits c s x ≡ false → (carries x s ≡ true → (holds scheme c xs s ≡ true) × (reserved c xs s ≡ false))
      → Local scheme c s xs → Local scheme c s (x ∷ xs)
  asked x xs given credited free l =
      let o = count_no (gives c s) x xs given in
      let i = count_no (credits c s) x xs credited in
      record {
        low = let a = l.low in omega arith;
        high = let a = l.high in omega arith;
        kept = λ t w. elim (newest_cons x xs t w.last w.is) [
          | inl e ↦
              let f = free (subst (λ (z : Transition). carries z s ≡ true) (sym e.0) w.has) in
              let n = eqb-true (at_start scheme c s + count_by (credits c s) xs) (count_by (gives c s) xs + 1) f.0 in
              omega arith
          | inr e ↦ let a = l.kept t (record { last = w.last; is = e.0; new = w.new; own = w.own; has = w.has }) in omega arith
        ];
        one = λ t u w v. elim (newest_cons x xs t w.last w.is) [
          | inl e ↦
              elim (newest_cons x xs u v.last v.is) [
                | inl f ↦ sym e.1 ∙ f.1
                | inr f ↦ absurd (
                    let g = free (subst (λ (z : Transition). carries z s ≡ true) (sym e.0) w.has) in
                    clash (reserved c xs s) (reserved_waits xs u (record { last = v.last; is = f.0; new = v.new; own = v.own; has = v.has })) g.1)
              ]
          | inr e ↦
              elim (newest_cons x xs u v.last v.is) [
                | inl f ↦ absurd (
                    let g = free (subst (λ (z : Transition). carries z s ≡ true) (sym f.0) v.has) in
                    clash (reserved c xs s) (reserved_waits xs t (record { last = w.last; is = e.0; new = w.new; own = w.own; has = w.has })) g.1)
                | inr f ↦ l.one t u (record { last = w.last; is = e.0; new = w.new; own = w.own; has = w.has }) (record { last = v.last; is = f.0; new = v.new; own = v.own; has = v.has })
              ]
        ];
      }

  -- one of a transfer that waits on, with the same content
  pub again : (x q : Transition) (xs : List Transition) → gives c s x ≡ false → credits c s x ≡ false → newest xs x.id ≡ Some q → q.new ≡ Proposed → x.content ≡ q.content → Local scheme c s xs → Local scheme c s (x ∷ xs)
  again x q xs given credited old stood same l =
      let o = count_no (gives c s) x xs given in
      let i = count_no (credits c s) x xs credited in
      record {
        low = let a = l.low in omega arith;
        high = let a = l.high in omega arith;
        kept = λ t w. let a = l.kept t (waited t w) in omega arith;
        one = λ t u w v. l.one t u (waited t w) (waited u v);
      }
    where
      waited : (t : TransactionId) → Waits c s (x ∷ xs) t → Waits c s xs t
      waited t w =
          elim (newest_cons x xs t w.last w.is) [
            | inl e ↦ record {
              last = q;
              is = subst (λ z. newest xs z ≡ Some q) e.1 old;
              new = stood;
              own = w.own;
              has = subst (λ k. has_serial k s ≡ true) same (subst (λ (z : Transition). carries z s ≡ true) (sym e.0) w.has);
            }
            | inr e ↦ record { last = w.last; is = e.0; new = w.new; own = w.own; has = w.has }
          ]

  pub concluded_move : (es : List Entry) (t : TransactionId) (told : Status) (moment : ℕ) (q : Transition) (new : Status) (messages : List Message) → newest (transitions_of es) t ≡ Some q
      → same_code t.code c ≡ true → initiator_row (Stands q.new) (Notified told) ≡ Move new → Local scheme c s (transitions_of es) → Local scheme c s (moved q new moment messages ∷ transitions_of es)
  concluded_move es t told moment q new messages old own move l =
      let about = newest_id (transitions_of es) t q old in
      let mine : same_code q.id.code c ≡ true = subst (λ (z : TransactionId). same_code z.code c ≡ true) (sym about.1) own in
      let credited : credits c s (moved q new moment messages) ≡ false =
      and_right (same_status new Completed) (not (same_code q.id.code c) && carries q s) (and_left (not (same_code q.id.code c)) (carries q s) (ap not mine)) in
      elim (cases_Bool (gives c s (moved q new moment messages))) [
        | inl y ↦
            let parts = and_parts (same_status new Completed) (same_code q.id.code c && carries q s) y in
            let has = (and_parts (same_code q.id.code c) (carries q s) parts.1).1 in
            gone (moved q new moment messages) (transitions_of es) y credited (initiator_new q.new told new move)
            (record { last = q; is = subst (λ z. newest (transitions_of es) z ≡ Some q) (sym about.1) old; new = (initiator_from q.new told new move).0; own = mine; has = has }) l
        | inr n ↦ quiet (moved q new moment messages) (transitions_of es) n credited (initiator_new q.new told new move) l
      ]

  pub free_content : (xs : List Transition) (k : Option Content) → has_serial k s ≡ true → holds_some scheme c xs k ≡ false → holds scheme c xs s ≡ false
  free_content xs None h e = absurd (cc (h))
  free_content xs (Some k) h e =
      let p = piece_of k.units s h in
      subst (λ z. holds scheme c xs z ≡ false) p.2 (list_any_none (λ (q : Piece). holds scheme c xs q.unit) (pieces k.units) p.0 e p.1)

  pub finished_move : (es : List Entry) (t : TransactionId) (told : Status) (moment : ℕ) (q : Transition) (new : Status) → newest (transitions_of es) t ≡ Some q → same_code t.code c ≡ false
      → acquirer_row (Stands q.new) (Notified told) ≡ Move new → (same_status new Completed && holds_some scheme c (transitions_of es) q.content) ≡ false
      → Local scheme c s (transitions_of es) → Local scheme c s (moved q new moment [] ∷ transitions_of es)
  finished_move es t told moment q new old foreign move none l =
      let about = newest_id (transitions_of es) t q old in
      let theirs : same_code q.id.code c ≡ false = subst (λ (z : TransactionId). same_code z.code c ≡ false) (sym about.1) foreign in
      let given : gives c s (moved q new moment []) ≡ false =
      and_right (same_status new Completed) (same_code q.id.code c && carries q s) (and_left (same_code q.id.code c) (carries q s) theirs) in
      elim (cases_Bool (credits c s (moved q new moment []))) [
        | inl y ↦
            let parts = and_parts (same_status new Completed) (not (same_code q.id.code c) && carries q s) y in
            let has = (and_parts (not (same_code q.id.code c)) (carries q s) parts.1).1 in
            let free = free_content (transitions_of es) q.content has (and_second (same_status new Completed) (holds_some scheme c (transitions_of es) q.content) none parts.0) in
            come (moved q new moment []) (transitions_of es) given y (acquirer_new q.new told new move) free l
        | inr n ↦ quiet (moved q new moment []) (transitions_of es) given n (acquirer_new q.new told new move) l
      ]

  pub local_move : (es : List Entry) (input : Input) (x : Transition) → RegistryMove scheme c es input x → Local scheme c s (transitions_of es) → Local scheme c s (x ∷ transitions_of es)
  local_move es input x (proposes o t none is fresh) l =
      let xs = transitions_of es in
      asked (proposed c t (content_of o)) xs refl refl
      (λ h.
      let p = canonical_piece o.units none.1.0 s h in
      let held = not-false (holds scheme c xs p.0.unit && is_position (position scheme c xs p.0.unit) o.account p.0)
      (list_any_none (λ (q : Piece). not (holds scheme c xs q.unit && is_position (position scheme c xs q.unit) o.account q)) (pieces o.units) p.0 none.1.1.1.1.0 p.1) in
      let free = list_any_none (λ (q : Piece). reserved c xs q.unit) (pieces o.units) p.0 none.1.1.1.1.1.0 p.1 in (
        subst (λ z. holds scheme c xs z ≡ true) p.2 (and_parts (holds scheme c xs p.0.unit) (is_position (position scheme c xs p.0.unit) o.account p.0) held).0,
        subst (λ z. reserved c xs z ≡ false) p.2 free,
      ))
      l
  local_move es input x (arrives p moment found f t is none foreign mine) l =
      let a = arrived_quiet found in
      let y = arrived c p.id p.content moment.seconds found in
      quiet y (transitions_of es) (and_left (same_status (arrived_status found) Completed) (same_code p.id.code c && carries y s) a.0)
      (and_left (same_status (arrived_status found) Completed) (not (same_code p.id.code c) && carries y s) a.0) a.1 l
  local_move es input x (asks t q old own stood) l =
      again (asking c q) q (transitions_of es) refl refl (subst (λ z. newest (transitions_of es) z ≡ Some q) (sym (newest_id (transitions_of es) t q old).1) old) stood refl l
  local_move es input x (bares n moment f cancelled none foreign) l = quiet (bare n.id moment.seconds) (transitions_of es) refl refl (λ e. cc (e)) l
  local_move es input x (concludes n moment q new f old own move) l = concluded_move es n.id (notified_status n.notified) moment.seconds q new (concluded_messages c q.id new) old own move l
  local_move es input x (finishes n moment q new f old foreign move none) l = finished_move es n.id (notified_status n.notified) moment.seconds q new old foreign move none l

  pub local_history : (es : List Entry) → Made scheme (Registry c) es → Local scheme c s (transitions_of es)
  local_history [] transitions_made =
      record {
        low = omega arith;
        high = start_once (is_with c (allotted scheme s));
        kept = λ t w. absurd (let e = w.is in cc (e));
        one = λ t u w v. absurd (let e = w.is in cc (e));
      }
  local_history (e ∷ es) transitions_made =
      elim (made_single scheme c e es transitions_made) [
        | inl z ↦ subst (λ xs. Local scheme c s (xs ++ transitions_of es)) (sym z) (local_history es transitions_made.1)
        | inr z ↦
            subst (λ xs. Local scheme c s (xs ++ transitions_of es)) (sym z.1)
            (local_move es e.input z.0 (made_registry scheme c e es z.0 transitions_made (subst (λ xs. In z.0 xs) (sym z.1) (inl refl))) (local_history es transitions_made.1))
      ]

pub counted_once : (scheme : Scheme) (c : Code) (es : List Entry) → Made scheme (Registry c) es → CountedOnce scheme c (transitions_of es)
counted_once scheme c es transitions_made = λ s. let l = local_history scheme c s es transitions_made in (l.low, l.high)
