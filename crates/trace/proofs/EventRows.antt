-- The row of one event, and those of all.
use Rattle.std.proofs.Common.{◌≡◌, ◌≤◌, ◌<◌, ◌+◌, ◌||◌, ℕ, suc, true, false, List, [], ◌∷◌, ◌++◌, length, drop, get_or, Option, Some, None, refl, sym, ap, subst, ◌∙◌, append_assoc, arith, length-append}
use Rattle.std.specs.Prelude.{slice_get}
use Rattle.std.specs.Option.{option_map_or}
use Rattle.std.proofs.lemmas.Bool.{cond-true, cond-false}
use Rattle.std.proofs.lemmas.List.{append-nil}
use Rattle.std.proofs.Math.ListN.{drop_of_length-le}
use Rattle.std.proofs.Math.Seq.{drop-append_seam, drop-cons}
use Rattle.std.proofs.lemmas.Option.{same_Some}
use Rattle.units.specs.declared.code.Node.{Node}
use Rattle.status.specs.declared.id.TransactionId.{TransactionId}
use Rattle.status.specs.declared.status.Status.{Status}
use Rattle.wire.specs.declared.input.Input.{Input}
use Rattle.protocol.specs.Claims.{whole}
use Rattle.protocol.specs.Weave.{Placed}
use Rattle.protocol.specs.World.{World, Stepped, station, step}
use Rattle.protocol.specs.declared.event.Outcome.{Outcome}
use Rattle.protocol.specs.declared.event.Outcome.TheVariants.{Recorded, Repeat, Late, Refused, Done, NotPossible}
use Rattle.protocol.specs.declared.event.Posted.{Posted}
use Rattle.protocol.specs.declared.event.WorldEvent.{WorldEvent}
use Rattle.report.specs.declared.form.Form.{Form}
use Rattle.trace.specs.Followed.{HasFollowed, HasLines, IsWritten, KnowsSent, is_traced, place_of, sent_about}
use Rattle.trace.specs.Lines.{AreRowLines, IsRowLine}
use Rattle.trace.specs.Rows.{Row, given, is_of, moves, names, row_by, row_of, rows, standing}
use Rattle.trace.specs.declared.following.Tracing.{Tracing}
use Rattle.trace.specs.declared.sent.Sent.{Sent}
use Rattle.trace.proofs.GivenInputs.{given_none, given_to, grown_bag, kept_bag, receiver, recorded}
use Rattle.trace.proofs.PostedMessages.{acknowledges_same, sent_append}
use Rattle.trace.proofs.RowLines.{lines_then, no_lines, one_line}

abbrev pub after : World → Outcome → Stepped
after w o = record { world = w; outcome = o }

pub row_given : (w next : World) (id : TransactionId) (e : WorldEvent) (r : Placed) (o : Outcome) → given w e ≡ Some r → after next o ≡ step w e → row_of w next id r o ≡ row_by w id e
row_given w next id e r o is does =
    ap (λ (s : Stepped). row_of w s.world id r s.outcome) does
    ∙ sym (ap (λ (g : Option Placed). option_map_or (λ (x : Placed). row_of w (step w e).world id x (step w e).outcome) g []) is)

pub row_none : (w : World) (id : TransactionId) (e : WorldEvent) → given w e ≡ None → row_by w id e ≡ []
row_none w id e none = ap (λ (g : Option Placed). option_map_or (λ (x : Placed). row_of w (step w e).world id x (step w e).outcome) g []) none

pub row_unrecorded : (w next : World) (id : TransactionId) (r : Placed) (o : Outcome) → place_of o ≡ None → row_of w next id r o ≡ []
row_unrecorded w next id r (Recorded place) none = cc
row_unrecorded w next id r Repeat none = refl
row_unrecorded w next id r Late none = refl
row_unrecorded w next id r (Refused code) none = refl
row_unrecorded w next id r Done none = refl
row_unrecorded w next id r NotPossible none = refl

pub recorded_place : (o : Outcome) (place : ℕ) → place_of o ≡ Some place → o ≡ Recorded place
recorded_place (Recorded p) place is = ap Recorded (same_Some p place is)
recorded_place Repeat place is = cc
recorded_place Late place is = cc
recorded_place (Refused code) place is = cc
recorded_place Done place is = cc
recorded_place NotPossible place is = cc

-- ---- the messages that were posted

pub bag_within : (w : World) (e : WorldEvent) → length w.bag ≤ length (step w e).world.bag
bag_within w e =
    let grown = grown_bag w e in
    let long = ap length grown.1 ∙ length-append w.bag grown.0 in
    omega (arith, long)

pub sent_after : (w : World) (id : TransactionId) (e : WorldEvent) → sent_about id w.bag ++ sent_about id (drop (length w.bag) (step w e).world.bag) ≡ sent_about id (step w e).world.bag
sent_after w id e =
    let grown = grown_bag w e in
    ap (λ ps. sent_about id w.bag ++ sent_about id (drop (length w.bag) ps)) grown.1
    ∙ ap (λ ps. sent_about id w.bag ++ sent_about id ps) (drop-append_seam w.bag grown.0)
    ∙ sym (sent_append id w.bag grown.0)
    ∙ ap (sent_about id) (sym grown.1)

pub room_after : (w next : World) (e : WorldEvent) (o : Outcome) (bag : List Posted) → bag ≡ w.bag → after next o ≡ step w e → length bag ≤ length next.bag
room_after w next e o bag is does =
    let long = bag_within w e in
    let here : length bag ≡ length w.bag = ap length is in
    let there : length next.bag ≡ length (step w e).world.bag = ap (λ (s : Stepped). length s.world.bag) does in
    omega (arith, long, here, there)

pub input_is : (a b : Input) (o : Option Input) → Some a ≡ o → o ≡ Some b → a ≡ b
input_is a b o e f = cc (e ∙ f)

-- ---- one record

module _ (w next : World) (id : TransactionId) (r : Placed) (n : Node) (place : ℕ) (sent : List Sent) (input : Input) (before now : Option Status) (at : r.node ≡ n) (is : input ≡ r.input) (was : before ≡ standing w n id) (stood : now ≡ standing next n id) (known : sent ≡ sent_about id w.bag) where
  abbrev pub here : Row
  here = record { node = n; place = place; input = input; status = now }

  -- the code's test whether the record is of the transaction agrees with the definition
  traced_is : is_traced sent id n input before now ≡ is_of w next id r
  traced_is =
      ap (λ m. is_traced sent id m input before now) (sym at)
      ∙ ap (λ i. is_traced sent id r.node i before now) is
      ∙ ap (λ s. is_traced s id r.node r.input before now) known
      ∙ ap (λ b. is_traced (sent_about id w.bag) id r.node r.input b now) (was ∙ ap (λ m. standing w m id) (sym at))
      ∙ ap (λ b. is_traced (sent_about id w.bag) id r.node r.input (standing w r.node id) b) (stood ∙ ap (λ m. standing next m id) (sym at))
      ∙ ap (λ b. names id r.input || (b || moves w next id r.node)) (acknowledges_same w id r.node r.input)

  row_is : here ≡ record { node = r.node; place = place; input = r.input; status = standing next r.node id }
  row_is =
      ap (λ m. record { node = m; place = place; input = input; status = now }) (sym at)
      ∙ ap (λ i. record { node = r.node; place = place; input = i; status = now }) is
      ∙ ap (λ s. record { node = r.node; place = place; input = r.input; status = s }) (stood ∙ ap (λ m. standing next m id) (sym at))

  rows_there : is_traced sent id n input before now ≡ true → row_of w next id r (Recorded place) ≡ here ∷ []
  rows_there found = cond-true (is_of w next id r) _ _ (sym traced_is ∙ found) ∙ ap (λ x. x ∷ []) (sym row_is)

  rows_absent : is_traced sent id n input before now ≡ false → row_of w next id r (Recorded place) ≡ []
  rows_absent no_record = cond-false (is_of w next id r) _ _ (sym traced_is ∙ no_record)

  pub with_row : (form : Form) (old new : List ℕ) → is_traced sent id n input before now ≡ true → (line : List ℕ) × IsRowLine form line here × (new ≡ old ++ line) → HasLines form old new (row_of w next id r (Recorded place))
  with_row form old new found added = subst (HasLines form old new) (sym (rows_there found)) (added.0, one_line form added.0 here added.1, added.2)

  pub without_row : (form : Form) (old new : List ℕ) → is_traced sent id n input before now ≡ false → new ≡ old → HasLines form old new (row_of w next id r (Recorded place))
  without_row form old new no_record same = subst (HasLines form old new) (sym (rows_absent no_record)) (subst (λ x. HasLines form old x []) (sym same) (no_lines form old))

-- ---- one event

module _ (old new : Tracing) (e : WorldEvent) (next : World) (o : Outcome) (knows : KnowsSent old) (does : after next o ≡ step old.world e) where
  went : next ≡ (step old.world e).world
  went = ap (λ (s : Stepped). s.world) does

  -- for an event that gives a node an input
  pub gave : (n : Node) → receiver old.world e ≡ Some n → new.id ≡ old.id → new.form ≡ old.form → new.world ≡ next → new.sent.items ≡ old.sent.items
      → ((r : Placed) → given old.world e ≡ Some r → r.node ≡ n → HasLines old.form old.text.items new.text.items (row_of old.world next old.id r o)) → HasFollowed old new e
  gave n to id form world sent lines =
      let found = given_to old.world e n to in
      let r = found.0 in record {
        id = id;
        form = form;
        world = world ∙ went;
        sent =
            sent ∙ knows
            ∙ ap (sent_about old.id) (sym (kept_bag old.world e n to))
            ∙ ap (λ x. sent_about old.id x.bag) (sym (world ∙ went))
            ∙ ap (λ i. sent_about i new.world.bag) (sym id);
        lines = subst (HasLines old.form old.text.items new.text.items) (row_given old.world next old.id e r o found.1 does) (lines r found.1 found.2);
      }

  -- for an event that gives none
  pub passed : receiver old.world e ≡ None → new.id ≡ old.id → new.form ≡ old.form → new.world ≡ next → new.text.items ≡ old.text.items
      → new.sent.items ≡ old.sent.items ++ sent_about old.id (drop (length old.world.bag) next.bag) → HasFollowed old new e
  passed none id form world text sent = record {
    id = id;
    form = form;
    world = world ∙ went;
    sent =
        sent
        ∙ ap (λ s. s ++ sent_about old.id (drop (length old.world.bag) next.bag)) knows
        ∙ ap (λ x. sent_about old.id old.world.bag ++ sent_about old.id (drop (length old.world.bag) x.bag)) went
        ∙ sent_after old.world old.id e
        ∙ ap (λ x. sent_about old.id x.bag) (sym (world ∙ went))
        ∙ ap (λ i. sent_about i new.world.bag) (sym id);
    lines = subst (HasLines old.form old.text.items new.text.items) (sym (row_none old.world old.id e (given_none old.world e none))) (subst (λ x. HasLines old.form old.text.items x []) (sym text) (no_lines old.form old.text.items));
  }

pub recorded_at : (w next : World) (e : WorldEvent) (r : Placed) (n : Node) (o : Outcome) (place : ℕ) → after next o ≡ step w e → o ≡ Recorded place → given w e ≡ Some r → r.node ≡ n → slice_get (whole (station next n)) place ≡ Some r.input
recorded_at w next e r n o place does is h at =
    ap (λ m. slice_get (whole (station next m)) place) (sym at)
    ∙ ap (λ (s : Stepped). slice_get (whole (station s.world r.node)) place) does
    ∙ recorded w e r place h (ap (λ (s : Stepped). s.outcome) (sym does) ∙ is)

-- ---- all events

-- the rows that are left to be written after one more event
pub rows_next : (w next : World) (id : TransactionId) (events : List WorldEvent) (i : ℕ) (e : WorldEvent) → i < length events → e ≡ get_or events i e → next ≡ (step w e).world
    → rows w id (drop i events) ≡ row_by w id e ++ rows next id (drop (i + 1) events)
rows_next w next id events i e low is went =
    let one : suc i ≡ i + 1 = omega arith in
    ap (rows w id) (drop-cons events i e low ∙ ap (λ x. x ∷ drop (suc i) events) (sym is))
    ∙ ap (λ x. row_by w id e ++ rows x id (drop (suc i) events)) (sym went)
    ∙ ap (λ k. row_by w id e ++ rows next id (drop k events)) one

pub none_written : (form : Form) (start : List ℕ) (first : World) (id : TransactionId) (events : List WorldEvent) → IsWritten form start start first first id events events
none_written form start first id events = ([], no_lines form start, refl)

pub written_next : (form : Form) (start mid new : List ℕ) (first w next : World) (id own : TransactionId) (written_as : Form) (events : List WorldEvent) (i : ℕ) (e : WorldEvent) → i < length events → e ≡ get_or events i e → own ≡ id → written_as ≡ form → next ≡ (step w e).world
    → IsWritten form start mid first w id events (drop i events) → HasLines written_as mid new (row_by w own e) → IsWritten form start new first next id events (drop (i + 1) events)
written_next form start mid new first w next id own written_as events i e low is same as_before went before more =
    let rs = before.0 in
    let lines : HasLines form mid new (row_by w id e) = subst (λ t. HasLines form mid new (row_by w t e)) same (subst (λ f. HasLines f mid new (row_by w own e)) as_before more) in (
      rs ++ row_by w id e,
      lines_then form start mid new rs (row_by w id e) before.1 lines,
      before.2 ∙ ap (λ x. rs ++ x) (rows_next w next id events i e low is went) ∙ sym (append_assoc rs (row_by w id e) (rows next id (drop (i + 1) events))),
    )

pub all_written : (form : Form) (start now : List ℕ) (first w : World) (id : TransactionId) (events : List WorldEvent) (i : ℕ) → length events ≤ i → IsWritten form start now first w id events (drop i events) → HasLines form start now (rows first id events)
all_written form start now first w id events i past written =
    let rs = written.0 in
    let none : rows w id (drop i events) ≡ [] = ap (rows w id) (drop_of_length-le events past) in
    subst (HasLines form start now) (sym (written.2 ∙ ap (λ x. rs ++ x) none ∙ append-nil rs)) written.1

-- from no text on
pub whole_text : (form : Form) (now : List ℕ) (rs : List Row) → HasLines form [] now rs → AreRowLines form now rs
whole_text form now rs has = subst (λ x. AreRowLines form x rs) (sym has.2) has.1
