-- The lines that one more event adds, and the chart at the end.
use Rattle.std.proofs.Common.{◌≡◌, ℕ, ◌+◌, suc, List, [], ◌∷◌, ◌++◌, length, take, map, get_or, ◌<◌, Bool, true, false, cond, Option, option_map, refl, sym, ap, subst, ◌∙◌, arith, append_assoc, append-nil}
use Rattle.std.specs.Prelude.{◌||◌, not, codes, filter, flat_map, slice_get}
use Rattle.std.specs.List.{enumerate_from, list_any}
use Rattle.std.proofs.lemmas.Grind.{flat_map-append}
use Rattle.std.proofs.Math.Bool.{or-false}
use Rattle.std.proofs.lemmas.List.{length-take, map-append, take_more}
use Rattle.std.proofs.lemmas.List.Elements.{filter-append}
use Rattle.std.proofs.lemmas.List.Folds.{list_any-append}
use Rattle.units.specs.declared.code.Node.{Node}
use Rattle.units.specs.declared.code.Node.TheVariants.{Itl}
use Rattle.wire.specs.declared.message.Message.{Message}
use Rattle.protocol.specs.Scheme.{Scheme}
use Rattle.protocol.specs.World.{Stepped, World, opening, run, step}
use Rattle.protocol.specs.declared.event.Outcome.{Outcome}
use Rattle.protocol.specs.declared.event.Posted.{Posted}
use Rattle.protocol.specs.declared.event.WorldEvent.{WorldEvent}
use Rattle.protocol.specs.declared.event.WorldEvent.TheVariants.{Take, Commit, Post, Deliver, Crash, Restart}
use Rattle.world.proofs.Worlds.{delivered_bag}
use Rattle.chart.specs.ChartLines.{lost_line, participant_line, wide_note_line}
use Rattle.chart.specs.Chart.{Happening, HasDrawn, IsChart, IsDrawn, chart_text, delivers, first_ones, happening, happening_line, happening_nodes, happenings, is_delivered, lost, message_of, participants, parties}
use Rattle.report.specs.Table.{IsSafeTable}
use Rattle.report.specs.declared.form.Form.TheVariants.{Lines}
use Rattle.safety.proofs.WorldLemmas.QuietWorlds.{run_append}

flat_snoc : {X A : Type 0} (f : X → List A) (xs : List X) (x : X) → flat_map f (xs ++ x ∷ []) ≡ flat_map f xs ++ f x
flat_snoc f xs x = flat_map-append f xs (x ∷ []) ∙ ap (λ l. flat_map f xs ++ l) (append-nil (f x))

-- ---- one event more

any_snoc : (p : Happening → Bool) (hs : List Happening) (h : Happening) → list_any p (hs ++ h ∷ []) ≡ (list_any p hs || p h)
any_snoc p hs h = list_any-append p hs (h ∷ []) ∙ ap (λ (b : Bool). list_any p hs || b) (or-false (p h))

pub drawn_more : (hs : List Happening) (h : Happening) (nodes nodes' : List Node) (has has' : ℕ → Bool) (lines lines' : List ℕ) → IsDrawn hs nodes has lines
    → ((ns : List Node) → nodes ≡ first_ones ns → nodes' ≡ first_ones (ns ++ happening_nodes h)) → ((k : ℕ) → has' k ≡ (has k || delivers k h.event h.outcome)) → lines' ≡ lines ++ happening_line h
    → IsDrawn (hs ++ h ∷ []) nodes' has' lines'
drawn_more hs h nodes nodes' has has' lines lines' drawn named marked spelled = record {
  named = named (flat_map happening_nodes hs) drawn.named ∙ ap first_ones (sym (flat_snoc happening_nodes hs h));
  marked = λ k. marked k ∙ ap (λ (b : Bool). b || delivers k h.event h.outcome) (drawn.marked k) ∙ sym (any_snoc (λ x. delivers k x.event x.outcome) hs h);
  spelled = spelled ∙ ap (λ (l : List ℕ). l ++ happening_line h) drawn.spelled ∙ sym (flat_snoc happening_line hs h);
}

happenings-snoc : (w : World) (es : List WorldEvent) (e : WorldEvent) → happenings w (es ++ e ∷ []) ≡ happenings w es ++ happening (run w es) e ∷ []
happenings-snoc w [] e = refl
happenings-snoc w (x ∷ es) e = ap (λ (l : List Happening). happening w x ∷ l) (happenings-snoc (step w x).world es e)

-- the message of a delivery is also in the bag after it
pub same_message : (w : World) (e : WorldEvent) → message_of (step w e).world e ≡ message_of w e
unfolding step
same_message w (Take n input) = refl
same_message w (Commit n count) = refl
same_message w (Post n key) = refl
same_message w (Deliver index moment) = ap (λ (bag : List Posted). option_map (λ (p : Posted). p.message) (slice_get bag index)) (delivered_bag w moment (slice_get w.bag index))
same_message w (Crash n kept) = refl
same_message w (Restart n) = refl

abbrev what : WorldEvent → Outcome → Option Message → Happening
what e o m = record { event = e; outcome = o; message = m }

pub has_drawn_more : (scheme : Scheme) (events : List WorldEvent) (w new : World) (e : WorldEvent) (o : Outcome) (m : Option Message) (nodes nodes' : List Node) (has has' : ℕ → Bool) (lines lines' : List ℕ)
    → HasDrawn scheme events w nodes has lines → record { world = new; outcome = o } ≡ step w e → m ≡ message_of new e
    → ((hs : List Happening) → IsDrawn hs nodes has lines → IsDrawn (hs ++ what e o m ∷ []) nodes' has' lines') → HasDrawn scheme (events ++ e ∷ []) new nodes' has' lines'
has_drawn_more scheme events w new e o m nodes nodes' has has' lines lines' drawn stepped message more =
    let led : new ≡ (step w e).world = ap (λ (s : Stepped). s.world) stepped in
    let came : o ≡ (step w e).outcome = ap (λ (s : Stepped). s.outcome) stepped in
    let about : m ≡ message_of w e = message ∙ ap (λ (v : World). message_of v e) led ∙ same_message w e in
    let same : what e o m ≡ happening (run (opening scheme) events) e =
    ap (λ (x : Outcome). what e x m) came ∙ ap (λ (x : Option Message). what e (step w e).outcome x) about ∙ ap (λ (v : World). happening v e) drawn.world
    in
    let all : happenings (opening scheme) events ++ what e o m ∷ [] ≡ happenings (opening scheme) (events ++ e ∷ []) =
    ap (λ (h : Happening). happenings (opening scheme) events ++ h ∷ []) same ∙ sym (happenings-snoc (opening scheme) events e)
    in
    record {
      world = led ∙ ap (λ (v : World). (step v e).world) drawn.world ∙ sym (run_append (opening scheme) events (e ∷ []));
      drawn = subst (λ (hs : List Happening). IsDrawn hs nodes' has' lines') all (more (happenings (opening scheme) events) drawn.drawn);
    }

-- ---- messages that never arrived

enumerate_snoc : (n : ℕ) (bag : List Posted) (p : Posted) → enumerate_from n (bag ++ p ∷ []) ≡ enumerate_from n bag ++ (n + length bag, p) ∷ []
enumerate_snoc n [] p = let same : n ≡ n + 0 = omega arith in ap (λ (k : ℕ). (k, p) ∷ []) same
enumerate_snoc n (x ∷ bag) p =
    let same : n + 1 + length bag ≡ n + suc (length bag) = omega arith in
    ap (λ (l : List (ℕ × Posted)). (n, x) ∷ l) (enumerate_snoc (n + 1) bag p ∙ ap (λ (k : ℕ). enumerate_from (n + 1) bag ++ (k, p) ∷ []) same)

enumerate_so : (bag : List Posted) (p : Posted) → enumerate_from 0 (bag ++ p ∷ []) ≡ enumerate_from 0 bag ++ (length bag, p) ∷ []
enumerate_so bag p =
    let same : 0 + length bag ≡ length bag = omega arith in
    enumerate_snoc 0 bag p ∙ ap (λ (k : ℕ). enumerate_from 0 bag ++ (k, p) ∷ []) same

abbrev unless : Bool → Message → List Message
unless b m = cond b [] (m ∷ [])

unless_so : (b : Bool) (n : ℕ) (p : Posted) → map (λ (q : ℕ × Posted). q.1.message) (cond (not b) ((n, p) ∷ []) []) ≡ unless b p.message
unless_so true n p = refl
unless_so false n p = refl

lost_snoc : (hs : List Happening) (bag : List Posted) (p : Posted) → lost hs (bag ++ p ∷ []) ≡ lost hs bag ++ unless (is_delivered hs (length bag)) p.message
lost_snoc hs bag p =
    let test : ℕ × Posted → Bool = λ (q : ℕ × Posted). not (is_delivered hs q.0) in
    ap (λ (l : List (ℕ × Posted)). map (λ (q : ℕ × Posted). q.1.message) (filter test l)) (enumerate_so bag p)
    ∙ ap (map (λ (q : ℕ × Posted). q.1.message)) (filter-append test (enumerate_from 0 bag) ((length bag, p) ∷ []))
    ∙ map-append (λ (q : ℕ × Posted). q.1.message) (filter test (enumerate_from 0 bag)) (filter test ((length bag, p) ∷ []))
    ∙ ap (λ (l : List Message). lost hs bag ++ l) (unless_so (is_delivered hs (length bag)) (length bag) p)

lost_next : (hs : List Happening) (bag : List Posted) (i : ℕ) (p : Posted) → i < length bag → p ≡ get_or bag i p → lost hs (take (i + 1) bag) ≡ lost hs (take i bag) ++ unless (is_delivered hs i) p.message
lost_next hs bag i p low item =
    let long : length (take i bag) ≡ i = omega (arith, length-take i bag) in
    ap (lost hs) (take_more bag i p low ∙ ap (λ (q : Posted). take i bag ++ q ∷ []) (sym item))
    ∙ lost_snoc hs (take i bag) p
    ∙ ap (λ (k : ℕ). lost hs (take i bag) ++ unless (is_delivered hs k) p.message) long

pub lost_one : (hs : List Happening) (bag : List Posted) (i : ℕ) (p : Posted) (old new : List Message) → i < length bag → p ≡ get_or bag i p → is_delivered hs i ≡ false → old ≡ lost hs (take i bag) → new ≡ old ++ p.message ∷ []
    → new ≡ lost hs (take (i + 1) bag)
lost_one hs bag i p old new low item none so is =
    is ∙ ap (λ (l : List Message). l ++ p.message ∷ []) so ∙ ap (λ (b : Bool). lost hs (take i bag) ++ unless b p.message) (sym none) ∙ sym (lost_next hs bag i p low item)

pub lost_none : (hs : List Happening) (bag : List Posted) (i : ℕ) (p : Posted) (old : List Message) → i < length bag → p ≡ get_or bag i p → is_delivered hs i ≡ true → old ≡ lost hs (take i bag) → old ≡ lost hs (take (i + 1) bag)
lost_none hs bag i p old low item there so =
    so ∙ sym (append-nil (lost hs (take i bag))) ∙ ap (λ (b : Bool). lost hs (take i bag) ++ unless b p.message) (sym there) ∙ sym (lost_next hs bag i p low item)

-- ---- the chart

module _ (scheme : Scheme) (events : List WorldEvent) (w : World) (named : List Node) (has : ℕ → Bool) (lines : List ℕ) (drawn : HasDrawn scheme events w named has lines) where
  abbrev all : List Happening
  all = happenings (opening scheme) events

  pub charted : (never : List Message) (nodes : List Node) (front table text : List ℕ) → never ≡ lost all w.bag → nodes ≡ participants all never → IsSafeTable Lines scheme events table
      → front ≡ codes "sequenceDiagram\n" ++ flat_map participant_line nodes ++ lines ++ flat_map lost_line never → text ≡ front ++ wide_note_line nodes table → IsChart scheme events text
  charted never nodes front table text lacks takes is begins ends =
      let v = run (opening scheme) events in
      let gone : never ≡ lost all v.bag = lacks ∙ ap (λ (x : World). lost all x.bag) drawn.world in
      let head = codes "sequenceDiagram\n" in
      let part : List Node → List ℕ = flat_map participant_line in
      let text_of : List Node → List ℕ → List Message → List ℕ = λ ns ls ms. head ++ part ns ++ ls ++ flat_map lost_line ms ++ wide_note_line ns table in
      record {
        table = table;
        is_table = is;
        spelled =
            ends ∙ ap (λ (l : List ℕ). l ++ wide_note_line nodes table) begins
            ∙ ap (λ (ns : List Node). text_of ns lines never) takes
            ∙ ap (λ (ls : List ℕ). text_of (participants all never) ls never) drawn.drawn.spelled
            ∙ ap (λ (ms : List Message). chart_text all ms table) gone;
      }

-- the log comes at the end of the nodes
pub with_log : (hs : List Happening) (never : List Message) (nodes : List Node) → nodes ≡ first_ones ((flat_map happening_nodes hs ++ flat_map parties never) ++ Itl ∷ []) → nodes ≡ participants hs never
with_log hs never nodes is = is ∙ ap first_ones (append_assoc (flat_map happening_nodes hs) (flat_map parties never) (Itl ∷ []))
