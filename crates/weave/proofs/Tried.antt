-- Events for a node's next record: which one fits, and where none does. The result of posting, and the place where a
-- message is found.
use Rattle.std.proofs.Common.{◌≡◌, ℕ, List, true, false, Option, Some, None, refl, sym, ap, subst, ◌∙◌, length}
use Rattle.std.specs.Prelude.{slice_get, Contains}
use Rattle.std.proofs.lemmas.Bool.{cond-false}
use Rattle.units.specs.declared.code.Node.{Node}
use Rattle.status.specs.declared.id.TransactionId.{TransactionId}
use Rattle.status.specs.declared.moment.Moment.{Moment}
use Rattle.wire.specs.declared.input.Input.{Input}
use Rattle.wire.specs.declared.input.Input.TheVariants.{Received}
use Rattle.wire.specs.declared.message.Message.{Message}
use Rattle.protocol.specs.World.{World, Stepped, is_order, posted, stays, step}
use Rattle.protocol.specs.declared.event.Outcome.{Outcome}
use Rattle.protocol.specs.declared.event.Outcome.TheVariants.{Done, NotPossible, Recorded}
use Rattle.protocol.specs.declared.event.Posted.{Posted}
use Rattle.protocol.specs.declared.event.WorldEvent.TheVariants.{Deliver, Post, Take}
use Rattle.units.proofs.Lists.Positions.{last_at}
use Rattle.weave.specs.Steps.{AreAllNumbered, Fits, HasMessage, IsNotRecorded, next_message, with_message}
use Rattle.weave.proofs.Turns.{message_none, order_any, taken}

abbrev pub came : World → Outcome → Stepped
came v o = record { world = v; outcome = o }

-- ---- an event for an input

pub fits_order : (w : World) (n : Node) (input : Input) → is_order w n input ≡ true → Fits w (Take n input) n input
fits_order w n input order = record { gives = (refl, refl); allowed = order }

pub fits_delivery : (w : World) (n : Node) (m : Message) (moment : Moment) (index : ℕ) → HasMessage w.bag m index → m.to ≡ n → Fits w (Deliver index moment) n (Received m moment)
fits_delivery w n m moment index h to = record { gives = (h.0, h.1, ap (λ (z : Message). z.to) h.2 ∙ to, ap (λ z. Received z moment) h.2); allowed = tt }

pub no_delivery : (w : World) (n : Node) (m : Message) (moment : Moment) → ((k : ℕ) → HasMessage w.bag m k → ⊥) → IsNotRecorded w n (Received m moment)
no_delivery w n m moment none e place g r = message_none w n m moment e place (λ index p is to same. none index (p, is, same)) g r

pub other_delivery : (w : World) (n : Node) (m : Message) (moment : Moment) → (m.to ≡ n → ⊥) → IsNotRecorded w n (Received m moment)
other_delivery w n m moment apart e place g r = message_none w n m moment e place (λ index p is to same. apart (ap (λ (z : Message). z.to) (sym same) ∙ to)) g r

not_ordered : (w : World) (n : Node) (input : Input) (place : ℕ) → is_order w n input ≡ false → (step w (Take n input)).outcome ≡ Recorded place → ⊥
unfolding step
not_ordered w n input place none r =
    let clash : NotPossible ≡ Recorded place = sym (ap (λ (z : Stepped). z.outcome) (cond-false (is_order w n input) (taken w n input) (stays w NotPossible) none)) ∙ r in
    cc (clash)

pub no_order : (w : World) (n : Node) (input : Input) → ((m : Message) (moment : Moment) → input ≡ Received m moment → ⊥) → is_order w n input ≡ false → IsNotRecorded w n input
no_order w n input other none e place g r = not_ordered w n input place none (order_any w n input e place other g r)

-- ---- a message posted

post_cases : (w v : World) (n : Node) (key : ℕ) (o : Outcome) (m : Option Message) → (o ≡ Done → ⊥) → came v o ≡ posted w n key m → (m ≡ None) × (v ≡ w)
post_cases w v n key o None none does = (refl, ap (λ (z : Stepped). z.world) does)
post_cases w v n key o (Some m) none does = absurd (none (ap (λ (z : Stepped). z.outcome) does))

pub post_rests : (w v : World) (n : Node) (key : ℕ) (o : Outcome) → (o ≡ Done → ⊥) → came v o ≡ step w (Post n key) → (next_message w n key ≡ None) × (v ≡ w)
unfolding step
post_rests w v n key o none does = post_cases w v n key o (next_message w n key) none does

post_done : (w v : World) (n : Node) (key : ℕ) (o : Option Message) → came v Done ≡ posted w n key o → (m : Message) × (o ≡ Some m) × (v ≡ with_message w n key m)
post_done w v n key None does = let clash : Done ≡ NotPossible = ap (λ (z : Stepped). z.outcome) does in absurd (cc (clash))
post_done w v n key (Some m) does = (m, refl, ap (λ (z : Stepped). z.world) does)

pub post_goes : (w v : World) (n : Node) (key : ℕ) → came v Done ≡ step w (Post n key) → (m : Message) × (next_message w n key ≡ Some m) × (v ≡ with_message w n key m)
unfolding step
post_goes w v n key does = post_done w v n key (next_message w n key) does

-- it stands last in the bag
pub stands_last : (w v : World) (n : Node) (key : ℕ) (m : Message) → v ≡ with_message w n key m → slice_get v.bag (length w.bag) ≡ Some (record { node = n; key = key; message = m })
stands_last w v n key m is = ap (λ (z : World). slice_get z.bag (length w.bag)) is ∙ last_at w.bag (record { node = n; key = key; message = m })

-- ---- a message found by the numbers of its transaction

pub not_numbered : (numbers : TransactionId → List ℕ) (bag : List Posted) (m : Message) (ks : List ℕ) → AreAllNumbered numbers bag → numbers m.id ≡ ks → ((k : ℕ) → Contains ks k → HasMessage bag m k → ⊥) → (k : ℕ) → HasMessage bag m k → ⊥
not_numbered numbers bag m ks all are none k h =
    none k (subst (λ (xs : List ℕ). Contains xs k) are (subst (λ (z : Message). Contains (numbers z.id) k) h.2 (all k h.0 h.1))) h
