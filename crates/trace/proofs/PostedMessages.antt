-- The messages about a transaction, in the bag and as the code keeps them.
use Rattle.std.proofs.Common.{◌≡◌, ◌+◌, ◌<◌, ◌==◌, ◌&&◌, ◌||◌, ℕ, Bool, List, [], ◌∷◌, ◌++◌, inl, inr, length, map, take, get_or, refl, sym, ap, ◌∙◌}
use Rattle.std.specs.List.{filter, list_any}
use Rattle.std.proofs.lemmas.Bool.{cases_Bool}
use Rattle.std.proofs.lemmas.List.{map-append, take_more}
use Rattle.std.proofs.lemmas.List.Elements.{filter-append}
use Rattle.units.specs.Code.{same_node}
use Rattle.units.specs.declared.code.Node.{Node}
use Rattle.status.specs.Id.{same_id}
use Rattle.status.specs.declared.id.TransactionId.{TransactionId}
use Rattle.wire.specs.declared.input.Input.{Input}
use Rattle.wire.specs.declared.input.Input.TheVariants.{Propose, Request, OpenAccount, CloseAccount, Ack, CleanUp, Eligible, Received}
use Rattle.protocol.specs.World.{World}
use Rattle.protocol.specs.declared.event.Posted.{Posted}
use Rattle.trace.specs.Followed.{acknowledges_one, is_sent, sent_about, sent_of}
use Rattle.trace.specs.Rows.{acknowledges}

abbrev about : TransactionId → Posted → Bool
about id p = same_id p.message.id id

pub sent_append : (id : TransactionId) (xs ys : List Posted) → sent_about id (xs ++ ys) ≡ sent_about id xs ++ sent_about id ys
sent_append id xs ys = ap (map sent_of) (filter-append (about id) xs ys) ∙ map-append sent_of (filter (about id) xs) (filter (about id) ys)

-- one message more
pub sent_more : (id : TransactionId) (ps : List Posted) (i : ℕ) (p : Posted) → i < length ps → p ≡ get_or ps i p → sent_about id (take (i + 1) ps) ≡ sent_about id (take i ps) ++ sent_about id (p ∷ [])
sent_more id ps i p low is = ap (sent_about id) (take_more ps i p low ∙ ap (λ q. take i ps ++ q ∷ []) (sym is)) ∙ sent_append id (take i ps) (p ∷ [])

sent_is : (id : TransactionId) (n : Node) (key : ℕ) (bag : List Posted) → is_sent (sent_about id bag) n key ≡ list_any (λ p. same_id p.message.id id && (same_node p.node n && (p.key == key))) bag
sent_is id n key [] = refl
sent_is id n key (p ∷ ps) =
    elim (cases_Bool (same_id p.message.id id)) [
      | inl y ↦ rw y (ap (λ b. (same_node p.node n && (p.key == key)) || b) (sent_is id n key ps))
      | inr z ↦ rw z (sent_is id n key ps)
    ]

-- the kept messages and the bag agree on whether an input acknowledges one of them
pub acknowledges_same : (w : World) (id : TransactionId) (n : Node) (input : Input) → acknowledges_one (sent_about id w.bag) n input ≡ acknowledges w id n input
acknowledges_same w id n (Ack key) = sent_is id n key.value w.bag
acknowledges_same w id n (Propose o) = refl
acknowledges_same w id n (Request t) = refl
acknowledges_same w id n (OpenAccount account) = refl
acknowledges_same w id n (CloseAccount account) = refl
acknowledges_same w id n (CleanUp moment) = refl
acknowledges_same w id n (Eligible c may) = refl
acknowledges_same w id n (Received m moment) = refl
