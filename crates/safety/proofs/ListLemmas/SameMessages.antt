-- Whether two messages are the same, as a test.
use Rattle.std.proofs.Common.{◌≡◌, ℕ, List, [], ◌∷◌, Bool, true, false, true≢false, refl, sym, ap, ◌∙◌}
use Rattle.std.specs.Prelude.{◌&&◌, ◌==◌}
use Rattle.std.proofs.lemmas.Bool.{and_parts, and_from, eqb-true, eq-eqb}
use Rattle.units.proofs.Same.{node_of_same, same_node-refl}
use Rattle.units.specs.Code.{same_node}
use Rattle.status.proofs.Contents.{told}
use Rattle.status.proofs.Ids.{id_of_same, same_id-refl}
use Rattle.status.specs.Content.{same_content}
use Rattle.status.specs.Id.{same_id}
use Rattle.status.specs.Status.{same_status, status_index}
use Rattle.status.specs.declared.status.Status.{Status}
use Rattle.status.specs.declared.status.Status.TheVariants as status
use Rattle.wire.specs.NotifiedStatuses.{notified_status, notified_codes, proposal_status}
use Rattle.wire.specs.declared.message.Body.{Body}
use Rattle.wire.specs.declared.message.Body.TheVariants.{Proposal, Notification, Request}
use Rattle.wire.specs.declared.message.Message.{Message}
use Rattle.wire.specs.declared.message.Proposal.{Proposal as Offer}
use Rattle.wire.specs.declared.message.ProposalStatus.{ProposalStatus}
use Rattle.wire.specs.declared.message.ProposalStatus.TheVariants.{Proposed, Checked}
use Rattle.wire.specs.declared.notified.NotifiedStatus.{NotifiedStatus}
use Rattle.wire.specs.declared.notified.NotifiedStatus.TheVariants.{Accepted, Rejected, Terminated, Cancelled, Completed}
use Rattle.safety.proofs.ListLemmas.TestsOfSameness.{status_of_same}

abbrev same_codes : List ℕ → List ℕ → Bool
same_codes [] [] = true
same_codes [] (y ∷ ys) = false
same_codes (x ∷ xs) [] = false
same_codes (x ∷ xs) (y ∷ ys) = (x == y) && same_codes xs ys

codes_of_same : (xs ys : List ℕ) → same_codes xs ys ≡ true → xs ≡ ys
codes_of_same [] [] e = refl
codes_of_same [] (y ∷ ys) e = absurd (true≢false (sym e))
codes_of_same (x ∷ xs) [] e = absurd (true≢false (sym e))
codes_of_same (x ∷ xs) (y ∷ ys) e =
    let h = and_parts (x == y) (same_codes xs ys) e in
    let here = eqb-true x y h.0 in
    let rest = codes_of_same xs ys h.1 in
    cc (here, rest)

same_codes-refl : (xs : List ℕ) → same_codes xs xs ≡ true
same_codes-refl [] = refl
same_codes-refl (x ∷ xs) = and_from (x == x) (same_codes xs xs) (eq-eqb x x refl) (same_codes-refl xs)

-- what a notification says, from its status and its codes
abbrev notified_as : Status → List ℕ → NotifiedStatus
notified_as status.Accepted codes = Accepted
notified_as status.Rejected codes = Rejected codes
notified_as status.Terminated codes = Terminated codes
notified_as status.Cancelled codes = Cancelled
notified_as status.Completed codes = Completed
notified_as status.Proposed codes = Accepted
notified_as status.Checked codes = Accepted

notified_again : (n : NotifiedStatus) → notified_as (notified_status n) (notified_codes n) ≡ n
notified_again Accepted = refl
notified_again (Rejected codes) = refl
notified_again (Terminated codes) = refl
notified_again Cancelled = refl
notified_again Completed = refl

abbrev offered_as : Status → ProposalStatus
offered_as status.Checked = Checked
offered_as status.Accepted = Proposed
offered_as status.Rejected = Proposed
offered_as status.Terminated = Proposed
offered_as status.Cancelled = Proposed
offered_as status.Completed = Proposed
offered_as status.Proposed = Proposed

offered_again : (s : ProposalStatus) → offered_as (proposal_status s) ≡ s
offered_again Proposed = refl
offered_again Checked = refl

abbrev same_notified : NotifiedStatus → NotifiedStatus → Bool
same_notified m n = same_status (notified_status m) (notified_status n) && same_codes (notified_codes m) (notified_codes n)

abbrev same_offer : Offer → Offer → Bool
same_offer p q = same_status (proposal_status p.status) (proposal_status q.status) && same_content p.content q.content

abbrev same_body : Body → Body → Bool
same_body (Proposal p) (Proposal q) = same_offer p q
same_body (Proposal p) (Notification n) = false
same_body (Proposal p) Request = false
same_body (Notification m) (Proposal q) = false
same_body (Notification m) (Notification n) = same_notified m n
same_body (Notification m) Request = false
same_body Request (Proposal q) = false
same_body Request (Notification n) = false
same_body Request Request = true

abbrev pub same_message : Message → Message → Bool
same_message a b = same_node a.from b.from && (same_node a.to b.to && (same_id a.id b.id && same_body a.body b.body))

notified_of_same : (m n : NotifiedStatus) → same_notified m n ≡ true → m ≡ n
notified_of_same m n e =
    let h = and_parts (same_status (notified_status m) (notified_status n)) (same_codes (notified_codes m) (notified_codes n)) e in
    let status = status_of_same (notified_status m) (notified_status n) h.0 in
    let codes = codes_of_same (notified_codes m) (notified_codes n) h.1 in
    sym (notified_again m) ∙ (λ i. notified_as (status i) (codes i)) ∙ notified_again n

offer_of_same : (p q : Offer) → same_offer p q ≡ true → p ≡ q
offer_of_same p q e =
    let h = and_parts (same_status (proposal_status p.status) (proposal_status q.status)) (same_content p.content q.content) e in
    let status : p.status ≡ q.status = sym (offered_again p.status) ∙ ap offered_as (status_of_same (proposal_status p.status) (proposal_status q.status) h.0) ∙ offered_again q.status in
    let content = (told p.content q.content).0 h.1 in
    λ i. record { status = status i; content = content i }

body_of_same : (a b : Body) → same_body a b ≡ true → a ≡ b
body_of_same (Proposal p) (Proposal q) e = ap Proposal (offer_of_same p q e)
body_of_same (Proposal p) (Notification n) e = absurd (true≢false (sym e))
body_of_same (Proposal p) Request e = absurd (true≢false (sym e))
body_of_same (Notification m) (Proposal q) e = absurd (true≢false (sym e))
body_of_same (Notification m) (Notification n) e = ap Notification (notified_of_same m n e)
body_of_same (Notification m) Request e = absurd (true≢false (sym e))
body_of_same Request (Proposal q) e = absurd (true≢false (sym e))
body_of_same Request (Notification n) e = absurd (true≢false (sym e))
body_of_same Request Request e = refl

pub message_of_same : (a b : Message) → same_message a b ≡ true → a ≡ b
message_of_same a b e =
    let f = and_parts (same_node a.from b.from) _ e in
    let t = and_parts (same_node a.to b.to) _ f.1 in
    let d = and_parts (same_id a.id b.id) (same_body a.body b.body) t.1 in
    let from = node_of_same a.from b.from f.0 in
    let to = node_of_same a.to b.to t.0 in
    let id = id_of_same a.id b.id d.0 in
    let body = body_of_same a.body b.body d.1 in
    λ i. record { from = from i; to = to i; id = id i; body = body i }

same_status-refl : (s : Status) → same_status s s ≡ true
same_status-refl s = eq-eqb (status_index s) (status_index s) refl

same_body-refl : (b : Body) → same_body b b ≡ true
same_body-refl (Proposal p) =
    and_from (same_status (proposal_status p.status) (proposal_status p.status)) (same_content p.content p.content)
    (same_status-refl (proposal_status p.status)) ((told p.content p.content).1 refl)
same_body-refl (Notification n) =
    and_from (same_status (notified_status n) (notified_status n)) (same_codes (notified_codes n) (notified_codes n))
    (same_status-refl (notified_status n)) (same_codes-refl (notified_codes n))
same_body-refl Request = refl

pub same_message-refl : (a : Message) → same_message a a ≡ true
same_message-refl a =
    and_from (same_node a.from a.from) _ (same_node-refl a.from)
    (and_from (same_node a.to a.to) _ (same_node-refl a.to) (and_from (same_id a.id a.id) (same_body a.body a.body) (same_id-refl a.id) (same_body-refl a.body)))
