-- Messages by their content, each as one record with its sender, its receiver and its transaction.
use Rattle.std.proofs.Common.{◌≡◌, Bool, true, false, true≢false, refl, sym, ap, subst, ◌∙◌}
use Rattle.units.specs.declared.code.Node.{Node}
use Rattle.status.specs.Content.{Content}
use Rattle.status.specs.declared.id.TransactionId.{TransactionId}
use Rattle.status.specs.declared.moment.Moment.{Moment}
use Rattle.wire.specs.declared.input.Input.{Input}
use Rattle.wire.specs.declared.input.Input.TheVariants.{Received}
use Rattle.wire.specs.declared.message.Body.{Body}
use Rattle.wire.specs.declared.message.Body.TheVariants as body
use Rattle.wire.specs.declared.message.Message.{Message}
use Rattle.wire.specs.declared.message.Proposal as proposals
use Rattle.wire.specs.declared.message.ProposalStatus.{ProposalStatus}
use Rattle.wire.specs.declared.notified.NotifiedStatus.{NotifiedStatus}

pub record ProposalMessage : Type 0 where
  pub from : Node
  pub to : Node
  pub id : TransactionId
  pub status : ProposalStatus
  pub content : Content

pub record NotificationMessage : Type 0 where
  pub from : Node
  pub to : Node
  pub id : TransactionId
  pub notified : NotifiedStatus

pub record RequestMessage : Type 0 where
  pub from : Node
  pub to : Node
  pub id : TransactionId

-- the same parties and transaction, with that body
abbrev pub with_body : Message → Body → Message
with_body m b = record { from = m.from; to = m.to; id = m.id; body = b }

abbrev pub proposal : ProposalMessage → Message
proposal p = record { from = p.from; to = p.to; id = p.id; body = body.Proposal (record { status = p.status; content = p.content }) }

abbrev pub notification : NotificationMessage → Message
notification n = record { from = n.from; to = n.to; id = n.id; body = body.Notification n.notified }

abbrev pub request : RequestMessage → Message
request r = record { from = r.from; to = r.to; id = r.id; body = body.Request }

-- a message with the fields of its body
abbrev pub proposal_with : Message → proposals.Proposal → ProposalMessage
proposal_with m p = record { from = m.from; to = m.to; id = m.id; status = p.status; content = p.content }

abbrev pub notification_with : Message → NotifiedStatus → NotificationMessage
notification_with m n = record { from = m.from; to = m.to; id = m.id; notified = n }

abbrev pub request_with : Message → RequestMessage
request_with m = record { from = m.from; to = m.to; id = m.id }

-- a message is one of the three
pub data Form : Message → Type 0 where
  of_proposal : (p : ProposalMessage) → Form (proposal p)
  of_notification : (n : NotificationMessage) → Form (notification n)
  of_request : (r : RequestMessage) → Form (request r)

form_with : (m : Message) (b : Body) → Form (with_body m b)
form_with m (body.Proposal p) = of_proposal (proposal_with m p)
form_with m (body.Notification n) = of_notification (notification_with m n)
form_with m body.Request = of_request (request_with m)

pub form : (m : Message) → Form m
form m = form_with m m.body

-- a message whose body is known
pub has_body : (m : Message) (b : Body) → m.body ≡ b → m ≡ with_body m b
has_body m b e = ap (λ (x : Body). with_body m x) e

pub as_body : (P : Message → Type 0) (m : Message) (b : Body) → m.body ≡ b → P m → P (with_body m b)
as_body P m b e p = subst P (has_body m b e) p

pub as_received : (m : Message) (b : Body) {input : Input} {moment : Moment} → m.body ≡ b → input ≡ Received m moment → input ≡ Received (with_body m b) moment
as_received m b {input} {moment} e given = given ∙ ap (λ (z : Message). Received z moment) (has_body m b e)

-- ---- equal messages say the same

abbrev pub are_alike : Body → Body → Bool
are_alike (body.Proposal p) (body.Proposal q) = true
are_alike (body.Notification n) (body.Notification k) = true
are_alike body.Request body.Request = true
are_alike _ _ = false

alike : (b : Body) → are_alike b b ≡ true
alike (body.Proposal p) = refl
alike (body.Notification n) = refl
alike body.Request = refl

pub apart : {X : Type 0} {m n : Message} → m ≡ n → are_alike m.body n.body ≡ false → X
apart {m = m} e differ = absurd (true≢false (sym (alike m.body) ∙ ap (λ (z : Message). are_alike m.body z.body) e ∙ differ))

pub received : {m n : Message} {t u : Moment} → Received m t ≡ Received n u → m ≡ n
received e = cc (e)

said : Body → NotifiedStatus → NotifiedStatus
said (body.Notification n) other = n
said _ other = other

offered : Body → proposals.Proposal → proposals.Proposal
offered (body.Proposal p) other = p
offered _ other = other

pub one_notified : (a b : NotificationMessage) → notification a ≡ notification b → a ≡ b
unfolding said
one_notified a b e = λ i. record { from = (e i).from; to = (e i).to; id = (e i).id; notified = said (e i).body a.notified }

pub one_proposal : (a b : ProposalMessage) → proposal a ≡ proposal b → a ≡ b
unfolding offered
one_proposal a b e =
    let other : proposals.Proposal = record { status = a.status; content = a.content } in
    λ i. record { from = (e i).from; to = (e i).to; id = (e i).id; status = (offered (e i).body other).status; content = (offered (e i).body other).content }

pub one_request : (a b : RequestMessage) → request a ≡ request b → a ≡ b
one_request a b e = λ i. record { from = (e i).from; to = (e i).to; id = (e i).id }
