-- A value writes one message at most.
use Rattle.std.proofs.Common.{◌≡◌, ℕ, List, codes, bytes_eq, if◌then◌else◌, Option, Some, refl, sym, ap, subst, ◌∙◌}
use Rattle.serde_json.specs.Data.{Data, string}
use Rattle.json_fields.specs.Fields.{HasAt, HasKeys}
use Rattle.units.specs.Code.{code_text, node_text}
use Rattle.units.specs.declared.code.Code.{Code}
use Rattle.units.specs.declared.code.Node.{Node}
use Rattle.units.specs.declared.code.Node.TheVariants.{Itl, Registry}
use Rattle.units.proofs.OneText.{code_text_same}
use Rattle.status.specs.Content.{Content}
use Rattle.status.specs.Id.{id_text}
use Rattle.status.specs.Status.{status_text}
use Rattle.status.specs.declared.id.TransactionId.{TransactionId}
use Rattle.status.specs.declared.status.Status.{Status}
use Rattle.status.specs.declared.status.Status.TheVariants as status
use Rattle.status.proofs.Ids.{id_text_same}
use Rattle.wire.specs.Messages.{fields_with, IsMessage, IsLine, IsSound}
use Rattle.wire.specs.NotifiedStatuses.{notified_status, notified_codes, proposal_status}
use Rattle.wire.specs.Objects.{HasExactly}
use Rattle.wire.specs.Reading.{HasBody, HasContent, HasNotified}
use Rattle.wire.specs.declared.message.Body.{Body}
use Rattle.wire.specs.declared.message.Body.TheVariants.{Proposal, Notification, Request}
use Rattle.wire.specs.declared.message.Message.{Message}
use Rattle.wire.specs.declared.message.Proposal as proposals
use Rattle.wire.specs.declared.message.ProposalStatus.{ProposalStatus}
use Rattle.wire.specs.declared.message.ProposalStatus.TheVariants.{Proposed, Checked}
use Rattle.wire.specs.declared.notified.NotifiedStatus.{NotifiedStatus}
use Rattle.wire.specs.declared.notified.NotifiedStatus.TheVariants.{Accepted, Rejected, Terminated, Cancelled, Completed}
use Rattle.json_fields.proofs.OneAtKey.{text_once, whole_once}
use Rattle.wire.proofs.Told.{numbers_once, blocks_once, short_blocks}

-- ---- small values

pub node_same : (a b : Node) → node_text a ≡ node_text b → a ≡ b
node_same Itl Itl e = refl
node_same Itl (Registry c) e = absurd (cc)
node_same (Registry c) Itl e = absurd (cc)
node_same (Registry c) (Registry d) e = ap (λ (x : Code). Registry x) (code_text_same c d e)

pub node_once : (d : Data) (key : List ℕ) (a b : Node) → HasAt d key (string (node_text a)) → HasAt d key (string (node_text b)) → a ≡ b
node_once d key a b p q = node_same a b (text_once d key (node_text a) (node_text b) p q)

pub id_once : (d : Data) (key : List ℕ) (t u : TransactionId) → HasAt d key (string (id_text t)) → HasAt d key (string (id_text u)) → t ≡ u
id_once d key t u p q = id_text_same t u (text_once d key (id_text t) (id_text u) p q)

status_told : List ℕ → Status
status_told text =
    if bytes_eq text (codes "Proposed") then status.Proposed else (if bytes_eq text (codes "Checked") then status.Checked else (if bytes_eq text (codes "Accepted") then status.Accepted else
    (if bytes_eq text (codes "Rejected") then status.Rejected else (if bytes_eq text (codes "Terminated") then status.Terminated else (if bytes_eq text (codes "Cancelled") then status.Cancelled else status.Completed)))))

status_again : (s : Status) → status_told (status_text s) ≡ s
unfolding status_told
status_again status.Proposed = refl
status_again status.Checked = refl
status_again status.Accepted = refl
status_again status.Rejected = refl
status_again status.Terminated = refl
status_again status.Cancelled = refl
status_again status.Completed = refl

status_once : (d : Data) (key : List ℕ) (s t : Status) → HasAt d key (string (status_text s)) → HasAt d key (string (status_text t)) → s ≡ t
status_once d key s t p q = sym (status_again s) ∙ ap status_told (text_once d key (status_text s) (status_text t) p q) ∙ status_again t

proposal_status_same : (s t : ProposalStatus) → proposal_status s ≡ proposal_status t → s ≡ t
proposal_status_same Proposed Proposed e = refl
proposal_status_same Proposed Checked e = absurd (cc)
proposal_status_same Checked Proposed e = absurd (cc)
proposal_status_same Checked Checked e = refl

-- ---- contents and notified statuses

content_once : (d : Data) (a b : Content) → HasContent d a → HasContent d b → a ≡ b
content_once d a b p q =
    let accounts = whole_once d (codes "account") a.account b.account p.0 q.0 in
    let others = whole_once d (codes "to_account") a.to_account b.to_account p.1 q.1 in
    let acquirers = code_text_same a.acquirer b.acquirer (text_once d (codes "to_registry") (code_text a.acquirer) (code_text b.acquirer) p.2 q.2) in
    let lists = blocks_once d (codes "units") a.units b.units (short_blocks a.units p.4.in_range) (short_blocks b.units q.4.in_range) p.3 q.3 in
    λ i. record { account = accounts i; acquirer = acquirers i; to_account = others i; units = lists i }

-- the notified status of a status and codes
notified_made : Status → List ℕ → NotifiedStatus
notified_made status.Rejected cs = Rejected cs
notified_made status.Terminated cs = Terminated cs
notified_made status.Cancelled cs = Cancelled
notified_made status.Completed cs = Completed
notified_made _ cs = Accepted

notified_again : (n : NotifiedStatus) → notified_made (notified_status n) (notified_codes n) ≡ n
unfolding notified_made
notified_again Accepted = refl
notified_again (Rejected cs) = refl
notified_again (Terminated cs) = refl
notified_again Cancelled = refl
notified_again Completed = refl

notified_once : (d : Data) (m n : NotifiedStatus) → HasNotified d m → HasNotified d n → m ≡ n
notified_once d m n p q =
    let told = numbers_once d (codes "codes") (notified_codes m) (notified_codes n) p.0 q.0 in
    let said = status_once d (codes "status") (notified_status m) (notified_status n) p.1 q.1 in
    sym (notified_again m) ∙ ap (λ s. notified_made s (notified_codes m)) said ∙ ap (notified_made (notified_status n)) told ∙ notified_again n

-- ---- messages

-- the sender, the receiver and the transaction in the object
pub record HasParties (d : Data) (m : Message) : Type 0 where
  pub sender : HasAt d (codes "from") (string (node_text m.from))
  pub receiver : HasAt d (codes "to") (string (node_text m.to))
  pub transaction : HasAt d (codes "transaction") (string (id_text m.id))

parties_of : (d : Data) (m : Message) (b : Body) → HasExactly d (fields_with m b) → HasParties d m
parties_of d m (Proposal p) h = let f = h.1 in record { sender = f.1.1.0; receiver = f.1.1.1.1.0; transaction = f.1.1.1.1.1.1.1.0 }
parties_of d m (Notification n) h = let f = h.1 in record { sender = f.1.1.0; receiver = f.1.1.1.1.0; transaction = f.1.1.1.1.1.0 }
parties_of d m Request h = let f = h.1 in record { sender = f.1.0; receiver = f.1.1.0; transaction = f.1.1.1.0 }

pub body_of : (d : Data) (m : Message) (b : Body) → HasExactly d (fields_with m b) → IsSound b → HasBody d b
body_of d m (Proposal p) h is =
    let f = h.1 in ((h.0, f.1.0), f.1.1.1.0, (f.0, f.1.1.1.1.1.0, f.1.1.1.1.1.1.0, f.1.1.1.1.1.1.1.1.0, is))
body_of d m (Notification n) h is = let f = h.1 in ((h.0, f.0), (f.1.0, f.1.1.1.0, is))
body_of d m Request h is = (h.0, h.1.0)

pub body_in : (d : Data) (m : Message) → IsMessage d m → HasBody d m.body
body_in d m is = body_of d m m.body is.0 is.1

pub parties_in : (d : Data) (m : Message) → IsMessage d m → HasParties d m
parties_in d m is = parties_of d m m.body is.0

proposal_once : (d : Data) (p q : proposals.Proposal) → HasBody d (Proposal p) → HasBody d (Proposal q) → p ≡ q
proposal_once d p q h k =
    let statuses = proposal_status_same p.status q.status (status_once d (codes "status") (proposal_status p.status) (proposal_status q.status) h.1 k.1) in
    let contents = content_once d p.content q.content h.2 k.2 in
    λ i. record { status = statuses i; content = contents i }

nine_or_six : (o : Option ℕ) → o ≡ Some 9 → o ≡ Some 6 → ⊥
nine_or_six o p q = cc (p, q)

nine_or_four : (o : Option ℕ) → o ≡ Some 9 → o ≡ Some 4 → ⊥
nine_or_four o p q = cc (p, q)

six_or_four : (o : Option ℕ) → o ≡ Some 6 → o ≡ Some 4 → ⊥
six_or_four o p q = cc (p, q)

no_notification : (d : Data) → HasKeys d 9 → HasKeys d 6 → ⊥
no_notification d p q = nine_or_six _ p q

no_proposal : (d : Data) → HasKeys d 9 → HasKeys d 4 → ⊥
no_proposal d p q = nine_or_four _ p q

no_request : (d : Data) → HasKeys d 6 → HasKeys d 4 → ⊥
no_request d p q = six_or_four _ p q

body_once : (d : Data) (a b : Body) → HasBody d a → HasBody d b → a ≡ b
body_once d (Proposal p) (Proposal q) h k = ap (λ (x : proposals.Proposal). Proposal x) (proposal_once d p q h k)
body_once d (Proposal p) (Notification n) h k = absurd (no_notification d h.0.0 k.0.0)
body_once d (Proposal p) Request h k = absurd (no_proposal d h.0.0 k.0)
body_once d (Notification m) (Proposal q) h k = absurd (no_notification d k.0.0 h.0.0)
body_once d (Notification m) (Notification n) h k = ap (λ (x : NotifiedStatus). Notification x) (notified_once d m n h.1 k.1)
body_once d (Notification m) Request h k = absurd (no_request d h.0.0 k.0)
body_once d Request (Proposal q) h k = absurd (no_proposal d k.0.0 h.0)
body_once d Request (Notification n) h k = absurd (no_request d k.0.0 h.0)
body_once d Request Request h k = refl

pub message_once : (d : Data) (m n : Message) → IsMessage d m → IsMessage d n → m ≡ n
message_once d m n h k =
    let p = parties_in d m h in
    let q = parties_in d n k in
    let froms = node_once d (codes "from") m.from n.from p.sender q.sender in
    let tos = node_once d (codes "to") m.to n.to p.receiver q.receiver in
    let ids = id_once d (codes "transaction") m.id n.id p.transaction q.transaction in
    let bodies = body_once d m.body n.body (body_in d m h) (body_in d n k) in
    λ i. record { from = froms i; to = tos i; id = ids i; body = bodies i }

pub line_once : (line : List ℕ) (m n : Message) → IsLine line m → IsLine line n → m ≡ n
line_once line m n p q =
    let e : Some q.value ≡ Some p.value = sym q.reads ∙ p.reads in
    let same : q.value ≡ p.value = cc (e) in
    message_once p.value m n p.writes (subst (λ d. IsMessage d n) same q.writes)
