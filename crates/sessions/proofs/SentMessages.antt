-- The outcome for a message that was unacknowledged.
use Rattle.std.proofs.Common.{◌≡◌, ◌⊎◌, ◌<◌, ℕ, List, [], ◌∷◌, ◌++◌, Option, Some, inl, inr, sym, subst}
use Rattle.units.specs.declared.code.Node.{Node}
use Rattle.wire.specs.Messages.{message_text}
use Rattle.wire.specs.declared.message.Message.{Message}
use Rattle.node_state.specs.Views.{SeatView}
use Rattle.exchanges.specs.Exchanges.{Exchanges}
use Rattle.exchanges.specs.CountedView.{CountedView}
use Rattle.sessions.specs.Delivering.{received}
use Rattle.sessions.specs.declared.sending.Sent.{Sent}
use Rattle.sessions.specs.declared.sending.Sent.TheVariants.{Nothing, Received, NotReceived, Unreachable, Left, NoMemory}
use Rattle.sessions.specs.declared.senders.PassEnd.{PassEnd}
use Rattle.sessions.specs.declared.senders.PassEnd.TheVariants.{Done}
use Rattle.sessions.specs.Sending.{Acknowledges, IsLast, IsParted, IsReceivedBy, Looks, Passes, Sends, Tries, TriesKeys, after_tries, unused}

module _ {R W : Type 0} (leads : Node → R → W → Type 0) (remaining : R → Option (List ℕ)) (contents : W → Option (List ℕ)) where
  pub received_by :
      (peer : Node) (m : Message) (reader : R) (writer : W) (r r' : CountedView R) (w w' : CountedView W) → leads peer reader writer → r ≡ unused reader → w ≡ unused writer
      → Exchanges remaining contents r r' w w' (message_text m ++ 10 ∷ []) received → IsReceivedBy leads remaining contents peer m
  received_by peer m reader writer r r' w w' led new_reader new_writer ended = record {
    reader = reader;
    writer = writer;
    read = r';
    written = w';
    led = led;
    ended =
        subst (λ (first : CountedView R). Exchanges remaining contents first r' (unused writer) w' (message_text m ++ 10 ∷ []) received) new_reader (
        subst (λ (first : CountedView W). Exchanges remaining contents r r' first w' (message_text m ++ 10 ∷ []) received) new_writer ended
        );
  }

module _ (to_send : Node → ℕ → Option (ℕ × Message) → Type 0) (got : Node → Message → Type 0) where
  pub tries_send : (peer : Node) (from : ℕ) (old new : SeatView) (key : ℕ) (m : Message) (sent : Sent) → to_send peer from (Some (key, m)) → Tries got peer m old new key sent → Sends to_send got peer from old new sent
  tries_send peer from old new key m Nothing had t = absurd t
  tries_send peer from old new key m (Received k) had t =
      ((m, subst (λ (n : ℕ). to_send peer from (Some (n, m))) (sym t.0) had, t.1), subst (λ (n : ℕ). Acknowledges old new n) (sym t.0) t.2)
  tries_send peer from old new key m (NotReceived k) had t = ((m, subst (λ (n : ℕ). to_send peer from (Some (n, m))) (sym t.0) had), t.1)
  tries_send peer from old new key m (Unreachable k) had t = ((m, subst (λ (n : ℕ). to_send peer from (Some (n, m))) (sym t.0) had), t.1)
  tries_send peer from old new key m (Left k) had t = absurd t
  tries_send peer from old new key m NoMemory had t = t

  -- the message was tried, since its key is below that number
  pub tries_below : (end : ℕ) (peer : Node) (old new : SeatView) (key : ℕ) (m : Message) (sent : Sent) → key < end → Tries got peer m old new key sent → IsParted end sent
  tries_below end peer old new key m Nothing below t = absurd t
  tries_below end peer old new key m (Received k) below t = subst (λ (n : ℕ). n < end) (sym t.0) below
  tries_below end peer old new key m (NotReceived k) below t = subst (λ (n : ℕ). n < end) (sym t.0) below
  tries_below end peer old new key m (Unreachable k) below t = subst (λ (n : ℕ). n < end) (sym t.0) below
  tries_below end peer old new key m (Left k) below t = absurd t
  tries_below end peer old new key m NoMemory below t = tt

  -- one look of a pass
  looked :
      (peer : Node) (end from next : ℕ) (old seat new : SeatView) (sent : Sent) → from ≡ next → Sends to_send got peer from old seat sent → IsParted end sent → new ≡ record seat { notes = [] }
      → Looks to_send got peer end next old new sent
  looked peer end from next old seat new sent same sends parted forgot = record {
    seat = seat;
    sends = subst (λ (n : ℕ). Sends to_send got peer n old seat sent) same sends;
    parted = parted;
    forgot = forgot;
  }

  -- and one more try
  pub tried_more :
      (peer : Node) (end from key : ℕ) (first old seat new : SeatView) (sent : Sent) (tried : List ℕ) → from ≡ after_tries tried → TriesKeys to_send got peer end first old tried
      → Sends to_send got peer from old seat sent → IsParted end sent → new ≡ record seat { notes = [] } → (sent ≡ Received key) ⊎ (sent ≡ NotReceived key) → TriesKeys to_send got peer end first new (key ∷ tried)
  tried_more peer end from key first old seat new sent tried same tries sends parted forgot is =
      let look = looked peer end from (after_tries tried) old seat new sent same sends parted forgot in (
        old,
        elim is [
          | inl e ↦ inl (subst (λ (s : Sent). Looks to_send got peer end (after_tries tried) old new s) e look)
          | inr e ↦ inr (subst (λ (s : Sent). Looks to_send got peer end (after_tries tried) old new s) e look)
        ],
        tries,
      )

  -- the last look
  pub passed :
      (have_sent : ℕ → Type 0) (peer : Node) (end from : ℕ) (first old seat new : SeatView) (sent : Sent) (tried : List ℕ) (ended : PassEnd) → have_sent end → from ≡ after_tries tried
      → TriesKeys to_send got peer end first old tried → Sends to_send got peer from old seat sent → IsParted end sent → new ≡ record seat { notes = [] } → IsLast sent ended → Passes to_send got have_sent peer first new ended
  passed have_sent peer end from first old seat new sent tried ended began same tries sends parted forgot last = record {
    end = end;
    began = began;
    tried = tried;
    seat = old;
    tries = tries;
    sent = sent;
    looked = looked peer end from (after_tries tried) old seat new sent same sends parted forgot;
    last = last;
  }

-- the pass tried all of its messages
pub all_tried : (sent : Sent) → (sent ≡ Nothing) ⊎ ((key : ℕ) × (sent ≡ Left key)) → IsLast sent Done
all_tried sent is = elim is [
  | inl e ↦ subst (λ (s : Sent). IsLast s Done) (sym e) tt
  | inr left ↦ subst (λ (s : Sent). IsLast s Done) (sym left.1) tt
]
