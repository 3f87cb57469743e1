-- A session that ended with its stream, whose reader another one holds.
use Rattle.std.proofs.Common.{◌≡◌, ℕ, List, [], Option, subst}
use Rattle.std.specs.Io.KnownBytes.{Appends, Consumes}
use Rattle.streams.specs.Lines.{stream_of}
use Rattle.exchanges.specs.CountedView.{CountedView}
use Rattle.exchanges.specs.Given.{Given, lines_of, replies_text}
use Rattle.exchanges.specs.Sessions.{Serves}
use Rattle.exchanges.specs.declared.ends.SessionEnd.TheVariants.{PeerEnded}
use Rattle.sessions.specs.Serving.{IsRepliedTo}

module _ {V R W : Type 0} (held : V → R) (remaining : R → Option (List ℕ)) (contents : W → Option (List ℕ)) where
  pub replied_to :
      (v v' : CountedView V) (w w' : CountedView W) (old new : List Given) (r : R) (x : W) → held v.inner ≡ r → w.inner ≡ x
      → Serves (λ (u : V). remaining (held u)) contents v v' w w' old new PeerEnded → IsRepliedTo remaining contents r x (held v'.inner) w'.inner
  replied_to v v' w w' old new r x same_r same_x s = record {
    given = s.given;
    read =
        subst (λ (first : R). Consumes (remaining first) (remaining (held v'.inner)) (stream_of (lines_of s.given) [])) same_r (
        subst (λ (rest : List ℕ). Consumes (remaining (held v.inner)) (remaining (held v'.inner)) (stream_of (lines_of s.given) rest)) s.ends.2 s.read
        );
    ended = s.ends.3;
    wrote = subst (λ (first : W). Appends (contents first) (contents w'.inner) (replies_text s.given)) same_x s.ends.0.wrote;
    running = s.ends.0.running;
  }
