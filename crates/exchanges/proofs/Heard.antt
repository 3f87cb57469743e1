-- The lines that a session has read so far, and how it goes on and ends.
use Rattle.std.proofs.Common.{◌≡◌, ℕ, ◌+◌, ◌*◌, List, [], ◌++◌, length, Option, refl, sym, ap, subst, ◌∙◌, arith, append-nil, length-append}
use Rattle.std.proofs.KnownBytes.{Appends-nil, Consumes-nil, Consumes-trans, Consumes-kept}
use Rattle.std.specs.Io.KnownBytes.{Consumes, Keeps}
use Rattle.std.specs.List.{AllByRecursion}
use Rattle.units.specs.Limits.{longest_line}
use Rattle.streams.specs.SplitterView.{SplitterView}
use Rattle.streams.specs.Lines.{stream_of, IsWithin}
use Rattle.streams.proofs.Streams.{stream_append, stream_join}
use Rattle.streams.specs.Calls.{GoesOn, most_interruptions}
use Rattle.exchanges.specs.Given.{Given, lines_of}
use Rattle.exchanges.specs.Pieces.{ServesPiece, open_with}
use Rattle.exchanges.specs.Sessions.{RepliesToAll, EndsBy, Serves}
use Rattle.exchanges.specs.CountedView.{CountedView}
use Rattle.exchanges.specs.declared.ends.SessionEnd.{SessionEnd}
use Rattle.exchanges.specs.declared.ends.SessionEnd.TheVariants as session
use Rattle.exchanges.specs.declared.pieces.PieceEnd.{PieceEnd}
use Rattle.exchanges.specs.declared.pieces.PieceEnd.TheVariants.{Replied, TooLong, Stopped, WriteFault, NoMemory}
use Rattle.exchanges.proofs.Replies.{lines_append, each_append, replies_length, replied_more, stops_more, cut_more, joined_more}

-- bytes that were held, and more bytes after them
bytes_more : (a b : List Given) (held piece rest : List ℕ) → held ++ piece ≡ stream_of (lines_of b) rest → stream_of (lines_of a) held ++ piece ≡ stream_of (lines_of (a ++ b)) rest
bytes_more a b held piece rest e =
    sym (stream_append (lines_of a) held piece) ∙ ap (λ (t : List ℕ). stream_of (lines_of a) t) e ∙ sym (stream_join (lines_of a) (lines_of b) rest)
    ∙ ap (λ (l : List (List ℕ)). stream_of l rest) (sym (lines_append a b))

each_more : (a b : List Given) → AllByRecursion (IsWithin longest_line) (lines_of a) → AllByRecursion (IsWithin longest_line) (lines_of b) → AllByRecursion (IsWithin longest_line) (lines_of (a ++ b))
each_more a b x y =
    subst (λ (l : List (List ℕ)). AllByRecursion (IsWithin longest_line) l) (sym (lines_append a b)) (each_append (IsWithin longest_line) (lines_of a) (lines_of b) x y)

module _ {R W : Type 0} (remaining : R → Option (List ℕ)) (contents : W → Option (List ℕ)) where
  -- lines were given and replied to, and these bytes followed them
  pub record Heard (r r' : CountedView R) (w w' : CountedView W) (old new : List Given) (rest : List ℕ) (written : ℕ) : Type 0 where
    pub given : List Given
    pub joined : new ≡ old ++ given
    pub read : Consumes (remaining r.inner) (remaining r'.inner) (stream_of (lines_of given) rest)
    pub each : AllByRecursion (IsWithin longest_line) (lines_of given)
    pub replied : RepliesToAll contents w w' given
    pub count : written ≡ 31 * length given

  pub heard_none : (r : CountedView R) (w : CountedView W) (old : List Given) → Heard r r w w old old [] 0
  heard_none r w old = record {
    given = [];
    joined = sym (append-nil old);
    read = Consumes-nil (remaining r.inner);
    each = tt;
    replied = record { wrote = Appends-nil (contents w.inner); sound = refl; running = tt };
    count = refl;
  }

  -- a call read nothing
  pub heard_kept : (r r0 r1 : CountedView R) (w w' : CountedView W) (old new : List Given) (rest : List ℕ) (written : ℕ) → Heard r r0 w w' old new rest written
      → Keeps (remaining r0.inner) (remaining r1.inner) → Heard r r1 w w' old new rest written
  heard_kept r r0 r1 w w' old new rest written h keeps = record {
    given = h.given;
    joined = h.joined;
    read = Consumes-kept _ _ _ _ h.read keeps;
    each = h.each;
    replied = h.replied;
    count = h.count;
  }

  -- a call read a piece, and each of its lines was replied to
  pub heard_more : (left left' : ℕ) (r r0 r1 : CountedView R) (w w1 w2 : CountedView W) (g0 g1 g2 : List Given) (held piece : List ℕ) (written n : ℕ) (new : SplitterView) → Heard r r0 w w1 g0 g1 held written
      → Consumes (remaining r0.inner) (remaining r1.inner) piece → ServesPiece contents left left' w1 w2 g1 g2 (held ++ piece) new (Replied n)
      → Heard r r1 w w2 g0 g2 new.rest (written + n * 31)
  heard_more left left' r r0 r1 w w1 w2 g0 g1 g2 held piece written n new h read p =
      let rest : new.rest ≡ p.rest = ap (λ (x : SplitterView). x.rest) p.ends.2 in
      let count = p.ends.1 in
      record {
        given = h.given ++ p.given;
        joined = joined_more g0 g1 g2 h.given p.given h.joined p.joined;
        read = subst (λ (t : List ℕ). Consumes (remaining r.inner) (remaining r1.inner) t)
            (bytes_more h.given p.given held piece p.rest p.whole ∙ ap (λ (t : List ℕ). stream_of (lines_of (h.given ++ p.given)) t) (sym rest)) (Consumes-trans _ _ _ _ _ h.read read);
        each = each_more h.given p.given h.each p.each;
        replied = replied_more contents w w1 w2 h.given p.given h.replied p.ends.0;
        count = omega (arith, h.count, count, length-append h.given p.given);
      }

  -- no more is read
  pub ends_there : (r r' : CountedView R) (w w' : CountedView W) (old new : List Given) (rest : List ℕ) (written : ℕ) (end : SessionEnd) → (h : Heard r r' w w' old new rest written)
      → (RepliesToAll contents w w' h.given → EndsBy remaining contents r r' w w' h.given rest end) → Serves remaining contents r r' w w' old new end
  ends_there r r' w w' old new rest written end h why = record {
    given = h.given;
    rest = rest;
    joined = h.joined;
    read = h.read;
    each = h.each;
    ends = why h.replied;
  }

  -- a call read a piece, and the session ended before its end
  pub ends_within : (left left' : ℕ) (r r0 r1 : CountedView R) (w w1 w2 : CountedView W) (g0 g1 g2 : List Given) (held piece : List ℕ) (written : ℕ) (new : SplitterView) (end : PieceEnd) (last : SessionEnd)
      → (h : Heard r r0 w w1 g0 g1 held written) → Consumes (remaining r0.inner) (remaining r1.inner) piece → (p : ServesPiece contents left left' w1 w2 g1 g2 (held ++ piece) new end)
      → EndsBy remaining contents r r1 w w2 (h.given ++ p.given) p.rest last → Serves remaining contents r r1 w w2 g0 g2 last
  ends_within left left' r r0 r1 w w1 w2 g0 g1 g2 held piece written new end last h read p ends = record {
    given = h.given ++ p.given;
    rest = p.rest;
    joined = joined_more g0 g1 g2 h.given p.given h.joined p.joined;
    read = subst (λ (t : List ℕ). Consumes (remaining r.inner) (remaining r1.inner) t) (bytes_more h.given p.given held piece p.rest p.whole) (Consumes-trans _ _ _ _ _ h.read read);
    each = each_more h.given p.given h.each p.each;
    ends = ends;
  }

  pub ends_too_long : (left left' : ℕ) (r r0 r1 : CountedView R) (w w1 w2 : CountedView W) (g0 g1 g2 : List Given) (held piece : List ℕ) (written : ℕ) (new : SplitterView) → Heard r r0 w w1 g0 g1 held written
      → Consumes (remaining r0.inner) (remaining r1.inner) piece → r1.calls.failures ≡ r.calls.failures → ServesPiece contents left left' w1 w2 g1 g2 (held ++ piece) new TooLong
      → Serves remaining contents r r1 w w2 g0 g2 session.TooLong
  ends_too_long left left' r r0 r1 w w1 w2 g0 g1 g2 held piece written new h read sound p =
      ends_within left left' r r0 r1 w w1 w2 g0 g1 g2 held piece written new TooLong session.TooLong h read p
      (replied_more contents w w1 w2 h.given p.given h.replied p.ends.0, sound, p.ends.1, p.ends.2)

  pub ends_stopped : (left left' : ℕ) (r r0 r1 : CountedView R) (w w1 w2 : CountedView W) (g0 g1 g2 : List Given) (held piece : List ℕ) (written : ℕ) (new : SplitterView) → Heard r r0 w w1 g0 g1 held written
      → Consumes (remaining r0.inner) (remaining r1.inner) piece → r1.calls.failures ≡ r.calls.failures → ServesPiece contents left left' w1 w2 g1 g2 (held ++ piece) new Stopped
      → Serves remaining contents r r1 w w2 g0 g2 session.Stopped
  ends_stopped left left' r r0 r1 w w1 w2 g0 g1 g2 held piece written new h read sound p =
      ends_within left left' r r0 r1 w w1 w2 g0 g1 g2 held piece written new Stopped session.Stopped h read p
      (stops_more contents w w1 w2 h.given p.given h.replied p.ends, sound)

  pub ends_no_memory : (left left' : ℕ) (r r0 r1 : CountedView R) (w w1 w2 : CountedView W) (g0 g1 g2 : List Given) (held piece : List ℕ) (written : ℕ) (new : SplitterView) → Heard r r0 w w1 g0 g1 held written
      → Consumes (remaining r0.inner) (remaining r1.inner) piece → r1.calls.failures ≡ r.calls.failures → ServesPiece contents left left' w1 w2 g1 g2 (held ++ piece) new NoMemory
      → Serves remaining contents r r1 w w2 g0 g2 session.NoMemory
  ends_no_memory left left' r r0 r1 w w1 w2 g0 g1 g2 held piece written new h read sound p =
      ends_within left left' r r0 r1 w w1 w2 g0 g1 g2 held piece written new NoMemory session.NoMemory h read p
      (replied_more contents w w1 w2 h.given p.given h.replied p.ends, sound)

  pub ends_cut : (left left' : ℕ) (r r0 r1 : CountedView R) (w w1 w2 : CountedView W) (g0 g1 g2 : List Given) (held piece : List ℕ) (written n : ℕ) (new : SplitterView) → Heard r r0 w w1 g0 g1 held written
      → Consumes (remaining r0.inner) (remaining r1.inner) piece → r1.calls.failures ≡ r.calls.failures → GoesOn most_interruptions left w.calls w1.calls
      → ServesPiece contents left left' w1 w2 g1 g2 (held ++ piece) new (WriteFault n) → Serves remaining contents r r1 w w2 g0 g2 (session.WriteFault (written + n))
  ends_cut left left' r r0 r1 w w1 w2 g0 g1 g2 held piece written n new h read sound goes p =
      ends_within left left' r r0 r1 w w1 w2 g0 g1 g2 held piece written new (WriteFault n) (session.WriteFault (written + n)) h read p
      (cut_more contents most_interruptions left w w1 w2 h.given p.given n (written + n) (omega (arith, h.count, replies_length h.given)) goes h.replied p.ends, sound)

-- a splitter that holds the bytes after the lines
pub takes_more : (new : SplitterView) (rest : List ℕ) → new ≡ open_with rest → new ≡ open_with new.rest
takes_more new rest e = e ∙ ap open_with (sym (ap (λ (h : SplitterView). h.rest) e))

pub holds_within : (new : SplitterView) (rest : List ℕ) → new ≡ open_with rest → IsWithin longest_line rest → IsWithin longest_line new.rest
holds_within new rest e within = subst (λ (t : List ℕ). IsWithin longest_line t) (sym (ap (λ (h : SplitterView). h.rest) e)) within
