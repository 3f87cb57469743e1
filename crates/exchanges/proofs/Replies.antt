-- Lines and replies one after another.
use Rattle.std.proofs.Common.{◌≡◌, ℕ, ◌+◌, ◌*◌, ◌<◌, ◌≤◌, List, [], ◌∷◌, ◌++◌, length, take, map, Option, refl, sym, ap, subst, ◌∙◌, arith, append_assoc, length-append, inl, inr}
use Rattle.std.proofs.lemmas.List.{map-append}
use Rattle.std.proofs.Math.Seq.{take-add, take-append_seam, drop-append_seam}
use Rattle.std.proofs.KnownBytes.{Appends-trans}
use Rattle.std.specs.Io.KnownBytes.{Appends}
use Rattle.std.specs.List.{AllByRecursion}
use Rattle.streams.specs.Lines.{stream_of}
use Rattle.wire.specs.Replies.{reply_text}
use Rattle.wire.specs.declared.reply.Reply.{Reply}
use Rattle.wire.specs.declared.reply.Reply.TheVariants.{Received, Refused}
use Rattle.streams.proofs.Streams.{stream_append, stream_join}
use Rattle.wire.proofs.ReplyTexts.{text_received, text_refused}
use Rattle.streams.specs.Calls.{FailsAfter, GoesOn, next}
use Rattle.streams.specs.declared.calls.Calls.{Calls}
use Rattle.exchanges.specs.Given.{Given, lines_of, replies_text, NoneStopped}
use Rattle.exchanges.specs.Sessions.{RepliesToAll, RepliesToTheStop, RepliesCutShort}
use Rattle.exchanges.specs.CountedView.{CountedView}

-- ---- lists of lines

-- each line takes its newline at least
pub lines_short : (ls : List (List ℕ)) (rest : List ℕ) → length ls ≤ length (stream_of ls rest)
lines_short [] rest = omega arith
lines_short (l ∷ ls) rest = let more = lines_short ls rest in omega (arith, more, length-append l (10 ∷ stream_of ls rest))

pub each_append : (P : List ℕ → Type 0) (ls ms : List (List ℕ)) → AllByRecursion P ls → AllByRecursion P ms → AllByRecursion P (ls ++ ms)
each_append P [] ms a b = b
each_append P (l ∷ ls) ms a b = (a.0, each_append P ls ms a.1 b)

pub each_front : (P : List ℕ → Type 0) (ls ms : List (List ℕ)) → AllByRecursion P (ls ++ ms) → AllByRecursion P ls
each_front P [] ms a = tt
each_front P (l ∷ ls) ms a = (a.0, each_front P ls ms a.1)

-- ---- lists of given lines, with more after them

pub joined_more : (g0 g1 g2 a b : List Given) → g1 ≡ g0 ++ a → g2 ≡ g1 ++ b → g2 ≡ g0 ++ (a ++ b)
joined_more g0 g1 g2 a b x y = y ∙ ap (λ (t : List Given). t ++ b) x ∙ append_assoc g0 a b

pub lines_append : (a b : List Given) → lines_of (a ++ b) ≡ lines_of a ++ lines_of b
lines_append a b = map-append (λ (g : Given). g.line) a b

pub lines_length : (a : List Given) → length (lines_of a) ≡ length a
lines_length [] = refl
lines_length (g ∷ a) = let more = lines_length a in omega (arith, more)

pub replies_append : (a b : List Given) → replies_text (a ++ b) ≡ replies_text a ++ replies_text b
replies_append a b =
    let text : Given → List ℕ = λ g. reply_text g.reply in
    ap (λ (ls : List (List ℕ)). stream_of ls []) (map-append text a b) ∙ stream_join (map text a) (map text b) [] ∙ stream_append (map text a) [] (stream_of (map text b) [])

reply_length : (r : Reply) → length (reply_text r) ≡ 30
reply_length Received = sym (ap length text_received)
reply_length (Refused code) = sym (ap length (text_refused code))

pub replies_length : (a : List Given) → length (replies_text a) ≡ 31 * length a
replies_length [] = refl
replies_length (g ∷ a) =
    let more = replies_length a in
    let one = reply_length g.reply in
    omega (arith, more, one, length-append (reply_text g.reply) (10 ∷ replies_text a))

pub none_append : (a b : List Given) → NoneStopped a → NoneStopped b → NoneStopped (a ++ b)
none_append [] b x y = y
none_append (g ∷ a) b x y = (x.0, none_append a b x.1 y)

take_over : (xs ys : List ℕ) (n : ℕ) → take (length xs + n) (xs ++ ys) ≡ xs ++ take n ys
take_over xs ys n = take-add (length xs) n (xs ++ ys) ∙ rw (take-append_seam, drop-append_seam) refl

-- ---- calls one after another

pub goes_more : (a b c : ℕ) (t0 t1 t2 : Calls) → GoesOn a b t0 t1 → GoesOn b c t1 t2 → GoesOn a c t0 t2
goes_more a b c t0 t1 t2 x y = record { sound = y.sound ∙ x.sound; spared = y.spared ∙ x.spared }

pub fails_more : (a b : ℕ) (t0 t1 t2 : Calls) → GoesOn a b t0 t1 → FailsAfter b t1 t2 → FailsAfter a t0 t2
fails_more a b t0 t1 t2 x (inl failed) = inl (failed ∙ ap next x.sound)
fails_more a b t0 t1 t2 x (inr cut) = inr (cut.0 ∙ x.sound, cut.1 ∙ x.spared)

module _ {W : Type 0} (contents : W → Option (List ℕ)) where
  joins : (w0 w1 w2 : CountedView W) (a b : List Given) → Appends (contents w0.inner) (contents w1.inner) (replies_text a) → Appends (contents w1.inner) (contents w2.inner) (replies_text b)
      → Appends (contents w0.inner) (contents w2.inner) (replies_text (a ++ b))
  joins w0 w1 w2 a b x y =
      subst (λ (t : List ℕ). Appends (contents w0.inner) (contents w2.inner) t) (sym (replies_append a b)) (Appends-trans _ _ _ _ _ x y)

  pub replied_more : (w0 w1 w2 : CountedView W) (a b : List Given) → RepliesToAll contents w0 w1 a → RepliesToAll contents w1 w2 b → RepliesToAll contents w0 w2 (a ++ b)
  replied_more w0 w1 w2 a b x y = record {
    wrote = joins w0 w1 w2 a b x.wrote y.wrote;
    sound = y.sound ∙ x.sound;
    running = none_append a b x.running y.running;
  }

  pub stops_more : (w0 w1 w2 : CountedView W) (a b : List Given) → RepliesToAll contents w0 w1 a → RepliesToTheStop contents w1 w2 b → RepliesToTheStop contents w0 w2 (a ++ b)
  stops_more w0 w1 w2 a b x y = record {
    earlier = a ++ y.earlier;
    last = y.last;
    whole = ap (λ (t : List Given). a ++ t) y.whole ∙ sym (append_assoc a y.earlier (y.last ∷ []));
    wrote = joins w0 w1 w2 a b x.wrote y.wrote;
    sound = y.sound ∙ x.sound;
    running = none_append a y.earlier x.running y.running;
    stopped = y.stopped;
  }

  pub cut_more : (most left : ℕ) (w0 w1 w2 : CountedView W) (a b : List Given) (n m : ℕ) → m ≡ length (replies_text a) + n → GoesOn most left w0.calls w1.calls
      → RepliesToAll contents w0 w1 a → RepliesCutShort contents left w1 w2 b n → RepliesCutShort contents most w0 w2 (a ++ b) m
  cut_more most left w0 w1 w2 a b n m e goes x y =
      let whole : length (replies_text (a ++ b)) ≡ length (replies_text a) + length (replies_text b) = ap length (replies_append a b) ∙ length-append (replies_text a) (replies_text b) in
      let before : length (replies_text (a ++ y.earlier)) ≡ length (replies_text a) + length (replies_text y.earlier) =
      ap length (replies_append a y.earlier) ∙ length-append (replies_text a) (replies_text y.earlier) in
      let low = y.earlier_written in
      let high = y.wrote.0 in
      let front : take m (replies_text (a ++ b)) ≡ replies_text a ++ take n (replies_text b) =
      ap (λ (k : ℕ). take k (replies_text (a ++ b))) e ∙ ap (take (length (replies_text a) + n)) (replies_append a b) ∙ take_over (replies_text a) (replies_text b) n in
      record {
        earlier = a ++ y.earlier;
        last = y.last;
        whole = ap (λ (t : List Given). a ++ t) y.whole ∙ sym (append_assoc a y.earlier (y.last ∷ []));
        running = none_append a y.earlier x.running y.running;
        earlier_written = omega (arith, before, low, e);
        wrote = (
          omega (arith, whole, high, e),
          subst (λ (t : List ℕ). Appends (contents w0.inner) (contents w2.inner) t) (sym front) (Appends-trans _ _ _ _ _ x.wrote y.wrote.1),
          fails_more most left w0.calls w1.calls w2.calls goes y.wrote.2,
        );
      }

  -- a part of the last reply only
  pub cut_below : (most : ℕ) (w w' : CountedView W) (a : List Given) (n : ℕ) → RepliesCutShort contents most w w' a n → n < 31 * length a
  cut_below most w w' a n x = let high = x.wrote.0 in omega (arith, high, replies_length a)
