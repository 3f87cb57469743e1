-- One turn after another.
use Rattle.std.proofs.Common.{◌≡◌, ◌∙◌, ◌+◌, ℕ, true, List, [], ◌∷◌, ◌++◌, Option, length, All, refl, sym, ap, subst, arith, append-nil, append_assoc, length-append}
use Rattle.std.proofs.KnownBytes.{Appends-nil, Appends-trans, Consumes-nil, Consumes-trans}
use Rattle.std.proofs.lemmas.List.Elements.{All-append, All-cons, All-nil, All-weaker}
use Rattle.std.specs.Io.KnownBytes.{Appends}
use Rattle.streams.specs.Lines.{stream_of}
use Rattle.streams.proofs.Streams.{stream_append, stream_join}
use Rattle.units.specs.declared.code.Node.{Node}
use Rattle.protocol.specs.Input.{Input}
use Rattle.protocol.specs.Input.TheVariants.{CleanUp}
use Rattle.protocol.specs.Moment.{Moment}
use Rattle.protocol.specs.Scheme.{Scheme}
use Rattle.node_state.specs.Views.{SeatView}
use Rattle.node_state.specs.declared.notes.Asked.{Asked}
use Rattle.node_state.specs.declared.notes.Told.{Told}
use Rattle.input_lines.specs.declared.instruction.Instruction.{Instruction}
use Rattle.input_lines.specs.declared.instruction.Instruction.TheVariants.{Order}
use Rattle.input_lines.specs.declared.script_line.ScriptLine.{ScriptLine}
use Rattle.serving.specs.Answers.{answer_line, asked_by, is_possible}
use Rattle.serving.specs.Heard.{HasHeard}
use Rattle.serving.specs.Orders.{HasOrders}
use Rattle.serving.specs.declared.answer.ScriptAnswer.{ScriptAnswer}
use Rattle.serving.specs.declared.answer.ScriptAnswer.TheVariants.{NotPossible, Told as Answered}
use Rattle.serving.proofs.Hearing.{grows_on, heard_on, same_seat}
use Rattle.serving.proofs.Ordering.{has_asked}
use Rattle.one_node.specs.Operating.{AddsTurns, Follows, Hears, IsAnswered, IsAsked, IsRead, Talks, held_nowhere}
use Rattle.one_node.specs.Turns.{IsAnswer, IsCarried, IsTurn, Turn, Line, Unread, Exported, Timed, answers_of, answers_text, export_line, fault_line, line_to, lines_of, raw_lines}
use Rattle.one_node.specs.declared.answering.OperatorFault.TheVariants as faults
use Rattle.one_node.specs.declared.evidence.Evidence.{Evidence}
use Rattle.one_node.proofs.Forgetting.{follows_none, whole_asked}

-- ---- turns after turns

pub lines_append : (n : Node) (ts us : List Turn) → lines_of n (ts ++ us) ≡ lines_of n ts ++ lines_of n us
lines_append n [] us = refl
lines_append n (Line raw i a ∷ ts) us = ap (λ (ls : List ScriptLine). line_to n i ∷ ls) (lines_append n ts us)
lines_append n (Unread raw fault ∷ ts) us = lines_append n ts us
lines_append n (Exported raw count ∷ ts) us = lines_append n ts us
lines_append n (Timed m told ∷ ts) us = ap (λ (ls : List ScriptLine). line_to n (Order (CleanUp m)) ∷ ls) (lines_append n ts us)

pub answers_append : (ts us : List Turn) → answers_of (ts ++ us) ≡ answers_of ts ++ answers_of us
answers_append [] us = refl
answers_append (Line raw i a ∷ ts) us = ap (λ (given : List ScriptAnswer). a ∷ given) (answers_append ts us)
answers_append (Unread raw fault ∷ ts) us = answers_append ts us
answers_append (Exported raw count ∷ ts) us = answers_append ts us
answers_append (Timed m told ∷ ts) us = ap (λ (given : List ScriptAnswer). Answered told ∷ given) (answers_append ts us)

raws_append : (ts us : List Turn) → raw_lines (ts ++ us) ≡ raw_lines ts ++ raw_lines us
raws_append [] us = refl
raws_append (Line raw i a ∷ ts) us = ap (λ (ls : List (List ℕ)). raw ∷ ls) (raws_append ts us)
raws_append (Unread raw fault ∷ ts) us = ap (λ (ls : List (List ℕ)). raw ∷ ls) (raws_append ts us)
raws_append (Exported raw count ∷ ts) us = ap (λ (ls : List (List ℕ)). raw ∷ ls) (raws_append ts us)
raws_append (Timed m told ∷ ts) us = raws_append ts us

texts_append : (k : ℕ) (ts us : List Turn) → answers_text k (ts ++ us) ≡ answers_text k ts ++ answers_text (k + length (raw_lines ts)) us
texts_append k [] us =
    let none : k ≡ k + length (raw_lines []) = omega arith in
    ap (λ (n : ℕ). answers_text n us) none
texts_append k (Line raw i a ∷ ts) us =
    let one : (k + 1) + length (raw_lines ts) ≡ k + length (raw_lines (Line raw i a ∷ ts)) = omega arith in
    ap (λ (xs : List ℕ). answer_line k a ++ xs) (texts_append (k + 1) ts us ∙ ap (λ (n : ℕ). answers_text (k + 1) ts ++ answers_text n us) one)
    ∙ sym (append_assoc (answer_line k a) (answers_text (k + 1) ts) (answers_text (k + length (raw_lines (Line raw i a ∷ ts))) us))
texts_append k (Unread raw fault ∷ ts) us =
    let one : (k + 1) + length (raw_lines ts) ≡ k + length (raw_lines (Unread raw fault ∷ ts)) = omega arith in
    ap (λ (xs : List ℕ). fault_line k fault ++ xs) (texts_append (k + 1) ts us ∙ ap (λ (n : ℕ). answers_text (k + 1) ts ++ answers_text n us) one)
    ∙ sym (append_assoc (fault_line k fault) (answers_text (k + 1) ts) (answers_text (k + length (raw_lines (Unread raw fault ∷ ts))) us))
texts_append k (Exported raw count ∷ ts) us =
    let one : (k + 1) + length (raw_lines ts) ≡ k + length (raw_lines (Exported raw count ∷ ts)) = omega arith in
    ap (λ (xs : List ℕ). export_line k count ++ xs) (texts_append (k + 1) ts us ∙ ap (λ (n : ℕ). answers_text (k + 1) ts ++ answers_text n us) one)
    ∙ sym (append_assoc (export_line k count) (answers_text (k + 1) ts) (answers_text (k + length (raw_lines (Exported raw count ∷ ts))) us))
texts_append k (Timed m told ∷ ts) us = texts_append k ts us

pub as_many : (n : Node) (ts : List Turn) → length (answers_of ts) ≡ length (lines_of n ts)
as_many n [] = refl
as_many n (Line raw i a ∷ ts) = omega (arith, as_many n ts)
as_many n (Unread raw fault ∷ ts) = as_many n ts
as_many n (Exported raw count ∷ ts) = as_many n ts
as_many n (Timed m told ∷ ts) = omega (arith, as_many n ts)

-- ---- the lines that were read

pub read_on : (begun left last : List ℕ) (r s t : Option (List ℕ)) (ts us : List Turn) → IsRead begun r s ts left → IsRead left s t us last → IsRead begun r t (ts ++ us) last
read_on begun left last r s t ts us a b = record {
  read = a.read ++ b.read;
  consumed = Consumes-trans _ _ _ _ _ a.consumed b.consumed;
  lines = sym (append_assoc begun a.read b.read) ∙ (ap (λ (xs : List ℕ). xs ++ b.read) a.lines ∙ (sym (stream_append (raw_lines ts) left b.read)
      ∙ (ap (stream_of (raw_lines ts)) b.lines ∙ (sym (stream_join (raw_lines ts) (raw_lines us) last) ∙ ap (λ (ls : List (List ℕ)). stream_of ls last) (sym (raws_append ts us))))));
}

-- ---- the results that were written

pub answered_on : (k m n : ℕ) (v w x : Option (List ℕ)) (ts us : List Turn) → IsAnswered k v w ts m → IsAnswered m w x us n → IsAnswered k v x (ts ++ us) n
answered_on k m n v w x ts us a b =
    let first : (k + 1) + length (raw_lines ts) ≡ m + 1 = omega (arith, a.counts) in
    let both : length (raw_lines (ts ++ us)) ≡ length (raw_lines ts) + length (raw_lines us) = ap length (raws_append ts us) ∙ length-append (raw_lines ts) (raw_lines us) in
    record {
      written = subst (Appends v x) (sym (texts_append (k + 1) ts us ∙ ap (λ (i : ℕ). answers_text (k + 1) ts ++ answers_text i us) first)) (Appends-trans v w x (answers_text (k + 1) ts) (answers_text (m + 1) us) a.written b.written);
      counts = omega (arith, a.counts, b.counts, both);
    }

-- ---- the results that the seat noted

module _ (scheme : Scheme) (n : Node) (tells : Moment → Type 0) where
  answer_as : (F G : Asked → Told → Type 0) → ((asked : Asked) (told : Told) → F asked told → G asked told) → (i : Instruction) (a : ScriptAnswer) → IsAnswer scheme n F i a → IsAnswer scheme n G i a
  answer_as F G more i NotPossible is = is
  answer_as F G more i (Answered told) is = (is.0, more _ told is.1)

  -- the same with more known behind each turn
  module _ (F G : Asked → Told → Type 0) (more : (asked : Asked) (told : Told) → F asked told → G asked told) (C D : List ℕ → ℕ → Type 0) (carry : (raw : List ℕ) (count : ℕ) → C raw count → D raw count) where
    turn_as : (t : Turn) → IsTurn scheme n F tells C t → IsTurn scheme n G tells D t
    turn_as (Line raw i a) is = (is.0, answer_as F G more i a is.1, is.2)
    turn_as (Unread raw faults.Order) is = is
    turn_as (Unread raw faults.TooLong) is = is
    turn_as (Unread raw faults.Export) is = is
    turn_as (Unread raw faults.Moment) is = is
    turn_as (Exported raw count) is = carry raw count is
    turn_as (Timed m told) is = (is.0, is.1, more _ told is.2)

    pub turns_as : (ts : List Turn) → All (IsTurn scheme n F tells C) ts → All (IsTurn scheme n G tells D) ts
    turns_as ts all = All-weaker (IsTurn scheme n F tells C) (IsTurn scheme n G tells D) turn_as ts all

-- the records that were exported stand at the front of every longer journal
pub carried_more : (Holds : List ℕ → List Input → Type 0) (b c more : List Input) → c ≡ b ++ more → (line : List ℕ) (count : ℕ) → IsCarried Holds b line count → IsCarried Holds c line count
carried_more Holds b c more is line count carried = record {
  path = carried.path;
  asks = carried.asks;
  records = carried.records;
  holds = carried.holds;
  rest = carried.rest ++ more;
  first = is ∙ (ap (λ (j : List Input). j ++ more) carried.first ∙ append_assoc carried.records carried.rest more);
  counts = carried.counts;
}

module _ (scheme : Scheme) (n : Node) (tells : Moment → Type 0) (Holds : List ℕ → List Input → Type 0) where
  nothing_added : (journal : List Input) (seat : SeatView) → AddsTurns scheme n tells Holds [] journal seat seat
  nothing_added journal seat = record {
    grows = same_seat seat;
    heard = All-nil (IsTurn scheme n (HasHeard seat) tells (IsCarried Holds journal));
    orders = λ ls given len has. subst (λ (xs : List ScriptLine). HasOrders n xs (given ++ []) seat) (sym (append-nil ls)) (subst (λ (xs : List ScriptAnswer). HasOrders n ls xs seat) (sym (append-nil given)) has);
  }

  -- further records were followed
  pub hears_followed : (old new : Evidence) → Follows old new → Hears scheme n tells Holds old [] new
  hears_followed old new f = record {
    more = f.more;
    journal_is = f.journal_is;
    hears = λ before whole. (before, f.whole scheme n before whole, nothing_added new.replica.journal before);
  }

  pub hears_none : (e : Evidence) → Hears scheme n tells Holds e [] e
  hears_none e = hears_followed e e (follows_none e)

  adds_on : (b c more : List Input) (x y z : SeatView) (ts us : List Turn) → c ≡ b ++ more → AddsTurns scheme n tells Holds ts b x y → AddsTurns scheme n tells Holds us c y z → AddsTurns scheme n tells Holds (ts ++ us) c x z
  adds_on b c more x y z ts us longer f g = record {
    grows = grows_on x y z f.grows g.grows;
    heard = All-append (IsTurn scheme n (HasHeard z) tells (IsCarried Holds c)) ts us
        (turns_as scheme n tells (HasHeard y) (HasHeard z) (λ asked told h. heard_on y z asked told g.grows h) (IsCarried Holds b) (IsCarried Holds c) (carried_more Holds b c more longer) ts f.heard) g.heard;
    orders = λ ls given len has.
        subst (λ (xs : List ScriptLine). HasOrders n xs (given ++ answers_of (ts ++ us)) z) (append_assoc ls (lines_of n ts) (lines_of n us) ∙ ap (λ (xs : List ScriptLine). ls ++ xs) (sym (lines_append n ts us)))
        (subst (λ (xs : List ScriptAnswer). HasOrders n ((ls ++ lines_of n ts) ++ lines_of n us) xs z) (append_assoc given (answers_of ts) (answers_of us) ∙ ap (λ (xs : List ScriptAnswer). given ++ xs) (sym (answers_append ts us)))
        (g.orders (ls ++ lines_of n ts) (given ++ answers_of ts) (let a = length-append ls (lines_of n ts) in let b = length-append given (answers_of ts) in let m = as_many n ts in omega (arith, a, b, m, len)) (f.orders ls given len has)));
  }

  pub hears_on : (a b c : Evidence) (ts us : List Turn) → Hears scheme n tells Holds a ts b → Hears scheme n tells Holds b us c → Hears scheme n tells Holds a (ts ++ us) c
  hears_on a b c ts us f g = record {
    more = f.more ++ g.more;
    journal_is = g.journal_is ∙ (ap (λ (j : List Input). j ++ g.more) f.journal_is ∙ append_assoc a.replica.journal f.more g.more);
    hears = λ before whole.
        let first = f.hears before whole in
        let last = g.hears first.0 first.1 in
        (last.0, last.1, adds_on b.replica.journal c.replica.journal g.more before first.0 last.0 ts us g.journal_is first.2 last.2);
  }

  -- a turn for which an instruction was asked
  pub hears_asked : (e : Evidence) (new : SeatView) (i : Instruction) (told : Told) (t : Turn) → IsAsked i e.seat new told → is_possible scheme n i ≡ true → lines_of n (t ∷ []) ≡ line_to n i ∷ [] → answers_of (t ∷ []) ≡ Answered told ∷ []
      → ((seat : SeatView) → HasHeard seat (asked_by i) told → IsTurn scheme n (HasHeard seat) tells (IsCarried Holds e.replica.journal) t) → Hears scheme n tells Holds e (t ∷ []) (record e { seat = new })
  hears_asked e new i told t asked possible lines answers is = record {
    more = [];
    journal_is = sym (append-nil e.replica.journal);
    hears = λ before whole.
        let after = whole_asked scheme n e new i told before asked whole in (
          after.0,
          after.1,
          record {
            grows = after.2.grows;
            heard = All-cons (IsTurn scheme n (HasHeard after.0) tells (IsCarried Holds e.replica.journal)) t [] (is after.0 after.2.heard) (All-nil (IsTurn scheme n (HasHeard after.0) tells (IsCarried Holds e.replica.journal)));
            orders = λ ls given len has.
                subst (λ (xs : List ScriptLine). HasOrders n (ls ++ xs) (given ++ answers_of (t ∷ [])) after.0) (sym lines) (subst (λ (xs : List ScriptAnswer). HasOrders n (ls ++ line_to n i ∷ []) (given ++ xs) after.0) (sym answers)
                (has_asked scheme n ls given (line_to n i) len told before after.0 refl possible after.2.adds after.2.notes has));
          },
        );
  }

  -- a turn for which nothing was asked
  pub hears_unasked : (e : Evidence) (t : Turn) → ((seat : SeatView) → IsTurn scheme n (HasHeard seat) tells (IsCarried Holds e.replica.journal) t)
      → ((ls : List ScriptLine) (given : List ScriptAnswer) (seat : SeatView) → length given ≡ length ls → HasOrders n ls given seat → HasOrders n (ls ++ lines_of n (t ∷ [])) (given ++ answers_of (t ∷ [])) seat) → Hears scheme n tells Holds e (t ∷ []) e
  hears_unasked e t is step = record {
    more = [];
    journal_is = sym (append-nil e.replica.journal);
    hears = λ before whole. (
      before,
      whole,
      record {
        grows = same_seat before;
        heard = All-cons (IsTurn scheme n (HasHeard before) tells (IsCarried Holds e.replica.journal)) t [] (is before) (All-nil (IsTurn scheme n (HasHeard before) tells (IsCarried Holds e.replica.journal)));
        orders = λ ls given len has. step ls given before len has;
      },
    );
  }

  pub talks_on : (begun left last : List ℕ) (r s t v w x : Option (List ℕ)) (k m j : ℕ) (a b c : Evidence) → Talks scheme n tells Holds begun r s v w k m a b left → Talks scheme n tells Holds left s t w x m j b c last
      → Talks scheme n tells Holds begun r t v x k j a c last
  talks_on begun left last r s t v w x k m j a b c f g = record {
    turns = f.turns ++ g.turns;
    read = read_on begun left last r s t f.turns g.turns f.read g.read;
    answered = answered_on k m j v w x f.turns g.turns f.answered g.answered;
    hears = hears_on a b c f.turns g.turns f.hears g.hears;
  }

  -- nothing was read or written, and further records were followed
  pub talks_followed : (begun : List ℕ) (r v : Option (List ℕ)) (k : ℕ) (old new : Evidence) → Follows old new → Talks scheme n tells Holds begun r r v v k k old new begun
  talks_followed begun r v k old new f = record {
    turns = [];
    read = record { read = []; consumed = Consumes-nil r; lines = append-nil begun };
    answered = record { written = Appends-nil v; counts = omega arith };
    hears = hears_followed old new f;
  }

  pub talks_none : (begun : List ℕ) (r v : Option (List ℕ)) (k : ℕ) (e : Evidence) → Talks scheme n tells Holds begun r r v v k k e e begun
  talks_none begun r v k e = talks_followed begun r v k e e (follows_none e)

-- if nothing was exported, the same holds with anything known of files
pub talks_as : (scheme : Scheme) (n : Node) (tells : Moment → Type 0) (Holds : List ℕ → List Input → Type 0) (begun : List ℕ) (r s v w : Option (List ℕ)) (count counted : ℕ) (old new : Evidence) (left : List ℕ)
    → Talks scheme n tells held_nowhere begun r s v w count counted old new left → Talks scheme n tells Holds begun r s v w count counted old new left
talks_as scheme n tells Holds begun r s v w count counted old new left talks = record {
  turns = talks.turns;
  read = talks.read;
  answered = talks.answered;
  hears = record {
    more = talks.hears.more;
    journal_is = talks.hears.journal_is;
    hears = λ before whole.
        let did = talks.hears.hears before whole in
        let journal = new.replica.journal in (
          did.0,
          did.1,
          record {
            grows = did.2.grows;
            heard = turns_as scheme n tells (HasHeard did.0) (HasHeard did.0) (λ asked told h. h) (IsCarried held_nowhere journal) (IsCarried Holds journal) (λ line exported carried. absurd carried.holds) talks.turns did.2.heard;
            orders = did.2.orders;
          },
        );
  };
}
