-- Lines that were all replied to, and more lines after them.
use Rattle.std.proofs.Common.{◌≡◌, ℕ, ◌+◌, ◌*◌, ◌<◌, List, [], ◌++◌, length, Option, refl, sym, ap, ◌∙◌, arith, append_assoc, append-nil, length-append}
use Rattle.streams.specs.Calls.{GoesOn}
use Rattle.exchanges.specs.Given.{Given, lines_of, replies_text}
use Rattle.exchanges.specs.Sessions.{RepliesToAll}
use Rattle.exchanges.specs.Pieces.{ServesLines}
use Rattle.exchanges.specs.CountedView.{CountedView}
use Rattle.exchanges.specs.declared.replying.LinesEnd.TheVariants.{AllReplied, Stopped, WriteFault, NoMemory}
use Rattle.exchanges.proofs.Replies.{lines_append, lines_length, replies_length, replied_more, stops_more, cut_more, cut_below, joined_more}

module _ {W : Type 0} (contents : W → Option (List ℕ)) where
  -- these lines were given and replied to
  pub record Served (w w' : CountedView W) (old new : List Given) (lines : List (List ℕ)) : Type 0 where
    pub given : List Given
    pub joined : new ≡ old ++ given
    pub exact : lines ≡ lines_of given
    pub replied : RepliesToAll contents w w' given

  pub served_none : (w : CountedView W) (old : List Given) → RepliesToAll contents w w [] → Served w w old old []
  served_none w old start = record { given = []; joined = sym (append-nil old); exact = refl; replied = start }

  exact_more : (a b : List Given) (ls ms later : List (List ℕ)) → ls ≡ lines_of a → ms ≡ lines_of b ++ later → ls ++ ms ≡ lines_of (a ++ b) ++ later
  exact_more a b ls ms later x y =
      ap (λ (t : List (List ℕ)). t ++ ms) x ∙ ap (λ (t : List (List ℕ)). lines_of a ++ t) y ∙ sym (append_assoc (lines_of a) (lines_of b) later)
      ∙ ap (λ (t : List (List ℕ)). t ++ later) (sym (lines_append a b))

  -- the numbers of replies and lines are the same
  pub served_length : (w w' : CountedView W) (old new : List Given) (lines : List (List ℕ)) (s : Served w w' old new lines) → length (replies_text s.given) ≡ 31 * length lines
  served_length w w' old new lines s = replies_length s.given ∙ ap (λ (n : ℕ). 31 * n) (sym (lines_length s.given) ∙ ap length (sym s.exact))

  -- more lines, which were replied to as well
  pub served_more : (most : ℕ) (w0 w1 w2 : CountedView W) (g0 g1 g2 : List Given) (ls ms : List (List ℕ)) → Served w0 w1 g0 g1 ls → ServesLines contents most w1 w2 g1 g2 ms AllReplied
      → Served w0 w2 g0 g2 (ls ++ ms)
  served_more most w0 w1 w2 g0 g1 g2 ls ms s t = record {
    given = s.given ++ t.given;
    joined = joined_more g0 g1 g2 s.given t.given s.joined t.joined;
    exact = exact_more s.given t.given ls ms t.later s.exact t.first ∙ ap (λ (l : List (List ℕ)). lines_of (s.given ++ t.given) ++ l) t.ends.1 ∙ append-nil (lines_of (s.given ++ t.given));
    replied = replied_more contents w0 w1 w2 s.given t.given s.replied t.ends.0;
  }

  -- all lines
  pub serves_all : (most : ℕ) (w w' : CountedView W) (old new : List Given) (lines : List (List ℕ)) → Served w w' old new lines → ServesLines contents most w w' old new lines AllReplied
  serves_all most w w' old new lines s = record {
    given = s.given;
    later = [];
    joined = s.joined;
    first = s.exact ∙ sym (append-nil (lines_of s.given));
    ends = (s.replied, refl);
  }

  later_more : (a b : List Given) (ls ms later rest : List (List ℕ)) → ls ≡ lines_of a → ms ≡ lines_of b ++ later → ls ++ (ms ++ rest) ≡ lines_of (a ++ b) ++ (later ++ rest)
  later_more a b ls ms later rest x y =
      sym (append_assoc ls ms rest) ∙ ap (λ (t : List (List ℕ)). t ++ rest) (exact_more a b ls ms later x y) ∙ append_assoc (lines_of (a ++ b)) later rest

  -- more lines; the last was not replied to in full, and no further ones were given
  pub serves_stop : (most left : ℕ) (w0 w1 w2 : CountedView W) (g0 g1 g2 : List Given) (ls ms rest : List (List ℕ)) → Served w0 w1 g0 g1 ls → ServesLines contents left w1 w2 g1 g2 ms Stopped
      → ServesLines contents most w0 w2 g0 g2 (ls ++ (ms ++ rest)) Stopped
  serves_stop most left w0 w1 w2 g0 g1 g2 ls ms rest s t = record {
    given = s.given ++ t.given;
    later = t.later ++ rest;
    joined = joined_more g0 g1 g2 s.given t.given s.joined t.joined;
    first = later_more s.given t.given ls ms t.later rest s.exact t.first;
    ends = stops_more contents w0 w1 w2 s.given t.given s.replied t.ends;
  }

  pub serves_no_memory : (most left : ℕ) (w0 w1 w2 : CountedView W) (g0 g1 g2 : List Given) (ls ms rest : List (List ℕ)) → Served w0 w1 g0 g1 ls → ServesLines contents left w1 w2 g1 g2 ms NoMemory
      → ServesLines contents most w0 w2 g0 g2 (ls ++ (ms ++ rest)) NoMemory
  serves_no_memory most left w0 w1 w2 g0 g1 g2 ls ms rest s t = record {
    given = s.given ++ t.given;
    later = t.later ++ rest;
    joined = joined_more g0 g1 g2 s.given t.given s.joined t.joined;
    first = later_more s.given t.given ls ms t.later rest s.exact t.first;
    ends = replied_more contents w0 w1 w2 s.given t.given s.replied t.ends;
  }

  pub serves_cut : (most left n m : ℕ) (w0 w1 w2 : CountedView W) (g0 g1 g2 : List Given) (ls ms rest : List (List ℕ)) → m ≡ 31 * length ls + n → GoesOn most left w0.calls w1.calls → Served w0 w1 g0 g1 ls
      → ServesLines contents left w1 w2 g1 g2 ms (WriteFault n) → ServesLines contents most w0 w2 g0 g2 (ls ++ (ms ++ rest)) (WriteFault m)
  serves_cut most left n m w0 w1 w2 g0 g1 g2 ls ms rest e goes s t = record {
    given = s.given ++ t.given;
    later = t.later ++ rest;
    joined = joined_more g0 g1 g2 s.given t.given s.joined t.joined;
    first = later_more s.given t.given ls ms t.later rest s.exact t.first;
    ends = cut_more contents most left w0 w1 w2 s.given t.given n m (omega (arith, e, served_length w0 w1 g0 g1 ls s)) goes s.replied t.ends;
  }

  -- fewer bytes than the replies to all lines have
  pub cut_short : (most n : ℕ) (w w' : CountedView W) (old new : List Given) (lines : List (List ℕ)) → ServesLines contents most w w' old new lines (WriteFault n) → n < 31 * length lines
  cut_short most n w w' old new lines s =
      let below = cut_below contents most w w' s.given n s.ends in
      let sizes : length lines ≡ length (lines_of s.given) + length s.later = ap length s.first ∙ length-append (lines_of s.given) s.later in
      omega (arith, below, sizes, lines_length s.given)
