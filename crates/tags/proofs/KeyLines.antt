-- Lines of a file of keys, one after another.
use Rattle.std.proofs.Common.{◌≡◌, ℕ, suc, ◌+◌, ◌-◌, ◌<◌, ◌≤◌, inl, inr, List, [], ◌∷◌, ◌++◌, Some, None, length, get_or, take, drop, false, refl, sym, ap, subst, ◌∙◌, arith, add-one, append_assoc, append-nil}
use Rattle.std.proofs.lemmas.Bool.{cases_eq}
use Rattle.std.specs.List.{AllByRecursion}
use Rattle.streams.specs.Lines.{stream_of, HasNoNewline}
use Rattle.tags.specs.Keys.{NodeKey, has_key, key_of}
use Rattle.tags.specs.KeysText.{HasLines, WriteKeys, AreKeys, IsKeyLine, IsKeysFault, IsLineAfter, IsFirstLine, IsLineFault, ReadsKeys, with_last, most_keys}
use Rattle.tags.specs.declared.key_file.KeysFault.{KeysFault}
use Rattle.tags.specs.declared.key_file.KeysFault.TheVariants.{Form, Twice, Same, TooMany, Empty, NoMemory}

-- ---- the lines of some bytes

with_last_front : (l : List ℕ) (ended : List (List ℕ)) (last : List ℕ) → l ∷ with_last ended last ≡ with_last (l ∷ ended) last
with_last_front l ended [] = refl
with_last_front l ended (b ∷ bs) = refl

pub lines_front : (line rest : List ℕ) → HasNoNewline line → (bytes : List ℕ) → bytes ≡ line ++ 10 ∷ rest → IsFirstLine bytes line rest
lines_front line rest free bytes cut lines h = record {
  ended = line ∷ h.ended;
  last = h.last;
  whole = cut ∙ ap (λ (t : List ℕ). line ++ 10 ∷ t) h.whole;
  each = (free, h.each);
  free = h.free;
  all = ap (λ (t : List (List ℕ)). line ∷ t) h.all ∙ with_last_front line h.ended h.last;
}

-- a byte before the bytes of some lines
abbrev Lined : List ℕ → Type 0
Lined bytes = (lines : List (List ℕ)) × HasLines bytes lines

lined_byte : (b : ℕ) (bs : List ℕ) (ended : List (List ℕ)) (last : List ℕ) → bs ≡ stream_of ended last → AllByRecursion HasNoNewline ended → HasNoNewline last → (b ≡ 10 → ⊥) → Lined (b ∷ bs)
lined_byte b bs [] last whole each free other =
    ((b ∷ last) ∷ [], record { ended = []; last = b ∷ last; whole = ap (λ (t : List ℕ). b ∷ t) whole; each = tt; free = (other, free); all = refl })
lined_byte b bs (l ∷ ls) last whole each free other =
    (with_last ((b ∷ l) ∷ ls) last, record { ended = (b ∷ l) ∷ ls; last = last; whole = ap (λ (t : List ℕ). b ∷ t) whole; each = ((other, each.0), each.1); free = free; all = refl })

-- any bytes are lines
pub lined : (bytes : List ℕ) → Lined bytes
lined [] = ([], record { ended = []; last = []; whole = refl; each = tt; free = tt; all = refl })
lined (b ∷ bs) =
    let rest = lined bs in
    elim (cases_eq b 10) [
      | inl newline ↦ ([] ∷ rest.0, lines_front [] bs tt (b ∷ bs) (ap (λ (n : ℕ). n ∷ bs) newline) rest.0 rest.1)
      | inr other ↦ lined_byte b bs rest.1.ended rest.1.last rest.1.whole rest.1.each rest.1.free other
    ]

-- if bytes have no line, there are no bytes
no_lines : (bytes : List ℕ) (ended : List (List ℕ)) (last : List ℕ) → bytes ≡ stream_of ended last → [] ≡ with_last ended last → bytes ≡ []
no_lines bytes [] [] whole all = whole
no_lines bytes (l ∷ ls) [] whole all = cc (all)
no_lines bytes [] (b ∷ bs) whole all = cc (all)
no_lines bytes (l ∷ ls) (b ∷ bs) whole all = cc (all)

pub none_from_no_lines : (bytes : List ℕ) → HasLines bytes [] → bytes ≡ []
none_from_no_lines bytes h = no_lines bytes h.ended h.last h.whole h.all

some_lines : (bytes : List ℕ) (lines : List (List ℕ)) → 0 < length bytes → HasLines bytes lines → 0 < length lines
some_lines bytes [] some h = let e = none_from_no_lines bytes h in absurd (omega (arith, some, ap length e))
some_lines bytes (l ∷ ls) some h = omega arith

-- the only line lacks its newline
only_line : (bytes : List ℕ) → HasNoNewline bytes → 0 < length bytes → HasLines bytes (bytes ∷ [])
only_line [] free some = absurd (omega (arith, some))
only_line (b ∷ bs) free some = record { ended = []; last = b ∷ bs; whole = refl; each = tt; free = free; all = refl }

no_lines_of_none : (lines : List (List ℕ)) → HasLines [] lines → lines ≡ []
no_lines_of_none lines h = go h.ended h.last h.whole h.all
  where
    go : (ended : List (List ℕ)) (last : List ℕ) → [] ≡ stream_of ended last → lines ≡ with_last ended last → lines ≡ []
    go [] [] whole all = all
    go [] (b ∷ bs) whole all = cc (whole)
    go ([] ∷ ls) last whole all = cc (whole)
    go ((b ∷ l) ∷ ls) last whole all = cc (whole)

pub line_unended : (bytes : List ℕ) → HasNoNewline bytes → 0 < length bytes → IsFirstLine bytes bytes []
line_unended bytes free some lines h = subst (λ (t : List (List ℕ)). HasLines bytes (bytes ∷ t)) (sym (no_lines_of_none lines h)) (only_line bytes free some)

-- ---- keys

keys_length : (earlier : List NodeKey) (lines : List (List ℕ)) (keys : List NodeKey) → WriteKeys earlier lines keys → length lines ≡ length keys
keys_length earlier [] [] w = refl
keys_length earlier (line ∷ lines) (entry ∷ entries) w = ap suc (keys_length (earlier ++ entry ∷ []) lines entries w.3)
keys_length earlier [] (entry ∷ entries) w = absurd w
keys_length earlier (line ∷ lines) [] w = absurd w

write_more : (earlier : List NodeKey) (lines : List (List ℕ)) (keys : List NodeKey) (line : List ℕ) (entry : NodeKey) → WriteKeys earlier lines keys → IsKeyLine line entry → key_of (earlier ++ keys) entry.node ≡ None → has_key (earlier ++ keys) entry.key ≡ false
    → WriteKeys earlier (lines ++ line ∷ []) (keys ++ entry ∷ [])
write_more earlier [] [] line entry w is new other = (is, subst (λ (t : List NodeKey). key_of t entry.node ≡ None) (append-nil earlier) new, subst (λ (t : List NodeKey). has_key t entry.key ≡ false) (append-nil earlier) other, tt)
write_more earlier (l ∷ lines) (k ∷ keys) line entry w is new other =
    let same = sym (append_assoc earlier (k ∷ []) keys) in
    (w.0, w.1, w.2, write_more (earlier ++ k ∷ []) lines keys line entry w.3 is (subst (λ (t : List NodeKey). key_of t entry.node ≡ None) same new) (subst (λ (t : List NodeKey). has_key t entry.key ≡ false) same other))
write_more earlier [] (k ∷ keys) line entry w is new other = absurd w
write_more earlier (l ∷ lines) [] line entry w is new other = absurd w

pub reads_none : (text : List ℕ) (keys : List NodeKey) → keys ≡ [] → ReadsKeys text keys text
reads_none text keys none = subst (λ (t : List NodeKey). ReadsKeys text t text) (sym none) (record { lines = []; before = λ others h. h; writes = tt })

pub reads_next : (text : List ℕ) (keys : List NodeKey) (left line rest : List ℕ) (entry : NodeKey) → ReadsKeys text keys left → IsFirstLine left line rest → IsKeyLine line entry → key_of keys entry.node ≡ None → has_key keys entry.key ≡ false
    → ReadsKeys text (keys ++ entry ∷ []) rest
reads_next text keys left line rest entry r first is new other = record {
  lines = r.lines ++ line ∷ [];
  before = λ others h. subst (λ (t : List (List ℕ)). HasLines text t) (sym (append_assoc r.lines (line ∷ []) others)) (r.before (line ∷ others) (first others h));
  writes = write_more [] r.lines keys line entry r.writes is new other;
}

line_after : (text : List ℕ) (keys : List NodeKey) (left line rest : List ℕ) (number : ℕ) → ReadsKeys text keys left → IsFirstLine left line rest → number ≡ length keys + 1 → IsLineAfter text number keys line
line_after text keys left line rest number r first count =
    let after = lined rest in
    record {
      lines = r.lines;
      later = after.0;
      cut = r.before (line ∷ after.0) (first after.0 after.1);
      writes = r.writes;
      count = count ∙ ap (λ (n : ℕ). n + 1) (sym (keys_length [] r.lines keys r.writes));
    }

pub fault_of_line : (text : List ℕ) (keys : List NodeKey) (left line rest : List ℕ) (fault : KeysFault) → ReadsKeys text keys left → IsFirstLine left line rest → IsLineFault keys line fault → IsKeysFault text fault
fault_of_line text keys left line rest (Form number) r first fault = (keys, line, line_after text keys left line rest number r first fault.0, fault.1)
fault_of_line text keys left line rest (Twice number) r first fault = (keys, line, line_after text keys left line rest number r first fault.0, fault.1)
fault_of_line text keys left line rest (Same number) r first fault = (keys, line, line_after text keys left line rest number r first fault.0, fault.1)
fault_of_line text keys left line rest TooMany r first fault = absurd fault
fault_of_line text keys left line rest Empty r first fault = absurd fault
fault_of_line text keys left line rest NoMemory r first fault = tt

pub too_many : (text : List ℕ) (keys : List NodeKey) (left : List ℕ) → ReadsKeys text keys left → 0 < length left → length keys ≡ most_keys → IsKeysFault text TooMany
too_many text keys left r some count =
    let others = lined left in
    let more = some_lines left others.0 some others.1 in
    let same = keys_length [] r.lines keys r.writes in
    (keys, r.lines, others.0, r.before others.0 others.1, r.writes, same ∙ count, more)

all_lines : (text : List ℕ) (keys : List NodeKey) (left : List ℕ) (r : ReadsKeys text keys left) → length left ≡ 0 → HasLines text r.lines
all_lines text keys [] r none = subst (λ (t : List (List ℕ)). HasLines text t) (append-nil r.lines) (r.before [] (record { ended = []; last = []; whole = refl; each = tt; free = tt; all = refl }))
all_lines text keys (b ∷ bs) r none = absurd (omega (arith, none))

pub no_text : (text : List ℕ) (keys : List NodeKey) (left : List ℕ) → ReadsKeys text keys left → length left ≡ 0 → keys ≡ [] → text ≡ []
no_text text keys left r end none = go r.lines (keys_length [] r.lines keys r.writes) (all_lines text keys left r end)
  where
    go : (lines : List (List ℕ)) → length lines ≡ length keys → HasLines text lines → text ≡ []
    go [] same h = none_from_no_lines text h
    go (l ∷ ls) same h = absurd (omega (arith, same, ap length none))

pub all_keys : (text : List ℕ) (keys : List NodeKey) (left : List ℕ) → ReadsKeys text keys left → length left ≡ 0 → 0 < length keys → length keys ≤ most_keys → AreKeys text keys
all_keys text keys left r end some few =
    let same = keys_length [] r.lines keys r.writes in
    record {
      lines = r.lines;
      cut = all_lines text keys left r end;
      writes = r.writes;
      some = omega (arith, same, some);
      few = omega (arith, same, few);
    }
