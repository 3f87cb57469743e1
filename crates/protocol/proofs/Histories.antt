-- Histories of journals that get longer: one record more, many more, and the first records.
use Rattle.std.proofs.Common.{◌≡◌, ℕ, ◌+◌, ◌<◌, Bool, true, false, ◌||◌, List, [], ◌∷◌, ◌++◌, take, drop, length, refl, sym, ap, ◌∙◌, arith, append_assoc, append-nil, take-append-drop}
use Rattle.std.specs.List.{list_any, slice_get}
use Rattle.std.proofs.Math.Bool.{or-false}
use Rattle.std.proofs.lemmas.List.Sums.{fold-append}
use Rattle.units.specs.declared.code.Node.{Node}
use Rattle.wire.specs.declared.input.Input.{Input}
use Rattle.wire.specs.declared.message.Message.{Message}
use Rattle.scheme.specs.declared.registries.Scheme.{Scheme}
use Rattle.protocol.specs.Deciding.{Verdict, IsRecorded}
use Rattle.protocol.specs.History.{Transition, Entry, messages_of, sends, acknowledges, is_acknowledged}
use Rattle.protocol.specs.Verdict.{verdict, transitions_made, extend, history_from, history}
use Rattle.protocol.proofs.Replaying.{slice_get_front}

-- ---- more records

pub history_from_append : (scheme : Scheme) (n : Node) (es : List Entry) (xs ys : List Input) → history_from scheme n es (xs ++ ys) ≡ history_from scheme n (history_from scheme n es xs) ys
history_from_append scheme n es xs ys = fold-append (extend scheme n) es xs ys

pub history_snoc : (scheme : Scheme) (n : Node) (xs : List Input) (i : Input) → history scheme n (xs ++ i ∷ []) ≡ extend scheme n (history scheme n xs) i
history_snoc scheme n xs i = history_from_append scheme n [] xs (i ∷ [])

-- one record more, with the transitions of its verdict
pub history_recorded : (scheme : Scheme) (n : Node) (xs : List Input) (i : Input) (ts : List Transition) → verdict scheme n (history scheme n xs) i ≡ IsRecorded ts
    → history scheme n (xs ++ i ∷ []) ≡ record { input = i; transitions = ts } ∷ history scheme n xs
history_recorded scheme n xs i ts enters = history_snoc scheme n xs i ∙ ap (λ (v : Verdict). record { input = i; transitions = transitions_made v } ∷ history scheme n xs) enters

pub length_from : (scheme : Scheme) (n : Node) (es : List Entry) (xs : List Input) → length (history_from scheme n es xs) ≡ length es + length xs
length_from scheme n es [] = omega arith
length_from scheme n es (x ∷ xs) = let rest = length_from scheme n (extend scheme n es x) xs in omega arith

-- an entry for each record
pub length_history : (scheme : Scheme) (n : Node) (xs : List Input) → length (history scheme n xs) ≡ length xs
length_history scheme n xs = let all = length_from scheme n [] xs in omega arith

-- ---- the messages that are sent

pub sends_snoc : (scheme : Scheme) (n : Node) (xs : List Input) (i : Input) → sends (history scheme n (xs ++ i ∷ [])) ≡ sends (history scheme n xs) ++ messages_of (transitions_made (verdict scheme n (history scheme n xs) i))
sends_snoc scheme n xs i = ap sends (history_snoc scheme n xs i)

pub sends_recorded : (scheme : Scheme) (n : Node) (xs : List Input) (i : Input) (ts : List Transition) → verdict scheme n (history scheme n xs) i ≡ IsRecorded ts
    → sends (history scheme n (xs ++ i ∷ [])) ≡ sends (history scheme n xs) ++ messages_of ts
sends_recorded scheme n xs i ts enters = ap sends (history_recorded scheme n xs i ts enters)

-- the messages of more records stand after those that were sent
pub sends_from : (scheme : Scheme) (n : Node) (es : List Entry) (xs : List Input) → (more : List Message) × (sends (history_from scheme n es xs) ≡ sends es ++ more)
sends_from scheme n es [] = ([], sym (append-nil (sends es)))
sends_from scheme n es (x ∷ xs) =
    let ms : List Message = messages_of (transitions_made (verdict scheme n es x)) in
    let r = sends_from scheme n (extend scheme n es x) xs in
    (ms ++ r.0, r.1 ∙ append_assoc (sends es) ms r.0)

pub sends_append : (scheme : Scheme) (n : Node) (xs ys : List Input) → (more : List Message) × (sends (history scheme n (xs ++ ys)) ≡ sends (history scheme n xs) ++ more)
sends_append scheme n xs ys =
    let r = sends_from scheme n (history scheme n xs) ys in
    (r.0, ap sends (history_from_append scheme n [] xs ys) ∙ r.1)

-- the first records send the first messages
pub sends_take : (scheme : Scheme) (n : Node) (count : ℕ) (xs : List Input) → (more : List Message) × (sends (history scheme n xs) ≡ sends (history scheme n (take count xs)) ++ more)
sends_take scheme n count xs =
    let r = sends_append scheme n (take count xs) (drop count xs) in
    (r.0, ap (λ (l : List Input). sends (history scheme n l)) (sym (take-append-drop count xs)) ∙ r.1)

-- a key of the first records has the same message in the whole journal
pub sent_so : (scheme : Scheme) (n : Node) (journal : List Input) (count key : ℕ) → key < length (sends (history scheme n (take count journal)))
    → slice_get (sends (history scheme n journal)) key ≡ slice_get (sends (history scheme n (take count journal))) key
sent_so scheme n journal count key below =
    let more = sends_take scheme n count journal in
    ap (λ (ms : List Message). slice_get ms key) more.1 ∙ slice_get_front (sends (history scheme n (take count journal))) more.0 key below

-- ---- the messages that are acknowledged

moved_behind : (a b c : Bool) → a || (b || c) ≡ (b || a) || c
moved_behind true true c = refl
moved_behind true false c = refl
moved_behind false true c = refl
moved_behind false false c = refl

acknowledged_from : (scheme : Scheme) (n : Node) (es : List Entry) (xs : List Input) (key : ℕ) → is_acknowledged (history_from scheme n es xs) key ≡ (list_any (acknowledges key) xs || is_acknowledged es key)
acknowledged_from scheme n es [] key = refl
acknowledged_from scheme n es (x ∷ xs) key =
    acknowledged_from scheme n (extend scheme n es x) xs key ∙ moved_behind (list_any (acknowledges key) xs) (acknowledges key x) (is_acknowledged es key)

-- a message is acknowledged where a record of the journal says so
pub acknowledged_in : (scheme : Scheme) (n : Node) (xs : List Input) (key : ℕ) → is_acknowledged (history scheme n xs) key ≡ list_any (acknowledges key) xs
acknowledged_in scheme n xs key = acknowledged_from scheme n [] xs key ∙ or-false (list_any (acknowledges key) xs)
