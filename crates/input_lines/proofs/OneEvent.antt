-- A line writes one event at most.
use Rattle.std.proofs.Common.{◌≡◌, ℕ, ◌*◌, ◌^◌, ◌<◌, Bool, true, false, List, [], ◌∷◌, get_or, map, codes, refl, sym, ap, ◌∙◌, arith, subst, Result, Ok, Err, IfOk}
use Rattle.std.specs.Fmt.{decimal}
use Rattle.std.specs.List.{AllByRecursion}
use Rattle.std.specs.Str.{IsUtf8}
use Rattle.units.specs.Block.{raw_text}
use Rattle.units.specs.Code.{code_text, node_text}
use Rattle.units.specs.declared.block.RawBlock.{RawBlock}
use Rattle.units.specs.declared.code.Node.{Node}
use Rattle.units.proofs.OneText.{code_text_same, number_same, raw_same}
use Rattle.status.specs.Id.{id_text}
use Rattle.status.specs.Moment.{IsMomentText}
use Rattle.status.specs.Order.{Order, IsOrder}
use Rattle.status.specs.declared.moment.Moment.{Moment}
use Rattle.status.proofs.Ids.{id_text_same}
use Rattle.wire.specs.declared.input.Input.TheVariants.{Propose, Request, OpenAccount, CloseAccount, Ack, CleanUp, Eligible, Received}
use Rattle.wire.proofs.OneMessage.{node_same}
use Rattle.wire.proofs.OneRecord.{moment_same, number_same as exact_number}
use Rattle.protocol.specs.declared.event.WorldEvent.{WorldEvent}
use Rattle.protocol.specs.declared.event.WorldEvent.TheVariants.{Take, Commit, Post, Deliver, Crash, Restart}
use Rattle.input_lines.specs.EventLines.{AreWords, IsEventLine}
use Rattle.input_lines.specs.Instructions.{AreNamed, yes_text}
use Rattle.input_lines.specs.Verbs.{verb_text}
use Rattle.input_lines.specs.Words.{AreCut, IsShort}
use Rattle.input_lines.specs.declared.instruction.Instruction.{Instruction}
use Rattle.input_lines.specs.declared.instruction.Instruction.TheVariants.{Order as Ordered}
use Rattle.input_lines.specs.declared.verbs.OrderVerb.TheVariants as order
use Rattle.input_lines.specs.declared.verbs.Verb.{Verb}
use Rattle.input_lines.specs.declared.verbs.Verb.TheVariants as verb
use Rattle.input_lines.specs.declared.verbs.Numbered.TheVariants as numbered
use Rattle.input_lines.proofs.SpacedWords.{one_cut}
use Rattle.input_lines.proofs.VerbsApart.{letters, same_head}

-- ---- the first word

-- the verb of an event's line. A received message has no line
abbrev pub verb_of : WorldEvent → Verb
verb_of (Take n (Propose o)) = verb.Order order.Propose
verb_of (Take n (Request t)) = verb.Order order.Request
verb_of (Take n (OpenAccount k)) = verb.Order order.Open
verb_of (Take n (CloseAccount k)) = verb.Order order.Close
verb_of (Take n (Ack k)) = verb.Numbered numbered.Ack
verb_of (Take n (CleanUp m)) = verb.Order order.CleanUp
verb_of (Take n (Eligible c b)) = verb.Order order.Eligible
verb_of (Take n (Received m t)) = verb.Order order.Propose
verb_of (Commit n k) = verb.Numbered numbered.Commit
verb_of (Post n k) = verb.Numbered numbered.Post
verb_of (Deliver k m) = verb.Deliver
verb_of (Crash n k) = verb.Numbered numbered.Crash
verb_of (Restart n) = verb.Restart

-- words with a name after the first one
named : (words : List (List ℕ)) (n : Node) (i : Instruction) (p : AreNamed words n i) (w : List ℕ) (ws : List (List ℕ)) → p.first ∷ p.others ≡ w ∷ ws → words ≡ w ∷ node_text n ∷ ws
named words n i p w ws e =
    let first : p.first ≡ w = cc (e) in
    let others : p.others ≡ ws = cc (e) in
    p.spelled ∙ (ap (λ (x : List ℕ). x ∷ node_text n ∷ p.others) first ∙ ap (λ (l : List (List ℕ)). w ∷ node_text n ∷ l) others)

abbrev Begins : List (List ℕ) → List ℕ → Type 0
Begins words w = (rest : List (List ℕ)) × (words ≡ w ∷ rest)

pub begins : (words : List (List ℕ)) (e : WorldEvent) → AreWords words e → Begins words (verb_text (verb_of e))
begins words (Take n (Propose o)) p = (_, named words n (Ordered (Propose o)) p (codes "propose") _ p.told.0)
begins words (Take n (Request t)) p = (_, named words n (Ordered (Request t)) p (codes "request") _ p.told)
begins words (Take n (OpenAccount k)) p = (_, named words n (Ordered (OpenAccount k)) p (codes "open") _ p.told)
begins words (Take n (CloseAccount k)) p = (_, named words n (Ordered (CloseAccount k)) p (codes "close") _ p.told)
begins words (Take n (Ack k)) p = (_, p)
begins words (Take n (CleanUp m)) p = (_, p.1.spelled)
begins words (Take n (Eligible c b)) p = (_, p.1)
begins words (Take n (Received m t)) p = absurd p.told
begins words (Commit n k) p = (_, p.0)
begins words (Post n k) p = (_, p.0)
begins words (Deliver k m) p = (_, p.0.spelled)
begins words (Crash n k) p = (_, p.0)
begins words (Restart n) p = (_, p)

-- words that begin with no verb write no event
pub no_verb : (words : List (List ℕ)) (w : List ℕ) (rest : List (List ℕ)) → words ≡ w ∷ rest → ((v : Verb) → w ≡ verb_text v → ⊥) → (e : WorldEvent) → AreWords words e → ⊥
no_verb words w rest cut never e are =
    let b = begins words e are in
    never (verb_of e) (same_head words w (verb_text (verb_of e)) rest b.0 cut b.1).0

-- ---- equal parts

moment_once : (text : List ℕ) (m n : Moment) → IsMomentText text m → IsMomentText text n → m ≡ n
moment_once text m n p q = moment_same m n (let scaled : m.seconds * 1_000_000_000 ≡ n.seconds * 1_000_000_000 = cc in omega arith)

raw_once : (r s : RawBlock) → IsShort r → IsShort s → raw_text r ≡ raw_text s → r ≡ s
raw_once r s p q e = raw_same (raw_text r) r s (record { spelled = refl; first = p.0; last = p.1 }) (record { spelled = e; first = q.0; last = q.1 })

blocks_once : (b c : List RawBlock) → AllByRecursion IsShort b → AllByRecursion IsShort c → map raw_text b ≡ map raw_text c → b ≡ c
blocks_once [] [] p q e = refl
blocks_once [] (s ∷ c) p q e = cc
blocks_once (r ∷ b) [] p q e = cc
blocks_once (r ∷ b) (s ∷ c) p q e =
    let h = same_head (map raw_text (r ∷ b)) (raw_text r) (raw_text s) (map raw_text b) (map raw_text c) refl e in
    ap (λ (x : RawBlock). x ∷ b) (raw_once r s p.0 q.0 h.0) ∙ ap (λ (l : List RawBlock). s ∷ l) (blocks_once b c p.1 q.1 h.1)

order_once : (words : List (List ℕ)) (o q : Order) → IsOrder o → IsOrder q
    → words ≡ decimal o.account ∷ code_text o.acquirer ∷ decimal o.to_account ∷ map raw_text o.units
    → words ≡ decimal q.account ∷ code_text q.acquirer ∷ decimal q.to_account ∷ map raw_text q.units → o ≡ q
order_once words o q f g d e =
    let one = same_head words (decimal o.account) (decimal q.account) _ _ d e in
    let two = same_head _ (code_text o.acquirer) (code_text q.acquirer) _ _ refl one.1 in
    let three = same_head _ (decimal o.to_account) (decimal q.to_account) _ _ refl two.1 in
    let account = number_same o.account q.account f.account g.account one.0 in
    let acquirer = code_text_same o.acquirer q.acquirer two.0 in
    let to_account = number_same o.to_account q.to_account f.to_account g.to_account three.0 in
    let units = blocks_once o.units q.units f.units g.units three.1 in
    λ i. record { account = account i; acquirer = acquirer i; to_account = to_account i; units = units i }

node_once : (words : List (List ℕ)) (v : List ℕ) (m n : Node) (xs ys : List (List ℕ)) → words ≡ v ∷ node_text m ∷ xs → words ≡ v ∷ node_text n ∷ ys → (m ≡ n) × (xs ≡ ys)
node_once words v m n xs ys p q =
    let one = same_head words v v (node_text m ∷ xs) (node_text n ∷ ys) p q in
    let two = same_head (node_text m ∷ xs) (node_text m) (node_text n) xs ys refl one.1 in
    (node_same m n two.0, two.1)

node_and_number_once : (words : List (List ℕ)) (v : List ℕ) (m n : Node) (j k : ℕ) → j < 10 ^ 18 → k < 10 ^ 18
    → words ≡ v ∷ node_text m ∷ decimal j ∷ [] → words ≡ v ∷ node_text n ∷ decimal k ∷ [] → (m ≡ n) × (j ≡ k)
node_and_number_once words v m n j k f g p q =
    let h = node_once words v m n (decimal j ∷ []) (decimal k ∷ []) p q in
    (h.0, number_same j k f g (same_head (decimal j ∷ []) (decimal j) (decimal k) [] [] refl h.1).0)

yes_same : (a b : Bool) → yes_text a ≡ yes_text b → a ≡ b
yes_same true true e = refl
yes_same false false e = refl
yes_same true false e = let h = ap (λ (t : List ℕ). get_or t 0 0) e in absurd (omega arith)
yes_same false true e = let h = ap (λ (t : List ℕ). get_or t 0 0) e in absurd (omega arith)

-- ---- one event

same_letters : (words : List (List ℕ)) (a b : WorldEvent) → AreWords words a → AreWords words b → letters (verb_text (verb_of a)) ≡ letters (verb_text (verb_of b))
same_letters words a b p q =
    let x = begins words a p in
    let y = begins words b q in
    ap letters (same_head words (verb_text (verb_of a)) (verb_text (verb_of b)) x.0 y.0 x.1 y.1).0

words_once : (words : List (List ℕ)) (a b : WorldEvent) → AreWords words a → AreWords words b → a ≡ b
words_once words (Take m (Received x t)) b p q = absurd p.told
words_once words a (Take m (Received x t)) p q = absurd q.told
words_once words (Take m (Propose o)) (Take n (Propose r)) p q =
    let h = node_once words (codes "propose") m n _ _ (named words m (Ordered (Propose o)) p (codes "propose") _ p.told.0) (named words n (Ordered (Propose r)) q (codes "propose") _ q.told.0) in
    let g = order_once _ o r p.told.1 q.told.1 refl h.1 in
    λ i. Take (h.0 i) (Propose (g i))
words_once words (Take m (Request t)) (Take n (Request u)) p q =
    let h = node_once words (codes "request") m n (id_text t ∷ []) (id_text u ∷ []) (named words m (Ordered (Request t)) p (codes "request") _ p.told) (named words n (Ordered (Request u)) q (codes "request") _ q.told) in
    let g = id_text_same t u (same_head (id_text t ∷ []) (id_text t) (id_text u) [] [] refl h.1).0 in
    λ i. Take (h.0 i) (Request (g i))
words_once words (Take m (OpenAccount j)) (Take n (OpenAccount k)) p q =
    let h = node_and_number_once words (codes "open") m n j.value k.value j.short k.short (named words m (Ordered (OpenAccount j)) p (codes "open") _ p.told) (named words n (Ordered (OpenAccount k)) q (codes "open") _ q.told) in
    let g = exact_number j k h.1 in
    λ i. Take (h.0 i) (OpenAccount (g i))
words_once words (Take m (CloseAccount j)) (Take n (CloseAccount k)) p q =
    let h = node_and_number_once words (codes "close") m n j.value k.value j.short k.short (named words m (Ordered (CloseAccount j)) p (codes "close") _ p.told) (named words n (Ordered (CloseAccount k)) q (codes "close") _ q.told) in
    let g = exact_number j k h.1 in
    λ i. Take (h.0 i) (CloseAccount (g i))
words_once words (Take m (Ack j)) (Take n (Ack k)) p q =
    let h = node_and_number_once words (codes "ack") m n j.value k.value j.short k.short p q in
    let g = exact_number j k h.1 in
    λ i. Take (h.0 i) (Ack (g i))
words_once words (Take m (CleanUp t)) (Take n (CleanUp u)) p q =
    let node = p.0 ∙ sym q.0 in
    let h = same_head words (codes "clean-up") (codes "clean-up") (p.1.text ∷ []) (q.1.text ∷ []) p.1.spelled q.1.spelled in
    let text = (same_head (p.1.text ∷ []) p.1.text q.1.text [] [] refl h.1).0 in
    let g = moment_once q.1.text t u (subst (λ s. IsMomentText s t) text p.1.names) q.1.names in
    λ i. Take (node i) (CleanUp (g i))
words_once words (Take m (Eligible c x)) (Take n (Eligible d y)) p q =
    let node = p.0 ∙ sym q.0 in
    let h = same_head words (codes "eligible") (codes "eligible") (code_text c ∷ yes_text x ∷ []) (code_text d ∷ yes_text y ∷ []) p.1 q.1 in
    let k = same_head (code_text c ∷ yes_text x ∷ []) (code_text c) (code_text d) (yes_text x ∷ []) (yes_text y ∷ []) refl h.1 in
    let code = code_text_same c d k.0 in
    let may = yes_same x y (same_head (yes_text x ∷ []) (yes_text x) (yes_text y) [] [] refl k.1).0 in
    λ i. Take (node i) (Eligible (code i) (may i))
words_once words (Commit m j) (Commit n k) p q = let h = node_and_number_once words (codes "commit") m n j k p.1 q.1 p.0 q.0 in λ i. Commit (h.0 i) (h.1 i)
words_once words (Post m j) (Post n k) p q = let h = node_and_number_once words (codes "post") m n j k p.1 q.1 p.0 q.0 in λ i. Post (h.0 i) (h.1 i)
words_once words (Crash m j) (Crash n k) p q = let h = node_and_number_once words (codes "crash") m n j k p.1 q.1 p.0 q.0 in λ i. Crash (h.0 i) (h.1 i)
words_once words (Deliver j t) (Deliver k u) p q =
    let one = same_head words (codes "deliver") (codes "deliver") (decimal j ∷ p.0.text ∷ []) (decimal k ∷ q.0.text ∷ []) p.0.spelled q.0.spelled in
    let two = same_head (decimal j ∷ p.0.text ∷ []) (decimal j) (decimal k) (p.0.text ∷ []) (q.0.text ∷ []) refl one.1 in
    let text = (same_head (p.0.text ∷ []) p.0.text q.0.text [] [] refl two.1).0 in
    let h = number_same j k p.1 q.1 two.0 in
    let g = moment_once q.0.text t u (subst (λ s. IsMomentText s t) text p.0.names) q.0.names in
    λ i. Deliver (h i) (g i)
words_once words (Restart m) (Restart n) p q = let h = node_once words (codes "restart") m n [] [] p q in λ i. Restart (h.0 i)
words_once words a b p q = let h = same_letters words a b p q in absurd (omega arith)

pub one_event : (line : List ℕ) (a b : WorldEvent) → IsEventLine line a → IsEventLine line b → a ≡ b
one_event line a b p q = words_once q.words a b (subst (λ w. AreWords w a) (one_cut line p.words q.words p.cut q.cut) p.told) q.told

-- ---- the result for a line and its words

module _ (line : List ℕ) (words : List (List ℕ)) (utf8 : IsUtf8 line) (cut : AreCut line words) where
  is_line : (e : WorldEvent) → AreWords words e → IsEventLine line e
  is_line e told = record { words = words; utf8 = utf8; cut = cut; told = told }

  pub no_event : ((e : WorldEvent) → AreWords words e → ⊥) → (e : WorldEvent) → IsEventLine line e → ⊥
  no_event never e is = never e (subst (λ w. AreWords w e) (one_cut line is.words words is.cut cut) is.told)

  pub one_result : {E : Type 0} (r : Result WorldEvent E) → IfOk r (λ e. AreWords words e) → (e : WorldEvent) → IsEventLine line e → IfOk r (λ o. o ≡ e)
  one_result (Ok o) told e is = one_event line o e (is_line o told) is
  one_result (Err f) told e is = tt
