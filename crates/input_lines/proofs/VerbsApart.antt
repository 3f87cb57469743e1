-- The verbs of lines: their texts differ, and the words of an order or a question begin with the text of its verb.
use Rattle.std.proofs.Common.{◌≡◌, ◌+◌, ◌*◌, ℕ, List, [], ◌∷◌, get_or, refl, sym, ap, ◌∙◌, arith}
use Rattle.wire.specs.declared.input.Input.TheVariants as inputs
use Rattle.input_lines.specs.Instructions.{AreInstructionWords}
use Rattle.input_lines.specs.Verbs.{line_verb_text, verb_text}
use Rattle.input_lines.specs.declared.instruction.Instruction.{Instruction}
use Rattle.input_lines.specs.declared.instruction.Instruction.TheVariants.{Order, Status, Until}
use Rattle.input_lines.specs.declared.verbs.LineVerb.{LineVerb}
use Rattle.input_lines.specs.declared.verbs.LineVerb.TheVariants as line
use Rattle.input_lines.specs.declared.verbs.Numbered.TheVariants as numbered
use Rattle.input_lines.specs.declared.verbs.OrderVerb.TheVariants.{Propose, Request, Open, Close, CleanUp, Eligible}
use Rattle.input_lines.specs.declared.verbs.Verb.{Verb}
use Rattle.input_lines.specs.declared.verbs.Verb.TheVariants as verb

-- the first three letters tell the verbs apart
abbrev pub letters : List ℕ → ℕ
letters w = get_or w 0 0 * 65_536 + (get_or w 1 0 * 256 + get_or w 2 0)

pub one_line_verb : (v w : LineVerb) → line_verb_text v ≡ line_verb_text w → v ≡ w
one_line_verb (line.Order Propose) (line.Order Propose) e = refl
one_line_verb (line.Order Request) (line.Order Request) e = refl
one_line_verb (line.Order Open) (line.Order Open) e = refl
one_line_verb (line.Order Close) (line.Order Close) e = refl
one_line_verb (line.Order CleanUp) (line.Order CleanUp) e = refl
one_line_verb (line.Order Eligible) (line.Order Eligible) e = refl
one_line_verb line.Status line.Status e = refl
one_line_verb line.Until line.Until e = refl
one_line_verb (line.Order Propose) line.Status e = let h : letters (line_verb_text (line.Order Propose)) ≡ letters (line_verb_text line.Status) = ap letters e in absurd (omega arith)
one_line_verb (line.Order Propose) line.Until e = let h : letters (line_verb_text (line.Order Propose)) ≡ letters (line_verb_text line.Until) = ap letters e in absurd (omega arith)
one_line_verb line.Status (line.Order Propose) e = let h : letters (line_verb_text line.Status) ≡ letters (line_verb_text (line.Order Propose)) = ap letters e in absurd (omega arith)
one_line_verb line.Until (line.Order Propose) e = let h : letters (line_verb_text line.Until) ≡ letters (line_verb_text (line.Order Propose)) = ap letters e in absurd (omega arith)
one_line_verb v w e = let h : letters (line_verb_text v) ≡ letters (line_verb_text w) = ap letters e in absurd (omega arith)

pub one_verb : (v w : Verb) → verb_text v ≡ verb_text w → v ≡ w
one_verb (verb.Order Propose) (verb.Order Propose) e = refl
one_verb (verb.Order Request) (verb.Order Request) e = refl
one_verb (verb.Order Open) (verb.Order Open) e = refl
one_verb (verb.Order Close) (verb.Order Close) e = refl
one_verb (verb.Order CleanUp) (verb.Order CleanUp) e = refl
one_verb (verb.Order Eligible) (verb.Order Eligible) e = refl
one_verb (verb.Numbered numbered.Ack) (verb.Numbered numbered.Ack) e = refl
one_verb (verb.Numbered numbered.Commit) (verb.Numbered numbered.Commit) e = refl
one_verb (verb.Numbered numbered.Post) (verb.Numbered numbered.Post) e = refl
one_verb (verb.Numbered numbered.Crash) (verb.Numbered numbered.Crash) e = refl
one_verb verb.Deliver verb.Deliver e = refl
one_verb verb.Restart verb.Restart e = refl
one_verb (verb.Order x) (verb.Numbered numbered.Ack) e = let h : letters (verb_text (verb.Order x)) ≡ letters (verb_text (verb.Numbered numbered.Ack)) = ap letters e in absurd (omega arith)
one_verb (verb.Numbered u) (verb.Order Propose) e = let h : letters (verb_text (verb.Numbered u)) ≡ letters (verb_text (verb.Order Propose)) = ap letters e in absurd (omega arith)
one_verb (verb.Order Propose) verb.Deliver e = let h : letters (verb_text (verb.Order Propose)) ≡ letters (verb_text verb.Deliver) = ap letters e in absurd (omega arith)
one_verb verb.Deliver (verb.Order Propose) e = let h : letters (verb_text verb.Deliver) ≡ letters (verb_text (verb.Order Propose)) = ap letters e in absurd (omega arith)
one_verb (verb.Order Propose) verb.Restart e = let h : letters (verb_text (verb.Order Propose)) ≡ letters (verb_text verb.Restart) = ap letters e in absurd (omega arith)
one_verb verb.Restart (verb.Order Propose) e = let h : letters (verb_text verb.Restart) ≡ letters (verb_text (verb.Order Propose)) = ap letters e in absurd (omega arith)
one_verb (verb.Numbered numbered.Ack) verb.Deliver e = let h : letters (verb_text (verb.Numbered numbered.Ack)) ≡ letters (verb_text verb.Deliver) = ap letters e in absurd (omega arith)
one_verb verb.Deliver (verb.Numbered numbered.Ack) e = let h : letters (verb_text verb.Deliver) ≡ letters (verb_text (verb.Numbered numbered.Ack)) = ap letters e in absurd (omega arith)
one_verb (verb.Numbered numbered.Ack) verb.Restart e = let h : letters (verb_text (verb.Numbered numbered.Ack)) ≡ letters (verb_text verb.Restart) = ap letters e in absurd (omega arith)
one_verb verb.Restart (verb.Numbered numbered.Ack) e = let h : letters (verb_text verb.Restart) ≡ letters (verb_text (verb.Numbered numbered.Ack)) = ap letters e in absurd (omega arith)
one_verb v w e = let h : letters (verb_text v) ≡ letters (verb_text w) = ap letters e in absurd (omega arith)

-- ---- the verb of an order or a question

-- acknowledgements and received messages are no orders
abbrev pub line_verb_of : Instruction → LineVerb
line_verb_of (Order (inputs.Propose o)) = line.Order Propose
line_verb_of (Order (inputs.Request t)) = line.Order Request
line_verb_of (Order (inputs.OpenAccount k)) = line.Order Open
line_verb_of (Order (inputs.CloseAccount k)) = line.Order Close
line_verb_of (Order (inputs.CleanUp m)) = line.Order CleanUp
line_verb_of (Order (inputs.Eligible c b)) = line.Order Eligible
line_verb_of (Order (inputs.Ack k)) = line.Status
line_verb_of (Order (inputs.Received m t)) = line.Status
line_verb_of (Status t) = line.Status
line_verb_of (Until t s n) = line.Until

pub begins_with : (words : List (List ℕ)) (i : Instruction) → AreInstructionWords words i → (rest : List (List ℕ)) × (words ≡ line_verb_text (line_verb_of i) ∷ rest)
begins_with words (Order (inputs.Propose o)) p = (_, p.0)
begins_with words (Order (inputs.Request t)) p = (_, p)
begins_with words (Order (inputs.OpenAccount k)) p = (_, p)
begins_with words (Order (inputs.CloseAccount k)) p = (_, p)
begins_with words (Order (inputs.CleanUp m)) p = (_, p.spelled)
begins_with words (Order (inputs.Eligible c b)) p = (_, p)
begins_with words (Order (inputs.Ack k)) p = absurd p
begins_with words (Order (inputs.Received m t)) p = absurd p
begins_with words (Status t) p = (_, p)
begins_with words (Until t s n) p = (_, p.0)

pub same_head : {X : Type 0} (words : List X) (x y : X) (xs ys : List X) → words ≡ x ∷ xs → words ≡ y ∷ ys → (x ≡ y) × (xs ≡ ys)
same_head words x y xs ys p q = let e : x ∷ xs ≡ y ∷ ys = sym p ∙ q in (cc (e), cc (e))

-- words that begin with no verb write no order and no question
pub no_instruction : (words : List (List ℕ)) (w : List ℕ) (rest : List (List ℕ)) → words ≡ w ∷ rest → ((v : LineVerb) → w ≡ line_verb_text v → ⊥) → (i : Instruction) → AreInstructionWords words i → ⊥
no_instruction words w rest cut never i are =
    let b = begins_with words i are in
    never (line_verb_of i) (same_head words w (line_verb_text (line_verb_of i)) rest b.0 cut b.1).0

pub no_words : (words : List (List ℕ)) → words ≡ [] → (i : Instruction) → AreInstructionWords words i → ⊥
no_words words none i are = let b = begins_with words i are in cc (sym none ∙ b.1)

-- words that begin with a verb write an order or a question of this verb
pub of_verb : (v : LineVerb) (ws : List (List ℕ)) (i : Instruction) → AreInstructionWords (line_verb_text v ∷ ws) i → v ≡ line_verb_of i
of_verb v ws i are =
    let b = begins_with (line_verb_text v ∷ ws) i are in
    one_line_verb v (line_verb_of i) (same_head _ (line_verb_text v) (line_verb_text (line_verb_of i)) ws b.0 refl b.1).0
