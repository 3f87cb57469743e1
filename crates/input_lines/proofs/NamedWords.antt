-- Words after a verb that write nothing, with the name of a node or without one.
use Rattle.std.proofs.Common.{◌≡◌, ◌∙◌, ℕ, Bool, true, false, List, [], ◌∷◌, codes, refl, sym, ap, subst}
use Rattle.units.specs.Code.{code_text, node_text}
use Rattle.units.specs.declared.code.Node.{Node}
use Rattle.wire.specs.declared.input.Input.{Input}
use Rattle.wire.specs.declared.input.Input.TheVariants as inputs
use Rattle.protocol.specs.declared.event.WorldEvent.{WorldEvent}
use Rattle.protocol.specs.declared.event.WorldEvent.TheVariants.{Take, Commit, Post, Deliver, Crash, Restart}
use Rattle.input_lines.specs.EventLines.{AreWords}
use Rattle.input_lines.specs.Instructions.{AreInstructionWords, AreNamed, AreOrderWords, AreScriptWords, yes_text}
use Rattle.input_lines.specs.Named.{IsNamed, IsNamedIf}
use Rattle.input_lines.specs.Verbs.{is_of_log, line_verb_text, order_verb_text, verb_text}
use Rattle.input_lines.specs.declared.instruction.Instruction.{Instruction}
use Rattle.input_lines.specs.declared.instruction.Instruction.TheVariants.{Order, Status, Until}
use Rattle.input_lines.specs.declared.verbs.LineVerb.{LineVerb}
use Rattle.input_lines.specs.declared.verbs.LineVerb.TheVariants as line
use Rattle.input_lines.specs.declared.verbs.OrderVerb.{OrderVerb}
use Rattle.input_lines.specs.declared.verbs.Verb.TheVariants as verb
use Rattle.input_lines.proofs.OneEvent.{begins, verb_of}
use Rattle.input_lines.proofs.VerbsApart.{begins_with, line_verb_of, of_verb, one_verb, same_head}

-- ---- one name

one_rest_if : (b : Bool) (ws : List (List ℕ)) (m n : Node) (xs ys : List (List ℕ)) → IsNamedIf b ws m xs → IsNamedIf b ws n ys → xs ≡ ys
one_rest_if true ws m n xs ys p q = p.1 ∙ sym q.1
one_rest_if false ws m n xs ys p q = (same_head ws (node_text m) (node_text n) xs ys p q).1

one_rest : (v : LineVerb) (ws : List (List ℕ)) (m n : Node) (xs ys : List (List ℕ)) → IsNamed v ws m xs → IsNamed v ws n ys → xs ≡ ys
one_rest v ws m n xs ys p q = one_rest_if (is_of_log v) ws m n xs ys p q

-- ---- without the name

-- the first word, the words after it, and those after the name
record Unnamed (words : List (List ℕ)) (n : Node) (i : Instruction) : Type 0 where
  first : List ℕ
  ws : List (List ℕ)
  others : List (List ℕ)
  spelled : words ≡ first ∷ ws
  named : IsNamed (line_verb_of i) ws n others
  told : AreInstructionWords (first ∷ others) i

of_named : (words : List (List ℕ)) (n : Node) (i : Instruction) → ((ws others : List (List ℕ)) → ws ≡ node_text n ∷ others → IsNamed (line_verb_of i) ws n others) → AreNamed words n i → Unnamed words n i
of_named words n i named p = record { first = p.first; ws = node_text n ∷ p.others; others = p.others; spelled = p.spelled; named = named (node_text n ∷ p.others) p.others refl; told = p.told }

unnamed : (words : List (List ℕ)) (n : Node) (i : Instruction) → AreScriptWords words n i → Unnamed words n i
unnamed words n (Order (inputs.Propose o)) p = of_named words n (Order (inputs.Propose o)) (λ ws others e. e) p
unnamed words n (Order (inputs.Request t)) p = of_named words n (Order (inputs.Request t)) (λ ws others e. e) p
unnamed words n (Order (inputs.OpenAccount k)) p = of_named words n (Order (inputs.OpenAccount k)) (λ ws others e. e) p
unnamed words n (Order (inputs.CloseAccount k)) p = of_named words n (Order (inputs.CloseAccount k)) (λ ws others e. e) p
unnamed words n (Order (inputs.CleanUp m)) p = record {
  first = codes "clean-up";
  ws = p.1.text ∷ [];
  others = p.1.text ∷ [];
  spelled = p.1.spelled;
  named = (p.0, refl);
  told = record { text = p.1.text; spelled = refl; names = p.1.names };
}
unnamed words n (Order (inputs.Eligible c b)) p = record { first = codes "eligible"; ws = code_text c ∷ yes_text b ∷ []; others = code_text c ∷ yes_text b ∷ []; spelled = p.1; named = (p.0, refl); told = refl }
unnamed words n (Order (inputs.Ack k)) p = absurd p.told
unnamed words n (Order (inputs.Received m t)) p = absurd p.told
unnamed words n (Status t) p = of_named words n (Status t) (λ ws others e. e) p
unnamed words n (Until t s k) p = of_named words n (Until t s k) (λ ws others e. e) p

-- no order or question of the verb is written by the words after the name
abbrev pub Never : LineVerb → List (List ℕ) → Type 0
Never v ws = (n : Node) (others : List (List ℕ)) → IsNamed v ws n others → (i : Instruction) → AreInstructionWords (line_verb_text v ∷ others) i → ⊥

none_named : (v : LineVerb) (ws : List (List ℕ)) → Never v ws → (n : Node) (i : Instruction) → AreScriptWords (line_verb_text v ∷ ws) n i → ⊥
none_named v ws never n i p =
    let u = unnamed (line_verb_text v ∷ ws) n i p in
    let parts = same_head _ (line_verb_text v) u.first ws u.ws refl u.spelled in
    let told : AreInstructionWords (line_verb_text v ∷ u.others) i = subst (λ (w : List ℕ). AreInstructionWords (w ∷ u.others) i) (sym parts.0) u.told in
    let same : v ≡ line_verb_of i = of_verb v u.others i told in
    let named : IsNamed v u.ws n u.others = subst (λ (x : LineVerb). IsNamed x u.ws n u.others) (sym same) u.named in
    never n u.others (subst (λ (l : List (List ℕ)). IsNamed v l n u.others) (sym parts.1) named) i told

pub never_named : (v : LineVerb) (ws : List (List ℕ)) → ((n : Node) (others : List (List ℕ)) → IsNamed v ws n others → ⊥) → Never v ws
never_named v ws none n others named i told = none n others named

pub never_told : (v : LineVerb) (ws : List (List ℕ)) (m : Node) (rest : List (List ℕ)) → IsNamed v ws m rest → ((i : Instruction) → AreInstructionWords (line_verb_text v ∷ rest) i → ⊥) → Never v ws
never_told v ws m rest is none n others named i told = none i (subst (λ (l : List (List ℕ)). AreInstructionWords (line_verb_text v ∷ l) i) (one_rest v ws n m others rest named is) told)

-- ---- the line of a script

module _ (words : List (List ℕ)) (w : List ℕ) (ws : List (List ℕ)) (v : LineVerb) (cut : words ≡ w ∷ ws) (is : w ≡ line_verb_text v) where
  front : words ≡ line_verb_text v ∷ ws
  front = cut ∙ ap (λ (x : List ℕ). x ∷ ws) is

  pub no_script_words : Never v ws → (n : Node) (i : Instruction) → AreScriptWords words n i → ⊥
  no_script_words never n i p = none_named v ws never n i (subst (λ (l : List (List ℕ)). AreScriptWords l n i) front p)

pub no_script_verb : (words : List (List ℕ)) (w : List ℕ) (ws : List (List ℕ)) → words ≡ w ∷ ws → ((v : LineVerb) → w ≡ line_verb_text v → ⊥) → (n : Node) (i : Instruction) → AreScriptWords words n i → ⊥
no_script_verb words w ws cut never n i p =
    let u = unnamed words n i p in
    let b = begins_with (u.first ∷ u.others) i u.told in
    let first : u.first ≡ line_verb_text (line_verb_of i) = (same_head _ u.first (line_verb_text (line_verb_of i)) u.others b.0 refl b.1).0 in
    never (line_verb_of i) ((same_head words w u.first ws u.ws cut u.spelled).0 ∙ first)

pub no_script_word : (words : List (List ℕ)) → words ≡ [] → (n : Node) (i : Instruction) → AreScriptWords words n i → ⊥
no_script_word words none n i p = let u = unnamed words n i p in cc (sym none ∙ u.spelled)

-- ---- the event of an order

-- an order's words, after the name, write no order
pub no_order_told : (v : OrderVerb) (others : List (List ℕ)) → ((i : Input) → AreOrderWords (order_verb_text v ∷ others) i → ⊥) → (i : Instruction) → AreInstructionWords (order_verb_text v ∷ others) i → ⊥
no_order_told v others none (Order i) told = none i told
no_order_told v others none (Status t) told = let same = of_verb (line.Order v) others (Status t) told in cc (same)
no_order_told v others none (Until t s k) told = let same = of_verb (line.Order v) others (Until t s k) told in cc (same)

of_event : (v : OrderVerb) (ws : List (List ℕ)) (e : WorldEvent) → AreWords (order_verb_text v ∷ ws) e → verb.Order v ≡ verb_of e
of_event v ws e are = let b = begins (order_verb_text v ∷ ws) e are in one_verb (verb.Order v) (verb_of e) (same_head _ (order_verb_text v) (verb_text (verb_of e)) ws b.0 refl b.1).0

pub no_event_words : (v : OrderVerb) (ws : List (List ℕ)) → Never (line.Order v) ws → (e : WorldEvent) → AreWords (order_verb_text v ∷ ws) e → ⊥
no_event_words v ws never (Take n (inputs.Propose o)) are = none_named (line.Order v) ws never n (Order (inputs.Propose o)) are
no_event_words v ws never (Take n (inputs.Request t)) are = none_named (line.Order v) ws never n (Order (inputs.Request t)) are
no_event_words v ws never (Take n (inputs.OpenAccount k)) are = none_named (line.Order v) ws never n (Order (inputs.OpenAccount k)) are
no_event_words v ws never (Take n (inputs.CloseAccount k)) are = none_named (line.Order v) ws never n (Order (inputs.CloseAccount k)) are
no_event_words v ws never (Take n (inputs.CleanUp m)) are = none_named (line.Order v) ws never n (Order (inputs.CleanUp m)) are
no_event_words v ws never (Take n (inputs.Eligible c b)) are = none_named (line.Order v) ws never n (Order (inputs.Eligible c b)) are
no_event_words v ws never (Take n (inputs.Received m t)) are = none_named (line.Order v) ws never n (Order (inputs.Received m t)) are
no_event_words v ws never (Take n (inputs.Ack k)) are = let same = of_event v ws (Take n (inputs.Ack k)) are in cc (same)
no_event_words v ws never (Commit n k) are = let same = of_event v ws (Commit n k) are in cc (same)
no_event_words v ws never (Post n k) are = let same = of_event v ws (Post n k) are in cc (same)
no_event_words v ws never (Deliver k m) are = let same = of_event v ws (Deliver k m) are in cc (same)
no_event_words v ws never (Crash n k) are = let same = of_event v ws (Crash n k) are in cc (same)
no_event_words v ws never (Restart n) are = let same = of_event v ws (Restart n) are in cc (same)
