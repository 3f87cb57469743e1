use Rattle.std.proofs.Common.{◌≡◌, ℕ, ◌+◌, ◌<◌, List, [], ◌∷◌, ◌++◌, Some, Vec, map, take, length, sym, ap, subst, ◌∙◌, arith}
use Rattle.std.specs.declared.alloc.Global.{Global}
use Rattle.std.proofs.lemmas.List.{take_more, map_push}
use Rattle.wire.specs.Records.{IsRecordText, record_text}
use Rattle.wire.specs.declared.input.Input.{Input}
use Rattle.wire.specs.declared.record_format.RecordFormat.TheVariants.{Two}
use Rattle.stores.specs.Bodies.{items}
use Rattle.stores.specs.Records.{AreRecords, written}
use Rattle.stores.proofs.Fronts.{records-snoc}
use Rattle.stores.proofs.records.encode_records.Goals as goal

text-more : (texts : List (Vec ℕ Global)) (text : Vec ℕ Global) (inputs : List Input) (input : Input) → map (λ body. Some body) (map items texts) ≡ written inputs → text.items ≡ record_text input
    → map (λ body. Some body) (map items (texts ++ text ∷ [])) ≡ written (inputs ++ input ∷ [])
text-more texts text inputs input e is =
    ap (map (λ body. Some body)) (map_push items texts text) ∙ map_push (λ body. Some body) (map items texts) (items text) ∙ ap (λ places. places ++ Some (items text) ∷ []) e
    ∙ ap (λ body. written inputs ++ Some body ∷ []) is ∙ sym (map_push (λ i. Some (record_text i)) inputs input)

record-more : (inputs : List Input) (input : Input) (text : List ℕ) → AreRecords (written inputs) inputs → text ≡ record_text input → IsRecordText Two text input → AreRecords (written (inputs ++ input ∷ [])) (inputs ++ input ∷ [])
record-more inputs input text are e is =
    let P : List ℕ → Type 0 = λ t. IsRecordText Two t input in
    subst (λ places. AreRecords places (inputs ++ input ∷ [])) (sym (map_push (λ i. Some (record_text i)) inputs input)) (records-snoc (written inputs) inputs (record_text input) input are (subst P e is))

pub loop-input-preserved : goal.loop-input-preserved
loop-input-preserved c =
    let batch = c.args.batch.now in
    let k = c.loop-input.input-index in
    let input = c.input-item.result in
    let low : k < length batch = omega arith in
    let next : take (k + 1) batch ≡ take k batch ++ input ∷ [] = take_more batch k input low ∙ ap (λ i. take k batch ++ i ∷ []) (sym c.input-item.is) in
    let e = c.in_ok-text.ensures in record {
      texts = rw (c.in_ok-push.ensures.items, next) (text-more c.loop-input.texts.items c.in_ok-text.text (take k batch) input c.loop-input.invariant.texts e.text);
      records = rw next (record-more (take k batch) input c.in_ok-text.text.items c.loop-input.invariant.records e.text e.record);
    }
