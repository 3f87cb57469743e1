use Rattle.std.proofs.Common.{◌≡◌, ◌≤◌, ◌+◌, ◌-◌, ◌<◌, ℕ, List, [], ◌∷◌, ◌++◌, Bor, length, Some, map, take, drop, get_or, sym, ap, subst, ◌∙◌, arith}
use Rattle.std.proofs.lemmas.List.{length-map, map-append, map_push, take_more, take_all, take-append-drop, drop_more, length-take-le}
use Rattle.wire.specs.Records.{IsRecordText}
use Rattle.wire.specs.declared.input.Input.{Input}
use Rattle.wire.specs.declared.record_format.RecordFormat.TheVariants.{Two}
use Rattle.stores.specs.Records.{Places, AreRecords, HasNoRecord, IsDamagedAt}
use Rattle.stores.specs.Records.{unbroken}
use Rattle.stores.proofs.Fronts.{records-snoc, whole-front, damaged-body, damaged-gap}
use Rattle.stores.proofs.records.decode_records.Goals as goal

abbrev Bodies : Type 0
Bodies = List (Bor (List ℕ))

abbrev texts : Bodies → List (List ℕ)
texts bodies = map (λ b. b.now) bodies

record-more : (bodies : Bodies) (k : ℕ) (d : Bor (List ℕ)) (inputs : List Input) (input : Input) → k < length bodies → AreRecords (map (λ b. Some b) (texts (take k bodies))) inputs
    → IsRecordText Two (get_or bodies k d).now input → AreRecords (map (λ b. Some b) (texts (take (k + 1) bodies))) (inputs ++ input ∷ [])
record-more bodies k d inputs input low are is =
    let body = get_or bodies k d in
    let next : map (λ b. Some b) (texts (take (k + 1) bodies)) ≡ map (λ b. Some b) (texts (take k bodies)) ++ Some body.now ∷ [] =
    ap (λ bs. map (λ b. Some b) (texts bs)) (take_more bodies k d low) ∙ ap (map (λ b. Some b)) (map_push (λ (b : Bor (List ℕ)). b.now) (take k bodies) body) ∙ map_push (λ b. Some b) (texts (take k bodies)) body.now in
    subst (λ places. AreRecords places (inputs ++ input ∷ [])) (sym next) (records-snoc (map (λ b. Some b) (texts (take k bodies))) inputs body.now input are is)

count : (bodies : Bodies) (k : ℕ) → k ≤ length bodies → length (texts (take k bodies)) ≡ k
count bodies k low = length-map (take k bodies) (λ (b : Bor (List ℕ)). b.now) ∙ length-take-le k bodies low

no-record-at : (bodies : Bodies) (k : ℕ) (d : Bor (List ℕ)) (inputs : List Input) (places : Places) → k < length bodies → AreRecords (map (λ b. Some b) (texts (take k bodies))) inputs
    → HasNoRecord (Some (get_or bodies k d).now) → unbroken places ≡ texts bodies → IsDamagedAt k places
no-record-at bodies k d inputs places low are not e =
    let body = get_or bodies k d in
    let split : texts bodies ≡ texts (take k bodies) ++ body.now ∷ texts (drop (k + 1) bodies) =
    ap texts (sym (take-append-drop k bodies) ∙ ap (λ bs. take k bodies ++ bs) (drop_more bodies k d low)) ∙ map-append (λ (b : Bor (List ℕ)). b.now) (take k bodies) (body ∷ drop (k + 1) bodies) in
    subst (λ n. IsDamagedAt n places) (count bodies k (omega (arith, low))) (damaged-body places (texts (take k bodies)) inputs body.now (texts (drop (k + 1) bodies)) are not (e ∙ split))

pub returns-in-Err-Shape-clause-damaged : goal.returns-in-Err-Shape-clause-damaged
returns-in-Err-Shape-clause-damaged c = λ p e.
    let at : c.args.first + c.loop-at.at ≡ p = cc (e) in
    let none = rw c.in-Err-Shape.field-0-is at c.in-Err-Shape.ensures in
    let here : c.loop-at.at ≡ p - c.args.first = omega (arith, at) in
    let low : c.loop-at.at < length c.args.bodies.now = c.loop-at-test.true in
    (omega (arith, at), λ places n same. subst (λ k. IsDamagedAt k places) here (no-record-at c.args.bodies.now c.loop-at.at _ c.loop-at.inputs.items places low c.loop-at.invariant none same))

pub loop-at-preserved : goal.loop-at-preserved
loop-at-preserved c =
    rw c.in_ok-push-in-Ok.ensures.items (record-more c.args.bodies.now c.loop-at.at _ c.loop-at.inputs.items c.in-Ok.input c.loop-at-test.true c.loop-at.invariant c.in-Ok.ensures)

pub returns-then-next-until-clause-damaged : goal.returns-then-next-until-clause-damaged
returns-then-next-until-clause-damaged c = λ p e.
    let bodies = c.args.bodies.now in
    let at : c.args.first + length bodies ≡ p = cc (e) in
    let all : take c.loop-at.at bodies ≡ bodies = take_all c.loop-at.at bodies c.loop-at-test.false in
    let counted : length (texts bodies) ≡ p - c.args.first = omega (arith, at, length-map bodies (λ (b : Bor (List ℕ)). b.now)) in
    let are = subst (λ bs. AreRecords (map (λ b. Some b) (texts bs)) c.loop-at.inputs.items) all c.loop-at.invariant in
    (omega (arith, at), λ places n same. subst (λ k. IsDamagedAt k places) counted (damaged-gap _ places (texts bodies) c.loop-at.inputs.items are same (omega (arith, n, length-map bodies (λ (b : Bor (List ℕ)). b.now), c.if-next-until.true))))

pub returns-clause-ok : goal.returns-clause-ok
returns-clause-ok c = λ places n same.
    let bodies = c.args.bodies.now in
    let all : take c.loop-at.at bodies ≡ bodies = take_all c.loop-at.at bodies c.loop-at-test.false in
    let whole = whole-front places (texts bodies) same (omega (arith, n, length-map bodies (λ (b : Bor (List ℕ)). b.now), c.if-next-until.false, c.requires.ordered)) in
    subst (λ ps. AreRecords ps c.loop-at.inputs.items) (sym whole) (subst (λ bs. AreRecords (map (λ b. Some b) (texts bs)) c.loop-at.inputs.items) all c.loop-at.invariant)
