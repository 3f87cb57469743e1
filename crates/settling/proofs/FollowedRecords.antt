-- A list that has gone on by some of the elements of another one, and notes that are judged on the way.
use Rattle.std.proofs.Common.{◌≡◌, ◌∙◌, ◌+◌, ◌-◌, ◌≤◌, ◌++◌, ℕ, zero, suc, min, List, [], ◌∷◌, length, take, drop, refl, sym, ap, arith, append_assoc, length-append, length-take}
use Rattle.std.proofs.Math.Seq.{take-append-add}
use Rattle.std.proofs.lemmas.List.{take-take}
use Rattle.std.proofs.lemmas.List.{take_all}
use Rattle.wire.specs.declared.input.Input.{Input}
use Rattle.protocol.specs.Cores.{HasFault}
use Rattle.protocol.specs.declared.replay_fault.ReplayFault.{ReplayFault}
use Rattle.protocol.specs.declared.replay_fault.ReplayFault.TheVariants as recording
use Rattle.node_state.specs.declared.notes.Note.{Note}
use Rattle.node_state.proofs.JournalFronts.{fault_of_front, front_more}
use Rattle.settling.specs.declared.life.Unsettled.{Unsettled}
use Rattle.settling.specs.declared.life.Unsettled.TheVariants.{NotRecorded, NoMemory}
use Rattle.settling.specs.Replicas.{FailsToFollow, HasFollowed, ReplicaView}

-- ---- lists

pub take_own : {X : Type 0} (n : ℕ) (xs : List X) → take (length (take n xs)) xs ≡ take n xs
take_own zero xs = refl
take_own (suc n) [] = refl
take_own (suc n) (x ∷ xs) = ap (λ l. x ∷ l) (take_own n xs)

-- the number of elements by which a list has gone on
gone_on : {X : Type 0} (before more now : List X) (n : ℕ) → now ≡ before ++ take n more → now ≡ before ++ take (length now - length before) more
gone_on before more now n e =
    let size : length now ≡ length before + length (take n more) = ap length e ∙ length-append before (take n more) in
    let count : length (take n more) ≡ length now - length before = omega (arith, size) in
    e ∙ ap (λ l. before ++ l) (sym (take_own n more) ∙ ap (λ k. take k more) count)

pub front_of : {X : Type 0} (before more now : List X) → now ≡ before ++ take (length now - length before) more → take (length now) (before ++ more) ≡ now
front_of before more now e =
    let p = length now - length before in
    let size : length now ≡ length before + length (take p more) = ap length e ∙ length-append before (take p more) in
    let same : length now ≡ length before + p = omega (arith, size) in
    ap (λ k. take k (before ++ more)) same ∙ (take-append-add before more p ∙ sym e)

pub gone_further : {X : Type 0} (before more now new : List X) (have m : ℕ) → now ≡ before ++ take (length now - length before) more → have ≡ length now - length before → new ≡ now ++ take m (drop have more)
    → new ≡ before ++ take (length new - length before) more
gone_further before more now new have m e is further =
    let begun : now ≡ before ++ take have more = e ∙ ap (λ k. before ++ take k more) (sym is) in
    gone_on before more new (have + m)
    (further ∙ (ap (λ l. l ++ take m (drop have more)) begun ∙ (append_assoc before (take have more) (take m (drop have more)) ∙ ap (λ l. before ++ l) (front_more have m (have + m) more refl))))

-- a front of a front that is as long as the list has grown
pub front_within : {X : Type 0} (now new ys : List X) (b : ℕ) → new ≡ now ++ take (length new - length now) (take b ys) → new ≡ now ++ take (length new - length now) ys
front_within now new ys b e =
    let a = length new - length now in
    let size : length new ≡ length now + length (take a (take b ys)) = ap length e ∙ length-append now (take a (take b ys)) in
    let within : length (take a (take b ys)) ≡ min a (length (take b ys)) = length-take a (take b ys) in
    let all : length (take b ys) ≡ min b (length ys) = length-take b ys in
    e ∙ ap (λ l. now ++ l) (take-take a b ys (omega (arith, size, within, all)))

-- ---- replicas

pub not_longer : (held now : ReplicaView) (records : List Input) → HasFollowed held records now → length now.journal ≤ length held.journal + length records
not_longer held now records followed =
    let p = length now.journal - length held.journal in
    let size : length now.journal ≡ length held.journal + length (take p records) = ap length followed.journal ∙ length-append held.journal (take p records) in
    let within : length (take p records) ≡ min p (length records) = length-take p records in
    omega (arith, size, within)

pub as_whole : (held now : ReplicaView) (records : List Input) → HasFollowed held records now → length now.journal ≡ length held.journal + length records → now.journal ≡ held.journal ++ records
as_whole held now records followed size =
    followed.journal ∙ ap (λ l. held.journal ++ l) (take_all (length now.journal - length held.journal) records (omega (arith, size)))

pub followed_on : (held now new : ReplicaView) (records : List Input) (have count : ℕ) → have ≡ length now.journal - length held.journal → new.scheme ≡ now.scheme → new.node ≡ now.node
    → new.journal ≡ now.journal ++ take (length new.journal - length now.journal) (take (count - have) (drop have records)) → HasFollowed held records now → HasFollowed held records new
followed_on held now new records have count is scheme node journal followed =
    let m = length new.journal - length now.journal in
    record {
      scheme = scheme ∙ followed.scheme;
      node = node ∙ followed.node;
      journal = gone_further held.journal records now.journal new.journal have m followed.journal is (front_within now.journal new.journal (drop have records) (count - have) journal);
    }

fault_of_whole : (held now : ReplicaView) (records : List Input) (have m : ℕ) (fault : ReplayFault) → have ≡ length now.journal - length held.journal → HasFollowed held records now
    → HasFault now.scheme now.node (now.journal ++ take m (drop have records)) fault → HasFault held.scheme held.node (held.journal ++ records) fault
fault_of_whole held now records have m fault is followed bad =
    let front = now.journal ++ take m (drop have records) in
    fault_of_front held.scheme now.scheme held.node now.node (held.journal ++ records) front (length front) fault followed.scheme followed.node
    (sym (front_of held.journal records front (gone_further held.journal records now.journal front have m followed.journal is refl))) bad

-- the fault of a journal as one of a replica
abbrev pub as_unsettled : ReplayFault → Unsettled
as_unsettled (recording.NotRecorded place) = NotRecorded place
as_unsettled recording.NoMemory = NoMemory

pub fails_as : (held now : ReplicaView) (records : List Input) (have m : ℕ) (notes : List Note) (fault : ReplayFault) → have ≡ length now.journal - length held.journal → HasFollowed held records now
    → HasFault now.scheme now.node (now.journal ++ take m (drop have records)) fault → FailsToFollow held records notes (as_unsettled fault)
fails_as held now records have m notes (recording.NotRecorded place) is followed bad = fault_of_whole held now records have m (recording.NotRecorded place) is followed bad
fails_as held now records have m notes recording.NoMemory is followed bad = tt
