use Rattle.std.proofs.Common.{◌≡◌, ◌∙◌, ◌+◌, ◌-◌, ◌≤◌, ◌++◌, ℕ, All, List, length, drop, min, take, ap, arith, subst, sym}
use Rattle.std.proofs.lemmas.List.{take_rest}
use Rattle.protocol.specs.Input.{Input}
use Rattle.node_state.specs.declared.notes.Note.{Note}
use Rattle.settling.specs.Replicas.{AwaitsMore, ReplicaView}
use Rattle.settling.specs.Settling.{Bears}
use Rattle.one_node.proofs.Forgetting.{count_within, followed}
use Rattle.one_node.proofs.evidence.Evidence.follow.Goals as goal

pub returns-in-Ok : goal.returns-in-Ok
returns-in-Ok g c =
    let old = c.args.self.now in
    let new = c.count_judged.new.self in
    let did = c.in-Ok.ensures in
    let replica = c.count_judged.ensures.replica in
    let same = c.notes-notes.ensures.value in
    let notes : List Note = old.seat.notes in
    let first : ℕ = c.min-first.result in
    let count : ℕ = c.in-Ok.count in
    let journal : List Input = c.follow.new.self.journal in
    let long : length c.notes-notes.result.now ≡ length notes = ap length same in
    let first_is : first ≡ min old.judged (length notes) = omega (arith, c.min-first.ensures, long) in
    let low : first ≤ length notes = omega (arith, first_is) in
    let rest : take (length c.notes-notes.result.now - first) (drop first c.notes-notes.result.now) ≡ drop first notes = take_rest c.notes-notes.result.now first ∙ ap (drop first) same in
    let all : AwaitsMore (length journal) (drop first notes) count = subst (λ (ns : List Note). AwaitsMore (length journal) ns count) rest did.all in
    let within : count ≤ length notes - first = count_within notes first (length journal) count low all in
    let more : c.min-more.result ≡ count = omega (arith, c.min-more.ensures, within, long) in
    let bear : All (Bears old.replica.scheme old.replica.node journal) (take count (drop first notes)) =
    subst (λ (ns : List Note). All (Bears old.replica.scheme old.replica.node journal) (take count ns)) rest did.borne in
    followed old new c.in_ok-records.records.items count (first + c.min-more.result)
    (ap (λ (r : ReplicaView). r.scheme) replica ∙ did.scheme) (ap (λ (r : ReplicaView). r.node) replica ∙ did.node)
    (ap (λ (r : ReplicaView). r.journal) replica ∙ (did.journal ∙ ap (λ (rs : List Input). old.replica.journal ++ rs) c.as_slice.ensures.value))
    first first_is (omega (arith, more)) (omega (arith, more, within, low))
    (subst (λ (r : ReplicaView). All (Bears old.replica.scheme old.replica.node r.journal) (take count (drop first notes))) (sym replica) bear) c.count_judged.ensures.counted
