-- Notes that a replica judges one after another.
use Rattle.std.proofs.Common.{◌≡◌, ◌⊎◌, ◌∙◌, ◌+◌, ◌-◌, ◌<◌, ◌≤◌, ◌++◌, ℕ, List, [], ◌∷◌, length, take, get_or, refl, sym, ap, subst, arith, inl, inr, Some, length-append}
use Rattle.std.specs.Prelude.{All, slice_get}
use Rattle.std.proofs.lemmas.List.{take-append-le, take_more}
use Rattle.std.proofs.lemmas.List.Elements.{All-push}
use Rattle.std.proofs.lemmas.Option.{slice_get_read}
use Rattle.units.specs.declared.code.Node.{Node}
use Rattle.wire.specs.declared.input.Input.{Input}
use Rattle.scheme.specs.declared.registries.Scheme.{Scheme}
use Rattle.node_state.specs.declared.notes.Note.{Note}
use Rattle.node_state.specs.Expected.{expected}
use Rattle.settling.specs.declared.life.Unsettled.{Unsettled}
use Rattle.settling.specs.declared.life.Unsettled.TheVariants.{Missing, Twice, Differs, NotCommitted, Fell, Untrue, NotRecorded, NoMemory}
use Rattle.settling.specs.Settling.{Bears}
use Rattle.settling.specs.Replicas.{AwaitsMore, FailsToFollow, HasFollowed, FailsToJudge, ReplicaView, SomeFell}
use Rattle.settling.proofs.FollowedRecords.{front_of, not_longer}

-- the expected result after the replica's records is that after the same records of the whole journal
told_in_whole : (held now : ReplicaView) (records : List Input) (note : Note) → HasFollowed held records now → length now.journal ≡ note.length
    → expected held.scheme held.node (take note.length (held.journal ++ records)) note.asked ≡ expected now.scheme now.node now.journal note.asked
told_in_whole held now records note followed long =
    let front : take note.length (held.journal ++ records) ≡ now.journal = ap (λ k. take k (held.journal ++ records)) (sym long) ∙ front_of held.journal records now.journal followed.journal in
    ap (λ (j : List Input). expected held.scheme held.node j note.asked) front ∙ (ap (λ (s : Scheme). expected s held.node now.journal note.asked) (sym followed.scheme) ∙ ap (λ (n : Node). expected now.scheme n now.journal note.asked) (sym followed.node))

bears_in_whole : (held now : ReplicaView) (records : List Input) (note : Note) → HasFollowed held records now → length now.journal ≡ note.length → expected now.scheme now.node now.journal note.asked ≡ note.told
    → Bears held.scheme held.node (held.journal ++ records) note
bears_in_whole held now records note followed long told =
    let most = not_longer held now records followed in
    let all : length (held.journal ++ records) ≡ length held.journal + length records = length-append held.journal records in
    (omega (arith, most, all, long), told_in_whole held now records note followed long ∙ told)

-- a journal that goes on still bears out what it bore out before
pub bears_more : (scheme : Scheme) (n : Node) (journal more : List Input) (note : Note) → Bears scheme n journal note → Bears scheme n (journal ++ more) note
bears_more scheme n journal more note h =
    let all : length (journal ++ more) ≡ length journal + length more = length-append journal more in
    (omega (arith, h.0, all), ap (λ (j : List Input). expected scheme n j note.asked) (take-append-le note.length journal more h.0) ∙ h.1)

-- ---- a turn

-- the first notes are borne out, and the replica has no record that the last of them didn't need
pub record Judged (held : ReplicaView) (records : List Input) (notes : List Note) (k : ℕ) (now : ReplicaView) : Type 0 where
  pub followed : HasFollowed held records now
  pub from : length held.journal ≤ length now.journal
  pub last : (length now.journal ≡ length held.journal) ⊎ ((j : ℕ) × (note : Note) × (j + 1 ≡ k) × (slice_get notes j ≡ Some note) × (note.length ≡ length now.journal))
  pub borne : All (Bears held.scheme held.node (held.journal ++ records)) (take k notes)

module _ (held : ReplicaView) (records : List Input) (notes : List Note) (k : ℕ) (note : Note) (below : k < length notes) (is : note ≡ get_or notes k note) where
  there : slice_get notes k ≡ Some note
  there = slice_get_read notes (length notes) k note refl below is

  pub one_judged : (now mid new : ReplicaView) → Judged held records notes k now → HasFollowed held records mid → length mid.journal ≡ note.length → length held.journal ≤ note.length → new.scheme ≡ mid.scheme → new.node ≡ mid.node
      → new.journal ≡ mid.journal → expected mid.scheme mid.node mid.journal note.asked ≡ note.told → Judged held records notes (k + 1) new
  one_judged now mid new judged followed long low scheme node journal told =
      let size : length new.journal ≡ note.length = ap length journal ∙ long in
      let same : new.journal ≡ held.journal ++ take (length new.journal - length held.journal) records =
      journal ∙ (followed.journal ∙ ap (λ (l : List Input). held.journal ++ take (length l - length held.journal) records) (sym journal)) in
      let bears : Bears held.scheme held.node (held.journal ++ records) note = bears_in_whole held mid records note followed long told in
      let all = All-push (Bears held.scheme held.node (held.journal ++ records)) (take k notes) note judged.borne bears in
      record {
        followed = record { scheme = scheme ∙ followed.scheme; node = node ∙ followed.node; journal = same };
        from = omega (arith, low, size);
        last = inr (k, note, refl, there, sym size);
        borne = subst (All (Bears held.scheme held.node (held.journal ++ records))) (ap (λ x. take k notes ++ x ∷ []) is ∙ sym (take_more notes k note below)) all;
      }

  pub too_short : note.length < length held.journal → FailsToFollow held records notes (Untrue note.length)
  too_short low = (k, note, below, sym is, (refl, λ from. absurd (omega (arith, low, from))))

  pub awaits : (len : ℕ) → len < note.length → AwaitsMore len notes k
  awaits len low = inr (note, there, low)

  pub fell : (now : ReplicaView) → Judged held records notes k now → length held.journal ≤ note.length → note.length < length now.journal → SomeFell notes
  fell now judged low less =
      elim judged.last [
        | inl none ↦ absurd (omega (arith, none, low, less))
        | inr some ↦ (some.0, some.1, note, some.3, ap (slice_get notes) some.2 ∙ there, omega (arith, some.4, less))
      ]

  pub unborne : (mid : ReplicaView) (fault : Unsettled) → HasFollowed held records mid → length mid.journal ≡ note.length → FailsToJudge mid note fault → FailsToFollow held records notes fault
  unborne mid (Untrue len) followed long bad =
      (k, note, below, sym is, (bad.0, λ from no_record bears. bad.1 no_record (sym (told_in_whole held mid records note followed long) ∙ bears.1)))
  unborne mid NoMemory followed long bad = tt
  unborne mid (Missing place) followed long bad = absurd bad
  unborne mid (Twice place) followed long bad = absurd bad
  unborne mid (Differs place) followed long bad = absurd bad
  unborne mid (NotCommitted len) followed long bad = absurd bad
  unborne mid Fell followed long bad = absurd bad
  unborne mid (NotRecorded place) followed long bad = absurd bad
