-- The fact is part of a connection's invariant, and no clause of a call states it. A `&` to a connection holds a `&` to
-- fields that satisfy the invariant, so the fact is read there before the walk that Rattle made.
use Rattle.std.proofs.Common.{◌≡◌, IsTrue, false, sym, ap, subst, ◌∷◌, []}
use base.Logic.{via, mono_r, fst∗, snd∗, sep}
use base.Fml.{ftrue, fsep}
use types.Logic.{sem}
use types.Kit.{‵, ◌$◌, !, qed, by, move, fsplit, fpick}
use contract.Monad.{fact, fact_i, fact_use, fact_mono}
use denote.Opens.{unhide}
use denote.Param.{param}
use denote.Ref.{ShrRef}
use denote.Triple.Entry.{on_entry, alive}
use borrow.Fn.Kinds.{sig_of}
use mir.Syntax.{named}
use Rattle.sqlite.specs.Held.{Held, state}
use Rattle.sqlite.specs.contracts.connection.Connection as connection
use Rattle.durable.proofs.opening.is_whole.Statement.{statement}
use Rattle.durable.proofs.opening.is_whole.Lts as lts
use Rattle.durable.proofs.opening.is_whole.Reads as reads
use Rattle.durable.proofs.opening.is_whole.Tie as tie

pub is_whole_spec : {M : Type 1} → statement M
is_whole_spec {M} =
    tie.close (λ T L A da St ds w mA mS 𝓤 𝓛 𝓣 y.
    let h = y.0.3.0.now in
    let φ = IsTrue (state St h).is_open → (St.view h.store).is_broken ≡ false in
    let R = connection.the_row (param 0 T) St in
    let S = sig_of 2 (lts.ps T L A da St ds) (lts.r T L A da St ds) in
    let entry = on_entry 𝓛 S y.0.0 y.0.1 y.0.3 y.0.4 in
    let own = (ShrRef (named 0) y.0.0.0 R).own_val y.0.3.0 y.0.4.0 in
    let told = qed 𝓛 (‵ own ∷ []) {P = fact 𝓤 φ} (fsplit ! $ move ! (1 ∷ []) $ unhide ! $ fpick ! (λ x. by ! (fact_i 𝓤 φ _ (λ still.
    let same : x.0.store ≡ h.store = ap (λ (z : Held T.Denot). z.store) x.1.0 in
    subst (λ s. (St.view s).is_broken ≡ false) same (x.1.1.0.serves (subst (λ s. IsTrue (St.view s).is_open) (sym same) still)).unbroken)))) in
    let before = reads.Pre T L A da St ds y.0.0 y.0.3 in
    via 𝓤 (sep 𝓤 entry (fact 𝓤 φ))
    (fact_use 𝓤 φ
    (via 𝓤 entry (fst∗ 𝓤 entry (fact 𝓤 before))
    (via 𝓤 (sem 𝓛 (fsep own ftrue)) (snd∗ 𝓤 (alive 𝓛 S y.0.0 y.0.1) (sem 𝓛 (fsep own ftrue))) (via 𝓤 (sem 𝓛 own) (fst∗ 𝓤 (sem 𝓛 own) (sem 𝓛 ftrue)) told)))
    (λ can. mono_r 𝓤 entry (fact_mono 𝓤 before φ (λ _. can))))
    (lts.spec T L A da St ds (λ κs a. IsTrue (state St a.0.now).is_open → (St.view a.0.now.store).is_broken ≡ false) (reads.Post T L A da St ds) (λ c. c.requires) 𝓤 𝓛 𝓣 y))
