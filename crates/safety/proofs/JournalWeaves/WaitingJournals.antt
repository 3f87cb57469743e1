-- Two journals that wait for one another, though each of their records is recorded and each message was sent. A
-- scheme of two registries and two short journals are written out, and their claims are computed. NZ first records
-- a cancellation that the log sends only after it has heard NZ's own proposal. So after the one record of JP
-- neither the log nor NZ has a next record, and by `always_next` no events lead to the journals.
use Rattle.std.proofs.Common.{◌≡◌, List, [], ◌∷◌, ◌++◌, Bool, true, false, cond, inl, inr, refl, sym, subst, ◌∙◌, arith, lit<, lit≤}
use Rattle.std.proofs.lemmas.Bool.{cond-false, cases_Bool, and_parts}
use Rattle.units.proofs.Same.{code_of_same}
use Rattle.units.specs.Apart.{AreApart}
use Rattle.units.specs.Code.{same_code}
use Rattle.units.specs.declared.block.Block.{Block}
use Rattle.units.specs.declared.block.Kind.TheVariants.{Aau}
use Rattle.units.specs.declared.block.Period.TheVariants.{First}
use Rattle.units.specs.declared.block.RawBlock.{RawBlock}
use Rattle.units.specs.declared.code.Code.{Code}
use Rattle.units.specs.declared.code.Node.{Node}
use Rattle.units.specs.declared.code.Node.TheVariants.{Itl, Registry}
use Rattle.status.specs.Content.{Content}
use Rattle.status.specs.Id.{number_from}
use Rattle.status.specs.declared.id.TransactionId.{TransactionId}
use Rattle.wire.specs.declared.input.Input.{Input}
use Rattle.wire.specs.declared.input.Input.TheVariants.{Propose, CleanUp, Received}
use Rattle.protocol.proofs.MessageForms as message
use Rattle.wire.specs.declared.message.ProposalStatus.TheVariants as proposal
use Rattle.wire.specs.declared.notified.NotifiedStatus.TheVariants as notified
use Rattle.scheme.specs.Order.{AreFew, AreMembers}
use Rattle.scheme.specs.declared.members.SchemeRegistry.{SchemeRegistry}
use Rattle.scheme.specs.declared.registries.Scheme.{Scheme}
use Rattle.protocol.proofs.WorkedScheme.{nz, jp, nz_node, nz1, first_of_may, a_day_after, thousand, codes_differ}
use Rattle.protocol.proofs.Replaying.{replays_from}
use Rattle.protocol.specs.Cores.{Replays}
use Rattle.protocol.specs.Plausible.{AllSent, IsPlausible}
use Rattle.protocol.specs.Registries.{is_node}
use Rattle.protocol.specs.Verdict.{verdict}
use Rattle.protocol.specs.Weave.{Projects, WasSent, ArePrefixes}
use Rattle.protocol.specs.declared.event.WorldEvent.{WorldEvent}
use Rattle.safety.proofs.JournalWeaves.OrdersFromEvents.{always_next}

-- ---- a scheme of two registries with one unit each

abbrev one_of : Code → RawBlock
one_of c = record { origin = c; period = First; kind = Aau; first = 1; last = 1 }

abbrev block_of : Code → Block
block_of c = record { raw = one_of c; in_range = (lit≤ tt, lit≤ tt, lit≤ tt) }

abbrev member_of : Code → SchemeRegistry
member_of c = record { code = c; accounts = 1 ∷ []; allotted = record { account = 1; units = block_of c ∷ [] } ∷ []; eligible = true; kinds = Aau ∷ [] }

abbrev members : List SchemeRegistry
members = member_of jp ∷ member_of nz ∷ []

apart : AreApart (one_of jp) (one_of nz)
apart s a b = codes_differ (code_of_same jp s.origin (and_parts _ _ a).0 ∙ sym (code_of_same nz s.origin (and_parts _ _ b).0))

few : AreFew members
few = record { registries = lit≤ tt; accounts = (lit≤ tt, (lit≤ tt, tt)); blocks = lit≤ tt }

pub sound : AreMembers members
sound = record {
  free = (few, (lit≤ tt, (((codes_differ, tt), (tt, tt)), (((tt, tt), ((tt, tt), tt)), (((refl, tt), ((refl, tt), tt)), (((apart, tt), (tt, tt)), tt))))));
  numbered = (((lit≤ tt, lit≤ tt), tt), (((lit≤ tt, lit≤ tt), tt), tt));
  kinds = ((tt, tt), ((tt, tt), tt));
  ordered = ((refl, tt), (tt, tt));
}

abbrev pub two_units : Scheme
two_units = record { records = 1000; members = members; in_range = thousand; sound = sound }

-- ---- the journals

abbrev jp1 : TransactionId
jp1 = record { code = jp; number = 1; in_range = number_from 1 refl }

abbrev jp_asks : Input
jp_asks = Propose (record { account = 1; acquirer = nz; to_account = 1; units = one_of jp ∷ [] })

abbrev nz_asks : Input
nz_asks = Propose (record { account = 1; acquirer = jp; to_account = 1; units = one_of nz ∷ [] })

abbrev jp_content : Content
jp_content = record { account = 1; acquirer = nz; to_account = 1; units = one_of jp ∷ [] }

abbrev nz_content : Content
nz_content = record { account = 1; acquirer = jp; to_account = 1; units = one_of nz ∷ [] }

-- before it proposes, NZ hears of an end that comes after its own proposal
abbrev nz_hears : Input
nz_hears = Received (message.notification (record { from = Itl; to = nz_node; id = jp1; notified = notified.Cancelled })) first_of_may

abbrev log_hears_nz : Input
log_hears_nz = Received (message.proposal (record { from = nz_node; to = Itl; id = nz1; status = proposal.Proposed; content = nz_content })) first_of_may

abbrev log_hears_jp : Input
log_hears_jp = Received (message.proposal (record { from = Registry jp; to = Itl; id = jp1; status = proposal.Proposed; content = jp_content })) first_of_may

abbrev of_jp : List Input
of_jp = jp_asks ∷ []

abbrev of_nz : List Input
of_nz = nz_hears ∷ nz_asks ∷ []

abbrev pub journals : Node → List Input
journals Itl = log_hears_nz ∷ log_hears_jp ∷ CleanUp a_day_after ∷ []
journals (Registry c) = cond (same_code c jp) of_jp (cond (same_code c nz) of_nz [])

-- as far as they can come
abbrev past : Node → List Input
past Itl = []
past (Registry c) = cond (same_code c jp) of_jp []

no_third : (c : Code) → same_code c jp ≡ false → same_code c nz ≡ false → journals (Registry c) ≡ []
no_third c a b = cond-false (same_code c jp) of_jp (cond (same_code c nz) of_nz []) a ∙ cond-false (same_code c nz) of_nz [] b

-- what holds of JP, of NZ, and of registries without a journal, holds of each
each : (P : (c : Code) → List Input → Type 0) → P jp of_jp → P nz of_nz → ((c : Code) → same_code c jp ≡ false → same_code c nz ≡ false → P c []) → (c : Code) → P c (journals (Registry c))
each P at_jp at_nz other c =
    elim (cases_Bool (same_code c jp)) [
      | inl y ↦ subst (λ z. P z (journals (Registry z))) (sym (code_of_same c jp y)) at_jp
      | inr a ↦
          elim (cases_Bool (same_code c nz)) [
            | inl y ↦ subst (λ z. P z (journals (Registry z))) (sym (code_of_same c nz y)) at_nz
            | inr b ↦ subst (P c) (sym (no_third c a b)) (other c a b)
          ]
    ]

-- ---- they are plausible

pub plausible : IsPlausible two_units journals
unfolding verdict
plausible Itl = ((λ h. absurd (cc (h))), replays_from two_units Itl (journals Itl) ((_, refl), ((_, refl), ((_, refl), tt))), ((refl, (0, lit< tt, refl)), ((refl, (0, lit< tt, refl)), (tt, tt))))
plausible (Registry c) =
    each (λ d js. (is_node two_units (Registry d) ≡ false → js ≡ []) × Replays two_units (Registry d) js × AllSent two_units journals js (Registry d))
    ((λ h. absurd (cc (h))), replays_from two_units (Registry jp) of_jp ((_, refl), tt), (tt, tt))
    ((λ h. absurd (cc (h))), replays_from two_units (Registry nz) of_nz ((_, refl), ((_, refl), tt)), ((refl, (3, lit< tt, refl)), (tt, tt)))
    (λ d a b. ((λ h. refl), replays_from two_units (Registry d) [] tt, tt)) c

-- ---- and no events lead to them

goes_on : ArePrefixes past journals
goes_on Itl = (journals Itl, refl)
goes_on (Registry c) = go (same_code c jp)
  where
    go : (b : Bool) → (rest : List Input) × (cond b of_jp (cond (same_code c nz) of_nz []) ≡ cond b of_jp [] ++ rest)
    go true = ([], refl)
    go false = (cond (same_code c nz) of_nz [], refl)

-- neither first record that is left was sent
none_next : (n : Node) (input : Input) (rest : List Input) → WasSent two_units past n input → journals n ≡ past n ++ input ∷ rest → ⊥
none_next Itl input rest sent e =
    let first : input ≡ log_hears_nz = cc (e) in
    let s : WasSent two_units past Itl log_hears_nz = subst (WasSent two_units past Itl) first sent in
    let below = s.1.1 in
    omega arith
none_next (Registry c) input rest sent e = go (same_code c jp) e
  where
    second : (b : Bool) → cond b of_nz [] ≡ input ∷ rest → ⊥
    second true f =
        let first : input ≡ nz_hears = cc (f) in
        let s : WasSent two_units past (Registry c) nz_hears = subst (WasSent two_units past (Registry c)) first sent in
        let below = s.1.1 in
        omega arith
    second false f = cc (f)

    go : (b : Bool) → cond b of_jp (cond (same_code c nz) of_nz []) ≡ cond b of_jp [] ++ input ∷ rest → ⊥
    go true f = cc (f)
    go false f = second (same_code c nz) f

pub not_projected : (events : List WorldEvent) → Projects two_units events journals → ⊥
not_projected events h =
    elim (always_next two_units events journals past h goes_on) [
      | inl same ↦ let e = same Itl in cc (e)
      | inr next ↦ none_next next.0.node next.0.input next.2.0 next.1.2 next.2.1
    ]
