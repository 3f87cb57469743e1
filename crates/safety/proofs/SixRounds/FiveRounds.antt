-- Five rounds are too few: a transfer that is accepted, one message a round, is open at its acquirer after the fifth.
use Rattle.std.proofs.Common.{◌≡◌, List, [], ◌∷◌, ◌++◌, false, Some, None, cond, is_some, inl, inr, refl, sym, ap, subst, ◌∙◌}
use Rattle.std.proofs.lemmas.Bool.{cases_Bool}
use Rattle.units.proofs.Lists.Membership.{In}
use Rattle.units.proofs.Lists.Positions.{In_contains}
use Rattle.units.proofs.Same.{code_of_same}
use Rattle.units.specs.Code.{same_code}
use Rattle.units.specs.declared.code.Code.{Code}
use Rattle.units.specs.declared.code.Node.{Node}
use Rattle.units.specs.declared.code.Node.TheVariants.{Itl, Registry}
use Rattle.status.specs.declared.status.Status.TheVariants.{Accepted}
use Rattle.wire.specs.declared.message.Message.{Message}
use Rattle.scheme.specs.declared.registries.Scheme.{Scheme}
use Rattle.protocol.specs.declared.event.WorldEvent.{WorldEvent}
use Rattle.protocol.specs.Claims.{committed_of}
use Rattle.protocol.specs.History.{Entry, sends}
use Rattle.protocol.specs.Registries.{is_node}
use Rattle.safety.specs.Rounds.{HasRounds, IsRound, IsSettled, RoundsEnd}
use Rattle.protocol.specs.Verdict.{verdict}
use Rattle.protocol.specs.World.{World, opening, run, step}
use Rattle.protocol.proofs.WorkedScheme.{all_units, commit, deliver, first_of_may, jp, jp_member, jp_node, nz, nz1, nz_member, nz_node, post, propose, scheme_s}
use Rattle.safety.proofs.WorldLemmas.NodesWithStation.{committed_unplaced, opening_placed, run_placed}
use Rattle.safety.proofs.WorldLemmas.SchemesKept.{run_scheme}

-- ---- the events

abbrev pub proposed : List WorldEvent
proposed = propose nz 1 jp 7 all_units ∷ commit nz_node 1 ∷ []

-- the proposal reaches the log, and then the acquirer
abbrev first : List WorldEvent
first = post nz_node 0 ∷ deliver 0 ∷ commit Itl 1 ∷ []

abbrev second : List WorldEvent
second = post Itl 0 ∷ deliver 1 ∷ commit jp_node 1 ∷ []

-- Accepted reaches the log, and then the initiator
abbrev third : List WorldEvent
third = post jp_node 0 ∷ deliver 2 ∷ commit Itl 1 ∷ []

abbrev fourth : List WorldEvent
fourth = post Itl 1 ∷ deliver 3 ∷ commit nz_node 1 ∷ []

-- Completed reaches the log
abbrev fifth : List WorldEvent
fifth = post nz_node 1 ∷ deliver 4 ∷ commit Itl 1 ∷ []

-- Completed reaches the acquirer
abbrev sixth : List WorldEvent
sixth = post Itl 2 ∷ deliver 5 ∷ commit jp_node 1 ∷ []

abbrev w0 : World
w0 = run (opening scheme_s) proposed

abbrev w1 : World
w1 = run w0 first

abbrev w2 : World
w2 = run w1 second

abbrev w3 : World
w3 = run w2 third

abbrev w4 : World
w4 = run w3 fourth

abbrev w5 : World
w5 = run w4 fifth

abbrev w6 : World
w6 = run w5 sixth

-- ---- a round of this scheme's nodes

abbrev AreSettled : World → World → Node → Type 0
AreSettled w v n = (m : Message) → In m (sends (committed_of w n)) → IsSettled v m

round : (events : List WorldEvent) (v : World) → AreSettled (run (opening scheme_s) events) v Itl → AreSettled (run (opening scheme_s) events) v nz_node → AreSettled (run (opening scheme_s) events) v jp_node
    → IsRound (run (opening scheme_s) events) v
round events v log own other n m h = go n (In_contains (sends (committed_of (run (opening scheme_s) events) n)) m h)
  where
    w : World
    w = run (opening scheme_s) events

    at : (c : Code) → In m (sends (committed_of w (Registry c))) → IsSettled v m
    at c i =
        elim (cases_Bool (same_code jp c)) [
          | inl y ↦ other m (subst (λ z. In m (sends (committed_of w (Registry z)))) (sym (code_of_same jp c y)) i)
          | inr a ↦
              elim (cases_Bool (same_code nz c)) [
                | inl y ↦ own m (subst (λ z. In m (sends (committed_of w (Registry z)))) (sym (code_of_same nz c y)) i)
                | inr b ↦
                    let none : is_node scheme_s (Registry c) ≡ false = ap (λ z. is_some (cond z (Some jp_member) (cond (same_code nz c) (Some nz_member) None))) a ∙ ap (λ z. is_some (cond z (Some nz_member) None)) b in
                    let empty : committed_of w (Registry c) ≡ [] =
                    committed_unplaced w (run_placed (opening scheme_s) events (opening_placed scheme_s)) (Registry c) (subst (λ (z : Scheme). is_node z (Registry c) ≡ false) (sym (run_scheme (opening scheme_s) events)) none) in
                    absurd (subst (λ (es : List Entry). In m (sends es)) empty i)
              ]
        ]

    go : (k : Node) → In m (sends (committed_of w k)) → IsSettled v m
    go Itl i = log m i
    go (Registry c) i = at c i

first_of_log : AreSettled w0 w1 Itl
unfolding step verdict
first_of_log m e = absurd e

first_of_nz : AreSettled w0 w1 nz_node
unfolding step verdict
first_of_nz m (inl e) = subst (IsSettled w1) e (first_of_may, inl refl)
first_of_nz m (inr e) = absurd e

first_of_jp : AreSettled w0 w1 jp_node
unfolding step verdict
first_of_jp m e = absurd e

second_of_log : AreSettled w1 w2 Itl
unfolding step verdict
second_of_log m (inl e) = subst (IsSettled w2) e (first_of_may, inl refl)
second_of_log m (inr e) = absurd e

second_of_nz : AreSettled w1 w2 nz_node
unfolding step verdict
second_of_nz m (inl e) = subst (IsSettled w2) e (first_of_may, inl refl)
second_of_nz m (inr e) = absurd e

second_of_jp : AreSettled w1 w2 jp_node
unfolding step verdict
second_of_jp m e = absurd e

third_of_log : AreSettled w2 w3 Itl
unfolding step verdict
third_of_log m (inl e) = subst (IsSettled w3) e (first_of_may, inl refl)
third_of_log m (inr e) = absurd e

third_of_nz : AreSettled w2 w3 nz_node
unfolding step verdict
third_of_nz m (inl e) = subst (IsSettled w3) e (first_of_may, inl refl)
third_of_nz m (inr e) = absurd e

third_of_jp : AreSettled w2 w3 jp_node
unfolding step verdict
third_of_jp m (inl e) = subst (IsSettled w3) e (first_of_may, inl refl)
third_of_jp m (inr e) = absurd e

fourth_of_log : AreSettled w3 w4 Itl
unfolding step verdict
fourth_of_log m (inl e) = subst (IsSettled w4) e (first_of_may, inl refl)
fourth_of_log m (inr (inl e)) = subst (IsSettled w4) e (first_of_may, inl refl)
fourth_of_log m (inr (inr e)) = absurd e

fourth_of_nz : AreSettled w3 w4 nz_node
unfolding step verdict
fourth_of_nz m (inl e) = subst (IsSettled w4) e (first_of_may, inl refl)
fourth_of_nz m (inr e) = absurd e

fourth_of_jp : AreSettled w3 w4 jp_node
unfolding step verdict
fourth_of_jp m (inl e) = subst (IsSettled w4) e (first_of_may, inl refl)
fourth_of_jp m (inr e) = absurd e

fifth_of_log : AreSettled w4 w5 Itl
unfolding step verdict
fifth_of_log m (inl e) = subst (IsSettled w5) e (first_of_may, inl refl)
fifth_of_log m (inr (inl e)) = subst (IsSettled w5) e (first_of_may, inl refl)
fifth_of_log m (inr (inr e)) = absurd e

fifth_of_nz : AreSettled w4 w5 nz_node
unfolding step verdict
fifth_of_nz m (inl e) = subst (IsSettled w5) e (first_of_may, inl refl)
fifth_of_nz m (inr (inl e)) = subst (IsSettled w5) e (first_of_may, inl refl)
fifth_of_nz m (inr (inr e)) = absurd e

fifth_of_jp : AreSettled w4 w5 jp_node
unfolding step verdict
fifth_of_jp m (inl e) = subst (IsSettled w5) e (first_of_may, inl refl)
fifth_of_jp m (inr e) = absurd e

sixth_of_log : AreSettled w5 w6 Itl
unfolding step verdict
sixth_of_log m (inl e) = subst (IsSettled w6) e (first_of_may, inl refl)
sixth_of_log m (inr (inl e)) = subst (IsSettled w6) e (first_of_may, inl refl)
sixth_of_log m (inr (inr (inl e))) = subst (IsSettled w6) e (first_of_may, inl refl)
sixth_of_log m (inr (inr (inr e))) = absurd e

sixth_of_nz : AreSettled w5 w6 nz_node
unfolding step verdict
sixth_of_nz m (inl e) = subst (IsSettled w6) e (first_of_may, inl refl)
sixth_of_nz m (inr (inl e)) = subst (IsSettled w6) e (first_of_may, inl refl)
sixth_of_nz m (inr (inr e)) = absurd e

sixth_of_jp : AreSettled w5 w6 jp_node
unfolding step verdict
sixth_of_jp m (inl e) = subst (IsSettled w6) e (first_of_may, inl refl)
sixth_of_jp m (inr e) = absurd e

-- ---- five rounds, and six

abbrev after_first : List WorldEvent
after_first = second ++ (third ++ (fourth ++ (fifth ++ [])))

first_round : IsRound w0 w1
first_round = round proposed w1 first_of_log first_of_nz first_of_jp

second_round : IsRound w1 w2
second_round = round (proposed ++ first) w2 second_of_log second_of_nz second_of_jp

third_round : IsRound w2 w3
third_round = round (proposed ++ (first ++ second)) w3 third_of_log third_of_nz third_of_jp

fourth_round : IsRound w3 w4
fourth_round = round (proposed ++ (first ++ (second ++ third))) w4 fourth_of_log fourth_of_nz fourth_of_jp

fifth_round : IsRound w4 w5
fifth_round = round (proposed ++ (first ++ (second ++ (third ++ fourth)))) w5 fifth_of_log fifth_of_nz fifth_of_jp

sixth_round : IsRound w5 w6
sixth_round = round (proposed ++ (first ++ (second ++ (third ++ (fourth ++ fifth))))) w6 sixth_of_log sixth_of_nz sixth_of_jp

five : HasRounds 5 w0 (first ++ after_first)
five = (
  first,
  after_first,
  refl,
  first_round,
  (
    second,
    third ++ (fourth ++ (fifth ++ [])),
    refl,
    second_round,
    (
      third,
      fourth ++ (fifth ++ []),
      refl,
      third_round,
      (
        fourth,
        fifth ++ [],
        refl,
        fourth_round,
        (fifth, [], refl, fifth_round, tt),
      ),
    ),
  ),
)

-- the premise of the law holds of these events
pub six : HasRounds 6 w0 (first ++ (second ++ (third ++ (fourth ++ (fifth ++ (sixth ++ []))))))
six = (
  first,
  second ++ (third ++ (fourth ++ (fifth ++ (sixth ++ [])))),
  refl,
  first_round,
  (
    second,
    third ++ (fourth ++ (fifth ++ (sixth ++ []))),
    refl,
    second_round,
    (
      third,
      fourth ++ (fifth ++ (sixth ++ [])),
      refl,
      third_round,
      (
        fourth,
        fifth ++ (sixth ++ []),
        refl,
        fourth_round,
        (
          fifth,
          sixth ++ [],
          refl,
          fifth_round,
          (sixth, [], refl, sixth_round, tt),
        ),
      ),
    ),
  ),
)

pub not_ended : RoundsEnd 5 w0 → ⊥
unfolding step verdict
not_ended claim = (claim (first ++ after_first) five nz1 refl).0.closed (jp_node, Accepted, refl, inr (inr refl))
