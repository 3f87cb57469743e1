-- Orders of records: from any part of the journals that an order makes, one of its records is next. The order is gone
-- through from its first record. The first record that the part does not have yet is next: all records before it are
-- there, its verdict is the same, and the message that it received was sent. It remains next when other nodes have more
-- records, since the messages that were sent remain sent.
use Rattle.std.proofs.Common.{◌≡◌, List, [], ◌∷◌, ◌++◌, false, ◌⊎◌, inl, inr, refl, sym, ap, subst, ◌∙◌, append_assoc}
use Rattle.std.proofs.lemmas.Bool.{cond-true, cond-false, cases_Bool}
use Rattle.std.proofs.lemmas.List.{append-nil, append_cancel_left}
use Rattle.units.proofs.Same.{node_of_same, same_node-refl}
use Rattle.units.specs.Code.{same_node}
use Rattle.units.specs.declared.code.Node.{Node}
use Rattle.wire.specs.declared.input.Input.{Input}
use Rattle.wire.specs.declared.input.Input.TheVariants.{Propose, Request, OpenAccount, CloseAccount, Ack, CleanUp, Eligible, Received}
use Rattle.scheme.specs.declared.registries.Scheme.{Scheme}
use Rattle.protocol.specs.Deciding.{IsRecorded}
use Rattle.protocol.specs.History.{sends}
use Rattle.protocol.specs.Verdict.{verdict, history}
use Rattle.protocol.specs.Weave.{Placed, journals_of, WasSent, InTurn, ArePrefixes, HasNext}
use Rattle.safety.proofs.MovesAndHistories.LongerHistories.{sends_append}
use Rattle.units.proofs.Lists.Membership.{In}
use Rattle.units.proofs.Lists.Positions.{In_contains, contains_in, left_empty}

-- ---- one more record

pub journals_here : (r : Placed) (rs : List Placed) → journals_of (r ∷ rs) r.node ≡ journals_of rs r.node ++ r.input ∷ []
journals_here r rs = cond-true (same_node r.node r.node) (journals_of rs r.node ++ r.input ∷ []) (journals_of rs r.node) (same_node-refl r.node)

pub journals_there : (r : Placed) (rs : List Placed) (n : Node) → same_node n r.node ≡ false → journals_of (r ∷ rs) n ≡ journals_of rs n
journals_there r rs n other = cond-false (same_node n r.node) (journals_of rs n ++ r.input ∷ []) (journals_of rs n) other

-- more may have been sent since
pub sent_later : (scheme : Scheme) (a b : Node → List Input) → ArePrefixes a b → (n : Node) (input : Input) → WasSent scheme a n input → WasSent scheme b n input
sent_later scheme a b on n (Received m moment) h = (
  h.0,
  contains_in (sends (history scheme m.from (b m.from))) m
      (subst (λ xs. In m (sends (history scheme m.from xs))) (sym (on m.from).1)
      (sends_append scheme m.from (a m.from) (on m.from).0 m (In_contains (sends (history scheme m.from (a m.from))) m h.1))),
)
sent_later scheme a b on n (Propose o) h = tt
sent_later scheme a b on n (Request t) h = tt
sent_later scheme a b on n (OpenAccount account) h = tt
sent_later scheme a b on n (CloseAccount account) h = tt
sent_later scheme a b on n (Ack key) h = tt
sent_later scheme a b on n (CleanUp moment) h = tt
sent_later scheme a b on n (Eligible c may) h = tt

-- first records of the same journals
pub prefixes_alike : (a b whole : Node → List Input) → ((n : Node) → a n ≡ b n) → ArePrefixes b whole → ArePrefixes a whole
prefixes_alike a b whole same on n = ((on n).0, subst (λ xs. whole n ≡ xs ++ (on n).0) (sym (same n)) (on n).1)

module _ (scheme : Scheme) (past whole : Node → List Input) (on : ArePrefixes past whole) where
  -- either the journals so far have all records of the order, or one of them is next
  pub greedy_to : (order : List Placed) → InTurn scheme order → ArePrefixes (journals_of order) whole → ArePrefixes (journals_of order) past ⊎ HasNext scheme past whole
  greedy_to [] turn inside = inl (λ n. (past n, refl))
  greedy_to (r ∷ rs) turn inside =
      elim (greedy_to rs turn.1 older) [
        | inl covers ↦ at_node covers (covers r.node).0 (covers r.node).1
        | inr next ↦ inr next
      ]
    where
      whole_is : whole r.node ≡ journals_of rs r.node ++ r.input ∷ (inside r.node).0
      whole_is = (inside r.node).1 ∙ ap (λ xs. xs ++ (inside r.node).0) (journals_here r rs) ∙ append_assoc (journals_of rs r.node) (r.input ∷ []) (inside r.node).0

      older : ArePrefixes (journals_of rs) whole
      older n =
          elim (cases_Bool (same_node n r.node)) [
            | inl y ↦ (r.input ∷ (inside r.node).0, subst (λ z. whole z ≡ journals_of rs z ++ r.input ∷ (inside r.node).0) (sym (node_of_same n r.node y)) whole_is)
            | inr other ↦ ((inside n).0, (inside n).1 ∙ ap (λ xs. xs ++ (inside n).0) (journals_there r rs n other))
          ]

      at_node : ArePrefixes (journals_of rs) past → (extra : List Input) → past r.node ≡ journals_of rs r.node ++ extra → ArePrefixes (journals_of (r ∷ rs)) past ⊎ HasNext scheme past whole
      at_node covers [] e =
          let same : past r.node ≡ journals_of rs r.node = e ∙ append-nil (journals_of rs r.node) in
          let next = turn.0 in
          inr (
            r,
            (
              next.0,
              (next.1.0, subst (λ xs. verdict scheme r.node (history scheme r.node xs) r.input ≡ IsRecorded next.1.0) (sym same) next.1.1),
              sent_later scheme (journals_of rs) past covers r.node r.input next.2,
            ),
            ((inside r.node).0, subst (λ xs. whole r.node ≡ xs ++ r.input ∷ (inside r.node).0) (sym same) whole_is),
          )
      at_node covers (x ∷ xs) e =
          let past_is : whole r.node ≡ journals_of rs r.node ++ (x ∷ (xs ++ (on r.node).0)) = (on r.node).1 ∙ ap (λ zs. zs ++ (on r.node).0) e ∙ append_assoc (journals_of rs r.node) (x ∷ xs) (on r.node).0 in
          let tails = append_cancel_left (journals_of rs r.node) (r.input ∷ (inside r.node).0) (x ∷ (xs ++ (on r.node).0)) (sym whole_is ∙ past_is) in
          let first : x ≡ r.input = cc (tails) in
          inl
          (λ n.
          elim (cases_Bool (same_node n r.node)) [
            | inl y ↦ (
              xs,
              subst (λ z. past z ≡ journals_of (r ∷ rs) z ++ xs) (sym (node_of_same n r.node y))
                  (e ∙ ap (λ z. journals_of rs r.node ++ z ∷ xs) first ∙ sym (append_assoc (journals_of rs r.node) (r.input ∷ []) xs) ∙ ap (λ zs. zs ++ xs) (sym (journals_here r rs))),
            )
            | inr other ↦ ((covers n).0, (covers n).1 ∙ ap (λ zs. zs ++ (covers n).0) (sym (journals_there r rs n other)))
          ])

-- journals that have an order go on from any part of them
pub never_stuck : (scheme : Scheme) (order : List Placed) (past whole : Node → List Input) → InTurn scheme order → ((n : Node) → journals_of order n ≡ whole n) → ArePrefixes past whole
    → ((n : Node) → past n ≡ whole n) ⊎ HasNext scheme past whole
never_stuck scheme order past whole turn same on =
    elim (greedy_to scheme past whole on order turn (λ n. ([], sym (same n) ∙ sym (append-nil (journals_of order n))))) [
      | inl covers ↦ inl (λ n. all covers n)
      | inr next ↦ inr next
    ]
  where
    all : ArePrefixes (journals_of order) past → (n : Node) → past n ≡ whole n
    all covers n =
        let covered : past n ≡ whole n ++ (covers n).0 = (covers n).1 ∙ ap (λ zs. zs ++ (covers n).0) (same n) in
        let both : whole n ++ [] ≡ whole n ++ ((covers n).0 ++ (on n).0) =
        append-nil (whole n) ∙ (on n).1 ∙ ap (λ zs. zs ++ (on n).0) covered ∙ append_assoc (whole n) (covers n).0 (on n).0 in
        let none = append_cancel_left (whole n) [] ((covers n).0 ++ (on n).0) both in
        covered ∙ ap (λ zs. whole n ++ zs) (left_empty (covers n).0 (on n).0 (sym none)) ∙ append-nil (whole n)
