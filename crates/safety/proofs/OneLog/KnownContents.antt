-- The content of a transaction of the log never changes: each of its transitions has the content of its newest one.
use Rattle.std.proofs.Common.{List, None, Option, Some, [], ap, inl, inr, refl, sym, ◌∙◌, ◌∷◌, ◌≡◌}
use Rattle.status.specs.Content.{Content}
use Rattle.status.specs.declared.id.TransactionId.{TransactionId}
use Rattle.wire.specs.declared.input.Input.{Input}
use Rattle.wire.specs.declared.input.Input.TheVariants.{Received}
use Rattle.wire.specs.declared.message.Body.{Body}
use Rattle.wire.specs.declared.message.Body.TheVariants.{Proposal}
use Rattle.units.specs.declared.code.Node.TheVariants.{Itl}
use Rattle.scheme.specs.declared.registries.Scheme.{Scheme}
use Rattle.protocol.specs.History.{Entry, Transition, newest, transitions_of}
use Rattle.units.proofs.Lists.Membership.{In, In_cases}
use Rattle.units.proofs.Lists.OneValue.{one_some}
use Rattle.safety.proofs.MovesAndHistories.NewestTransitions.{Made, made_log, newest_append, newest_id, newest_in}
use Rattle.safety.proofs.MovesAndHistories.TableMoves.{LogMove, cancels, checks, forestalls, newest_some, passes}

-- the newest transition of a transaction has the content of each older one
abbrev pub ContentsKept : List Transition → Type 0
ContentsKept xs = (x y : Transition) → In x xs → newest xs x.id ≡ Some y → y.content ≡ x.content

-- the content that a proposal brings
abbrev offered : Body → Option Content
offered (Proposal p) = Some p.content
offered _ = None

abbrev brought : Input → Option Content
brought (Received m moment) = offered m.body
brought _ = None

-- the content of a transition: that of the transaction's newest one, else the one that the input brings
abbrev content_given : Input → Option Transition → Option Content
content_given input (Some q) = q.content
content_given input None = brought input

module _ (scheme : Scheme) where
  given_known : (es : List Entry) (input : Input) (x q : Transition) (t : TransactionId) → newest (transitions_of es) t ≡ Some q → x.id ≡ q.id → x.content ≡ q.content
      → x.content ≡ content_given input (newest (transitions_of es) x.id)
  given_known es input x q t was same content =
      let about = newest_id (transitions_of es) t q was in
      content ∙ ap (content_given input) (sym (ap (newest (transitions_of es)) (same ∙ about.1) ∙ was))

  move_content : (es : List Entry) (input : Input) (x : Transition) → LogMove scheme es input x → x.content ≡ content_given input (newest (transitions_of es) x.id)
  move_content es input x (checks p moment found f s is none member) = ap (content_given input) (sym none)
  move_content es input x (passes n moment q k new was kept member right move) = given_known es input x q n.id was refl refl
  move_content es input x (cancels given moment t q k why was kept stood) = given_known es input x q t was refl refl
  move_content es input x (forestalls r moment f member none) = ap (content_given input) (sym none)

  -- a transaction that was known keeps its content
  pub move_keeps : (es : List Entry) (input : Input) (x q : Transition) → LogMove scheme es input x → newest (transitions_of es) x.id ≡ Some q → x.content ≡ q.content
  move_keeps es input x q move was = move_content es input x move ∙ ap (content_given input) was

  contents_more : (e : Entry) (es : List Entry) → Made scheme Itl (e ∷ es) → ContentsKept (transitions_of es) → ContentsKept (transitions_of (e ∷ es))
  contents_more e es made old x y i h =
      let front = e.transitions in
      let xs = transitions_of es in
      let given = λ (z : Transition) (j : In z front). move_content es e.input z (made_log scheme e es z made j) in
      elim (In_cases x front xs i) [
        | inl a ↦
            let z = newest_in front xs x x.id a refl in
            ap (λ (w : Transition). w.content) (one_some y z.0 (sym h ∙ z.3))
            ∙ given z.0 z.1
            ∙ ap (λ t. content_given e.input (newest xs t)) z.2
            ∙ sym (given x a)
        | inr a ↦
            elim (newest_append front xs x.id) [
              | inl u ↦ old x y a (sym u ∙ h)
              | inr z ↦
                  let q = newest_some xs x a in
                  ap (λ (w : Transition). w.content) (one_some y z.0 (sym h ∙ z.3))
                  ∙ given z.0 z.1
                  ∙ ap (λ t. content_given e.input (newest xs t)) z.2
                  ∙ ap (content_given e.input) q.1
                  ∙ old x q.0 a q.1
            ]
      ]

  pub contents_kept : (es : List Entry) → Made scheme Itl es → ContentsKept (transitions_of es)
  contents_kept [] made = λ x y i h. absurd i
  contents_kept (e ∷ es) made = contents_more e es made (contents_kept es made.1)
