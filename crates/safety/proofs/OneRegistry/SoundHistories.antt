-- What each transition of a registry keeps: a transaction's transitions have one content, and of each unit `Local`
-- holds, so at most one transfer waits with it. The lemmas on unit holdings take both as `Sound`.
use Rattle.std.proofs.Common.{◌≡◌, List, ◌∷◌, Option, None, ◌⊎◌, inl, inr, sym, ap, subst, ◌∙◌, refl, Some, true}
use Rattle.units.specs.declared.block.Unit.{Unit as Serial}
use Rattle.units.specs.declared.code.Code.{Code}
use Rattle.units.specs.declared.code.Node.TheVariants.{Registry}
use Rattle.status.proofs.Ids.{same_id-refl}
use Rattle.status.specs.Id.{same_id}
use Rattle.wire.specs.declared.input.Input.{Input}
use Rattle.scheme.specs.declared.registries.Scheme.{Scheme}
use Rattle.protocol.specs.History.{Transition, Entry, transitions_of, newest}
use Rattle.units.proofs.Lists.Membership.{In}
use Rattle.units.proofs.Lists.OneValue.{clash}
use Rattle.safety.proofs.MovesAndHistories.NewestTransitions.{Made, newest_id}
use Rattle.safety.proofs.MovesAndHistories.TableMoves.{RegistryMove, proposes, asks, arrives, bares, concludes, finishes, newest_some}
use Rattle.safety.proofs.OneRegistry.TransactionEnds.{each_move}
use Rattle.safety.proofs.OneRegistry.UnitsCountedOnce.{Local, local_history, local_move, newest_cons}
use Rattle.status.specs.declared.id.TransactionId.{TransactionId}

-- the newest transition of a transaction has the content of each older one
abbrev pub ContentsKept : List Transition → Type 0
ContentsKept xs = (x y : Transition) → In x xs → newest xs x.id ≡ Some y → y.content ≡ x.content

pub record Sound (scheme : Scheme) (c : Code) (xs : List Transition) : Type 0 where
  pub contents : ContentsKept xs
  pub local : (s : Serial) → Local scheme c s xs

-- it is the first of its transaction, or has the content of the newest one
abbrev pub Follows : List Transition → Transition → Type 0
Follows xs x = (newest xs x.id ≡ None) ⊎ ((q : Transition) × (newest xs x.id ≡ Some q) × (x.content ≡ q.content))

pub follows_keeps : (x : Transition) (xs : List Transition) → Follows xs x → ContentsKept xs → ContentsKept (x ∷ xs)
follows_keeps x xs follows old y z (inl e) h =
    elim (newest_cons x xs y.id z h) [
      | inl a ↦ ap (λ (w : Transition). w.content) (sym a.0 ∙ e)
      | inr b ↦ clash (same_id x.id y.id) (subst (λ (w : Transition). same_id x.id w.id ≡ true) e (same_id-refl x.id)) b.1
    ]
follows_keeps x xs follows old y z (inr i) h =
    elim (newest_cons x xs y.id z h) [
      | inl a ↦
          elim follows [
            | inl fresh ↦
                let was = newest_some xs y i in
                let no : ◌≡◌ {A = Option Transition} None (Some was.0) = sym fresh ∙ ap (newest xs) a.1 ∙ was.1 in
                absurd (cc (no))
            | inr kept ↦
                let was : newest xs y.id ≡ Some kept.0 = subst (λ t. newest xs t ≡ Some kept.0) a.1 kept.1 in
                ap (λ (w : Transition). w.content) (sym a.0) ∙ kept.2 ∙ old y kept.0 i was
          ]
      | inr b ↦ old y z i b.0
    ]

module _ (scheme : Scheme) (c : Code) where
  follows_newest : (es : List Entry) (t : TransactionId) (q x : Transition) → newest (transitions_of es) t ≡ Some q → x.id ≡ q.id → x.content ≡ q.content → Follows (transitions_of es) x
  follows_newest es t q x was same content =
      let about = newest_id (transitions_of es) t q was in
      inr (q, subst (λ u. newest (transitions_of es) u ≡ Some q) (sym about.1 ∙ sym same) was, content)

  follows_move : (es : List Entry) (input : Input) (x : Transition) → RegistryMove scheme c es input x → Follows (transitions_of es) x
  follows_move es input x (proposes o t none is fresh) = inl fresh
  follows_move es input x (asks t q was own stood) = follows_newest es t q x was refl refl
  follows_move es input x (arrives p moment found f s is none foreign mine) = inl none
  follows_move es input x (bares n moment f cancelled none foreign) = inl none
  follows_move es input x (concludes n moment q new f was own move) = follows_newest es n.id q x was refl refl
  follows_move es input x (finishes n moment q new f was foreign move none) = follows_newest es n.id q x was refl refl

  pub sound_move : (es : List Entry) (input : Input) (x : Transition) → RegistryMove scheme c es input x → Sound scheme c (transitions_of es) → Sound scheme c (x ∷ transitions_of es)
  sound_move es input x move old =
      record { contents = follows_keeps x (transitions_of es) (follows_move es input x move) old.contents; local = λ s. local_move scheme c s es input x move (old.local s) }

  pub sound_history : (es : List Entry) → Made scheme (Registry c) es → Sound scheme c (transitions_of es)
  sound_history es made =
      record {
        contents = each_move scheme c ContentsKept (λ x y i h. absurd i) (λ es input x made move old. follows_keeps x (transitions_of es) (follows_move es input x move) old) es made;
        local = λ s. local_history scheme c s es made;
      }
