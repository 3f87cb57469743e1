-- No unit is twice in a transfer that was Checked: the blocks of one that begins Checked, or that stands Checked or
-- Accepted, share no unit.
use Rattle.std.proofs.Common.{List, Option, Some, [], ap, false, inl, inr, refl, subst, sym, ℕ, ◌++◌, ◌∙◌, ◌∷◌, ◌≡◌}
use Rattle.units.specs.Apart.{AllApart}
use Rattle.units.specs.declared.block.Block.{Block}
use Rattle.units.specs.declared.code.Node.TheVariants.{Itl}
use Rattle.status.specs.Content.{Content, raws}
use Rattle.status.specs.declared.id.TransactionId.{TransactionId}
use Rattle.status.specs.declared.status.Status.{Status}
use Rattle.status.specs.declared.status.Status.TheVariants.{Checked}
use Rattle.wire.specs.declared.input.Input.{Input}
use Rattle.scheme.specs.declared.registries.Scheme.{Scheme}
use Rattle.protocol.proofs.RepeatedUnits.{apart_repeats}
use Rattle.protocol.specs.AtLog.{ledger}
use Rattle.protocol.specs.Checks.{log_causes}
use Rattle.protocol.specs.Deciding.{IsRecorded}
use Rattle.protocol.specs.History.{Entry, Transition, newest, transitions_of}
use Rattle.protocol.specs.Pieces.{pieces, repeats}
use Rattle.protocol.specs.Verdict.{history, transitions_made}
use Rattle.units.proofs.Lists.Membership.{In}
use Rattle.units.proofs.Lists.OneValue.{one_some}
use Rattle.safety.proofs.ListLemmas.TestsOfSameness.{status_of_same}
use Rattle.safety.proofs.MovesAndHistories.LongerHistories.{made_history}
use Rattle.safety.proofs.MovesAndHistories.NewestTransitions.{Made, made_log, newest_id}
use Rattle.safety.proofs.MovesAndHistories.TableMoves.{LogMove, cancels, checks, forestalls, passes}
use Rattle.safety.proofs.MovesAndHistories.TransitionForms.{checked_status}
use Rattle.safety.proofs.OneLog.LogInputs.{each_log_move, none_stand}
use Rattle.safety.proofs.OneLog.OwnersInLog.{IsBusy, log_live}
use Rattle.log_core.specs.Effects.{IsEffect, IsAdvanced, transfer_state_content, transfer_state_in}
use Rattle.log_core.specs.Kept.{IsKept}
use Rattle.log_core.specs.Readings.{of_transition}
use Rattle.log_core.specs.Taking.{verdict_by_rules}
use Rattle.log_core.specs.Transfers.{AreApart}
use Rattle.log_core.specs.declared.effect.TransferEffect.{TransferEffect}
use Rattle.log_core.specs.declared.effect.TransferEffect.TheVariants.{Begin, Cancel, Advance}
use Rattle.log_core.specs.declared.tables.Tables.{Tables}
use Rattle.log_core.proofs.KeptUnits.{entry}
use Rattle.log_core.proofs.KnownEffects.{advanced_known, advanced_unchecked}
use Rattle.std.specs.Prelude.{option_map}

-- what stands Checked or Accepted has no unit twice
abbrev pub ContentsApart : List Transition → Type 0
ContentsApart xs = (x : Transition) (k : Content) → In x xs → IsBusy x.new → x.content ≡ Some k → repeats (pieces k.units) ≡ false

none_found : (found : List ℕ) → IsBusy (checked_status found) → found ≡ []
none_found [] h = refl
none_found (c ∷ cs) h = absurd h

module _ (scheme : Scheme) where
  move_apart : (es : List Entry) (input : Input) (x : Transition) (k : Content) → LogMove scheme es input x → ContentsApart (transitions_of es) → IsBusy x.new → x.content ≡ Some k → repeats (pieces k.units) ≡ false
  move_apart es input x k (checks p moment found f s is none member) old busy known =
      let fine = none_stand (log_causes scheme (ledger scheme es) p.id.code p.content) (sym is ∙ none_found found busy) in
      subst (λ (z : Content). repeats (pieces z.units) ≡ false) (one_some p.content k known) fine.1.0
  move_apart es input x k (passes n moment q c new was content member right move) old busy known =
      let about = newest_id (transitions_of es) n.id q was in
      let here : newest (transitions_of es) q.id ≡ Some q = ap (newest (transitions_of es)) about.1 ∙ was in
      old q k about.0 (log_live scheme es input x q (passes n moment q c new was content member right move) here) known
  move_apart es input x k (cancels given moment t q c why was content stood) old busy known = absurd busy
  move_apart es input x k (forestalls r moment f member none) old busy known = absurd busy

  apart_more : (es : List Entry) (input : Input) (x : Transition) → LogMove scheme es input x → ContentsApart (transitions_of es) → ContentsApart (x ∷ transitions_of es)
  apart_more es input x move old y k (inl e) busy known =
      move_apart es input x k move old (subst (λ (z : Transition). IsBusy z.new) (sym e) busy) (ap (λ (z : Transition). z.content) e ∙ known)
  apart_more es input x move old y k (inr i) busy known = old y k i busy known

  contents_apart : (es : List Entry) → Made scheme Itl es → ContentsApart (transitions_of es)
  contents_apart =
      each_log_move scheme ContentsApart (λ x k i busy known. absurd i) (λ es input x made_so move old. apart_more es input x move old)
      (λ es input x front made_so move gone all old new. cancelled_more x (front ++ transitions_of es) (subst (λ s. IsBusy s → ⊥) (sym gone) (λ b. b)) new)
    where
      cancelled_more : (x : Transition) (xs : List Transition) → (IsBusy x.new → ⊥) → ContentsApart xs → ContentsApart (x ∷ xs)
      cancelled_more x xs ended old y k (inl e) busy known = absurd (ended (subst (λ (z : Transition). IsBusy z.new) (sym e) busy))
      cancelled_more x xs ended old y k (inr i) busy known = old y k i busy known

module _ (scheme : Scheme) (tables : Tables) (input : Input) (xs : List Transition) (moment : ℕ) (enters : verdict_by_rules scheme tables input ≡ IsRecorded xs) where
  abbrev past : List Entry
  past = history scheme Itl tables.records.inputs

  made_so : Made scheme Itl (entry input xs ∷ past)
  made_so = (sym (ap transitions_made enters), made_history scheme Itl tables.records.inputs)

  -- a transfer that begins Checked
  pub begin_apart : (id : TransactionId) (new : Status) (k : Content) (blocks : List Block) → IsEffect xs moment (Begin id new (Some k)) → new ≡ Checked → raws blocks ≡ k.units → AllApart blocks
  begin_apart id new k blocks h stands units =
      let x = h.0 in
      let here = subst (In x) (sym h.1) (inl refl) in
      let move = made_log scheme (entry input xs) past x made_so here in
      let fine = move_apart scheme past input x k move (contents_apart scheme past made_so.1) (subst IsBusy (sym (h.3 ∙ stands)) tt) h.4 in
      apart_repeats blocks (ap (λ us. repeats (pieces us)) units ∙ fine)

  -- a transfer that is Accepted, Rejected or Completed
  pub advance_apart : (id : TransactionId) (new : Status) (k : Content) (blocks : List Block) → IsKept scheme tables → IsEffect xs moment (Advance id new) → transfer_state_content (transfer_state_in tables id) ≡ Some k → raws blocks ≡ k.units
      → AllApart blocks
  advance_apart id new k blocks kept h known units =
      let x = h.0 in
      let here = subst (In x) (sym h.1) (inl refl) in
      let move = made_log scheme (entry input xs) past x made_so here in
      let q = advanced_known scheme past input x move (subst IsAdvanced (sym h.3) h.5) in
      let content : q.0.content ≡ Some k =
      sym (ap transfer_state_content (kept.kept.transfers id ∙ ap (λ t. option_map of_transition (newest (transitions_of past) t)) (sym h.2) ∙ ap (option_map of_transition) q.1)) ∙ known in
      let fine = contents_apart scheme past made_so.1 q.0 k (newest_id (transitions_of past) x.id q.0 q.1).0 (log_live scheme past input x q.0 move q.1) content in
      apart_repeats blocks (ap (λ us. repeats (pieces us)) units ∙ fine)

  -- of each effect
  pub apart_so : (effect : TransferEffect) → IsKept scheme tables → IsEffect xs moment effect → AreApart (transfer_state_in tables) effect
  apart_so (Begin id new content) kept h = λ stands k blocks known units. begin_apart id new k blocks (begins id new content k known h) (status_of_same new Checked stands) units
    where
      begins : (id : TransactionId) (new : Status) (content : Option Content) (k : Content) → content ≡ Some k → IsEffect xs moment (Begin id new content) → IsEffect xs moment (Begin id new (Some k))
      begins id new content k known = subst (λ o. IsEffect xs moment (Begin id new content) → IsEffect xs moment (Begin id new o)) known (λ e. e)
  apart_so (Advance id new) kept h = (advanced_unchecked new h.5, λ done k blocks known units. advance_apart id new k blocks kept h known units)
  apart_so (Cancel ids) kept h = tt
