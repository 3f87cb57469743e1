use Rattle.std.proofs.Common.{◌≡◌, false, inr, sym, subst, ◌∙◌}
use Rattle.std.proofs.lemmas.Bool.{both_ways}
use Rattle.durable.specs.Backing.{Hold, HoldAlone}
use Rattle.store_tables.specs.Held.{slots_in, node_in, IsStore}
use Rattle.durable.specs.Kept.{MayHold, content, owner, must_reopen}
use Rattle.durable.proofs.Closed.{left-closed, kept-closed, holds-closed, alone-closed, is-no-reopen}
use Rattle.durable.proofs.store_state.StoreState.into_copied_files.Goals as goal

pub returns-in-Ok-clause-alone : goal.returns-in-Ok-clause-alone
returns-in-Ok-clause-alone g c =
    let given = c.into_connection.ensures in
    let runs = sym c.must_reopen.ensures ∙ c.if-must_reopen.false in
    subst (λ store_state. HoldAlone g.D.Disk c.in-Ok.files (λ db. IsStore db × (slots_in db ≡ content g.D.Disk store_state) × (node_in db ≡ owner g.D.Disk store_state))) (sym c.in-Open.is)
    (alone-closed g.D.Disk c.in-Open.store c.into_connection.result given.connection c.in-Ok.files (λ honest. (c.in-Ok.ensures.copied honest).was_clean)
    (subst (λ store_state. must_reopen g.D.Disk store_state ≡ false) c.in-Open.is runs) given.settled given.store c.in-Ok.ensures.copied)

pub returns-in-Err-clause-named : goal.returns-in-Err-clause-named
returns-in-Err-clause-named g c = inr c.in-Err.ensures.named

pub returns-in-Err-clause-reopen : goal.returns-in-Err-clause-reopen
returns-in-Err-clause-reopen g c = (
  λ reopen. absurd (is-no-reopen c.in-Err.fault c.in-Err.ensures.named reopen),
  λ waits. absurd (both_ways _ (sym c.must_reopen.ensures ∙ c.if-must_reopen.false) waits),
)

pub returns-in-Err-clause-untouched : goal.returns-in-Err-clause-untouched
returns-in-Err-clause-untouched g c = λ reopen. absurd (is-no-reopen c.in-Err.fault c.in-Err.ensures.named reopen)

pub returns-in-Err-clause-left : goal.returns-in-Err-clause-left
returns-in-Err-clause-left g c = λ stays db found next opened.
    let gone = c.in-Err.ensures in
    subst (λ store_state. ∥ MayHold g.D.Disk store_state next ∥₁) (sym c.in-Open.is)
    (left-closed g.D.Disk c.in-Open.store c.into_connection.result c.into_connection.ensures.connection c.in-Err.files gone.honest (gone.left stays) db found next opened)

pub returns-in-Err-clause-kept : goal.returns-in-Err-clause-kept
returns-in-Err-clause-kept g c = λ stays runs db found.
    let gone = c.in-Err.ensures in
    let given = c.into_connection.ensures in
    subst (λ store_state. ∥ slots_in db ≡ content g.D.Disk store_state ∥₁) (sym c.in-Open.is)
    (kept-closed g.D.Disk c.in-Open.store c.into_connection.result given.connection c.in-Err.files gone.honest
    (subst (λ store_state. must_reopen g.D.Disk store_state ≡ false) c.in-Open.is runs) given.settled given.store (gone.left stays) db found)

pub returns-in-Err-clause-holds : goal.returns-in-Err-clause-holds
returns-in-Err-clause-holds g c = λ stays runs.
    let gone = c.in-Err.ensures in
    let given = c.into_connection.ensures in
    subst (λ store_state. Hold g.D.Disk c.in-Err.files (λ db. IsStore db × (slots_in db ≡ content g.D.Disk store_state) × (node_in db ≡ owner g.D.Disk store_state))) (sym c.in-Open.is)
    (holds-closed g.D.Disk c.in-Open.store c.into_connection.result given.connection c.in-Err.files gone.honest
    (subst (λ store_state. must_reopen g.D.Disk store_state ≡ false) c.in-Open.is runs) given.settled given.store (gone.holds stays))
