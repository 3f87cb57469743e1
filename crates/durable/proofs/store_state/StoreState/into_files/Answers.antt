use Rattle.std.proofs.Common.{◌≡◌, false, sym, subst}
use Rattle.sqlite.specs.Files.{file_state}
use Rattle.durable.specs.Backing.{Hold}
use Rattle.store_tables.specs.Held.{slots_in, node_in, IsStore}
use Rattle.durable.specs.Kept.{MayHold, content, owner, must_reopen, AreFilesOf}
use Rattle.durable.proofs.Closed.{left-closed, kept-closed, holds-closed}
use Rattle.durable.proofs.store_state.StoreState.into_files.Goals as goal

pub returns-in-Open-clause-left : goal.returns-in-Open-clause-left
returns-in-Open-clause-left g c = λ db found next opened.
    let gone = c.files_of.ensures in
    subst (λ store_state. ∥ MayHold g.D.Disk store_state next ∥₁) (sym c.in-Open.is)
    (left-closed g.D.Disk c.in-Open.store c.into_connection.result c.into_connection.ensures.connection c.files_of.result gone.honest gone.left db found next opened)

pub returns-in-Open-clause-kept : goal.returns-in-Open-clause-kept
returns-in-Open-clause-kept g c = λ runs db found.
    let gone = c.files_of.ensures in
    let given = c.into_connection.ensures in
    subst (λ store_state. ∥ slots_in db ≡ content g.D.Disk store_state ∥₁) (sym c.in-Open.is)
    (kept-closed g.D.Disk c.in-Open.store c.into_connection.result given.connection c.files_of.result gone.honest
    (subst (λ store_state. must_reopen g.D.Disk store_state ≡ false) c.in-Open.is runs) given.settled given.store gone.left db found)

pub returns-in-Open-clause-files : goal.returns-in-Open-clause-files
returns-in-Open-clause-files g c =
    subst (λ store_state. AreFilesOf g.D.Disk store_state c.files_of.result) (sym c.in-Open.is)
    (subst (λ conn. Hold g.D.Disk c.files_of.result (file_state conn).may_leave) c.into_connection.ensures.connection c.files_of.ensures.holds)

pub returns-in-Open-clause-holds : goal.returns-in-Open-clause-holds
returns-in-Open-clause-holds g c = λ runs.
    let gone = c.files_of.ensures in
    let given = c.into_connection.ensures in
    subst (λ store_state. Hold g.D.Disk c.files_of.result (λ db. IsStore db × (slots_in db ≡ content g.D.Disk store_state) × (node_in db ≡ owner g.D.Disk store_state))) (sym c.in-Open.is)
    (holds-closed g.D.Disk c.in-Open.store c.into_connection.result given.connection c.files_of.result gone.honest
    (subst (λ store_state. must_reopen g.D.Disk store_state ≡ false) c.in-Open.is runs) given.settled given.store gone.holds)
