-- The texts of faults, and the exit status of each.
use Rattle.std.proofs.Common.{◌≡◌, ℕ, List, refl}
use Rattle.std.specs.Fmt.{digits}
use Rattle.std.specs.Prelude.{codes}
use Rattle.units.specs.declared.code.Node.TheVariants.{Itl}
use Rattle.stores.specs.declared.fault.StoreFault.TheVariants as store
use Rattle.command_faults.specs.Faults.{exit_status, op_fault_text}
use Rattle.command_faults.specs.declared.fault.Cause.TheVariants.{Order}
use Rattle.command_faults.specs.declared.fault.OpFault.{OpFault}
use Rattle.command_faults.specs.declared.fault.OpFault.TheVariants.{Input, Read, Write, Store, Stuck, Unsettled, Setup, Undone, NoMemory}
use Rattle.command_faults.specs.declared.setup_fault.SetupFault.TheVariants as setup
use Rattle.protocol.proofs.WorkedScheme.{nz_node}

abbrev IsTold : OpFault → List ℕ → ℕ → Type 0
IsTold fault text status = (op_fault_text fault ≡ text) × (exit_status fault ≡ status)

-- ---- commands

pub faults_of_commands : IsTold Read (codes "read failed") 3
    × IsTold (Write 17) (codes "write failed after 17 bytes") 3
    × IsTold (Stuck nz_node 12) (codes "stuck at NZ 12") 1
    × IsTold (Unsettled nz_node) (codes "unsettled NZ") 1
    × IsTold (Unsettled Itl) (codes "unsettled ITL") 1
    × IsTold (Undone 3) (codes "line 3: not carried out") 1
    × IsTold NoMemory (codes "out of memory") 5
    × IsTold (Input 2 Order) (codes "line 2: order") 3
unfolding digits
faults_of_commands = ((refl, refl), (refl, refl), (refl, refl), (refl, refl), (refl, refl), (refl, refl), (refl, refl), (refl, refl))

-- ---- the setup of a node: wrong words, things that they name, and what does not fit the store

pub wrong_words_of_a_setup : IsTold (Setup setup.Listen) (codes "--listen: no address") 2
    × IsTold (Setup setup.Peer) (codes "--peer: no node with its address") 2
    × IsTold (Setup (setup.Stranger nz_node)) (codes "--peer: nothing is sent to NZ") 2
    × IsTold (Setup (setup.Twice Itl)) (codes "--peer: ITL is there twice") 2
    × IsTold (Setup (setup.Missing nz_node)) (codes "--peer: NZ is missing") 2
    × IsTold (Setup setup.Exposed) (codes "--keys: an address beyond the loopback interface needs them") 2
    × IsTold (Setup setup.CleanUp) (codes "--clean-up: no number of seconds") 2
    × IsTold (Setup setup.NotTheLog) (codes "--clean-up: ITL alone cleans up") 2
unfolding digits
wrong_words_of_a_setup = ((refl, refl), (refl, refl), (refl, refl), (refl, refl), (refl, refl), (refl, refl), (refl, refl), (refl, refl))

pub missing_things_of_a_setup : IsTold (Setup setup.Unknown) (codes "no node of the scheme") 3
    × IsTold (Setup setup.KeysUnread) (codes "--keys: read failed") 3
    × IsTold (Setup setup.KeysNoFile) (codes "--keys: not a regular file") 3
    × IsTold (Setup setup.KeysOwner) (codes "--keys: another user owns the file") 3
    × IsTold (Setup setup.KeysShared) (codes "--keys: others than the owner have access") 3
    × IsTold (Setup (setup.KeysLine 34)) (codes "--keys: line 34: no further node with its key") 3
    × IsTold (Setup (setup.NoKey Itl)) (codes "--keys: ITL is missing") 3
    × IsTold (Setup setup.Port) (codes "--listen: the address can't be had") 3
unfolding digits
missing_things_of_a_setup = ((refl, refl), (refl, refl), (refl, refl), (refl, refl), (refl, refl), (refl, refl), (refl, refl), (refl, refl))

pub stores_that_do_not_fit : IsTold (Setup setup.OtherScheme) (codes "the store is of another scheme") 4
    × IsTold (Setup setup.SchemeSum) (codes "the scheme's sum beside the store can't be read or written") 4
    × IsTold (Setup (setup.NoStore nz_node)) (codes "store NZ: missing") 4
unfolding digits
stores_that_do_not_fit = ((refl, refl), (refl, refl), (refl, refl))

-- ---- stores

pub faults_of_stores : IsTold (Store nz_node store.Device) (codes "store NZ: device") 4
    × IsTold (Store nz_node store.Full) (codes "store NZ: full") 4
    × IsTold (Store nz_node (store.Damaged 3)) (codes "store NZ: damaged 3") 4
    × IsTold (Store nz_node store.WrongNode) (codes "store NZ: wrong-node") 4
    × IsTold (Store nz_node store.WrongVersion) (codes "store NZ: wrong-version") 4
    × IsTold (Store nz_node store.Reopen) (codes "store NZ: reopen") 4
unfolding digits
faults_of_stores = ((refl, refl), (refl, refl), (refl, refl), (refl, refl), (refl, refl), (refl, refl))
