-- How a command line ends.
use Rattle.std.specs.Prelude.{◌≡◌, ◌⊎◌, ◌<◌, ℕ, List, Option, length, take}
use Rattle.std.specs.Io.KnownBytes.{Appends, Keeps}
use Rattle.clap.specs.Words.{HasMatchesOf}
use Rattle.clap.specs.declared.error.Error.{Error}
use Rattle.clap.specs.declared.parser.matches.ArgMatches.{ArgMatches}
use Rattle.stores.specs.declared.node_store.NodeStore.{Ghosts as StoreGhosts}
use Rattle.command_faults.specs.Faults.{exit_status}
use Rattle.command_faults.specs.declared.fault.OpFault.{OpFault}
use Rattle.command_faults.specs.declared.fault.OpFault.TheVariants.{NoMemory, Write}
use Rattle.command_line.specs.Words.{IsUsageFault, NamesAction, kyoto_link}
use Rattle.command_line.specs.declared.actions.Action.{Action}
use Rattle.command_line.specs.declared.parsing.UsageFault.TheVariants.{Help, Usage}
use Rattle.commands.specs.Commands.{FailsToPerform, Performs}
use Rattle.commands.specs.declared.archive.Archive.{Ghosts}
use Rattle.commands.specs.declared.obeying.CommandEnd.{CommandEnd}
use Rattle.commands.specs.declared.obeying.CommandEnd.TheVariants.{Done, Failed, NoAction, WrongWords}

-- 0: done; 2: the words are wrong; otherwise the status of the fault
abbrev pub status_of : CommandEnd → ℕ
status_of Done = 0
status_of (Failed action fault) = exit_status fault
status_of (NoAction fault) = exit_status fault
status_of (WrongWords error) = 2

-- the words have matches, whose subcommand names the action
abbrev pub IsNamedBy : List (List ℕ) → Action → Type 0
IsNamedBy words action = (m : ArgMatches) × HasMatchesOf kyoto_link words m × NamesAction m action

-- the words ask for help or for the version
abbrev pub AskForHelp : List (List ℕ) → Type 0
AskForHelp words = (error : Error) × IsUsageFault words (Help error)

-- a text was written; no clause of clap says which
abbrev pub IsHelped : (before after : Option (List ℕ)) → Type 0
IsHelped v w = (text : List ℕ) × Appends v w text

-- the first bytes of a text were written, fewer than all
abbrev pub IsHelpedInPart : OpFault → (before after : Option (List ℕ)) → Type 0
IsHelpedInPart fault v w = (text : List ℕ) × (count : ℕ) × (fault ≡ Write count) × (count < length text) × Appends v w (take count text)

module _ {A F S : Type 0} (g : Ghosts A F S) (archive : A) (remaining : F → Option (List ℕ)) (of : StoreGhosts S) where
  -- the bytes that standard input has left, before and after, and the output
  abbrev pub Obeys : List (List ℕ) → CommandEnd → (r s before after : Option (List ℕ)) → Type 0
  Obeys words Done r s v w = ((action : Action) × IsNamedBy words action × Performs g archive remaining of action r s v w) ⊎ (AskForHelp words × IsHelped v w)
  Obeys words (Failed action fault) r s v w = IsNamedBy words action × FailsToPerform g archive remaining of action fault r s v w
  Obeys words (NoAction fault) r s v w = ((fault ≡ NoMemory) × Keeps v w) ⊎ (AskForHelp words × IsHelpedInPart fault v w)
  Obeys words (WrongWords error) r s v w = IsUsageFault words (Usage error) × Keeps v w
