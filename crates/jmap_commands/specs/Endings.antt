-- Why a run, or a part of it, ends in each way.
use Rattle.std.specs.Prelude.{◌≡◌, ℕ, ◌<◌, List, [], length, take, Option, None, Some, Result, Ok, Err, ⊤}
use Rattle.std.specs.Io.KnownBytes.{Consumes, Appends}
use Rattle.jm_edge.specs.Causes.{Rose}
use Rattle.batch_lines.specs.Input.{Seen}
use Rattle.jmap_commands.specs.Run.{HasAnswered, HasAnsweredBeforeFault, HasAnsweredBeforeLimit}
use Rattle.jmap_commands.specs.declared.read.TheConstants.{MAX_MESSAGE_BYTES}
use Rattle.batch_lines.specs.declared.fault.LinesFault.{LinesFault}
use Rattle.batch_lines.specs.declared.fault.LinesFault.TheVariants as lines
use Rattle.jmap_commands.specs.declared.arguments.Command.{Command}
use Rattle.jmap_commands.specs.declared.arguments.Command.TheVariants.{Batch, Read, Serve, Sync, Show}
use Rattle.jmap_commands.specs.declared.ending.Ending.{Ending}
use Rattle.jmap_commands.specs.declared.ending.Ending.TheVariants.{Done, Usage, ReadFault, WriteFault, NoMemory, KeeperFault, Damaged, BadReply, Moved, ExchangeFault, ShelfFault, BadConfig, BadCache, DeskFault, TooLong}

-- how a run ends whose lines were not all answered
abbrev pub ending_of_fault : LinesFault → Ending
ending_of_fault lines.ReadFault = ReadFault
ending_of_fault lines.WriteFault = WriteFault
ending_of_fault lines.NoMemory = NoMemory
ending_of_fault lines.TooLong = TooLong

-- how a run ends whose lines were answered so
abbrev pub ending_of : Result (Unit {0}) LinesFault → Ending
ending_of (Ok u) = Done
ending_of (Err fault) = ending_of_fault fault

-- the command is one that serves
abbrev pub IsServing : Command → Type 0
IsServing (Serve port count) = ⊤
IsServing other = ⊥

-- the command is one that asks a server
abbrev pub IsSyncing : Command → Type 0
IsSyncing (Sync port) = ⊤
IsSyncing other = ⊥

-- the command is one that has a cache
abbrev pub IsOfClient : Command → Type 0
IsOfClient (Sync port) = ⊤
IsOfClient Show = ⊤
IsOfClient other = ⊥

-- the command is one that uses a world
abbrev pub UsesWorld : Command → Type 0
UsesWorld Batch = ⊥
UsesWorld Read = ⊥
UsesWorld other = ⊤

-- why a command came to this end
abbrev pub Explains : Command → Ending → Seen → Type 0
Explains c Done v = HasAnswered c v
Explains c Usage v = ⊥
Explains c ReadFault v = Rose v.reads v.reads_after × HasAnsweredBeforeFault c v
Explains c WriteFault v = Rose v.writes v.writes_after
Explains c NoMemory v = ⊤
Explains c KeeperFault v = IsServing c
Explains c (Damaged line) v = IsServing c
Explains c (BadReply line) v = IsSyncing c
Explains c (Moved line) v = IsSyncing c
Explains c ExchangeFault v = IsSyncing c
Explains c ShelfFault v = IsOfClient c
Explains c (BadConfig line) v = IsServing c
Explains c (BadCache line) v = IsOfClient c
Explains c DeskFault v = UsesWorld c
Explains c TooLong v = HasAnsweredBeforeLimit c v

-- why arguments came to this end: those that name no command are answered by how to use the program
abbrev pub ExplainsBy : Option Command → Ending → Seen → Type 0
ExplainsBy None e v = e ≡ Usage
ExplainsBy (Some c) e v = Explains c e v

-- more bytes came than a message may have
abbrev pub IsMessageTooLong : Option (List ℕ) → Option (List ℕ) → Type 0
IsMessageTooLong left left_after =
    (bytes : List ℕ) × Consumes left left_after bytes × (MAX_MESSAGE_BYTES < length bytes)

-- why reading a whole message failed
abbrev pub Unread : Ending → Option (List ℕ) → Option (List ℕ) → ℕ → ℕ → Type 0
Unread ReadFault left left_after reads reads_after = Rose reads reads_after
Unread NoMemory left left_after reads reads_after = ⊤
Unread TooLong left left_after reads reads_after = IsMessageTooLong left left_after
Unread other left left_after reads reads_after = ⊥

-- a line was written, or a prefix of it
abbrev pub Written : Ending → Option (List ℕ) → Option (List ℕ) → ℕ → ℕ → List ℕ → Type 0
Written Done held held_after writes writes_after line = Appends held held_after line
Written WriteFault held held_after writes writes_after line =
    Rose writes writes_after × ((n : ℕ) × Appends held held_after (take n line))
Written NoMemory held held_after writes writes_after line = Appends held held_after []
Written other held held_after writes writes_after line = ⊥
