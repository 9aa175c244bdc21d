-- The command that the arguments of a command line name.
use Rattle.std.specs.Prelude.{ℕ, List, [], ◌∷◌, Option, None, Some, ◌&&◌, nat_le, codes, bytes_eq, if◌then◌else◌}
use Rattle.std.specs.Fmt.{decimal}
use Rattle.std.specs.Option.{option_or}
use Rattle.std.specs.Str.Parse.{digits_value}
use Rattle.jmap_commands.specs.Addresses.{is_host, is_token}
use Rattle.jmap_commands.specs.declared.arguments.TheConstants.{MAX_CONNECTIONS, MAX_PORT}
use Rattle.jmap_commands.specs.declared.arguments.Command.{Command}
use Rattle.jmap_commands.specs.declared.arguments.Command.TheVariants.{Batch, Read, Serve, Sync, Show}

-- the command that one argument names
abbrev pub command_named : List ℕ → Option Command
command_named word =
    if bytes_eq word (codes "batch") then Some Batch
    else (if bytes_eq word (codes "read") then Some Read
    else None)

-- this number, if it is from 1 to the greatest one and the argument is its decimal
abbrev pub number_if : ℕ → List ℕ → ℕ → Option ℕ
number_if most word n =
    if bytes_eq word (decimal n) && (nat_le 1 n && nat_le n most) then Some n else None

-- the number from 1 to the greatest one that an argument is in decimal, without a leading zero
abbrev pub number_in : ℕ → List ℕ → Option ℕ
number_in most word = number_if most word (digits_value 10 word)

abbrev pub serve_with : Option ℕ → Option ℕ → Option Command
serve_with None count = None
serve_with (Some port) None = None
serve_with (Some port) (Some count) = Some (Serve port count)

-- the command that an argument names before a configuration, a folder, a port and a count
abbrev pub serving : List ℕ → List ℕ → List ℕ → Option Command
serving word port count =
    if bytes_eq word (codes "serve")
    then serve_with (number_in MAX_PORT port) (number_in MAX_CONNECTIONS count)
    else None

abbrev pub sync_with : Option ℕ → Option Command
sync_with None = None
sync_with (Some port) = Some (Sync port)

-- the command that an argument names before a host, a port, a token and a file
abbrev pub syncing : List ℕ → List ℕ → List ℕ → List ℕ → Option Command
syncing word host port token =
    if bytes_eq word (codes "sync") && (is_host host && is_token token)
    then sync_with (number_in MAX_PORT port)
    else None

-- the command that an argument names before a file and a list
abbrev pub showing : List ℕ → Option Command
showing word = if bytes_eq word (codes "show") then Some Show else None

-- the command that five arguments name
abbrev pub serving_or_syncing : (word a b c d : List ℕ) → Option Command
serving_or_syncing word a b c d = option_or (serving word c d) (syncing word a b c)

-- the command that the arguments of a command line name
abbrev pub command_of : List (List ℕ) → Option Command
command_of [] = None
command_of (word ∷ []) = command_named word
command_of (word ∷ a ∷ []) = None
command_of (word ∷ file ∷ name ∷ []) = showing word
command_of (word ∷ a ∷ b ∷ c ∷ []) = None
command_of (word ∷ a ∷ b ∷ c ∷ d ∷ []) = serving_or_syncing word a b c d
command_of (word ∷ a ∷ b ∷ c ∷ d ∷ e ∷ more) = None
