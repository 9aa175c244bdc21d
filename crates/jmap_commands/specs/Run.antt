-- What a run of a command has read and written.
use Rattle.std.specs.Prelude.{◌≡◌, ◌⊎◌, ℕ, ◌<◌, ◌≤◌, List, [], ◌∷◌, ◌++◌, codes, length, Option, None, Some}
use Rattle.std.specs.Fmt.{decimal}
use Rattle.mail_records.specs.Histories.{History, empty_history}
use Rattle.batch_lines.specs.Input.{Seen, HasRead, HasWritten, HasReadAll, HasAnsweredInput, HasAnsweredEnded, HasAnsweredWithin, HasBegunInput}
use Rattle.client_cache.specs.Caches.{Cached, ListView}
use Rattle.client_lines.specs.Lines.{counts_text, list_text}
use Rattle.jmap_commands.specs.Read.{read_out}
use Rattle.jmap_commands.specs.AccountAnswers.{account_answers, account_halts, account_stops, account_uploads}
use Rattle.jmap_commands.specs.declared.read.TheConstants.{MAX_MESSAGE_BYTES}
use Rattle.jmap_commands.specs.declared.arguments.Command.{Command}
use Rattle.jmap_commands.specs.declared.arguments.Command.TheVariants.{Batch, Read, Serve, Sync, Show}

-- ---- of `read`

-- the input was read to its end, and the line of the message is written
abbrev pub HasShownMessage : Seen → Type 0
HasShownMessage v =
    (bytes : List ℕ) × HasRead v bytes × (length bytes ≤ MAX_MESSAGE_BYTES) × HasReadAll v
    × HasWritten v (read_out bytes)

-- some of the input was read, and nothing is written
abbrev pub HasShownNothing : Seen → Type 0
HasShownNothing v = (bytes : List ℕ) × HasRead v bytes × HasWritten v []

-- more bytes came than a message may have, and nothing is written
abbrev pub HasShownNone : Seen → Type 0
HasShownNone v =
    (bytes : List ℕ) × HasRead v bytes × (MAX_MESSAGE_BYTES < length bytes) × HasWritten v []

-- nothing is written; or the input was read to its end, and what is written is a prefix of the line
-- of the message
abbrev pub HasBegunMessage : Seen → Type 0
HasBegunMessage v =
    (bytes : List ℕ) × (written : List ℕ) × HasRead v bytes × HasWritten v written
    × ((written ≡ []) ⊎ (HasReadAll v × ((more : List ℕ) × (read_out bytes ≡ written ++ more))))

-- ---- of the commands that read nothing of the input: this text is written, or a prefix of it

abbrev pub HasPrinted : List ℕ → Seen → Type 0
HasPrinted text v = HasRead v [] × HasWritten v text

abbrev pub HasBegunPrinting : List ℕ → Seen → Type 0
HasBegunPrinting text v =
    (written : List ℕ) × (more : List ℕ) × HasRead v [] × HasWritten v written
    × (text ≡ written ++ more)

-- the line of `serve` that says how many connections were served
abbrev pub served_text : ℕ → List ℕ
served_text count = codes "served " ++ (decimal count ++ 10 ∷ [])

-- ---- of each command: `batch` begins over an account in which there is nothing, and h is its
-- history at the end. `sync` prints how many records a cache has, and `show` a list of a cache;
-- which cache that is, `HasUsed` says.

abbrev pub HasAnswered : Command → Seen → Type 0
HasAnswered Batch v =
    (h : History) × HasAnsweredInput account_answers account_uploads empty_history h v
HasAnswered Read v = HasShownMessage v
HasAnswered (Serve port count) v = HasPrinted (served_text count) v
HasAnswered (Sync port) v = (c : Cached) × HasPrinted (counts_text c) v
HasAnswered Show v = (c : Cached) × (l : ListView) × HasPrinted (list_text c l) v

abbrev pub HasAnsweredBeforeFault : Command → Seen → Type 0
HasAnsweredBeforeFault Batch v =
    (h : History) × HasAnsweredEnded account_answers account_uploads empty_history h v
HasAnsweredBeforeFault Read v = HasShownNothing v
HasAnsweredBeforeFault other v = ⊥

abbrev pub HasAnsweredBeforeLimit : Command → Seen → Type 0
HasAnsweredBeforeLimit Batch v =
    (h : History) × HasAnsweredWithin account_answers account_uploads empty_history h v
HasAnsweredBeforeLimit Read v = HasShownNone v
HasAnsweredBeforeLimit (Sync port) v = HasPrinted [] v
HasAnsweredBeforeLimit other v = ⊥

abbrev pub HasBegun : Command → Seen → Type 0
HasBegun Batch v =
    (h : History)
    × HasBegunInput account_answers account_uploads account_stops account_halts empty_history h v
HasBegun Read v = HasBegunMessage v
HasBegun (Serve port count) v = HasBegunPrinting (served_text count) v
HasBegun (Sync port) v = (c : Cached) × HasBegunPrinting (counts_text c) v
HasBegun Show v = (c : Cached) × (l : ListView) × HasBegunPrinting (list_text c l) v

-- ---- by the arguments of the command line: where they name no command, nothing is read or written

abbrev pub HasAnsweredBy : Option Command → Seen → Type 0
HasAnsweredBy None v = ⊥
HasAnsweredBy (Some c) v = HasAnswered c v

abbrev pub HasAnsweredBeforeFaultBy : Option Command → Seen → Type 0
HasAnsweredBeforeFaultBy None v = ⊥
HasAnsweredBeforeFaultBy (Some c) v = HasAnsweredBeforeFault c v

abbrev pub HasAnsweredBeforeLimitBy : Option Command → Seen → Type 0
HasAnsweredBeforeLimitBy None v = ⊥
HasAnsweredBeforeLimitBy (Some c) v = HasAnsweredBeforeLimit c v

abbrev pub HasBegunBy : Option Command → Seen → Type 0
HasBegunBy None v = HasPrinted [] v
HasBegunBy (Some c) v = HasBegun c v
