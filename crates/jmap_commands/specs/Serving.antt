-- How a run of `serve` ends.
use Rattle.std.specs.Prelude.{◌≡◌, ◌⊎◌, ℕ, List, [], ◌++◌, codes, take, IfErr, Option, Result, Ok, Err}
use Rattle.std.specs.Fmt.{decimal}
use Rattle.std.specs.Io.KnownBytes.{Appends}
use Rattle.jm_edge.specs.Causes.{Rose}
use Rattle.jmap_commands.specs.Run.{served_text}
use Rattle.jmap_commands.specs.Worlds.{ServerSeen}
use Rattle.mail_records.specs.Histories.{History}
use Rattle.account_book.specs.declared.faults.Reason.{Reason}
use Rattle.account_book.specs.declared.faults.Reason.TheVariants.{NotACommit, DoesNotFit, NotWhole}
use Rattle.mail_summary.specs.Summaries.{summary}
use Rattle.mail_calls.specs.Plans.{call_plan}
use Rattle.mail_calls.specs.ValidAccounts.{IsWhole}
use Rattle.mail_calls.specs.declared.rules.MailRules.{MailRules}
use Rattle.jmap_server.specs.Deeds.{Deed, IsTold}
use Rattle.jmap_server.specs.Lines.{Plans, Sight}
use Rattle.jmap_server.specs.Serving.{HasRun, IsCaused}
use Rattle.jmap_server.specs.declared.fault.ServeFault.{ServeFault}
use Rattle.jmap_server.specs.declared.fault.ServeFault.TheVariants as fault
use Rattle.jmap_commands.specs.declared.ending.Ending.{Ending}
use Rattle.jmap_commands.specs.declared.ending.Ending.TheVariants.{Done, WriteFault, NoMemory, KeeperFault, Damaged, BadConfig, DeskFault}

-- ---- the rules of mail

-- what they plan for calls
abbrev pub mail_plan : Plans MailRules
mail_plan rules h call moment = call_plan h call moment

-- which accounts are valid
abbrev pub is_mail : History → Type 0
is_mail h = IsWhole summary h

-- ---- what is said

abbrev pub reason_text : Reason → List ℕ
reason_text (NotACommit place) = codes ", not a commit at " ++ (decimal place ++ codes "\n")
reason_text DoesNotFit = codes ", does not fit\n"
reason_text NotWhole = codes ", not whole\n"

-- which row of an account is damaged, and why
abbrev pub damaged_text : ℕ → Reason → List ℕ
damaged_text row why = codes "damaged: row " ++ (decimal row ++ reason_text why)

-- which place of the configuration is bad
abbrev pub bad_config_text : List ℕ → List ℕ
bad_config_text place = codes "bad config: " ++ (place ++ codes "\n")

-- ---- how a run ends

-- how a run ends whose server ended with this fault, if there is memory for what is said
abbrev pub ending_of_fault : ServeFault → Ending
ending_of_fault (fault.BadConfig place) = BadConfig (bad_config_text place)
ending_of_fault fault.KeeperFault = KeeperFault
ending_of_fault (fault.Damaged row why) = Damaged (damaged_text row why)
ending_of_fault fault.DeskFault = DeskFault
ending_of_fault fault.NoMemory = NoMemory

-- a run ends with this fault of its server, or out of memory
abbrev pub IsFaultEnding : ServeFault → Ending → Type 0
IsFaultEnding f e = (e ≡ ending_of_fault f) ⊎ (e ≡ NoMemory)

-- A run ends with its server's fault, or out of memory. If all lines were served, the output may
-- fail.
abbrev pub IsEndingOf : {T : Type 0} → Result T ServeFault → Ending → Type 0
IsEndingOf (Ok x) e = (e ≡ Done) ⊎ (e ≡ WriteFault) ⊎ (e ≡ NoMemory)
IsEndingOf (Err f) e = IsFaultEnding f e

-- a server ran over the world, ended so, and the run ends so
pub record HasServed {K R L C : Type 0} (sight : Sight K L C) (plan_of : Plans R)
    (whole : History → Type 0) (config folder : List ℕ) (port count : ℕ) (w : ServerSeen K L C)
    (e : Ending) : Type 0 where
  pub did : List (Deed K L C)
  pub result : Result (Unit {0}) ServeFault
  pub told_is : IsTold w.told w.told_after did
  pub ran : HasRun sight plan_of whole config folder port count did result
  pub caused : IfErr result (IsCaused w.faults w.faults_after w.loads w.loads_after)
  pub ending : IsEndingOf result e

-- What is written where a server ended so: the line that says how many connections were served, a
-- prefix of it, or nothing.
abbrev pub WritesServed : Ending → ℕ → Option (List ℕ) → Option (List ℕ) → ℕ → ℕ → Type 0
WritesServed Done count held held' writes writes' = Appends held held' (served_text count)
WritesServed WriteFault count held held' writes writes' =
    Rose writes writes' × ((n : ℕ) × Appends held held' (take n (served_text count)))
WritesServed NoMemory count held held' writes writes' = Appends held held' []
WritesServed KeeperFault count held held' writes writes' = Appends held held' []
WritesServed (Damaged line) count held held' writes writes' = Appends held held' []
WritesServed (BadConfig line) count held held' writes writes' = Appends held held' []
WritesServed DeskFault count held held' writes writes' = Appends held held' []
WritesServed other count held held' writes writes' = ⊥
