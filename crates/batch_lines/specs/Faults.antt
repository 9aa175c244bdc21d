-- Why lines were not all answered.
use Rattle.std.specs.Prelude.{ℕ, List, ⊤}
use Rattle.jm_edge.specs.Causes.{Rose}
use Rattle.jm_json.specs.Call.{Call}
use Rattle.jm_json.specs.declared.invocation.Created.{Created}
use Rattle.jm_json.specs.declared.invocation.Replied.{Replied}
use Rattle.batch_lines.specs.declared.upload.Uploaded.{Uploaded}
use Rattle.batch_lines.specs.Input.{Seen, HasAnsweredEnded, HasAnsweredWithin}
use Rattle.batch_lines.specs.declared.fault.LinesFault.{LinesFault}
use Rattle.batch_lines.specs.declared.fault.LinesFault.TheVariants.{ReadFault, WriteFault, NoMemory, TooLong}

-- Over a port that goes from the state s to s'. A fault of reading comes only if the source failed,
-- and one of writing only if the output did. Before a fault of reading, and within the limit, all
-- is answered.
abbrev pub ExplainsFault : {S : Type 0} → (S → Call → List Created → Replied → S → Type 0) → (S
    → List ℕ → Uploaded → S → Type 0) → S → S → LinesFault → Seen → Type 0
ExplainsFault answers uploads s s' ReadFault v =
    Rose v.reads v.reads_after × HasAnsweredEnded answers uploads s s' v
ExplainsFault answers uploads s s' WriteFault v = Rose v.writes v.writes_after
ExplainsFault answers uploads s s' NoMemory v = ⊤
ExplainsFault answers uploads s s' TooLong v = HasAnsweredWithin answers uploads s s' v

-- why the replies to a piece were not all written
abbrev pub StopsFor : LinesFault → ℕ → ℕ → Type 0
StopsFor ReadFault writes writes_after = ⊥
StopsFor WriteFault writes writes_after = Rose writes writes_after
StopsFor NoMemory writes writes_after = ⊤
StopsFor TooLong writes writes_after = ⊥
