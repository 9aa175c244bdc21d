-- What writing a draft comes to.
use Rattle.std.specs.Prelude.{◌≡◌, ℕ, ◌≤◌, ◌<◌, List, length, Result, Ok, Err}
use Rattle.jm_base.specs.declared.limits.TheConstants.{MAX_UPLOAD_BYTES}
use Rattle.jm_json.specs.Tree.{Tree}
use Rattle.draft_form.specs.declared.read.DraftFault.{DraftFault}
use Rattle.draft_form.specs.declared.read.DraftFault.TheVariants.{Invalid, TooLarge, NoMemory}
use Rattle.draft_writer.specs.Messages.{IsDraftText}

abbrev pub IsRefusal : DraftFault → Type 0 → Type 0
IsRefusal (Invalid names) large = ⊥
IsRefusal TooLarge large = large
IsRefusal NoMemory large = Unit {0}

-- a text is written, or it is too large, or memory ran out
abbrev pub IsEnding : Result (List ℕ) DraftFault → List ℕ → Type 0
IsEnding (Ok bytes) text = (bytes ≡ text) × (length text ≤ MAX_UPLOAD_BYTES)
IsEnding (Err fault) text = IsRefusal fault (MAX_UPLOAD_BYTES < length text)

-- The message of the create with these members is written. If it has more than `MAX_UPLOAD_BYTES`
-- bytes, it is too large; and memory may run out.
abbrev pub IsWriting :
    Result (List ℕ) DraftFault → List (List ℕ × Tree) → List (List ℕ) → ℕ → ℕ → Type 0
IsWriting (Ok bytes) ms blobs number moment =
    IsDraftText ms blobs number moment bytes × (length bytes ≤ MAX_UPLOAD_BYTES)
IsWriting (Err fault) ms blobs number moment =
    IsRefusal fault
    ((text : List ℕ) × IsDraftText ms blobs number moment text × (MAX_UPLOAD_BYTES < length text))
