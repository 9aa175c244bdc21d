-- The result of more edits and blobs.
use Rattle.std.specs.Prelude.{◌≡◌, ◌↔◌, ℕ, ◌+◌, ◌<◌, ◌^◌, IsTrue, List, ◌++◌, length}
use Rattle.blob_store.specs.Blobs.{AreBlobsFew}
use Rattle.mail_records.specs.Contents.{Content}
use Rattle.mail_records.specs.Edits.{AllFit, AllKeepThread, after_edits}
use Rattle.mail_records.specs.declared.edits.Edit.{Edit}
use Rattle.account_book.specs.declared.growing.Grown.{Grown}
use Rattle.account_book.specs.declared.growing.Grown.TheVariants.{Misfit, Overfull, Fitting}

-- The result of edits over this content at this last position, and of more blobs after these. There
-- are 64-bit numbers for the positions.
abbrev pub IsGrown : Content → ℕ → List Edit → List (List ℕ) → List (List ℕ) → Grown → Type 0
IsGrown c end edits blobs more Misfit = ¬ AllFit c edits
IsGrown c end edits blobs more (Overfull content) =
    AllFit c edits × (content.content ≡ after_edits c edits) × (¬ AreBlobsFew (blobs ++ more))
IsGrown c end edits blobs more (Fitting applied all) =
    AllFit c edits × (applied.content.content ≡ after_edits c edits)
    × (IsTrue applied.keeps_threads ↔ AllKeepThread c edits)
    × (all.blobs ≡ blobs ++ more) × AreBlobsFew (blobs ++ more) × (end + length edits < 2 ^ 64)
