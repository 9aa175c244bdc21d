-- How the rows of a keeper make a history, and which of them is at fault.
use Rattle.std.specs.Prelude.{◌≡◌, ℕ, ◌+◌, List, take, map, length, Ok, Option, Some, None, ◌⊎◌, MatchOption, slice_get, ⊤}
use Rattle.blob_store.specs.Blobs.{AreBlobsFew}
use Rattle.jm_edge.specs.Causes.{Rose}
use Rattle.keep_port.specs.Keeping.{IsContent, IsUnknownOr, content_loaded}
use Rattle.keep_port.specs.declared.kept.Kept.{Kept}
use Rattle.mail_records.specs.Contents.{empty_content}
use Rattle.mail_records.specs.Edits.{AllFit}
use Rattle.mail_records.specs.Histories.{History, Committed, blobs_of, content_of, edits_of, empty_history, grown}
use Rattle.mail_records.specs.declared.edits.Commit.{Commit}
use Rattle.record_codec.specs.Offsets.{IsEncodingOf, IsFaultOffset}
use Rattle.account_book.specs.Keeping.{AreEncodings, IsReady}
use Rattle.account_book.specs.declared.faults.Reason.{Reason}
use Rattle.account_book.specs.declared.faults.Reason.TheVariants.{NotACommit, DoesNotFit, NotWhole}
use Rattle.account_book.specs.declared.faults.StartFault.{StartFault}
use Rattle.account_book.specs.declared.faults.StartFault.TheVariants.{KeeperFault, Damaged, NoMemory}
use Rattle.account_book.specs.declared.loading.Loading.{Loading}
use Rattle.account_book.specs.declared.loading.Loading.TheVariants.{Fitting, Overfull}

-- the history of commits that began with nothing
abbrev pub history_of_commits : List Commit → History
history_of_commits cs = record empty_history { entries = map Committed cs }

-- the rows are the encodings of these commits, whose edits fit one after the other
pub record AreTaken (rows : List (List ℕ)) (cs : List Commit) : Type 0 where
  pub encoded : AreEncodings rows cs
  pub fits : AllFit empty_content (edits_of (history_of_commits cs))

-- A row is at fault, with this history before it: its bytes are no commit's encoding, from this
-- byte offset on, or that of a commit whose edits don't fit.
abbrev pub IsRowFault : List ℕ → History → Reason → Type 0
IsRowFault bytes h (NotACommit place) = IsFaultOffset bytes place
IsRowFault bytes h DoesNotFit = (c : Commit) × IsEncodingOf bytes c
    × (¬ AllFit (content_of h) c.edits)
IsRowFault bytes h NotWhole = ⊥

-- This row, counted from 1, is the first that is at fault: those before it are commits that fit.
pub record IsFirstFault (rows : List (List ℕ)) (row : ℕ) (why : Reason) : Type 0 where
  pub index : ℕ
  pub row_is : row ≡ index + 1
  pub commits : List Commit
  pub before : AreTaken (take index rows) commits
  pub bytes : List ℕ
  pub there : slice_get rows index ≡ Some bytes
  pub fault : IsRowFault bytes (history_of_commits commits) why

-- All rows are commits that fit, but the account is not valid. The last row is named, counted from
-- 1.
pub record IsNotWhole (whole : History → Type 0) (rows : List (List ℕ)) (row : ℕ)
    (why : Reason) : Type 0 where
  pub commits : List Commit
  pub all : AreTaken rows commits
  pub invalid : ¬ whole (history_of_commits commits)
  pub last : row ≡ length rows
  pub reason : why ≡ NotWhole

-- a base is row 0, and at fault: it is no commit from its first byte on
abbrev pub AreDamaged : (History → Type 0) → Option (List ℕ) → List (List ℕ) → ℕ → Reason → Type 0
AreDamaged whole (Some base) rows row why = (row ≡ 0) × (why ≡ NotACommit 0)
AreDamaged whole None rows row why = IsFirstFault rows row why ⊎ IsNotWhole whole rows row why

-- A content is damaged at this row, for this reason. A base is row 0, and the rows are counted from
-- 1.
abbrev pub IsDamaged : (History → Type 0) → Kept → ℕ → Reason → Type 0
IsDamaged whole k row why = AreDamaged whole k.base k.rows row why

-- a content has no base, and its rows make this history
pub record MakesHistory (k : Kept) (h : History) : Type 0 where
  pub no_base : k.base ≡ None
  pub commits : List Commit
  pub taken : AreTaken k.rows commits
  pub is : h ≡ history_of_commits commits

-- This content was loaded: it is the keeper's afterwards, if that is known, and it was before, if
-- that was known and still is.
pub record WasLoaded (content : Kept) (old new : Option Kept) : Type 0 where
  pub content_is : IsContent new content
  pub kept : IsUnknownOr (content_loaded (Ok content) old) new

-- a book was opened with this history: that of the content that was loaded
pub record IsOpened (old new : Option Kept) (h : History) : Type 0 where
  pub content : Kept
  pub loaded : WasLoaded content old new
  pub makes : MakesHistory content h

-- a crash leaves nothing but what it might have left before, or what the content is
abbrev pub IsLeftBefore : (Kept → Type 0) → Option Kept → (Kept → Type 0) → Type 0
IsLeftBefore old known new = (k : Kept) → new k → old k ⊎ (known ≡ Some k)

-- A keeper that was ready is so once it is loaded, unless it lost its knowledge of its content.
abbrev pub IsReadyLoaded : (History → Type 0) → Option Kept → (Kept → Type 0) → Option Kept
    → (Kept → Type 0) → Type 0
IsReadyLoaded whole known image loaded image_loaded =
    IsReady whole known image → (loaded ≡ None → known ≡ None) → IsReady whole loaded image_loaded

-- a known content is the same afterwards, or unknown
abbrev pub IsAsBefore : Option Kept → Option Kept → Type 0
IsAsBefore old new = (k t : Kept) → old ≡ Some k → new ≡ Some t → t ≡ k

-- Why a book is not opened: the keeper's count of faults of `load` rose; or, with no fault of
-- `load`, the content that was loaded is damaged at this row, or memory ran out.
abbrev pub IsStartFault : (History → Type 0) → Option Kept → Option Kept → ℕ → ℕ → StartFault
    → Type 0
IsStartFault whole old new before now KeeperFault = Rose before now
IsStartFault whole old new before now (Damaged row why) =
    (now ≡ before) × ((content : Kept) × WasLoaded content old new
    × IsDamaged whole content row why)
IsStartFault whole old new before now NoMemory = now ≡ before

-- ---- one row after the other

-- What is loaded up to here: an account with this history; or only its content, where its blobs are
-- past the limits of an account.
abbrev pub IsLoading : Loading → History → Type 0
IsLoading (Fitting account) h = account.history ≡ h
IsLoading (Overfull content) h = (content.content ≡ content_of h) × (¬ AreBlobsFew (blobs_of h))

-- what comes of a commit after this history: None where its edits don't fit
abbrev pub IsTaken : History → Commit → Option Loading → Type 0
IsTaken h commit next =
    MatchOption next (¬ AllFit (content_of h) commit.edits) (λ l. AllFit (content_of h) commit.edits
    × IsLoading l (grown h (Committed commit)))

-- the row is a commit that fits, and this is loaded with it
pub record TakesRow (bytes : List ℕ) (h : History) (next : Loading) : Type 0 where
  pub commit : Commit
  pub encoded : IsEncodingOf bytes commit
  pub fits : AllFit (content_of h) commit.edits
  pub is : IsLoading next (grown h (Committed commit))

-- why the commit of this row is not taken
abbrev pub IsCommitRefused : Commit → ℕ → History → StartFault → Type 0
IsCommitRefused commit row h KeeperFault = ⊥
IsCommitRefused commit row h (Damaged r why) =
    (r ≡ row) × (why ≡ DoesNotFit) × (¬ AllFit (content_of h) commit.edits)
IsCommitRefused commit row h NoMemory = ⊤

-- why this row is not taken
abbrev pub IsRowRefused : List ℕ → ℕ → History → StartFault → Type 0
IsRowRefused bytes row h KeeperFault = ⊥
IsRowRefused bytes row h (Damaged r why) = (r ≡ row) × IsRowFault bytes h why
IsRowRefused bytes row h NoMemory = ⊤

-- all rows are taken, and this is loaded
pub record AreLoaded (rows : List (List ℕ)) (l : Loading) : Type 0 where
  pub commits : List Commit
  pub taken : AreTaken rows commits
  pub is : IsLoading l (history_of_commits commits)

-- why the rows are not all taken
abbrev pub IsLoadFault : List (List ℕ) → StartFault → Type 0
IsLoadFault rows KeeperFault = ⊥
IsLoadFault rows (Damaged row why) = IsFirstFault rows row why
IsLoadFault rows NoMemory = ⊤

-- why what is loaded is no valid account
abbrev pub IsEndFault : (History → Type 0) → History → ℕ → StartFault → Type 0
IsEndFault whole h last KeeperFault = ⊥
IsEndFault whole h last (Damaged row why) = (row ≡ last) × (why ≡ NotWhole) × (¬ whole h)
IsEndFault whole h last NoMemory = ⊤

-- why the content is not opened
abbrev pub IsContentFault : (History → Type 0) → Kept → StartFault → Type 0
IsContentFault whole k KeeperFault = ⊥
IsContentFault whole k (Damaged row why) = IsDamaged whole k row why
IsContentFault whole k NoMemory = ⊤
