-- What a keeper's content is to the history of an account, and what a crash may leave of it.
use Rattle.std.specs.Prelude.{◌≡◌, ℕ, ◌<◌, List, [], ◌∷◌, Option, Some, None, ◌⊎◌, ⊤}
use Rattle.keep_port.specs.declared.kept.Kept.{Kept}
use Rattle.mail_records.specs.Histories.{History, Committed, Refused, account_after, commits_in, empty_history, grown}
use Rattle.mail_records.specs.declared.edits.Commit.{Commit}
use Rattle.record_codec.specs.Bases.{IsBaseEncodingOf}
use Rattle.record_codec.specs.Offsets.{IsEncodingOf}

-- the rows are the encodings of the commits, in order
abbrev pub AreEncodings : List (List ℕ) → List Commit → Type 0
AreEncodings [] [] = ⊤
AreEncodings (row ∷ rows) (c ∷ cs) = IsEncodingOf row c × AreEncodings rows cs
AreEncodings _ _ = ⊥

-- The base is the history's. Without a base the history began with nothing at position 0.
abbrev pub IsBaseOf : Option (List ℕ) → History → Type 0
IsBaseOf None h = account_after h 0 ≡ empty_history
IsBaseOf (Some bytes) h = IsBaseEncodingOf bytes h

-- A content keeps a history: its base is the history's, and its rows are the encodings of the
-- history's commits, in order. Refusals are not kept.
pub record KeepsHistory (k : Kept) (h : History) : Type 0 where
  pub base : IsBaseOf k.base h
  pub rows : AreEncodings k.rows (commits_in h.entries)

-- a content keeps the history with one commit more, with which the account is valid
pub record IsOneMore (whole : History → Type 0) (k : Kept) (h : History) : Type 0 where
  pub commit : Commit
  pub valid : whole (grown h (Committed commit))
  pub keeps : KeepsHistory k (grown h (Committed commit))

-- whatever a crash may leave keeps the history, or the history with one commit more
abbrev pub LeavesHistory : (History → Type 0) → (Kept → Type 0) → History → Type 0
LeavesHistory whole image h = (k : Kept) → image k → KeepsHistory k h ⊎ IsOneMore whole k h

-- if a keeper knows its content, that keeps the history
abbrev pub KnowsHistory : Option Kept → History → Type 0
KnowsHistory known h = (k : Kept) → known ≡ Some k → KeepsHistory k h

-- a crash leaves the history and nothing else
abbrev pub LeavesOnly : (Kept → Type 0) → History → Type 0
LeavesOnly image h = (k : Kept) → image k → KeepsHistory k h

-- a crash leaves nothing but what it might have left before, or the history with exactly this
-- commit
abbrev pub LeavesAtMost : (before now : Kept → Type 0) → History → Commit → Type 0
LeavesAtMost before now h c =
    (k : Kept) → now k → before k ⊎ KeepsHistory k (grown h (Committed c))

-- What a call that would enter this commit makes of the history, and of what a crash may leave.
-- Either the commit is entered, and a crash leaves the history with it and nothing else. Or it is
-- not: the history stays, or gains the mark that the commit was refused, and of all commits that
-- are not entered only this one may be there after a crash that might not have been there before.
abbrev pub IsLeftBy : (before now : Kept → Type 0) → (h h' : History) → Commit → Type 0
IsLeftBy before now h h' c =
    ((h' ≡ grown h (Committed c)) × LeavesOnly now h')
    ⊎ (((h' ≡ h) ⊎ (h' ≡ grown h (Refused c.stamp))) × LeavesAtMost before now h c)

-- A content keeps the history after as many calls with exactly one commit more: that of the call
-- with this index. Neither that call nor one after it entered a commit.
pub record IsOneAsked (histories : ℕ → History) (commits : ℕ → Commit) (count : ℕ) (k : Kept)
    : Type 0 where
  pub index : ℕ
  pub asked : index < count
  pub none_since : commits_in (histories count).entries ≡ commits_in (histories index).entries
  pub keeps : KeepsHistory k (grown (histories count) (Committed (commits index)))

-- What a crash may leave after as many calls, of which each would enter its commit: the history
-- after them; that with the commit of one call that was not entered, as none was since; or, if no
-- call entered its commit, what a crash might have left before them.
abbrev pub IsLeftAfter : (first : Kept → Type 0) → (ℕ → History) → (ℕ → Commit) → ℕ → Kept
    → Type 0
IsLeftAfter first histories commits count k =
    KeepsHistory k (histories count) ⊎ IsOneAsked histories commits count k
    ⊎ ((commits_in (histories count).entries ≡ commits_in (histories 0).entries) × first k)

-- A keeper is ready: whatever valid history it may keep, a crash leaves that, or that with one
-- commit more. If the keeper knows its content, the histories are those that its content keeps. So
-- it is ready if a crash leaves nothing but its content, as after an `append` or a `replace` that
-- returned Ok, or if a book returned it with a known content. If the keeper doesn't know its
-- content, the histories are all valid ones. So it is ready then only if it promises nothing of a
-- crash.
abbrev pub IsReady : (History → Type 0) → Option Kept → (Kept → Type 0) → Type 0
IsReady whole known image =
    (h : History) → whole h → KnowsHistory known h → LeavesHistory whole image h

-- What holds of a keeper, which was as `then` says when its content was loaded, and the history
-- that the content has become. If the keeper knows its content, that keeps the history. If the
-- keeper was ready then, a crash leaves each commit of the history, complete and in order, and at
-- most one commit more, whether or not the keeper knows its content now.
pub record IsKept (whole : History → Type 0) (known_then : Option Kept)
    (image_then : Kept → Type 0) (known : Option Kept) (image : Kept → Type 0)
    (h : History) : Type 0 where
  pub content : KnowsHistory known h
  pub left : IsReady whole known_then image_then → LeavesHistory whole image h
