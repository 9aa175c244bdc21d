-- What contracts see of a book, and what holds of each.
use Rattle.std.specs.Prelude.{◌≡◌, ℕ, ◌+◌, ◌-◌, ◌^◌, ◌≤◌, min, Bool, true, false, List, drop, filter, length, take, Option, Result, Ok, Err}
use Rattle.std.specs.List.{AllByRecursion}
use Rattle.jm_edge.specs.Causes.{Rose}
use Rattle.keep_port.specs.declared.kept.Kept.{Kept}
use Rattle.mail_records.specs.Histories.{History, Entry, Committed, Refused, account_after, grown, is_refused}
use Rattle.mail_records.specs.declared.edits.Commit.{Commit}
use Rattle.account_book.specs.Keeping.{IsKept}
use Rattle.account_book.specs.Passes.{IsPassNumber, greatest_pass}

-- A book: its rules, its keeper, and its account's history. `opened` is the history that the book
-- was opened with, which has `before` entries, and `since` has the entries since. So the history is
-- `opened` grown by `since`. `opened_over` is the keeper as it was then, once it was loaded.
pub record BookView (K R : Type 0) : Type 0 where
  pub rules : R
  pub keeper : K
  pub opened_over : K
  pub history : History
  pub opened : History
  pub before : ℕ
  pub since : List Entry

-- how many of the entries are refusals
abbrev pub refusals_in : List Entry → ℕ
refusals_in entries = length (filter is_refused entries)

-- a count of faults rose by as many at least, or is at the end of its 64 bits
abbrev pub RoseBy : ℕ → ℕ → ℕ → Type 0
RoseBy many before now = min (before + many) (2 ^ 64 - 1) ≤ now

-- the account is valid at the end of each entry from this count of entries on
abbrev pub IsValidFrom : (History → Type 0) → ℕ → History → Type 0
IsValidFrom whole before h = (count : ℕ) → before ≤ count → whole (account_after h count)

-- The account is valid, and was so at the end of each entry since it was opened. The keeper keeps
-- its history. The refusals since it was opened are at most the faults of the keeper's `append`,
-- which rose by as many since. `greatest` is the greatest pass of the entries that it was opened
-- with. Each pass since is a number of 64 bits. What ends in `then` is what the keeper knew, what a
-- crash might leave of it, and its faults, when the account was opened.
pub record IsBook (whole : History → Type 0) (known_then : Option Kept) (image_then : Kept
    → Type 0) (faults_then : ℕ) (known : Option Kept) (image : Kept → Type 0)
    (faults before greatest : ℕ) (h : History) : Type 0 where
  pub valid : whole h
  pub always : IsValidFrom whole before h
  pub kept : IsKept whole known_then image_then known image h
  pub count : before ≤ length h.entries
  pub refusals : refusals_in (drop before h.entries) ≤ faults
  pub rise : RoseBy (refusals_in (drop before h.entries)) faults_then faults
  pub greatest_is : greatest ≡ greatest_pass (take before h.entries)
  pub passes : AllByRecursion IsPassNumber (drop before h.entries)

-- what a commit makes of the history: it is entered where it was kept (true), the mark of a refusal
-- is where the keeper refused it (false), and nothing is if memory ran out
abbrev pub IsEntered : {E : Type 0} → Result Bool E → History → History → Commit → Type 0
IsEntered (Ok true) before after commit = after ≡ grown before (Committed commit)
IsEntered (Ok false) before after commit = after ≡ grown before (Refused commit.stamp)
IsEntered (Err e) before after commit = after ≡ before

-- the keeper's count of faults rose if it refused the commit, and else it is as it was
abbrev pub IsFaultCounted : {E : Type 0} → Result Bool E → ℕ → ℕ → Type 0
IsFaultCounted (Ok true) before now = now ≡ before
IsFaultCounted (Ok false) before now = Rose before now
IsFaultCounted (Err e) before now = now ≡ before
