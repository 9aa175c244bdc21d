-- What has changed since a state, page by page (RFC 8620, 5.2; RFC 8621, 2.2, 3.2 and 4.3).
use Rattle.std.specs.Prelude.{◌≡◌, ℕ, zero, suc, ℤ, pos, negsuc, nat_le, nat_lt, ◌==◌, Bool, true, false, not, ◌&&◌, ◌||◌, if◌then◌else◌, List, [], ◌∷◌, length, filter, Option, Some, None, option_map, unwrap_or, bytes_eq, ⊤}
use Rattle.std.specs.List.{list_all}
use Rattle.jm_base.specs.Ids.{state_text}
use Rattle.jm_base.specs.declared.identifiers.TheConstants.{NUMBER_LIMIT}
use Rattle.jm_base.specs.declared.identifiers.Id.{Id}
use Rattle.jm_base.specs.declared.identifiers.Kind.{Kind}
use Rattle.mail_records.specs.Contents.{is_present}
use Rattle.mail_records.specs.Edits.{AllFit, id_of}
use Rattle.mail_records.specs.Histories.{History, content_at, edits_between, edits_of, end_of, floor_of, ids_of}
use Rattle.mail_records.specs.States.{ids_between, is_id, is_kind_of, state_at}
use Rattle.mail_records.specs.Tables.{put}
use Rattle.mail_records.specs.declared.edits.Edit.{Edit}
use Rattle.state_log.specs.Logs.{IsLogOf, Notes, changes_counts}
use Rattle.change_calls.specs.declared.page.ChangePage.{ChangePage}
use Rattle.change_calls.specs.declared.page.ChangeFault.{ChangeFault}
use Rattle.change_calls.specs.declared.page.ChangeFault.TheVariants.{CannotCalculate, BadMaximum, NoMemory}

-- ---- which records edits name

-- these numbers, and those of the kind that ids name, in number order, each once
abbrev pub numbers_with : Kind → List ℕ → List Id → List ℕ
numbers_with kind numbers [] = numbers
numbers_with kind numbers (i ∷ is) =
    numbers_with kind (if is_kind_of kind i then put (λ n. n) i.number numbers else numbers) is

-- The numbers of the records of the kind that the edits after one position, up to another, name:
-- in number order, each once.
abbrev pub touched : History → Kind → ℕ → ℕ → List ℕ
touched h kind from upto = numbers_with kind [] (ids_between h.floor from upto (ids_of h))

-- ---- where a page ends

-- the greatest number that passes, of those up to n
abbrev pub greatest_upto : (ℕ → Bool) → ℕ → Option ℕ
greatest_upto test zero = if test 0 then Some 0 else None
greatest_upto test (suc n) = if test (suc n) then Some (suc n) else greatest_upto test n

-- so many are at most the maximum, if there is one
abbrev pub is_within : Option ℕ → ℕ → Bool
is_within None count = true
is_within (Some max) count = nat_le count max

-- a page may go from one position to the other
abbrev pub may_end : History → Kind → Option ℕ → ℕ → ℕ → Bool
may_end h kind max from upto = nat_le from upto && is_within max (length (touched h kind from upto))

-- The position at which the page from a state ends: the greatest one up to which the edits of the
-- kind name at most the maximum of records. Without a maximum it is the last position.
abbrev pub page_end : History → Kind → Option ℕ → ℕ → ℕ
page_end h kind max from = unwrap_or (greatest_upto (may_end h kind max from) (end_of h)) from

-- ---- what a page says

-- whether the record of the kind and number is there at a position
abbrev pub is_there : History → Kind → ℕ → ℕ → Bool
is_there h kind position n = is_present (content_at h position) kind n

-- the record was absent at the one position and is present at the other
abbrev pub created : History → Kind → ℕ → ℕ → List ℕ
created h kind from upto =
    filter (λ n. not (is_there h kind from n) && is_there h kind upto n)
    (touched h kind from upto)

-- the record is present at both
abbrev pub updated : History → Kind → ℕ → ℕ → List ℕ
updated h kind from upto =
    filter (λ n. is_there h kind from n && is_there h kind upto n) (touched h kind from upto)

-- the record was present at the one position and is absent at the other
abbrev pub destroyed : History → Kind → ℕ → ℕ → List ℕ
destroyed h kind from upto =
    filter (λ n. is_there h kind from n && not (is_there h kind upto n)) (touched h kind from upto)

-- each of the edits that names the record changes only the counts of a mailbox
abbrev pub change_only_counts : Kind → List Edit → ℕ → Bool
change_only_counts kind edits n =
    list_all (λ e. not (is_id kind n (id_of e)) || changes_counts e) edits

-- the list has an item
abbrev pub is_some_there : List ℕ → Bool
is_some_there [] = false
is_some_there (n ∷ ns) = true

-- there are updated records, and each edit of them changes only the counts of a mailbox (RFC 8621,
-- 2.2)
abbrev pub are_only_counts : History → Kind → ℕ → ℕ → Bool
are_only_counts h kind from upto =
    is_some_there (updated h kind from upto)
    && list_all (change_only_counts kind (edits_between h from upto)) (updated h kind from upto)

-- The page from one position to another (RFC 8620, 5.2). A record that is absent at both is in no
-- list.
abbrev pub page_of : History → Kind → ℕ → ℕ → ChangePage
page_of h kind from upto = record {
  created = created h kind from upto;
  updated = updated h kind from upto;
  destroyed = destroyed h kind from upto;
  new_state = state_at h kind upto;
  more = not (upto == end_of h);
  counts_only = are_only_counts h kind from upto;
}

-- ---- what is asked

-- a maximum is from 1 on
abbrev pub positive : ℤ → Option ℕ
positive (pos n) = if nat_le 1 n then Some n else None
positive (negsuc n) = None

-- the maximum that is asked for, which may be none; none of these where it is below 1
abbrev pub maximum_of : Option ℤ → Option (Option ℕ)
maximum_of None = Some None
maximum_of (Some z) = option_map Some (positive z)

-- the text is that of a state of the kind at this position or after it, and all edits of the kind
-- since then are known
abbrev pub is_state_of : History → Kind → List ℕ → ℕ → Bool
is_state_of h kind text position =
    nat_le (floor_of h.floors kind) position
    && (nat_lt position NUMBER_LIMIT && bytes_eq text (state_text position))

-- the position that a state's text names, if the history reaches it
abbrev pub reached_state : History → Kind → List ℕ → Option ℕ
reached_state h kind text = greatest_upto (is_state_of h kind text) (end_of h)

-- what a call for changes is answered
pub data Answer : Type 0 where
  answered : (page : ChangePage) → Answer
  invalid_maximum : Answer
  cannot_calculate : Answer

abbrev pub answer_since : History → Kind → Option ℕ → Option ℕ → Answer
answer_since h kind max None = cannot_calculate
answer_since h kind max (Some from) = answered (page_of h kind from (page_end h kind max from))

abbrev pub answer_within : History → Kind → List ℕ → Option (Option ℕ) → Answer
answer_within h kind text None = invalid_maximum
answer_within h kind text (Some max) = answer_since h kind max (reached_state h kind text)

-- The answer to a call for the changes of a kind since a state, with a maximum or none. The
-- maximum is looked at first.
abbrev pub answer_of : History → Kind → List ℕ → Option ℤ → Answer
answer_of h kind text max = answer_within h kind text (maximum_of max)

-- a call for changes fails with this fault instead of this answer; memory may run out in any call
abbrev pub ChangesFail : ChangeFault → Answer → Type 0
ChangesFail CannotCalculate a = a ≡ cannot_calculate
ChangesFail BadMaximum a = a ≡ invalid_maximum
ChangesFail NoMemory a = ⊤

-- the log is that of the history, whose edits fit one after the other
pub record IsKeptBy (l : Notes) (h : History) : Type 0 where
  pub log : IsLogOf h l
  pub fits : AllFit h.base (edits_of h)
