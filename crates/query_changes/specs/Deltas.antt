-- How the result list of a query changed since a state (RFC 8620, 5.6).
use Rattle.std.specs.Prelude.{◌≡◌, ℕ, ◌+◌, Bool, true, false, List, length, Option, Some, None, if◌then◌else◌, ⊤}
use Rattle.jm_base.specs.Splices.{with_index}
use Rattle.mail_records.specs.Contents.{Content}
use Rattle.mail_records.specs.Histories.{History, content_of}
use Rattle.mail_records.specs.States.{state_of}
use Rattle.state_log.specs.Logs.{IsLogOf, Notes}
use Rattle.change_calls.specs.Changes.{is_within, reached_state}
use Rattle.filter_terms.specs.Texts.{MessageTexts}
use Rattle.query_engine.specs.Queries.{result_list}
use Rattle.query_engine.specs.Views.{QueryTree}
use Rattle.query_changes.specs.Touched.{is_touched, touched}
use Rattle.query_changes.specs.declared.delta.Delta.{Delta}
use Rattle.query_changes.specs.declared.delta.DeltaFault.{DeltaFault}
use Rattle.query_changes.specs.declared.delta.DeltaFault.TheVariants.{CannotCalculate, TooMany, NoMemory}

-- The changes of a query's result list since a position: the numbers of all touched records, in
-- number order; each touched number of the present list with its index there; and the state of the
-- kind and the length of the list now.
abbrev pub delta_of : History → QueryTree → (ℕ → MessageTexts) → ℕ → Delta
delta_of h q texts s = record {
  removed = touched h q s;
  added = with_index (is_touched h q s) 0 (result_list q (content_of h) texts);
  new_state = state_of h q.kind;
  total = length (result_list q (content_of h) texts);
}

-- how many changes these are: those of both lists
abbrev pub change_count : Delta → ℕ
change_count d = length d.removed + length d.added

-- what a call for the changes of a query is answered
pub data Answer : Type 0 where
  answered : (delta : Delta) → Answer
  cannot_calculate : Answer
  too_many : (count : ℕ) → Answer

abbrev pub answer_within : Option ℕ → Delta → Answer
answer_within max d =
    if is_within max (change_count d) then answered d else too_many (change_count d)

abbrev pub answer_since
    : History → QueryTree → (ℕ → MessageTexts) → Option ℕ → Option ℕ → Answer
answer_since h q texts max None = cannot_calculate
answer_since h q texts max (Some s) = answer_within max (delta_of h q texts s)

-- The answer to a call for the changes of a query since the state with this text, over an account
-- with this history, whose blobs have these texts: at most so many changes, if there is a maximum.
-- The state is looked at first.
abbrev pub answer_of
    : History → QueryTree → (ℕ → MessageTexts) → List ℕ → Option ℕ → Answer
answer_of h q texts since max = answer_since h q texts max (reached_state h q.kind since)

-- a call fails with this fault instead of this answer; memory may run out in any call
abbrev pub DeltaFails : DeltaFault → Answer → Type 0
DeltaFails CannotCalculate a = a ≡ cannot_calculate
DeltaFails (TooMany count) a = a ≡ too_many count
DeltaFails NoMemory a = ⊤

-- the changes as a response shows them, with the total or without it
abbrev pub shown : Bool → Delta → Delta
shown true d = d
shown false d = record d { total = 0 }

-- these changes are the answer, as a response with the total or without it shows them
abbrev pub IsShown : Bool → Delta → Answer → Type 0
IsShown counted d (answered e) = shown counted d ≡ shown counted e
IsShown counted d cannot_calculate = ⊥
IsShown counted d (too_many count) = ⊥

-- the log and the content are those of the history
pub record AreOf (h : History) (l : Notes) (c : Content) : Type 0 where
  pub log : IsLogOf h l
  pub content : c ≡ content_of h
