-- What a plan is made on, and the state of a kind of record after the edits of a plan (RFC 8620,
-- 5.1 and 5.3).
use Rattle.std.specs.Prelude.{◌≡◌, ℕ, ◌+◌, List, ◌++◌, length, map}
use Rattle.jm_base.specs.declared.identifiers.Id.{Id}
use Rattle.jm_base.specs.declared.identifiers.Kind.{Kind}
use Rattle.mail_records.specs.Contents.{Content}
use Rattle.mail_records.specs.Edits.{id_of}
use Rattle.mail_records.specs.Histories.{History, Committed, Floors, content_of, grown, ids_of}
use Rattle.mail_records.specs.States.{last_position, state_of}
use Rattle.mail_records.specs.declared.edits.Commit.{Commit}
use Rattle.mail_records.specs.declared.edits.Edit.{Edit}

-- What a plan is made on: the account's present content, the position at which its log begins and
-- each kind's position there, and the records that the edits since then name.
pub record Ground : Type 0 where
  pub content : Content
  pub floor : ℕ
  pub floors : Floors
  pub ids : List Id

-- what a history says of the account that a plan is made on
abbrev pub ground_of_history : History → Ground
ground_of_history h =
    record { content = content_of h; floor = h.floor; floors = h.floors; ids = ids_of h }

-- the present state of a kind: the position of the kind's last edit, else its position at the floor
abbrev pub present_state : Kind → Ground → ℕ
present_state kind g = last_position kind g.floor g.floors g.ids

-- the last position
abbrev pub present_end : Ground → ℕ
present_end g = g.floor + length g.ids

-- the state of a kind after these edits of a plan
abbrev pub state_after : Kind → Ground → List Edit → ℕ
state_after kind g edits = last_position kind g.floor g.floors (g.ids ++ map id_of edits)

-- The state after the edits of a commit is the state in the history that has grown by the commit.
abbrev pub IsStateOfGrown : Type 0
IsStateOfGrown =
    (kind : Kind) (h : History) (c : Commit) → state_after kind (ground_of_history h) c.edits
    ≡ state_of (grown h (Committed c)) kind
