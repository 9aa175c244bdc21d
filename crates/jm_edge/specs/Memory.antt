-- What is known of a source, a sink, a link and a clock in memory.
use Rattle.std.specs.Prelude.{ℕ, ◌-◌, min, max, List, slice_index_or}
use Rattle.jm_edge.specs.declared.arrival.Arrival.{Arrival}
use Rattle.jm_edge.specs.declared.calls.Calls.{Calls}
use Rattle.jm_base.specs.declared.utc_dates.TheConstants.{LAST_TIMESTAMP}
pub use Rattle.jm_edge.specs.Schedules.{one_on, is_to_fail}

-- The bytes that are left; the most bytes that each call reads, in turn, and the most of each call
-- after these; and the calls.
pub record Input : Type 0 where
  pub left : List ℕ
  pub sizes : List ℕ
  pub most : ℕ
  pub calls : Calls

-- The bytes that were written; the most bytes that each call writes, in turn, and the most of each
-- call after these; and the calls.
pub record Output : Type 0 where
  pub held : List ℕ
  pub sizes : List ℕ
  pub most : ℕ
  pub calls : Calls

-- The two directions of a link; and what will arrive at a socket that is made from it, and which of
-- the socket's looks and sends fail, counted from 1.
pub record Traffic : Type 0 where
  pub input : Input
  pub output : Output
  pub coming : List Arrival
  pub look_fails : List ℕ
  pub send_fails : List ℕ

-- the timestamps that are still to come, and the one after the last of these
pub record Timetable : Type 0 where
  pub next : List ℕ
  pub rest : ℕ

-- the most bytes that the call with this number reads or writes: at least one
abbrev pub size_at : List ℕ → ℕ → ℕ → ℕ
size_at sizes most call = max 1 (slice_index_or sizes (call - 1) most)

-- the timestamp itself, or the last one of the year 9999 where it is later
abbrev pub in_range : ℕ → ℕ
in_range time = min time LAST_TIMESTAMP

-- the first timestamp of a timetable, and the timetable after it
abbrev pub time_of : Timetable → ℕ
time_of t = slice_index_or t.next 0 t.rest
