-- A history whose floor moves up to the end of some of its entries, as a compaction moves it: what
-- was before is known by the content there alone.
use Rattle.std.specs.Prelude.{ℕ, drop}
use Rattle.mail_records.specs.Histories.{History, Floors, content_at, blobs_after, end_after}
use Rattle.mail_records.specs.States.{state_at}
use Rattle.jm_base.specs.declared.identifiers.Kind.TheVariants.{Mailbox as OfMailbox, Email as OfEmail, Thread as OfThread}

-- the state of each kind at a position
abbrev pub floors_at : History → ℕ → Floors
floors_at h k =
    record {
      mailbox = state_at h OfMailbox k;
      email = state_at h OfEmail k;
      thread = state_at h OfThread k;
    }

-- The history whose floor is the end of its first c entries: each kind's floor position is the
-- state of the kind there, the base is the content and the blobs there, and the entries are the
-- others.
abbrev pub moved_up : History → ℕ → History
moved_up h c = record {
  floor = end_after h c;
  floors = floors_at h (end_after h c);
  base = content_at h (end_after h c);
  base_blobs = blobs_after h c;
  entries = drop c h.entries;
}
