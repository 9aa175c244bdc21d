-- What a call makes of a content that is kept, where contracts know it.
--
-- They know it as an `Option`: `None` where whatever keeps it cannot say what it is, as after a
-- fault of a disk.
use Rattle.std.specs.Prelude.{◌≡◌, Result, Ok, Err, Option, Some, None}
use Rattle.jm_edge.specs.declared.fault.EdgeFault.{EdgeFault}

module _ {A : Type 0} where
  -- this is the content, if the content is known
  abbrev pub IsContent : Option A → A → Type 0
  IsContent known content = (told : A) → known ≡ Some told → content ≡ told

  -- the content is unknown now, or exactly this
  abbrev pub IsUnknownOr : Option A → Option A → Type 0
  IsUnknownOr next now = (told : A) → now ≡ Some told → next ≡ Some told

  -- the content after a call that makes `next` of the content `old`: an error leaves it as it was
  abbrev pub content_after : {T : Type 0} → Result T EdgeFault → Option A → Option A → Option A
  content_after (Ok _) next old = next
  content_after (Err _) next old = old

  -- The content after it was loaded, which changes nothing. A content that was unknown is known by
  -- what an Ok returned.
  abbrev pub content_loaded : Result A EdgeFault → Option A → Option A
  content_loaded (Ok content) None = Some content
  content_loaded (Ok content) (Some old) = Some old
  content_loaded (Err _) old = old
