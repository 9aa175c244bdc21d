-- What one read of a link adds to the bytes that were read before it.
use Rattle.std.specs.Prelude.{◌≡◌, ⊤, ℕ, ◌<◌, List, [], ◌++◌, length, Option, Result, MatchResult}
use Rattle.std.specs.Io.KnownBytes.{Consumes, IsAtEnd}
use Rattle.jm_edge.specs.Causes.{Rose}
use Rattle.http_parts.specs.Heads.{beginning_of, HeadTooLong, Unfinished, begun_bytes}
use Rattle.http_parts.specs.declared.fault.WireFault.{WireFault}
use Rattle.http_parts.specs.declared.fault.WireFault.TheVariants.{End, ReadFault, WriteFault, BadHead, HeadTooLong as IsTooLong, BodyTooLong, CutOff, NoMemory}

-- a piece was read; if the call succeeded, the piece was appended, and it is empty only at the end;
-- after a fault of reading it is empty
pub record Receives (old new : List ℕ) (left_old left_new : Option (List ℕ))
    (result : Result ℕ WireFault) : Type 0 where
  pub piece : List ℕ
  pub consumed : Consumes left_old left_new piece
  pub outcome : MatchResult result
      (λ n. (new ≡ old ++ piece) × (length piece ≡ n) × (n ≡ 0 → IsAtEnd left_new))
      (λ fault. (new ≡ old) × (fault ≡ ReadFault → piece ≡ []))

-- the bytes grew by what was read of the link
pub record Gained (old new : List ℕ) (left_old left_new : Option (List ℕ)) : Type 0 where
  pub taken : List ℕ
  pub is : new ≡ old ++ taken
  pub consumed : Consumes left_old left_new taken

-- why no head was read, after these bytes
abbrev pub StopsInHead : WireFault → List ℕ → Option (List ℕ) → ℕ → ℕ → Type 0
StopsInHead IsTooLong seen left reads_old reads_new = beginning_of seen ≡ HeadTooLong
StopsInHead End seen left reads_old reads_new =
    (beginning_of seen ≡ Unfinished) × IsAtEnd left × (begun_bytes seen ≡ 0)
StopsInHead (CutOff count) seen left reads_old reads_new =
    (beginning_of seen ≡ Unfinished) × IsAtEnd left × (begun_bytes seen ≡ count) × (0 < count)
StopsInHead ReadFault seen left reads_old reads_new =
    (beginning_of seen ≡ Unfinished) × Rose reads_old reads_new
StopsInHead NoMemory seen left reads_old reads_new = ⊤
StopsInHead WriteFault seen left reads_old reads_new = ⊥
StopsInHead BadHead seen left reads_old reads_new = ⊥
StopsInHead (BodyTooLong limit) seen left reads_old reads_new = ⊥

-- these bytes of the link were read and no head, for this reason
abbrev pub Stops : WireFault → List ℕ → Option (List ℕ) → Option (List ℕ) → ℕ → ℕ → Type 0
Stops fault old left_old left_new reads_old reads_new =
    (taken : List ℕ) × Consumes left_old left_new taken
    × StopsInHead fault (old ++ taken) left_new reads_old reads_new
