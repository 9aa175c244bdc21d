-- What each step of a port keeps, all lines keep.
use Rattle.std.proofs.Common.{◌≡◌, ◌⊎◌, inl, inr, ℕ, ◌==◌, List, [], ◌∷◌, Option, Some, None, nat_lt, length}
use Rattle.jm_base.specs.declared.limits.TheConstants.{MAX_UPLOAD_BYTES}
use Rattle.jm_json.specs.Tree.{Tree}
use Rattle.batch_lines.specs.Input.{HasBegunInput, Seen}
use Rattle.batch_lines.specs.Lines.{ended_lines, lines_of}
use Rattle.batch_lines.specs.Replies.{AreReplies, HasBegunFirst, HasBegunLine, HasBegunReplies, IsLineReply, plus_sign}
use Rattle.batch_lines.specs.Uploads.{HasBegunBytes, HasBegunUpload, HasHalted, IsAnswerToBytes, IsUploadAnswer, base64_bytes}
use Rattle.batch_lines.specs.declared.limits.TheConstants.{MAX_UPLOAD_CHARACTERS}
use Rattle.batch_lines.specs.declared.upload.Uploaded.{Uploaded}
use Rattle.jmap_http.specs.Steps.{UserSteps}
use Rattle.hall_port.proofs.Through.{IsKeptBySteps, answer, begun_answer, by_cond, still}

-- a relation of states that each upload of a line keeps
pub record IsKeptByLines {S : Type 0} (uploads : S → List ℕ → Uploaded → S → Type 0) (halts : S → List ℕ → S → Type 0) (K : S → S → Type 0) : Type 0 where
  pub uploaded : (s : S) (bytes : List ℕ) (u : Uploaded) (s' : S) → uploads s bytes u s' → K s s'
  pub halted : (s : S) (bytes : List ℕ) (s' : S) → halts s bytes s' → K s s'

module _ {S : Type 0} (steps : UserSteps S) (uploads : S → List ℕ → Uploaded → S → Type 0) (halts : S → List ℕ → S → Type 0) (K : S → S → Type 0) (kept : IsKeptBySteps steps K) (lines : IsKeptByLines uploads halts K) where
  same : (s s' : S) → s' ≡ s → K s s'
  same s s' is = still steps K kept s s' is

  to_bytes : (s s' : S) (t : Tree) (o : Option (List ℕ)) → IsAnswerToBytes uploads s s' o t → K s s'
  to_bytes s s' t None w = same s s' w.0
  to_bytes s s' t (Some bytes) w = by_cond (nat_lt MAX_UPLOAD_BYTES (length bytes)) _ _ _ (λ u. same s s' u.0) (λ u. lines.uploaded s bytes u.0 s' u.1) w

  to_upload : (s s' : S) (string : List ℕ) (t : Tree) → IsUploadAnswer uploads s s' string t → K s s'
  to_upload s s' string t w = by_cond (nat_lt MAX_UPLOAD_CHARACTERS (length string)) _ _ _ (λ u. same s s' u.0) (to_bytes s s' t (base64_bytes string)) w

  to_line : (s s' : S) (line reply : List ℕ) → IsLineReply steps.answers uploads s s' line reply → K s s'
  to_line s s' [] reply w = same s s' w.0
  to_line s s' (x ∷ xs) reply w = by_cond (x == plus_sign) _ _ _ (λ u. to_upload s s' xs u.0 u.1) (λ u. answer steps K kept s s' (x ∷ xs) u.0 u.1) w

  halted : (s s' : S) (bytes : List ℕ) → HasHalted uploads halts s s' bytes → K s s'
  halted s s' bytes (inl w) = lines.halted s bytes s' w
  halted s s' bytes (inr (u, w)) = lines.uploaded s bytes u s' w

  begun_bytes : (s s' : S) (o : Option (List ℕ)) → HasBegunBytes uploads halts s s' o → K s s'
  begun_bytes s s' None is = same s s' is
  begun_bytes s s' (Some bytes) w = by_cond (nat_lt MAX_UPLOAD_BYTES (length bytes)) _ _ _ (same s s') (halted s s' bytes) w

  begun_upload : (s s' : S) (string : List ℕ) → HasBegunUpload uploads halts s s' string → K s s'
  begun_upload s s' string w = by_cond (nat_lt MAX_UPLOAD_CHARACTERS (length string)) _ _ _ (same s s') (begun_bytes s s' (base64_bytes string)) w

  begun_line : (s s' : S) (line : List ℕ) → HasBegunLine steps.answers uploads steps.stops halts s s' line → K s s'
  begun_line s s' [] is = same s s' is
  begun_line s s' (x ∷ xs) w = by_cond (x == plus_sign) _ _ _ (begun_upload s s' xs) (begun_answer steps K kept s s' (x ∷ xs)) w

  replies : (s s' : S) (ls : List (List ℕ)) (written : List ℕ) → AreReplies steps.answers uploads s s' ls written → K s s'
  replies s s' [] written w = same s s' w.0
  replies s s' (l ∷ ls) written (m, reply, more, one, rest, is) = kept.go s m s' (to_line s m l reply one) (replies m s' ls more rest)

  begun_first : (s s' : S) (ls : List (List ℕ)) → HasBegunFirst steps.answers uploads steps.stops halts s s' ls → K s s'
  begun_first s s' [] is = same s s' is
  begun_first s s' (l ∷ ls) w = begun_line s s' l w

  begun_replies : (s s' : S) (ls : List (List ℕ)) (written : List ℕ) → HasBegunReplies steps.answers uploads steps.stops halts s s' ls written → K s s'
  begun_replies s s' ls written (answered, more, unwritten, m, is, first, last) = kept.go s m s' (replies s m answered _ first) (begun_first m s' more last)

  by_end : (s s' : S) (v : Seen) (bytes written : List ℕ) (Q : Type 0)
      → HasBegunReplies steps.answers uploads steps.stops halts s s' (ended_lines bytes) written ⊎ (Q × HasBegunReplies steps.answers uploads steps.stops halts s s' (lines_of bytes) written) → K s s'
  by_end s s' v bytes written Q (inl w) = begun_replies s s' (ended_lines bytes) written w
  by_end s s' v bytes written Q (inr (all, w)) = begun_replies s s' (lines_of bytes) written w

  pub through_lines : (s s' : S) (v : Seen) → HasBegunInput steps.answers uploads steps.stops halts s s' v → K s s'
  through_lines s s' v (bytes, written, read, put, w) = by_end s s' v bytes written _ w
