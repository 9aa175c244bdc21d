-- Uploads: what base64 is read as, and an upload that was not begun.
use Rattle.std.proofs.Common.{◌≡◌, inl, ℕ, nat_lt, cond, Bool, true, false, List, length, Option, Some, None, Ok, Err, sym, ap, subst}
use Rattle.std.specs.Result.{result_ok}
use Rattle.base64.specs.GeneralPurpose.{decode_of, decoded_of}
use Rattle.base64.specs.Engines.{standard}
use Rattle.base64.specs.declared.decode.DecodeError.{DecodeError}
use Rattle.batch_lines.specs.Uploads.{HasBegunBytes, HasBegunUpload, HasHalted, base64_bytes}
use Rattle.batch_lines.specs.declared.upload.Uploaded.{Uploaded}
use Rattle.batch_lines.specs.declared.limits.TheConstants.{MAX_UPLOAD_CHARACTERS}
use Rattle.jm_base.specs.declared.limits.TheConstants.{MAX_UPLOAD_BYTES}

abbrev pub Rests : {S : Type 0} → (S → List ℕ → S → Type 0) → Type 0
Rests {S} halts = (s : S) (bytes : List ℕ) → halts s bytes s

module _ {S : Type 0} (uploads : S → List ℕ → Uploaded → S → Type 0) (halts : S → List ℕ → S → Type 0) (rests : Rests halts) (s s' : S) where
  bytes_by : (b : Bool) (bytes : List ℕ) → s' ≡ s → cond b (s' ≡ s) (HasHalted uploads halts s s' bytes)
  bytes_by true bytes e = e
  bytes_by false bytes e = inl (subst (λ (x : S). halts s bytes x) (sym e) (rests s bytes))

  pub bytes_not_begun : (o : Option (List ℕ)) → s' ≡ s → HasBegunBytes uploads halts s s' o
  bytes_not_begun None e = e
  bytes_not_begun (Some bytes) e = bytes_by (nat_lt MAX_UPLOAD_BYTES (length bytes)) bytes e

  upload_by : (b : Bool) (string : List ℕ) → s' ≡ s → cond b (s' ≡ s) (HasBegunBytes uploads halts s s' (base64_bytes string))
  upload_by true string e = e
  upload_by false string e = bytes_not_begun (base64_bytes string) e

  pub upload_not_begun : (string : List ℕ) → s' ≡ s → HasBegunUpload uploads halts s s' string
  upload_not_begun string e = upload_by (nat_lt MAX_UPLOAD_CHARACTERS (length string)) string e

-- ---- what base64 is read as

pub bytes_read : (string bytes : List ℕ) → decode_of standard string ≡ Ok bytes → base64_bytes string ≡ Some bytes
unfolding base64_bytes decoded_of
bytes_read string bytes e = ap result_ok e

pub bytes_missed : (string : List ℕ) (fault : DecodeError) → decode_of standard string ≡ Err fault → base64_bytes string ≡ None
unfolding base64_bytes decoded_of
bytes_missed string fault e = ap result_ok e
