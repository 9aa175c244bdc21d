-- If each step of a port is a step of another port, under a view of its states, then so are requests and lines. What holds of the states of the one port goes forward from the first one (Inv), and
-- what is known of the last one goes back to the first (Good).
use Rattle.std.proofs.Common.{◌≡◌, ◌⊎◌, inl, inr, ℕ, ◌==◌, Bool, true, false, cond, List, [], ◌∷◌, ◌++◌, Option, Some, None, codes, nat_lt, length, take, sym, ap, subst}
use Rattle.jm_base.specs.declared.limits.TheConstants.{MAX_REQUEST_BYTES, MAX_UPLOAD_BYTES}
use Rattle.jm_json.specs.Call.{Call}
use Rattle.jm_json.specs.Reading.{Reading, not_json, not_whole, whole, reading_of}
use Rattle.jm_json.specs.Tree.{Tree}
use Rattle.jm_json.specs.declared.invocation.Created.{Created}
use Rattle.jm_json.specs.declared.invocation.Replied.{Replied}
use Rattle.method_batch.specs.Answer.{Asked, HasBegunCalls, Runs, StopsAtFirst, StopsPrepared, is_echo}
use Rattle.method_batch.specs.Method.{core_capability, mail_capability}
use Rattle.method_batch.specs.Outcome.{HasBegunAnswer, HasBegunBy, HasBegunReading, HasBegunUnless, IsAnswer, IsAnswerBy, IsOutcomeBy, IsOutcomeUnless, IsRefusal, beginning, limit_tree, problem_tree}
use Rattle.method_batch.specs.Prepared.{Preparation, preparation, ready, refused}
use Rattle.method_batch.specs.Request.{problem_in, request_of, uses}
use Rattle.method_batch.specs.declared.outcome.Outcome.{Outcome}
use Rattle.method_batch.specs.declared.outcome.Problem.{Problem}
use Rattle.method_batch.specs.declared.outcome.Problem.TheVariants.{TooLarge, NotJson, NotRequest}
use Rattle.method_batch.specs.declared.progress.Progress.{Progress}
use Rattle.method_batch.specs.declared.request.Request.{Request}
use Rattle.batch_lines.specs.Input.{HasAnsweredEnded, HasAnsweredInput, HasAnsweredWithin, HasBegunInput, HasReadAll, Seen}
use Rattle.batch_lines.specs.Lines.{ended_lines, lines_of}
use Rattle.batch_lines.specs.Replies.{AreReplies, HasBegunFirst, HasBegunLine, HasBegunReplies, IsLineReply, IsRequestReply, IsUploadReply, plus_sign}
use Rattle.batch_lines.specs.Uploads.{HasBegunBytes, HasBegunUpload, HasHalted, IsAnswerToBytes, IsRejected, IsUploadAnswer, IsUploaded, base64_bytes}
use Rattle.batch_lines.specs.declared.limits.TheConstants.{MAX_INPUT_BYTES, MAX_UPLOAD_CHARACTERS}
use Rattle.batch_lines.specs.declared.upload.Uploaded.{Uploaded}

-- the problem of an upload of too many bytes
abbrev too_large : Tree
too_large = limit_tree (codes "maxSizeUpload")

-- From a state of which Inv holds, Inv holds of the next one; and if Good holds of the next one, it held of the first, and P holds.
abbrev pub Maps : {S : Type 0} → (S → Type 0) → (S → Type 0) → S → S → Type 0 → Type 0
Maps Inv Good s s' P = Inv s → Inv s' × (Good s' → Good s × P)

pub record IsSimulated {S T : Type 0} (f : S → T) (Inv Good : S → Type 0)
    (answers : S → Call → List Created → Replied → S → Type 0) (uploads : S → List ℕ → Uploaded → S → Type 0) (stops : S → Call → List Created → S → Type 0) (halts : S → List ℕ → S → Type 0)
    (answers' : T → Call → List Created → Replied → T → Type 0) (uploads' : T → List ℕ → Uploaded → T → Type 0) (stops' : T → Call → List Created → T → Type 0) (halts' : T → List ℕ → T → Type 0) : Type 0 where
  pub called : (s : S) (c : Call) (made : List Created) (r : Replied) (s' : S) → answers s c made r s' → Maps Inv Good s s' (answers' (f s) c made r (f s'))
  pub uploaded : (s : S) (bytes : List ℕ) (u : Uploaded) (s' : S) → uploads s bytes u s' → Maps Inv Good s s' (uploads' (f s) bytes u (f s'))
  pub stopped : (s : S) (c : Call) (made : List Created) (s' : S) → stops s c made s' → Maps Inv Good s s' (stops' (f s) c made (f s'))
  pub halted : (s : S) (bytes : List ℕ) (s' : S) → halts s bytes s' → Maps Inv Good s s' (halts' (f s) bytes (f s'))

module _ {S : Type 0} (Inv Good : S → Type 0) where
  pub onto : (s s' : S) (P Q : Type 0) → (P → Q) → Maps Inv Good s s' P → Maps Inv Good s s' Q
  onto s s' P Q to w = λ inv. let r = w inv in (r.0, λ good. let b = r.1 good in (b.0, to b.1))

  then : (s m s' : S) (P Q R : Type 0) → (P → Q → R) → Maps Inv Good s m P → Maps Inv Good m s' Q → Maps Inv Good s s' R
  then s m s' P Q R both one two = λ inv. let a = one inv in let b = two a.0 in (b.0, λ good. let y = b.1 good in let x = a.1 y.0 in (x.0, both x.1 y.1))

  by_both : (b : Bool) (s s' : S) (A B P Q : Type 0) → (A → Maps Inv Good s s' P) → (B → Maps Inv Good s s' Q) → cond b A B → Maps Inv Good s s' (cond b P Q)
  by_both true s s' A B P Q first other w = first w
  by_both false s s' A B P Q first other w = other w

module _ {S T : Type 0} (f : S → T) (Inv Good : S → Type 0)
    (answers : S → Call → List Created → Replied → S → Type 0) (uploads : S → List ℕ → Uploaded → S → Type 0) (stops : S → Call → List Created → S → Type 0) (halts : S → List ℕ → S → Type 0)
    (answers' : T → Call → List Created → Replied → T → Type 0) (uploads' : T → List ℕ → Uploaded → T → Type 0) (stops' : T → Call → List Created → T → Type 0) (halts' : T → List ℕ → T → Type 0)
    (sim : IsSimulated f Inv Good answers uploads stops halts answers' uploads' stops' halts') where
  still : (s s' : S) → s' ≡ s → Maps Inv Good s s' (f s' ≡ f s)
  still s s' is = λ inv. (subst Inv (sym is) inv, λ good. (subst Good is good, ap f is))

  still_with : (s s' : S) (Q : Type 0) → (s' ≡ s) × Q → Maps Inv Good s s' ((f s' ≡ f s) × Q)
  still_with s s' Q w = onto Inv Good s s' (f s' ≡ f s) ((f s' ≡ f s) × Q) (λ e. (e, w.1)) (still s s' w.0)

  -- ---- a request

  runs : (s : S) (asked : List Asked) (s' : S) → Runs answers s asked s' → Maps Inv Good s s' (Runs answers' (f s) asked (f s'))
  runs s [] s' is = still s s' is
  runs s (a ∷ rest) s' (m, first, more) =
      then Inv Good s m s' (answers' (f s) a.call a.made a.replied (f m)) (Runs answers' (f m) rest (f s')) (Runs answers' (f s) (a ∷ rest) (f s')) (λ x y. (f m, x, y)) (sim.called s a.call a.made a.replied m first) (runs m rest s' more)

  unless : (s s' : S) (r : Request) (o : Outcome) (p : Option Problem) → IsOutcomeUnless answers s s' r p o → Maps Inv Good s s' (IsOutcomeUnless answers' (f s) (f s') r p o)
  unless s s' r o None (asked, after, taken, ran, did, few, is) =
      onto Inv Good s s' (Runs answers' (f s) asked (f s')) (IsOutcomeUnless answers' (f s) (f s') r None o) (λ x. (asked, after, taken, x, did, few, is)) (runs s asked s' ran)
  unless s s' r o (Some p) w = still_with s s' (IsRefusal p o) w

  by_request : (s s' : S) (o : Outcome) (r : Option Request) → IsOutcomeBy answers s s' r o → Maps Inv Good s s' (IsOutcomeBy answers' (f s) (f s') r o)
  by_request s s' o None w = still_with s s' (IsRefusal NotRequest o) w
  by_request s s' o (Some r) w = unless s s' r o (problem_in r) w

  by_reading : (s s' : S) (o : Outcome) (x : Reading) → IsAnswerBy answers s s' x o → Maps Inv Good s s' (IsAnswerBy answers' (f s) (f s') x o)
  by_reading s s' o not_json w = still_with s s' (IsRefusal NotJson o) w
  by_reading s s' o (not_whole path) w = still_with s s' (IsRefusal NotRequest o) w
  by_reading s s' o (whole t) w = by_request s s' o (request_of t) w

  answer : (s s' : S) (bytes : List ℕ) (o : Outcome) → IsAnswer answers s s' bytes o → Maps Inv Good s s' (IsAnswer answers' (f s) (f s') bytes o)
  answer s s' bytes o w =
      by_both Inv Good (nat_lt MAX_REQUEST_BYTES (length bytes)) s s' ((s' ≡ s) × IsRefusal TooLarge o) (IsAnswerBy answers s s' (reading_of bytes) o) ((f s' ≡ f s) × IsRefusal TooLarge o) (IsAnswerBy answers' (f s) (f s') (reading_of bytes) o)
      (still_with s s' (IsRefusal TooLarge o)) (by_reading s s' o (reading_of bytes)) w

  -- ---- a request that ended out of memory

  prepared : (s s' : S) (p : Preparation) (made : List Created) → StopsPrepared stops s s' p made → Maps Inv Good s s' (StopsPrepared stops' (f s) (f s') p made)
  prepared s s' (refused response) made is = still s s' is
  prepared s s' (ready c) made w = by_both Inv Good (is_echo c) s s' (s' ≡ s) (stops s c made s') (f s' ≡ f s) (stops' (f s) c made (f s')) (still s s') (sim.stopped s c made s') w

  at_first : (s s' : S) (core mail : Bool) (cs : List Call) (before : Progress) → StopsAtFirst stops s s' core mail cs before → Maps Inv Good s s' (StopsAtFirst stops' (f s) (f s') core mail cs before)
  at_first s s' core mail [] before is = still s s' is
  at_first s s' core mail (c ∷ cs) before w = prepared s s' (preparation core mail c before.responses) before.made w

  begun_calls : (s s' : S) (core mail : Bool) (cs : List Call) (before : Progress) → HasBegunCalls answers stops s s' core mail cs before → Maps Inv Good s s' (HasBegunCalls answers' stops' (f s) (f s') core mail cs before)
  begun_calls s s' core mail cs before (done, more, asked, after, taken, m, is, ran, replies, few, stop) =
      then Inv Good s m s' (Runs answers' (f s) asked (f m)) (StopsAtFirst stops' (f m) (f s') core mail more after) (HasBegunCalls answers' stops' (f s) (f s') core mail cs before)
      (λ x y. (done, more, asked, after, taken, f m, is, x, replies, few, y)) (runs s asked m ran) (at_first m s' core mail more after stop)

  begun_unless : (s s' : S) (r : Request) (p : Option Problem) → HasBegunUnless answers stops s s' r p → Maps Inv Good s s' (HasBegunUnless answers' stops' (f s) (f s') r p)
  begun_unless s s' r None w = begun_calls s s' (uses core_capability r.using) (uses mail_capability r.using) r.calls (beginning r.created) w
  begun_unless s s' r (Some p) is = still s s' is

  begun_request : (s s' : S) (r : Option Request) → HasBegunBy answers stops s s' r → Maps Inv Good s s' (HasBegunBy answers' stops' (f s) (f s') r)
  begun_request s s' None is = still s s' is
  begun_request s s' (Some r) w = begun_unless s s' r (problem_in r) w

  begun_reading : (s s' : S) (x : Reading) → HasBegunReading answers stops s s' x → Maps Inv Good s s' (HasBegunReading answers' stops' (f s) (f s') x)
  begun_reading s s' not_json is = still s s' is
  begun_reading s s' (not_whole path) is = still s s' is
  begun_reading s s' (whole t) w = begun_request s s' (request_of t) w

  begun_answer : (s s' : S) (bytes : List ℕ) → HasBegunAnswer answers stops s s' bytes → Maps Inv Good s s' (HasBegunAnswer answers' stops' (f s) (f s') bytes)
  begun_answer s s' bytes w =
      by_both Inv Good (nat_lt MAX_REQUEST_BYTES (length bytes)) s s' (s' ≡ s) (HasBegunReading answers stops s s' (reading_of bytes)) (f s' ≡ f s) (HasBegunReading answers' stops' (f s) (f s') (reading_of bytes)) (still s s') (begun_reading s s' (reading_of bytes)) w

  -- ---- uploads

  to_port : (s s' : S) (bytes : List ℕ) (t : Tree) → IsUploaded uploads s s' bytes t → Maps Inv Good s s' (IsUploaded uploads' (f s) (f s') bytes t)
  to_port s s' bytes t (u, did, is) = onto Inv Good s s' (uploads' (f s) bytes u (f s')) (IsUploaded uploads' (f s) (f s') bytes t) (λ x. (u, x, is)) (sim.uploaded s bytes u s' did)

  to_bytes : (s s' : S) (t : Tree) (o : Option (List ℕ)) → IsAnswerToBytes uploads s s' o t → Maps Inv Good s s' (IsAnswerToBytes uploads' (f s) (f s') o t)
  to_bytes s s' t None w = still_with s s' (t ≡ problem_tree NotRequest) w
  to_bytes s s' t (Some bytes) w =
      by_both Inv Good (nat_lt MAX_UPLOAD_BYTES (length bytes)) s s' (IsRejected s s' too_large t) (IsUploaded uploads s s' bytes t) (IsRejected (f s) (f s') too_large t) (IsUploaded uploads' (f s) (f s') bytes t)
      (still_with s s' (t ≡ too_large)) (to_port s s' bytes t) w

  to_upload : (s s' : S) (string : List ℕ) (t : Tree) → IsUploadAnswer uploads s s' string t → Maps Inv Good s s' (IsUploadAnswer uploads' (f s) (f s') string t)
  to_upload s s' string t w =
      by_both Inv Good (nat_lt MAX_UPLOAD_CHARACTERS (length string)) s s' (IsRejected s s' too_large t) (IsAnswerToBytes uploads s s' (base64_bytes string) t) (IsRejected (f s) (f s') too_large t) (IsAnswerToBytes uploads' (f s) (f s') (base64_bytes string) t)
      (still_with s s' (t ≡ too_large)) (to_bytes s s' t (base64_bytes string)) w

  halted : (s s' : S) (bytes : List ℕ) → HasHalted uploads halts s s' bytes → Maps Inv Good s s' (HasHalted uploads' halts' (f s) (f s') bytes)
  halted s s' bytes (inl w) = onto Inv Good s s' (halts' (f s) bytes (f s')) (HasHalted uploads' halts' (f s) (f s') bytes) (λ x. inl x) (sim.halted s bytes s' w)
  halted s s' bytes (inr (u, w)) = onto Inv Good s s' (uploads' (f s) bytes u (f s')) (HasHalted uploads' halts' (f s) (f s') bytes) (λ x. inr (u, x)) (sim.uploaded s bytes u s' w)

  begun_bytes : (s s' : S) (o : Option (List ℕ)) → HasBegunBytes uploads halts s s' o → Maps Inv Good s s' (HasBegunBytes uploads' halts' (f s) (f s') o)
  begun_bytes s s' None is = still s s' is
  begun_bytes s s' (Some bytes) w =
      by_both Inv Good (nat_lt MAX_UPLOAD_BYTES (length bytes)) s s' (s' ≡ s) (HasHalted uploads halts s s' bytes) (f s' ≡ f s) (HasHalted uploads' halts' (f s) (f s') bytes) (still s s') (halted s s' bytes) w

  begun_upload : (s s' : S) (string : List ℕ) → HasBegunUpload uploads halts s s' string → Maps Inv Good s s' (HasBegunUpload uploads' halts' (f s) (f s') string)
  begun_upload s s' string w =
      by_both Inv Good (nat_lt MAX_UPLOAD_CHARACTERS (length string)) s s' (s' ≡ s) (HasBegunBytes uploads halts s s' (base64_bytes string)) (f s' ≡ f s) (HasBegunBytes uploads' halts' (f s) (f s') (base64_bytes string)) (still s s')
      (begun_bytes s s' (base64_bytes string)) w

  -- ---- lines

  upload_reply : (s s' : S) (string reply : List ℕ) → IsUploadReply uploads s s' string reply → Maps Inv Good s s' (IsUploadReply uploads' (f s) (f s') string reply)
  upload_reply s s' string reply (t, did, is) = onto Inv Good s s' (IsUploadAnswer uploads' (f s) (f s') string t) (IsUploadReply uploads' (f s) (f s') string reply) (λ x. (t, x, is)) (to_upload s s' string t did)

  request_reply : (s s' : S) (line reply : List ℕ) → IsRequestReply answers s s' line reply → Maps Inv Good s s' (IsRequestReply answers' (f s) (f s') line reply)
  request_reply s s' line reply (o, did, is) = onto Inv Good s s' (IsAnswer answers' (f s) (f s') line o) (IsRequestReply answers' (f s) (f s') line reply) (λ x. (o, x, is)) (answer s s' line o did)

  to_line : (s s' : S) (line reply : List ℕ) → IsLineReply answers uploads s s' line reply → Maps Inv Good s s' (IsLineReply answers' uploads' (f s) (f s') line reply)
  to_line s s' [] reply w = still_with s s' (reply ≡ []) w
  to_line s s' (x ∷ xs) reply w =
      by_both Inv Good (x == plus_sign) s s' (IsUploadReply uploads s s' xs reply) (IsRequestReply answers s s' (x ∷ xs) reply) (IsUploadReply uploads' (f s) (f s') xs reply) (IsRequestReply answers' (f s) (f s') (x ∷ xs) reply)
      (upload_reply s s' xs reply) (request_reply s s' (x ∷ xs) reply) w

  begun_line : (s s' : S) (line : List ℕ) → HasBegunLine answers uploads stops halts s s' line → Maps Inv Good s s' (HasBegunLine answers' uploads' stops' halts' (f s) (f s') line)
  begun_line s s' [] is = still s s' is
  begun_line s s' (x ∷ xs) w =
      by_both Inv Good (x == plus_sign) s s' (HasBegunUpload uploads halts s s' xs) (HasBegunAnswer answers stops s s' (x ∷ xs)) (HasBegunUpload uploads' halts' (f s) (f s') xs) (HasBegunAnswer answers' stops' (f s) (f s') (x ∷ xs))
      (begun_upload s s' xs) (begun_answer s s' (x ∷ xs)) w

  replies : (s s' : S) (ls : List (List ℕ)) (written : List ℕ) → AreReplies answers uploads s s' ls written → Maps Inv Good s s' (AreReplies answers' uploads' (f s) (f s') ls written)
  replies s s' [] written w = still_with s s' (written ≡ []) w
  replies s s' (l ∷ ls) written (m, reply, more, one, rest, is) =
      then Inv Good s m s' (IsLineReply answers' uploads' (f s) (f m) l reply) (AreReplies answers' uploads' (f m) (f s') ls more) (AreReplies answers' uploads' (f s) (f s') (l ∷ ls) written)
      (λ x y. (f m, reply, more, x, y, is)) (to_line s m l reply one) (replies m s' ls more rest)

  begun_first : (s s' : S) (ls : List (List ℕ)) → HasBegunFirst answers uploads stops halts s s' ls → Maps Inv Good s s' (HasBegunFirst answers' uploads' stops' halts' (f s) (f s') ls)
  begun_first s s' [] is = still s s' is
  begun_first s s' (l ∷ ls) w = begun_line s s' l w

  begun_replies : (s s' : S) (ls : List (List ℕ)) (written : List ℕ) → HasBegunReplies answers uploads stops halts s s' ls written → Maps Inv Good s s' (HasBegunReplies answers' uploads' stops' halts' (f s) (f s') ls written)
  begun_replies s s' ls written (answered, more, unwritten, m, is, first, last) =
      then Inv Good s m s' (AreReplies answers' uploads' (f s) (f m) answered (written ++ unwritten)) (HasBegunFirst answers' uploads' stops' halts' (f m) (f s') more) (HasBegunReplies answers' uploads' stops' halts' (f s) (f s') ls written)
      (λ x y. (answered, more, unwritten, f m, is, x, y)) (replies s m answered (written ++ unwritten) first) (begun_first m s' more last)

  -- ---- an input

  pub input : (s s' : S) (v : Seen) → HasAnsweredInput answers uploads s s' v → Maps Inv Good s s' (HasAnsweredInput answers' uploads' (f s) (f s') v)
  input s s' v (bytes, written, read, few, all, put, did) =
      onto Inv Good s s' (AreReplies answers' uploads' (f s) (f s') (lines_of bytes) written) (HasAnsweredInput answers' uploads' (f s) (f s') v) (λ x. (bytes, written, read, few, all, put, x)) (replies s s' (lines_of bytes) written did)

  pub ended : (s s' : S) (v : Seen) → HasAnsweredEnded answers uploads s s' v → Maps Inv Good s s' (HasAnsweredEnded answers' uploads' (f s) (f s') v)
  ended s s' v (bytes, written, read, put, did) =
      onto Inv Good s s' (AreReplies answers' uploads' (f s) (f s') (ended_lines bytes) written) (HasAnsweredEnded answers' uploads' (f s) (f s') v) (λ x. (bytes, written, read, put, x)) (replies s s' (ended_lines bytes) written did)

  pub within : (s s' : S) (v : Seen) → HasAnsweredWithin answers uploads s s' v → Maps Inv Good s s' (HasAnsweredWithin answers' uploads' (f s) (f s') v)
  within s s' v (bytes, written, read, many, put, did) =
      onto Inv Good s s' (AreReplies answers' uploads' (f s) (f s') (ended_lines (take MAX_INPUT_BYTES bytes)) written) (HasAnsweredWithin answers' uploads' (f s) (f s') v) (λ x. (bytes, written, read, many, put, x)) (replies s s' (ended_lines (take MAX_INPUT_BYTES bytes)) written did)

  by_end : (s s' : S) (bytes written : List ℕ) (Q : Type 0)
      → HasBegunReplies answers uploads stops halts s s' (ended_lines bytes) written ⊎ (Q × HasBegunReplies answers uploads stops halts s s' (lines_of bytes) written)
      → Maps Inv Good s s' (HasBegunReplies answers' uploads' stops' halts' (f s) (f s') (ended_lines bytes) written ⊎ (Q × HasBegunReplies answers' uploads' stops' halts' (f s) (f s') (lines_of bytes) written))
  by_end s s' bytes written Q (inl w) = onto Inv Good s s' (HasBegunReplies answers' uploads' stops' halts' (f s) (f s') (ended_lines bytes) written) (HasBegunReplies answers' uploads' stops' halts' (f s) (f s') (ended_lines bytes) written ⊎ (Q × HasBegunReplies answers' uploads' stops' halts' (f s) (f s') (lines_of bytes) written))
      (λ x. inl x) (begun_replies s s' (ended_lines bytes) written w)
  by_end s s' bytes written Q (inr (all, w)) = onto Inv Good s s' (HasBegunReplies answers' uploads' stops' halts' (f s) (f s') (lines_of bytes) written) (HasBegunReplies answers' uploads' stops' halts' (f s) (f s') (ended_lines bytes) written ⊎ (Q × HasBegunReplies answers' uploads' stops' halts' (f s) (f s') (lines_of bytes) written))
      (λ x. inr (all, x)) (begun_replies s s' (lines_of bytes) written w)

  pub begun : (s s' : S) (v : Seen) → HasBegunInput answers uploads stops halts s s' v → Maps Inv Good s s' (HasBegunInput answers' uploads' stops' halts' (f s) (f s') v)
  begun s s' v (bytes, written, read, put, w) =
      onto Inv Good s s' (HasBegunReplies answers' uploads' stops' halts' (f s) (f s') (ended_lines bytes) written ⊎ (HasReadAll v × HasBegunReplies answers' uploads' stops' halts' (f s) (f s') (lines_of bytes) written))
      (HasBegunInput answers' uploads' stops' halts' (f s) (f s') v) (λ x. (bytes, written, read, put, x)) (by_end s s' bytes written (HasReadAll v) w)
