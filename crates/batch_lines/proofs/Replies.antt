-- Replies to lines, one after another, and those that were begun.
use Rattle.std.proofs.Common.{◌≡◌, ◌≢◌, inl, inr, ℕ, List, [], ◌∷◌, ◌++◌, ◌==◌, Bool, true, false, cond, take, drop, length, Option, Result, Ok, Err, IfOk, OnOk, OnErr, refl, sym, ap, ◌∙◌, subst, append_assoc, append-nil}
use Rattle.std.proofs.Math.Seq.{take-append_seam}
use Rattle.std.proofs.lemmas.List.{take-append-drop}
use Rattle.std.specs.Io.KnownBytes.{Appends}
use Rattle.jm_base.specs.declared.memory.NoMemory.{NoMemory}
use Rattle.serde_json.specs.Written.{compact_text}
use Rattle.jm_json.specs.Json.{tree_of}
use Rattle.jm_json.specs.JsonValues.{data_of}
use Rattle.jm_json.specs.declared.tree.Json.{Json}
use Rattle.jm_json.specs.Call.{Call}
use Rattle.jm_json.specs.declared.invocation.Created.{Created}
use Rattle.jm_json.specs.declared.invocation.Replied.{Replied}
use Rattle.batch_lines.specs.declared.upload.Uploaded.{Uploaded}
use Rattle.method_batch.specs.Outcome.{IsAnswer, HasBegunAnswer}
use Rattle.method_batch.specs.declared.outcome.Outcome.{Outcome}
use Rattle.method_batch.proofs.Together.{Stays, not_begun}
use Rattle.batch_lines.specs.Replies.{AreReplies, IsLineReply, IsRequestReply, IsUploadReply, HasBegunLine, HasBegunFirst, HasBegunReplies, StopsInLine, begins_with_plus, line_text}
use Rattle.batch_lines.specs.Uploads.{HasBegunUpload, IsUploadAnswer}
use Rattle.batch_lines.proofs.Uploads.{Rests, upload_not_begun}
use Rattle.batch_lines.specs.Pieces.{HasPut, HasAnsweredLine, HasStopped, HasAnsweredAndPut, HasStoppedAndPut}
use Rattle.batch_lines.specs.declared.fault.LinesFault.{LinesFault}
use Rattle.jm_edge.proofs.Known.{appends_none}
use Rattle.batch_lines.proofs.Held.{held, reply_of_held, stop_of_held}

abbrev Kept : Type 0
Kept = Result (Unit {0}) NoMemory

abbrev Ended : Type 0
Ended = Result (Unit {0}) LinesFault

-- ---- one line

module _ {S : Type 0} (answers : S → Call → List Created → Replied → S → Type 0) (uploads : S → List ℕ → Uploaded → S → Type 0) (stops : S → Call → List Created → S → Type 0) (halts : S → List ℕ → S → Type 0) (s s' : S) where
  -- an upload
  pub plus_reply : (line : List ℕ) (r : Result Json NoMemory) → line ≢ [] → begins_with_plus line ≡ true → IfOk r (λ t. IsUploadAnswer uploads s s' (drop 1 line) (tree_of t)) → IfOk r (λ t. IsLineReply answers uploads s s' line (line_text (tree_of t)))
  plus_reply [] r some e h = absurd (some refl)
  plus_reply (x ∷ xs) (Ok t) some e h =
      let reply : IsUploadReply uploads s s' xs (line_text (tree_of t)) = (tree_of t, h, refl) in
      subst (λ (b : Bool). cond b (IsUploadReply uploads s s' xs (line_text (tree_of t))) (IsRequestReply answers s s' (x ∷ xs) (line_text (tree_of t)))) (sym e) reply
  plus_reply (x ∷ xs) (Err u) some e h = tt

  pub plus_begun : (line : List ℕ) (r : Result Json NoMemory) → line ≢ [] → begins_with_plus line ≡ true → OnErr r (HasBegunUpload uploads halts s s' (drop 1 line)) → OnErr r (HasBegunLine answers uploads stops halts s s' line)
  plus_begun [] r some e h = absurd (some refl)
  plus_begun (x ∷ xs) (Ok t) some e h = tt
  plus_begun (x ∷ xs) (Err u) some e h = subst (λ (b : Bool). cond b (HasBegunUpload uploads halts s s' xs) (HasBegunAnswer answers stops s s' (x ∷ xs))) (sym e) h

  pub request_at : (line : List ℕ) (o : Outcome) → line ≢ [] → begins_with_plus line ≡ false → IsAnswer answers s s' line o → IsLineReply answers uploads s s' line (line_text (tree_of o.tree))
  request_at [] o some e h = absurd (some refl)
  request_at (x ∷ xs) o some e h =
      let reply : IsRequestReply answers s s' (x ∷ xs) (line_text (tree_of o.tree)) = (o, h, refl) in
      subst (λ (b : Bool). cond b (IsUploadReply uploads s s' xs (line_text (tree_of o.tree))) (IsRequestReply answers s s' (x ∷ xs) (line_text (tree_of o.tree)))) (sym e) reply

  pub begun_at : (line : List ℕ) → line ≢ [] → begins_with_plus line ≡ false → HasBegunAnswer answers stops s s' line → HasBegunLine answers uploads stops halts s s' line
  begun_at [] some e h = absurd (some refl)
  begun_at (x ∷ xs) some e h = subst (λ (b : Bool). cond b (HasBegunUpload uploads halts s s' xs) (HasBegunAnswer answers stops s s' (x ∷ xs))) (sym e) h

  -- the reply is appended, or a prefix of it
  pub written_ok : (r : Kept) (line old new reply : List ℕ) → IsLineReply answers uploads s s' line reply → OnOk r (new ≡ old ++ reply) → OnOk r (HasAnsweredLine answers uploads s s' line old new)
  written_ok (Ok u) line old new reply is h = (reply, is, h)
  written_ok (Err x) line old new reply is h = tt

  pub written_err : (r : Kept) (line old new reply : List ℕ) → IsLineReply answers uploads s s' line reply → OnErr r ((n : ℕ) × (new ≡ old ++ take n reply)) → OnErr r (HasStopped answers uploads stops halts s s' line old new)
  written_err (Ok u) line old new reply is h = tt
  written_err (Err x) line old new reply is h = (take h.0 reply, inr (drop h.0 reply, subst (IsLineReply answers uploads s s' line) (sym (take-append-drop h.0 reply)) is), h.1)

  -- nothing of a reply is appended
  pub begun_err : (line old new : List ℕ) → HasBegunLine answers uploads stops halts s s' line → new ≡ old → HasStopped answers uploads stops halts s s' line old new
  begun_err line old new h same = ([], inl (h, refl), same ∙ sym (append-nil old))

  -- ---- what waits and what is written

  pub answered_put : (r : Ended) (line old all waits : List ℕ) (h k : Option (List ℕ)) → HasAnsweredLine answers uploads s s' line old all → OnOk r (HasPut all waits h k) → OnOk r (HasAnsweredAndPut answers uploads s s' line old waits h k)
  answered_put (Ok u) line old all waits h k answered put = (all, answered, put)
  answered_put (Err e) line old all waits h k answered put = tt

  pub answered_stop : (line old all : List ℕ) → HasAnsweredLine answers uploads s s' line old all → HasStopped answers uploads stops halts s s' line old all
  answered_stop line old all (reply, is, e) = (reply, inr ([], subst (IsLineReply answers uploads s s' line) (sym (append-nil reply)) is), e)

  pub stopped_put : (r : Ended) (line old all : List ℕ) (h k : Option (List ℕ)) → HasStopped answers uploads stops halts s s' line old all → OnErr r ((lost : List ℕ) × HasPut all lost h k) → OnErr r (HasStoppedAndPut answers uploads stops halts s s' line old h k)
  stopped_put (Ok u) line old all h k stopped put = tt
  stopped_put (Err e) line old all h k stopped put = (all, stopped, put)

  -- a line that was answered or not: what waits is a prefix of its reply
  pub either_stop : (r : Kept) (line old all : List ℕ) → OnOk r (HasAnsweredLine answers uploads s s' line old all) → OnErr r (HasStopped answers uploads stops halts s s' line old all) → HasStopped answers uploads stops halts s s' line old all
  either_stop (Ok u) line old all ok err = answered_stop line old all ok
  either_stop (Err e) line old all ok err = err

  pub settled_ok : (r : Ended) (fed : Kept) (line all : List ℕ) (h k : Option (List ℕ)) → OnOk fed (HasAnsweredLine answers uploads s s' line [] all) → OnOk r ((fed ≡ Ok tt) × Appends h k all) → OnOk r (HasAnsweredAndPut answers uploads s s' line [] [] h k)
  settled_ok (Ok u) fed line all h k ok put =
      (all, subst (λ (f : Kept). OnOk f (HasAnsweredLine answers uploads s s' line [] all)) put.0 ok, (all, put.1, sym (append-nil all)))
  settled_ok (Err e) fed line all h k ok put = tt

  -- a line that its held bytes alone are, where nothing waited
  pub line_answered : (r : Kept) (line none all : List ℕ) → none ≡ [] → OnOk r (HasAnsweredLine answers uploads s s' (line ++ []) none all) → OnOk r (HasAnsweredLine answers uploads s s' line [] all)
  line_answered r line none all e h =
      subst (λ (bs : List ℕ). OnOk r (HasAnsweredLine answers uploads s s' bs [] all)) (append-nil line) (subst (λ (bs : List ℕ). OnOk r (HasAnsweredLine answers uploads s s' (line ++ []) bs all)) e h)

  pub line_stopped : (r : Kept) (line none all : List ℕ) → none ≡ [] → OnErr r (HasStopped answers uploads stops halts s s' (line ++ []) none all) → OnErr r (HasStopped answers uploads stops halts s s' line [] all)
  line_stopped r line none all e h =
      subst (λ (bs : List ℕ). OnErr r (HasStopped answers uploads stops halts s s' bs [] all)) (append-nil line) (subst (λ (bs : List ℕ). OnErr r (HasStopped answers uploads stops halts s s' (line ++ []) bs all)) e h)

  pub held_ok : (r : Kept) (old new mid line last : List ℕ) → mid ≡ held line last → OnOk r (HasAnsweredLine answers uploads s s' mid old new) → OnOk r (HasAnsweredLine answers uploads s s' (line ++ last) old new)
  held_ok (Ok u) old new mid line last e h = (h.0, reply_of_held answers uploads stops halts s s' line last h.0 (subst (λ (bs : List ℕ). IsLineReply answers uploads s s' bs h.0) e h.1), h.2)
  held_ok (Err x) old new mid line last e h = tt

  pub held_err : (r : Kept) (old new mid line last : List ℕ) → mid ≡ held line last → OnErr r (HasStopped answers uploads stops halts s s' mid old new) → OnErr r (HasStopped answers uploads stops halts s s' (line ++ last) old new)
  held_err (Ok u) old new mid line last e h = tt
  held_err (Err x) old new mid line last e h = (h.0, stop_of_held answers uploads stops halts s s' line last h.0 (subst (λ (bs : List ℕ). StopsInLine answers uploads stops halts s s' bs h.0) e h.1), h.2)

-- the text of a reply is there without its line feed
pub text_stands : (r : Kept) (old mid new text : List ℕ) → mid ≡ old ++ text → OnErr r (new ≡ mid) → OnErr r ((n : ℕ) × (new ≡ old ++ take n (text ++ 10 ∷ [])))
text_stands (Ok u) old mid new text e h = tt
text_stands (Err x) old mid new text e h = (length text, h ∙ e ∙ ap (λ bs. old ++ bs) (sym (take-append_seam text (10 ∷ []))))

-- ---- a line that is a request, whose text is there before its line feed

module _ {S : Type 0} (answers : S → Call → List Created → Replied → S → Type 0) (uploads : S → List ℕ → Uploaded → S → Type 0) (stops : S → Call → List Created → S → Type 0) (halts : S → List ℕ → S → Type 0) (s s' : S) where
  abbrev pub IsWritten : List ℕ → List ℕ → List ℕ → Type 0
  IsWritten line old mid = (o : Outcome) × IsAnswer answers s s' line o × (mid ≡ old ++ compact_text (data_of (tree_of o.tree)))

  pub request_ok : (r : Kept) (line old mid new : List ℕ) → line ≢ [] → begins_with_plus line ≡ false → IsWritten line old mid → OnOk r (new ≡ mid ++ 10 ∷ []) → OnOk r (HasAnsweredLine answers uploads s s' line old new)
  request_ok (Ok u) line old mid new some plain (o, is, e) h =
      (line_text (tree_of o.tree), request_at answers uploads stops halts s s' line o some plain is, h ∙ ap (λ bs. bs ++ 10 ∷ []) e ∙ append_assoc old (compact_text (data_of (tree_of o.tree))) (10 ∷ []))
  request_ok (Err x) line old mid new some plain w h = tt

  pub request_err : (r : Kept) (line old mid new : List ℕ) → line ≢ [] → begins_with_plus line ≡ false → IsWritten line old mid → OnErr r (new ≡ mid) → OnErr r (HasStopped answers uploads stops halts s s' line old new)
  request_err r line old mid new some plain (o, is, e) h =
      written_err answers uploads stops halts s s' r line old new (line_text (tree_of o.tree)) (request_at answers uploads stops halts s s' line o some plain is)
      (text_stands r old mid new (compact_text (data_of (tree_of o.tree))) e h)

-- ---- lines one after another

module _ {S : Type 0} (answers : S → Call → List Created → Replied → S → Type 0) (uploads : S → List ℕ → Uploaded → S → Type 0) where
  pub replies_on : (s m s' : S) (ls ks : List (List ℕ)) (w v : List ℕ) → AreReplies answers uploads s m ls w → AreReplies answers uploads m s' ks v → AreReplies answers uploads s s' (ls ++ ks) (w ++ v)
  replies_on s m s' [] ks w v h k =
      subst (λ (bs : List ℕ). AreReplies answers uploads s s' ks (bs ++ v)) (sym h.1) (subst (λ (x : S). AreReplies answers uploads x s' ks v) h.0 k)
  replies_on s m s' (l ∷ ls) ks w v (t, reply, more, one, rest, e) k =
      (t, reply, more ++ v, one, replies_on t m s' ls ks more v rest k, ap (λ bs. bs ++ v) e ∙ append_assoc reply more v)

  pub one_reply : (s s' : S) (line reply : List ℕ) → IsLineReply answers uploads s s' line reply → AreReplies answers uploads s s' (line ∷ []) reply
  one_reply s s' line reply h = (s', reply, [], h, (refl, refl), sym (append-nil reply))

  -- one more line
  pub replies_next : (s m s' : S) (ls : List (List ℕ)) (line w reply : List ℕ) → AreReplies answers uploads s m ls w → IsLineReply answers uploads m s' line reply → AreReplies answers uploads s s' (ls ++ line ∷ []) (w ++ reply)
  replies_next s m s' ls line w reply h one = replies_on s m s' ls (line ∷ []) w reply h (one_reply m s' line reply one)

module _ {S : Type 0} (answers : S → Call → List Created → Replied → S → Type 0) (uploads : S → List ℕ → Uploaded → S → Type 0) (stops : S → Call → List Created → S → Type 0) (halts : S → List ℕ → S → Type 0) (stays : Stays stops) (rests : Rests halts) where
  pub line_not_begun : (s s' : S) (line : List ℕ) → s' ≡ s → HasBegunLine answers uploads stops halts s s' line
  line_not_begun s s' [] e = e
  line_not_begun s s' (x ∷ xs) e = by_plus (x == 43)
    where
      by_plus : (b : Bool) → cond b (HasBegunUpload uploads halts s s' xs) (HasBegunAnswer answers stops s s' (x ∷ xs))
      by_plus true = upload_not_begun uploads halts rests s s' xs e
      by_plus false = not_begun answers stops stays s s' (x ∷ xs) e

  first_not_begun : (s : S) (lines : List (List ℕ)) → HasBegunFirst answers uploads stops halts s s lines
  first_not_begun s [] = refl
  first_not_begun s (l ∷ ls) = line_not_begun s s l refl

  -- the first lines are answered
  pub begun_prefix : (s s' : S) (ls ks : List (List ℕ)) (w rest all : List ℕ) → AreReplies answers uploads s s' ls all → all ≡ w ++ rest → HasBegunReplies answers uploads stops halts s s' (ls ++ ks) w
  begun_prefix s s' ls ks w rest all h e = (ls, ks, rest, s', refl, subst (AreReplies answers uploads s s' ls) e h, first_not_begun s' ks)

  -- the first lines are answered, and the next one was stopped in
  pub begun_stop : (s m s' : S) (ls ks : List (List ℕ)) (line kept part w rest : List ℕ) → AreReplies answers uploads s m ls kept → StopsInLine answers uploads stops halts m s' line part → kept ++ part ≡ w ++ rest → HasBegunReplies answers uploads stops halts s s' (ls ++ line ∷ ks) w
  begun_stop s m s' ls ks line kept part w rest h (inl (begun, none)) e =
      (ls, line ∷ ks, rest, m, refl, subst (AreReplies answers uploads s m ls) (sym (append-nil kept) ∙ ap (λ bs. kept ++ bs) (sym none) ∙ e) h, begun)
  begun_stop s m s' ls ks line kept part w rest h (inr (more, one)) e =
      let all : kept ++ (part ++ more) ≡ w ++ (rest ++ more) = sym (append_assoc kept part more) ∙ ap (λ bs. bs ++ more) e ∙ append_assoc w rest more in (
        ls ++ line ∷ [],
        ks,
        rest ++ more,
        s',
        sym (append_assoc ls (line ∷ []) ks),
        subst (AreReplies answers uploads s s' (ls ++ line ∷ [])) all (replies_next answers uploads s m s' ls line kept (part ++ more) h one),
        first_not_begun s' ks,
      )

  -- lines before those that were begun
  pub begun_after : (s m s' : S) (ls ks : List (List ℕ)) (w v : List ℕ) → AreReplies answers uploads s m ls w → HasBegunReplies answers uploads stops halts m s' ks v → HasBegunReplies answers uploads stops halts s s' (ls ++ ks) (w ++ v)
  begun_after s m s' ls ks w v h (answered, more, unwritten, t, e, done, first) =
      (ls ++ answered, more, unwritten, t, ap (λ xs. ls ++ xs) e ∙ sym (append_assoc ls answered more), subst (AreReplies answers uploads s t (ls ++ answered)) (sym (append_assoc w v unwritten)) (replies_on answers uploads s m t ls answered w (v ++ unwritten) h done), first)

  -- more lines after those that were begun: the last one was not, if there was none
  pub begun_wider : (s s' : S) (ls ks : List (List ℕ)) (w : List ℕ) → HasBegunReplies answers uploads stops halts s s' ls w → HasBegunReplies answers uploads stops halts s s' (ls ++ ks) w
  begun_wider s s' ls ks w (answered, [], unwritten, t, e, done, first) =
      (answered, ks, unwritten, t, ap (λ xs. xs ++ ks) (e ∙ append-nil answered), done, subst (λ (x : S). HasBegunFirst answers uploads stops halts t x ks) (sym first) (first_not_begun t ks))
  begun_wider s s' ls ks w (answered, l ∷ more, unwritten, t, e, done, first) =
      (answered, l ∷ (more ++ ks), unwritten, t, ap (λ xs. xs ++ ks) e ∙ append_assoc answered (l ∷ more) ks, done, first)

-- ---- writing what waits

pub put_whole : (h k : Option (List ℕ)) (xs : List ℕ) → Appends h k xs → (lost : List ℕ) × HasPut xs lost h k
put_whole h k xs a = ([], (xs, a, sym (append-nil xs)))

pub put_part : (h k : Option (List ℕ)) (xs : List ℕ) → ((n : ℕ) × Appends h k (take n xs)) → (lost : List ℕ) × HasPut xs lost h k
put_part h k xs a = (drop a.0 xs, (take a.0 xs, a.1, sym (take-append-drop a.0 xs)))

pub put_none : (h : Option (List ℕ)) (xs : List ℕ) → HasPut xs xs h h
put_none h xs = ([], appends_none h, refl)

pub put_all_of : (h k : Option (List ℕ)) (xs waits : List ℕ) → waits ≡ [] → Appends h k xs → HasPut xs waits h k
put_all_of h k xs waits none a = (xs, a, sym (append-nil xs) ∙ ap (λ bs. xs ++ bs) (sym none))
