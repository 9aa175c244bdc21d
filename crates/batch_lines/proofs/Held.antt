-- A line that is held only as far as it counts is answered as the whole line.
use Rattle.std.proofs.Common.{◌≡◌, ◌⊎◌, inl, inr, ℕ, zero, suc, ◌-◌, ◌<◌, ◌≤◌, codes, List, [], ◌∷◌, ◌++◌, ◌==◌, Bool, true, false, cond, nat_lt, take, length, refl, sym, ap, ◌∙◌, subst, append-nil, arith, length-append, length-take-le}
use Rattle.std.proofs.lemmas.List.{take_all}
use Rattle.std.proofs.lemmas.Bool.{lt-ltb, ltb-true, ltb-false}
use Rattle.jm_json.specs.Call.{Call}
use Rattle.jm_json.specs.Json.{tree_of}
use Rattle.jm_json.specs.Reading.{reading_of}
use Rattle.jm_json.specs.declared.invocation.Created.{Created}
use Rattle.jm_json.specs.declared.invocation.Replied.{Replied}
use Rattle.batch_lines.specs.declared.upload.Uploaded.{Uploaded}
use Rattle.method_batch.specs.Outcome.{IsAnswerBy, IsRefusal, HasBegunReading, HasBegunAnswer, limit_tree}
use Rattle.jm_json.specs.Tree.{Tree}
use Rattle.method_batch.specs.declared.outcome.Outcome.{Outcome}
use Rattle.method_batch.specs.declared.outcome.Problem.TheVariants.{TooLarge}
use Rattle.batch_lines.specs.Replies.{IsLineReply, IsUploadReply, IsRequestReply, HasBegunLine, StopsInLine, begins_with_plus, line_text}
use Rattle.batch_lines.specs.Uploads.{HasBegunBytes, HasBegunUpload, IsAnswerToBytes, IsRejected, base64_bytes}
use Rattle.batch_lines.specs.Pieces.{IsHeld, most_held}
use Rattle.batch_lines.specs.declared.limits.TheConstants.{MAX_HELD_REQUEST_BYTES, MAX_HELD_UPLOAD_BYTES, MAX_UPLOAD_CHARACTERS}
use Rattle.jm_base.specs.declared.limits.TheConstants.{MAX_REQUEST_BYTES}

-- what is held of a line of which this is held, once bytes follow
abbrev pub held : List ℕ → List ℕ → List ℕ
held line more = line ++ take (most_held (line ++ more) - length line) more

-- as many bytes are held of a line as of what begins as it does
abbrev most_of : Bool → ℕ
most_of plus = cond plus MAX_HELD_UPLOAD_BYTES MAX_HELD_REQUEST_BYTES

some_held : (plus : Bool) → 0 < most_of plus
some_held true = omega arith
some_held false = omega arith

pub most_first : (line more : List ℕ) → 0 < length line → most_held (line ++ more) ≡ most_held line
most_first [] more some = absurd (omega arith)
most_first (x ∷ line) more some = refl

-- of a line that begins, its first bytes are held
from_nothing : (line : List ℕ) → take (most_held line) line ≡ held [] line
from_nothing line = let e : most_held line - 0 ≡ most_held line = omega arith in ap (λ (n : ℕ). take n line) (sym e)

plus_first : (n : ℕ) (x : ℕ) (xs more : List ℕ) → 0 < n → begins_with_plus (take n (x ∷ xs) ++ more) ≡ (x == 43)
plus_first zero x xs more some = absurd (omega arith)
plus_first (suc n) x xs more some = refl

module _ {S : Type 0} (answers : S → Call → List Created → Replied → S → Type 0) (uploads : S → List ℕ → Uploaded → S → Type 0) (stops : S → Call → List Created → S → Type 0) (halts : S → List ℕ → S → Type 0) (s s' : S) where
  -- what answers the one line answers the other
  abbrev Same : List ℕ → List ℕ → Type 0
  Same xs ys = ((reply : List ℕ) → IsLineReply answers uploads s s' xs reply → IsLineReply answers uploads s s' ys reply) × (HasBegunLine answers uploads stops halts s s' xs → HasBegunLine answers uploads stops halts s s' ys)

  -- the reply to a line, by whether it begins with a plus sign
  abbrev ReplyBy : Bool → List ℕ → List ℕ → List ℕ → Type 0
  ReplyBy plus string line reply = cond plus (IsUploadReply uploads s s' string reply) (IsRequestReply answers s s' line reply)

  abbrev BegunBy : Bool → List ℕ → List ℕ → Type 0
  BegunBy plus string line = cond plus (HasBegunUpload uploads halts s s' string) (HasBegunAnswer answers stops s s' line)

  -- the reply to an upload, and to a request, by whether it is too long
  abbrev UploadBy : Bool → List ℕ → List ℕ → Type 0
  UploadBy long string reply =
      (t : Tree) × cond long (IsRejected s s' (limit_tree (codes "maxSizeUpload")) t) (IsAnswerToBytes uploads s s' (base64_bytes string) t) × (reply ≡ line_text t)

  abbrev RequestBy : Bool → List ℕ → List ℕ → Type 0
  RequestBy long line reply = (o : Outcome) × cond long ((s' ≡ s) × IsRefusal TooLarge o) (IsAnswerBy answers s s' (reading_of line) o) × (reply ≡ line_text (tree_of o.tree))

  abbrev BegunUploadBy : Bool → List ℕ → Type 0
  BegunUploadBy long string = cond long (s' ≡ s) (HasBegunBytes uploads halts s s' (base64_bytes string))

  abbrev BegunRequestBy : Bool → List ℕ → Type 0
  BegunRequestBy long line = cond long (s' ≡ s) (HasBegunReading answers stops s s' (reading_of line))

  -- two lines that are too long and begin alike are answered alike
  long_uploads : (x y : ℕ) (xs ys : List ℕ) → (x == 43) ≡ true → (y == 43) ≡ true → MAX_UPLOAD_CHARACTERS < length xs → MAX_UPLOAD_CHARACTERS < length ys → Same (x ∷ xs) (y ∷ ys)
  long_uploads x y xs ys p q h k =
      let a : nat_lt MAX_UPLOAD_CHARACTERS (length xs) ≡ true = lt-ltb MAX_UPLOAD_CHARACTERS (length xs) h in
      let b : nat_lt MAX_UPLOAD_CHARACTERS (length ys) ≡ true = lt-ltb MAX_UPLOAD_CHARACTERS (length ys) k in (
        λ reply one.
            let up = subst (λ (t : Bool). ReplyBy t xs (x ∷ xs) reply) p one in
            let long = subst (λ (t : Bool). UploadBy t xs reply) a up in
            subst (λ (t : Bool). ReplyBy t ys (y ∷ ys) reply) (sym q) (subst (λ (t : Bool). UploadBy t ys reply) (sym b) long),
        λ one.
            let up = subst (λ (t : Bool). BegunBy t xs (x ∷ xs)) p one in
            let long = subst (λ (t : Bool). BegunUploadBy t xs) a up in
            subst (λ (t : Bool). BegunBy t ys (y ∷ ys)) (sym q) (subst (λ (t : Bool). BegunUploadBy t ys) (sym b) long),
      )

  long_requests : (x y : ℕ) (xs ys : List ℕ) → (x == 43) ≡ false → (y == 43) ≡ false → MAX_REQUEST_BYTES < length (x ∷ xs) → MAX_REQUEST_BYTES < length (y ∷ ys) → Same (x ∷ xs) (y ∷ ys)
  long_requests x y xs ys p q h k =
      let a : nat_lt MAX_REQUEST_BYTES (length (x ∷ xs)) ≡ true = lt-ltb MAX_REQUEST_BYTES (length (x ∷ xs)) h in
      let b : nat_lt MAX_REQUEST_BYTES (length (y ∷ ys)) ≡ true = lt-ltb MAX_REQUEST_BYTES (length (y ∷ ys)) k in (
        λ reply one.
            let up = subst (λ (t : Bool). ReplyBy t xs (x ∷ xs) reply) p one in
            let long = subst (λ (t : Bool). RequestBy t (x ∷ xs) reply) a up in
            subst (λ (t : Bool). ReplyBy t ys (y ∷ ys) reply) (sym q) (subst (λ (t : Bool). RequestBy t (y ∷ ys) reply) (sym b) long),
        λ one.
            let up = subst (λ (t : Bool). BegunBy t xs (x ∷ xs)) p one in
            let long = subst (λ (t : Bool). BegunRequestBy t (x ∷ xs)) a up in
            subst (λ (t : Bool). BegunBy t ys (y ∷ ys)) (sym q) (subst (λ (t : Bool). BegunRequestBy t (y ∷ ys)) (sym b) long),
      )

  long_same : (plus : Bool) (xs ys : List ℕ) → begins_with_plus xs ≡ plus → begins_with_plus ys ≡ plus → most_of plus ≤ length xs → most_of plus ≤ length ys → Same xs ys
  long_same plus [] ys p q h k = let some = some_held plus in absurd (omega arith)
  long_same plus (x ∷ xs) [] p q h k = let some = some_held plus in absurd (omega arith)
  long_same true (x ∷ xs) (y ∷ ys) p q h k = long_uploads x y xs ys p q (omega arith) (omega arith)
  long_same false (x ∷ xs) (y ∷ ys) p q h k = long_requests x y xs ys p q (omega arith) (omega arith)

  same_as : (xs ys : List ℕ) → xs ≡ ys → Same xs ys
  same_as xs ys e = (λ reply h. subst (λ (bs : List ℕ). IsLineReply answers uploads s s' bs reply) e h, λ h. subst (HasBegunLine answers uploads stops halts s s') e h)

  begins_alike : (line more f : List ℕ) (n : ℕ) → 0 < n ⊎ (0 < length line) → begins_with_plus ((line ++ take n more) ++ f) ≡ begins_with_plus ((line ++ more) ++ f)
  begins_alike (x ∷ line) more f n h = refl
  begins_alike [] [] f zero h = refl
  begins_alike [] [] f (suc n) h = refl
  begins_alike [] (y ∷ more) f (suc n) h = refl
  begins_alike [] (y ∷ more) f zero (inl h) = absurd (omega arith)
  begins_alike [] (y ∷ more) f zero (inr h) = absurd (omega arith)

  begins_more : (bs f : List ℕ) → 0 < length bs → begins_with_plus (bs ++ f) ≡ begins_with_plus bs
  begins_more [] f some = absurd (omega arith)
  begins_more (x ∷ bs) f some = refl

  some_room : (n : ℕ) (line : List ℕ) → 0 < n → 0 < n - length line ⊎ (0 < length line)
  some_room n [] some = inl (omega arith)
  some_room n (x ∷ line) some = inr (omega arith)

  by_room : (plus b : Bool) (n : ℕ) (line more f : List ℕ) → n ≡ most_of plus → begins_with_plus (line ++ more) ≡ plus → nat_lt (n - length line) (length more) ≡ b → Same ((line ++ take (n - length line) more) ++ f) ((line ++ more) ++ f)
  by_room plus false n line more f is begins e =
      same_as ((line ++ take (n - length line) more) ++ f) ((line ++ more) ++ f) (ap (λ bs. (line ++ bs) ++ f) (take_all (n - length line) more (ltb-false (n - length line) (length more) e)))
  by_room plus true n line more f is begins e =
      let less = ltb-true (n - length line) (length more) e in
      let some = some_held plus in
      let cut : length (take (n - length line) more) ≡ n - length line = length-take-le (n - length line) more (omega arith) in
      let first : n ≤ length ((line ++ take (n - length line) more) ++ f) = omega (arith, cut, length-append (line ++ take (n - length line) more) f, length-append line (take (n - length line) more)) in
      let second : n ≤ length ((line ++ more) ++ f) = omega (arith, less, length-append (line ++ more) f, length-append line more) in
      let there : 0 < length (line ++ more) = omega (arith, less, length-append line more) in
      let last : begins_with_plus ((line ++ more) ++ f) ≡ plus = begins_more (line ++ more) f there ∙ begins in
      let front : begins_with_plus ((line ++ take (n - length line) more) ++ f) ≡ plus = begins_alike line more f (n - length line) (some_room n line (omega (arith, is, some))) ∙ last in
      long_same plus ((line ++ take (n - length line) more) ++ f) ((line ++ more) ++ f) front last (omega (arith, is, first)) (omega (arith, is, second))

  same_held : (line more f : List ℕ) → Same (held line more ++ f) ((line ++ more) ++ f)
  same_held line more f = by_room (begins_with_plus (line ++ more)) _ (most_held (line ++ more)) line more f refl refl refl

  stops_same : (xs ys part : List ℕ) → Same xs ys → StopsInLine answers uploads stops halts s s' xs part → StopsInLine answers uploads stops halts s s' ys part
  stops_same xs ys part same (inl h) = inl (same.1 h.0, h.1)
  stops_same xs ys part same (inr h) = inr (h.0, same.0 (part ++ h.0) h.1)

  ends_same : (line more : List ℕ) → Same (held line more) (line ++ more)
  ends_same line more =
      let same = same_held line more [] in (
        λ reply h.
            subst (λ (bs : List ℕ). IsLineReply answers uploads s s' bs reply) (append-nil (line ++ more)) (same.0 reply (subst (λ (bs : List ℕ). IsLineReply answers uploads s s' bs reply) (sym (append-nil (held line more))) h)),
        λ h. subst (HasBegunLine answers uploads stops halts s s') (append-nil (line ++ more)) (same.1 (subst (HasBegunLine answers uploads stops halts s s') (sym (append-nil (held line more))) h)),
      )

  -- the reply to a line of which more was appended to what is held
  pub reply_of_held : (line more reply : List ℕ) → IsLineReply answers uploads s s' (held line more) reply → IsLineReply answers uploads s s' (line ++ more) reply
  reply_of_held line more reply h = (ends_same line more).0 reply h

  pub stop_of_held : (line more part : List ℕ) → StopsInLine answers uploads stops halts s s' (held line more) part → StopsInLine answers uploads stops halts s s' (line ++ more) part
  stop_of_held line more part h = stops_same (held line more) (line ++ more) part (ends_same line more) h

  -- the reply to a line of which only the first bytes are held
  pub reply_of_line : (held_line line more reply : List ℕ) → IsHeld held_line line → IsLineReply answers uploads s s' (held_line ++ more) reply → IsLineReply answers uploads s s' (line ++ more) reply
  reply_of_line held_line line more reply is h = (same_held [] line more).0 reply (subst (λ (bs : List ℕ). IsLineReply answers uploads s s' (bs ++ more) reply) (is ∙ from_nothing line) h)

  pub stop_of_line : (held_line line more part : List ℕ) → IsHeld held_line line → StopsInLine answers uploads stops halts s s' (held_line ++ more) part → StopsInLine answers uploads stops halts s s' (line ++ more) part
  stop_of_line held_line line more part is h = stops_same (held [] line ++ more) (line ++ more) part (same_held [] line more) (subst (λ (bs : List ℕ). StopsInLine answers uploads stops halts s s' (bs ++ more) part) (is ∙ from_nothing line) h)

take_on : (n : ℕ) (xs ys : List ℕ) → take n (xs ++ ys) ≡ take n xs ++ take (n - length xs) ys
take_on zero [] ys = refl
take_on (suc n) [] ys = let e : suc n - 0 ≡ suc n = omega arith in ap (λ (k : ℕ). take k ys) (sym e)
take_on zero (x ∷ xs) ys = let e : zero - suc (length xs) ≡ zero = omega arith in rw e refl
take_on (suc n) (x ∷ xs) ys =
    let e : suc n - suc (length xs) ≡ n - length xs = omega arith in
    ap (λ zs. x ∷ zs) (take_on n xs ys) ∙ ap (λ (k : ℕ). x ∷ (take n xs ++ take k ys)) (sym e)

room_left : (n : ℕ) (xs : List ℕ) → n - length (take n xs) ≡ n - length xs
room_left zero xs = let e : zero - length xs ≡ zero = omega arith in sym e
room_left (suc n) [] = refl
room_left (suc n) (x ∷ xs) =
    let e : suc n - suc (length (take n xs)) ≡ n - length (take n xs) = omega arith in
    let f : suc n - suc (length xs) ≡ n - length xs = omega arith in
    e ∙ room_left n xs ∙ sym f

held_at : (n : ℕ) (held_line line more : List ℕ) → held_line ≡ take n line → most_held (held_line ++ more) ≡ n → held held_line more ≡ take n (line ++ more)
held_at n held_line line more is most =
    ap (λ (k : ℕ). held_line ++ take (k - length held_line) more) most ∙ ap (λ (bs : List ℕ). bs ++ take (n - length bs) more) is
    ∙ ap (λ (k : ℕ). take n line ++ take k more) (room_left n line) ∙ sym (take_on n line more)

-- what is held once bytes were appended to a line
pub held_on : (held_line line more : List ℕ) → IsHeld held_line line → IsHeld (held held_line more) (line ++ more)
held_on held_line [] more is =
    let none : held_line ≡ [] = is in
    ap (λ (bs : List ℕ). held bs more) none ∙ sym (from_nothing more)
held_on held_line (x ∷ line) more is =
    held_at (most_of (x == 43)) held_line (x ∷ line) more is
    (ap (λ (bs : List ℕ). most_held (bs ++ more)) is ∙ ap most_of (plus_first (most_of (x == 43)) x line more (some_held (x == 43))))
