-- A run of `batch`, read by read.
use Rattle.std.proofs.Common.{◌≡◌, inl, inr, ℕ, suc, ◌<◌, ◌≤◌, ◌+◌, ◌-◌, List, [], ◌∷◌, ◌++◌, Option, Result, Ok, Err, OnOk, OnErr, take, drop, length, refl, sym, ap, ◌∙◌, subst, append-nil, append_assoc, arith, length-append}
use Rattle.std.proofs.lemmas.List.{take-append-drop, take-take}
use Rattle.std.specs.Io.KnownBytes.{Consumes, Appends, Keeps, IsAtEnd}
use Rattle.jm_base.specs.declared.memory.NoMemory.{NoMemory}
use Rattle.jm_edge.specs.Causes.{Rose}
use Rattle.batch_lines.specs.declared.fault.LinesFault.{LinesFault}
use Rattle.jm_edge.proofs.Known.{consumes_on, appends_on, consumes_none, appends_none, consumes_kept}
use Rattle.jm_json.specs.Call.{Call}
use Rattle.jm_json.specs.declared.invocation.Created.{Created}
use Rattle.jm_json.specs.declared.invocation.Replied.{Replied}
use Rattle.batch_lines.specs.declared.upload.Uploaded.{Uploaded}
use Rattle.method_batch.proofs.Together.{Stays}
use Rattle.batch_lines.proofs.Uploads.{Rests}
use Rattle.batch_lines.specs.Lines.{lines_of, ended_lines, IsOneLine, IsCut}
use Rattle.batch_lines.specs.Replies.{AreReplies, IsLineReply, HasBegunReplies, StopsInLine}
use Rattle.batch_lines.specs.Pieces.{IsHeld, HasTakenPiece, HasBegunPiece, HasAnsweredAndPut, HasStoppedAndPut, HasPut}
use Rattle.batch_lines.specs.Input.{Seen, HasAnsweredInput, HasAnsweredEnded, HasAnsweredWithin, HasBegunInput}
use Rattle.batch_lines.specs.declared.limits.TheConstants.{MAX_INPUT_BYTES}
use Rattle.batch_lines.proofs.Cuts.{cut_nothing, cut_end, cut_more, cut_on, cut_exists, lines_cut, ended_cut}
use Rattle.batch_lines.proofs.Held.{held, held_on, reply_of_line, stop_of_line}
use Rattle.batch_lines.proofs.Replies.{replies_on, replies_next, begun_prefix, begun_stop, begun_after, begun_wider}

take_sum : (xs ys : List ℕ) (n : ℕ) → take (length xs + n) (xs ++ ys) ≡ xs ++ take n ys
take_sum [] ys n = let e : 0 + n ≡ n = omega arith in ap (λ (k : ℕ). take k ys) e
take_sum (x ∷ xs) ys n =
    let e : suc (length xs) + n ≡ suc (length xs + n) = omega arith in
    ap (λ (k : ℕ). take k (x ∷ (xs ++ ys))) e ∙ ap (λ zs. x ∷ zs) (take_sum xs ys n)

take_short : (m n : ℕ) (xs : List ℕ) → m ≤ n → take m (take n xs) ≡ take m xs
take_short m n xs h = take-take m n xs h

-- Between two reads: these bytes were read, in which these lines ended and this one did not; the replies are written, and the
-- first bytes of the unfinished line are held.
pub record IsUnderWay {S : Type 0} (answers : S → Call → List Created → Replied → S → Type 0) (uploads : S → List ℕ → Uploaded → S → Type 0) (s t : S) (l m h k : Option (List ℕ)) (line : List ℕ) (total : ℕ) : Type 0 where
  pub bytes : List ℕ
  pub lines : List (List ℕ)
  pub last : List ℕ
  pub written : List ℕ
  pub reads : Consumes l m bytes
  pub writes : Appends h k written
  pub cut : IsCut bytes lines last
  pub replies : AreReplies answers uploads s t lines written
  pub holds : IsHeld line last
  pub count : length bytes ≡ total

module _ {S : Type 0} (answers : S → Call → List Created → Replied → S → Type 0) (uploads : S → List ℕ → Uploaded → S → Type 0) where
  pub way_none : (s : S) (l h : Option (List ℕ)) → IsUnderWay answers uploads s s l l h h [] 0
  way_none s l h = record {
    bytes = [];
    lines = [];
    last = [];
    written = [];
    reads = consumes_none l;
    writes = appends_none h;
    cut = cut_nothing;
    replies = (refl, refl);
    holds = refl;
    count = refl;
  }

  pub way_on : (s t u : S) (l m p h k j : Option (List ℕ)) (line next_line piece : List ℕ) (n total : ℕ) → IsUnderWay answers uploads s t l m h k line n → Consumes m p piece → HasTakenPiece answers uploads t u line next_line piece k j
      → total ≡ n + length piece → IsUnderWay answers uploads s u l p h j next_line total
  way_on s t u l m p h k j line next_line piece n total way more taken sum =
      let (lines, next, w, put, cut, replies, holds) = taken way.last way.cut.open_line way.holds in
      record {
        bytes = way.bytes ++ piece;
        lines = way.lines ++ lines;
        last = next;
        written = way.written ++ w;
        reads = consumes_on l m p way.bytes piece way.reads more;
        writes = appends_on h k j way.written w way.writes put;
        cut = cut_on way.bytes piece way.lines lines way.last next way.cut cut;
        replies = replies_on answers uploads s t u way.lines lines way.written w way.replies replies;
        holds = holds;
        count = omega (arith, way.count, sum, length-append way.bytes piece);
      }

  -- a read failed
  pub ended_kept : (s t : S) (v : Seen) (m : Option (List ℕ)) (line : List ℕ) (n : ℕ) → IsUnderWay answers uploads s t v.left m v.held v.held_after line n → Keeps m v.left_after → HasAnsweredEnded answers uploads s t v
  ended_kept s t v m line n way kept = (
    way.bytes,
    way.written,
    subst (Consumes v.left v.left_after) (append-nil way.bytes) (consumes_on v.left m v.left_after way.bytes [] way.reads (consumes_kept m v.left_after kept)),
    way.writes,
    subst (λ (ls : List (List ℕ)). AreReplies answers uploads s t ls way.written) (sym (ended_cut way.bytes way.lines way.last way.cut)) way.replies,
  )

  -- the input ended, and its last line was answered
  pub input_answered : (s t u : S) (v : Seen) (m k : Option (List ℕ)) (line : List ℕ) (n : ℕ) → IsUnderWay answers uploads s t v.left m v.held k line n → n ≤ MAX_INPUT_BYTES → Consumes m v.left_after [] → IsAtEnd v.left_after
      → HasAnsweredAndPut answers uploads t u line [] [] k v.held_after → HasAnsweredInput answers uploads s u v
  input_answered s t u v m k line n way small more end (all, (reply, one, is), (w, put, e)) =
      let whole : IsLineReply answers uploads t u (way.last ++ []) reply = reply_of_line answers uploads (λ x c made y. y ≡ x) (λ x bytes y. y ≡ x) t u line way.last [] reply way.holds (subst (λ (bs : List ℕ). IsLineReply answers uploads t u bs reply) (sym (append-nil line)) one) in
      let same : w ≡ reply = sym (append-nil w) ∙ sym e ∙ is in (
        way.bytes,
        way.written ++ w,
        subst (Consumes v.left v.left_after) (append-nil way.bytes) (consumes_on v.left m v.left_after way.bytes [] way.reads more),
        omega (arith, way.count, small),
        end,
        appends_on v.held k v.held_after way.written w way.writes put,
        subst (λ (ls : List (List ℕ)). AreReplies answers uploads s u ls (way.written ++ w)) (sym (lines_cut way.bytes way.lines way.last way.cut))
            (replies_next answers uploads s t u way.lines way.last way.written w way.replies (subst (λ (bs : List ℕ). IsLineReply answers uploads t u bs w) (append-nil way.last) (subst (IsLineReply answers uploads t u (way.last ++ [])) (sym same) whole))),
      )

  -- a read went past the limit, and the part within it was taken
  pub limit_passed : (s t u : S) (v : Seen) (m k : Option (List ℕ)) (line next_line room : List ℕ) (n count : ℕ) → IsUnderWay answers uploads s t v.left m v.held k line n → n ≤ MAX_INPUT_BYTES → MAX_INPUT_BYTES - n < count → length (take count room) ≡ count
      → Consumes m v.left_after (take count room) → HasTakenPiece answers uploads t u line next_line (take (MAX_INPUT_BYTES - n) room) k v.held_after → HasAnsweredWithin answers uploads s u v
  limit_passed s t u v m k line next_line room n count way small past len more taken =
      let (lines, next, w, put, cut, replies, holds) = taken way.last way.cut.open_line way.holds in
      let piece = take count room in
      let all_cut = cut_on way.bytes (take (MAX_INPUT_BYTES - n) room) way.lines lines way.last next way.cut cut in
      let room_is : MAX_INPUT_BYTES ≡ length way.bytes + (MAX_INPUT_BYTES - n) = omega (arith, way.count, small) in
      let within : take MAX_INPUT_BYTES (way.bytes ++ piece) ≡ way.bytes ++ take (MAX_INPUT_BYTES - n) room =
      ap (λ (k : ℕ). take k (way.bytes ++ piece)) room_is ∙ take_sum way.bytes piece (MAX_INPUT_BYTES - n) ∙ ap (λ bs. way.bytes ++ bs) (take_short (MAX_INPUT_BYTES - n) count room (omega (arith, past))) in (
        way.bytes ++ piece,
        way.written ++ w,
        consumes_on v.left m v.left_after way.bytes piece way.reads more,
        omega (arith, way.count, small, past, len, length-append way.bytes piece),
        appends_on v.held k v.held_after way.written w way.writes put,
        subst (λ (ls : List (List ℕ)). AreReplies answers uploads s u ls (way.written ++ w)) (sym (ap ended_lines within ∙ ended_cut (way.bytes ++ take (MAX_INPUT_BYTES - n) room) (way.lines ++ lines) next all_cut))
            (replies_on answers uploads s t u way.lines lines way.written w way.replies replies),
      )

module _ {S : Type 0} (answers : S → Call → List Created → Replied → S → Type 0) (uploads : S → List ℕ → Uploaded → S → Type 0) (stops : S → Call → List Created → S → Type 0) (halts : S → List ℕ → S → Type 0) (stays : Stays stops) (rests : Rests halts) where
  -- a prefix of the replies to the lines of what is cut so is one of what ended in the bytes
  ended_begun : (s s' : S) (bytes : List ℕ) (lines : List (List ℕ)) (last written : List ℕ) → IsCut bytes lines last → HasBegunReplies answers uploads stops halts s s' lines written → HasBegunReplies answers uploads stops halts s s' (ended_lines bytes) written
  ended_begun s s' bytes lines last written cut h = subst (λ (ls : List (List ℕ)). HasBegunReplies answers uploads stops halts s s' ls written) (sym (ended_cut bytes lines last cut)) h

  pub begun_none : (s : S) (v : Seen) → v.left_after ≡ v.left → v.held_after ≡ v.held → HasBegunInput answers uploads stops halts s s v
  begun_none s v l h = (
    [],
    [],
    subst (λ (x : Option (List ℕ)). Consumes v.left x []) (sym l) (consumes_none v.left),
    subst (λ (x : Option (List ℕ)). Appends v.held x []) (sym h) (appends_none v.held),
    inl ([], [], [], s, refl, (refl, refl), refl),
  )

  -- all that was read up to here is answered, and something more was read
  pub begun_read : (s t : S) (v : Seen) (m : Option (List ℕ)) (line piece : List ℕ) (n : ℕ) → IsUnderWay answers uploads s t v.left m v.held v.held_after line n → Consumes m v.left_after piece → HasBegunInput answers uploads stops halts s t v
  begun_read s t v m line piece n way more =
      let rest = cut_exists piece way.last way.cut.open_line in (
        way.bytes ++ piece,
        way.written,
        consumes_on v.left m v.left_after way.bytes piece way.reads more,
        way.writes,
        inl
            (ended_begun s t (way.bytes ++ piece) (way.lines ++ rest.0) rest.1 way.written (cut_on way.bytes piece way.lines rest.0 way.last rest.1 way.cut rest.2)
            (begun_prefix answers uploads stops halts stays rests s t way.lines rest.0 way.written [] way.written way.replies (sym (append-nil way.written)))),
      )

  pub begun_answered : (s t : S) (v : Seen) → HasAnsweredInput answers uploads s t v → HasBegunInput answers uploads stops halts s t v
  begun_answered s t v (bytes, written, reads, small, end, writes, replies) =
      (bytes, written, reads, writes, inr (end, subst (λ (ls : List (List ℕ)). HasBegunReplies answers uploads stops halts s t ls written) (append-nil (lines_of bytes)) (begun_prefix answers uploads stops halts stays rests s t (lines_of bytes) [] written [] written replies (sym (append-nil written)))))

  pub begun_ended : (s t : S) (v : Seen) → HasAnsweredEnded answers uploads s t v → HasBegunInput answers uploads stops halts s t v
  begun_ended s t v (bytes, written, reads, writes, replies) =
      (bytes, written, reads, writes, inl (subst (λ (ls : List (List ℕ)). HasBegunReplies answers uploads stops halts s t ls written) (append-nil (ended_lines bytes)) (begun_prefix answers uploads stops halts stays rests s t (ended_lines bytes) [] written [] written replies (sym (append-nil written)))))

  -- the last line was stopped in
  pub begun_last : (s t u : S) (v : Seen) (m k : Option (List ℕ)) (line : List ℕ) (n : ℕ) → IsUnderWay answers uploads s t v.left m v.held k line n → Consumes m v.left_after [] → IsAtEnd v.left_after
      → HasStoppedAndPut answers uploads stops halts t u line [] k v.held_after → HasBegunInput answers uploads stops halts s u v
  begun_last s t u v m k line n way more end (all, (part, stopped, is), (lost, (w, put, e))) =
      let whole : StopsInLine answers uploads stops halts t u (way.last ++ []) part = stop_of_line answers uploads stops halts t u line way.last [] part way.holds (subst (λ (bs : List ℕ). StopsInLine answers uploads stops halts t u bs part) (sym (append-nil line)) stopped) in
      let last : StopsInLine answers uploads stops halts t u way.last part = subst (λ (bs : List ℕ). StopsInLine answers uploads stops halts t u bs part) (append-nil way.last) whole in
      let same : way.written ++ part ≡ (way.written ++ w) ++ lost = ap (λ bs. way.written ++ bs) (sym is ∙ e) ∙ sym (append_assoc way.written w lost) in (
        way.bytes,
        way.written ++ w,
        subst (Consumes v.left v.left_after) (append-nil way.bytes) (consumes_on v.left m v.left_after way.bytes [] way.reads more),
        appends_on v.held k v.held_after way.written w way.writes put,
        inr (
          end,
          subst (λ (ls : List (List ℕ)). HasBegunReplies answers uploads stops halts s u ls (way.written ++ w)) (sym (lines_cut way.bytes way.lines way.last way.cut))
              (begun_stop answers uploads stops halts stays rests s t u way.lines [] way.last way.written part (way.written ++ w) lost way.replies last same),
        ),
      )

  -- a piece was begun, which is what was read or a prefix of it
  pub begun_piece : (s t u : S) (v : Seen) (m k : Option (List ℕ)) (line piece rest read : List ℕ) (n : ℕ) → IsUnderWay answers uploads s t v.left m v.held k line n → Consumes m v.left_after read → read ≡ piece ++ rest
      → HasBegunPiece answers uploads stops halts t u line piece k v.held_after → HasBegunInput answers uploads stops halts s u v
  begun_piece s t u v m k line piece rest read n way more is begun =
      let (lines, next, w, put, cut, replies) = begun way.last way.cut.open_line way.holds in
      let after = cut_exists rest next cut.open_line in
      let all = cut_on (way.bytes ++ piece) rest (way.lines ++ lines) after.0 next after.1 (cut_on way.bytes piece way.lines lines way.last next way.cut cut) after.2 in
      let bytes : (way.bytes ++ piece) ++ rest ≡ way.bytes ++ read = append_assoc way.bytes piece rest ∙ ap (λ bs. way.bytes ++ bs) (sym is) in (
        way.bytes ++ read,
        way.written ++ w,
        consumes_on v.left m v.left_after way.bytes read way.reads more,
        appends_on v.held k v.held_after way.written w way.writes put,
        inl
            (ended_begun s u (way.bytes ++ read) ((way.lines ++ lines) ++ after.0) after.1 (way.written ++ w) (subst (λ (bs : List ℕ). IsCut bs ((way.lines ++ lines) ++ after.0) after.1) bytes all)
            (begun_wider answers uploads stops halts stays rests s u (way.lines ++ lines) after.0 (way.written ++ w) (begun_after answers uploads stops halts stays rests s t u way.lines lines way.written w way.replies replies))),
      )

  -- ---- the lines of a piece; `front` is what was taken of it

  -- Within a piece: of the line that was held and of the prefix of the piece these lines ended and this one did not, what was put
  -- and what waits are the replies, and the first bytes of the unfinished line are held.
  abbrev pub IsWithin : S → S → List ℕ → List ℕ → List ℕ → List ℕ → List ℕ → Option (List ℕ) → Option (List ℕ) → Type 0
  IsWithin s t first line piece rest waits h k =
      (last : List ℕ) → IsOneLine last → IsHeld first last
      → (front : List ℕ) × (lines : List (List ℕ)) × (next : List ℕ) × (w : List ℕ) × (piece ≡ front ++ rest) × Appends h k w × IsCut (last ++ front) lines next × AreReplies answers uploads s t lines (w ++ waits) × IsHeld line next

  pub within_none : (s : S) (first piece waits : List ℕ) (h : Option (List ℕ)) → waits ≡ [] → IsWithin s s first first piece piece waits h h
  within_none s first piece waits h none last one holds =
      let cut : IsCut last [] last = record { is = refl; each = tt; open_line = one } in
      ([], [], last, [], refl, appends_none h, subst (λ (bs : List ℕ). IsCut bs [] last) (sym (append-nil last)) cut, (refl, none), holds)

  next_piece : (piece front rest line more : List ℕ) → piece ≡ front ++ rest → rest ≡ line ++ 10 ∷ more → piece ≡ (front ++ (line ++ 10 ∷ [])) ++ more
  next_piece piece front rest line more e cut =
      e ∙ ap (λ bs. front ++ bs) (cut ∙ sym (append_assoc line (10 ∷ []) more)) ∙ sym (append_assoc front (line ++ 10 ∷ []) more)

  pub within_next : (s t u : S) (first line piece rest ended more waits waits' : List ℕ) (h k j : Option (List ℕ)) → IsWithin s t first line piece rest waits h k → rest ≡ ended ++ 10 ∷ more → IsOneLine ended
      → HasAnsweredAndPut answers uploads t u (line ++ ended) waits waits' k j → IsWithin s u first [] piece more waits' h j
  within_next s t u first line piece rest ended more waits waits' h k j way cut one (all, (reply, answered, is), (v, put, e)) last open_line holds =
      let (front, lines, next, w, piece_is, wrote, here, replies, held_next) = way last open_line holds in
      let whole : IsLineReply answers uploads t u (next ++ ended) reply = reply_of_line answers uploads stops halts t u line next ended reply held_next answered in
      let step = cut_end (last ++ front) ended lines next here one in
      let text : (w ++ waits) ++ reply ≡ (w ++ v) ++ waits' = append_assoc w waits reply ∙ ap (λ bs. w ++ bs) (sym is ∙ e) ∙ sym (append_assoc w v waits') in (
        front ++ (ended ++ 10 ∷ []),
        lines ++ (next ++ ended) ∷ [],
        [],
        w ++ v,
        next_piece piece front rest ended more piece_is cut,
        appends_on h k j w v wrote put,
        subst (λ (bs : List ℕ). IsCut bs (lines ++ (next ++ ended) ∷ []) []) (append_assoc last front (ended ++ 10 ∷ [])) step,
        subst (AreReplies answers uploads s u (lines ++ (next ++ ended) ∷ [])) text (replies_next answers uploads s t u lines (next ++ ended) (w ++ waits) reply replies whole),
        refl,
      )

  pub within_stop : (s t u : S) (first line piece rest ended more waits : List ℕ) (h k j : Option (List ℕ)) → IsWithin s t first line piece rest waits h k → rest ≡ ended ++ 10 ∷ more → IsOneLine ended
      → HasStoppedAndPut answers uploads stops halts t u (line ++ ended) waits k j → HasBegunPiece answers uploads stops halts s u first piece h j
  within_stop s t u first line piece rest ended more waits h k j way cut one (all, (part, stopped, is), (lost, (v, put, e))) last open_line holds =
      let (front, lines, next, w, piece_is, wrote, here, replies, held_next) = way last open_line holds in
      let whole : StopsInLine answers uploads stops halts t u (next ++ ended) part = stop_of_line answers uploads stops halts t u line next ended part held_next stopped in
      let step = cut_end (last ++ front) ended lines next here one in
      let after = cut_exists more [] tt in
      let all_cut = cut_on ((last ++ front) ++ (ended ++ 10 ∷ [])) more (lines ++ (next ++ ended) ∷ []) after.0 [] after.1 step after.2 in
      let bytes : ((last ++ front) ++ (ended ++ 10 ∷ [])) ++ more ≡ last ++ piece =
      ap (λ bs. bs ++ more) (append_assoc last front (ended ++ 10 ∷ [])) ∙ append_assoc last (front ++ (ended ++ 10 ∷ [])) more ∙ ap (λ bs. last ++ bs) (sym (next_piece piece front rest ended more piece_is cut)) in
      let text : (w ++ waits) ++ part ≡ (w ++ v) ++ lost = append_assoc w waits part ∙ ap (λ bs. w ++ bs) (sym is ∙ e) ∙ sym (append_assoc w v lost) in (
        (lines ++ (next ++ ended) ∷ []) ++ after.0,
        after.1,
        w ++ v,
        appends_on h k j w v wrote put,
        subst (λ (bs : List ℕ). IsCut bs ((lines ++ (next ++ ended) ∷ []) ++ after.0) after.1) bytes all_cut,
        subst (λ (ls : List (List ℕ)). HasBegunReplies answers uploads stops halts s u ls (w ++ v)) (sym (append_assoc lines ((next ++ ended) ∷ []) after.0))
            (begun_stop answers uploads stops halts stays rests s t u lines after.0 (next ++ ended) (w ++ waits) part (w ++ v) lost replies whole text),
      )

  -- the rest of the piece is held, and all that waits is written
  pub within_all : (s t : S) (first line next_line piece rest waits : List ℕ) (h k j : Option (List ℕ)) → IsWithin s t first line piece rest waits h k → IsOneLine rest → next_line ≡ held line rest → Appends k j waits
      → HasTakenPiece answers uploads s t first next_line piece h j
  within_all s t first line next_line piece rest waits h k j way one is put last open_line holds =
      let (front, lines, next, w, piece_is, wrote, here, replies, held_next) = way last open_line holds in
      let bytes : (last ++ front) ++ rest ≡ last ++ piece = append_assoc last front rest ∙ ap (λ bs. last ++ bs) (sym piece_is) in (
        lines,
        next ++ rest,
        w ++ waits,
        appends_on h k j w waits wrote put,
        subst (λ (bs : List ℕ). IsCut bs lines (next ++ rest)) bytes (cut_more (last ++ front) rest lines next here one),
        replies,
        is ∙ held_on line next rest held_next,
      )

  -- all lines of the piece are answered, and some of what waits is written
  pub within_some : (s t : S) (first line piece rest waits lost v : List ℕ) (h k j : Option (List ℕ)) → IsWithin s t first line piece rest waits h k → IsOneLine rest → Appends k j v → waits ≡ v ++ lost
      → HasBegunPiece answers uploads stops halts s t first piece h j
  within_some s t first line piece rest waits lost v h k j way one put e last open_line holds =
      let (front, lines, next, w, piece_is, wrote, here, replies, held_next) = way last open_line holds in
      let bytes : (last ++ front) ++ rest ≡ last ++ piece = append_assoc last front rest ∙ ap (λ bs. last ++ bs) (sym piece_is) in
      let text : w ++ waits ≡ (w ++ v) ++ lost = ap (λ bs. w ++ bs) e ∙ sym (append_assoc w v lost) in (
        lines ++ [],
        next ++ rest,
        w ++ v,
        appends_on h k j w v wrote put,
        subst (λ (ls : List (List ℕ)). IsCut (last ++ piece) ls (next ++ rest)) (sym (append-nil lines)) (subst (λ (bs : List ℕ). IsCut bs lines (next ++ rest)) bytes (cut_more (last ++ front) rest lines next here one)),
        begun_prefix answers uploads stops halts stays rests s t lines [] (w ++ v) lost (w ++ waits) replies text,
      )

  pub piece_taken : (r : Result (Unit {0}) LinesFault) (fed : Result (Unit {0}) NoMemory) (s t : S) (first line next_line piece rest waits : List ℕ) (h k j : Option (List ℕ)) → IsWithin s t first line piece rest waits h k → IsOneLine rest
      → OnOk fed (next_line ≡ held line rest) → OnOk r ((fed ≡ Ok tt) × Appends k j waits) → OnOk r (HasTakenPiece answers uploads s t first next_line piece h j)
  piece_taken (Ok u) fed s t first line next_line piece rest waits h k j way one holds put =
      within_all s t first line next_line piece rest waits h k j way one (subst (λ (f : Result (Unit {0}) NoMemory). OnOk f (next_line ≡ held line rest)) put.0 holds) put.1
  piece_taken (Err e) fed s t first line next_line piece rest waits h k j way one holds put = tt

  pub piece_begun : (r : Result (Unit {0}) LinesFault) (s t : S) (first line piece rest waits : List ℕ) (h k j : Option (List ℕ)) → IsWithin s t first line piece rest waits h k → IsOneLine rest
      → OnErr r ((lost : List ℕ) × HasPut waits lost k j) → OnErr r (HasBegunPiece answers uploads stops halts s t first piece h j)
  piece_begun (Ok u) s t first line piece rest waits h k j way one put = tt
  piece_begun (Err e) s t first line piece rest waits h k j way one put = within_some s t first line piece rest waits put.0 put.1.0 h k j way one put.1.1 put.1.2

  pub begun_within : (s t : S) (v : Seen) → HasAnsweredWithin answers uploads s t v → HasBegunInput answers uploads stops halts s t v
  begun_within s t v (bytes, written, reads, past, writes, replies) =
      let front = cut_exists (take MAX_INPUT_BYTES bytes) [] tt in
      let rest = cut_exists (drop MAX_INPUT_BYTES bytes) front.1 front.2.open_line in
      let all = cut_on (take MAX_INPUT_BYTES bytes) (drop MAX_INPUT_BYTES bytes) front.0 rest.0 front.1 rest.1 front.2 rest.2 in
      let done : AreReplies answers uploads s t front.0 written = subst (λ (ls : List (List ℕ)). AreReplies answers uploads s t ls written) (ended_cut (take MAX_INPUT_BYTES bytes) front.0 front.1 front.2) replies in (
        bytes,
        written,
        reads,
        writes,
        inl
            (ended_begun s t bytes (front.0 ++ rest.0) rest.1 written (subst (λ (bs : List ℕ). IsCut bs (front.0 ++ rest.0) rest.1) (take-append-drop MAX_INPUT_BYTES bytes) all)
            (begun_prefix answers uploads stops halts stays rests s t front.0 rest.0 written [] written done (sym (append-nil written)))),
      )

  -- of what was read, a part was begun
  pub begun_part : (s t u : S) (v : Seen) (m k : Option (List ℕ)) (line room : List ℕ) (part count n : ℕ) → IsUnderWay answers uploads s t v.left m v.held k line n → Consumes m v.left_after (take count room) → part ≤ count
      → HasBegunPiece answers uploads stops halts t u line (take part room) k v.held_after → HasBegunInput answers uploads stops halts s u v
  begun_part s t u v m k line room part count n way more within begun =
      let is : take count room ≡ take part room ++ drop part (take count room) =
      sym (take-append-drop part (take count room)) ∙ ap (λ bs. bs ++ drop part (take count room)) (take_short part count room within) in
      begun_piece s t u v m k line (take part room) (drop part (take count room)) (take count room) n way more is begun

pub rose_later : (a b n : ℕ) → a ≤ b → Rose b n → Rose a n
rose_later a b n h k = grind (arith, h, k)
