-- A complete body stays, whatever bytes follow.
use Rattle.std.proofs.Common.{◌≡◌, ◌≤◌, ◌<◌, ◌+◌, ℕ, zero, suc, Bool, true, false, ◌&&◌, cond, eqb, ltb, leb, not, List, [], ◌∷◌, ◌++◌, length, take, drop, Option, None, Some, refl, ap, ap₂, ◌∙◌, arith, length-append}
use Rattle.std.specs.Option.{is_some}
use Rattle.std.specs.List.{prefix_len}
use Rattle.std.proofs.lemmas.Bool.{ltb-true, lt-ltb, le-ltb}
use Rattle.std.proofs.lemmas.Bool.Decides.{nat_tests}
use Rattle.std.proofs.lemmas.List.{take-append-le, drop-append-le}
use Rattle.std.proofs.lemmas.List.Folds.{prefix_len-append}
use Rattle.mime_lines.specs.Lines.{lines, text}
use Rattle.mime_lines.proofs.SpanFacts.{size_lines}
use Rattle.http_parts.specs.declared.heads.HeadSize.{HeadSize}
use Rattle.http_parts.specs.Heads.{head_size}
use Rattle.http_parts.specs.Bodies.{BodyInvalid, BodyTooLong, BodyUnfinished, Whole, sized_body}
use Rattle.http_parts.specs.Chunks.{chunk_size, line_feed_at, ChunkLine, LineInvalid, LineUnfinished, Chunk, chunk_line, chunk_line_by, trailer, trailer_by, ChunkEnd, EndInvalid, EndUnfinished, Ends, chunk_end, ChunkStep, Settled, GoesOn, after_chunk, after_line, chunk_step, body_by, chunks}
use Rattle.http_parts.specs.declared.limits.TheConstants.{MAX_CHUNK_LINE_BYTES, MAX_TRAILER_BYTES}
use Rattle.http_parts.proofs.HeadStays.{bytes_of, goes_on, head_same, size_within}

-- ---- a body of a size

sized_by : (size : ℕ) (xs ys body rest : List ℕ) (v w : Bool) → ltb (length xs) size ≡ w
    → cond v BodyTooLong (cond w BodyUnfinished (Whole (take size xs) (drop size xs))) ≡ Whole body rest
    → cond v BodyTooLong (cond (ltb (length (xs ++ ys)) size) BodyUnfinished (Whole (take size (xs ++ ys)) (drop size (xs ++ ys)))) ≡ Whole body (rest ++ ys)
sized_by size xs ys body rest true w e h = absurd (cc h)
sized_by size xs ys body rest false true e h = absurd (cc h)
sized_by size xs ys body rest false false e h =
    let low : size ≤ length xs = grind (arith, nat_tests) in
    let p : take size xs ≡ body = cc h in
    let q : drop size xs ≡ rest = cc h in
    let more : ltb (length (xs ++ ys)) size ≡ false = le-ltb (length (xs ++ ys)) size (omega (arith, low, length-append xs ys)) in
    rw more (ap₂ (λ (a b : List ℕ). Whole a b) (take-append-le size xs ys low ∙ p) (drop-append-le size xs ys low ∙ ap (λ z. z ++ ys) q))

pub sized_stays : (limit size : ℕ) (xs ys body rest : List ℕ) → sized_body limit size xs ≡ Whole body rest → sized_body limit size (xs ++ ys) ≡ Whole body (rest ++ ys)
sized_stays limit size xs ys body rest h = sized_by size xs ys body rest (ltb limit size) (ltb (length xs) size) refl h

-- ---- the line of a chunk

feed_stays : (xs ys : List ℕ) → line_feed_at xs < length xs → line_feed_at (xs ++ ys) ≡ line_feed_at xs
feed_stays xs ys low =
    let other : eqb (line_feed_at xs) (length xs) ≡ false = grind (arith, nat_tests) in
    prefix_len-append (λ b. not (eqb b 10)) xs ys ∙ ap (λ t. cond t (length xs + prefix_len (λ b. not (eqb b 10)) ys) (line_feed_at xs)) other

line_by : (xs ys : List ℕ) (size : ℕ) (rest : List ℕ) (v w u : Bool) → ltb (line_feed_at xs) (length xs) ≡ v → leb (line_feed_at xs + 1) MAX_CHUNK_LINE_BYTES ≡ w
    → cond (v && w) (chunk_line_by (chunk_size (text (take (line_feed_at xs + 1) xs))) (drop (line_feed_at xs + 1) xs)) (cond u LineInvalid LineUnfinished) ≡ Chunk size rest
    → chunk_line (xs ++ ys) ≡ Chunk size (rest ++ ys)
line_by xs ys size rest true true u e f h =
    let low : line_feed_at xs < length xs = ltb-true (line_feed_at xs) (length xs) e in
    let at : line_feed_at (xs ++ ys) ≡ line_feed_at xs = feed_stays xs ys low in
    let there : ltb (line_feed_at xs) (length (xs ++ ys)) ≡ true = lt-ltb (line_feed_at xs) (length (xs ++ ys)) (omega (arith, low, length-append xs ys)) in
    rw (at, there, f, take-append-le (line_feed_at xs + 1) xs ys (omega (arith, low)), drop-append-le (line_feed_at xs + 1) xs ys (omega (arith, low)))
    (line_size (chunk_size (text (take (line_feed_at xs + 1) xs))) (drop (line_feed_at xs + 1) xs) h)
  where
    line_size : (o : Option ℕ) (more : List ℕ) → chunk_line_by o more ≡ Chunk size rest → chunk_line_by o (more ++ ys) ≡ Chunk size (rest ++ ys)
    line_size None more k = absurd (cc k)
    line_size (Some n) more k =
        let p : n ≡ size = cc k in
        let q : more ≡ rest = cc k in
        ap₂ (λ (m : ℕ) (z : List ℕ). Chunk m (z ++ ys)) p q
line_by xs ys size rest true false true e f h = absurd (cc h)
line_by xs ys size rest true false false e f h = absurd (cc h)
line_by xs ys size rest false w true e f h = absurd (cc h)
line_by xs ys size rest false w false e f h = absurd (cc h)

line_stays : (xs ys : List ℕ) (size : ℕ) (rest : List ℕ) → chunk_line xs ≡ Chunk size rest → chunk_line (xs ++ ys) ≡ Chunk size (rest ++ ys)
line_stays xs ys size rest h =
    line_by xs ys size rest (ltb (line_feed_at xs) (length xs)) (leb (line_feed_at xs + 1) MAX_CHUNK_LINE_BYTES) (leb MAX_CHUNK_LINE_BYTES (length xs)) refl refl h

-- ---- the lines after the last chunk

trailer_by_stays : (xs ys body b rest : List ℕ) (o : Option HeadSize) → head_size (lines xs) ≡ o → bytes_of o ≤ length xs → (is_some o ≡ true → head_size (lines (xs ++ ys)) ≡ head_size (lines xs))
    → trailer_by body xs o ≡ Whole b rest → trailer body (xs ++ ys) ≡ Whole b (rest ++ ys)
trailer_by_stays xs ys body b rest None e low same h = absurd (none (leb MAX_TRAILER_BYTES (length xs)) h)
  where
    none : (w : Bool) → cond w BodyInvalid BodyUnfinished ≡ Whole b rest → ⊥
    none true k = cc k
    none false k = cc k
trailer_by_stays xs ys body b rest (Some s) e low same h =
    ap (trailer_by body (xs ++ ys)) (same refl ∙ e) ∙ by (ltb MAX_TRAILER_BYTES s.bytes) h
  where
    by : (w : Bool) → cond w BodyInvalid (Whole body (drop s.bytes xs)) ≡ Whole b rest → cond w BodyInvalid (Whole body (drop s.bytes (xs ++ ys))) ≡ Whole b (rest ++ ys)
    by true k = absurd (cc k)
    by false k =
        let p : body ≡ b = cc k in
        let q : drop s.bytes xs ≡ rest = cc k in
        ap₂ (λ (x y : List ℕ). Whole x y) p (drop-append-le s.bytes xs ys low ∙ ap (λ z. z ++ ys) q)

trailer_stays : (xs ys body b rest : List ℕ) → trailer body xs ≡ Whole b rest → trailer body (xs ++ ys) ≡ Whole b (rest ++ ys)
trailer_stays xs ys body b rest h =
    trailer_by_stays xs ys body b rest (head_size (lines xs)) refl (omega (arith, size_within (lines xs), size_lines xs)) (λ k. head_same (lines xs) (lines (xs ++ ys)) (goes_on xs ys) k) h

-- ---- the CR LF after a chunk

end_by : (rest ys after : List ℕ) (v : Bool) → cond v (Ends rest) EndInvalid ≡ Ends after → cond v (Ends (rest ++ ys)) EndInvalid ≡ Ends (after ++ ys)
end_by rest ys after true h = let p : rest ≡ after = cc h in ap (λ z. Ends (z ++ ys)) p
end_by rest ys after false h = absurd (cc h)

one_by : (v : Bool) (after : List ℕ) → cond v EndUnfinished EndInvalid ≡ Ends after → ⊥
one_by true after h = cc h
one_by false after h = cc h

end_stays : (xs ys after : List ℕ) → chunk_end xs ≡ Ends after → chunk_end (xs ++ ys) ≡ Ends (after ++ ys)
end_stays [] ys after h = absurd (cc h)
end_stays (b ∷ []) ys after h = absurd (one_by (eqb b 13) after h)
end_stays (b ∷ c ∷ rest) ys after h = end_by rest ys after (eqb b 13 && eqb c 10) h

-- ---- one chunk

chunk_by : (next0 below ys next rest : List ℕ) (c : ChunkEnd) → chunk_end below ≡ c → after_chunk next0 c ≡ GoesOn next rest
    → after_chunk next0 (chunk_end (below ++ ys)) ≡ GoesOn next (rest ++ ys)
chunk_by next0 below ys next rest EndInvalid e h = absurd (cc h)
chunk_by next0 below ys next rest EndUnfinished e h = absurd (cc h)
chunk_by next0 below ys next rest (Ends r) e h =
    let p : next0 ≡ next = cc h in
    let q : r ≡ rest = cc h in
    ap (after_chunk next0) (end_stays below ys r e) ∙ ap₂ (λ (x y : List ℕ). GoesOn x (y ++ ys)) p q

no_body : (next0 : List ℕ) (c : ChunkEnd) (b rest : List ℕ) → after_chunk next0 c ≡ Settled (Whole b rest) → ⊥
no_body next0 EndInvalid b rest h = cc h
no_body next0 EndUnfinished b rest h = cc h
no_body next0 (Ends r) b rest h = cc h

after_on : (body : List ℕ) (size : ℕ) (more ys next rest : List ℕ) (v w u : Bool) → ltb (length more) size ≡ u
    → cond v (Settled (trailer body more)) (cond w (Settled BodyTooLong) (cond u (Settled BodyUnfinished) (after_chunk (body ++ take size more) (chunk_end (drop size more))))) ≡ GoesOn next rest
    → cond v (Settled (trailer body (more ++ ys))) (cond w (Settled BodyTooLong) (cond (ltb (length (more ++ ys)) size) (Settled BodyUnfinished) (after_chunk (body ++ take size (more ++ ys)) (chunk_end (drop size (more ++ ys)))))) ≡ GoesOn next (rest ++ ys)
after_on body size more ys next rest true w u e h = absurd (cc h)
after_on body size more ys next rest false true u e h = absurd (cc h)
after_on body size more ys next rest false false true e h = absurd (cc h)
after_on body size more ys next rest false false false e h =
    let low : size ≤ length more = grind (arith, nat_tests) in
    let still : ltb (length (more ++ ys)) size ≡ false = le-ltb (length (more ++ ys)) size (omega (arith, low, length-append more ys)) in
    rw (still, take-append-le size more ys low, drop-append-le size more ys low)
    (chunk_by (body ++ take size more) (drop size more) ys next rest (chunk_end (drop size more)) refl h)

after_end : (body : List ℕ) (size : ℕ) (more ys b rest : List ℕ) (v w u x : Bool)
    → cond v (Settled (trailer body more)) (cond w (Settled BodyTooLong) (cond u (Settled BodyUnfinished) (after_chunk (body ++ take size more) (chunk_end (drop size more))))) ≡ Settled (Whole b rest)
    → cond v (Settled (trailer body (more ++ ys))) (cond w (Settled BodyTooLong) (cond x (Settled BodyUnfinished) (after_chunk (body ++ take size (more ++ ys)) (chunk_end (drop size (more ++ ys)))))) ≡ Settled (Whole b (rest ++ ys))
after_end body size more ys b rest true w u x h =
    let p : trailer body more ≡ Whole b rest = cc h in ap Settled (trailer_stays more ys body b rest p)
after_end body size more ys b rest false true u x h = absurd (cc h)
after_end body size more ys b rest false false true x h = absurd (cc h)
after_end body size more ys b rest false false false x h = absurd (no_body (body ++ take size more) (chunk_end (drop size more)) b rest h)

line_on : (limit : ℕ) (body xs ys next rest : List ℕ) (l : ChunkLine) → chunk_line xs ≡ l → after_line limit body l ≡ GoesOn next rest
    → chunk_step limit body (xs ++ ys) ≡ GoesOn next (rest ++ ys)
line_on limit body xs ys next rest LineInvalid e h = absurd (cc h)
line_on limit body xs ys next rest LineUnfinished e h = absurd (cc h)
line_on limit body xs ys next rest (Chunk size more) e h =
    ap (after_line limit body) (line_stays xs ys size more e)
    ∙ after_on body size more ys next rest (eqb size 0) (ltb limit (length body + size)) (ltb (length more) size) refl h

line_end : (limit : ℕ) (body xs ys b rest : List ℕ) (l : ChunkLine) → chunk_line xs ≡ l → after_line limit body l ≡ Settled (Whole b rest)
    → chunk_step limit body (xs ++ ys) ≡ Settled (Whole b (rest ++ ys))
line_end limit body xs ys b rest LineInvalid e h = absurd (cc h)
line_end limit body xs ys b rest LineUnfinished e h = absurd (cc h)
line_end limit body xs ys b rest (Chunk size more) e h =
    ap (after_line limit body) (line_stays xs ys size more e)
    ∙ after_end body size more ys b rest (eqb size 0) (ltb limit (length body + size)) (ltb (length more) size) (ltb (length (more ++ ys)) size) h

-- ---- all chunks

chunks_by : (n m limit : ℕ) (body xs ys b rest : List ℕ)
    → ((next more : List ℕ) → chunks n limit next more ≡ Whole b rest → chunks m limit next (more ++ ys) ≡ Whole b (rest ++ ys))
    → (s : ChunkStep) → chunk_step limit body xs ≡ s → body_by (chunks n limit) s ≡ Whole b rest → chunks (suc m) limit body (xs ++ ys) ≡ Whole b (rest ++ ys)
chunks_by n m limit body xs ys b rest go (Settled end) e h =
    ap (body_by (chunks m limit)) (line_end limit body xs ys b rest (chunk_line xs) refl (e ∙ ap Settled h))
chunks_by n m limit body xs ys b rest go (GoesOn next more) e h =
    ap (body_by (chunks m limit)) (line_on limit body xs ys next more (chunk_line xs) refl e) ∙ go next more h

pub chunks_stay : (n m limit : ℕ) (body xs ys b rest : List ℕ) → n ≤ m → chunks n limit body xs ≡ Whole b rest → chunks m limit body (xs ++ ys) ≡ Whole b (rest ++ ys)
chunks_stay zero m limit body xs ys b rest low h = absurd (cc h)
chunks_stay (suc n) zero limit body xs ys b rest low h = absurd (omega (arith, low))
chunks_stay (suc n) (suc m) limit body xs ys b rest low h =
    chunks_by n m limit body xs ys b rest (λ next more k. chunks_stay n m limit next more ys b rest (omega (arith, low)) k) (chunk_step limit body xs) refl h
