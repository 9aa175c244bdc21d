-- One chunk: its line, its bytes, and the line end after them.
use Rattle.std.proofs.Common.{◌≡◌, ◌<◌, ◌≤◌, ◌+◌, ℕ, Bool, true, false, not, ◌&&◌, cond, eqb, ltb, leb, List, [], ◌∷◌, ◌++◌, length, take, drop, Option, None, Some, refl, sym, ap, ap₂, ◌∙◌, arith, append_assoc, length-append, length-drop, length-take}
use Rattle.std.proofs.lemmas.Bool.{ltb-true, leb-true, ne_eqb, le-ltb, lt-ltb, and_parts}
use Rattle.std.proofs.lemmas.List.{take-append-le, drop-append-le}
use Rattle.std.proofs.lemmas.List.Folds.{prefix_len-append}
use Rattle.jm_edge.proofs.Known.{consumes_on}
use Rattle.mime_lines.specs.Lines.{text}
use Rattle.http_parts.specs.Bodies.{BodyInvalid, BodyTooLong, BodyUnfinished, Whole}
use Rattle.http_parts.specs.Chunks.{LineInvalid, LineUnfinished, Chunk, chunk_line, chunk_line_by, chunk_size, line_feed_at, EndInvalid, EndUnfinished, Ends, chunk_end, Settled, GoesOn, after_chunk, after_line, chunk_step, trailer}
use Rattle.http_parts.specs.Parts.{Took, Halts, Moves, HasLine, HasStep, counted_after}
use Rattle.http_parts.specs.declared.body_fault.BodyFault.{BodyFault}
use Rattle.http_parts.specs.declared.chunk_lines.ChunkHead.{ChunkHead}
use Rattle.http_parts.specs.declared.limits.TheConstants.{MAX_CHUNK_LINE_BYTES}
use Rattle.http_parts.proofs.ChunkLines.{line_there}
use Rattle.http_parts.proofs.Halted.{halts_as, halts_after}

-- ---- what has come stays, whatever bytes follow

feed_more : (xs ys : List ℕ) → line_feed_at xs < length xs → line_feed_at (xs ++ ys) ≡ line_feed_at xs
feed_more xs ys low =
    let apart : eqb (line_feed_at xs) (length xs) ≡ false = ne_eqb (line_feed_at xs) (length xs) (λ e. omega (arith, low, e)) in
    prefix_len-append (λ (b : ℕ). not (eqb b 10)) xs ys ∙ ap (λ (t : Bool). cond t (length xs + line_feed_at ys) (line_feed_at xs)) apart

by_more : (o : Option ℕ) (rest : List ℕ) (size : ℕ) (r ys : List ℕ) → chunk_line_by o rest ≡ Chunk size r → chunk_line_by o (rest ++ ys) ≡ Chunk size (r ++ ys)
by_more None rest size r ys h = absurd (cc h)
by_more (Some n) rest size r ys h =
    let p : n ≡ size = cc h in
    let q : rest ≡ r = cc h in
    ap₂ (λ (k : ℕ) (z : List ℕ). Chunk k (z ++ ys)) p q

line_more_by : (xs ys : List ℕ) (size : ℕ) (rest : List ℕ) (v w : Bool) → (ltb (line_feed_at xs) (length xs) && leb (line_feed_at xs + 1) MAX_CHUNK_LINE_BYTES) ≡ v → leb MAX_CHUNK_LINE_BYTES (length xs) ≡ w
    → chunk_line xs ≡ Chunk size rest → chunk_line (xs ++ ys) ≡ Chunk size (rest ++ ys)
line_more_by xs ys size rest true w e f h =
    let i = line_feed_at xs in
    let o = chunk_size (text (take (i + 1) xs)) in
    let p = and_parts (ltb i (length xs)) (leb (i + 1) MAX_CHUNK_LINE_BYTES) e in
    let low : i < length xs = ltb-true i (length xs) p.0 in
    let most : i + 1 ≤ MAX_CHUNK_LINE_BYTES = leb-true (i + 1) MAX_CHUNK_LINE_BYTES p.1 in
    let said : chunk_line_by o (drop (i + 1) xs) ≡ Chunk size rest = rw e at h in
    line_there (xs ++ ys) i o (feed_more xs ys low) (omega (arith, low, length-append xs ys)) (omega (arith, most))
    (ap (λ (z : List ℕ). chunk_size (text z)) (take-append-le (i + 1) xs ys (omega (arith, low))))
    ∙ ap (chunk_line_by o) (drop-append-le (i + 1) xs ys (omega (arith, low)))
    ∙ by_more o (drop (i + 1) xs) size rest ys said
line_more_by xs ys size rest false true e f h =
    let k : LineInvalid ≡ Chunk size rest = rw (e, f) at h in absurd (cc k)
line_more_by xs ys size rest false false e f h =
    let k : LineUnfinished ≡ Chunk size rest = rw (e, f) at h in absurd (cc k)

line_more : (xs ys : List ℕ) (size : ℕ) (rest : List ℕ) → chunk_line xs ≡ Chunk size rest → chunk_line (xs ++ ys) ≡ Chunk size (rest ++ ys)
line_more xs ys size rest h =
    line_more_by xs ys size rest (ltb (line_feed_at xs) (length xs) && leb (line_feed_at xs + 1) MAX_CHUNK_LINE_BYTES) (leb MAX_CHUNK_LINE_BYTES (length xs)) refl refl h

end_one : (v : Bool) (rest : List ℕ) → cond v EndUnfinished EndInvalid ≡ Ends rest → ⊥
end_one true rest h = cc h
end_one false rest h = cc h

end_two : (v : Bool) (zs ys rest : List ℕ) → cond v (Ends zs) EndInvalid ≡ Ends rest → cond v (Ends (zs ++ ys)) EndInvalid ≡ Ends (rest ++ ys)
end_two true zs ys rest h = let p : zs ≡ rest = cc h in ap (λ (z : List ℕ). Ends (z ++ ys)) p
end_two false zs ys rest h = absurd (cc h)

end_more : (xs ys rest : List ℕ) → chunk_end xs ≡ Ends rest → chunk_end (xs ++ ys) ≡ Ends (rest ++ ys)
end_more [] ys rest h = absurd (cc h)
end_more (b ∷ []) ys rest h = absurd (end_one (eqb b 13) rest h)
end_more (b ∷ c ∷ zs) ys rest h = end_two (eqb b 13 && eqb c 10) zs ys rest h

-- ---- a step, from its parts

after_whole : (limit : ℕ) (body : List ℕ) (size : ℕ) (m w : List ℕ) → (size ≡ 0 → ⊥) → length body + size ≤ limit → size ≤ length m
    → after_line limit body (Chunk size (m ++ w)) ≡ after_chunk (body ++ take size m) (chunk_end (drop size m ++ w))
after_whole limit body size m w some fits has =
    rw (ne_eqb size 0 some, le-ltb limit (length body + size) fits, le-ltb (length (m ++ w)) size (omega (arith, has, length-append m w)), take-append-le size m w has, drop-append-le size m w has) refl

after_over : (limit : ℕ) (body : List ℕ) (size : ℕ) (rest : List ℕ) → (size ≡ 0 → ⊥) → limit < length body + size → after_line limit body (Chunk size rest) ≡ Settled BodyTooLong
after_over limit body size rest some over = rw (ne_eqb size 0 some, lt-ltb limit (length body + size) over) refl

after_cut : (limit : ℕ) (body : List ℕ) (size : ℕ) (rest : List ℕ) → (size ≡ 0 → ⊥) → length body + size ≤ limit → length rest < size
    → after_line limit body (Chunk size rest) ≡ Settled BodyUnfinished
after_cut limit body size rest some fits few =
    rw (ne_eqb size 0 some, le-ltb limit (length body + size) fits, lt-ltb (length rest) size few) refl

-- the step after a line, with what was read after it
step_after : (limit : ℕ) (body old mid t u : List ℕ) (size : ℕ) → chunk_line (old ++ t) ≡ Chunk size mid → chunk_step limit body (old ++ (t ++ u)) ≡ after_line limit body (Chunk size (mid ++ u))
step_after limit body old mid t u size said =
    ap (chunk_step limit body) (sym (append_assoc old t u)) ∙ ap (after_line limit body) (line_more (old ++ t) u size mid said)

step_last : (limit : ℕ) (body old mid t u : List ℕ) (size : ℕ) → chunk_line (old ++ t) ≡ Chunk size mid → size ≡ 0
    → chunk_step limit body (old ++ (t ++ u)) ≡ Settled (trailer body (mid ++ u))
step_last limit body old mid t u size said none =
    step_after limit body old mid t u size said ∙ ap (λ (k : ℕ). after_line limit body (Chunk k (mid ++ u))) none

step_at_end : (limit : ℕ) (body next old mid low t u v : List ℕ) (size : ℕ) → chunk_line (old ++ t) ≡ Chunk size mid → (size ≡ 0 → ⊥) → length body + size ≤ limit
    → Moves size body next mid low u → chunk_step limit body (old ++ (t ++ (u ++ v))) ≡ after_chunk next (chunk_end (low ++ v))
step_at_end limit body next old mid low t u v size said some fits m =
    step_after limit body old mid t (u ++ v) size said
    ∙ ap (λ (z : List ℕ). after_line limit body (Chunk size z)) (sym (append_assoc mid u v))
    ∙ after_whole limit body size (mid ++ u) v some fits m.0
    ∙ ap₂ (λ (y z : List ℕ). after_chunk y (chunk_end (z ++ v))) (sym m.1) (sym m.2)

step_more : (limit : ℕ) (body next old mid low new t u v : List ℕ) (size : ℕ) → chunk_line (old ++ t) ≡ Chunk size mid → (size ≡ 0 → ⊥) → length body + size ≤ limit
    → Moves size body next mid low u → chunk_end (low ++ v) ≡ Ends new → (after : List ℕ) → chunk_step limit body ((old ++ (t ++ (u ++ v))) ++ after) ≡ GoesOn next (new ++ after)
step_more limit body next old mid low new t u v size said some fits m ended after =
    ap (chunk_step limit body)
    (append_assoc old (t ++ (u ++ v)) after ∙ ap (λ (z : List ℕ). old ++ z) (append_assoc t (u ++ v) after ∙ ap (λ (z : List ℕ). t ++ z) (append_assoc u v after)))
    ∙ step_at_end limit body next old mid low t u (v ++ after) size said some fits m
    ∙ ap (λ (z : List ℕ). after_chunk next (chunk_end z)) (sym (append_assoc low v after))
    ∙ ap (after_chunk next) (end_more (low ++ v) after new ended)

-- ---- what the reading of a chunk comes to

pub has_chunk : (limit : ℕ) (body next old mid low new : List ℕ) (head : ChunkHead) (a b c d : Option (List ℕ)) → Took a b (HasLine old mid head) → (head.size ≡ 0 → ⊥)
    → length body + head.size ≤ limit → Took b c (Moves head.size body next mid low) → Took c d (λ v. (chunk_end (low ++ v) ≡ Ends new) × (2 + length new ≡ length (low ++ v)))
    → Took a d (HasStep limit body next old new (Some (head.bytes + head.size + 2)))
has_chunk limit body next old mid low new head a b c d l some fits m e =
    let t = l.0 in
    let u = m.0 in
    let v = e.0 in
    let grown : length next ≡ length body + head.size =
    omega (arith, ap length m.2.1, length-append body (take head.size (mid ++ u)), length-take {A = ℕ}, m.2.0) in (
      t ++ (u ++ v),
      consumes_on a b d t (u ++ v) l.1 (consumes_on b c d u v m.1 e.1),
      (
        step_more limit body next old mid low new t u v head.size l.2.0 some fits m.2 e.2.0,
        omega (arith, l.2.1, m.2.0, ap length m.2.2, e.2.1, length-drop {A = ℕ}, length-append old t, length-append old (t ++ (u ++ v)), length-append t (u ++ v), length-append u v, length-append mid u, length-append low v),
        omega (arith, grown, some),
        omega (arith, grown, fits),
        omega (arith, grown, l.2.2),
      ),
    )

pub has_last : (limit : ℕ) (body old mid new : List ℕ) (head : ChunkHead) (a b c : Option (List ℕ)) → Took a b (HasLine old mid head) → head.size ≡ 0
    → Took b c (λ u. (body : List ℕ) → trailer body (mid ++ u) ≡ Whole body new) → Took a c (HasStep limit body body old new None)
has_last limit body old mid new head a b c l none e = (
  l.0 ++ e.0,
  consumes_on a b c l.0 e.0 l.1 e.1,
  step_last limit body old mid l.0 e.0 head.size l.2.0 none ∙ ap Settled (e.2 body),
)

-- that a chunk is not read, and why
abbrev pub StepFault : ℕ → (body old : List ℕ) → BodyFault → Option (List ℕ) → Option (List ℕ) → ℕ → ℕ → Type 0
StepFault limit body old e a b r s =
    Took a b (λ t. Halts e (chunk_step limit body (old ++ t) ≡ Settled BodyInvalid) (chunk_step limit body (old ++ t) ≡ Settled BodyTooLong) (chunk_step limit body (old ++ t) ≡ Settled BodyUnfinished) (length (old ++ t)) b r s)

pub fault_in_line : (limit : ℕ) (body old : List ℕ) (e : BodyFault) (a b : Option (List ℕ)) (r s : ℕ)
    → Took a b (λ t. Halts e (chunk_line (old ++ t) ≡ LineInvalid) ⊥ (chunk_line (old ++ t) ≡ LineUnfinished) (length (old ++ t)) b r s) → StepFault limit body old e a b r s
fault_in_line limit body old e a b r s k =
    (k.0, k.1, halts_as e _ _ _ _ _ _ _ _ b r r s (λ h. ap (after_line limit body) h) (λ h. absurd h) (λ h. ap (after_line limit body) h) refl (omega arith) k.2)

pub fault_in_trailer : (limit : ℕ) (body old mid : List ℕ) (head : ChunkHead) (e : BodyFault) (a b c : Option (List ℕ)) (r q s : ℕ) → Took a b (HasLine old mid head) → head.size ≡ 0 → r ≤ q
    → Took b c (λ u. Halts e (trailer body (mid ++ u) ≡ BodyInvalid) ⊥ (trailer body (mid ++ u) ≡ BodyUnfinished) (length (mid ++ u)) c q s)
    → StepFault limit body old (counted_after head.bytes e) a c r s
fault_in_trailer limit body old mid head e a b c r q s l none low k =
    let t = l.0 in
    let u = k.0 in
    let step = step_last limit body old mid t u head.size l.2.0 none in (
      t ++ u,
      consumes_on a b c t u l.1 k.1,
      halts_after e _ _ _ _ _ _ head.bytes (length (mid ++ u)) (length (old ++ (t ++ u))) c r q s (λ h. step ∙ ap Settled h) (λ h. absurd h) (λ h. step ∙ ap Settled h)
          (omega (arith, l.2.1, length-append old t, length-append old (t ++ u), length-append t u, length-append mid u)) low k.2,
    )

pub fault_over : (limit : ℕ) (body old mid : List ℕ) (head : ChunkHead) (a b : Option (List ℕ)) → Took a b (HasLine old mid head) → (head.size ≡ 0 → ⊥) → limit < length body + head.size
    → Took a b (λ t. chunk_step limit body (old ++ t) ≡ Settled BodyTooLong)
fault_over limit body old mid head a b l some over =
    (l.0, l.1, ap (after_line limit body) l.2.0 ∙ after_over limit body head.size mid some over)

pub fault_in_bytes : (limit : ℕ) (body old mid : List ℕ) (head : ChunkHead) (e : BodyFault) (a b c : Option (List ℕ)) (r q s : ℕ) → Took a b (HasLine old mid head) → (head.size ≡ 0 → ⊥)
    → length body + head.size ≤ limit → r ≤ q → Took b c (λ u. Halts e ⊥ ⊥ (length (mid ++ u) < head.size) (length (mid ++ u)) c q s)
    → StepFault limit body old (counted_after head.bytes e) a c r s
fault_in_bytes limit body old mid head e a b c r q s l some fits low k =
    let t = l.0 in
    let u = k.0 in (
      t ++ u,
      consumes_on a b c t u l.1 k.1,
      halts_after e _ _ _ _ _ _ head.bytes (length (mid ++ u)) (length (old ++ (t ++ u))) c r q s (λ h. absurd h) (λ h. absurd h)
          (λ h. step_after limit body old mid t u head.size l.2.0 ∙ after_cut limit body head.size (mid ++ u) some fits h)
          (omega (arith, l.2.1, length-append old t, length-append old (t ++ u), length-append t u, length-append mid u)) low k.2,
    )

pub fault_in_end : (limit : ℕ) (body next old mid below : List ℕ) (head : ChunkHead) (e : BodyFault) (a b c d : Option (List ℕ)) (r q s : ℕ) → Took a b (HasLine old mid head) → (head.size ≡ 0 → ⊥)
    → length body + head.size ≤ limit → Took b c (Moves head.size body next mid below) → r ≤ q
    → Took c d (λ v. Halts e (chunk_end (below ++ v) ≡ EndInvalid) ⊥ (chunk_end (below ++ v) ≡ EndUnfinished) (length (below ++ v)) d q s)
    → StepFault limit body old (counted_after (head.bytes + head.size) e) a d r s
fault_in_end limit body next old mid below head e a b c d r q s l some fits m low k =
    let t = l.0 in
    let u = m.0 in
    let v = k.0 in
    let step = step_at_end limit body next old mid below t u v head.size l.2.0 some fits m.2 in (
      t ++ (u ++ v),
      consumes_on a b d t (u ++ v) l.1 (consumes_on b c d u v m.1 k.1),
      halts_after e _ _ _ _ _ _ (head.bytes + head.size) (length (below ++ v)) (length (old ++ (t ++ (u ++ v)))) d r q s (λ h. step ∙ ap (after_chunk next) h) (λ h. absurd h) (λ h. step ∙ ap (after_chunk next) h)
          (omega (arith, l.2.1, m.2.0, ap length m.2.2, length-drop {A = ℕ}, length-append old t, length-append old (t ++ (u ++ v)), length-append t (u ++ v), length-append u v, length-append mid u, length-append below v)) low k.2,
    )
