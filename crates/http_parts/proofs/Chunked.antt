-- A body in chunks, chunk by chunk, whatever bytes follow.
use Rattle.std.proofs.Common.{◌≡◌, ◌<◌, ◌≤◌, ◌+◌, ℕ, zero, suc, Bool, true, false, ◌&&◌, cond, eqb, ltb, leb, List, [], ◌∷◌, ◌++◌, length, take, drop, Option, None, Some, refl, sym, ap, ◌∙◌, subst, arith, append_assoc, append-nil, length-append, length-drop, add-one}
use Rattle.std.proofs.lemmas.Bool.{cond_both}
use Rattle.jm_edge.proofs.Known.{consumes_on, consumes_none}
use Rattle.mime_lines.specs.Lines.{text}
use Rattle.http_parts.specs.Bodies.{Body, BodyInvalid, BodyTooLong, BodyUnfinished, Whole}
use Rattle.http_parts.specs.Chunks.{ChunkLine, LineInvalid, LineUnfinished, Chunk, chunk_line, chunk_line_by, chunk_size, line_feed_at, ChunkEnd, EndInvalid, EndUnfinished, Ends, chunk_end, ChunkStep, Settled, GoesOn, after_chunk, after_line, chunk_step, body_by, chunks, chunked_body, trailer}
use Rattle.http_parts.specs.Parts.{Took, Halts, HasStep, counted_after}
use Rattle.http_parts.specs.declared.body_fault.BodyFault.{BodyFault}
use Rattle.http_parts.specs.declared.limits.TheConstants.{MAX_CHUNK_LINE_BYTES}
use Rattle.http_parts.proofs.Halted.{halts_after}

-- ---- what is left after a step is shorter

abbrev rest_of : ChunkLine → List ℕ
rest_of LineInvalid = []
rest_of LineUnfinished = []
rest_of (Chunk size rest) = rest

abbrev end_rest : ChunkEnd → List ℕ
end_rest EndInvalid = []
end_rest EndUnfinished = []
end_rest (Ends rest) = rest

abbrev rest_in : ChunkStep → List ℕ
rest_in (Settled body) = []
rest_in (GoesOn body rest) = rest

end_shorter : (bytes : List ℕ) → length (end_rest (chunk_end bytes)) ≤ length bytes
end_shorter [] = omega arith
end_shorter (b ∷ []) =
    cond_both (eqb b 13) EndUnfinished EndInvalid (λ (z : ChunkEnd). length (end_rest z) ≤ length (b ∷ [])) (λ h. omega arith) (λ h. omega arith)
end_shorter (b ∷ c ∷ rest) =
    cond_both (eqb b 13 && eqb c 10) (Ends rest) EndInvalid (λ (z : ChunkEnd). length (end_rest z) ≤ length (b ∷ c ∷ rest)) (λ h. omega arith) (λ h. omega arith)

line_by : (v w : Bool) (o : Option ℕ) (rest : List ℕ) (n : ℕ) → 0 < n → length rest < n → length (rest_of (cond v (chunk_line_by o rest) (cond w LineInvalid LineUnfinished))) < n
line_by true w None rest n some low = some
line_by true w (Some size) rest n some low = low
line_by false true o rest n some low = some
line_by false false o rest n some low = some

line_shorter : (bytes : List ℕ) → 0 < length bytes → length (rest_of (chunk_line bytes)) < length bytes
line_shorter bytes some =
    line_by (ltb (line_feed_at bytes) (length bytes) && leb (line_feed_at bytes + 1) MAX_CHUNK_LINE_BYTES) (leb MAX_CHUNK_LINE_BYTES (length bytes)) (chunk_size (text (take (line_feed_at bytes + 1) bytes))) (drop (line_feed_at bytes + 1) bytes) (length bytes) some
    (omega (arith, some, length-drop {A = ℕ}))

after_by : (u v w : Bool) (x : Body) (y : List ℕ) (e : ChunkEnd) (n : ℕ) → 0 < n → length (end_rest e) < n
    → length (rest_in (cond u (Settled x) (cond v (Settled BodyTooLong) (cond w (Settled BodyUnfinished) (after_chunk y e))))) < n
after_by true v w x y e n some low = some
after_by false true w x y e n some low = some
after_by false false true x y e n some low = some
after_by false false false x y EndInvalid n some low = some
after_by false false false x y EndUnfinished n some low = some
after_by false false false x y (Ends rest) n some low = low

after_shorter : (limit : ℕ) (body : List ℕ) (l : ChunkLine) (n : ℕ) → 0 < n → length (rest_of l) < n → length (rest_in (after_line limit body l)) < n
after_shorter limit body LineInvalid n some low = some
after_shorter limit body LineUnfinished n some low = some
after_shorter limit body (Chunk size rest) n some low =
    after_by (eqb size 0) (ltb limit (length body + size)) (ltb (length rest) size) (trailer body rest) (body ++ take size rest) (chunk_end (drop size rest)) n some
    (omega (arith, low, end_shorter (drop size rest), length-drop {A = ℕ}))

step_shorter : (limit : ℕ) (body bytes : List ℕ) → 0 < length bytes → length (rest_in (chunk_step limit body bytes)) < length bytes
step_shorter limit body bytes some =
    after_shorter limit body (chunk_line bytes) (length bytes) some (line_shorter bytes some)

step_within : (limit : ℕ) (body bytes : List ℕ) → length (rest_in (chunk_step limit body bytes)) ≤ length bytes
step_within limit body [] = omega arith
step_within limit body (b ∷ bytes) = omega (arith, step_shorter limit body (b ∷ bytes) (omega arith))

-- ---- as many steps as there are bytes are enough

by_step : (f g : List ℕ → List ℕ → Body) (step : ChunkStep) → ((body : List ℕ) → f body (rest_in step) ≡ g body (rest_in step)) → body_by f step ≡ body_by g step
by_step f g (Settled body) h = refl
by_step f g (GoesOn body rest) h = h body

enough : (n m limit : ℕ) (body bytes : List ℕ) → length bytes ≤ n → length bytes ≤ m → chunks n limit body bytes ≡ chunks m limit body bytes
enough zero zero limit body bytes a b = refl
enough zero (suc m) limit body [] a b = refl
enough zero (suc m) limit body (x ∷ bytes) a b = absurd (omega (arith, a))
enough (suc n) zero limit body [] a b = refl
enough (suc n) zero limit body (x ∷ bytes) a b = absurd (omega (arith, b))
enough (suc n) (suc m) limit body [] a b = refl
enough (suc n) (suc m) limit body (x ∷ bytes) a b =
    let less = step_shorter limit body (x ∷ bytes) (omega arith) in
    by_step (chunks n limit) (chunks m limit) (chunk_step limit body (x ∷ bytes))
    (λ next. enough n m limit next (rest_in (chunk_step limit body (x ∷ bytes))) (omega (arith, less, a)) (omega (arith, less, b)))

-- the body of which these bytes are read, and whose next chunk begins the others
abbrev pub onward : ℕ → List ℕ → List ℕ → Body
onward limit body bytes = chunks (length bytes + 1) limit body bytes

onward_step : (limit : ℕ) (body bytes : List ℕ) → onward limit body bytes ≡ body_by (chunks (length bytes) limit) (chunk_step limit body bytes)
onward_step limit body bytes = ap (λ (n : ℕ). chunks n limit body bytes) (add-one (length bytes))

pub onward_on : (limit : ℕ) (body bytes next rest : List ℕ) → chunk_step limit body bytes ≡ GoesOn next rest → onward limit body bytes ≡ onward limit next rest
onward_on limit body bytes next rest is =
    let within : length rest ≤ length bytes = subst (λ (z : ChunkStep). length (rest_in z) ≤ length bytes) is (step_within limit body bytes) in
    onward_step limit body bytes ∙ ap (body_by (chunks (length bytes) limit)) is
    ∙ enough (length bytes) (length rest + 1) limit next rest within (omega arith)

pub onward_settled : (limit : ℕ) (body bytes : List ℕ) (end : Body) → chunk_step limit body bytes ≡ Settled end → onward limit body bytes ≡ end
onward_settled limit body bytes end is =
    onward_step limit body bytes ∙ ap (body_by (chunks (length bytes) limit)) is

-- ---- the loop over chunks

-- After what was taken of the link, the body continues from here, whatever bytes follow; so many bytes are
-- passed.
abbrev pub Follows : ℕ → (old body bytes : List ℕ) → ℕ → Option (List ℕ) → Option (List ℕ) → Type 0
Follows limit old body bytes passed a b =
    Took a b (λ t.
    ((after : List ℕ) → chunked_body limit ((old ++ t) ++ after) ≡ onward limit body (bytes ++ after))
    × (passed + length bytes ≡ length (old ++ t)))

pub follows_first : (limit : ℕ) (old : List ℕ) (a : Option (List ℕ)) → Follows limit old [] old 0 a a
follows_first limit old a = (
  [],
  consumes_none a,
  (λ after. ap (λ (z : List ℕ). chunked_body limit (z ++ after)) (append-nil old), omega (arith, ap length (append-nil old))),
)

-- one more chunk, or the last one
pub as_more : (limit : ℕ) (body next bytes new : List ℕ) (o : Option ℕ) (count : ℕ) (a b : Option (List ℕ)) → o ≡ Some count → Took a b (HasStep limit body next bytes new o)
    → Took a b (HasStep limit body next bytes new (Some count))
as_more limit body next bytes new o count a b is k =
    (k.0, k.1, subst (λ (z : Option ℕ). HasStep limit body next bytes new z k.0) is k.2)

pub as_last : (limit : ℕ) (body next bytes new : List ℕ) (o : Option ℕ) (a b : Option (List ℕ)) → o ≡ None → Took a b (HasStep limit body next bytes new o)
    → Took a b (HasStep limit body next bytes new None)
as_last limit body next bytes new o a b is k =
    (k.0, k.1, subst (λ (z : Option ℕ). HasStep limit body next bytes new z k.0) is k.2)

pub follows_on : (limit : ℕ) (old body next bytes new : List ℕ) (passed count : ℕ) (a b c : Option (List ℕ)) → Follows limit old body bytes passed a b
    → Took b c (HasStep limit body next bytes new (Some count)) → Follows limit old next new (passed + count) a c
follows_on limit old body next bytes new passed count a b c f k =
    let t = f.0 in
    let u = k.0 in (
      t ++ u,
      consumes_on a b c t u f.1 k.1,
      (
        λ after.
            ap (λ (z : List ℕ). chunked_body limit (z ++ after)) (sym (append_assoc old t u))
            ∙ ap (chunked_body limit) (append_assoc (old ++ t) u after)
            ∙ f.2.0 (u ++ after)
            ∙ ap (onward limit body) (sym (append_assoc bytes u after))
            ∙ onward_on limit body ((bytes ++ u) ++ after) next (new ++ after) (k.2.0 after),
        omega (arith, f.2.1, k.2.1, length-append old t, length-append old (t ++ u), length-append t u, length-append bytes u),
      ),
    )

pub follows_end : (limit : ℕ) (old body next bytes new : List ℕ) (passed : ℕ) (a b c : Option (List ℕ)) → Follows limit old body bytes passed a b
    → Took b c (HasStep limit body next bytes new None) → Took a c (λ t. chunked_body limit (old ++ t) ≡ Whole next new)
follows_end limit old body next bytes new passed a b c f k =
    let t = f.0 in
    let u = k.0 in (
      t ++ u,
      consumes_on a b c t u f.1 k.1,
      ap (chunked_body limit) (sym (append_assoc old t u)) ∙ f.2.0 u ∙ onward_settled limit body (bytes ++ u) (Whole next new) k.2,
    )

pub follows_fault : (limit : ℕ) (old body bytes : List ℕ) (passed : ℕ) (a b c : Option (List ℕ)) (r q s : ℕ) (e : BodyFault) → Follows limit old body bytes passed a b → r ≤ q
    → Took b c (λ t. Halts e (chunk_step limit body (bytes ++ t) ≡ Settled BodyInvalid) (chunk_step limit body (bytes ++ t) ≡ Settled BodyTooLong) (chunk_step limit body (bytes ++ t) ≡ Settled BodyUnfinished) (length (bytes ++ t)) c q s)
    → Took a c (λ t. Halts (counted_after passed e) (chunked_body limit (old ++ t) ≡ BodyInvalid) (chunked_body limit (old ++ t) ≡ BodyTooLong) (chunked_body limit (old ++ t) ≡ BodyUnfinished) (length (old ++ t)) c r s)
follows_fault limit old body bytes passed a b c r q s e f low k =
    let t = f.0 in
    let u = k.0 in
    let seen : chunked_body limit (old ++ (t ++ u)) ≡ onward limit body (bytes ++ u) = ap (chunked_body limit) (sym (append_assoc old t u)) ∙ f.2.0 u in (
      t ++ u,
      consumes_on a b c t u f.1 k.1,
      halts_after e _ _ _ _ _ _ passed (length (bytes ++ u)) (length (old ++ (t ++ u))) c r q s
          (λ h. seen ∙ onward_settled limit body (bytes ++ u) BodyInvalid h)
          (λ h. seen ∙ onward_settled limit body (bytes ++ u) BodyTooLong h)
          (λ h. seen ∙ onward_settled limit body (bytes ++ u) BodyUnfinished h)
          (omega (arith, f.2.1, length-append old t, length-append old (t ++ u), length-append t u, length-append bytes u)) low k.2,
    )
