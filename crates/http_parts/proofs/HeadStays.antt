-- A complete head stays, whatever bytes follow.
use Rattle.std.proofs.Common.{◌≡◌, ◌≤◌, ◌+◌, ℕ, Bool, true, false, ◌&&◌, ◌||◌, cond, eqb, ltb, leb, List, [], ◌∷◌, ◌++◌, length, take, drop, Option, None, Some, option_map, refl, sym, ap, ap₂, ◌∙◌, subst, arith, length-drop}
use Rattle.std.specs.Bool.{⊤}
use Rattle.std.proofs.lemmas.List.{take-append-le, drop-append-le}
use Rattle.std.specs.List.{onto_first}
use Rattle.std.specs.Option.{is_some}
use Rattle.mime_lines.specs.Lines.{lines, is_line_end}
use Rattle.mime_lines.proofs.SpanFacts.{size, size_lines}
use Rattle.http_parts.specs.Heads.{HeadTooLong, Unfinished, Head, beginning_of, beginning_by, empty_bytes, after_empty, head_size, one_line_more}
use Rattle.http_parts.specs.declared.heads.HeadSize.{HeadSize}
use Rattle.http_parts.specs.declared.limits.TheConstants.{MAX_HEAD_BYTES, MAX_HEAD_FIELDS}

-- the second lines are the first ones and others, except that the last of the first ones may continue if it
-- is no empty line
abbrev pub Goes : List (List ℕ) → List (List ℕ) → Type 0
Goes [] ms = ⊤
Goes (l ∷ []) ms = is_line_end l ≡ true → (more : List (List ℕ)) × (ms ≡ l ∷ more)
Goes (l ∷ m ∷ ls) ms = (more : List (List ℕ)) × (ms ≡ l ∷ more) × Goes (m ∷ ls) more

shorter_end : (b : ℕ) (l : List ℕ) → eqb b 10 ≡ false → is_line_end (b ∷ l) ≡ true → is_line_end l ≡ true
shorter_end b [] h k = absurd (cc (sym h ∙ k))
shorter_end b (c ∷ []) h k = by (eqb b 13) (eqb c 10) k
  where
    by : (v w : Bool) → (v && w) ≡ true → w ≡ true
    by true w e = e
    by false w e = absurd (cc e)
shorter_end b (c ∷ d ∷ l) h k = absurd (cc k)

goes_plain : (b : ℕ) (ls ms : List (List ℕ)) → eqb b 10 ≡ false → Goes ls ms → Goes (onto_first b ls) (onto_first b ms)
goes_plain b [] ms h g = λ k. absurd (cc (sym h ∙ k))
goes_plain b (l ∷ []) ms h g =
    λ k. let m = g (shorter_end b l h k) in (m.0, ap (onto_first b) m.1)
goes_plain b (l ∷ m ∷ ls) ms h g = (g.0, ap (onto_first b) g.1, g.2)

goes_ended : (b : ℕ) (ls ms : List (List ℕ)) → Goes ls ms → Goes ((b ∷ []) ∷ ls) ((b ∷ []) ∷ ms)
goes_ended b [] ms g = λ k. (ms, refl)
goes_ended b (l ∷ ls) ms g = (ms, refl, g)

goes_by : (b : ℕ) (ls ms : List (List ℕ)) (v : Bool) → eqb b 10 ≡ v → Goes ls ms → Goes (cond v ((b ∷ []) ∷ ls) (onto_first b ls)) (cond v ((b ∷ []) ∷ ms) (onto_first b ms))
goes_by b ls ms true h g = goes_ended b ls ms g
goes_by b ls ms false h g = goes_plain b ls ms h g

pub goes_on : (xs ys : List ℕ) → Goes (lines xs) (lines (xs ++ ys))
goes_on [] ys = tt
goes_on (b ∷ xs) ys = goes_by b (lines xs) (lines (xs ++ ys)) (eqb b 10) refl (goes_on xs ys)

some_map : (k : ℕ) (o : Option HeadSize) → is_some (option_map (one_line_more k) o) ≡ true → is_some o ≡ true
some_map k None h = absurd (cc h)
some_map k (Some s) h = refl

head_two : (l : List ℕ) (ls ms more : List (List ℕ)) (v : Bool) → is_line_end l ≡ v → ms ≡ l ∷ more → (is_some (head_size ls) ≡ true → head_size more ≡ head_size ls)
    → is_some (cond v (Some (record { bytes = length l; lines = 0 })) (option_map (one_line_more (length l)) (head_size ls))) ≡ true → head_size ms ≡ head_size (l ∷ ls)
head_two l ls ms more true e is same k = ap head_size is ∙ (rw e refl)
head_two l ls ms more false e is same k =
    ap head_size is
    ∙ ap (λ (o : Option HeadSize). cond (is_line_end l) (Some (record { bytes = length l; lines = 0 })) (option_map (one_line_more (length l)) o)) (same (some_map (length l) (head_size ls) k))

head_one : (l : List ℕ) (ms : List (List ℕ)) (v : Bool) → is_line_end l ≡ v → (is_line_end l ≡ true → (more : List (List ℕ)) × (ms ≡ l ∷ more))
    → is_some {T = HeadSize} (cond v (Some (record { bytes = length l; lines = 0 })) None) ≡ true → head_size ms ≡ head_size (l ∷ [])
head_one l ms true e g k = let m = g e in ap head_size m.1 ∙ (rw e refl)
head_one l ms false e g k = absurd (cc k)

pub head_same : (ls ms : List (List ℕ)) → Goes ls ms → is_some (head_size ls) ≡ true → head_size ms ≡ head_size ls
head_same [] ms g h = absurd (cc h)
head_same (l ∷ []) ms g h = head_one l ms (is_line_end l) refl g h
head_same (l ∷ m ∷ ls) ms g h =
    head_two l (m ∷ ls) ms g.0 (is_line_end l) refl g.1 (λ k. head_same (m ∷ ls) g.0 g.2 k) h

-- as many bytes of empty lines, and the same head after them
abbrev IsSame : List (List ℕ) → List (List ℕ) → Type 0
IsSame ms ls = (empty_bytes ms ≡ empty_bytes ls) × (head_size (after_empty ms) ≡ head_size (after_empty ls))

found_one : (l : List ℕ) (ms : List (List ℕ)) (v : Bool) → is_line_end l ≡ v → is_some (head_size (cond v [] (l ∷ []))) ≡ true → IsSame ms (l ∷ [])
found_one l ms true e k = absurd (cc k)
found_one l ms false e k =
    let k' : is_some (option_map (one_line_more (length l)) None) ≡ true = rw e at k in absurd (cc k')

found_two : (l : List ℕ) (ls ms more : List (List ℕ)) (v : Bool) → is_line_end l ≡ v → ms ≡ l ∷ more → (is_some (head_size (after_empty ls)) ≡ true → IsSame more ls)
    → (is_some (head_size (l ∷ ls)) ≡ true → head_size ms ≡ head_size (l ∷ ls)) → is_some (head_size (cond v (after_empty ls) (l ∷ ls))) ≡ true → IsSame (l ∷ more) (l ∷ ls)
found_two l ls ms more true e is next here k =
    let s = next k in rw e (ap (λ (n : ℕ). length l + n) s.0, s.1)
found_two l ls ms more false e is next here k =
    let h : head_size (l ∷ more) ≡ head_size (l ∷ ls) = ap head_size (sym is) ∙ here k in rw e (refl, h)

pub found_same : (ls ms : List (List ℕ)) → Goes ls ms → is_some (head_size (after_empty ls)) ≡ true → IsSame ms ls
found_same [] ms g h = absurd (cc h)
found_same (l ∷ []) ms g h = found_one l ms (is_line_end l) refl h
found_same (l ∷ m ∷ ls) ms g h =
    subst (λ (z : List (List ℕ)). IsSame z (l ∷ m ∷ ls)) (sym g.1)
    (found_two l (m ∷ ls) ms g.0 (is_line_end l) refl g.1 (λ k. found_same (m ∷ ls) g.0 g.2 k) (λ k. head_same (l ∷ m ∷ ls) ms g k) h)

-- ---- the head is within the bytes

abbrev pub bytes_of : Option HeadSize → ℕ
bytes_of None = 0
bytes_of (Some s) = s.bytes

bytes_more : (k n : ℕ) (o : Option HeadSize) → bytes_of o ≤ n → bytes_of (option_map (one_line_more k) o) ≤ k + n
bytes_more k n None low = omega arith
bytes_more k n (Some s) low = omega (arith, low)

size_by : (v : Bool) (l : List ℕ) (n : ℕ) (o : Option HeadSize) → bytes_of o ≤ n → bytes_of (cond v (Some (record { bytes = length l; lines = 0 })) (option_map (one_line_more (length l)) o)) ≤ length l + n
size_by true l n o low = omega arith
size_by false l n o low = bytes_more (length l) n o low

pub size_within : (ls : List (List ℕ)) → bytes_of (head_size ls) ≤ size ls
size_within [] = omega arith
size_within (l ∷ ls) = size_by (is_line_end l) l (size ls) (head_size ls) (size_within ls)

within_by : (l : List ℕ) (ls : List (List ℕ)) (v : Bool) → is_line_end l ≡ v → empty_bytes ls + bytes_of (head_size (after_empty ls)) ≤ size ls → bytes_of (head_size (l ∷ ls)) ≤ length l + size ls
    → empty_bytes (l ∷ ls) + bytes_of (head_size (after_empty (l ∷ ls))) ≤ length l + size ls
within_by l ls true e next here = rw e (omega (arith, next))
within_by l ls false e next here = let h = rw e at here in rw e (omega (arith, h))

pub head_within : (ls : List (List ℕ)) → empty_bytes ls + bytes_of (head_size (after_empty ls)) ≤ size ls
head_within [] = omega arith
head_within (l ∷ ls) = within_by l ls (is_line_end l) refl (head_within ls) (size_within (l ∷ ls))

-- ---- the beginning

stays_by : (xs ys : List ℕ) (empty : ℕ) (o : Option HeadSize) (head rest : List ℕ) → empty + bytes_of o ≤ length xs → beginning_by xs empty o ≡ Head head rest
    → (is_some o ≡ true) × (beginning_by (xs ++ ys) empty o ≡ Head head (rest ++ ys))
stays_by xs ys empty None head rest low h = absurd (none (leb MAX_HEAD_BYTES (length xs)) h)
  where
    none : (w : Bool) → cond w HeadTooLong Unfinished ≡ Head head rest → ⊥
    none true e = cc e
    none false e = cc e
stays_by xs ys empty (Some s) head rest low h =
    (refl, by (ltb MAX_HEAD_BYTES (empty + s.bytes) || ltb (1 + MAX_HEAD_FIELDS) s.lines) h)
  where
    by : (w : Bool) → cond w HeadTooLong (Head (take s.bytes (drop empty xs)) (drop (empty + s.bytes) xs)) ≡ Head head rest
        → cond w HeadTooLong (Head (take s.bytes (drop empty (xs ++ ys))) (drop (empty + s.bytes) (xs ++ ys))) ≡ Head head (rest ++ ys)
    by true e = absurd (cc e)
    by false e =
        let p : take s.bytes (drop empty xs) ≡ head = cc e in
        let q : drop (empty + s.bytes) xs ≡ rest = cc e in
        let front : take s.bytes (drop empty (xs ++ ys)) ≡ take s.bytes (drop empty xs) =
        ap (take s.bytes) (drop-append-le empty xs ys (omega (arith, low))) ∙ take-append-le s.bytes (drop empty xs) ys (omega (arith, low, length-drop {A = ℕ})) in
        ap₂ (λ (y z : List ℕ). Head y z) (front ∙ p) (drop-append-le (empty + s.bytes) xs ys low ∙ ap (λ (z : List ℕ). z ++ ys) q)

pub head_stays : (xs ys head rest : List ℕ) → beginning_of xs ≡ Head head rest → beginning_of (xs ++ ys) ≡ Head head (rest ++ ys)
head_stays xs ys head rest h =
    let low : empty_bytes (lines xs) + bytes_of (head_size (after_empty (lines xs))) ≤ length xs = omega (arith, head_within (lines xs), size_lines xs) in
    let k = stays_by xs ys (empty_bytes (lines xs)) (head_size (after_empty (lines xs))) head rest low h in
    let s = found_same (lines xs) (lines (xs ++ ys)) (goes_on xs ys) k.0 in
    ap₂ (λ (n : ℕ) (o : Option HeadSize). beginning_by (xs ++ ys) n o) s.0 s.1 ∙ k.1
