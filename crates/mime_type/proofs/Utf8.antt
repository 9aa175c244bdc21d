-- What the grammar takes from a text is text: it cuts at ASCII characters, and takes out whole ones.
use Rattle.std.proofs.Common.{◌≡◌, ℕ, zero, suc, ◌+◌, ◌<◌, ◌-◌, Bool, true, false, cond, eqb, leb, not, ◌&&◌, ◌||◌, ◌≤◌, List, [], ◌∷◌, ◌++◌, length, get_or, take, drop, Option, None, Some, refl, sym, ap, subst, ◌∙◌, inl, inr, arith, lit<, bytes_eq, length-append, append_assoc, eq-eqb}
use Rattle.std.specs.Str.{IsUtf8, IsAscii, IsCharBoundary}
use Rattle.std.proofs.lemmas.List.Sums.{prefix_len_stops, prefix_len-le-length}
use Rattle.std.specs.List.{prefix_len}
use Rattle.std.proofs.lemmas.Bool.{cases_eq, ne_eqb, true≢false, leb-true, leb-false, eqb-true}
use Rattle.std.proofs.lemmas.Option.{cond_some, none-some}
use Rattle.std.proofs.lemmas.List.{append-nil, take_at, drop_at, drop-drop}
use Rattle.std.proofs.lemmas.Str.{IsUtf8-append, IsUtf8-nil, IsUtf8-take, IsUtf8-drop, IsUtf8-from_ascii, IsCharBoundary-before_ascii, IsCharBoundary-after_ascii}
use Rattle.std.proofs.lemmas.Str.Ascii.{lowercase_ascii}
use Rattle.mail_text.specs.declared.comment.State.{State}
use Rattle.mail_text.specs.declared.comment.State.TheVariants.{Outside, Inside, Escaped}
use Rattle.mail_text.specs.Comments.{is_blank, next, gap_from}
use Rattle.mime_lines.specs.FieldOffsets.{lowered}
use Rattle.mime_codec.specs.Quoted.{is_between}
use Rattle.mime_type.specs.Characters.{is_token, is_special, is_bare, is_delimiter}
use Rattle.mime_type.specs.Grammar.{◌>>=◌, after_blanks, after_byte, after_mark, run_at, onto_value, quoted_from, value_at, Pair, param_at, Turn, ends, breaks, skips, gives, turn_of, slot_at, turn_from, turn_at, Params, by_turn, params_in, params_of, Kind, if_whole, type_at, disposition_at, first_named}
use Rattle.mime_type.specs.Labels.{without_open, without_close}
use Rattle.mime_type.specs.Texts.{AreTexts, IsText}

-- a text around one of its ASCII characters
at_seam : (xs ys : List ℕ) (b : ℕ) → get_or (xs ++ b ∷ ys) (length xs) 0 ≡ b
at_seam [] ys b = refl
at_seam (x ∷ xs) ys b = at_seam xs ys b

pub ascii_seam : (xs ys : List ℕ) (b : ℕ) → b < 128 → IsUtf8 (xs ++ b ∷ ys) → IsUtf8 xs × IsUtf8 ys
ascii_seam xs ys b low u =
    let inside : length xs < length (xs ++ b ∷ ys) = omega (arith, length-append xs (b ∷ ys)) in
    let small : get_or (xs ++ b ∷ ys) (length xs) 0 < 128 = rw (at_seam xs ys b) low in
    let front : take (length xs) (xs ++ b ∷ ys) ≡ xs = take_at xs (b ∷ ys) (length xs) refl in
    let back : drop (length xs + 1) (xs ++ b ∷ ys) ≡ ys = sym (drop-drop 1 (length xs) (xs ++ b ∷ ys)) ∙ ap (drop 1) (drop_at xs (b ∷ ys) (length xs) refl) in (
      rw front at (IsUtf8-take (xs ++ b ∷ ys) (length xs) u (IsCharBoundary-before_ascii (xs ++ b ∷ ys) (length xs) inside small)),
      rw back at (IsUtf8-drop (xs ++ b ∷ ys) (length xs + 1) u (IsCharBoundary-after_ascii (xs ++ b ∷ ys) (length xs) u inside small)),
    )

pub without_ascii : (xs ys : List ℕ) (b : ℕ) → b < 128 → IsUtf8 (xs ++ b ∷ ys) → IsUtf8 (xs ++ ys)
without_ascii xs ys b low u = let both = ascii_seam xs ys b low u in IsUtf8-append xs ys both.0 both.1

-- the text after its first character, an ASCII one
after_first : (b : ℕ) (bs : List ℕ) → b < 128 → IsUtf8 (b ∷ bs) → IsUtf8 bs
after_first b bs low u = (ascii_seam [] bs b low u).1

one_ascii : (b : ℕ) → b < 128 → IsAscii (b ∷ [])
one_ascii b low zero = low
one_ascii b low (suc i) = omega arith

before_ascii : (b : ℕ) (bs : List ℕ) → b < 128 → IsUtf8 bs → IsUtf8 (b ∷ bs)
before_ascii b bs low u = IsUtf8-append (b ∷ []) bs (IsUtf8-from_ascii (b ∷ []) (one_ascii b low)) u

-- ASCII alone
abbrev AllAscii : List ℕ → Type 0
AllAscii [] = Unit {0}
AllAscii (b ∷ bs) = (b < 128) × AllAscii bs

AllAscii-utf8 : (xs : List ℕ) → AllAscii xs → IsUtf8 xs
AllAscii-utf8 [] h = IsUtf8-nil
AllAscii-utf8 (x ∷ xs) h = before_ascii x xs h.0 (AllAscii-utf8 xs h.1)

AllAscii-append : (xs ys : List ℕ) → AllAscii xs → AllAscii ys → AllAscii (xs ++ ys)
AllAscii-append [] ys h k = k
AllAscii-append (x ∷ xs) ys h k = (h.0, AllAscii-append xs ys h.1 k)

AllAscii-lowered : (xs : List ℕ) → AllAscii xs → AllAscii (lowered xs)
AllAscii-lowered [] h = tt
AllAscii-lowered (x ∷ xs) h = (lowercase_ascii x h.0, AllAscii-lowered xs h.1)

-- the classes are ASCII
and_first : (p q : Bool) → (p && q) ≡ true → p ≡ true
and_first true q h = refl
and_first false q h = h

and_second : (p q : Bool) → (p && q) ≡ true → q ≡ true
and_second true q h = h
and_second false q h = absurd (true≢false (sym h))

between_small : (b : ℕ) (q : Bool) → (is_between 33 126 b && q) ≡ true → b < 128
between_small b q h = omega (arith, leb-true b 126 (and_second (leb 33 b) (leb b 126) (and_first (is_between 33 126 b) q h)))

pub token_small : (b : ℕ) → is_token b ≡ true → b < 128
token_small b h = between_small b (not (is_special b)) h

or_first : (p q : Bool) → (p || q) ≡ false → p ≡ false
or_first true q h = absurd (true≢false h)
or_first false q h = refl

-- what ends a value without quote marks is ASCII, so the value is cut between characters
bare_end : (b : ℕ) → is_bare b ≡ false → 128 ≤ b → ⊥
bare_end b h high = omega (arith, high, leb-false 128 b (or_first (leb 128 b) (is_between 33 126 b && not (is_delimiter b)) h))

bare_boundary : (text : List ℕ) → IsCharBoundary text (prefix_len is_bare text)
bare_boundary text = (prefix_len-le-length is_bare text, λ inside high. absurd (bare_end (get_or text (prefix_len is_bare text) 0) (prefix_len_stops is_bare text 0 inside) high))

blank_small : (b : ℕ) → is_blank b ≡ true → b < 128
blank_small b h = elim (cases_eq b 32) [
  | inl e ↦ omega (arith, e)
  | inr n ↦ elim (cases_eq b 9) [ inl e ↦ omega (arith, e) | inr m ↦ absurd (true≢false (sym h ∙ rw (ne_eqb b 32 n, ne_eqb b 9 m) refl)) ]
]

-- equations of options
some_is : {A : Type 0} (a b : A) → Some a ≡ Some b → a ≡ b
some_is a b e = cc

bind_is : {A B : Type 0} (o : Option A) (f : A → Option B) (y : B) → (o >>= f) ≡ Some y → (x : A) × (o ≡ Some x) × (f x ≡ Some y)
bind_is None f y e = absurd (none-some y e)
bind_is (Some x) f y e = (x, refl, e)

-- blanks and comments: what follows them begins after a blank or a parenthesis
abbrev IsOut : State → Type 0
IsOut Outside = Unit {0}
IsOut (Inside depth) = ⊥
IsOut (Escaped depth) = ⊥

closes : (depth b : ℕ) → IsOut (next (Inside depth) b) → b ≡ 41
closes depth b out = elim (cases_eq b 40) [
  | inl e ↦ let wrong : ⊥ = rw (eq-eqb b 40 e) at out in absurd wrong
  | inr p ↦ elim (cases_eq b 41) [
    | inl e ↦ e
    | inr q ↦ elim (cases_eq b 92) [
      | inl e ↦ let wrong : ⊥ = rw (ne_eqb b 40 p, ne_eqb b 41 q, eq-eqb b 92 e) at out in absurd wrong
      | inr r ↦ let wrong : ⊥ = rw (ne_eqb b 40 p, ne_eqb b 41 q, ne_eqb b 92 r) at out in absurd wrong
    ]
  ]
]

gap_small : (b : ℕ) → (eqb b 40 || is_blank b) ≡ true → b < 128
gap_small b h = elim (cases_eq b 40) [
  | inl e ↦ omega (arith, e)
  | inr n ↦ let blank : is_blank b ≡ true = rw (ne_eqb b 40 n) at h in blank_small b blank
]

gap_from-utf8 : (text : List ℕ) (state : State) (front rest : List ℕ) → IsUtf8 (front ++ text) → (IsOut state → IsUtf8 text)
    → gap_from is_blank text state ≡ Some rest → IsUtf8 rest
gap_from-utf8 [] Outside front rest u h e = let nothing : List ℕ = [] in subst IsUtf8 (some_is nothing rest e) IsUtf8-nil
gap_from-utf8 [] (Inside depth) front rest u h e = absurd (none-some rest e)
gap_from-utf8 [] (Escaped depth) front rest u h e = absurd (none-some rest e)
gap_from-utf8 (b ∷ bs) Outside front rest u h e =
    elim (eqb b 40 || is_blank b) as (λ v. (eqb b 40 || is_blank b) ≡ v → cond v (gap_from is_blank bs (next Outside b)) (Some (b ∷ bs)) ≡ Some rest → IsUtf8 rest) [
      | true ↦ λ k f.
          let after = after_first b bs (gap_small b k) (h tt) in
          gap_from-utf8 bs (next Outside b) [] rest after (λ _. after) f
      | false ↦ λ k f. subst IsUtf8 (some_is (b ∷ bs) rest f) (h tt)
    ] refl e
gap_from-utf8 (b ∷ bs) (Inside depth) front rest u h e =
    let more : IsUtf8 ((front ++ b ∷ []) ++ bs) = rw append_assoc u in
    gap_from-utf8 bs (next (Inside depth) b) (front ++ b ∷ []) rest more
    (λ out. (ascii_seam front bs b (omega (arith, closes depth b out)) u).1) e
gap_from-utf8 (b ∷ bs) (Escaped depth) front rest u h e =
    let more : IsUtf8 ((front ++ b ∷ []) ++ bs) = rw append_assoc u in
    gap_from-utf8 bs (Inside depth) (front ++ b ∷ []) rest more (λ out. absurd out) e

gap-utf8 : (text rest : List ℕ) → IsUtf8 text → after_blanks text ≡ Some rest → IsUtf8 rest
gap-utf8 text rest u e = gap_from-utf8 text Outside [] rest u (λ _. u) e

byte-utf8 : (sign : ℕ) (text rest : List ℕ) → sign < 128 → IsUtf8 text → after_byte sign text ≡ Some rest → IsUtf8 rest
byte-utf8 sign [] rest low u e = absurd (none-some rest e)
byte-utf8 sign (b ∷ bs) rest low u e = elim (cases_eq b sign) [
  | inl is ↦ let e1 : Some bs ≡ Some rest = rw (eq-eqb b sign is) at e in subst IsUtf8 (some_is bs rest e1) (after_first b bs (omega (arith, is)) u)
  | inr other ↦ let e1 : None ≡ Some rest = rw (ne_eqb b sign other) at e in absurd (none-some rest e1)
]

abbrev after_this_byte : ℕ → List ℕ → Option (List ℕ)
after_this_byte sign at = after_byte sign at >>= after_blanks

mark-utf8 : (sign : ℕ) (text rest : List ℕ) → sign < 128 → IsUtf8 text → after_mark sign text ≡ Some rest → IsUtf8 rest
unfolding after_mark
mark-utf8 sign text rest low u e =
    let a = bind_is (after_blanks text) (after_this_byte sign) rest e in
    let b = bind_is (after_byte sign a.0) after_blanks rest a.2 in
    gap-utf8 b.0 rest (byte-utf8 sign a.0 b.0 low (gap-utf8 text a.0 u a.1) b.1) b.2

-- runs
drop-utf8 : (class : ℕ → Bool) → ((b : ℕ) → class b ≡ true → b < 128) → (text : List ℕ) → IsUtf8 text → IsUtf8 (drop (prefix_len class text) text)
drop-utf8 class small [] u = u
drop-utf8 class small (b ∷ bs) u = elim (class b) as (λ v. class b ≡ v → IsUtf8 (drop (cond v (1 + prefix_len class bs) 0) (b ∷ bs))) [
  | true ↦ λ e. let one : 1 + prefix_len class bs ≡ suc (prefix_len class bs) = omega arith in rw one (drop-utf8 class small bs (after_first b bs (small b e) u))
  | false ↦ λ e. u
] refl

take-ascii : (class : ℕ → Bool) → ((b : ℕ) → class b ≡ true → b < 128) → (text : List ℕ) → AllAscii (take (prefix_len class text) text)
take-ascii class small [] = tt
take-ascii class small (b ∷ bs) = elim (class b) as (λ v. class b ≡ v → AllAscii (take (cond v (1 + prefix_len class bs) 0) (b ∷ bs))) [
  | true ↦ λ e. let one : 1 + prefix_len class bs ≡ suc (prefix_len class bs) = omega arith in rw one (small b e, take-ascii class small bs)
  | false ↦ λ e. tt
] refl

run-utf8 : (class : ℕ → Bool) → ((b : ℕ) → class b ≡ true → b < 128) → (text : List ℕ) (r : List ℕ × List ℕ) → IsUtf8 text → run_at class text ≡ Some r → AllAscii r.0 × IsUtf8 r.1
run-utf8 class small text r u e =
    let parts : List ℕ × List ℕ = (take (prefix_len class text) text, drop (prefix_len class text) text) in
    elim (eqb (prefix_len class text) 0) as (λ v. cond v None (Some parts) ≡ Some r → AllAscii r.0 × IsUtf8 r.1) [
      | true ↦ λ f. absurd (none-some r f)
      | false ↦ λ f. subst (λ (q : List ℕ × List ℕ). AllAscii q.0 × IsUtf8 q.1) (some_is parts r f) (take-ascii class small text, drop-utf8 class small text u)
    ] e

bare-utf8 : (text : List ℕ) (r : List ℕ × List ℕ) → IsUtf8 text → run_at is_bare text ≡ Some r → IsUtf8 r.0 × IsUtf8 r.1
bare-utf8 text r u e =
    let n = prefix_len is_bare text in
    let parts : List ℕ × List ℕ = (take n text, drop n text) in
    elim (eqb n 0) as (λ v. cond v None (Some parts) ≡ Some r → IsUtf8 r.0 × IsUtf8 r.1) [
      | true ↦ λ f. absurd (none-some r f)
      | false ↦ λ f. subst (λ (q : List ℕ × List ℕ). IsUtf8 q.0 × IsUtf8 q.1) (some_is parts r f)
          (IsUtf8-take text n u (bare_boundary text), IsUtf8-drop text n u (bare_boundary text))
    ] e

-- values
onto_is : (b : ℕ) (o : Option (List ℕ × List ℕ)) (r : List ℕ × List ℕ) → onto_value b o ≡ Some r → (x : List ℕ × List ℕ) × (o ≡ Some x) × ((r.0 ≡ b ∷ x.0) × (r.1 ≡ x.1))
onto_is b None r e = absurd (none-some r e)
onto_is b (Some x) r e =
    let all : List ℕ × List ℕ = (b ∷ x.0, x.1) in
    let is : all ≡ r = some_is all r e in
    (x, refl, (sym (ap (λ (q : List ℕ × List ℕ). q.0) is), sym (ap (λ (q : List ℕ × List ℕ). q.1) is)))

onto_texts : (out : List ℕ) (b : ℕ) (r x : List ℕ × List ℕ) → r.0 ≡ b ∷ x.0 → r.1 ≡ x.1 → IsUtf8 ((out ++ b ∷ []) ++ x.0) → IsUtf8 x.1 → IsUtf8 (out ++ r.0) × IsUtf8 r.1
onto_texts out b r x e f h k = let front : IsUtf8 (out ++ b ∷ x.0) = rw append_assoc at h in
    (subst (λ (t : List ℕ). IsUtf8 (out ++ t)) (sym e) front, subst IsUtf8 (sym f) k)

quoted-utf8 : (quoted : Bool) (text out : List ℕ) (r : List ℕ × List ℕ) → IsUtf8 (out ++ text) → quoted_from quoted text ≡ Some r → IsUtf8 (out ++ r.0) × IsUtf8 r.1
quoted-utf8 quoted [] out r u e = absurd (none-some r e)
quoted-utf8 true (b ∷ bs) out r u e =
    let more : IsUtf8 ((out ++ b ∷ []) ++ bs) = rw append_assoc u in
    let o = onto_is b (quoted_from false bs) r e in
    let both = quoted-utf8 false bs (out ++ b ∷ []) o.0 more o.1 in
    onto_texts out b r o.0 o.2.0 o.2.1 both.0 both.1
quoted-utf8 false (b ∷ bs) out r u e = elim (cases_eq b 34) [
  | inl is ↦
      let end : List ℕ × List ℕ = ([], bs) in
      let e1 : Some end ≡ Some r = rw (eq-eqb b 34 is) at e in
      let both = ascii_seam out bs b (omega (arith, is)) u in
      let front : IsUtf8 (out ++ []) = rw append-nil both.0 in
      subst (λ (q : List ℕ × List ℕ). IsUtf8 (out ++ q.0) × IsUtf8 q.1) (some_is end r e1) (front, both.1)
  | inr other ↦ elim (cases_eq b 92) [
    | inl is ↦
        let e1 : quoted_from true bs ≡ Some r = rw (ne_eqb b 34 other, eq-eqb b 92 is) at e in
        quoted-utf8 true bs out r (without_ascii out bs b (omega (arith, is)) u) e1
    | inr plain ↦
        let e1 : onto_value b (quoted_from false bs) ≡ Some r = rw (ne_eqb b 34 other, ne_eqb b 92 plain) at e in
        let more : IsUtf8 ((out ++ b ∷ []) ++ bs) = rw append_assoc u in
        let o = onto_is b (quoted_from false bs) r e1 in
        let both = quoted-utf8 false bs (out ++ b ∷ []) o.0 more o.1 in
        onto_texts out b r o.0 o.2.0 o.2.1 both.0 both.1
  ]
]

value-utf8 : (text : List ℕ) (r : List ℕ × List ℕ) → IsUtf8 text → value_at text ≡ Some r → IsUtf8 r.0 × IsUtf8 r.1
value-utf8 [] r u e = absurd (none-some r e)
value-utf8 (b ∷ bs) r u e =
    elim (eqb b 34) as (λ v. eqb b 34 ≡ v → cond v (quoted_from false bs) (run_at is_bare (b ∷ bs)) ≡ Some r → IsUtf8 r.0 × IsUtf8 r.1) [
      | true ↦ λ is f. quoted-utf8 false bs [] r (after_first b bs (omega (arith, eqb-true b 34 is)) u) f
      | false ↦ λ other f. bare-utf8 (b ∷ bs) r u f
    ] refl e

-- parameters
abbrev pub with_value : List ℕ → (List ℕ × List ℕ) → Option (Pair × List ℕ)
with_value name value = Some (record { name = lowered name; value = value.0 }, value.1)

abbrev pub after_equals : List ℕ → List ℕ → Option (Pair × List ℕ)
after_equals name rest = value_at rest >>= with_value name

abbrev pub after_name : (List ℕ × List ℕ) → Option (Pair × List ℕ)
after_name name = after_mark 61 name.1 >>= after_equals name.0

param-utf8 : (text : List ℕ) (r : Pair × List ℕ) → IsUtf8 text → param_at text ≡ Some r → IsUtf8 r.0.value × IsUtf8 r.1
unfolding param_at
param-utf8 text r u e =
    let n = bind_is (run_at is_token text) after_name r e in
    let un = run-utf8 is_token token_small text n.0 u n.1 in
    let m = bind_is (after_mark 61 n.0.1) (after_equals n.0.0) r n.2 in
    let v = bind_is (value_at m.0) (with_value n.0.0) r m.2 in
    let uv = value-utf8 m.0 v.0 (mark-utf8 61 n.0.1 m.0 (lit< tt) un.1 m.1) v.1 in
    let all : Pair × List ℕ = (record { name = lowered n.0.0; value = v.0.0 }, v.0.1) in
    subst (λ (q : Pair × List ℕ). IsUtf8 q.0.value × IsUtf8 q.1) (some_is all r v.2) uv

abbrev TurnTexts : Turn → Type 0
TurnTexts ends = Unit {0}
TurnTexts breaks = Unit {0}
TurnTexts (skips rest) = IsUtf8 rest
TurnTexts (gives p rest) = IsUtf8 p.value × IsUtf8 rest

param_turn : (text : List ℕ) (o : Option (Pair × List ℕ)) → IsUtf8 text → param_at text ≡ o → TurnTexts (turn_of o)
param_turn text None u e = tt
param_turn text (Some r) u e = param-utf8 text r u e

slot_turn : (o : Option (List ℕ)) → ((rest : List ℕ) → o ≡ Some rest → IsUtf8 rest) → TurnTexts (slot_at o)
slot_turn None h = tt
slot_turn (Some []) h = tt
slot_turn (Some (b ∷ bs)) h = elim (eqb b 59) as (λ v. TurnTexts (cond v (skips (b ∷ bs)) (turn_of (param_at (b ∷ bs))))) [
  | true ↦ h (b ∷ bs) refl
  | false ↦ param_turn (b ∷ bs) (param_at (b ∷ bs)) (h (b ∷ bs) refl) refl
]

turn_turn : (o : Option (List ℕ)) → ((rest : List ℕ) → o ≡ Some rest → IsUtf8 rest) → TurnTexts (turn_from o)
turn_turn None h = tt
turn_turn (Some []) h = tt
turn_turn (Some (b ∷ bs)) h = elim (cases_eq b 59) [
  | inl is ↦ rw (eq-eqb b 59 is) (slot_turn (after_blanks bs) (λ rest f. gap-utf8 bs rest (after_first b bs (omega (arith, is)) (h (b ∷ bs) refl)) f))
  | inr other ↦ rw (ne_eqb b 59 other) tt
]

by_turn-texts : (t : Turn) (later : List ℕ → Params) → TurnTexts t → ((text : List ℕ) → IsUtf8 text → AreTexts (later text).found) → AreTexts (by_turn t later).found
by_turn-texts ends later t h = tt
by_turn-texts breaks later t h = tt
by_turn-texts (skips rest) later t h = h rest t
by_turn-texts (gives p rest) later t h = (t.0, h rest t.1)

params-texts : (n : ℕ) (text : List ℕ) → IsUtf8 text → AreTexts (params_in n text).found
unfolding params_in
params-texts zero text u = tt
params-texts (suc n) text u = by_turn-texts (turn_at text) (params_in n) (turn_turn (after_blanks text) (λ rest e. gap-utf8 text rest u e)) (params-texts n)

pub first_named-utf8 : (name : List ℕ) (ps : List Pair) (v : List ℕ) → AreTexts ps → first_named name ps ≡ Some v → IsUtf8 v
first_named-utf8 name [] v h e = absurd (none-some v e)
first_named-utf8 name (p ∷ ps) v h e = elim (bytes_eq p.name name) as (λ t. cond t (Some p.value) (first_named name ps) ≡ Some v → IsUtf8 v) [
  | true ↦ λ f. subst IsUtf8 (some_is p.value v f) h.0
  | false ↦ λ f. first_named-utf8 name ps v h.1 f
] e

-- types and dispositions
abbrev pub with_sub : List ℕ → (List ℕ × List ℕ) → Option Kind
with_sub main sub = if_whole (lowered (main ++ 47 ∷ sub.0)) (params_of sub.1)

abbrev pub after_slash : List ℕ → List ℕ → Option Kind
after_slash main rest = run_at is_token rest >>= with_sub main

abbrev pub after_main : (List ℕ × List ℕ) → Option Kind
after_main main = after_mark 47 main.1 >>= after_slash main.0

abbrev pub at_main : List ℕ → Option Kind
at_main at = run_at is_token at >>= after_main

pub type_at-text : (text : List ℕ) (k : Kind) → IsUtf8 text → type_at text ≡ Some k → IsText k
unfolding type_at
type_at-text text k u e =
    let a = bind_is (after_blanks text) at_main k e in
    let m = bind_is (run_at is_token a.0) after_main k a.2 in
    let um = run-utf8 is_token token_small a.0 m.0 (gap-utf8 text a.0 u a.1) m.1 in
    let s = bind_is (after_mark 47 m.0.1) (after_slash m.0.0) k m.2 in
    let t = bind_is (run_at is_token s.0) (with_sub m.0.0) k s.2 in
    let ut = run-utf8 is_token token_small s.0 t.0 (mark-utf8 47 m.0.1 s.0 (lit< tt) um.1 s.1) t.1 in
    let all : Kind = record { kind = lowered (m.0.0 ++ 47 ∷ t.0.0); params = (params_of t.0.1).found } in
    let ascii : AllAscii (m.0.0 ++ 47 ∷ t.0.0) = AllAscii-append m.0.0 (47 ∷ t.0.0) um.0 (lit< tt, ut.0) in
    subst IsText {x = all} (cond_some (params_of t.0.1).whole all k t.2).1 (record {
      kind = AllAscii-utf8 (lowered (m.0.0 ++ 47 ∷ t.0.0)) (AllAscii-lowered (m.0.0 ++ 47 ∷ t.0.0) ascii);
      values = params-texts (suc (length t.0.1)) t.0.1 ut.1;
    })

abbrev with_token : (List ℕ × List ℕ) → Option Kind
with_token name = Some (record { kind = lowered name.0; params = (params_of name.1).found })

abbrev at_token : List ℕ → Option Kind
at_token at = run_at is_token at >>= with_token

pub disposition_at-text : (text : List ℕ) (k : Kind) → IsUtf8 text → disposition_at text ≡ Some k → IsText k
unfolding disposition_at
disposition_at-text text k u e =
    let a = bind_is (after_blanks text) at_token k e in
    let n = bind_is (run_at is_token a.0) with_token k a.2 in
    let un = run-utf8 is_token token_small a.0 n.0 (gap-utf8 text a.0 u a.1) n.1 in
    let all : Kind = record { kind = lowered n.0.0; params = (params_of n.0.1).found } in
    subst IsText (some_is all k n.2) (record {
      kind = AllAscii-utf8 (lowered n.0.0) (AllAscii-lowered n.0.0 un.0);
      values = params-texts (suc (length n.0.1)) n.0.1 un.1;
    })

-- angle brackets
pub without_open-utf8 : (text : List ℕ) → IsUtf8 text → IsUtf8 (without_open text)
without_open-utf8 [] u = u
without_open-utf8 (b ∷ bs) u = elim (cases_eq b 60) [
  | inl is ↦ rw (eq-eqb b 60 is) (after_first b bs (omega (arith, is)) u)
  | inr other ↦ rw (ne_eqb b 60 other) u
]

pub without_close-utf8 : (text : List ℕ) → IsUtf8 text → IsUtf8 (without_close text)
without_close-utf8 [] u = u
without_close-utf8 (b ∷ bs) u =
    let n = length (b ∷ bs) - 1 in
    elim (cases_eq (get_or (b ∷ bs) n 0) 62) [
      | inl is ↦ rw (eq-eqb (get_or (b ∷ bs) n 0) 62 is) (IsUtf8-take (b ∷ bs) n u (IsCharBoundary-before_ascii (b ∷ bs) n (omega arith) (omega (arith, is))))
      | inr other ↦ rw (ne_eqb (get_or (b ∷ bs) n 0) 62 other) u
    ]
