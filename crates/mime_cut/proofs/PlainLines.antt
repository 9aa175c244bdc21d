-- Lines that begin with no two dashes are passed over at once.
use Rattle.std.proofs.Common.{◌≡◌, ℕ, zero, suc, ◌+◌, ◌<◌, ◌≤◌, true, false, cond, eqb, List, [], ◌∷◌, ◌++◌, length, get_or, take, drop, refl, ap, sym, ◌∙◌, subst, arith, length-append, None, Some}
use Rattle.std.specs.Prelude.{⊤}
use Rattle.std.proofs.lemmas.Bool.{eqb-true}
use Rattle.std.proofs.lemmas.List.{append-nil, get_or-take}
use Rattle.std.specs.List.{concat, onto_first}
use Rattle.memchr.specs.Find.{Nowhere, OccursAt}
use Rattle.mime_lines.specs.Lines.{lines, is_line_end, text}
use Rattle.mime_lines.proofs.ReadFacts.{concat_lines}
use Rattle.mime_cut.specs.declared.line_kind.LineKind.TheVariants.{Other}
use Rattle.mime_cut.specs.DelimiterLines.{after_prefix, dashes, line_kind}
use Rattle.mime_cut.specs.UpToDelimiter.{up_to_delimiter, lines_after}
use Rattle.mime_cut.proofs.LineKindFacts.{not_after_both, line_kind_none}

-- a line that begins with no two dashes is no delimiter
no_dashes : (l : List ℕ) → after_prefix dashes l ≡ None → after_prefix dashes (text l) ≡ None
no_dashes [] h = refl
no_dashes (a ∷ []) h = elim (is_line_end (a ∷ [])) as (λ v. after_prefix dashes (cond v [] (a ∷ [])) ≡ None) [ true ↦ refl | false ↦ h ]
no_dashes (a ∷ c ∷ t) h = elim (is_line_end (a ∷ c ∷ t)) as (λ v. after_prefix dashes (cond v [] (a ∷ text (c ∷ t))) ≡ None) [
  | true ↦ refl
  | false ↦ elim (is_line_end (c ∷ t)) as (λ v. after_prefix dashes (a ∷ cond v [] (c ∷ text t)) ≡ None) [
    | true ↦ elim (eqb a 45) as (λ v. cond v (after_prefix (45 ∷ []) []) None ≡ None) [ true ↦ refl | false ↦ refl ]
    | false ↦ elim (eqb a 45) as (λ v. cond v (cond (eqb c 45) (Some t) None) None ≡ None → cond v (cond (eqb c 45) (Some (text t)) None) None ≡ None) [
      | true ↦ elim (eqb c 45) as (λ v. cond v (Some t) None ≡ None → cond v (Some (text t)) None ≡ None) [ true ↦ λ e. cc | false ↦ λ e. refl ]
      | false ↦ λ e. refl
    ] h
  ]
]

pub plain_other : (b l : List ℕ) → after_prefix dashes l ≡ None → line_kind b l ≡ Other
plain_other b l h = line_kind_none b l (not_after_both dashes b (text l) (no_dashes l h))

-- each line but the last ends in an LF, and none is empty
abbrev EndsLine : List ℕ → Type 0
EndsLine l = (t : List ℕ) × (l ≡ t ++ (10 ∷ []))

abbrev AreLines : List (List ℕ) → Type 0
AreLines [] = ⊤
AreLines (l ∷ []) = 0 < length l
AreLines (l ∷ m ∷ ls) = EndsLine l × AreLines (m ∷ ls)

onto_lines : (b : ℕ) (ls : List (List ℕ)) → AreLines ls → AreLines (onto_first b ls)
onto_lines b [] h = omega arith
onto_lines b (l ∷ []) h = omega arith
onto_lines b (l ∷ m ∷ ls) h = ((b ∷ h.0.0, ap (λ t. b ∷ t) h.0.1), h.1)

one_more : (b : ℕ) (ls : List (List ℕ)) → b ≡ 10 → AreLines ls → AreLines ((b ∷ []) ∷ ls)
one_more b [] e h = omega arith
one_more b (m ∷ ls) e h = (([], ap (λ c. c ∷ []) e), h)

are_lines : (bytes : List ℕ) → AreLines (lines bytes)
are_lines [] = tt
are_lines (b ∷ bs) = elim (eqb b 10) as (λ v. eqb b 10 ≡ v → AreLines (cond v ((b ∷ []) ∷ lines bs) (onto_first b (lines bs)))) [
  | true ↦ λ e. one_more b (lines bs) (eqb-true b 10 e) (are_lines bs)
  | false ↦ λ e. onto_lines b (lines bs) (are_lines bs)
] refl

-- the text of several lines
text_past : (t m : List ℕ) → 0 < length m → text ((t ++ (10 ∷ [])) ++ m) ≡ (t ++ (10 ∷ [])) ++ text m
text_past t [] h = absurd (omega arith)
text_past [] (c ∷ []) h = refl
text_past [] (c ∷ d ∷ ds) h = refl
text_past (a ∷ []) (c ∷ cs) h = ap (λ t. a ∷ t) (text_past [] (c ∷ cs) h)
text_past (a ∷ b ∷ []) (c ∷ cs) h = ap (λ t. a ∷ t) (text_past (b ∷ []) (c ∷ cs) h)
text_past (a ∷ b ∷ d ∷ t) (c ∷ cs) h = ap (λ t. a ∷ t) (text_past (b ∷ d ∷ t) (c ∷ cs) h)

abbrev AreOther : List ℕ → List (List ℕ) → Type 0
AreOther b [] = ⊤
AreOther b (l ∷ ls) = (line_kind b l ≡ Other) × AreOther b ls

some_bytes : (l : List ℕ) (ls : List (List ℕ)) → AreLines (l ∷ ls) → 0 < length (concat (l ∷ ls))
some_bytes l [] h = omega (arith, length-append l [], h)
some_bytes l (m ∷ ls) h = omega (arith, length-append l (concat (m ∷ ls)), ap length h.0.1, length-append h.0.0 (10 ∷ []))

pub skip_lines : (b : List ℕ) (l : List ℕ) (ls ms : List (List ℕ)) (x y : ℕ) → AreLines (l ∷ ls) → AreOther b (l ∷ ls)
    → up_to_delimiter b x y ((l ∷ ls) ++ ms) ≡ up_to_delimiter b (y + length (text (concat (l ∷ ls)))) (y + length (concat (l ∷ ls))) ms
skip_lines b l [] ms x y shape other = rw other.0 (ap (λ t. up_to_delimiter b (y + length (text t)) (y + length t) ms) (sym (append-nil l)))
skip_lines b l (m ∷ ls) ms x y shape other =
    let rest = concat (m ∷ ls) in
    let t = shape.0.0 in
    let texts : text (l ++ rest) ≡ l ++ text rest =
    ap (λ k. text (k ++ rest)) shape.0.1 ∙ text_past t rest (some_bytes m ls shape.1) ∙ ap (λ k. k ++ text rest) (sym shape.0.1) in
    let here : y + length l + length (text rest) ≡ y + length (text (l ++ rest)) = omega (arith, ap length texts, length-append l (text rest)) in
    let there : y + length l + length rest ≡ y + length (l ++ rest) = omega (arith, length-append l rest) in
    rw other.0 (skip_lines b m ls ms (y + length (text l)) (y + length l) shape.1 other.1
    ∙ ap (λ n. up_to_delimiter b n (y + length l + length rest) ms) here ∙ ap (λ n. up_to_delimiter b (y + length (text (l ++ rest))) n ms) there)

pub skip_after : (b : List ℕ) (ls ms : List (List ℕ)) → AreOther b ls → lines_after b (ls ++ ms) ≡ lines_after b ms
skip_after b [] ms other = refl
skip_after b (l ∷ ls) ms other = rw other.0 (skip_after b ls ms other.1)

pub skip_all : (b : List ℕ) (fs ms : List (List ℕ)) (x y : ℕ) → 0 < length fs → AreLines fs → AreOther b fs
    → up_to_delimiter b x y (fs ++ ms) ≡ up_to_delimiter b (y + length (text (concat fs))) (y + length (concat fs)) ms
skip_all b [] ms x y some shape other = absurd (omega arith)
skip_all b (l ∷ ls) ms x y some shape other = skip_lines b l ls ms x y shape other

-- the first line begins as the bytes do
onto_some : (c : ℕ) (ls : List (List ℕ)) → (l : List ℕ) × (ms : List (List ℕ)) × (onto_first c ls ≡ (c ∷ l) ∷ ms)
onto_some c [] = ([], [], refl)
onto_some c (l ∷ ls) = (l, ls, refl)

some_line : (c : ℕ) (cs : List ℕ) → (l : List ℕ) × (ms : List (List ℕ)) × (lines (c ∷ cs) ≡ (c ∷ l) ∷ ms)
some_line c cs = elim (eqb c 10) as (λ v. (l : List ℕ) × (ms : List (List ℕ)) × (cond v ((c ∷ []) ∷ lines cs) (onto_first c (lines cs)) ≡ (c ∷ l) ∷ ms)) [
  | true ↦ ([], lines cs, refl)
  | false ↦ onto_some c (lines cs)
]

some_lines : (bytes : List ℕ) → 0 < length bytes → 0 < length (lines bytes)
some_lines [] h = absurd (omega arith)
some_lines (c ∷ cs) h = let s = some_line c cs in omega (arith, ap length s.2)

-- the lines of bytes that are cut after an LF
onto_front : (b : ℕ) (ls ms : List (List ℕ)) → 0 < length ls → onto_first b (ls ++ ms) ≡ onto_first b ls ++ ms
onto_front b [] ms h = absurd (omega arith)
onto_front b (l ∷ ls) ms h = refl

pub cut_lines : (t rest : List ℕ) → lines (t ++ (10 ∷ rest)) ≡ lines (t ++ (10 ∷ [])) ++ lines rest
cut_lines [] rest = refl
cut_lines (b ∷ bs) rest =
    let some : 0 < length (bs ++ (10 ∷ [])) = omega (arith, length-append bs (10 ∷ [])) in
    elim (eqb b 10)
    as (λ v. cond v ((b ∷ []) ∷ lines (bs ++ (10 ∷ rest))) (onto_first b (lines (bs ++ (10 ∷ rest)))) ≡ cond v ((b ∷ []) ∷ lines (bs ++ (10 ∷ []))) (onto_first b (lines (bs ++ (10 ∷ [])))) ++ lines rest) [
      | true ↦ ap (λ ls. (b ∷ []) ∷ ls) (cut_lines bs rest)
      | false ↦ ap (onto_first b) (cut_lines bs rest) ∙ onto_front b (lines (bs ++ (10 ∷ []))) (lines rest) (some_lines (bs ++ (10 ∷ [])) some)
    ]

-- where no LF has two dashes after it, no line but the first begins with them
abbrev pub Dashless : List ℕ → Type 0
Dashless bytes = (k : ℕ) → get_or bytes k 0 ≡ 10 → get_or bytes (suc k) 0 ≡ 45 → get_or bytes (suc (suc k)) 0 ≡ 45 → ⊥

abbrev FirstPlain : List (List ℕ) → Type 0
FirstPlain [] = ⊤
FirstPlain (l ∷ ls) = after_prefix dashes l ≡ None

abbrev ArePlain : List (List ℕ) → Type 0
ArePlain [] = ⊤
ArePlain (l ∷ ls) = (after_prefix dashes l ≡ None) × ArePlain ls

abbrev rest_of : List (List ℕ) → List (List ℕ)
rest_of [] = []
rest_of (l ∷ ls) = ls

one_plain : (c : ℕ) → after_prefix dashes (c ∷ []) ≡ None
one_plain c = elim (eqb c 45) as (λ v. cond v (after_prefix (45 ∷ []) []) None ≡ None) [ true ↦ refl | false ↦ refl ]

two_plain : (c d : ℕ) (l : List ℕ) → (c ≡ 45 → d ≡ 45 → ⊥) → after_prefix dashes (c ∷ d ∷ l) ≡ None
two_plain c d l h = elim (eqb c 45) as (λ v. eqb c 45 ≡ v → cond v (cond (eqb d 45) (Some l) None) None ≡ None) [
  | true ↦ λ e. elim (eqb d 45) as (λ v. eqb d 45 ≡ v → cond v (Some l) None ≡ None) [
    | true ↦ λ f. absurd (h (eqb-true c 45 e) (eqb-true d 45 f))
    | false ↦ λ f. refl
  ] refl
  | false ↦ λ e. refl
] refl

first_plain : (bs : List ℕ) → (get_or bs 0 0 ≡ 45 → get_or bs 1 0 ≡ 45 → ⊥) → FirstPlain (lines bs)
first_plain [] h = tt
first_plain (c ∷ []) h = elim (eqb c 10) as (λ v. FirstPlain (cond v ((c ∷ []) ∷ []) ((c ∷ []) ∷ []))) [ true ↦ one_plain c | false ↦ one_plain c ]
first_plain (c ∷ d ∷ ds) h = elim (eqb c 10) as (λ v. FirstPlain (cond v ((c ∷ []) ∷ lines (d ∷ ds)) (onto_first c (lines (d ∷ ds))))) [
  | true ↦ one_plain c
  | false ↦ let s = some_line d ds in subst (λ ls. FirstPlain (onto_first c ls)) (sym s.2) (two_plain c d s.0 h)
]

all_plain : (ls : List (List ℕ)) → FirstPlain ls → ArePlain (rest_of ls) → ArePlain ls
all_plain [] h t = tt
all_plain (l ∷ ls) h t = (h, t)

onto_rest : (b : ℕ) (ls : List (List ℕ)) → ArePlain (rest_of ls) → ArePlain (rest_of (onto_first b ls))
onto_rest b [] h = tt
onto_rest b (l ∷ ls) h = h

pub later_plain : (bs : List ℕ) → Dashless bs → ArePlain (rest_of (lines bs))
later_plain [] none = tt
later_plain (b ∷ bs) none =
    let later = later_plain bs (λ k p q r. none (suc k) p q r) in
    elim (eqb b 10) as (λ v. eqb b 10 ≡ v → ArePlain (rest_of (cond v ((b ∷ []) ∷ lines bs) (onto_first b (lines bs))))) [
      | true ↦ λ e. all_plain (lines bs) (first_plain bs (λ q r. none 0 (eqb-true b 10 e) q r)) later
      | false ↦ λ e. onto_rest b (lines bs) later
    ] refl

are_plain_other : (b : List ℕ) (ls : List (List ℕ)) → ArePlain ls → AreOther b ls
are_plain_other b [] h = tt
are_plain_other b (l ∷ ls) h = (plain_other b l h.0, are_plain_other b ls h.1)

abbrev first_or : List (List ℕ) → List ℕ
first_or [] = []
first_or (l ∷ ls) = l

are_other : (b line : List ℕ) (fs ms more : List (List ℕ)) → fs ++ ms ≡ line ∷ more → line_kind b line ≡ Other → ArePlain (rest_of fs) → AreOther b fs
are_other b line [] ms more e is plain = tt
are_other b line (l ∷ ls) ms more e is plain = (ap (line_kind b) (ap first_or e) ∙ is, are_plain_other b ls plain)

-- the lines of the prefix, of which the first is no delimiter, are passed over
pub passed : (b line front rest xs : List ℕ) (more : List (List ℕ)) (x y : ℕ) → lines xs ≡ lines front ++ lines rest → 0 < length front → Dashless front
    → lines xs ≡ line ∷ more → line_kind b line ≡ Other
    → (up_to_delimiter b x y (lines xs) ≡ up_to_delimiter b (y + length (text front)) (y + length front) (lines rest)) × (lines_after b (lines xs) ≡ lines_after b (lines rest))
passed b line front rest xs more x y parts some none is other =
    let others = are_other b line (lines front) (lines rest) more (sym parts ∙ is) other (later_plain front none) in (
      ap (up_to_delimiter b x y) parts ∙ skip_all b (lines front) (lines rest) x y (some_lines front some) (are_lines front) others
          ∙ ap (λ t. up_to_delimiter b (y + length (text t)) (y + length t) (lines rest)) (concat_lines front),
      ap (lines_after b) parts ∙ skip_after b (lines front) (lines rest) others,
    )

-- bytes that are cut after an LF
pub cut_here : (xs : List ℕ) (i : ℕ) → i < length xs → get_or xs i 0 ≡ 10 → lines xs ≡ lines (take (suc i) xs) ++ lines (drop (suc i) xs)
cut_here xs i inside here =
    let parts = cut_parts xs i inside here in
    ap lines parts.1 ∙ cut_lines (take i xs) (drop (suc i) xs) ∙ ap (λ t. lines t ++ lines (drop (suc i) xs)) (sym parts.0)
  where
    cut_parts : (xs : List ℕ) (i : ℕ) → i < length xs → get_or xs i 0 ≡ 10 → (take (suc i) xs ≡ take i xs ++ (10 ∷ [])) × (xs ≡ take i xs ++ (10 ∷ drop (suc i) xs))
    cut_parts [] i inside here = absurd (omega arith)
    cut_parts (x ∷ xs) zero inside here = (ap (λ c. c ∷ []) here, ap (λ c. c ∷ xs) here)
    cut_parts (x ∷ xs) (suc i) inside here = let p = cut_parts xs i (omega arith) here in (ap (λ t. x ∷ t) p.0, ap (λ t. x ∷ t) p.1)

pub in_reach : (xs : List ℕ) (i : ℕ) → get_or xs i 0 ≡ 45 → i < length xs
in_reach [] i h = absurd (omega (arith, h))
in_reach (x ∷ xs) zero h = omega arith
in_reach (x ∷ xs) (suc i) h = omega (arith, in_reach xs i h)

-- an LF and two dashes are where the search looks for them
reads_at : (xs : List ℕ) (k : ℕ) → get_or xs k 0 ≡ 10 → get_or xs (suc k) 0 ≡ 45 → get_or xs (suc (suc k)) 0 ≡ 45 → (j : ℕ) → j < 3
    → get_or xs (k + j) 0 ≡ get_or (10 ∷ 45 ∷ 45 ∷ []) j 0
reads_at xs k p q r zero low = let same : k + 0 ≡ k = omega arith in ap (λ n. get_or xs n 0) same ∙ p
reads_at xs k p q r (suc zero) low = let same : k + 1 ≡ suc k = omega arith in ap (λ n. get_or xs n 0) same ∙ q
reads_at xs k p q r (suc (suc zero)) low = let same : k + 2 ≡ suc (suc k) = omega arith in ap (λ n. get_or xs n 0) same ∙ r
reads_at xs k p q r (suc (suc (suc j))) low = absurd (omega arith)

occurs : (xs : List ℕ) (k : ℕ) → get_or xs k 0 ≡ 10 → get_or xs (suc k) 0 ≡ 45 → get_or xs (suc (suc k)) 0 ≡ 45 → OccursAt xs (10 ∷ 45 ∷ 45 ∷ []) k
occurs xs k p q r = record { fits = omega (arith, in_reach xs (suc (suc k)) r); reads = reads_at xs k p q r }

pub none_at_all : (xs : List ℕ) → Nowhere (OccursAt xs (10 ∷ 45 ∷ 45 ∷ [])) 0 (length xs + 1) → Dashless xs
none_at_all xs none k p q r = none k (omega arith) (omega (arith, in_reach xs (suc (suc k)) r)) (occurs xs k p q r)

length-take-most : (n : ℕ) (xs : List ℕ) → length (take n xs) ≤ n
length-take-most zero xs = omega arith
length-take-most (suc n) [] = omega arith
length-take-most (suc n) (x ∷ xs) = omega (arith, length-take-most n xs)

pub none_before : (xs : List ℕ) (i : ℕ) → Nowhere (OccursAt xs (10 ∷ 45 ∷ 45 ∷ [])) 0 i → Dashless (take (suc i) xs)
none_before xs i none k p q r =
    let within : suc (suc k) < length (take (suc i) xs) = in_reach (take (suc i) xs) (suc (suc k)) r in
    let short : suc (suc k) < suc i = omega (arith, within, length-take-most (suc i) xs) in
    let same = λ (j : ℕ) (low : j < suc i). get_or-take (suc i) xs j 0 low in
    none k (omega arith) (omega (arith, short)) (occurs xs k (sym (same k (omega (arith, short))) ∙ p) (sym (same (suc k) (omega (arith, short))) ∙ q) (sym (same (suc (suc k)) short) ∙ r))
