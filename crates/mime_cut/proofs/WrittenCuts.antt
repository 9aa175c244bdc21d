-- A multipart's body that is written is cut into the pieces that were written.
use Rattle.std.proofs.Common.{◌≡◌, ℕ, ◌+◌, ◌<◌, ◌≤◌, true, false, cond, eqb, List, [], ◌∷◌, ◌++◌, length, map, Some, refl, sym, ap, ◌∙◌, length-append, eq-eqb, arith}
use Rattle.std.specs.List.{AllByRecursion, concat, onto_first}
use Rattle.std.proofs.lemmas.Bool.{false≢true}
use Rattle.std.proofs.lemmas.List.{append-nil}
use Rattle.std.proofs.lemmas.List.Folds.{list_all-append}
use Rattle.mime_lines.specs.Lines.{lines, text}
use Rattle.mime_lines.specs.Written.{crlf, is_inline}
use Rattle.mime_lines.proofs.Unfolds.{IsInline, line_before, last_line, text_before, text_alone}
use Rattle.mime_cut.specs.declared.line_kind.LineKind.{LineKind}
use Rattle.mime_cut.specs.declared.line_kind.LineKind.TheVariants.{Other, DelimiterLine, CloseDelimiter}
use Rattle.mime_cut.specs.DelimiterLines.{after_prefix, dashes, line_kind, by_line_kind}
use Rattle.mime_cut.specs.Cut.{Piece, piece, grown, is_delimiter_next, pieces, cut}
use Rattle.mime_cut.specs.WrittenPieces.{multipart_text, HasNoDelimiter}
use Rattle.mime_cut.proofs.LineKindFacts.{line_kind_some}

-- ---- the lines of a piece

onto_front : (b : ℕ) (ls ms : List (List ℕ)) → 0 < length ls → onto_first b (ls ++ ms) ≡ onto_first b ls ++ ms
onto_front b [] ms h = absurd (omega (arith, h))
onto_front b (l ∷ ls) ms h = refl

some_onto : (b : ℕ) (ls : List (List ℕ)) → 0 < length (onto_first b ls)
some_onto b [] = omega arith
some_onto b (l ∷ ls) = omega arith

some_lines : (x : List ℕ) → 0 < length (lines (x ++ crlf))
some_lines [] = omega arith
some_lines (b ∷ bs) = elim (eqb b 10) as (λ v. 0 < length (cond v ((b ∷ []) ∷ lines (bs ++ crlf)) (onto_first b (lines (bs ++ crlf))))) [
  | true ↦ omega arith
  | false ↦ some_onto b (lines (bs ++ crlf))
]

lines_both : (x rest : List ℕ) → lines (x ++ 13 ∷ 10 ∷ rest) ≡ lines (x ++ crlf) ++ lines rest
lines_both [] rest = refl
lines_both (b ∷ bs) rest =
    let ls = lines (bs ++ crlf) in
    let later = lines_both bs rest in
    elim (eqb b 10) as (λ v. cond v ((b ∷ []) ∷ lines (bs ++ 13 ∷ 10 ∷ rest)) (onto_first b (lines (bs ++ 13 ∷ 10 ∷ rest))) ≡ cond v ((b ∷ []) ∷ ls) (onto_first b ls) ++ lines rest) [
      | true ↦ ap (λ t. (b ∷ []) ∷ t) later
      | false ↦ ap (onto_first b) later ∙ onto_front b ls (lines rest) (some_lines bs)
    ]

-- lines without the line end at their end
abbrev all_text : List (List ℕ) → List ℕ
all_text [] = []
all_text (l ∷ []) = text l
all_text (l ∷ m ∷ ms) = l ++ all_text (m ∷ ms)

-- one line alone has a line end of two bytes
abbrev IsLong : List (List ℕ) → Type 0
IsLong [] = ⊥
IsLong (l ∷ []) = 2 ≤ length l
IsLong (l ∷ m ∷ ms) = Unit {0}

long_onto : (b : ℕ) (ls : List (List ℕ)) → IsLong ls → IsLong (onto_first b ls)
long_onto b [] h = absurd h
long_onto b (l ∷ []) h = omega arith
long_onto b (l ∷ m ∷ ms) h = tt

long_after : (l : List ℕ) (ls : List (List ℕ)) → IsLong ls → IsLong (l ∷ ls)
long_after l [] h = absurd h
long_after l (m ∷ ms) h = tt

long_lines : (p : List ℕ) → IsLong (lines (p ++ crlf))
long_lines [] = omega arith
long_lines (b ∷ bs) = elim (eqb b 10) as (λ v. IsLong (cond v ((b ∷ []) ∷ lines (bs ++ crlf)) (onto_first b (lines (bs ++ crlf))))) [
  | true ↦ long_after (b ∷ []) (lines (bs ++ crlf)) (long_lines bs)
  | false ↦ long_onto b (lines (bs ++ crlf)) (long_lines bs)
]

text_onto : (b : ℕ) (l : List ℕ) → 2 ≤ length l → text (b ∷ l) ≡ b ∷ text l
text_onto b [] h = absurd (omega (arith, h))
text_onto b (c ∷ []) h = absurd (omega (arith, h))
text_onto b (c ∷ d ∷ ds) h = refl

all_onto : (b : ℕ) (ls : List (List ℕ)) → IsLong ls → all_text (onto_first b ls) ≡ b ∷ all_text ls
all_onto b [] h = absurd h
all_onto b (l ∷ []) h = text_onto b l h
all_onto b (l ∷ m ∷ ms) h = refl

all_after : (l : List ℕ) (ls : List (List ℕ)) → IsLong ls → all_text (l ∷ ls) ≡ l ++ all_text ls
all_after l [] h = absurd h
all_after l (m ∷ ms) h = refl

all_lines : (p : List ℕ) → all_text (lines (p ++ crlf)) ≡ p
all_lines [] = refl
all_lines (b ∷ bs) =
    let ls = lines (bs ++ crlf) in
    elim (eqb b 10) as (λ v. all_text (cond v ((b ∷ []) ∷ ls) (onto_first b ls)) ≡ b ∷ bs) [
      | true ↦ all_after (b ∷ []) ls (long_lines bs) ∙ ap (λ t. b ∷ t) (all_lines bs)
      | false ↦ all_onto b ls (long_lines bs) ∙ ap (λ t. b ∷ t) (all_lines bs)
    ]

-- ---- a piece

abbrev AllOther : List ℕ → List (List ℕ) → Type 0
AllOther b ls = AllByRecursion (λ l. line_kind b l ≡ Other) ls

-- what is after a line that ends a piece
abbrev after_that : LineKind → List ℕ → ℕ → List (List ℕ) → List Piece
after_that kind b at later = by_line_kind kind [] (pieces b at later) []

ends_piece : (b : List ℕ) (at : ℕ) (d : List ℕ) (later : List (List ℕ)) → is_delimiter_next b (d ∷ later) ≡ true
    → pieces b at (d ∷ later) ≡ piece at [] ∷ after_that (line_kind b d) b (at + length d) later
ends_piece b at d later = elim (line_kind b d) as (λ k. by_line_kind k false true true ≡ true
    → by_line_kind k (grown at (cond (is_delimiter_next b later) (text d) d) (pieces b (at + length d) later)) (piece at [] ∷ pieces b (at + length d) later) (piece at [] ∷ [])
    ≡ piece at [] ∷ after_that k b (at + length d) later) [
      | Other ↦ λ h. absurd (false≢true h)
      | DelimiterLine ↦ λ h. refl
      | CloseDelimiter ↦ λ h. refl
    ]

piece_back : (b : List ℕ) (at : ℕ) (l : List ℕ) (ls : List (List ℕ)) (d : List ℕ) (later : List (List ℕ)) → AllOther b (l ∷ ls) → is_delimiter_next b (d ∷ later) ≡ true
    → pieces b at (l ∷ (ls ++ d ∷ later)) ≡ piece at (all_text (l ∷ ls)) ∷ after_that (line_kind b d) b (at + length (concat (l ∷ ls)) + length d) later
piece_back b at l [] d later h is =
    let same : at + length l + length d ≡ at + length (l ++ []) + length d = ap (λ t. at + length t + length d) (sym (append-nil l)) in
    rw (h.0, is) (ap (grown at (text l)) (ends_piece b (at + length l) d later is)
    ∙ ap (λ t. piece at t ∷ after_that (line_kind b d) b (at + length l + length d) later) (append-nil (text l))
    ∙ ap (λ n. piece at (text l) ∷ after_that (line_kind b d) b n later) same)
piece_back b at l (m ∷ ms) d later h is =
    let next : is_delimiter_next b (m ∷ (ms ++ d ∷ later)) ≡ false = ap (λ k. by_line_kind k false true true) h.1.0 in
    let same : at + length l + length (concat (m ∷ ms)) + length d ≡ at + length (concat (l ∷ m ∷ ms)) + length d = omega (arith, length-append l (concat (m ∷ ms))) in
    ap (λ k. by_line_kind k (grown at (cond (is_delimiter_next b (m ∷ (ms ++ d ∷ later))) (text l) l) (pieces b (at + length l) (m ∷ (ms ++ d ∷ later)))) (piece at [] ∷ pieces b (at + length l) (m ∷ (ms ++ d ∷ later))) (piece at [] ∷ [])) h.0
    ∙ ap (λ v. grown at (cond v (text l) l) (pieces b (at + length l) (m ∷ (ms ++ d ∷ later)))) next
    ∙ ap (grown at l) (piece_back b (at + length l) m ms d later h.1 is)
    ∙ ap (λ n. piece at (l ++ all_text (m ∷ ms)) ∷ after_that (line_kind b d) b n later) same

-- ---- delimiters

after_all : (prefix rest : List ℕ) → after_prefix prefix (prefix ++ rest) ≡ Some rest
after_all [] rest = refl
after_all (f ∷ fs) rest = rw (eq-eqb f f refl) (after_all fs rest)

abbrev opening : List ℕ → List ℕ
opening b = dashes ++ b

delimiter_kind : (b : List ℕ) → line_kind b (opening b ++ crlf) ≡ DelimiterLine
delimiter_kind b =
    line_kind_some b (opening b ++ crlf) [] (ap (after_prefix (opening b)) (text_before (opening b) ∙ sym (append-nil (opening b))) ∙ after_all (opening b) [])

abbrev closing : List ℕ → List ℕ
closing b = dashes ++ (b ++ dashes)

closing_inline : (b : List ℕ) → IsInline b → IsInline (closing b)
closing_inline b h = list_all-append is_inline b dashes ∙ rw h refl

close_kind : (b : List ℕ) → IsInline b → line_kind b (closing b) ≡ CloseDelimiter
close_kind b h =
    line_kind_some b (closing b) dashes (ap (after_prefix (opening b)) (text_alone (closing b) (closing_inline b h)) ∙ after_all (opening b) dashes)

-- ---- the pieces

abbrev bytes_of : List Piece → List (List ℕ)
bytes_of ps = map (λ (p : Piece). p.bytes) ps

delimiter_line : (b rest : List ℕ) → IsInline b → lines (opening b ++ (crlf ++ rest)) ≡ (opening b ++ crlf) ∷ lines rest
delimiter_line b rest h = line_before (opening b) rest h

abbrev AllPieces : List ℕ → List (List ℕ) → Type 0
AllPieces b ps = AllByRecursion (HasNoDelimiter b) ps

close_line : (b : List ℕ) → IsInline b → lines (closing b) ≡ closing b ∷ []
close_line b h = last_line 45 (45 ∷ (b ++ dashes)) (closing_inline b h)

pieces_upto : (b : List ℕ) (at : ℕ) (ls : List (List ℕ)) (d : List ℕ) (later : List (List ℕ)) → 0 < length ls → AllOther b ls → is_delimiter_next b (d ∷ later) ≡ true
    → pieces b at (ls ++ d ∷ later) ≡ piece at (all_text ls) ∷ after_that (line_kind b d) b (at + length (concat ls) + length d) later
pieces_upto b at [] d later some h is = absurd (omega (arith, some))
pieces_upto b at (l ∷ ls) d later some h is = piece_back b at l ls d later h is

-- where the line after some lines and one more begins
abbrev place : ℕ → List ℕ → List ℕ → ℕ
place at p d = at + length (concat (lines (p ++ crlf))) + length d

first_piece : (b : List ℕ) (at : ℕ) (p rest d : List ℕ) (later : List (List ℕ)) → HasNoDelimiter b p → lines rest ≡ d ∷ later → is_delimiter_next b (d ∷ later) ≡ true
    → pieces b at (lines (p ++ (crlf ++ rest))) ≡ piece at p ∷ after_that (line_kind b d) b (place at p d) later
first_piece b at p rest d later h e is =
    ap (pieces b at) (lines_both p rest ∙ ap (λ ls. lines (p ++ crlf) ++ ls) e)
    ∙ pieces_upto b at (lines (p ++ crlf)) d later (some_lines p) h is
    ∙ ap (λ t. piece at t ∷ after_that (line_kind b d) b (place at p d) later) (all_lines p)

-- the pieces after a delimiter line
after_opening : (b : List ℕ) (at : ℕ) (p : List ℕ) (ps : List (List ℕ)) → IsInline b → HasNoDelimiter b p → AllPieces b ps
    → bytes_of (pieces b at (lines (p ++ (crlf ++ multipart_text b ps)))) ≡ p ∷ ps
after_opening b at p [] i h all =
    let d = closing b in
    ap bytes_of (first_piece b at p (closing b) d [] h (close_line b i) (ap (λ k. by_line_kind k false true true) (close_kind b i)))
    ∙ ap (λ k. p ∷ bytes_of (after_that k b (place at p d) [])) (close_kind b i)
after_opening b at p (q ∷ qs) i h all =
    let d = opening b ++ crlf in
    let rest = q ++ (crlf ++ multipart_text b qs) in
    ap bytes_of (first_piece b at p (multipart_text b (q ∷ qs)) d (lines rest) h (delimiter_line b rest i) (ap (λ k. by_line_kind k false true true) (delimiter_kind b)))
    ∙ ap (λ k. p ∷ bytes_of (after_that k b (place at p d) (lines rest))) (delimiter_kind b)
    ∙ ap (λ t. p ∷ t) (after_opening b (place at p d) q qs i all.0 all.1)

pub pieces_back : (b : List ℕ) (ps : List (List ℕ)) (at : ℕ) → IsInline b → AllPieces b ps → bytes_of (cut b at (lines (multipart_text b ps))) ≡ ps
pieces_back b [] at i h =
    ap (λ ls. bytes_of (cut b at ls)) (close_line b i)
    ∙ ap (λ k. bytes_of (by_line_kind k [] (pieces b (at + length (closing b)) []) [])) (close_kind b i)
pieces_back b (p ∷ ps) at i h =
    let rest = p ++ (crlf ++ multipart_text b ps) in
    let d = opening b ++ crlf in
    ap (λ ls. bytes_of (cut b at ls)) (delimiter_line b rest i)
    ∙ ap (λ k. bytes_of (by_line_kind k (cut b (at + length d) (lines rest)) (pieces b (at + length d) (lines rest)) [])) (delimiter_kind b)
    ∙ after_opening b (at + length d) p ps i h.0 h.1
