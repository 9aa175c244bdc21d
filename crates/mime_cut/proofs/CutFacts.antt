-- The pieces that a cut gives, by the up_to_delimiter up to the next delimiter.
use Rattle.std.proofs.Common.{◌≡◌, ℕ, ◌+◌, ◌≤◌, Bool, true, false, cond, List, [], ◌∷◌, ◌++◌, length, take, refl, ap, sym, ◌∙◌, arith, append_assoc, length-append, add_assoc, add-zero, zero-add, suc, ◌⊎◌, inl, inr}
use Rattle.std.proofs.lemmas.List.{take_all, append-nil, take-append-le}
use Rattle.std.specs.List.{concat}
use Rattle.mime_lines.specs.Lines.{lines, text}
use Rattle.mime_lines.proofs.SpanFacts.{text-le}
use Rattle.mime_lines.proofs.ReadFacts.{text_front, concat_lines}
use Rattle.mime_cut.specs.declared.line_kind.LineKind.{LineKind}
use Rattle.mime_cut.specs.declared.line_kind.LineKind.TheVariants.{Other, DelimiterLine, CloseDelimiter}
use Rattle.mime_cut.specs.DelimiterLines.{line_kind}
use Rattle.mime_cut.specs.Cut.{Piece, piece, grown, is_delimiter_next, pieces, cut, after_line}
use Rattle.mime_cut.specs.UpToDelimiter.{up_to_delimiter, lines_after}

pub cut_by_delimiter : (b : List ℕ) (ls : List (List ℕ)) (start x y : ℕ)
    → cut b (start + y) ls ≡ after_line b (up_to_delimiter b x y ls).kind (start + (up_to_delimiter b x y ls).size) (lines_after b ls)
cut_by_delimiter b [] start x y = refl
cut_by_delimiter b (l ∷ ls) start x y = elim (line_kind b l) as (λ m. line_kind b l ≡ m → cut b (start + y) (l ∷ ls) ≡ after_line b (up_to_delimiter b x y (l ∷ ls)).kind (start + (up_to_delimiter b x y (l ∷ ls)).size) (lines_after b (l ∷ ls))) [
  | Other ↦ λ h. rw h (ap (λ n. cut b n ls) (add_assoc start y (length l)) ∙ cut_by_delimiter b ls start (y + length (text l)) (y + length l))
  | DelimiterLine ↦ λ h. rw h (ap (λ n. pieces b n ls) (add_assoc start y (length l)))
  | CloseDelimiter ↦ λ h. rw h refl
] refl

grown_grown : (at n : ℕ) (xs ys : List ℕ) (ps : List Piece) → grown at xs (grown n ys ps) ≡ grown at (xs ++ ys) ps
grown_grown at n xs ys [] = refl
grown_grown at n xs ys (p ∷ ps) = ap (λ t. piece at t ∷ ps) (sym (append_assoc xs ys p.bytes))

take_past : (xs ys : List ℕ) (n : ℕ) → take (length xs + n) (xs ++ ys) ≡ xs ++ take n ys
take_past [] ys n = rw (zero-add n) refl
take_past (x ∷ xs) ys n = let e : suc (length xs) + n ≡ suc (length xs + n) = omega arith in rw e (ap (λ t. x ∷ t) (take_past xs ys n))

grown_text : (n : Bool) (done l : List ℕ) (y : ℕ) → length done ≡ y → done ++ cond n (text l) l ≡ cond n (take (y + length (text l)) (done ++ l)) (done ++ l)
grown_text true done l y e = sym (rw (← e) (take_past done l (length (text l)) ∙ ap (λ t. done ++ t) (text_front l)))
grown_text false done l y e = refl

pub pieces_by_delimiter : (b : List ℕ) (ls : List (List ℕ)) (start x y : ℕ) (done : List ℕ) → length done ≡ y → x ≤ y
    → grown start (cond (is_delimiter_next b ls) (take x done) done) (pieces b (start + y) ls)
    ≡ piece start (take (up_to_delimiter b x y ls).before (done ++ concat ls)) ∷ after_line b (up_to_delimiter b x y ls).kind (start + (up_to_delimiter b x y ls).size) (lines_after b ls)
pieces_by_delimiter b [] start x y done e h = ap (λ t. piece start t ∷ []) (append-nil done ∙ sym (rw append-nil (take_all y done (omega arith))))
pieces_by_delimiter b (l ∷ ls) start x y done e h = elim (line_kind b l) as (λ m. line_kind b l ≡ m →
    grown start (cond (is_delimiter_next b (l ∷ ls)) (take x done) done) (pieces b (start + y) (l ∷ ls))
    ≡ piece start (take (up_to_delimiter b x y (l ∷ ls)).before (done ++ concat (l ∷ ls))) ∷ after_line b (up_to_delimiter b x y (l ∷ ls)).kind (start + (up_to_delimiter b x y (l ∷ ls)).size) (lines_after b (l ∷ ls))) [
      | Other ↦ λ m.
          let s = up_to_delimiter b (y + length (text l)) (y + length l) ls in
          let sizes : length (done ++ l) ≡ y + length l = length-append done l ∙ ap (λ k. k + length l) e in
          let again = pieces_by_delimiter b ls start (y + length (text l)) (y + length l) (done ++ l) sizes (omega (arith, text-le l)) in
          rw m (grown_grown start (start + y) done (cond (is_delimiter_next b ls) (text l) l) (pieces b (start + y + length l) ls)
          ∙ ap (λ t. grown start t (pieces b (start + y + length l) ls)) (grown_text (is_delimiter_next b ls) done l y e)
          ∙ ap (λ k. grown start (cond (is_delimiter_next b ls) (take (y + length (text l)) (done ++ l)) (done ++ l)) (pieces b k ls)) (add_assoc start y (length l))
          ∙ again
          ∙ ap (λ t. piece start (take s.before t) ∷ after_line b s.kind (start + s.size) (lines_after b ls)) (append_assoc done l (concat ls)))
      | DelimiterLine ↦ λ m. rw m (
          ap (λ t. piece start t ∷ pieces b (start + y + length l) ls) (append-nil (take x done) ∙ sym (take-append-le x done (l ++ concat ls) (omega arith)))
          ∙ ap (λ k. piece start (take x (done ++ (l ++ concat ls))) ∷ pieces b k ls) (add_assoc start y (length l)))
      | CloseDelimiter ↦ λ m. rw m (ap (λ t. piece start t ∷ []) (append-nil (take x done) ∙ sym (take-append-le x done (l ++ concat ls) (omega arith))))
    ] refl

grown_nil : (at n : ℕ) (xs : List ℕ) (ps : List Piece) → grown at [] (grown at xs ps) ≡ grown at xs ps
grown_nil at n xs [] = refl
grown_nil at n xs (p ∷ ps) = refl

grown_same : (b : List ℕ) (ls : List (List ℕ)) (at : ℕ) → grown at [] (pieces b at ls) ≡ pieces b at ls
grown_same b [] at = refl
grown_same b (l ∷ ls) at = elim (line_kind b l) as (λ m. line_kind b l ≡ m → grown at [] (pieces b at (l ∷ ls)) ≡ pieces b at (l ∷ ls)) [
  | Other ↦ λ h. rw h (grown_nil at 0 (cond (is_delimiter_next b ls) (text l) l) (pieces b (at + length l) ls))
  | DelimiterLine ↦ λ h. rw h refl
  | CloseDelimiter ↦ λ h. rw h refl
] refl

no_front : (n : Bool) → let none : List ℕ = [] in cond n none none ≡ none
no_front true = refl
no_front false = refl

-- the first piece, and those after the next delimiter
pub pieces_first : (b bytes : List ℕ) (start : ℕ) → let s = up_to_delimiter b 0 0 (lines bytes) in
    pieces b start (lines bytes) ≡ piece start (take s.before bytes) ∷ after_line b s.kind (start + s.size) (lines_after b (lines bytes))
pieces_first b bytes start =
    let s = up_to_delimiter b 0 0 (lines bytes) in
    sym (grown_same b (lines bytes) start)
    ∙ ap (λ t. grown start t (pieces b start (lines bytes))) (sym (no_front (is_delimiter_next b (lines bytes))))
    ∙ ap (λ k. grown start (cond (is_delimiter_next b (lines bytes)) [] []) (pieces b k (lines bytes))) (sym (add-zero start))
    ∙ pieces_by_delimiter b (lines bytes) start 0 0 [] refl (omega arith)
    ∙ ap (λ t. piece start (take s.before t) ∷ after_line b s.kind (start + s.size) (lines_after b (lines bytes))) (concat_lines bytes)

-- the pieces, if any, from the next delimiter on
pub cut_first : (b : List ℕ) (ls : List (List ℕ)) (start : ℕ) → let s = up_to_delimiter b 0 0 ls in cut b start ls ≡ after_line b s.kind (start + s.size) (lines_after b ls)
cut_first b ls start = ap (λ k. cut b k ls) (sym (add-zero start)) ∙ cut_by_delimiter b ls start 0 0

-- one line on
pub up_to_other : (b l : List ℕ) (ls ms : List (List ℕ)) (x y : ℕ) → ls ≡ l ∷ ms → line_kind b l ≡ Other
    → (up_to_delimiter b x y ls ≡ up_to_delimiter b (y + length (text l)) (y + length l) ms) × (lines_after b ls ≡ lines_after b ms)
up_to_other b l ls ms x y e h = (ap (up_to_delimiter b x y) e ∙ rw h refl, ap (lines_after b) e ∙ rw h refl)

pub up_to_that : (b l : List ℕ) (ls ms : List (List ℕ)) (x y : ℕ) (m : LineKind) → ls ≡ l ∷ ms → line_kind b l ≡ m → (m ≡ DelimiterLine) ⊎ (m ≡ CloseDelimiter)
    → (up_to_delimiter b x y ls ≡ record { before = x; size = y + length l; kind = m }) × (lines_after b ls ≡ ms)
up_to_that b l ls ms x y m e h (inl is) = (ap (up_to_delimiter b x y) e ∙ rw (h, is) refl, ap (lines_after b) e ∙ rw (h, is) refl)
up_to_that b l ls ms x y m e h (inr is) = (ap (up_to_delimiter b x y) e ∙ rw (h, is) refl, ap (lines_after b) e ∙ rw (h, is) refl)

-- what a scan found, in place of what it was to find
pub found_is : (b : List ℕ) (start : ℕ) (kind kind' : LineKind) (size size' : ℕ) (ls ls' : List (List ℕ)) → kind ≡ kind' → size ≡ size' → ls ≡ ls'
    → after_line b kind' (start + size') ls' ≡ after_line b kind (start + size) ls
found_is b start kind kind' size size' ls ls' e f g =
    ap (λ m. after_line b m (start + size') ls') (sym e) ∙ ap (λ n. after_line b kind (start + n) ls') (sym f) ∙ ap (after_line b kind (start + size)) (sym g)
