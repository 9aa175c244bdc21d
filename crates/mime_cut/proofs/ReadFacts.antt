-- The pieces that a cut gives are pieces of the message's bytes, at their byte offsets.
use Rattle.std.proofs.Common.{◌≡◌, ℕ, ◌+◌, true, false, cond, List, [], ◌∷◌, ◌++◌, length, drop, refl, ap, sym, subst, ◌∙◌, append_assoc}
use Rattle.std.proofs.lemmas.List.{take-append-drop, drop_at, drop-drop, append-nil}
use Rattle.std.proofs.lemmas.Bool.{true≢false}
use Rattle.std.specs.List.{concat}
use Rattle.mime_lines.specs.Lines.{lines, text}
use Rattle.mime_cut.specs.declared.line_kind.LineKind.TheVariants.{Other, DelimiterLine, CloseDelimiter}
use Rattle.mime_cut.specs.DelimiterLines.{line_kind, by_line_kind}
use Rattle.mime_cut.specs.Cut.{Piece, piece, grown, is_delimiter_next, pieces, cut}
use Rattle.mime_cut.specs.Pieces.{HasBytesAt, HasPieces}
use Rattle.mime_lines.proofs.ReadFacts.{text_front, concat_lines}

reads_front : (m : List ℕ) (at : ℕ) (xs ys : List ℕ) → HasBytesAt m at (xs ++ ys) → HasBytesAt m at xs
reads_front m at xs ys r = (ys ++ r.0, r.1 ∙ append_assoc xs ys r.0)

reads_back : (m : List ℕ) (at : ℕ) (xs ys : List ℕ) → HasBytesAt m at (xs ++ ys) → HasBytesAt m (at + length xs) ys
reads_back m at xs ys r = (r.0, sym (drop-drop (length xs) at m) ∙ ap (drop (length xs)) (r.1 ∙ append_assoc xs ys r.0) ∙ drop_at xs (ys ++ r.0) (length xs) refl)

reads_join : (m : List ℕ) (at : ℕ) (xs ys : List ℕ) → HasBytesAt m at xs → HasBytesAt m (at + length xs) ys → HasBytesAt m at (xs ++ ys)
reads_join m at xs ys r s =
    let later : r.0 ≡ ys ++ s.0 = sym (drop_at xs r.0 (length xs) refl) ∙ ap (drop (length xs)) (sym r.1) ∙ drop-drop (length xs) at m ∙ s.1 in
    (s.0, r.1 ∙ ap (λ t. xs ++ t) later ∙ sym (append_assoc xs ys s.0))

reads_text : (m : List ℕ) (at : ℕ) (l : List ℕ) → HasBytesAt m at l → HasBytesAt m at (text l)
reads_text m at l r =
    let both : text l ++ drop (length (text l)) l ≡ l = ap (λ t. t ++ drop (length (text l)) l) (sym (text_front l)) ∙ take-append-drop (length (text l)) l in
    reads_front m at (text l) (drop (length (text l)) l) (r.0, r.1 ∙ ap (λ t. t ++ r.0) (sym both))

-- the first piece begins here
abbrev FirstAt : ℕ → List Piece → Type 0
FirstAt at [] = ⊥
FirstAt at (p ∷ ps) = p.at ≡ at

grown_at : (at n : ℕ) (xs : List ℕ) (ps : List Piece) → FirstAt n ps → FirstAt at (grown at xs ps)
grown_at at n xs [] h = absurd h
grown_at at n xs (p ∷ ps) h = refl

pieces_at : (b : List ℕ) (ls : List (List ℕ)) (at : ℕ) → FirstAt at (pieces b at ls)
pieces_at b [] at = refl
pieces_at b (l ∷ ls) at = elim (line_kind b l) as (λ v. FirstAt at (by_line_kind v (grown at (cond (is_delimiter_next b ls) (text l) l) (pieces b (at + length l) ls)) (piece at [] ∷ pieces b (at + length l) ls) (piece at [] ∷ []))) [
  | Other ↦ grown_at at (at + length l) (cond (is_delimiter_next b ls) (text l) l) (pieces b (at + length l) ls) (pieces_at b ls (at + length l))
  | DelimiterLine ↦ refl
  | CloseDelimiter ↦ refl
]

grown_read : (m : List ℕ) (at : ℕ) (l : List ℕ) (ps : List Piece) → HasBytesAt m at l → FirstAt (at + length l) ps → HasPieces m ps → HasPieces m (grown at l ps)
grown_read m at l [] r h all = tt
grown_read m at l (p ∷ ps) r h all =
    let P : ℕ → Type 0 = λ n. HasBytesAt m n p.bytes in
    (reads_join m at l p.bytes r (subst P h all.0), all.1)

-- a piece that ends at a delimiter
marked_read : (m : List ℕ) (at n : ℕ) (xs b : List ℕ) (ls : List (List ℕ)) → is_delimiter_next b ls ≡ true → HasBytesAt m at xs → HasPieces m (pieces b n ls) → HasPieces m (grown at xs (pieces b n ls))
marked_read m at n xs b [] h r all = absurd (true≢false (sym h))
marked_read m at n xs b (l ∷ ls) h r all = elim (line_kind b l) as (λ v. line_kind b l ≡ v → HasPieces m (grown at xs (pieces b n (l ∷ ls)))) [
  | Other ↦ λ e. absurd (true≢false (sym h ∙ rw e refl))
  | DelimiterLine ↦ λ e. let all' = rw e at all in rw (e, append-nil) (r, all'.1)
  | CloseDelimiter ↦ λ e. rw (e, append-nil) (r, tt)
] refl

pub pieces_read : (m : List ℕ) (b : List ℕ) (ls : List (List ℕ)) (at : ℕ) → HasBytesAt m at (concat ls) → HasPieces m (pieces b at ls)
pieces_read m b [] at r = ((drop at m, refl), tt)
pieces_read m b (l ∷ ls) at r =
    let line = reads_front m at l (concat ls) r in
    let rest = reads_back m at l (concat ls) r in
    let later = pieces_read m b ls (at + length l) rest in
    let none : HasBytesAt m at [] = (drop at m, refl) in
    elim (line_kind b l) as (λ v. HasPieces m (by_line_kind v (grown at (cond (is_delimiter_next b ls) (text l) l) (pieces b (at + length l) ls)) (piece at [] ∷ pieces b (at + length l) ls) (piece at [] ∷ []))) [
      | Other ↦ elim (is_delimiter_next b ls) as (λ v. is_delimiter_next b ls ≡ v → HasPieces m (grown at (cond v (text l) l) (pieces b (at + length l) ls))) [
        | true ↦ λ e. marked_read m at (at + length l) (text l) b ls e (reads_text m at l line) later
        | false ↦ λ e. grown_read m at l (pieces b (at + length l) ls) line (pieces_at b ls (at + length l)) later
      ] refl
      | DelimiterLine ↦ (none, later)
      | CloseDelimiter ↦ (none, tt)
    ]

cut_lines_read : (m : List ℕ) (b : List ℕ) (ls : List (List ℕ)) (at : ℕ) → HasBytesAt m at (concat ls) → HasPieces m (cut b at ls)
cut_lines_read m b [] at r = tt
cut_lines_read m b (l ∷ ls) at r =
    let rest = reads_back m at l (concat ls) r in
    elim (line_kind b l) as (λ v. HasPieces m (by_line_kind v (cut b (at + length l) ls) (pieces b (at + length l) ls) [])) [
      | Other ↦ cut_lines_read m b ls (at + length l) rest
      | DelimiterLine ↦ pieces_read m b ls (at + length l) rest
      | CloseDelimiter ↦ tt
    ]

-- each piece of a body is in the message where it says
pub cut_read : (m b bytes : List ℕ) (at : ℕ) → HasBytesAt m at bytes → HasPieces m (cut b at (lines bytes))
cut_read m b bytes at r = cut_lines_read m b (lines bytes) at (r.0, r.1 ∙ ap (λ t. t ++ r.0) (sym (concat_lines bytes)))
