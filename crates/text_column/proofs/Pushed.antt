-- One text more at the end of a column.
use Rattle.std.proofs.Common.{◌≡◌, ℕ, ◌+◌, ◌-◌, ◌≤◌, List, [], ◌∷◌, ◌++◌, length, take, drop, refl, ap, sym, ◌∙◌, subst, arith, None, Some, length-append}
use Rattle.std.proofs.lemmas.List.{drop-append-le, take-append-le, drop_at, take_all, length-drop, append-nil}
use Rattle.std.specs.List.{slice_range}
use Rattle.text_column.specs.declared.mark.Mark.{Mark}
use Rattle.text_column.specs.declared.mark.Mark.TheVariants.{HasNot, Has, Open}
use Rattle.text_column.specs.Columns.{text_in, texts_in, IsBlank, AreEnds}
use Rattle.text_column.proofs.Ends.{all_rise}

-- more bytes after a part leave it as it is
part_stays : (bytes more : List ℕ) (a b : ℕ) → a ≤ b → b ≤ length bytes → slice_range (bytes ++ more) a b ≡ slice_range bytes a b
part_stays bytes more a b rises high =
    let left : length (drop a bytes) ≡ length bytes - a = length-drop a bytes in
    ap (take (b - a)) (drop-append-le a bytes more (omega (arith, rises, high)))
    ∙ take-append-le (b - a) (drop a bytes) more (omega (arith, left, rises, high))

text_stays : (bytes more : List ℕ) (a b : ℕ) (m : Mark) → a ≤ b → b ≤ length bytes → text_in (bytes ++ more) a b m ≡ text_in bytes a b m
text_stays bytes more a b HasNot rises high = ap Some (part_stays bytes more a b rises high)
text_stays bytes more a b Has rises high = ap Some (part_stays bytes more a b rises high)
text_stays bytes more a b Open rises high = refl

-- and so they leave the texts as they are, after which one more is
texts_more : (bytes more : List ℕ) (start : ℕ) (ends : List ℕ) (marks : List Mark) (size e : ℕ) (m : Mark)
    → AreEnds start ends marks size → size ≤ length bytes
    → texts_in (bytes ++ more) start (ends ++ e ∷ []) (marks ++ m ∷ []) ≡ texts_in bytes start ends marks ++ text_in (bytes ++ more) size e m ∷ []
texts_more bytes more start [] [] size e m h high = ap (λ s. text_in (bytes ++ more) s e m ∷ []) h
texts_more bytes more start [] (n ∷ ms) size e m h high = absurd h
texts_more bytes more start (f ∷ es) [] size e m h high = absurd h
texts_more bytes more start (f ∷ es) (n ∷ ms) size e m h high =
    let before : f ≤ size = all_rise f es ms size h.2 in
    ap (λ t. t ∷ texts_in (bytes ++ more) f (es ++ e ∷ []) (ms ++ m ∷ [])) (text_stays bytes more start f n h.0 (omega (arith, before, high)))
    ∙ ap (λ ts. text_in bytes start f n ∷ ts) (texts_more bytes more f es ms size e m h.2 high)

ends_more : (start : ℕ) (ends : List ℕ) (marks : List Mark) (size e : ℕ) (m : Mark) → AreEnds start ends marks size → size ≤ e
    → IsBlank size e m → AreEnds start (ends ++ e ∷ []) (marks ++ m ∷ []) e
ends_more start [] [] size e m h rises blank =
    subst (λ s. AreEnds s (e ∷ []) (m ∷ []) e) (sym h) (rises, blank, refl)
ends_more start [] (n ∷ ms) size e m h rises blank = absurd h
ends_more start (f ∷ es) [] size e m h rises blank = absurd h
ends_more start (f ∷ es) (n ∷ ms) size e m h rises blank = (h.0, h.1, ends_more f es ms size e m h.2 rises blank)

-- the bytes at the end
part_at_end : (bytes more : List ℕ) → slice_range (bytes ++ more) (length bytes) (length (bytes ++ more)) ≡ more
part_at_end bytes more =
    let count : length (bytes ++ more) ≡ length bytes + length more = length-append bytes more in
    let all : length more ≤ length (bytes ++ more) - length bytes = omega (arith, count) in
    ap (take (length (bytes ++ more) - length bytes)) (drop_at bytes more (length bytes) refl)
    ∙ take_all (length (bytes ++ more) - length bytes) more all

-- a text that is kept: the vectors after it was put at the end of each
pub kept_ends : (bytes more after : List ℕ) (ends : List ℕ) (marks : List Mark) → AreEnds 0 ends marks (length bytes) → after ≡ bytes ++ more
    → AreEnds 0 (ends ++ length after ∷ []) (marks ++ HasNot ∷ []) (length after)
kept_ends bytes more after ends marks h is =
    let count : length after ≡ length bytes + length more = ap length is ∙ length-append bytes more in
    ends_more 0 ends marks (length bytes) (length after) HasNot h (omega (arith, count)) tt

pub kept_texts : (bytes more after : List ℕ) (ends : List ℕ) (marks : List Mark) → AreEnds 0 ends marks (length bytes) → after ≡ bytes ++ more
    → texts_in after 0 (ends ++ length after ∷ []) (marks ++ HasNot ∷ []) ≡ texts_in bytes 0 ends marks ++ Some more ∷ []
kept_texts bytes more after ends marks h is =
    ap (λ bs. texts_in bs 0 (ends ++ length bs ∷ []) (marks ++ HasNot ∷ [])) is
    ∙ texts_more bytes more 0 ends marks (length bytes) (length (bytes ++ more)) HasNot h (omega arith)
    ∙ ap (λ t. texts_in bytes 0 ends marks ++ Some t ∷ []) (part_at_end bytes more)

-- a text that is left out
pub open_ends : (bytes : List ℕ) (ends : List ℕ) (marks : List Mark) → AreEnds 0 ends marks (length bytes)
    → AreEnds 0 (ends ++ length bytes ∷ []) (marks ++ Open ∷ []) (length bytes)
open_ends bytes ends marks h = ends_more 0 ends marks (length bytes) (length bytes) Open h (omega arith) refl

pub open_texts : (bytes : List ℕ) (ends : List ℕ) (marks : List Mark) → AreEnds 0 ends marks (length bytes)
    → texts_in bytes 0 (ends ++ length bytes ∷ []) (marks ++ Open ∷ []) ≡ texts_in bytes 0 ends marks ++ None ∷ []
open_texts bytes ends marks h =
    ap (λ bs. texts_in bs 0 (ends ++ length bytes ∷ []) (marks ++ Open ∷ [])) (sym (append-nil bytes))
    ∙ texts_more bytes [] 0 ends marks (length bytes) (length bytes) Open h (omega arith)
