-- What is before the first CR of a text stays.
use Rattle.std.proofs.Common.{◌≡◌, ◌≢◌, ℕ, zero, suc, ◌+◌, ◌<◌, ◌≤◌, Bool, true, false, eqb, ◌&&◌, cond, List, [], ◌∷◌, ◌++◌, length, get_or, take, drop, refl, ap, subst, ◌∙◌, append-nil, append_assoc, length-append, sym, arith}
use Rattle.std.specs.Str.{IsUtf8}
use Rattle.std.proofs.Math.Seq.{take-append_seam, drop-append-add}
use Rattle.std.proofs.lemmas.Bool.{eqb-true, ne_eqb}
use Rattle.std.proofs.lemmas.List.{get_or-take, length-take-le, take-take}
use Rattle.std.proofs.lemmas.Str.{IsUtf8-append, IsUtf8-take, IsUtf8-drop, IsCharBoundary-before_ascii, IsCharBoundary-after_ascii}
use Rattle.mail_summary.specs.Texts.{is_line_feed, with_line_feeds}

pub lines_front : (front rest : List ℕ) → ((i : ℕ) → i < length front → get_or front i 0 ≢ 13) → with_line_feeds (front ++ rest) ≡ front ++ with_line_feeds rest
lines_front [] rest none = refl
lines_front (b ∷ bs) rest none =
    ap (λ t. cond (t && is_line_feed (bs ++ rest)) (with_line_feeds (bs ++ rest)) (b ∷ with_line_feeds (bs ++ rest))) (ne_eqb b 13 (none 0 (omega arith)))
    ∙ ap (λ t. b ∷ t) (lines_front bs rest (λ i low. none (suc i) (omega arith)))

pub lines_last : (text : List ℕ) → ((i : ℕ) → i < length text → get_or text i 0 ≢ 13) → with_line_feeds text ≡ text
lines_last text none = ap with_line_feeds (sym (append-nil text)) ∙ lines_front text [] none ∙ append-nil text

-- UTF-8 stays UTF-8
first_true : (p q : Bool) → (p && q) ≡ true → p ≡ true
first_true true q e = refl
first_true false q e = e

at_seam : (xs ys : List ℕ) (b : ℕ) → get_or (xs ++ (b ∷ ys)) (length xs) 0 ≡ b
at_seam [] ys b = refl
at_seam (x ∷ xs) ys b = at_seam xs ys b

past_return : (front rest : List ℕ) → IsUtf8 (front ++ (13 ∷ rest)) → IsUtf8 front × IsUtf8 rest
past_return front rest whole =
    let bs = front ++ (13 ∷ rest) in
    let i = length front in
    let here : get_or bs i 0 ≡ 13 = at_seam front rest 13 in
    let low : get_or bs i 0 < 128 = omega (arith, here) in
    let inside : i < length bs = omega (arith, length-append front (13 ∷ rest)) in (
      subst IsUtf8 (take-append_seam front (13 ∷ rest)) (IsUtf8-take bs i whole (IsCharBoundary-before_ascii bs i inside low)),
      subst IsUtf8 (drop-append-add front (13 ∷ rest) 1) (IsUtf8-drop bs (i + 1) whole (IsCharBoundary-after_ascii bs i whole inside low)),
    )

kept : (front text : List ℕ) → IsUtf8 (front ++ text) → IsUtf8 (front ++ with_line_feeds text)
kept front [] whole = whole
kept front (b ∷ bs) whole =
    elim (eqb b 13 && is_line_feed bs)
    as (λ v. (eqb b 13 && is_line_feed bs) ≡ v → IsUtf8 (front ++ cond v (with_line_feeds bs) (b ∷ with_line_feeds bs))) [
      | true ↦ λ e.
          let is : b ≡ 13 = eqb-true b 13 (first_true (eqb b 13) (is_line_feed bs) e) in
          let parts = past_return front bs (subst (λ c. IsUtf8 (front ++ (c ∷ bs))) is whole) in
          IsUtf8-append front (with_line_feeds bs) parts.0 (kept [] bs parts.1)
      | false ↦ λ e.
          subst IsUtf8 (append_assoc front (b ∷ []) (with_line_feeds bs))
          (kept (front ++ (b ∷ [])) bs (subst IsUtf8 (sym (append_assoc front (b ∷ []) bs)) whole))
    ] refl

pub utf8_stays : (text : List ℕ) → IsUtf8 text → IsUtf8 (with_line_feeds text)
utf8_stays text whole = kept [] text whole

-- a text whose first CR is here
split_here : (text : List ℕ) (i : ℕ) → i < length text → get_or text i 0 ≡ 13 → text ≡ take i text ++ (13 ∷ drop (suc i) text)
split_here [] i inside here = absurd (omega arith)
split_here (b ∷ bs) zero inside here = ap (λ c. c ∷ bs) here
split_here (b ∷ bs) (suc i) inside here = ap (λ t. b ∷ t) (split_here bs i (omega arith) here)

pub at_return : (text block : List ℕ) (n i : ℕ) → block ≡ take n text → i < n → n ≤ length text → get_or block i 0 ≡ 13
    → ((k : ℕ) → k < i → get_or block k 0 ≢ 13) → with_line_feeds text ≡ take i block ++ with_line_feeds (13 ∷ drop (i + 1) text)
at_return text block n i is low long here none =
    let inside : i < length text = omega (arith, low, long) in
    let at : get_or text i 0 ≡ 13 = sym (ap (λ t. get_or t i 0) is ∙ get_or-take n text i 0 low) ∙ here in
    let same : take i block ≡ take i text = ap (take i) is ∙ take-take i n text (omega (arith, low)) in
    let one : suc i ≡ i + 1 = omega arith in
    let front : text ≡ take i block ++ (13 ∷ drop (i + 1) text) =
    split_here text i inside at ∙ ap (λ t. t ++ (13 ∷ drop (suc i) text)) (sym same) ∙ ap (λ n. take i block ++ (13 ∷ drop n text)) one in
    let size : length (take i block) ≡ i = ap length same ∙ length-take-le i text (omega (arith, inside)) in
    ap with_line_feeds front
    ∙ lines_front (take i block) (13 ∷ drop (i + 1) text) (λ k small e. none k (omega (arith, small, size)) (sym (get_or-take i block k 0 (omega (arith, small, size))) ∙ e))
