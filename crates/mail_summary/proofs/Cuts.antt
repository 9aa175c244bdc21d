-- The last byte offset at which a text may be cut.
use Rattle.std.proofs.Common.{◌≡◌, ℕ, zero, suc, ◌<◌, ◌≤◌, Bool, true, false, not, ◌&&◌, eqb, cond, List, length, take, refl, sym, ap, subst, ◌∙◌, ⊎_elim, arith}
use Rattle.std.specs.Fmt.{is_char_start}
use Rattle.std.specs.Fmt.Cut.{floor_char_boundary}
use Rattle.std.specs.Str.{IsCharBoundary}
use Rattle.std.proofs.lemmas.Bool.{lt-ltb, le-ltb, le-leb, lt-leb, cases_lt, false≢true}
use Rattle.mail_summary.specs.Texts.{is_cut, cut_to}

starts : (b : ℕ) → (128 ≤ b → 192 ≤ b) → is_char_start b ≡ true
starts b h = ⊎_elim (λ low. rw (lt-ltb b 128 low) refl) (λ high. rw (le-ltb b 128 high, le-leb 192 b (h high)) refl) (cases_lt b 128)

continues : (b : ℕ) → ¬ (128 ≤ b → 192 ≤ b) → is_char_start b ≡ false
continues b h = ⊎_elim (λ low. absurd (h (λ high. omega arith)))
    (λ high. ⊎_elim (λ mid. rw (le-ltb b 128 high, lt-leb 192 b mid) refl) (λ top. absurd (h (λ _. top))) (cases_lt b 192)) (cases_lt b 128)

floor_is : (bs : List ℕ) (i kept : ℕ) → i < length bs → kept ≤ i → IsCharBoundary bs kept → ((j : ℕ) → kept < j → j ≤ i → ¬ (IsCharBoundary bs j)) → floor_char_boundary bs i ≡ kept
unfolding floor_char_boundary
floor_is bs zero kept within below last none = omega arith
floor_is bs (suc i) kept within below last none = ⊎_elim
    (λ less. ap (λ t. cond t (suc i) (floor_char_boundary bs i)) (continues _ (λ h. none (suc i) less (omega arith) (omega arith, λ _. h)))
    ∙ floor_is bs i kept (omega arith) (omega arith) last (λ j p q. none j p (omega arith)))
    (λ above. let same : kept ≡ suc i = omega arith in
    ap (λ t. cond t (suc i) (floor_char_boundary bs i)) (starts _ ((subst (IsCharBoundary bs) same last).1 within)) ∙ sym same)
    (cases_lt kept (suc i))

and_false : (b : Bool) → (b && false) ≡ false
and_false true = refl
and_false false = refl

cut_within : (most : ℕ) (text : List ℕ) → is_cut most text ≡ true → most < length text
cut_within most text is = ⊎_elim (λ less. less)
    (λ more. absurd (false≢true (sym (ap (λ t. not (eqb most 0) && t) (le-ltb most (length text) more) ∙ and_false (not (eqb most 0))) ∙ is)))
    (cases_lt most (length text))

-- a text that is cut at the last offset of a character up to here
pub cut_taken : (most : ℕ) (text : List ℕ) (kept : ℕ) → is_cut most text ≡ true → kept ≤ most → IsCharBoundary text kept → ((j : ℕ) → kept < j → j ≤ most → ¬ (IsCharBoundary text j))
    → cut_to most text ≡ take kept text
cut_taken most text kept is below last none =
    ap (λ t. cond t (take (floor_char_boundary text most) text) text) is ∙ ap (λ n. take n text) (floor_is text most kept (cut_within most text is) below last none)
