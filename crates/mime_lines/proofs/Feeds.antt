-- The first LF of a text, found block by block.
use Rattle.std.proofs.Common.{◌≡◌, ℕ, ◌+◌, ◌-◌, ◌<◌, ◌≤◌, Bool, true, false, eqb, not, List, length, get_or, take, drop, refl, ap, sym, ◌∙◌, inl, inr, arith}
use Rattle.std.specs.List.{prefix_len}
use Rattle.std.proofs.lemmas.Bool.{cases_lt, true≢false}
use Rattle.std.proofs.lemmas.List.{get_or-take, get_or-drop, length-take-le, length-drop}
use Rattle.std.proofs.lemmas.List.Sums.{prefix_len_passes, prefix_len_stops, prefix_len-le-length}
use Rattle.memchr.specs.Find.{Nowhere, Passes, is_byte}

abbrev other : ℕ → Bool
other b = not (eqb b 10)

no_longer : (v : Bool) → not v ≡ true → v ≡ true → ⊥
no_longer true h e = true≢false (sym h)
no_longer false h e = true≢false (sym e)

there : (v : Bool) → not v ≡ false → v ≡ true
there true h = refl
there false h = absurd (true≢false h)

-- a byte of the block from here on
byte_at : (text : List ℕ) (at k : ℕ) → k < 32 → get_or (take 32 (drop at text)) k 0 ≡ get_or text (at + k) 0
byte_at text at k low = get_or-take 32 (drop at text) k 0 low ∙ get_or-drop at text k 0

pub whole_block : (text : List ℕ) (at len : ℕ) → at + 32 ≤ length text → len ≡ prefix_len other (take 32 (drop at text)) → len ≤ 32
whole_block text at len long same =
    omega (arith, same, prefix_len-le-length other (take 32 (drop at text)), length-take-le 32 (drop at text) (omega (arith, long, length-drop at text)))

-- none is before the first of the block
pub none_to : (text : List ℕ) (at len : ℕ) → at + 32 ≤ length text → len ≤ 32 → len ≡ prefix_len other (take 32 (drop at text))
    → Nowhere (Passes (is_byte 10) text) 0 at → Nowhere (Passes (is_byte 10) text) 0 (at + len)
none_to text at len long within same before k low high here =
    elim (cases_lt k at) as (λ _. ⊥) [
      | inl h ↦ before k low h here
      | inr h ↦
          let i = k - at in
          let is : at + i ≡ k = omega (arith, h) in
          let small : i < len = omega (arith, h, high) in
          no_longer _ (prefix_len_passes other (take 32 (drop at text)) i 0 (omega (arith, small, same)))
          (ap (λ b. eqb b 10) (byte_at text at i (omega (arith, small, within)) ∙ ap (λ n. get_or text n 0) is) ∙ here)
    ]

-- the first of the block
pub first_at : (text : List ℕ) (at len : ℕ) → at + 32 ≤ length text → len < 32 → len ≡ prefix_len other (take 32 (drop at text))
    → Passes (is_byte 10) text (at + len)
first_at text at len long within same =
    let block = take 32 (drop at text) in
    let size : length block ≡ 32 = length-take-le 32 (drop at text) (omega (arith, long, length-drop at text)) in
    ap (λ b. eqb b 10) (sym (byte_at text at len within))
    ∙ there _ (ap (λ n. other (get_or block n 0)) same ∙ prefix_len_stops other block 0 (omega (arith, same, within, size)))

-- none is before the first of the rest
pub none_then : (text : List ℕ) (at len : ℕ) → Nowhere (Passes (is_byte 10) text) 0 at → Nowhere (Passes (is_byte 10) (drop at text)) 0 len
    → Nowhere (Passes (is_byte 10) text) 0 (at + len)
none_then text at len before after k low high here =
    elim (cases_lt k at) as (λ _. ⊥) [
      | inl h ↦ before k low h here
      | inr h ↦
          let is : at + (k - at) ≡ k = omega (arith, h) in
          after (k - at) (omega arith) (omega (arith, h, high)) (ap (λ b. eqb b 10) (get_or-drop at text (k - at) 0 ∙ ap (λ n. get_or text n 0) is) ∙ here)
    ]
