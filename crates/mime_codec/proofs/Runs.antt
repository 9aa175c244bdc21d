-- What comes before an equals sign encodes itself.
use Rattle.std.proofs.Common.{◌≡◌, ℕ, zero, suc, ◌+◌, ◌-◌, ◌<◌, ◌≤◌, Bool, true, false, eqb, not, List, [], ◌∷◌, ◌++◌, length, get_or, take, drop, refl, ap, sym, ◌∙◌, arith}
use Rattle.std.specs.List.{prefix_len}
use Rattle.std.proofs.lemmas.Bool.{false≢true}
use Rattle.std.proofs.lemmas.List.{drop-drop, drop-take, get_or-take, length-take-le, take-take}
use Rattle.std.proofs.lemmas.List.Sums.{prefix_len_passes, prefix_len-le-length}
use Rattle.std.proofs.Math.Seq.{take-append-add}
use Rattle.mime_codec.specs.Quoted.{unescaped}

pub unescaped-plain : (b : ℕ) (bs : List ℕ) → eqb b 61 ≡ false → unescaped (b ∷ bs) ≡ b ∷ unescaped bs
unescaped-plain b [] h = refl
unescaped-plain b (c ∷ []) h = refl
unescaped-plain b (c ∷ d ∷ bs) h = rw h refl

unescaped-run : (text : List ℕ) (n : ℕ) → n ≤ length text → ((k : ℕ) → k < n → eqb (get_or text k 0) 61 ≡ false)
    → unescaped text ≡ take n text ++ unescaped (drop n text)
unescaped-run text zero h none = refl
unescaped-run [] (suc n) h none = absurd (omega arith)
unescaped-run (b ∷ bs) (suc n) h none =
    rw (unescaped-plain b bs (none 0 (omega arith))) (ap (λ t. b ∷ t) (unescaped-run bs n (omega arith) (λ k low. none (suc k) (omega arith))))

abbrev other : ℕ → Bool
other b = not (eqb b 61)

is_other : (v : Bool) → not v ≡ true → v ≡ false
is_other true h = absurd (false≢true h)
is_other false h = refl

pub in_block : (text : List ℕ) (m : ℕ) → 32 ≤ length text → m ≡ prefix_len other (take 32 text) → m ≤ 32
in_block text m long same = omega (arith, same, prefix_len-le-length other (take 32 text), length-take-le 32 text long)

pub plain_front : (text : List ℕ) (m n len : ℕ) → 32 ≤ length text → m ≡ prefix_len other (take 32 text) → n ≤ m → n ≤ len → len ≤ length text
    → unescaped (take len text) ≡ take n text ++ unescaped (drop n (take len text))
plain_front text m n len long same before within inside =
    let front = take len text in
    let size : length front ≡ len = length-take-le len text inside in
    let block : m ≤ 32 = in_block text m long same in
    unescaped-run front n (omega (arith, size, within))
    (λ k low. ap (λ b. eqb b 61) (get_or-take len text k 0 (omega (arith, low, within)) ∙ sym (get_or-take 32 text k 0 (omega (arith, low, before, block))))
    ∙ is_other _ (prefix_len_passes other (take 32 text) k 0 (omega (arith, low, before, same))))
    ∙ ap (λ t. t ++ unescaped (drop n front)) (take-take n len text within)

-- a block that was copied whole, and cut
pub cut_to : (out more cut block : List ℕ) (before n : ℕ) → more ≡ out ++ block → cut ≡ take (before + n) more → before ≡ length out → cut ≡ out ++ take n block
cut_to out more cut block before n copied truncated size =
    truncated ∙ ap (take (before + n)) copied ∙ ap (λ k. take (k + n) (out ++ block)) size ∙ take-append-add out block n

pub cut_block : (out more cut block text : List ℕ) (before n : ℕ) → more ≡ out ++ block → cut ≡ take (before + n) more → before ≡ length out → block ≡ take 32 text → n ≤ 32
    → cut ≡ out ++ take n text
cut_block out more cut block text before n copied truncated size is small =
    cut_to out more cut block before n copied truncated size ∙ ap (λ t. out ++ t) (ap (take n) is ∙ take-take n 32 text small)

-- what is left of a text after its beginning, and after the beginning of that
pub left_of : (text : List ℕ) (n len : ℕ) → n ≤ len → take (len - n) (drop n text) ≡ drop n (take len text)
left_of text n len within =
    let whole : n + (len - n) ≡ len = omega (arith, within) in
    sym (drop-take n (len - n) text) ∙ ap (λ k. drop n (take k text)) whole

pub left_after : (text : List ℕ) (n size len : ℕ) → n ≤ len → drop size (take (len - n) (drop n text)) ≡ drop (n + size) (take len text)
left_after text n size len within = ap (drop size) (left_of text n len within) ∙ drop-drop size n (take len text)
