use Rattle.std.proofs.Common.{◌≡◌, ◌<◌, ◌+◌, ◌++◌, ◌∷◌, [], List, ℕ, take, length, get_or, sym, ap₂, ◌∙◌, arith}
use Rattle.std.proofs.lemmas.List.{take_more}
use Rattle.mail_records.proofs.entry_keys.is_same_texts.Goals as goal

grown : (xs ys : List (List ℕ)) (i : ℕ) (x y : List ℕ) → i < length xs → length xs ≡ length ys → x ≡ get_or xs i x → y ≡ get_or ys i y → x ≡ y → take i xs ≡ take i ys
    → take (i + 1) xs ≡ take (i + 1) ys
grown xs ys i x y lt len at there same front =
    take_more xs i x lt
    ∙ (ap₂ (λ zs z. zs ++ z ∷ []) front (sym at ∙ (same ∙ there)) ∙ sym (take_more ys i y (omega arith)))

pub loop-index-preserved : goal.loop-index-preserved
loop-index-preserved c =
    grown c.args.one.now c.args.other.now c.loop-index.index c.index-one-index.result c.index-other-index.result (omega arith) (omega arith)
    c.index-one-index.is c.index-other-index.is (c.is_same_text.ensures c.if-not-is_same_text.false) c.loop-index.invariant
