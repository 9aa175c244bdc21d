-- The parts of a date-time, one after the other.
use Rattle.std.proofs.Common.{◌≡◌, ℕ, List, [], ◌∷◌, ◌++◌, ap, ◌∙◌, append_assoc}

pub date_steps : (o a b c d e f day month year time zone : List ℕ) → a ≡ o ++ (32 ∷ (day ++ 32 ∷ month)) → b ≡ a ++ 32 ∷ [] → c ≡ b ++ year
    → d ≡ c ++ 32 ∷ [] → e ≡ d ++ time → f ≡ e ++ 32 ∷ [] → f ++ zone ≡ o ++ (32 ∷ (day ++ 32 ∷ (month ++ 32 ∷ (year ++ 32 ∷ (time ++ 32 ∷ zone)))))
date_steps o a b c d e f day month year time zone p q r s t u =
    let k = 32 ∷ zone in
    let l = 32 ∷ (time ++ k) in
    let m = 32 ∷ (year ++ l) in
    ap (λ x. x ++ zone) u ∙ append_assoc e (32 ∷ []) zone
    ∙ ap (λ x. x ++ k) t ∙ append_assoc d time k
    ∙ ap (λ x. x ++ (time ++ k)) s ∙ append_assoc c (32 ∷ []) (time ++ k)
    ∙ ap (λ x. x ++ l) r ∙ append_assoc b year l
    ∙ ap (λ x. x ++ (year ++ l)) q ∙ append_assoc a (32 ∷ []) (year ++ l)
    ∙ ap (λ x. x ++ m) p ∙ append_assoc o (32 ∷ (day ++ 32 ∷ month)) m
    ∙ ap (λ x. o ++ 32 ∷ x) (append_assoc day (32 ∷ month) m)
