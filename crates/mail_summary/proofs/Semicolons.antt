-- What follows the last semicolon outside comments.
use Rattle.std.proofs.Common.{◌≡◌, ℕ, Bool, true, false, ◌||◌, cond, eqb, List, [], ◌∷◌, ◌++◌, Some, None, refl, ap, ◌∙◌, codes}
use Rattle.std.specs.List.{list_any}
use Rattle.std.specs.Option.{option_or, option_and_then}
use Rattle.std.proofs.lemmas.Bool.{true≢false}
use Rattle.mail_text.specs.declared.comment.State.{State}
use Rattle.mail_text.specs.declared.comment.State.TheVariants.{Outside, Inside, Escaped}
use Rattle.mail_text.specs.Comments.{next, after_text}
use Rattle.header_forms.specs.Dates.{utc_of}
use Rattle.header_forms.specs.Texts.{on_one_line}
use Rattle.mail_summary.specs.Received.{is_mark, after_last, first_value_of, received, timestamp_after}

or_false : (p q : Bool) → (p || q) ≡ false → (p ≡ false) × (q ≡ false)
or_false true q h = absurd (true≢false h)
or_false false q h = (refl, h)

no_mark : (state : State) (b : ℕ) → eqb b 59 ≡ false → is_mark state b ≡ false
no_mark Outside b h = h
no_mark (Inside depth) b h = refl
no_mark (Escaped depth) b h = refl

none_after : (text : List ℕ) (state : State) → list_any (λ b. eqb b 59) text ≡ false → after_last state text ≡ None
none_after [] state h = refl
none_after (b ∷ bs) state h =
    let both = or_false (eqb b 59) (list_any (λ c. eqb c 59) bs) h in
    ap (λ o. option_or o (cond (is_mark state b) (Some bs) None)) (none_after bs (next state b) both.1)
    ∙ ap (λ v. option_or None (cond v (Some bs) None)) (no_mark state b both.0)

last_at : (front back : List ℕ) (state : State) → after_text state front ≡ Outside → list_any (λ b. eqb b 59) back ≡ false
    → after_last state (front ++ 59 ∷ back) ≡ Some back
last_at [] back state out none =
    ap (λ s. after_last s (59 ∷ back)) out ∙ ap (λ o. option_or o (Some back)) (none_after back Outside none)
last_at (b ∷ bs) back state out none =
    ap (λ o. option_or o (cond (is_mark state b) (Some (bs ++ 59 ∷ back)) None)) (last_at bs back (next state b) out none)

pub date_after : (front back : List ℕ) → after_text Outside front ≡ Outside → list_any (λ b. eqb b 59) back ≡ false
    → after_last Outside (front ++ 59 ∷ back) ≡ Some back
date_after front back out none = last_at front back Outside out none

-- of a whole field on one line
pub field_date : (value front back : List ℕ) → on_one_line value ≡ front ++ 59 ∷ back
    → after_text Outside front ≡ Outside → list_any (λ b. eqb b 59) back ≡ false
    → timestamp_after value ≡ utc_of back
field_date value front back line out none =
    ap (λ (l : List ℕ). option_and_then utc_of (after_last Outside l)) line
    ∙ ap (option_and_then utc_of) (date_after front back out none)

-- of the first Received field of a message
pub message_date : (bytes value front back : List ℕ)
    → first_value_of bytes (codes "Received") ≡ Some value
    → on_one_line value ≡ front ++ 59 ∷ back → after_text Outside front ≡ Outside
    → list_any (λ b. eqb b 59) back ≡ false → received bytes ≡ utc_of back
message_date bytes value front back first line out none =
    ap (option_and_then timestamp_after) first ∙ field_date value front back line out none
