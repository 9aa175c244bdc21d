-- The last edit of each email, as edits are entered.
use Rattle.std.proofs.Common.{◌≡◌, ℕ, zero, suc, ◌<◌, Bool, true, false, cond, eqb, List, [], ◌∷◌, ◌++◌, length, Option, Some, None, refl, sym, ap, ◌∙◌, arith}
use Rattle.std.specs.List.{slice_get}
use Rattle.std.specs.Option.{option_or}
use Rattle.std.proofs.lemmas.Option.{none-some, same_Some}
use Rattle.jm_base.specs.declared.identifiers.Kind.{Kind}
use Rattle.jm_base.specs.declared.identifiers.Kind.TheVariants.{Email as OfEmail}
use Rattle.mail_counts.specs.Overlay.{if_of, last_edit}
use Rattle.mail_records.specs.declared.edits.Edit.{Edit}
use Rattle.mail_records.specs.declared.edits.Edit.TheVariants.{PutMailbox, DropMailbox, PutEmail, DropEmail, PutThread, DropThread}
use Rattle.email_set.specs.Views.{edit_at, email_named_by}

-- ---- lists

pushed_at : (es : List Edit) (e : Edit) (i : ℕ) → i < length es → slice_get (es ++ e ∷ []) i ≡ slice_get es i
pushed_at [] e i lt = absurd (omega (arith, lt))
pushed_at (x ∷ es) e zero lt = refl
pushed_at (x ∷ es) e (suc i) lt = pushed_at es e i (omega (arith, lt))

pushed_last : (es : List Edit) (e : Edit) → slice_get (es ++ e ∷ []) (length es) ≡ Some e
pushed_last [] e = refl
pushed_last (x ∷ es) e = pushed_last es e

pushed_edit : (es : List Edit) (e : Edit) (o : Option ℕ) → ((i : ℕ) → o ≡ Some i → i < length es) → edit_at (es ++ e ∷ []) o ≡ edit_at es o
pushed_edit es e None within = refl
pushed_edit es e (Some i) within = pushed_at es e i (within i refl)

-- ---- last edits

or_none : (o : Option Edit) → option_or o None ≡ o
or_none None = refl
or_none (Some e) = refl

or_later : (a b c : Option Edit) → option_or (option_or a b) c ≡ option_or a (option_or b c)
or_later None b c = refl
or_later (Some a) b c = refl

last_push : (kind : Kind) (n : ℕ) (es : List Edit) (e : Edit) → last_edit kind n (es ++ e ∷ []) ≡ option_or (if_of kind n e) (last_edit kind n es)
last_push kind n [] e = sym (or_none (if_of kind n e))
last_push kind n (x ∷ es) e = ap (λ o. option_or o (if_of kind n x)) (last_push kind n es e) ∙ or_later (if_of kind n e) (last_edit kind n es) (if_of kind n x)

-- an edit of an email is that of its number, and another edit is of no email
of_named : (e : Edit) (number n : ℕ) → email_named_by e ≡ Some number → if_of OfEmail n e ≡ cond (eqb number n) (Some e) None
of_named (PutEmail item was) number n is = ap (λ k. cond (eqb k n) (Some (PutEmail item was)) None) (same_Some item.number number is)
of_named (DropEmail m t) number n is = ap (λ k. cond (eqb k n) (Some (DropEmail m t)) None) (same_Some m number is)
of_named (PutMailbox item was counts) number n is = absurd (none-some number is)
of_named (DropMailbox m) number n is = absurd (none-some number is)
of_named (PutThread item was) number n is = absurd (none-some number is)
of_named (DropThread m) number n is = absurd (none-some number is)

of_none : (e : Edit) (n : ℕ) → email_named_by e ≡ None → if_of OfEmail n e ≡ None
of_none (PutEmail item was) n is = absurd (none-some item.number (sym is))
of_none (DropEmail m t) n is = absurd (none-some m (sym is))
of_none (PutMailbox item was counts) n is = refl
of_none (DropMailbox m) n is = refl
of_none (PutThread item was) n is = refl
of_none (DropThread m) n is = refl

-- ---- an edit more

pub last_with : (es : List Edit) (e : Edit) (number n : ℕ) (was now : Option ℕ) → email_named_by e ≡ Some number → now ≡ cond (eqb number n) (Some (length es)) was
    → ((i : ℕ) → was ≡ Some i → i < length es) → edit_at es was ≡ last_edit OfEmail n es → edit_at (es ++ e ∷ []) now ≡ last_edit OfEmail n (es ++ e ∷ [])
last_with es e number n was now named is within known =
    ap (edit_at (es ++ e ∷ [])) is
    ∙ (step (eqb number n)
    ∙ sym (last_push OfEmail n es e ∙ ap (λ o. option_or o (last_edit OfEmail n es)) (of_named e number n named)))
  where
    step : (b : Bool) → edit_at (es ++ e ∷ []) (cond b (Some (length es)) was) ≡ option_or (cond b (Some e) None) (last_edit OfEmail n es)
    step true = pushed_last es e
    step false = pushed_edit es e was within ∙ known

pub last_without : (es : List Edit) (e : Edit) (n : ℕ) (was : Option ℕ) → email_named_by e ≡ None
    → ((i : ℕ) → was ≡ Some i → i < length es) → edit_at es was ≡ last_edit OfEmail n es → edit_at (es ++ e ∷ []) was ≡ last_edit OfEmail n (es ++ e ∷ [])
last_without es e n was none within known =
    pushed_edit es e was within ∙ (known ∙ sym (last_push OfEmail n es e ∙ ap (λ o. option_or o (last_edit OfEmail n es)) (of_none e n none)))

length_more : (es : List Edit) (e : Edit) → length (es ++ e ∷ []) ≡ suc (length es)
length_more [] e = refl
length_more (x ∷ es) e = ap suc (length_more es e)

pub longer : (es : List Edit) (e : Edit) (i : ℕ) → i < length es → i < length (es ++ e ∷ [])
longer es e i less = let more = length_more es e in omega (arith, less, more)

-- the indices stay within the edits
pub within_with : (es : List Edit) (e : Edit) (number n : ℕ) (was now : Option ℕ) → now ≡ cond (eqb number n) (Some (length es)) was
    → ((i : ℕ) → was ≡ Some i → i < length es) → (i : ℕ) → now ≡ Some i → i < length (es ++ e ∷ [])
within_with es e number n was now is within i at = step (eqb number n) (sym is ∙ at)
  where
    step : (b : Bool) → cond b (Some (length es)) was ≡ Some i → i < length (es ++ e ∷ [])
    step true h = let same = same_Some (length es) i h in let more = length_more es e in omega (arith, same, more)
    step false h = let less = within i h in let more = length_more es e in omega (arith, less, more)
