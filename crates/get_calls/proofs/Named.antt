-- A record by its id, and by its number.
use Rattle.std.proofs.Common.{◌≡◌, ◌≢◌, ℕ, ◌<◌, ◌≤◌, List, [], ◌∷◌, Bool, true, false, ◌&&◌, cond, Some, None, Decides, refl, arith, sym, ap, subst, ◌∙◌, decimal}
use Rattle.std.specs.Prelude.{nat_le, ◌==◌}
use Rattle.std.specs.Str.{bytes_eq}
use Rattle.std.proofs.lemmas.Fmt.{decimal_injective}
use Rattle.std.proofs.lemmas.Bool.Decides.{same_from_decides, Decides-like, Decides-and, Decides-eqb, Decides-ltb, nat_tests}
use Rattle.std.proofs.lemmas.Slice.Eq.{bytes_eq-Decides}
use Rattle.jm_base.specs.Ids.{IsId, id_text, kind_letter}
use Rattle.jm_base.specs.declared.identifiers.Id.{Id}
use Rattle.jm_base.specs.declared.identifiers.Kind.{Kind}
use Rattle.jm_base.specs.declared.identifiers.Kind.TheVariants.{Mailbox as OfMailbox, Email as OfEmail, Thread as OfThread}
use Rattle.jm_base.specs.declared.identifiers.TheConstants.{NUMBER_LIMIT}
use Rattle.mail_records.specs.Tables.{lookup}
use Rattle.mail_view.specs.Records.{is_id_text, record_named}

abbrev text_of : Kind → ℕ → List ℕ
text_of kind n = id_text (record { kind = kind; number = n })

abbrev IsIdText : Kind → List ℕ → ℕ → Type 0
IsIdText kind id a = ((1 ≤ a) × (a < NUMBER_LIMIT)) × (text_of kind a ≡ id)

decides_from_one : (a : ℕ) → Decides (nat_le 1 a) (1 ≤ a)
decides_from_one a = (λ e. grind (arith, nat_tests), λ h. grind (arith, nat_tests))

decides_text : (kind : Kind) (id : List ℕ) (a : ℕ) → Decides (is_id_text kind id a) (IsIdText kind id a)
decides_text kind id a = Decides-and _ _ (Decides-and _ _ (decides_from_one a) (Decides-ltb a NUMBER_LIMIT)) (bytes_eq-Decides (text_of kind a) id)

one_number : (kind : Kind) (n a : ℕ) → n < NUMBER_LIMIT → IsIdText kind (text_of kind n) a → a ≡ n
one_number kind n a below w = decimal_injective a n (omega (arith, w.0.1)) (omega (arith, below)) (let same = w.1 in cc)

is_text_of : (kind : Kind) (n a : ℕ) → 1 ≤ n → n < NUMBER_LIMIT → a ≡ n → IsIdText kind (text_of kind n) a
is_text_of kind n a one below e = subst (IsIdText kind (text_of kind n)) (sym e) ((one, below), refl)

same_test : (kind : Kind) (n a : ℕ) → 1 ≤ n → n < NUMBER_LIMIT → is_id_text kind (text_of kind n) a ≡ (a == n)
same_test kind n a one below =
    same_from_decides _ _ (Decides-like _ (one_number kind n a below) (is_text_of kind n a one below) (decides_text kind (text_of kind n) a)) (Decides-eqb a n)

-- an id names the record of its number
named_by_number : {A : Type 0} (kind : Kind) (number_of : A → ℕ) (n : ℕ) (rows : List A) → 1 ≤ n → n < NUMBER_LIMIT → record_named kind number_of rows (text_of kind n) ≡ lookup number_of n rows
named_by_number kind number_of n [] one below = refl
named_by_number kind number_of n (m ∷ ms) one below =
    rw (same_test kind n (number_of m) one below) (ap (λ o. cond (number_of m == n) (Some m) o) (named_by_number kind number_of n ms one below))

false_unless : (b : Bool) → (b ≡ true → ⊥) → b ≡ false
false_unless false never = refl
false_unless true never = absurd (never refl)

-- a string that is an id names the record of its number
pub named_by_id : {A : Type 0} (kind : Kind) (number_of : A → ℕ) (i : Id) (id : List ℕ) (rows : List A) → IsId i → id ≡ id_text i → i.kind ≡ kind
    → record_named kind number_of rows id ≡ lookup number_of i.number rows
named_by_id kind number_of i id rows good same of_kind =
    let text : id ≡ text_of kind i.number = same ∙ ap (λ k. kind_letter k ∷ decimal i.number) of_kind in
    ap (record_named kind number_of rows) text ∙ named_by_number kind number_of i.number rows good.from_one good.below

-- a string that is no id of the kind names none
named_none : {A : Type 0} (kind : Kind) (number_of : A → ℕ) (id : List ℕ) (rows : List A) → ((a : ℕ) → IsIdText kind id a → ⊥) → record_named kind number_of rows id ≡ None
named_none kind number_of id [] never = refl
named_none kind number_of id (m ∷ ms) never =
    rw (false_unless (is_id_text kind id (number_of m)) (λ e. never (number_of m) ((decides_text kind id (number_of m)).0 e))) (named_none kind number_of id ms never)

-- a string that is no id at all names none
pub named_by_no_id : {A : Type 0} (kind : Kind) (number_of : A → ℕ) (id : List ℕ) (rows : List A) → ((i : Id) → IsId i → id ≢ id_text i) → record_named kind number_of rows id ≡ None
named_by_no_id kind number_of id rows never =
    named_none kind number_of id rows (λ a w. never (record { kind = kind; number = a }) (record { from_one = w.0.0; below = w.0.1 }) (sym w.1))

same_kind : (k l : Kind) → kind_letter k ≡ kind_letter l → k ≡ l
same_kind OfMailbox OfMailbox e = refl
same_kind OfMailbox OfEmail e = absurd (omega (arith, e))
same_kind OfMailbox OfThread e = absurd (omega (arith, e))
same_kind OfEmail OfMailbox e = absurd (omega (arith, e))
same_kind OfEmail OfEmail e = refl
same_kind OfEmail OfThread e = absurd (omega (arith, e))
same_kind OfThread OfMailbox e = absurd (omega (arith, e))
same_kind OfThread OfEmail e = absurd (omega (arith, e))
same_kind OfThread OfThread e = refl

-- an id of another kind names none
pub named_by_other_kind : {A : Type 0} (kind : Kind) (number_of : A → ℕ) (i : Id) (id : List ℕ) (rows : List A) → id ≡ id_text i → i.kind ≢ kind → record_named kind number_of rows id ≡ None
named_by_other_kind kind number_of i id rows text other =
    named_none kind number_of id rows (λ a w. other (sym (same_kind kind i.kind (let same = w.1 ∙ text in cc))))
