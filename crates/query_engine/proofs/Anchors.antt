-- The record that an identifier is of, and its index in a list.
use Rattle.std.proofs.Common.{◌≡◌, ◌≢◌, ℕ, ◌+◌, ◌<◌, ◌≤◌, List, [], ◌∷◌, Bool, true, false, if◌then◌else◌, None, Decides, refl, arith, sym, ap, subst, ◌∙◌}
use Rattle.std.specs.Prelude.{nat_le, ◌==◌}
use Rattle.std.proofs.lemmas.Bool.{true≢false}
use Rattle.std.proofs.lemmas.Fmt.{decimal_injective}
use Rattle.std.proofs.lemmas.Bool.Decides.{same_from_decides, Decides-like, Decides-and, Decides-eqb, Decides-ltb, nat_tests}
use Rattle.std.proofs.lemmas.Slice.Eq.{bytes_eq-Decides}
use Rattle.jm_base.specs.Ids.{IsId, id_text, kind_letter}
use Rattle.jm_base.specs.declared.identifiers.Id.{Id}
use Rattle.jm_base.specs.declared.identifiers.Kind.{Kind}
use Rattle.jm_base.specs.declared.identifiers.Kind.TheVariants.{Mailbox as OfMailbox, Email as OfEmail, Thread as OfThread}
use Rattle.jm_base.specs.declared.identifiers.TheConstants.{NUMBER_LIMIT}
use Rattle.mail_records.specs.States.{is_kind}
use Rattle.query_engine.specs.Windows.{index_where, is_id_of}

abbrev id_at : Kind → ℕ → List ℕ
id_at kind n = id_text (record { kind = kind; number = n })

abbrev IsIdText : Kind → List ℕ → ℕ → Type 0
IsIdText kind id a = ((1 ≤ a) × (a < NUMBER_LIMIT)) × (id_at kind a ≡ id)

decides_from_one : (a : ℕ) → Decides (nat_le 1 a) (1 ≤ a)
decides_from_one a = (λ e. grind (arith, nat_tests), λ h. grind (arith, nat_tests))

decides_text : (kind : Kind) (id : List ℕ) (a : ℕ) → Decides (is_id_of kind id a) (IsIdText kind id a)
decides_text kind id a =
    Decides-and _ _ (Decides-and _ _ (decides_from_one a) (Decides-ltb a NUMBER_LIMIT)) (bytes_eq-Decides (id_at kind a) id)

abbrev rest_of : List ℕ → List ℕ
rest_of [] = []
rest_of (x ∷ xs) = xs

abbrev first_of : List ℕ → ℕ
first_of [] = 0
first_of (x ∷ xs) = x

one_number : (kind : Kind) (n a : ℕ) → n < NUMBER_LIMIT → IsIdText kind (id_at kind n) a → a ≡ n
one_number kind n a below w = decimal_injective a n (omega (arith, w.0.1)) (omega (arith, below)) (ap rest_of w.1)

is_text_of : (kind : Kind) (n a : ℕ) → 1 ≤ n → n < NUMBER_LIMIT → a ≡ n → IsIdText kind (id_at kind n) a
is_text_of kind n a one below e = subst (λ m. IsIdText kind (id_at kind n) m) (sym e) ((one, below), refl)

same_test : (kind : Kind) (n a : ℕ) → 1 ≤ n → n < NUMBER_LIMIT → is_id_of kind (id_at kind n) a ≡ (a == n)
same_test kind n a one below =
    same_from_decides _ _ (Decides-like _ (one_number kind n a below) (is_text_of kind n a one below) (decides_text kind (id_at kind n) a)) (Decides-eqb a n)

false_unless : (b : Bool) → (b ≡ true → ⊥) → b ≡ false
false_unless false never = refl
false_unless true never = absurd (never refl)

-- the id of a record of the kind is that of its number alone
pub named : (kind : Kind) (i : Id) (id : List ℕ) (m : ℕ) → IsId i → id ≡ id_text i → i.kind ≡ kind → is_id_of kind id m ≡ (m == i.number)
named kind i id m good same k =
    let text : id ≡ id_at kind i.number = same ∙ ap (λ x. id_at x i.number) k in
    ap (λ s. is_id_of kind s m) text ∙ same_test kind i.number m good.from_one good.below

letters : (k l : Kind) → kind_letter k ≡ kind_letter l → k ≡ l
letters OfMailbox OfMailbox e = refl
letters OfMailbox OfEmail e = absurd (omega (arith, e))
letters OfMailbox OfThread e = absurd (omega (arith, e))
letters OfEmail OfMailbox e = absurd (omega (arith, e))
letters OfEmail OfEmail e = refl
letters OfEmail OfThread e = absurd (omega (arith, e))
letters OfThread OfMailbox e = absurd (omega (arith, e))
letters OfThread OfEmail e = absurd (omega (arith, e))
letters OfThread OfThread e = refl

-- the id of a record of another kind is that of none
pub other_kind : (kind : Kind) (i : Id) (id : List ℕ) (m : ℕ) → id ≡ id_text i → i.kind ≢ kind → is_id_of kind id m ≡ false
other_kind kind i id m same k =
    false_unless _ (λ e. k (letters i.kind kind (ap first_of (sym same ∙ sym ((decides_text kind id m).0 e).1))))

pub no_id : (kind : Kind) (id : List ℕ) (m : ℕ) → ((i : Id) → IsId i → id ≢ id_text i) → is_id_of kind id m ≡ false
no_id kind id m never =
    false_unless _ (λ e.
    let w = (decides_text kind id m).0 e in
    never (record { kind = kind; number = m }) (record { from_one = w.0.0; below = w.0.1 }) (sym w.1))

same_kind : (a b : Kind) → is_kind a b ≡ true → a ≡ b
same_kind OfMailbox OfMailbox e = refl
same_kind OfMailbox OfEmail e = absurd (true≢false (sym e))
same_kind OfMailbox OfThread e = absurd (true≢false (sym e))
same_kind OfEmail OfMailbox e = absurd (true≢false (sym e))
same_kind OfEmail OfEmail e = refl
same_kind OfEmail OfThread e = absurd (true≢false (sym e))
same_kind OfThread OfMailbox e = absurd (true≢false (sym e))
same_kind OfThread OfEmail e = absurd (true≢false (sym e))
same_kind OfThread OfThread e = refl

is_itself : (k : Kind) → is_kind k k ≡ true
is_itself OfMailbox = refl
is_itself OfEmail = refl
is_itself OfThread = refl

pub of_kind : (kind : Kind) (i : Id) (id : List ℕ) (m : ℕ) → IsId i → id ≡ id_text i → is_kind i.kind kind ≡ true → is_id_of kind id m ≡ (m == i.number)
of_kind kind i id m good same k = named kind i id m good same (same_kind i.kind kind k)

pub of_other : (kind : Kind) (i : Id) (id : List ℕ) (m : ℕ) → id ≡ id_text i → is_kind i.kind kind ≡ false → is_id_of kind id m ≡ false
of_other kind i id m same k =
    other_kind kind i id m same (λ e. true≢false (sym (ap (λ x. is_kind i.kind x) (sym e) ∙ is_itself i.kind) ∙ k))

-- tests that agree find the same index
pub same_index : (t u : ℕ → Bool) (start : ℕ) (list : List ℕ) → ((m : ℕ) → t m ≡ u m) → index_where t start list ≡ index_where u start list
same_index t u start [] same = refl
same_index t u start (n ∷ ns) same = rw (same n, same_index t u (start + 1) ns same) refl

pub no_index : (t : ℕ → Bool) (start : ℕ) (list : List ℕ) → ((m : ℕ) → t m ≡ false) → index_where t start list ≡ None
no_index t start [] none = refl
no_index t start (n ∷ ns) none = rw (none n, no_index t (start + 1) ns none) refl
