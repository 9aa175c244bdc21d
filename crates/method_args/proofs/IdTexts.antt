-- Identifiers and states are read from their texts alone, as what they were.
use Rattle.std.proofs.Common.{◌≡◌, ◌≢◌, ℕ, ◌<◌, ◌≤◌, List, [], ◌∷◌, Bool, true, false, ◌&&◌, ◌==◌, cond, Option, Some, None, Decides, refl, arith, sym, ap, ap₂, subst, ◌∙◌, nat_lt, nat_le, bytes_eq, option_and_then, option_map}
use Rattle.std.specs.Fmt.{decimal}
use Rattle.std.specs.Str.Parse.{AllDigits, digits_value}
use Rattle.std.proofs.lemmas.Bool.Decides.{Decides-and, Decides-eqb, Decides-ltb, nat_tests}
use Rattle.std.proofs.lemmas.Fmt.{digits_value-decimal}
use Rattle.std.proofs.lemmas.Slice.Eq.{bytes_eq-Decides}
use Rattle.std.proofs.lemmas.Str.Parse.{IsNumeralModel, numerals_by_value, tells_digits}
use Rattle.jm_base.specs.Ids.{IsId, IsNumberText, id_text, kind_letter, state_text}
use Rattle.jm_base.specs.declared.identifiers.Id.{Id}
use Rattle.jm_base.specs.declared.identifiers.Kind.{Kind}
use Rattle.jm_base.specs.declared.identifiers.Kind.TheVariants.{Mailbox as OfMailbox, Email as OfEmail, Thread as OfThread}
use Rattle.jm_base.specs.declared.identifiers.TheConstants.{NUMBER_LIMIT}
use Rattle.jm_json.proofs.Lists.{list_of-trees_of}
use Rattle.method_args.specs.Ids.{id_number, id_trees, ids_from, if_decimal, if_positive, number_by}
use Rattle.method_args.specs.WrittenIds.{AreIds, IdsReadBack, StatesReadBack}

own : IsNumeralModel (AllDigits 10) (digits_value 10)
own = numerals_by_value (AllDigits 10) tells_digits

if_some : {A : Type 0} (b : Bool) (x y : A) → cond b (Some x) None ≡ Some y → (b ≡ true) × (x ≡ y)
if_some true x y e = (refl, let same = e in cc)
if_some false x y e = let wrong = e in cc

none_unless : {A : Type 0} (o : Option A) → ((x : A) → o ≡ Some x → ⊥) → o ≡ None
none_unless None never = refl
none_unless (Some x) never = absurd (never x refl)

-- ---- numbers

decides_number : (s : List ℕ) (n : ℕ) → Decides (nat_lt n NUMBER_LIMIT && bytes_eq s (decimal n)) (IsNumberText s n)
decides_number s n = Decides-and _ _ (Decides-ltb n NUMBER_LIMIT) (bytes_eq-Decides s (decimal n))

number_back : (s : List ℕ) (n : ℕ) → number_by s ≡ Some n → IsNumberText s n
number_back s n e =
    let k = if_some _ (digits_value 10 s) n e in
    subst (IsNumberText s) k.1 ((decides_number s (digits_value 10 s)).0 k.0)

pub number_reads : (s : List ℕ) (n : ℕ) → IsNumberText s n → number_by s ≡ Some n
number_reads s n is =
    let value : digits_value 10 s ≡ n = ap (digits_value 10) is.1 ∙ digits_value-decimal own n (let lt = is.0 in omega (arith, lt)) in
    ap (if_decimal s) value ∙ ap (λ b. cond b (Some n) None) ((decides_number s n).1 is)

pub number_none : (s : List ℕ) → ((n : ℕ) → IsNumberText s n → ⊥) → number_by s ≡ None
number_none s never = none_unless (number_by s) (λ n e. never n (number_back s n e))

-- ---- identifiers

letters_tell : (a b : Kind) → kind_letter a ≡ kind_letter b → a ≡ b
letters_tell OfMailbox OfMailbox same = refl
letters_tell OfMailbox OfEmail same = absurd (omega (arith, same))
letters_tell OfMailbox OfThread same = absurd (omega (arith, same))
letters_tell OfEmail OfMailbox same = absurd (omega (arith, same))
letters_tell OfEmail OfEmail same = refl
letters_tell OfEmail OfThread same = absurd (omega (arith, same))
letters_tell OfThread OfMailbox same = absurd (omega (arith, same))
letters_tell OfThread OfEmail same = absurd (omega (arith, same))
letters_tell OfThread OfThread same = refl

positive_is : (n : ℕ) → 1 ≤ n → if_positive n ≡ Some n
positive_is n one = let test : nat_le 1 n ≡ true = grind (arith, nat_tests) in ap (λ b. cond b (Some n) None) test

positive_back : (o : Option ℕ) (n : ℕ) → option_and_then if_positive o ≡ Some n → (o ≡ Some n) × (1 ≤ n)
positive_back None n e = let wrong = e in cc
positive_back (Some m) n e =
    let k = if_some (nat_le 1 m) m n e in
    let one : 1 ≤ m = let test = k.0 in grind (arith, nat_tests) in
    (ap Some k.1, subst (λ x. 1 ≤ x) k.1 one)

same_letter : (kind : Kind) → (kind_letter kind == kind_letter kind) ≡ true
same_letter kind = (Decides-eqb (kind_letter kind) (kind_letter kind)).1 refl

id_is : (kind : Kind) (n : ℕ) → 1 ≤ n → n < NUMBER_LIMIT → id_number kind (kind_letter kind ∷ decimal n) ≡ Some n
id_is kind n one below =
    ap (λ b. cond b (option_and_then if_positive (number_by (decimal n))) None) (same_letter kind)
    ∙ (ap (option_and_then if_positive) (number_reads (decimal n) n (below, refl)) ∙ positive_is n one)

pub id_reads : (kind : Kind) (s : List ℕ) (i : Id) → IsId i → s ≡ id_text i → i.kind ≡ kind → id_number kind s ≡ Some i.number
id_reads kind s i good text same =
    ap (id_number kind) (text ∙ ap (λ k. kind_letter k ∷ decimal i.number) same)
    ∙ id_is kind i.number good.from_one good.below

if_this : (b : Bool) (A : Type 0) (n : ℕ) (o : Option ℕ) → Decides b A → cond b o None ≡ Some n → A × (o ≡ Some n)
if_this true A n o d e = (d.0 refl, e)
if_this false A n o d e = let wrong = e in cc

letter_back : (kind : Kind) (letter n : ℕ) (o : Option ℕ) → cond (letter == kind_letter kind) o None ≡ Some n → (letter ≡ kind_letter kind) × (o ≡ Some n)
letter_back kind letter n o e = if_this (letter == kind_letter kind) _ n o (Decides-eqb letter (kind_letter kind)) e

pub id_back : (kind : Kind) (s : List ℕ) (n : ℕ) → id_number kind s ≡ Some n → IsId (record { kind = kind; number = n }) × (s ≡ id_text (record { kind = kind; number = n }))
id_back kind [] n e = let wrong = e in cc
id_back kind (letter ∷ digits) n e =
    let k = letter_back kind letter n (option_and_then if_positive (number_by digits)) e in
    let p = positive_back (number_by digits) n k.1 in
    let is = number_back digits n p.0 in
    (record { from_one = p.1; below = is.0 }, ap₂ (λ (x : ℕ) (xs : List ℕ). x ∷ xs) k.0 is.1)

pub id_none : (kind : Kind) (s : List ℕ) → ((i : Id) → IsId i → s ≢ id_text i) → id_number kind s ≡ None
id_none kind s never = none_unless (id_number kind s) (λ n e. let k = id_back kind s n e in never (record { kind = kind; number = n }) k.0 k.1)

first_of : (a b : ℕ) (xs ys : List ℕ) → a ∷ xs ≡ b ∷ ys → a ≡ b
first_of a b xs ys same = cc

pub id_other : (kind : Kind) (s : List ℕ) (i : Id) → s ≡ id_text i → i.kind ≢ kind → id_number kind s ≡ None
id_other kind s i text other =
    none_unless (id_number kind s) (λ n e. other (letters_tell i.kind kind (first_of _ _ _ _ (sym text ∙ (id_back kind s n e).1))))

-- ---- what was written

written_ids : (kind : Kind) (numbers : List ℕ) → AreIds kind numbers → ids_from kind (id_trees kind numbers) ≡ Some numbers
written_ids kind [] are = refl
written_ids kind (n ∷ ns) are =
    ap₂ (λ (o : Option ℕ) (os : Option (List ℕ)). option_and_then (λ m. option_map (λ ms. m ∷ ms) os) o)
    (id_is kind n are.0.from_one are.0.below) (written_ids kind ns are.1)

pub ids_read_back : IdsReadBack
ids_read_back kind numbers are = ap (ids_from kind) (list_of-trees_of (id_trees kind numbers)) ∙ written_ids kind numbers are

pub states_read_back : StatesReadBack
states_read_back position is = number_reads (state_text position) position (is, refl)
