-- The number of the mailbox that an identifier is of.
use Rattle.std.proofs.Common.{◌≡◌, ◌≢◌, ℕ, ◌<◌, ◌≤◌, List, [], ◌∷◌, Bool, true, false, ◌||◌, ◌++◌, not, Some, Decides, refl, arith, sym, ap, subst, ◌∙◌, decimal}
use Rattle.std.specs.Prelude.{nat_le, ◌==◌}
use Rattle.std.specs.List.{list_any}
use Rattle.std.proofs.lemmas.Fmt.{decimal_injective}
use Rattle.std.proofs.lemmas.Bool.Decides.{same_from_decides, Decides-like, Decides-and, Decides-eqb, Decides-ltb, nat_tests}
use Rattle.std.proofs.lemmas.Slice.Eq.{bytes_eq-Decides}
use Rattle.jm_base.specs.Ids.{IsId, id_text, kind_letter}
use Rattle.jm_base.specs.declared.identifiers.Id.{Id}
use Rattle.jm_base.specs.declared.identifiers.Kind.TheVariants.{Mailbox as OfMailbox, Email as OfEmail, Thread as OfThread}
use Rattle.jm_base.specs.declared.identifiers.TheConstants.{NUMBER_LIMIT}
use Rattle.mail_counts.specs.Views.{mailbox_id}
use Rattle.method_args.specs.Arguments.{passes}
use Rattle.filter_terms.specs.EmailTerms.{is_mailbox_id}
use Rattle.filter_terms.specs.Compiled.{is_other_than}
use Rattle.filter_terms.proofs.Lists.{any_same}

abbrev IsIdText : List ℕ → ℕ → Type 0
IsIdText id a = ((1 ≤ a) × (a < NUMBER_LIMIT)) × (mailbox_id a ≡ id)

decides_from_one : (a : ℕ) → Decides (nat_le 1 a) (1 ≤ a)
decides_from_one a = (λ e. grind (arith, nat_tests), λ h. grind (arith, nat_tests))

decides_text : (id : List ℕ) (a : ℕ) → Decides (is_mailbox_id id a) (IsIdText id a)
decides_text id a = Decides-and _ _ (Decides-and _ _ (decides_from_one a) (Decides-ltb a NUMBER_LIMIT)) (bytes_eq-Decides (mailbox_id a) id)

one_number : (n a : ℕ) → n < NUMBER_LIMIT → IsIdText (mailbox_id n) a → n ≡ a
one_number n a below w = sym (decimal_injective a n (omega (arith, w.0.1)) (omega (arith, below)) (let same = w.1 in cc))

is_text_of : (n a : ℕ) → 1 ≤ n → n < NUMBER_LIMIT → n ≡ a → IsIdText (mailbox_id n) a
is_text_of n a one below e = subst (IsIdText (mailbox_id n)) e ((one, below), refl)

same_test : (n a : ℕ) → 1 ≤ n → n < NUMBER_LIMIT → is_mailbox_id (mailbox_id n) a ≡ (n == a)
same_test n a one below =
    same_from_decides _ _ (Decides-like _ (one_number n a below) (is_text_of n a one below) (decides_text (mailbox_id n) a)) (Decides-eqb n a)

false_unless : (b : Bool) → (b ≡ true → ⊥) → b ≡ false
false_unless false never = refl
false_unless true never = absurd (never refl)

abbrev first : List ℕ → ℕ
first [] = 0
first (x ∷ xs) = x

pub named : (i : Id) (id : List ℕ) (m : ℕ) → IsId i → id ≡ id_text i → i.kind ≡ OfMailbox → is_mailbox_id id m ≡ passes (λ n. n == m) (Some i.number)
named i id m good same kind =
    let text : id ≡ mailbox_id i.number = same ∙ ap (λ k. kind_letter k ∷ decimal i.number) kind in
    ap (λ s. is_mailbox_id s m) text ∙ same_test i.number m good.from_one good.below

pub of_email : (i : Id) (id : List ℕ) (m : ℕ) → id ≡ id_text i → i.kind ≡ OfEmail → is_mailbox_id id m ≡ false
of_email i id m same kind =
    false_unless _ (λ e.
    let letters : 77 ≡ 69 = ap first (((decides_text id m).0 e).1 ∙ (same ∙ ap (λ k. kind_letter k ∷ decimal i.number) kind)) in
    omega (arith, letters))

pub of_thread : (i : Id) (id : List ℕ) (m : ℕ) → id ≡ id_text i → i.kind ≡ OfThread → is_mailbox_id id m ≡ false
of_thread i id m same kind =
    false_unless _ (λ e.
    let letters : 77 ≡ 84 = ap first (((decides_text id m).0 e).1 ∙ (same ∙ ap (λ k. kind_letter k ∷ decimal i.number) kind)) in
    omega (arith, letters))

pub no_id : (id : List ℕ) (m : ℕ) → ((i : Id) → IsId i → id ≢ id_text i) → is_mailbox_id id m ≡ false
no_id id m never =
    false_unless _ (λ e.
    let w = (decides_text id m).0 e in
    never (record { kind = OfMailbox; number = m }) (record { from_one = w.0.0; below = w.0.1 }) (sym w.1))

-- a text that is no mailbox's id is the id of none of these
pub none_in : (id : List ℕ) (ms : List ℕ) → ((m : ℕ) → is_mailbox_id id m ≡ false) → false ≡ list_any (λ m. is_mailbox_id id m) ms
none_in id [] never = refl
none_in id (m ∷ ms) never = rw (never m) (none_in id ms never)

-- a mailbox is other than these numbers where it is none of the mailboxes with these ids
pub others_same : (numbers : List ℕ) (ids : List (List ℕ)) (ms : List ℕ) → ((m : ℕ) → list_any (λ n. n == m) numbers ≡ list_any (λ id. is_mailbox_id id m) ids)
    → list_any (λ m. is_other_than numbers m) ms ≡ list_any (λ m. not (list_any (λ id. is_mailbox_id id m) ids)) ms
others_same numbers ids ms same = any_same (λ m. is_other_than numbers m) (λ m. not (list_any (λ id. is_mailbox_id id m) ids)) ms (λ m. ap not (same m))

pub or_false : (b : Bool) → (b || false) ≡ b
or_false true = refl
or_false false = refl

or_or : (a b c : Bool) → (a || (b || c)) ≡ ((a || b) || c)
or_or true b c = refl
or_or false b c = refl

pub more_numbers : (numbers : List ℕ) (n m : ℕ) → list_any (λ k. k == m) (numbers ++ n ∷ []) ≡ (list_any (λ k. k == m) numbers || n == m)
more_numbers [] n m = or_false (n == m)
more_numbers (k ∷ ks) n m = ap (λ b. k == m || b) (more_numbers ks n m) ∙ or_or (k == m) (list_any (λ j. j == m) ks) (n == m)

pub ruleset by_ids = (named, of_email, of_thread, no_id)
