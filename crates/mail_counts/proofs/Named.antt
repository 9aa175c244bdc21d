-- A mailbox by its identifier, and by its number.
use Rattle.std.proofs.Common.{◌≡◌, ◌≢◌, ℕ, ◌<◌, ◌≤◌, List, [], ◌∷◌, Bool, true, false, ◌&&◌, cond, Some, None, Decides, refl, arith, sym, ap, subst, ◌∙◌, decimal}
use Rattle.std.specs.Prelude.{nat_le, nat_lt, ◌==◌}
use Rattle.std.specs.Str.{bytes_eq}
use Rattle.std.proofs.lemmas.Fmt.{decimal_injective}
use Rattle.std.proofs.lemmas.Bool.Decides.{same_from_decides, Decides-like, Decides-and, Decides-eqb, Decides-ltb, nat_tests}
use Rattle.std.proofs.lemmas.Slice.Eq.{bytes_eq-Decides}
use Rattle.jm_base.specs.Ids.{IsId, id_text, kind_letter}
use Rattle.jm_base.specs.declared.identifiers.Id.{Id}
use Rattle.jm_base.specs.declared.identifiers.Kind.{Kind}
use Rattle.jm_base.specs.declared.identifiers.Kind.TheVariants.{Mailbox as OfMailbox, Email as OfEmail, Thread as OfThread}
use Rattle.jm_base.specs.declared.identifiers.TheConstants.{NUMBER_LIMIT}
use Rattle.mail_records.specs.Contents.{mailbox_number}
use Rattle.mail_records.specs.Tables.{lookup}
use Rattle.mail_records.specs.declared.records.Mailbox.{Mailbox}
use Rattle.mail_counts.specs.Views.{mailbox_id, mailbox_named}

-- the text is the identifier of this number
abbrev is_id_text : List ℕ → ℕ → Bool
is_id_text id a = nat_le 1 a && nat_lt a NUMBER_LIMIT && bytes_eq (mailbox_id a) id

abbrev pub IsIdText : List ℕ → ℕ → Type 0
IsIdText id a = ((1 ≤ a) × (a < NUMBER_LIMIT)) × (mailbox_id a ≡ id)

decides_from_one : (a : ℕ) → Decides (nat_le 1 a) (1 ≤ a)
decides_from_one a = (λ e. grind (arith, nat_tests), λ h. grind (arith, nat_tests))

decides_text : (id : List ℕ) (a : ℕ) → Decides (is_id_text id a) (IsIdText id a)
decides_text id a = Decides-and _ _ (Decides-and _ _ (decides_from_one a) (Decides-ltb a NUMBER_LIMIT)) (bytes_eq-Decides (mailbox_id a) id)

one_number : (n a : ℕ) → n < NUMBER_LIMIT → IsIdText (mailbox_id n) a → a ≡ n
one_number n a below w = decimal_injective a n (omega (arith, w.0.1)) (omega (arith, below)) (let same = w.1 in cc)

is_text_of : (n a : ℕ) → 1 ≤ n → n < NUMBER_LIMIT → a ≡ n → IsIdText (mailbox_id n) a
is_text_of n a one below e = subst (IsIdText (mailbox_id n)) (sym e) ((one, below), refl)

same_test : (n a : ℕ) → 1 ≤ n → n < NUMBER_LIMIT → is_id_text (mailbox_id n) a ≡ (a == n)
same_test n a one below =
    same_from_decides _ _ (Decides-like _ (one_number n a below) (is_text_of n a one below) (decides_text (mailbox_id n) a)) (Decides-eqb a n)

-- an identifier of a mailbox names the one of its number
pub named_by_number : (n : ℕ) (rows : List Mailbox) → 1 ≤ n → n < NUMBER_LIMIT → mailbox_named rows (mailbox_id n) ≡ lookup mailbox_number n rows
named_by_number n [] one below = refl
named_by_number n (m ∷ ms) one below = rw (same_test n m.number one below) (ap (λ o. cond (m.number == n) (Some m) o) (named_by_number n ms one below))

false_unless : (b : Bool) → (b ≡ true → ⊥) → b ≡ false
false_unless false never = refl
false_unless true never = absurd (never refl)

-- a text that is an identifier of a mailbox names the one of its number
pub named_by_id : (i : Id) (id : List ℕ) (rows : List Mailbox) → IsId i → id ≡ id_text i → i.kind ≡ OfMailbox → mailbox_named rows id ≡ lookup mailbox_number i.number rows
named_by_id i id rows good same kind =
    let text : id ≡ mailbox_id i.number = same ∙ ap (λ k. kind_letter k ∷ decimal i.number) kind in
    ap (mailbox_named rows) text ∙ named_by_number i.number rows good.from_one good.below

-- a text that is no identifier of a mailbox names none
pub named_none : (id : List ℕ) (rows : List Mailbox) → ((a : ℕ) → IsIdText id a → ⊥) → mailbox_named rows id ≡ None
named_none id [] never = refl
named_none id (m ∷ ms) never =
    rw (false_unless (is_id_text id m.number) (λ e. never m.number ((decides_text id m.number).0 e))) (named_none id ms never)

-- a text that is no identifier at all names none
pub named_by_no_id : (id : List ℕ) (rows : List Mailbox) → ((i : Id) → IsId i → id ≢ id_text i) → mailbox_named rows id ≡ None
named_by_no_id id rows never =
    named_none id rows (λ a w. never (record { kind = OfMailbox; number = a }) (record { from_one = w.0.0; below = w.0.1 }) (sym w.1))

letter_of_mailboxes : (kind : Kind) → 77 ≡ kind_letter kind → kind ≡ OfMailbox
letter_of_mailboxes OfMailbox e = refl
letter_of_mailboxes OfEmail e = absurd (omega (arith, e))
letter_of_mailboxes OfThread e = absurd (omega (arith, e))

-- an identifier of another kind names none
pub named_by_other_kind : (i : Id) (id : List ℕ) (rows : List Mailbox) → id ≡ id_text i → i.kind ≢ OfMailbox → mailbox_named rows id ≡ None
named_by_other_kind i id rows text other = named_none id rows (λ a w. other (letter_of_mailboxes i.kind (let same = w.1 ∙ text in cc)))
