-- An order that does not look at the thread compares the same whatever the threads.
use Rattle.std.proofs.Common.{◌≡◌, ℕ, List, [], ◌∷◌, Bool, true, false, ◌||◌, Option, Some, None, option_map, refl, ap, ap₂, ◌∙◌}
use Rattle.std.specs.Option.{option_cmp}
use Rattle.std.specs.Ordering.{is_lt, nat_cmp, ordering_then}
use Rattle.std.specs.List.{list_any}
use Rattle.std.proofs.lemmas.Bool.{or_parts, true≢false}
use Rattle.jm_base.specs.declared.identifiers.Kind.TheVariants.{Mailbox as OfMailboxes, Email as OfEmails}
use Rattle.mail_records.specs.Contents.{email_at}
use Rattle.mail_records.specs.declared.records.Email.{Email}
use Rattle.filter_terms.specs.Targets.{of_thread, email_in_thread_at, email_in_thread}
use Rattle.filter_terms.proofs.Alone.{with_thread}
use Rattle.sort_terms.specs.Comparators.{directed, email_property_cmp, emails_cmp, mailboxes_cmp}
use Rattle.sort_terms.specs.Forms.{comparators_of}
use Rattle.sort_terms.specs.Laws.{EmailsDecide, MailboxesDecide}
use Rattle.sort_terms.specs.Orders.{is_wide}
use Rattle.sort_terms.specs.Properties.{is_wide_property}
use Rattle.sort_terms.specs.declared.comparators.Comparator.{Comparator}
use Rattle.sort_terms.specs.declared.properties.Property.{Property}
use Rattle.sort_terms.specs.declared.properties.Property.TheVariants.{ReceivedAt, Size, From, To, Subject, SentAt, HasKeyword, AllInThread, SomeInThread, SortOrder, Name}

module _ (x : Email) (m n : List Email) (y : Email) (k l : List Email) where
  property_alone : (p : Property) (w : List ℕ) → is_wide_property p ≡ false → email_property_cmp p w (with_thread x m) (with_thread y k) ≡ email_property_cmp p w (with_thread x n) (with_thread y l)
  property_alone ReceivedAt w h = refl
  property_alone Size w h = refl
  property_alone From w h = refl
  property_alone To w h = refl
  property_alone Subject w h = refl
  property_alone SentAt w h = refl
  property_alone HasKeyword w h = refl
  property_alone AllInThread w h = absurd (true≢false h)
  property_alone SomeInThread w h = absurd (true≢false h)
  property_alone SortOrder w h = refl
  property_alone Name w h = refl

module _ (x : Email) (m n : List Email) (y : Email) (k l : List Email) where
  directed_alone : (up : Bool) (p : Property) (w : List ℕ) → is_wide_property p ≡ false
      → directed up (email_property_cmp p w) (with_thread x m) (with_thread y k) ≡ directed up (email_property_cmp p w) (with_thread x n) (with_thread y l)
  directed_alone true p w h = property_alone x m n y k l p w h
  directed_alone false p w h = property_alone y k l x m n p w h

  pub compare_alone : (cs : List Comparator) → list_any (λ (c : Comparator). is_wide_property c.property) cs ≡ false
      → emails_cmp cs (with_thread x m) (with_thread y k) ≡ emails_cmp cs (with_thread x n) (with_thread y l)
  compare_alone [] h = refl
  compare_alone (c ∷ cs) h =
      let p = or_parts (is_wide_property c.property) (list_any (λ (c : Comparator). is_wide_property c.property) cs) h in
      ap₂ ordering_then (directed_alone c.ascending c.property c.keyword p.0) (compare_alone cs p.1)

module _ (cs : List Comparator) (xs ys : List Email) where
  abbrev Same : Bool → Email → Type 0
  Same w e = w ≡ true → of_thread e.thread xs ≡ of_thread e.thread ys

  compare_same : (w : Bool) → list_any (λ (c : Comparator). is_wide_property c.property) cs ≡ w → (e f : Email) → Same w e → Same w f
      → emails_cmp cs (email_in_thread xs e) (email_in_thread xs f) ≡ emails_cmp cs (email_in_thread ys e) (email_in_thread ys f)
  compare_same true is e f a b = ap₂ (λ m k. emails_cmp cs (with_thread e m) (with_thread f k)) (a refl) (b refl)
  compare_same false is e f a b = compare_alone e (of_thread e.thread xs) (of_thread e.thread ys) f (of_thread f.thread xs) (of_thread f.thread ys) cs is

  there : (w : Bool) → list_any (λ (c : Comparator). is_wide_property c.property) cs ≡ w → (o p : Option Email)
      → ((e : Email) → w ≡ true → o ≡ Some e → of_thread e.thread xs ≡ of_thread e.thread ys)
      → ((e : Email) → w ≡ true → p ≡ Some e → of_thread e.thread xs ≡ of_thread e.thread ys)
      → option_cmp (emails_cmp cs) (option_map (email_in_thread xs) o) (option_map (email_in_thread xs) p) ≡ option_cmp (emails_cmp cs) (option_map (email_in_thread ys) o) (option_map (email_in_thread ys) p)
  there w is None None f g = refl
  there w is None (Some y) f g = refl
  there w is (Some x) None f g = refl
  there w is (Some x) (Some y) f g = compare_same w is x y (λ t. f x t refl) (λ t. g y t refl)

pub emails_decide : EmailsDecide
emails_decide t c d a b h k =
    let cs = comparators_of OfEmails t in
    let same : option_cmp (emails_cmp cs) (email_in_thread_at c.emails a) (email_in_thread_at c.emails b) ≡ option_cmp (emails_cmp cs) (email_in_thread_at d.emails a) (email_in_thread_at d.emails b) =
    there cs c.emails d.emails (is_wide OfEmails t) refl (email_at c a) (email_at c b) (λ e w is. h.thread w e is) (λ e w is. k.thread w e is)
    ∙ ap₂ (λ o p. option_cmp (emails_cmp cs) (option_map (email_in_thread d.emails) o) (option_map (email_in_thread d.emails) p)) h.email k.email in
    ap (λ r. is_lt (ordering_then r (nat_cmp a b))) same

pub mailboxes_decide : MailboxesDecide
mailboxes_decide t c d a b h k =
    ap₂ (λ o p. is_lt (ordering_then (option_cmp (mailboxes_cmp (comparators_of OfMailboxes t)) o p) (nat_cmp a b))) h k
