-- What stays from a position to the end: the records that no edit names, and the emails of a thread that no edit names.
use Rattle.std.proofs.Common.{zero, suc, ◌≡◌, ℕ, ◌-◌, false, not, eqb, List, [], ◌∷◌, take, drop, sym, ap, ◌∙◌, subst, refl, take-append-drop}
use Rattle.std.specs.List.{AllByRecursion, list_any}
use Rattle.std.proofs.lemmas.Bool.{or_parts}
use Rattle.mail_records.specs.Contents.{Content, email_number}
use Rattle.mail_records.specs.Edits.{after_edit, after_edits}
use Rattle.mail_records.specs.Histories.{History, NamesThread, content_at, content_of, edits_after, edits_of}
use Rattle.mail_records.specs.declared.edits.Edit.{Edit}
use Rattle.mail_records.specs.declared.edits.Edit.TheVariants.{PutMailbox, DropMailbox, PutEmail, DropEmail, PutThread, DropThread}
use Rattle.mail_records.specs.declared.records.Email.{Email}
use Rattle.mail_records.proofs.Growth.{after_edits-append}
use Rattle.mail_records.proofs.Tables.{All-kept, All-put, filter-put, filter-without}
use Rattle.filter_terms.specs.Targets.{of_thread}
use Rattle.query_changes.specs.Touched.{names_thread}

-- the content at the end is that at a position after the edits since
pub end_from : (h : History) (s : ℕ) → content_of h ≡ after_edits (content_at h s) (edits_after h s)
end_from h s =
    ap (after_edits h.base) (sym (take-append-drop (s - h.floor) (edits_of h)))
    ∙ after_edits-append (take (s - h.floor) (edits_of h)) (edits_after h s) h.base

-- each email is of the thread that its number has
abbrev pub AllOwned : (ℕ → ℕ) → List Email → Type 0
AllOwned thread_of emails = AllByRecursion (λ (x : Email). thread_of x.number ≡ x.thread) emails

owned_step : (thread_of : ℕ → ℕ) (c : Content) (e : Edit) → NamesThread thread_of e → AllOwned thread_of c.emails → AllOwned thread_of (after_edit c e).emails
owned_step thread_of c (PutMailbox item was counts) o all = all
owned_step thread_of c (DropMailbox number) o all = all
owned_step thread_of c (PutEmail item was) o all = All-put (λ (x : Email). thread_of x.number ≡ x.thread) email_number item o c.emails all
owned_step thread_of c (DropEmail number thread) o all = All-kept (λ (x : Email). thread_of x.number ≡ x.thread) (λ (x : Email). not (eqb x.number number)) c.emails all
owned_step thread_of c (PutThread item was) o all = all
owned_step thread_of c (DropThread number) o all = all

pub owned_after : (thread_of : ℕ → ℕ) (c : Content) (edits : List Edit) → AllByRecursion (NamesThread thread_of) edits → AllOwned thread_of c.emails → AllOwned thread_of (after_edits c edits).emails
owned_after thread_of c [] o all = all
owned_after thread_of c (e ∷ es) o all = owned_after thread_of (after_edit c e) es o.1 (owned_step thread_of c e o.0 all)

-- no record of this number is of a thread that is not its own
not_of_thread : (thread_of : ℕ → ℕ) (n t : ℕ) → eqb (thread_of n) t ≡ false → (xs : List Email) → AllOwned thread_of xs → AllByRecursion (λ (x : Email). n ≡ x.number → eqb x.thread t ≡ false) xs
not_of_thread thread_of n t away [] all = tt
not_of_thread thread_of n t away (x ∷ xs) all =
    (λ (e : n ≡ x.number). subst (λ z. eqb z t ≡ false) (ap thread_of e ∙ all.0) away, not_of_thread thread_of n t away xs all.1)

turned : (n t : ℕ) (xs : List Email) → AllByRecursion (λ (x : Email). n ≡ x.number → eqb x.thread t ≡ false) xs → AllByRecursion (λ (x : Email). x.number ≡ n → eqb x.thread t ≡ false) xs
turned n t [] all = tt
turned n t (x ∷ xs) all = (λ e. all.0 (sym e), turned n t xs all.1)

thread_step : (thread_of : ℕ → ℕ) (t : ℕ) (c : Content) (e : Edit) → NamesThread thread_of e → AllOwned thread_of c.emails → names_thread t e ≡ false → of_thread t (after_edit c e).emails ≡ of_thread t c.emails
thread_step thread_of t c (PutMailbox item was counts) o all n = refl
thread_step thread_of t c (DropMailbox number) o all n = refl
thread_step thread_of t c (PutEmail item was) o all n =
    filter-put email_number (λ (x : Email). eqb x.thread t) item n c.emails
    (not_of_thread thread_of item.number t (subst (λ z. eqb z t ≡ false) (sym o) n) c.emails all)
thread_step thread_of t c (DropEmail number thread) o all n =
    filter-without email_number (λ (x : Email). eqb x.thread t) number c.emails
    (turned number t c.emails (not_of_thread thread_of number t (subst (λ z. eqb z t ≡ false) (sym o) n) c.emails all))
thread_step thread_of t c (PutThread item was) o all n = refl
thread_step thread_of t c (DropThread number) o all n = refl

-- a thread that no edit names has the same emails
pub same_thread : (thread_of : ℕ → ℕ) (t : ℕ) (c : Content) (edits : List Edit) → AllByRecursion (NamesThread thread_of) edits → AllOwned thread_of c.emails → list_any (names_thread t) edits ≡ false
    → of_thread t (after_edits c edits).emails ≡ of_thread t c.emails
same_thread thread_of t c [] o all n = refl
same_thread thread_of t c (e ∷ es) o all n =
    let p = or_parts (names_thread t e) (list_any (names_thread t) es) n in
    same_thread thread_of t (after_edit c e) es o.1 (owned_step thread_of c e o.0 all) p.1 ∙ thread_step thread_of t c e o.0 all p.0

pub All-take : {X : Type 0} (P : X → Type 0) (n : ℕ) (xs : List X) → AllByRecursion P xs → AllByRecursion P (take n xs)
All-take P zero xs all = tt
All-take P (suc n) [] all = tt
All-take P (suc n) (x ∷ xs) all = (all.0, All-take P n xs all.1)

pub All-drop : {X : Type 0} (P : X → Type 0) (n : ℕ) (xs : List X) → AllByRecursion P xs → AllByRecursion P (drop n xs)
All-drop P zero xs all = all
All-drop P (suc n) [] all = tt
All-drop P (suc n) (x ∷ xs) all = All-drop P n xs all.1
