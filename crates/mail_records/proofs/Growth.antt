-- What edits that fit keep of a content, and what stays of a history as it grows.
use Rattle.std.proofs.Common.{◌≡◌, ℕ, ◌+◌, ◌-◌, ◌<◌, ◌≤◌, Bool, true, false, not, cond, eqb, List, [], ◌∷◌, ◌++◌, take, flat_map, length, Option, Some, None, is_some, refl, sym, ap, ◌∙◌, subst, arith, ⊎_elim, eq-eqb, ne_eqb, eqb-true}
use Rattle.std.specs.List.{AllByRecursion}
use Rattle.std.proofs.lemmas.Bool.{cases_Bool, false≢true}
use Rattle.std.proofs.lemmas.Option.{none-some, same_Some}
use Rattle.std.proofs.lemmas.List.{take-append-le}
use Rattle.std.proofs.lemmas.List.Concat.{flat_map-append}
use Rattle.mail_records.specs.Tables.{IsTable, IsNumbered, lookup, put, without}
use Rattle.mail_records.specs.Contents.{Content, AreTables, AreNumbered, NextAtMost, mailbox_number, email_number, thread_number, mailbox_at, email_at, thread_at}
use Rattle.mail_records.specs.Edits.{after_edit, after_edits, Fits, AllFit, PutFits, next_after, KeepsThread, AllKeepThread}
use Rattle.mail_records.specs.Histories.{History, Entry, entry_edits, edits_of, end_of, content_at, content_of, grown_by, NamesThread, IsSound, IsFounded}
use Rattle.mail_records.specs.declared.records.Email.{Email}
use Rattle.mail_records.specs.declared.edits.Edit.{Edit}
use Rattle.mail_records.specs.declared.edits.Edit.TheVariants.{PutMailbox, DropMailbox, PutEmail, DropEmail, PutThread, DropThread}
use Rattle.mail_records.proofs.Tables.{All-put, All-kept, IsTable-put, IsTable-without}

-- what holds of each record holds of the one that is looked up, which has its number
pub found : {R : Type 0} (P : R → Type 0) (number : R → ℕ) (n : ℕ) (x : R) (xs : List R) → AllByRecursion P xs → lookup number n xs ≡ Some x → P x × (number x ≡ n)
found P number n x [] all is = absurd (none-some x is)
found P number n x (y ∷ ys) all is =
    ⊎_elim
    (λ (t : eqb (number y) n ≡ true).
    let same : y ≡ x = same_Some y x (rw t at is) in
    (subst P same all.0, subst (λ z. number z ≡ n) same (eqb-true (number y) n t)))
    (λ (t : eqb (number y) n ≡ false). found P number n x ys all.1 (rw t at is))
    (cases_Bool (eqb (number y) n))

pub there : {R : Type 0} (o : Option R) → is_some o ≡ true → (x : R) × (o ≡ Some x)
there None h = absurd (false≢true h)
there (Some x) h = (x, refl)

-- what follows from what holds of each record
pub all_map : {R : Type 0} (P Q : R → Type 0) (xs : List R) → ((x : R) → P x → Q x) → AllByRecursion P xs → AllByRecursion Q xs
all_map P Q [] f all = tt
all_map P Q (x ∷ xs) f all = (f x all.0, all_map P Q xs f all.1)

-- a put that fits keeps the numbers in order
IsNumbered-put : {R : Type 0} (number : R → ℕ) (item : R) (was : Bool) (next : ℕ) (xs : List R) → PutFits (is_some (lookup number (number item) xs)) was (number item) next
    → IsNumbered number xs next → IsNumbered number (put number item xs) (next_after was (number item) next)
IsNumbered-put number item true next xs fit numbered =
    let r = there (lookup number (number item) xs) (sym fit.0) in
    let one = found (λ x. 1 ≤ number x) number (number item) r.0 xs numbered.from_one r.1 in
    let low = found (λ x. number x < next) number (number item) r.0 xs numbered.below_next r.1 in
    record {
      next_from_one = numbered.next_from_one;
      from_one = All-put (λ x. 1 ≤ number x) number item (subst (λ n. 1 ≤ n) one.1 one.0) xs numbered.from_one;
      below_next = All-put (λ x. number x < next) number item (subst (λ n. n < next) low.1 low.0) xs numbered.below_next;
    }
IsNumbered-put number item false next xs fit numbered =
    let is : number item ≡ next = fit.1 refl in
    let first = numbered.next_from_one in
    let one : 1 ≤ number item = omega arith in
    record {
      next_from_one = omega arith;
      from_one = All-put (λ x. 1 ≤ number x) number item one xs numbered.from_one;
      below_next =
          All-put (λ x. number x < number item + 1) number item (omega arith) xs
          (all_map (λ x. number x < next) (λ x. number x < number item + 1) xs (λ x lt. omega arith) numbered.below_next);
    }

IsNumbered-without : {R : Type 0} (number : R → ℕ) (n next : ℕ) (xs : List R) → IsNumbered number xs next → IsNumbered number (without number n xs) next
IsNumbered-without number n next xs numbered = record {
  next_from_one = numbered.next_from_one;
  from_one = All-kept (λ x. 1 ≤ number x) (λ x. not (eqb (number x) n)) xs numbered.from_one;
  below_next = All-kept (λ x. number x < next) (λ x. not (eqb (number x) n)) xs numbered.below_next;
}

-- an edit leaves tables
pub AreTables-after_edit : (c : Content) (e : Edit) → AreTables c → AreTables (after_edit c e)
AreTables-after_edit c (PutMailbox item was counts) t = record { mailboxes = IsTable-put mailbox_number item c.mailboxes t.mailboxes; emails = t.emails; threads = t.threads }
AreTables-after_edit c (DropMailbox number) t = record { mailboxes = IsTable-without mailbox_number number c.mailboxes t.mailboxes; emails = t.emails; threads = t.threads }
AreTables-after_edit c (PutEmail item was) t = record { mailboxes = t.mailboxes; emails = IsTable-put email_number item c.emails t.emails; threads = t.threads }
AreTables-after_edit c (DropEmail number thread) t = record { mailboxes = t.mailboxes; emails = IsTable-without email_number number c.emails t.emails; threads = t.threads }
AreTables-after_edit c (PutThread item was) t = record { mailboxes = t.mailboxes; emails = t.emails; threads = IsTable-put thread_number item c.threads t.threads }
AreTables-after_edit c (DropThread number) t = record { mailboxes = t.mailboxes; emails = t.emails; threads = IsTable-without thread_number number c.threads t.threads }

pub AreTables-after_edits : (es : List Edit) (c : Content) → AreTables c → AreTables (after_edits c es)
AreTables-after_edits [] c t = t
AreTables-after_edits (e ∷ es) c t = AreTables-after_edits es (after_edit c e) (AreTables-after_edit c e t)

-- an edit that fits leaves each number below its kind's next one
pub AreNumbered-after_edit : (c : Content) (e : Edit) → Fits c e → AreNumbered c → AreNumbered (after_edit c e)
AreNumbered-after_edit c (PutMailbox item was counts) fit n =
    record { mailboxes = IsNumbered-put mailbox_number item was c.next_mailbox c.mailboxes fit n.mailboxes; emails = n.emails; threads = n.threads }
AreNumbered-after_edit c (DropMailbox number) fit n =
    record { mailboxes = IsNumbered-without mailbox_number number c.next_mailbox c.mailboxes n.mailboxes; emails = n.emails; threads = n.threads }
AreNumbered-after_edit c (PutEmail item was) fit n =
    record { mailboxes = n.mailboxes; emails = IsNumbered-put email_number item was c.next_email c.emails fit n.emails; threads = n.threads }
AreNumbered-after_edit c (DropEmail number thread) fit n =
    record { mailboxes = n.mailboxes; emails = IsNumbered-without email_number number c.next_email c.emails n.emails; threads = n.threads }
AreNumbered-after_edit c (PutThread item was) fit n =
    record { mailboxes = n.mailboxes; emails = n.emails; threads = IsNumbered-put thread_number item was c.next_thread c.threads fit n.threads }
AreNumbered-after_edit c (DropThread number) fit n =
    record { mailboxes = n.mailboxes; emails = n.emails; threads = IsNumbered-without thread_number number c.next_thread c.threads n.threads }

pub AreNumbered-after_edits : (es : List Edit) (c : Content) → AllFit c es → AreNumbered c → AreNumbered (after_edits c es)
AreNumbered-after_edits [] c fit n = n
AreNumbered-after_edits (e ∷ es) c fit n = AreNumbered-after_edits es (after_edit c e) fit.1 (AreNumbered-after_edit c e fit.0 n)

next_put : (present was : Bool) (number next n : ℕ) → PutFits present was number next → next ≤ n → next_after was number next ≤ n + 1
next_put present true number next n fit le = omega arith
next_put present false number next n fit le = let is : number ≡ next = fit.1 refl in omega arith

-- an edit that fits raises each next number by at most 1
pub NextAtMost-after_edit : (n : ℕ) (c : Content) (e : Edit) → Fits c e → NextAtMost n c → NextAtMost (n + 1) (after_edit c e)
NextAtMost-after_edit n c (PutMailbox item was counts) fit most =
    let mailbox = next_put (is_some (mailbox_at c item.number)) was item.number c.next_mailbox n fit most.mailbox in
    record { mailbox = mailbox; email = omega (arith, most.email); thread = omega (arith, most.thread) }
NextAtMost-after_edit n c (DropMailbox number) fit most = record { mailbox = omega (arith, most.mailbox); email = omega (arith, most.email); thread = omega (arith, most.thread) }
NextAtMost-after_edit n c (PutEmail item was) fit most =
    let email = next_put (is_some (email_at c item.number)) was item.number c.next_email n fit most.email in
    record { mailbox = omega (arith, most.mailbox); email = email; thread = omega (arith, most.thread) }
NextAtMost-after_edit n c (DropEmail number thread) fit most = record { mailbox = omega (arith, most.mailbox); email = omega (arith, most.email); thread = omega (arith, most.thread) }
NextAtMost-after_edit n c (PutThread item was) fit most =
    let thread = next_put (is_some (thread_at c item.number)) was item.number c.next_thread n fit most.thread in
    record { mailbox = omega (arith, most.mailbox); email = omega (arith, most.email); thread = thread }
NextAtMost-after_edit n c (DropThread number) fit most = record { mailbox = omega (arith, most.mailbox); email = omega (arith, most.email); thread = omega (arith, most.thread) }

-- edits that fit raise each next number by at most their count
pub NextAtMost-after_edits : (es : List Edit) (n : ℕ) (c : Content) → AllFit c es → NextAtMost n c → NextAtMost (n + length es) (after_edits c es)
NextAtMost-after_edits [] n c fit most = subst (λ k. NextAtMost k c) (let e : n ≡ n + length {A = Edit} [] = omega arith in e) most
NextAtMost-after_edits (e ∷ es) n c fit most =
    subst (λ k. NextAtMost k (after_edits (after_edit c e) es)) (let sum : n + 1 + length es ≡ n + length (e ∷ es) = omega arith in sum)
    (NextAtMost-after_edits es (n + 1) (after_edit c e) fit.1 (NextAtMost-after_edit n c e fit.0 most))

-- each next number is at most the last position plus 1
pub NextAtMost-founded : (h : History) → IsFounded h → AllFit h.base (edits_of h) → NextAtMost (end_of h + 1) (content_of h)
NextAtMost-founded h founded fit =
    subst (λ k. NextAtMost k (content_of h)) (let sum : h.floor + 1 + length (edits_of h) ≡ end_of h + 1 = omega arith in sum)
    (NextAtMost-after_edits (edits_of h) (h.floor + 1) h.base fit founded.next)

-- edits one after the other
pub after_edits-append : (es more : List Edit) (c : Content) → after_edits c (es ++ more) ≡ after_edits (after_edits c es) more
after_edits-append [] more c = refl
after_edits-append (e ∷ es) more c = after_edits-append es more (after_edit c e)

pub AllFit-append : (es more : List Edit) (c : Content) → AllFit c es → AllFit (after_edits c es) more → AllFit c (es ++ more)
AllFit-append [] more c a b = b
AllFit-append (e ∷ es) more c a b = (a.0, AllFit-append es more (after_edit c e) a.1 b)

pub AllKeepThread-append : (es more : List Edit) (c : Content) → AllKeepThread c es → AllKeepThread (after_edits c es) more → AllKeepThread c (es ++ more)
AllKeepThread-append [] more c a b = b
AllKeepThread-append (e ∷ es) more c a b = (a.0, AllKeepThread-append es more (after_edit c e) a.1 b)

-- the edits of a history with more entries
pub edits_of-grown_by : (h : History) (more : List Entry) → edits_of (grown_by h more) ≡ edits_of h ++ flat_map entry_edits more
edits_of-grown_by h more = flat_map-append entry_edits h.entries more

-- the content at a position stays as the history grows
pub content_at-grown_by : (h : History) (more : List Entry) (k : ℕ) → k ≤ end_of h → content_at (grown_by h more) k ≡ content_at h k
content_at-grown_by h more k le =
    ap (after_edits h.base)
    (ap (take (k - h.floor)) (edits_of-grown_by h more)
    ∙ take-append-le (k - h.floor) (edits_of h) (flat_map entry_edits more) (omega arith))

-- a function that agrees with another on the numbers below the next one
abbrev Agrees : ℕ → (ℕ → ℕ) → (ℕ → ℕ) → Type 0
Agrees next f g = (n : ℕ) → n < next → g n ≡ f n

abbrev Owned : (ℕ → ℕ) → Email → Type 0
Owned f x = f x.number ≡ x.thread

abbrev Below : ℕ → Email → Type 0
Below next x = x.number < next

both_all : (P Q R : Email → Type 0) (xs : List Email) → ((x : Email) → P x → Q x → R x) → AllByRecursion P xs → AllByRecursion Q xs → AllByRecursion R xs
both_all P Q R [] f all other = tt
both_all P Q R (x ∷ xs) f all other = (f x all.0 other.0, both_all P Q R xs f all.1 other.1)

abbrev with_new : ℕ → ℕ → (ℕ → ℕ) → ℕ → ℕ
with_new m t f n = cond (eqb n m) t (f n)

with_new_at : (m t n : ℕ) (f : ℕ → ℕ) → n ≡ m → with_new m t f n ≡ t
with_new_at m t n f e = let k : eqb n m ≡ true = eq-eqb n m e in rw k refl

with_new_below : (m t n : ℕ) (f : ℕ → ℕ) → n < m → with_new m t f n ≡ f n
with_new_below m t n f lt = let k : eqb n m ≡ false = ne_eqb n m (λ e. omega arith) in rw k refl

-- a thread for each number that the edits name, as before below the next one
abbrev Owners : Content → List Edit → (ℕ → ℕ) → Type 0
Owners c es f = (g : ℕ → ℕ) × Agrees c.next_email f g × AllByRecursion (NamesThread g) es

put_old : (c : Content) (item : Email) (es : List Edit) (f : ℕ → ℕ) → AllByRecursion (Owned f) c.emails → AllByRecursion (Below c.next_email) c.emails → is_some (email_at c item.number) ≡ true → KeepsThread c (PutEmail item true)
    → (AllByRecursion (Owned f) (put email_number item c.emails) → AllByRecursion (Below c.next_email) (put email_number item c.emails) → Owners (after_edit c (PutEmail item true)) es f) → Owners c (PutEmail item true ∷ es) f
put_old c item es f owned numbered present keeps next =
    let r = there (email_at c item.number) present in
    let is_owned = found (Owned f) email_number item.number r.0 c.emails owned r.1 in
    let below = found (Below c.next_email) email_number item.number r.0 c.emails numbered r.1 in
    let mine : f item.number ≡ item.thread = ap f (sym is_owned.1) ∙ (is_owned.0 ∙ keeps r.0 r.1) in
    let low : item.number < c.next_email = subst (λ n. n < c.next_email) below.1 below.0 in
    let a = next (All-put (Owned f) email_number item mine c.emails owned) (All-put (Below c.next_email) email_number item low c.emails numbered) in
    (a.0, a.1, (a.1 item.number low ∙ mine, a.2))

put_new : (c : Content) (item : Email) (es : List Edit) (f : ℕ → ℕ) → AllByRecursion (Owned f) c.emails → AllByRecursion (Below c.next_email) c.emails → item.number ≡ c.next_email
    → (AllByRecursion (Owned (with_new item.number item.thread f)) (put email_number item c.emails) → AllByRecursion (Below (item.number + 1)) (put email_number item c.emails) → Owners (after_edit c (PutEmail item false)) es (with_new item.number item.thread f)) → Owners c (PutEmail item false ∷ es) f
put_new c item es f owned numbered is next =
    let g = with_new item.number item.thread f in
    let mine : g item.number ≡ item.thread = with_new_at item.number item.thread item.number f refl in
    let old : AllByRecursion (Owned g) c.emails =
    both_all (Owned f) (Below c.next_email) (Owned g) c.emails
    (λ (x : Email) (o : Owned f x) (b : Below c.next_email x). with_new_below item.number item.thread x.number f (subst (λ n. x.number < n) (sym is) b) ∙ o) owned numbered in
    let low : AllByRecursion (Below (item.number + 1)) c.emails =
    all_map (Below c.next_email) (Below (item.number + 1)) c.emails (λ (x : Email) (b : Below c.next_email x). omega arith) numbered in
    let a = next (All-put (Owned g) email_number item mine c.emails old) (All-put (Below (item.number + 1)) email_number item (omega arith) c.emails low) in (
      a.0,
      (λ n lt. let under : n < item.number = omega arith in let more : n < item.number + 1 = omega arith in a.1 n more ∙ with_new_below item.number item.thread n f under),
      (let more : item.number < item.number + 1 = omega arith in a.1 item.number more ∙ mine, a.2),
    )

owners : (es : List Edit) (c : Content) (f : ℕ → ℕ) → AllByRecursion (Owned f) c.emails → AllByRecursion (Below c.next_email) c.emails → AllFit c es → AllKeepThread c es → Owners c es f
owners [] c f owned numbered fit keep = (f, (λ n lt. refl), tt)
owners (PutMailbox item was counts ∷ es) c f owned numbered fit keep =
    let a = owners es (after_edit c (PutMailbox item was counts)) f owned numbered fit.1 keep.1 in (a.0, a.1, (tt, a.2))
owners (DropMailbox number ∷ es) c f owned numbered fit keep =
    let a = owners es (after_edit c (DropMailbox number)) f owned numbered fit.1 keep.1 in (a.0, a.1, (tt, a.2))
owners (PutEmail item true ∷ es) c f owned numbered fit keep =
    put_old c item es f owned numbered (sym fit.0.0) keep.0 (λ o n. owners es (after_edit c (PutEmail item true)) f o n fit.1 keep.1)
owners (PutEmail item false ∷ es) c f owned numbered fit keep =
    put_new c item es f owned numbered (fit.0.1 refl) (λ o n. owners es (after_edit c (PutEmail item false)) (with_new item.number item.thread f) o n fit.1 keep.1)
owners (DropEmail number thread ∷ es) c f owned numbered fit keep =
    let is_owned = found (Owned f) email_number number fit.0.0 c.emails owned fit.0.1 in
    let below = found (Below c.next_email) email_number number fit.0.0 c.emails numbered fit.0.1 in
    let low : number < c.next_email = subst (λ n. n < c.next_email) below.1 below.0 in
    let mine : f number ≡ thread = ap f (sym is_owned.1) ∙ (is_owned.0 ∙ fit.0.2) in
    let test : Email → Bool = λ x. not (eqb x.number number) in
    let a = owners es (after_edit c (DropEmail number thread)) f (All-kept (Owned f) test c.emails owned) (All-kept (Below c.next_email) test c.emails numbered) fit.1 keep.1 in
    (a.0, a.1, (a.1 number low ∙ mine, a.2))
owners (PutThread item was ∷ es) c f owned numbered fit keep =
    let a = owners es (after_edit c (PutThread item was)) f owned numbered fit.1 keep.1 in (a.0, a.1, (tt, a.2))
owners (DropThread number ∷ es) c f owned numbered fit keep =
    let a = owners es (after_edit c (DropThread number)) f owned numbered fit.1 keep.1 in (a.0, a.1, (tt, a.2))

-- the thread of the first record of a number
abbrev thread_or : Option Email → ℕ
thread_or None = 0
thread_or (Some x) = x.thread

abbrev thread_in : List Email → ℕ → ℕ
thread_in xs n = thread_or (lookup email_number n xs)

owned_in : (xs : List Email) → IsTable email_number xs → AllByRecursion (Owned (thread_in xs)) xs
owned_in [] table = tt
owned_in (x ∷ xs) table = (
  (let k : eqb x.number x.number ≡ true = eq-eqb x.number x.number refl in rw k refl),
  both_all (Owned (thread_in xs)) (λ y. x.number < y.number) (Owned (thread_in (x ∷ xs))) xs
      (λ (y : Email) (o : Owned (thread_in xs) y) (lt : x.number < y.number).
      let k : eqb x.number y.number ≡ false = ne_eqb x.number y.number (λ e. omega arith) in rw k o)
      (owned_in xs table.1) table.0,
)

-- A history is sound if and only if its edits fit and keep the threads of their emails, one after
-- the other: this way where the base is in number order with each number below its kind's next one.
pub IsSound-from_tables : (h : History) → AreTables h.base → AreNumbered h.base → AllFit h.base (edits_of h) → AllKeepThread h.base (edits_of h) → IsSound h
IsSound-from_tables h tables below fit keep =
    let own = owned_in h.base.emails tables.emails in
    let numbered = below.emails.below_next in
    let a = owners (edits_of h) h.base (thread_in h.base.emails) own numbered fit keep in
    record {
      fits = fit;
      one_thread = (
        a.0,
        record {
          in_base =
              both_all (Owned (thread_in h.base.emails)) (Below h.base.next_email) (Owned a.0) h.base.emails
              (λ (x : Email) (o : Owned (thread_in h.base.emails) x) (b : Below h.base.next_email x). a.1 x.number b ∙ o) own numbered;
          in_edits = a.2;
        },
      );
    }

pub IsSound-from_steps : (h : History) → IsFounded h → AllFit h.base (edits_of h) → AllKeepThread h.base (edits_of h) → IsSound h
IsSound-from_steps h founded fit keep = IsSound-from_tables h founded.tables founded.numbered fit keep

-- edits that name the thread of each email keep it
keeps_owner : (es : List Edit) (c : Content) (f : ℕ → ℕ) → AllByRecursion (Owned f) c.emails → AllByRecursion (NamesThread f) es → AllKeepThread c es
keeps_owner [] c f owned named = tt
keeps_owner (PutMailbox item was counts ∷ es) c f owned named = (tt, keeps_owner es (after_edit c (PutMailbox item was counts)) f owned named.1)
keeps_owner (DropMailbox number ∷ es) c f owned named = (tt, keeps_owner es (after_edit c (DropMailbox number)) f owned named.1)
keeps_owner (PutEmail item was ∷ es) c f owned named = (
  (λ (x : Email) (is : email_at c item.number ≡ Some x).
      let mine = found (Owned f) email_number item.number x c.emails owned is in sym mine.0 ∙ (ap f mine.1 ∙ named.0)),
  keeps_owner es (after_edit c (PutEmail item was)) f (All-put (Owned f) email_number item named.0 c.emails owned) named.1,
)
keeps_owner (DropEmail number thread ∷ es) c f owned named =
    (tt, keeps_owner es (after_edit c (DropEmail number thread)) f (All-kept (Owned f) (λ x. not (eqb x.number number)) c.emails owned) named.1)
keeps_owner (PutThread item was ∷ es) c f owned named = (tt, keeps_owner es (after_edit c (PutThread item was)) f owned named.1)
keeps_owner (DropThread number ∷ es) c f owned named = (tt, keeps_owner es (after_edit c (DropThread number)) f owned named.1)

-- and the other way
pub AllKeepThread-sound : (h : History) → IsSound h → AllKeepThread h.base (edits_of h)
AllKeepThread-sound h sound =
    let one = sound.one_thread in keeps_owner (edits_of h) h.base one.0 one.1.in_base one.1.in_edits
