-- A planner keeps in step with the course of a set.
use Rattle.std.proofs.Common.{◌≡◌, ◌==◌, ℕ, map, length, Result, Ok, Err, OnOk, ◌+◌, ◌≤◌, Bool, true, false, ◌&&◌, ◌||◌, not, eqb, List, [], ◌∷◌, Option, Some, None, is_some, refl, sym, ap, ap₂, ◌∙◌, arith, subst, ⊎_elim, bytes_eq}
use Rattle.std.specs.List.{list_any}
use Rattle.std.proofs.lemmas.Bool.{cases_Bool, false≢true, eqb-true}
use Rattle.jm_json.specs.Tree.{Tree}
use Rattle.mail_records.specs.Contents.{Content, Held, mailbox_number, mailbox_at}
use Rattle.mail_records.specs.Edits.{after_edit}
use Rattle.mail_records.specs.declared.records.Mailbox.{Mailbox}
use Rattle.std.specs.Cmp.{nat_eq_equiv}
use Rattle.mail_records.specs.Tables.{IsTable, put}
use Rattle.mail_records.proofs.Tables.{lookup-put_same, lookup-put_other, IsTable-put}
use Rattle.mail_counts.specs.Tidy.{is_sibling, same_parent, same_role}
use Rattle.jm_json.specs.Json.{member_of}
use Rattle.jm_json.specs.declared.tree.Member.{Member}
use Rattle.mail_counts.specs.Views.{mailbox_members}
use Rattle.mailbox_creates.specs.Properties.{SentProperties, sent_properties}
use Rattle.mailbox_creates.specs.Views.{Follows, has_role, is_created, is_found, is_new, is_other}
use Rattle.set_parts.specs.Views.{holds}
use Rattle.mailbox_creates.specs.declared.checks.Faults.{Faults}
use Rattle.set_parts.specs.Creates.{Creating, after_create as after_step}
use Rattle.set_parts.specs.CreatesViews.{KeepUp}
use Rattle.set_parts.specs.declared.creates.CreateStep.TheVariants.{Done}
use Rattle.mailbox_creates.specs.Creates.{after_checks, after_create, after_made, after_rejected, bad_members, blank, faults_of, mailbox_of, new_mailbox, new_record}
use Rattle.set_parts.specs.Arguments.{Create}
use Rattle.mailbox_creates.specs.declared.planner.Planner.{Planner}
use Rattle.mailbox_creates.proofs.NewNumbers.{created_with_new, new_next, none_new, other_twice, other_with_new}
use Rattle.set_parts.proofs.Texts.{any_same}

-- one more number is found
found_with_new : (c : Content) (m : Mailbox) (n : ℕ) → is_some (mailbox_at (after_edit c (new_mailbox m)) n) ≡ (eqb m.number n || is_some (mailbox_at c n))
found_with_new c m n =
    ⊎_elim
    (λ (same : eqb m.number n ≡ true). rw same (ap is_some (lookup-put_same mailbox_number m n (eqb-true m.number n same) c.mailboxes)))
    (λ (other : eqb m.number n ≡ false). rw other (ap is_some (lookup-put_other mailbox_number m n other c.mailboxes)))
    (cases_Bool (eqb m.number n))

or_swap : (e t w : Bool) → (e || (t || w)) ≡ (t || (e || w))
or_swap true true w = refl
or_swap true false w = refl
or_swap false t w = refl

flip : (a b : ℕ) → eqb a b ≡ eqb b a
flip a b = nat_eq_equiv.symm a b

within_more : (first next n : ℕ) (there : Bool) → first ≤ next → (eqb next n || (there || is_new first next n)) ≡ (there || is_new first (next + 1) n)
within_more first next n there le =
    or_swap (eqb next n) there (is_new first next n)
    ∙ ap (λ b. there || b) (ap (λ e. e || is_new first next n) (flip next n) ∙ sym (new_next first next n le))

abbrev is_found_from : Content → ℕ → ℕ → Bool
is_found_from base n next = is_found base next n

-- what a planner adds for a new mailbox
pub record Adds (p q : Planner) (x : Create) (m : Mailbox) : Type 0 where
  pub content : q.content.now ≡ p.content.now
  pub number : m.number ≡ p.next
  pub next : q.next ≡ p.next + 1
  pub names : (g : Option ℕ) (t : List ℕ) → holds q.names.keys.keys g t ≡ (same_parent m.parent g && bytes_eq m.name t || holds p.names.keys.keys g t)
  pub roles : (t : List ℕ) → holds q.roles.keys.keys None t ≡ (same_role m.role (Some t) || holds p.roles.keys.keys None t)
  pub creates : (t : Creating) → KeepUp p.creates t → KeepUp q.creates (after_step x.creation t (Done (new_record x.members m)))

ap_table : {c d : Held} → d ≡ c → IsTable mailbox_number c.content.mailboxes → IsTable mailbox_number d.content.mailboxes
ap_table e table = subst (λ (h : Held). IsTable mailbox_number h.content.mailboxes) (sym e) table

pub Follows-made : (p q : Planner) (s : Creating) (x : Create) (m : Mailbox) → Adds p q x m → Follows p s → Follows q (after_made s x m)
Follows-made p q s x m adds f =
    let rows = s.content.mailboxes in
    let more = put mailbox_number m rows in
    let first = p.content.now.content.next_mailbox in
    let same : first ≡ q.content.now.content.next_mailbox = ap (λ (c : Held). c.content.next_mailbox) (sym adds.content) in
    record {
      table = IsTable-put mailbox_number m rows f.table;
      next = adds.next ∙ ap (λ n. n + 1) (sym adds.number);
      grown = let low = f.grown in omega (arith, adds.next, ap (λ (c : Held). c.content.next_mailbox) adds.content);
      found = λ n.
          found_with_new s.content m n
          ∙ (ap (λ b. eqb m.number n || b) (f.found n)
          ∙ (ap (λ k. eqb k n || is_found p.content.now.content p.next n) adds.number
          ∙ (within_more p.content.now.content.next_mailbox p.next n (is_some (mailbox_at p.content.now.content n)) f.grown
          ∙ (ap (is_found_from p.content.now.content n) (sym adds.next) ∙ ap (λ (c : Held). is_found c.content q.next n) (sym adds.content)))));
      base = ap_table adds.content f.base;
      names = λ g t.
          adds.names g t
          ∙ (ap (λ b. is_sibling g t m || b) (f.names g t)
          ∙ (sym (created_with_new first p.next (is_sibling g t) m rows f.grown f.table adds.number) ∙ ap₂ (λ k n. list_any (is_created k n (is_sibling g t)) more) same (sym adds.next)));
      roles = λ t.
          adds.roles t
          ∙ (ap (λ b. has_role t m || b) (f.roles t)
          ∙ (sym (created_with_new first p.next (has_role t) m rows f.grown f.table adds.number) ∙ ap₂ (λ k n. list_any (is_created k n (has_role t)) more) same (sym adds.next)));
      others = λ test.
          ap₂ (λ k n. list_any (is_other k n test) more) (sym same) adds.next
          ∙ (other_with_new first p.next test m rows f.grown f.table adds.number
          ∙ (f.others (λ y. not (y.number == p.next) && test y)
          ∙ (any_same _ _ (λ y. other_twice first p.next test y f.grown) p.content.now.content.mailboxes
          ∙ (ap₂ (λ k n. list_any (is_other k n test) p.content.now.content.mailboxes) same (sym adds.next)
          ∙ ap (λ (c : Held). list_any (is_other q.content.now.content.next_mailbox q.next test) c.content.mailboxes) (sym adds.content)))));
      creates = adds.creates s f.creates;
    }

-- the checks of a create, made by what a planner has
pub checks_made : (s : Creating) (x : Create) (a : SentProperties) (f : Faults) (given bad : List (List ℕ × Tree)) (next : ℕ) → a ≡ sent_properties s.content s.made x.members → f ≡ faults_of s.content a → next ≡ s.content.next_mailbox
    → given ≡ mailbox_members false (blank next) → bad ≡ bad_members f given x.members → after_create s x ≡ after_checks s x (mailbox_of s.content.next_mailbox a) bad
checks_made s x a f given bad next ea ef en eg eb = rw (eb, eg, ef, en, ea) refl

pub all_good : (s : Creating) (x : Create) (m : Mailbox) (ms : List Member) (bad : List (List ℕ × Tree)) → map member_of ms ≡ bad → (length ms == 0) ≡ true → after_checks s x m bad ≡ after_made s x m
all_good s x m [] bad is none = ap (after_checks s x m) (sym is)
all_good s x m (y ∷ ms) bad is none = absurd (omega (arith, eqb-true (length (y ∷ ms)) 0 none))

pub some_bad : (s : Creating) (x : Create) (m : Mailbox) (ms : List Member) (bad : List (List ℕ × Tree)) → map member_of ms ≡ bad → (length ms == 0) ≡ false
    → after_checks s x m bad ≡ after_rejected s x bad
some_bad s x m [] bad is none = absurd (false≢true (sym none))
some_bad s x m (y ∷ ms) bad is none = ap (after_checks s x m) (sym is) ∙ ap (after_rejected s x) is

pub on_ok : {T E : Type 0} (r : Result T E) (P Q : Type 0) → (P → Q) → OnOk r P → OnOk r Q
on_ok (Ok v) P Q f h = f h
on_ok (Err e) P Q f h = h

or_nothing : (a b : Bool) → b ≡ false → a ≡ (a || b)
or_nothing true b e = refl
or_nothing false b e = sym e

-- before the first create the mailboxes that are found are those that were there
pub found_first : (first next n : ℕ) (there : Bool) → next ≡ first → there ≡ (there || is_new first next n)
found_first first next n there e = or_nothing there (is_new first next n) (none_new first next n e)
