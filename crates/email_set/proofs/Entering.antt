-- A planner follows a progress as edits are entered.
use Rattle.std.proofs.Common.{◌≡◌, ℕ, ◌<◌, List, [], ◌∷◌, ◌++◌, length, Option, Some, None, refl, sym, ap, ◌∙◌, subst, append_assoc, append-nil, arith}
use Rattle.std.specs.BTreeMap.{get}
use Rattle.std.specs.Ordering.{nat_cmp}
use Rattle.jm_base.specs.declared.identifiers.Kind.TheVariants.{Email as OfEmail}
use Rattle.mail_counts.specs.Overlay.{last_edit}
use Rattle.mail_records.specs.Contents.{Content}
use Rattle.mail_records.specs.Edits.{after_edit, after_edits}
use Rattle.mail_records.specs.declared.edits.Edit.{Edit}
use Rattle.mail_records.specs.declared.edits.Edit.TheVariants.{PutMailbox, DropMailbox, PutEmail, DropEmail, PutThread, DropThread}
use Rattle.mail_records.proofs.Growth.{after_edits-append}
use Rattle.set_parts.specs.Steps.{Progress, with_edits}
use Rattle.set_parts.specs.declared.reported.Reported.{Reported}
use Rattle.email_set.specs.Views.{Follows, IsOfEmail, edit_at, email_named_by, index_after}
use Rattle.email_set.specs.declared.planner.Planner.{Planner}
use Rattle.email_set.proofs.Lasting.{last_with, last_without, within_with, longer}

-- what is known of the last edit of an email: where it is found, and that it is there
pub record IsLast (es : List Edit) (n : ℕ) (at : Option ℕ) : Type 0 where
  pub is : edit_at es at ≡ last_edit OfEmail n es
  pub within : (i : ℕ) → at ≡ Some i → i < length es

last_after : (es : List Edit) (e : Edit) (n : ℕ) (was now : Option ℕ) (o : Option ℕ) → email_named_by e ≡ o
    → now ≡ index_after o n (length es) was → IsLast es n was → IsLast (es ++ e ∷ []) n now
last_after es e n was now (Some number) named is known = record {
  is = last_with es e number n was now named is known.within known.is;
  within = within_with es e number n was now is known.within;
}
last_after es e n was now None named is known =
    subst (IsLast (es ++ e ∷ []) n) (sym is)
    (record {
      is = last_without es e n was named known.within known.is;
      within = λ i at. longer es e i (known.within i at);
    })

-- what a planner has after an edit was entered
pub record Enters (p q : Planner) (e : Edit) : Type 0 where
  pub edits : q.edits.items ≡ p.edits.items ++ e ∷ []
  pub reported : q.reported ≡ p.reported
  pub last : (n : ℕ) → get nat_cmp q.last n ≡ index_after (email_named_by e) n (length p.edits.items) (get nat_cmp p.last n)

-- an edit of an email leaves the mailboxes
same_mailboxes : (c : Content) (e : Edit) → IsOfEmail e → (after_edit c e).mailboxes ≡ c.mailboxes
same_mailboxes c (PutEmail item was) is = refl
same_mailboxes c (DropEmail number thread) is = refl
same_mailboxes c (PutMailbox item was counts) is = absurd is
same_mailboxes c (DropMailbox number) is = absurd is
same_mailboxes c (PutThread item was) is = absurd is
same_mailboxes c (DropThread number) is = absurd is

pub entered : (c : Content) (s : Progress) (p q : Planner) (e : Edit) → Enters p q e → IsOfEmail e → Follows c p s → Follows c q (with_edits (e ∷ []) s)
entered c s p q e enters own f =
    let last = λ (n : ℕ).
    subst (λ (es : List Edit). IsLast es n (get nat_cmp q.last n)) (sym enters.edits)
    (last_after p.edits.items e n (get nat_cmp p.last n) (get nat_cmp q.last n) (email_named_by e) refl (enters.last n) (record { is = f.last n; within = f.within n })) in
    record {
      content =
          ap (λ d. after_edits d (e ∷ [])) f.content
          ∙ (sym (after_edits-append p.edits.items (e ∷ []) c) ∙ ap (after_edits c) (sym enters.edits));
      mailboxes = same_mailboxes s.content e own ∙ f.mailboxes;
      table = f.table;
      edits = enters.edits ∙ ap (λ es. es ++ e ∷ []) f.edits;
      last = λ n. (last n).is;
      within = λ n i. (last n).within i;
      reported = enters.reported ∙ f.reported;
    }

-- ---- several edits

pub one_then : (s : Progress) (e : Edit) (es : List Edit) → with_edits es (with_edits (e ∷ []) s) ≡ with_edits (e ∷ es) s
one_then s e es = ap (λ (all : List Edit). with_all all) (append_assoc s.edits (e ∷ []) es)
  where
    with_all : List Edit → Progress
    with_all all = record { content = after_edits s.content (e ∷ es); edits = all; reported = s.reported }

pub no_more : (s : Progress) → with_edits [] s ≡ s
no_more s = ap (λ (all : List Edit). with_all all) append-nil-of
  where
    with_all : List Edit → Progress
    with_all all = record { content = s.content; edits = all; reported = s.reported }

    append-nil-of : s.edits ++ [] ≡ s.edits
    append-nil-of = append-nil s.edits

pub no_items : (es : List Edit) → length es ≡ 0 → es ≡ []
no_items [] none = refl
no_items (e ∷ es) none = absurd (omega (arith, none))

-- a planner that follows a progress with no edit more follows the progress
pub with_none : (c : Content) (p : Planner) (s t : Progress) → Follows c p t → with_edits [] t ≡ s → Follows c p s
with_none c p s t f e = subst (Follows c p) (sym (no_more t) ∙ e) f

-- a report changes nothing else
pub reported_as : (c : Content) (p q : Planner) (s : Progress) (r : Reported) → Follows c p s → q.edits ≡ p.edits → q.last ≡ p.last → q.reported ≡ r → Follows c q (record s { reported = r })
reported_as c p q s r f edits last reported =
    let items : q.edits.items ≡ p.edits.items = ap (λ v. v.items) edits in
    record {
      content = f.content ∙ ap (after_edits c) (sym items);
      mailboxes = f.mailboxes;
      table = f.table;
      edits = items ∙ f.edits;
      last = λ n.
          ap (λ m. edit_at q.edits.items (get nat_cmp m n)) last
          ∙ (ap (λ (es : List Edit). edit_at es (get nat_cmp p.last n)) items
          ∙ (f.last n ∙ ap (last_edit OfEmail n) (sym items)));
      within = λ n i at. subst (λ (es : List Edit). i < length es) (sym items) (f.within n i (ap (λ m. get nat_cmp m n) (sym last) ∙ at));
      reported = reported;
    }
