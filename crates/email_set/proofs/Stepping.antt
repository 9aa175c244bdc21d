-- The updates and destroys of a set, one after the other, and a planner that follows them.
use Rattle.std.proofs.Common.{◌≡◌, ◌∙◌, ℕ, ◌+◌, ◌<◌, ◌≤◌, List, [], ◌∷◌, drop, get_or, length, map, if◌then◌else◌, Option, Some, None, refl, sym, ap, subst}
use Rattle.std.specs.List.{AllByRecursion}
use Rattle.std.proofs.lemmas.List.{at_drop_all, drop_more}
use Rattle.jm_json.specs.Json.{member_of}
use Rattle.jm_json.specs.declared.invocation.Created.{Created}
use Rattle.jm_json.specs.declared.tree.Member.{Member}
use Rattle.mail_records.specs.Contents.{Content, mailbox_number}
use Rattle.mail_records.specs.declared.records.Email.{Email}
use Rattle.mail_records.specs.declared.records.Mailbox.{Mailbox}
use Rattle.mail_records.specs.declared.edits.Edit.{Edit}
use Rattle.set_parts.specs.Arguments.{Update, update_in}
use Rattle.set_parts.specs.CreationIds.{reported_id}
use Rattle.set_parts.specs.Steps.{Progress, after_destroy, after_destroys, after_update, after_updates, note_destroyed, is_destroyed, note_updated, with_edits}
use Rattle.set_parts.specs.declared.set_errors.SetError.TheVariants.{WillDestroy}
use Rattle.set_parts.specs.declared.steps.Step.{Step}
use Rattle.set_parts.specs.declared.steps.Step.TheVariants as step
use Rattle.email_set.specs.Emails.{destroy_email, email_meant, filing_of, step_to, update_email, update_of}
use Rattle.email_set.specs.Patches.{refiled}
use Rattle.email_set.specs.Views.{Follows, IsEmailStep, IsOfEmail}
use Rattle.email_set.specs.declared.planner.Planner.{Planner}
use Rattle.email_set.proofs.Entering.{reported_as}

-- ---- a step that is done

pub updated : (c : Content) (p q r : Planner) (s : Progress) (id : List ℕ) (x : Step) (es : List Edit) → x ≡ step.Done es
    → q.edits ≡ p.edits → q.last ≡ p.last → q.reported ≡ note_updated id p.reported → Follows c p s
    → IsEmailStep x → ((s : Progress) → Follows c q s → AllByRecursion IsOfEmail es → Follows c r (with_edits es s)) → Follows c r (after_update id s x)
updated c p q r s id x es is edits last noted f own enters =
    subst (λ (y : Step). Follows c r (after_update id s y)) (sym is)
    (enters (record s { reported = note_updated id s.reported })
    (reported_as c p q s (note_updated id s.reported) f edits last (noted ∙ ap (note_updated id) f.reported))
    (subst IsEmailStep is own))

pub destroyed : (c : Content) (p q r : Planner) (s : Progress) (id : List ℕ) (x : Step) (es : List Edit) → x ≡ step.Done es
    → q.edits ≡ p.edits → q.last ≡ p.last → q.reported ≡ note_destroyed id p.reported → Follows c p s
    → IsEmailStep x → ((s : Progress) → Follows c q s → AllByRecursion IsOfEmail es → Follows c r (with_edits es s)) → Follows c r (after_destroy id s x)
destroyed c p q r s id x es is edits last noted f own enters =
    subst (λ (y : Step). Follows c r (after_destroy id s y)) (sym is)
    (enters (record s { reported = note_destroyed id s.reported })
    (reported_as c p q s (note_destroyed id s.reported) f edits last (noted ∙ ap (note_destroyed id) f.reported))
    (subst IsEmailStep is own))

-- ---- one after the other

-- the items of a list from an index on
pub from_item : {A : Type 0} (xs : List A) (i : ℕ) (x : A) → i < length xs → x ≡ get_or xs i x → drop i xs ≡ x ∷ drop (i + 1) xs
from_item xs i x lt is = drop_more xs i x lt ∙ ap (λ y. y ∷ drop (i + 1) xs) (sym is)

-- what is left of updates, after some of them
abbrev pub updates_from : List Created → List (List ℕ) → Progress → List Member → Progress
updates_from made destroys s ms = after_updates (update_email made destroys) made s (map update_in (map member_of ms))

abbrev pub destroys_from : List Created → Progress → List (List ℕ) → Progress
destroys_from made s ids = after_destroys (destroy_email made) made s ids

-- the progress after one update, or one destroy
abbrev pub updated_by : List Created → List (List ℕ) → Progress → Member → Progress
updated_by made destroys s m =
    after_update (reported_id made (update_in (member_of m)).id) s (update_email made destroys s.content (update_in (member_of m)))

abbrev pub destroyed_by : List Created → Progress → List ℕ → Progress
destroyed_by made s id = after_destroy (reported_id made id) s (destroy_email made s.content id)

pub update_more : (made : List Created) (destroys : List (List ℕ)) (s t : Progress) (ms : List Member) (i : ℕ) (m : Member) → drop i ms ≡ m ∷ drop (i + 1) ms
    → updates_from made destroys t (drop i ms) ≡ updates_from made destroys s ms
    → updates_from made destroys (updated_by made destroys t m) (drop (i + 1) ms) ≡ updates_from made destroys s ms
update_more made destroys s t ms i m is known = ap (updates_from made destroys t) (sym is) ∙ known

pub destroy_more : (made : List Created) (s t : Progress) (ids : List (List ℕ)) (i : ℕ) (id : List ℕ) → i < length ids → id ≡ get_or ids i []
    → destroys_from made t (drop i ids) ≡ destroys_from made s ids
    → destroys_from made (destroyed_by made t id) (drop (i + 1) ids) ≡ destroys_from made s ids
destroy_more made s t ids i id lt is known =
    sym (ap (destroys_from made t) (drop_more ids i [] lt ∙ ap (λ (x : List ℕ). x ∷ drop (i + 1) ids) (sym is))) ∙ known

pub updates_end : (made : List Created) (destroys : List (List ℕ)) (s t : Progress) (ms : List Member) (i : ℕ) → length ms ≤ i
    → updates_from made destroys t (drop i ms) ≡ updates_from made destroys s ms → t ≡ updates_from made destroys s ms
updates_end made destroys s t ms i end known = sym (at_drop_all (updates_from made destroys t) ms i end) ∙ known

pub destroys_end : (made : List Created) (s t : Progress) (ids : List (List ℕ)) (i : ℕ) → length ids ≤ i
    → destroys_from made t (drop i ids) ≡ destroys_from made s ids → t ≡ destroys_from made s ids
destroys_end made s t ids i end known = sym (at_drop_all (destroys_from made t) ids i end) ∙ known

-- a planner that entered what came of an update under the id that it is reported under
pub entered_update : (made : List Created) (destroys : List (List ℕ)) (c : Content) (q : Planner) (t : Progress) (m : Member) (id : List ℕ) (x : Step)
    → id ≡ reported_id made m.name → x ≡ update_email made destroys t.content (update_in (member_of m)) → Follows c q (after_update id t x) → Follows c q (updated_by made destroys t m)
entered_update made destroys c q t m id x named is f =
    subst (λ (y : Step). Follows c q (after_update (reported_id made m.name) t y)) is (subst (λ (i : List ℕ). Follows c q (after_update i t x)) named f)

pub entered_destroy : (made : List Created) (c : Content) (q : Planner) (t : Progress) (sent id : List ℕ) (x : Step)
    → id ≡ reported_id made sent → x ≡ destroy_email made t.content sent → Follows c q (after_destroy id t x) → Follows c q (destroyed_by made t sent)
entered_destroy made c q t sent id x named is f =
    subst (λ (y : Step). Follows c q (after_destroy (reported_id made sent) t y)) is (subst (λ (i : List ℕ). Follows c q (after_destroy i t x)) named f)

-- ---- the update of an email that is there

update_at : (made : List Created) (destroys : List (List ℕ)) (c d : Content) (x : Update) (o : Option Email) → d.mailboxes ≡ c.mailboxes → update_of made destroys c x o ≡ update_of made destroys d x o
update_at made destroys c d x None same = refl
update_at made destroys c d x (Some e) same =
    ap (λ (ms : List Mailbox). if is_destroyed made destroys x.id then step.Rejected WillDestroy else step_to e (refiled (map mailbox_number ms) made (filing_of e) x.patch)) (sym same)

-- the mailboxes of a content that follows are those of the first
pub updated_found : (made : List Created) (destroys : List (List ℕ)) (c d : Content) (x : Update) (e : Email) → d.mailboxes ≡ c.mailboxes → Some e ≡ email_meant made d x.id
    → update_of made destroys c x (Some e) ≡ update_email made destroys d x
updated_found made destroys c d x e same found = update_at made destroys c d x (Some e) same ∙ ap (update_of made destroys d x) found
