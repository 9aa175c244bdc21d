-- What the code keeps of a content that the updates and destroys of a set change.
use Rattle.std.proofs.Common.{◌≡◌, ℕ, ◌+◌, ◌<◌, ◌≤◌, drop, get_or, Bool, true, false, ◌||◌, cond, eqb, List, [], ◌∷◌, ◌++◌, filter, map, length, Some, None, is_some, refl, sym, ap, ap₂, ◌∙◌, subst, ⊎_elim, append_assoc}
use Rattle.std.specs.List.{flat_map}
use Rattle.std.proofs.lemmas.Bool.{cases_Bool, eqb-true, true≢false}
use Rattle.std.proofs.lemmas.List.{drop_all, drop_more}
use Rattle.mail_records.specs.Contents.{Content, Held, email_number, mailbox_at, mailbox_number}
use Rattle.mail_records.specs.Edits.{after_edits}
use Rattle.mail_records.specs.Tables.{IsTable, lookup, without}
use Rattle.mail_records.specs.declared.edits.Edit.{Edit}
use Rattle.mail_records.specs.declared.edits.Edit.TheVariants.{DropMailbox}
use Rattle.mail_records.specs.declared.records.Mailbox.{Mailbox}
use Rattle.mail_records.proofs.Tables.{IsTable-without, lookup-without_other, lookup-without_same}
use Rattle.mail_counts.specs.Counts.{is_in}
use Rattle.mail_counts.specs.Touched.{is_one_of}
use Rattle.jm_json.specs.declared.invocation.Created.{Created}
use Rattle.set_parts.specs.CreationIds.{reported_id}
use Rattle.set_parts.specs.Steps.{Progress as Steps, after_destroy, after_destroys, before_steps, note_destroyed, note_not_destroyed, with_edits}
use Rattle.set_parts.specs.SetErrors.{error_tree}
use Rattle.set_parts.specs.declared.reported.Reported.{Reported}
use Rattle.set_parts.specs.declared.set_errors.SetError.{SetError}
use Rattle.set_parts.specs.declared.steps.Step.{Step}
use Rattle.set_parts.specs.declared.steps.Step.TheVariants.{Done, Rejected}
use Rattle.mailbox_set.specs.Destroys.{destroy_edits, destroy_mailbox, destroy_of, destroy_there, removal}
use Rattle.mailbox_updates.specs.EmailsLeft.{emails_left, left_without}
use Rattle.mailbox_updates.specs.PresentMailboxes.{present_at}
use Rattle.mailbox_set.specs.Views.{Drops, IsStepsOf, IsToDestroy}
use Rattle.mailbox_updates.specs.Views.{Shows, Tracks}
use Rattle.mailbox_set.specs.declared.plan.Steps.{Steps as TheSteps}
use Rattle.mailbox_updates.specs.declared.current.Current.{Current}
use Rattle.mailbox_creates.specs.Properties.{mailbox_meant}
use Rattle.mailbox_set.proofs.EmailsLeft.{emails_more, table_left}
use Rattle.mailbox_updates.proofs.Present.{one_pushed, present_without}
use Rattle.mailbox_set.proofs.Removing.{destroyed}
use Rattle.set_parts.specs.Arguments.{Update}
use Rattle.mailbox_updates.specs.Updates.{after_mailbox_updates}
use Rattle.mailbox_updates.proofs.Showing.{present_other}

-- ---- a mailbox that is there is not destroyed

stays_by : (b : Bool) (n : ℕ) (p : Current) → is_one_of p.destroyed.items n ≡ b → (b ≡ true → ⊥) → is_one_of p.destroyed.items n ≡ false
stays_by true n p is never = absurd (never refl)
stays_by false n p is never = is

pub stays : (p : Current) (c : Content) (n : ℕ) → Shows p c → is_some (mailbox_at c n) ≡ true → is_one_of p.destroyed.items n ≡ false
stays p c n shows there =
    stays_by (is_one_of p.destroyed.items n) n p refl
    (λ (out : is_one_of p.destroyed.items n ≡ true).
    let none : mailbox_at c n ≡ None =
    shows.found n
    ∙ (present_other p.changed.rows p.content.now.content.mailboxes p.destroyed.items n (shows.gone n out)
    ∙ ap (λ b. cond b None (lookup mailbox_number n p.content.now.content.mailboxes)) out) in
    true≢false (sym there ∙ ap is_some none))

-- ---- a destroy

left_of_or : (a b : Bool) → b ≡ false → (a || b) ≡ true → a ≡ true
left_of_or true b other e = refl
left_of_or false b other e = absurd (true≢false (sym e ∙ other))

pub shows_drop : (p q : Current) (c d : Content) (n : ℕ) → q.content.now ≡ p.content.now → q.changed.rows ≡ without mailbox_number n p.changed.rows → q.destroyed.items ≡ p.destroyed.items ++ n ∷ []
    → d.mailboxes ≡ without mailbox_number n c.mailboxes → d.emails ≡ flat_map (left_without n) c.emails → Shows p c → Shows q d
shows_drop p q c d n content changed destroyed mailboxes emails shows = record {
  table = subst (IsTable mailbox_number) (sym mailboxes) (IsTable-without mailbox_number n c.mailboxes shows.table);
  changed = subst (IsTable mailbox_number) (sym changed) (IsTable-without mailbox_number n p.changed.rows shows.changed);
  base = subst (λ (h : Held). IsTable mailbox_number h.content.mailboxes) (sym content) shows.base;
  base_emails = subst (λ (h : Held). IsTable email_number h.content.emails) (sym content) shows.base_emails;
  found = λ k.
      ap (lookup mailbox_number k) mailboxes
      ∙ (present_without c.mailboxes p.changed.rows p.content.now.content.mailboxes p.destroyed.items shows.found n k
      ∙ (ap (λ (h : Held). present_at (without mailbox_number n p.changed.rows) (p.destroyed.items ++ n ∷ []) h.content.mailboxes k) (sym content)
      ∙ ap₂ (λ (rows : List Mailbox) (gone : List ℕ). present_at rows gone q.content.now.content.mailboxes k) (sym changed) (sym destroyed)));
  gone = λ k one. ap (lookup mailbox_number k) changed ∙ not_there k (sym (one_pushed p.destroyed.items n k) ∙ subst (λ (ns : List ℕ). is_one_of ns k ≡ true) destroyed one);
  emails =
      emails
      ∙ (ap (flat_map (left_without n)) shows.emails
      ∙ (sym (emails_more p.destroyed.items n p.content.now.content.emails)
      ∙ (ap (λ (ns : List ℕ). emails_left ns p.content.now.content.emails) (sym destroyed) ∙ ap (λ (h : Held). emails_left q.destroyed.items h.content.emails) (sym content))));
}
  where
    not_there : (k : ℕ) → (is_one_of p.destroyed.items k || eqb n k) ≡ true → lookup mailbox_number k (without mailbox_number n p.changed.rows) ≡ None
    not_there k one =
        ⊎_elim
        (λ (same : eqb n k ≡ true). ap (λ (x : ℕ). lookup mailbox_number x (without mailbox_number n p.changed.rows)) (sym (eqb-true n k same)) ∙ lookup-without_same mailbox_number n p.changed.rows)
        (λ (other : eqb n k ≡ false). lookup-without_other mailbox_number n k other p.changed.rows ∙ shows.gone k (left_of_or (is_one_of p.destroyed.items k) (eqb n k) other one))
        (cases_Bool (eqb n k))

-- the edits of a destroy follow those up to here
pub tracks_destroyed : (p q r : Current) (s : Steps) (n : ℕ) → q.content.now ≡ p.content.now → q.changed.rows ≡ p.changed.rows → q.destroyed.items ≡ p.destroyed.items → q.reported ≡ p.reported
    → q.edits.items ≡ p.edits.items ++ map (removal n) (filter (is_in n) s.content.emails) → IsTable email_number s.content.emails → Drops q n r → Tracks p s → Tracks r (with_edits (destroy_edits s.content n) s)
tracks_destroyed p q r s n content changed gone reported edits table drops tracks =
    let c = s.content in
    let is = destroyed n c table in
    record {
      shows =
          shows_drop p r c (after_edits c (destroy_edits c n)) n (drops.content ∙ content) (drops.changed ∙ ap (without mailbox_number n) changed) (drops.destroyed ∙ ap (λ (ns : List ℕ). ns ++ n ∷ []) gone)
          is.mailboxes is.emails tracks.shows;
      edits =
          drops.edits
          ∙ (ap (λ (es : List Edit). es ++ DropMailbox n ∷ []) (edits ∙ ap (λ (es : List Edit). es ++ map (removal n) (filter (is_in n) c.emails)) tracks.edits)
          ∙ append_assoc s.edits (map (removal n) (filter (is_in n) c.emails)) (DropMailbox n ∷ []));
      reported = drops.reported ∙ (reported ∙ tracks.reported);
    }

-- ---- what is reported of a destroy

pub emails_table : (p : Current) (c : Content) → Shows p c → IsTable email_number c.emails
emails_table p c shows = subst (IsTable email_number) (sym shows.emails) (table_left p.destroyed.items p.content.now.content.emails shows.base_emails)

pub to_destroy : (n : ℕ) (m : Mailbox) (made : List Created) (remove : Bool) (c : Content) (id : List ℕ) → mailbox_meant made c id ≡ Some m → is_some (mailbox_at c m.number) ≡ true → n ≡ m.number
    → destroy_there remove c m.number ≡ Done (destroy_edits c m.number) → IsToDestroy made remove c id n
to_destroy n m made remove c id meant there same done = record {
  there = ap (λ k. is_some (mailbox_at c k)) same ∙ there;
  done = ap (destroy_of remove c) meant ∙ (done ∙ ap (λ k. Done (destroy_edits c k)) (sym same));
}

shows_reported : (p : Current) (new : Reported) (c : Content) → Shows p c → Shows (record p { reported = new }) c
shows_reported p new c shows = record {
  table = shows.table;
  changed = shows.changed;
  base = shows.base;
  base_emails = shows.base_emails;
  found = shows.found;
  gone = shows.gone;
  emails = shows.emails;
}

pub reports_destroyed : (p : Current) (new : Reported) (r : Current) (s : Steps) (told id : List ℕ) (n : ℕ) (step : Step) → new ≡ note_destroyed told p.reported → told ≡ id → step ≡ Done (destroy_edits s.content n) → Tracks p s
    → (Tracks (record p { reported = new }) (record s { reported = note_destroyed id s.reported }) → Tracks r (with_edits (destroy_edits s.content n) (record s { reported = note_destroyed id s.reported })))
    → Tracks r (after_destroy id s step)
reports_destroyed p new r s told id n step is same done tracks all =
    subst (λ (x : Step). Tracks r (after_destroy id s x)) (sym done)
    (all (record {
      shows = shows_reported p new s.content tracks.shows;
      edits = tracks.edits;
      reported = is ∙ (ap (λ (t : List ℕ). note_destroyed t p.reported) same ∙ ap (note_destroyed id) tracks.reported);
    }))

pub reports_rejected : (p : Current) (new : Reported) (s : Steps) (told id : List ℕ) (error : SetError) (step : Step) → new ≡ note_not_destroyed told (error_tree error) p.reported → told ≡ id → step ≡ Rejected error → Tracks p s
    → Tracks (record p { reported = new }) (after_destroy id s step)
reports_rejected p new s told id error step is same rejected tracks =
    subst (λ (x : Step). Tracks (record p { reported = new }) (after_destroy id s x)) (sym rejected)
    (record {
      shows = shows_reported p new s.content tracks.shows;
      edits = tracks.edits;
      reported = is ∙ (ap (λ (t : List ℕ). note_not_destroyed t (error_tree error) p.reported) same ∙ ap (note_not_destroyed id (error_tree error)) tracks.reported);
    })

-- ---- all steps

abbrev AllSteps : TheSteps → List Created → Bool → Content → List (List ℕ) → List Update → Type 0
AllSteps x made remove c destroys updates =
    IsStepsOf x (after_destroys (destroy_mailbox made remove) made (after_mailbox_updates made destroys (before_steps c) updates) destroys)

pub steps_same : (x : TheSteps) (made : List Created) (a b : Bool) (c d : Content) (xs ys : List (List ℕ)) (us vs : List Update) → a ≡ b → c ≡ d → xs ≡ ys → us ≡ vs
    → AllSteps x made a c xs us → AllSteps x made b d ys vs
steps_same x made a b c d xs ys us vs same content destroys updates h =
    subst (AllSteps x made b d ys) updates
    (subst (λ (zs : List (List ℕ)). AllSteps x made b d zs us) destroys
    (subst (λ (z : Content). AllSteps x made b z xs us) content
    (subst (λ (z : Bool). AllSteps x made z c xs us) same h)))

-- ---- destroys, one more and the last one

pub destroy_more : (step : Content → List ℕ → Step) (made : List Created) (s t : Steps) (ids : List (List ℕ)) (i : ℕ) (id : List ℕ) → i < length ids → id ≡ get_or ids i []
    → after_destroys step made t (drop i ids) ≡ after_destroys step made s ids → after_destroys step made (after_destroy (reported_id made id) t (step t.content id)) (drop (i + 1) ids) ≡ after_destroys step made s ids
destroy_more step made s t ids i id lt is all =
    ap (λ (x : List ℕ). after_destroys step made (after_destroy (reported_id made x) t (step t.content x)) (drop (i + 1) ids)) is
    ∙ (sym (ap (after_destroys step made t) (drop_more ids i [] lt)) ∙ all)

pub destroys_end : (step : Content → List ℕ → Step) (made : List Created) (s t : Steps) (ids : List (List ℕ)) (i : ℕ) → length ids ≤ i → after_destroys step made t (drop i ids) ≡ after_destroys step made s ids → t ≡ after_destroys step made s ids
destroys_end step made s t ids i le all = sym (ap (after_destroys step made t) (drop_all i ids le)) ∙ all
