-- The updates of a set, one after the other, and the code that follows them.
use Rattle.std.proofs.Common.{◌≡◌, ℕ, ◌+◌, ◌<◌, ◌≤◌, Bool, true, false, ◌==◌, List, [], ◌∷◌, append-nil, drop, get_or, length, map, Vec, Global, refl, sym, ap, ◌∙◌, arith}
use Rattle.std.proofs.lemmas.Bool.{eqb-true, false≢true}
use Rattle.std.proofs.lemmas.List.{at_drop_all, drop_more}
use Rattle.jm_json.specs.Json.{member_of}
use Rattle.jm_json.specs.declared.invocation.Created.{Created}
use Rattle.jm_json.specs.declared.tree.Member.{Member}
use Rattle.mail_records.specs.Contents.{Content}
use Rattle.mail_records.specs.Edits.{after_edits}
use Rattle.mail_records.specs.declared.edits.Edit.{Edit}
use Rattle.mail_records.specs.declared.edits.Edit.TheVariants.{PutMailbox}
use Rattle.mail_records.specs.declared.records.Mailbox.{Mailbox}
use Rattle.set_parts.specs.Arguments.{update_in}
use Rattle.set_parts.specs.CreationIds.{reported_id}
use Rattle.set_parts.specs.Steps.{Progress, after_update, after_updates, with_edits}
use Rattle.set_parts.specs.declared.reported.Reported.{Reported}
use Rattle.set_parts.specs.declared.set_errors.SetError.{SetError}
use Rattle.set_parts.specs.declared.set_errors.SetError.TheVariants.{InvalidProperties}
use Rattle.set_parts.specs.declared.steps.Step.TheVariants.{Done, Rejected}
use Rattle.mailbox_updates.specs.UpdateViews.{Updating}
use Rattle.mailbox_updates.specs.Updates.{broken_names, deciding, done_unless, is_unchanged, update_as}
use Rattle.mailbox_updates.specs.Views.{Shows}
use Rattle.mailbox_updates.specs.declared.current.Current.{Current}
use Rattle.mailbox_updates.specs.declared.patches.Changed.TheVariants.{Invalid, Valid}

-- ---- what does not matter for the content

pub shows_counted : (p : Current) (k : ℕ) (c : Content) → Shows p c → Shows (record p { count = k }) c
shows_counted p k c shows = record {
  table = shows.table;
  changed = shows.changed;
  base = shows.base;
  base_emails = shows.base_emails;
  found = shows.found;
  gone = shows.gone;
  emails = shows.emails;
}

pub shows_edits : (p : Current) (edits : Vec Edit Global) (c : Content) → Shows p c → Shows (record p { edits = edits }) c
shows_edits p edits c shows = record {
  table = shows.table;
  changed = shows.changed;
  base = shows.base;
  base_emails = shows.base_emails;
  found = shows.found;
  gone = shows.gone;
  emails = shows.emails;
}

shows_reported : (p : Current) (new : Reported) (c : Content) → Shows p c → Shows (record p { reported = new }) c
shows_reported p new c shows = record {
  table = shows.table;
  changed = shows.changed;
  base = shows.base;
  base_emails = shows.base_emails;
  found = shows.found;
  gone = shows.gone;
  emails = shows.emails;
}

pub updating_told : (p : Current) (new : Reported) (s : Progress) (r : Reported) → new ≡ r → Updating p s → Updating (record p { reported = new }) (record s { reported = r })
updating_told p new s r is up = record {
  tracks = record {
    shows = shows_reported p new s.content up.tracks.shows;
    edits = up.tracks.edits;
    reported = is;
  };
  count = up.count;
  fresh = up.fresh;
}

-- no more edits
pub updating_nothing : (p : Current) (s : Progress) → Updating p s → Updating p (with_edits [] s)
updating_nothing p s up = record {
  tracks = record {
    shows = up.tracks.shows;
    edits = up.tracks.edits ∙ sym (append-nil s.edits);
    reported = up.tracks.reported;
  };
  count = up.count;
  fresh = up.fresh;
}

-- ---- what comes of an update

pub decided_invalid : (alone : Bool) (c : Content) (m : Mailbox) (e : SetError) → Rejected e ≡ deciding alone c m (Invalid e)
decided_invalid true c m e = refl
decided_invalid false c m e = refl

pub decided_unchanged : (alone : Bool) (c : Content) (m n : Mailbox) → is_unchanged m n ≡ true → Done [] ≡ deciding alone c m (Valid n)
decided_unchanged true c m n e = rw e refl
decided_unchanged false c m n e = rw e refl

pub decided_alone : (alone : Bool) (c : Content) (m n : Mailbox) → alone ≡ true → is_unchanged m n ≡ false
    → done_unless (broken_names (after_edits c (PutMailbox n true false ∷ [])) n) (PutMailbox n true false ∷ []) ≡ deciding alone c m (Valid n)
decided_alone true c m n a e = rw e refl
decided_alone false c m n a e = absurd (false≢true a)

pub decided_together : (alone : Bool) (c : Content) (m n : Mailbox) → alone ≡ false → is_unchanged m n ≡ false → Done (PutMailbox n true false ∷ []) ≡ deciding alone c m (Valid n)
decided_together true c m n a e = absurd (false≢true (sym a))
decided_together false c m n a e = rw e refl

pub done_all : (ns names : List (List ℕ)) (es : List Edit) → ns ≡ names → (length ns == 0) ≡ true → Done es ≡ done_unless names es
done_all [] names es is none = ap (λ (x : List (List ℕ)). done_unless x es) is
done_all (n ∷ ns) names es is none = absurd (omega (arith, eqb-true (length (n ∷ ns)) 0 none))

pub rejected_some : (ns names : List (List ℕ)) (es : List Edit) → ns ≡ names → (length ns == 0) ≡ false → Rejected (InvalidProperties ns) ≡ done_unless names es
rejected_some [] names es is none = absurd (false≢true (sym none))
rejected_some (n ∷ ns) names es is none = ap (λ (x : List (List ℕ)). done_unless x es) is

-- ---- one after the other

-- the items of a list from an index on
pub from_item : {A : Type 0} (xs : List A) (i : ℕ) (x : A) → i < length xs → x ≡ get_or xs i x → drop i xs ≡ x ∷ drop (i + 1) xs
from_item xs i x lt is = drop_more xs i x lt ∙ ap (λ y. y ∷ drop (i + 1) xs) (sym is)

-- what is left of updates, after some of them
abbrev pub updates_from : Bool → List Created → List (List ℕ) → Progress → List Member → Progress
updates_from alone made destroys s ms = after_updates (update_as alone made destroys) made s (map update_in (map member_of ms))

abbrev pub updated_by : Bool → List Created → List (List ℕ) → Progress → Member → Progress
updated_by alone made destroys s m =
    after_update (reported_id made (update_in (member_of m)).id) s (update_as alone made destroys s.content (update_in (member_of m)))

pub update_more : (alone : Bool) (made : List Created) (destroys : List (List ℕ)) (s t : Progress) (ms : List Member) (i : ℕ) (m : Member) → drop i ms ≡ m ∷ drop (i + 1) ms
    → updates_from alone made destroys t (drop i ms) ≡ updates_from alone made destroys s ms
    → updates_from alone made destroys (updated_by alone made destroys t m) (drop (i + 1) ms) ≡ updates_from alone made destroys s ms
update_more alone made destroys s t ms i m is known = ap (updates_from alone made destroys t) (sym is) ∙ known

pub updates_end : (alone : Bool) (made : List Created) (destroys : List (List ℕ)) (s t : Progress) (ms : List Member) (i : ℕ) → length ms ≤ i
    → updates_from alone made destroys t (drop i ms) ≡ updates_from alone made destroys s ms → t ≡ updates_from alone made destroys s ms
updates_end alone made destroys s t ms i end known = sym (at_drop_all (updates_from alone made destroys t) ms i end) ∙ known
