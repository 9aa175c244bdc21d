-- The updates and destroys of a set, one after the other (RFC 8620, 5.3).
use Rattle.std.specs.Prelude.{ℕ, List, [], ◌∷◌, ◌++◌, Bool, bytes_eq}
use Rattle.std.specs.List.{list_any}
use Rattle.jm_json.specs.Tree.{Tree, null, text}
use Rattle.jm_json.specs.Order.{put}
use Rattle.jm_json.specs.declared.invocation.Created.{Created}
use Rattle.mail_records.specs.Contents.{Content}
use Rattle.mail_records.specs.Edits.{after_edits}
use Rattle.mail_records.specs.declared.edits.Edit.{Edit}
use Rattle.set_parts.specs.declared.steps.Step.{Step}
use Rattle.set_parts.specs.declared.steps.Step.TheVariants.{Rejected, Done}
use Rattle.set_parts.specs.declared.reported.Reported.{Reported}
use Rattle.set_parts.specs.Arguments.{Update}
use Rattle.set_parts.specs.CreationIds.{reported_id}
use Rattle.set_parts.specs.SetErrors.{error_tree}

-- How far the updates and destroys of a set have come: the content, the edits that led to it, and
-- what is reported.
pub record Progress : Type 0 where
  pub content : Content
  pub edits : List Edit
  pub reported : Reported

-- nothing is reported
abbrev pub nothing_reported : Reported
nothing_reported = record {
  created = [];
  destroyed = [];
  not_created = [];
  not_destroyed = [];
  not_updated = [];
  updated = [];
}

-- where the updates and destroys of a set begin
abbrev pub before_steps : Content → Progress
before_steps c = record { content = c; edits = []; reported = nothing_reported }

-- with these edits
abbrev pub with_edits : List Edit → Progress → Progress
with_edits es s =
    record s { content = after_edits s.content es; edits = s.edits ++ es }

-- ---- what is reported

-- An update is reported with null: the server changes nothing that the client did not send. Of two
-- updates that are reported under one id, the later one's report counts.
abbrev pub note_updated : List ℕ → Reported → Reported
note_updated id r = record r { updated = put id null r.updated }

abbrev pub note_not_updated : List ℕ → Tree → Reported → Reported
note_not_updated id error r = record r { not_updated = put id error r.not_updated }

abbrev pub note_destroyed : List ℕ → Reported → Reported
note_destroyed id r = record r { destroyed = r.destroyed ++ text id ∷ [] }

abbrev pub note_not_destroyed : List ℕ → Tree → Reported → Reported
note_not_destroyed id error r = record r { not_destroyed = put id error r.not_destroyed }

-- ---- one after the other

-- after an update that is reported under this id
abbrev pub after_update : List ℕ → Progress → Step → Progress
after_update id s (Rejected error) =
    record s { reported = note_not_updated id (error_tree error) s.reported }
after_update id s (Done edits) =
    with_edits edits (record s { reported = note_updated id s.reported })

-- after a destroy that is reported under this id
abbrev pub after_destroy : List ℕ → Progress → Step → Progress
after_destroy id s (Rejected error) =
    record s { reported = note_not_destroyed id (error_tree error) s.reported }
after_destroy id s (Done edits) =
    with_edits edits (record s { reported = note_destroyed id s.reported })

-- After updates, one after the other. `step` is what comes of an update on a content, here on the
-- one that those before it left.
abbrev pub after_updates : (Content → Update → Step) → List Created → Progress → List Update
    → Progress
after_updates step made s [] = s
after_updates step made s (x ∷ xs) =
    after_updates step made (after_update (reported_id made x.id) s (step s.content x)) xs

-- After destroys, one after the other. `step` is what comes of a destroy on a content, here on the
-- one that those before it left.
abbrev pub after_destroys : (Content → List ℕ → Step) → List Created → Progress → List (List ℕ)
    → Progress
after_destroys step made s [] = s
after_destroys step made s (x ∷ xs) =
    after_destroys step made (after_destroy (reported_id made x) s (step s.content x)) xs

-- The set also destroys what a string means: the list of what it destroys names it (RFC 8620, 5.3:
-- willDestroy).
abbrev pub is_destroyed : List Created → List (List ℕ) → List ℕ → Bool
is_destroyed made destroys s =
    list_any (λ d. bytes_eq (reported_id made d) (reported_id made s)) destroys
