-- The plan of a set: its response, its edits, and what it makes (RFC 8620, 5.3).
use Rattle.std.specs.Prelude.{ℕ, List, ◌++◌}
use Rattle.jm_base.specs.declared.identifiers.Kind.{Kind}
use Rattle.mail_counts.specs.DerivedEdits.{derived_edits}
use Rattle.mail_counts.specs.Plans.{Ground}
use Rattle.mail_records.specs.Contents.{Content}
use Rattle.mail_records.specs.declared.edits.Edit.{Edit}
use Rattle.set_parts.specs.Creates.{Creating}
use Rattle.set_parts.specs.Outcomes.{Plan}
use Rattle.set_parts.specs.Responses.{set_reply}
use Rattle.set_parts.specs.Steps.{Progress}
use Rattle.set_parts.specs.declared.reported.Reported.{Reported}

-- what is reported of creates, and of updates and destroys
abbrev pub with_creates : Creating → Reported → Reported
with_creates p r = record r { created = p.created; not_created = p.not_created }

-- the edits of creates, updates and destroys, and those of threads and counts that follow from them
abbrev pub all_edits : Content → Creating → Progress → List Edit
all_edits c p s = (p.edits ++ s.edits) ++ derived_edits c (p.edits ++ s.edits)

-- The plan of a set of records of a kind: of its creates, and of the updates and destroys after
-- them.
abbrev pub plan_after : Kind → Ground → List ℕ → Creating → Progress → Plan
plan_after kind g account p s = record {
  reply = set_reply kind g account (with_creates p s.reported) (all_edits g.content p s);
  edits = all_edits g.content p s;
  made = p.fresh;
  blobs = p.blobs;
}
