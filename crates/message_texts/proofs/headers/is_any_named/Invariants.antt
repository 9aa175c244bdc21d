use Rattle.std.proofs.Common.{◌≡◌, drop}
use Rattle.std.specs.List.{list_any}
use Rattle.message_texts.specs.Texts.{is_field_named}
use Rattle.message_texts.proofs.headers.is_any_named.Given as goal

abbrev pub invariant-loop-field : goal.invariant-loop-field
invariant-loop-field l = list_any (λ f. is_field_named l.name f) (drop l.field-index l.fields) ≡ list_any (λ f. is_field_named l.name f) l.fields
