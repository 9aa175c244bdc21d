use Rattle.std.proofs.Common.{◌≡◌, drop}
use Rattle.std.specs.List.{list_any}
use Rattle.message_texts.specs.Texts.{field_has}
use Rattle.message_texts.proofs.headers.has_in_fields.Given as goal

abbrev pub invariant-loop-field : goal.invariant-loop-field
invariant-loop-field l =
    (l.fields ≡ l.initial.fields)
    × (list_any (λ f. field_has l.name l.needle f) (drop l.field-index l.fields) ≡ list_any (λ f. field_has l.name l.needle f) l.fields)
