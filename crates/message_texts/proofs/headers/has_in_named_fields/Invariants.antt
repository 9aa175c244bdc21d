use Rattle.std.proofs.Common.{◌≡◌, drop, ℕ, List}
use Rattle.std.specs.List.{list_any}
use denote.Ref.{Bor}
use Rattle.message_texts.specs.Texts.{field_has}
use Rattle.message_texts.proofs.headers.has_in_named_fields.Given as goal

abbrev pub invariant-loop-name : goal.invariant-loop-name
invariant-loop-name l =
    (l.fields ≡ l.initial.fields)
    × (list_any (λ (name : Bor (List ℕ)). list_any (λ f. field_has name.now l.needle f) l.initial.fields) (drop l.name-index l.names)
    ≡ list_any (λ (name : Bor (List ℕ)). list_any (λ f. field_has name.now l.needle f) l.initial.fields) l.names)
