-- What contracts see of the code's own types.
use Rattle.std.specs.Prelude.{ℕ, suc, List, [], length, Option, None, Some}
use Rattle.mime_lines.specs.FieldOffsets.{lowered}
use Rattle.mime_type.specs.Grammar.{Pair, Kind, Turn, ends, breaks, skips, gives, value_at, params_of}
use Rattle.mime_type.specs.declared.values.Run.{Run}
use Rattle.mime_type.specs.declared.values.Value.{Value}
use Rattle.mime_type.specs.declared.params.Param.{Param}
use Rattle.mime_type.specs.declared.params.Taken.{Taken}
use Rattle.mime_type.specs.declared.params.Turn.{Turn as Turn'}
use Rattle.mime_type.specs.declared.params.Turn.TheVariants as turns
use Rattle.mime_type.specs.declared.kind.Kind.{Kind as Kind'}

abbrev pub run_of : Run → List ℕ × List ℕ
run_of r = (r.text.now, r.rest.now)

abbrev pub value_of : Value → List ℕ × List ℕ
value_of v = (v.text.items, v.rest.now)

-- the text that was found, or what is after it
abbrev pub text_found : Option (List ℕ × List ℕ) → List ℕ
text_found None = []
text_found (Some x) = x.0

abbrev pub rest_found : Option (List ℕ × List ℕ) → Option (List ℕ)
rest_found None = None
rest_found (Some x) = Some x.1

-- the value that a text begins with
abbrev pub leading_value : List ℕ → List ℕ
leading_value text = text_found (value_at text)

abbrev pub pair : Param → Pair
pair p = record { name = lowered p.name.now; value = leading_value p.value.now }

abbrev pub taken : Taken → Pair × List ℕ
taken t = (pair t.param, t.rest.now)

abbrev pub turn : Turn' → Turn
turn turns.Ends = ends
turn turns.Breaks = breaks
turn (turns.Skips rest) = skips rest.now
turn (turns.Gives p rest) = gives (pair p) rest.now

-- one more than the length of what is left, where anything may be
abbrev pub turn_size : Turn' → ℕ
turn_size turns.Ends = 0
turn_size turns.Breaks = 0
turn_size (turns.Skips rest) = suc (length rest.now)
turn_size (turns.Gives p rest) = suc (length rest.now)

-- a type or a disposition, with the parameters that its text has
abbrev pub kind_of : Kind' → Kind
kind_of k = record { kind = k.kind.items; params = (params_of k.params.now).found }
