-- What is read is the reading of the bytes.
use Rattle.std.proofs.Common.{◌≡◌, ℕ, List, [], option_and_then, Bool, true, false, cond, Some, None, IsUtf8, refl, sym, ap, ◌∙◌}
use Rattle.std.specs.Str.{is_utf8}
use Rattle.std.proofs.lemmas.Str.{IsUtf8-from_is_utf8, is_utf8-from_IsUtf8}
use Rattle.json.specs.Token.{Token}
use Rattle.json.specs.Lex.{tokens}
use Rattle.json.specs.Json as json
use Rattle.serde_json.specs.Data.{Data}
use Rattle.serde_json.specs.Read as json_text
use Rattle.jm_json.specs.Tree.{Tree}
use Rattle.jm_json.specs.JsonValues.{data_of}
use Rattle.jm_json.specs.Integers.{first_invalid}
use Rattle.jm_json.specs.Reading.{not_json, not_whole, whole, by_number, by_value, reading_of, tree_from}
use Rattle.jm_json.proofs.Values.{from_data}

refused_at : (b : Bool) (bs : List ℕ) → is_utf8 bs ≡ b → (IsUtf8 bs → json_text.read bs ≡ None) → cond b (by_value (json_text.read bs)) not_json ≡ not_json
refused_at true bs e h = ap by_value (h (IsUtf8-from_is_utf8 bs e))
refused_at false bs e h = refl

pub refused : (bs : List ℕ) → (IsUtf8 bs → json_text.read bs ≡ None) → reading_of bs ≡ not_json
refused bs h = refused_at (is_utf8 bs) bs refl h

taken : (bs : List ℕ) (d : Data) → IsUtf8 bs → json_text.read bs ≡ Some d → reading_of bs ≡ by_number (first_invalid d) d
taken bs d u e = rw (is_utf8-from_IsUtf8 bs u, e) refl

pub taken_whole : (bs : List ℕ) (d : Data) (t : Tree) → IsUtf8 bs → json_text.read bs ≡ Some d → first_invalid d ≡ None → data_of t ≡ d → reading_of bs ≡ whole t
taken_whole bs d t u e good same = taken bs d u e ∙ ap (λ o. by_number o d) good ∙ ap whole (ap tree_from (sym same) ∙ from_data t)

pub taken_invalid : (bs : List ℕ) (d : Data) (path : List ℕ) → IsUtf8 bs → json_text.read bs ≡ Some d → first_invalid d ≡ Some path → reading_of bs ≡ not_whole path
taken_invalid bs d path u e bad = taken bs d u e ∙ ap (λ o. by_number o d) bad

-- one value and no token after it is what is read
pub read_from : (bs : List ℕ) (j : json.Json) (d : Data) → json.value json_text.max_depth (tokens bs) ≡ Some (j, []) → json_text.of_json j ≡ Some d → json_text.read bs ≡ Some d
read_from bs j d e f = ap (λ o. option_and_then json_text.of_json (option_and_then (λ (p : json.Json × List Token). json.if_last p.0 p.1) o)) e ∙ f
