-- One level of parts.
use Rattle.std.proofs.Common.{◌≡◌, ℕ, zero, suc, ◌-◌, ◌<◌, ◌&&◌, List, [], Some, sym, ap, ◌∙◌, arith}
use Rattle.std.specs.Prelude.{codes, unwrap_or}
use Rattle.std.specs.List.{list_all}
use Rattle.jm_json.specs.Tree.{Tree}
use Rattle.jm_json.specs.Find.{as_object, find}
use Rattle.draft_form.specs.Members.{items_in, keep_rule, members_in}
use Rattle.draft_form.specs.Parts.{has_part}
use Rattle.draft_form.specs.Structures.{DraftParts, has_parts, is_part, members_before, part_before}

-- an object is a part by what its members are, and by the parts within it
pub part_form : (levels : ℕ) (values : List (List ℕ × Tree)) (t : Tree) (ms : List (List ℕ × Tree)) → 0 < levels → as_object t ≡ Some ms
    → is_part levels values t ≡ has_parts (levels - 1) values ms
part_form zero values t ms some e = absurd (omega (arith, some))
part_form (suc levels) values t ms some e =
    let same : suc levels - 1 ≡ levels = omega arith in
    ap (λ o. keep_rule (has_part values) o && list_all (is_part levels values) (items_in (find (codes "subParts") (unwrap_or o [])))) e
    ∙ ap (λ n. has_parts n values ms) (sym same)

pub part_step : (levels : ℕ) (values : List (List ℕ × Tree)) (t : Tree) (ms : List (List ℕ × Tree)) (later : DraftParts) → 0 < levels → ms ≡ members_in t
    → members_before (levels - 1) values ms later ≡ part_before levels values t later
part_step zero values t ms later some e = absurd (omega (arith, some))
part_step (suc levels) values t ms later some e =
    let same : suc levels - 1 ≡ levels = omega arith in
    ap (λ n. members_before n values ms later) same ∙ ap (λ m. members_before levels values m later) e
