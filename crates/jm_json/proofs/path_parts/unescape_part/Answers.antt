use Rattle.std.proofs.Common.{◌≡◌, ◌∷◌, ◌++◌, option_map, sym, ap, ◌∙◌}
use Rattle.jm_json.specs.Pointer.{name_of}
use Rattle.jm_json.proofs.Patched.{mapped_twice}
use Rattle.jm_json.proofs.path_parts.unescape_part.Goals as goal

pub bytes-preserved : goal.bytes-preserved
bytes-preserved c =
    let u = c.in-Some-unescape_first.first in
    let before = c.bytes.name.items in
    let first : c.bytes.rest.now ≡ c.in-Some.byte.now ∷ c.in-Some.more.now = c.in-Some.ensures.cases.0 in
    c.bytes.invariant ∙ ap (λ s. option_map (λ k. before ++ k) (name_of s)) first ∙ ap (option_map (λ k. before ++ k)) c.in-Some-unescape_first.ensures.name
    ∙ mapped_twice before u.byte (name_of u.rest.now) ∙ ap (λ xs. option_map (λ k. xs ++ k) (name_of u.rest.now)) (sym c.in_ok-push-in-Some-unescape_first.ensures.items)
