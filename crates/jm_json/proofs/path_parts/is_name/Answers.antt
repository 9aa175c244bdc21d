use Rattle.std.proofs.Common.{◌≡◌, ◌∷◌, is_some, ap, ◌∙◌}
use Rattle.jm_json.specs.Pointer.{name_of}
use Rattle.jm_json.proofs.Patched.{mapped_some}
use Rattle.jm_json.proofs.path_parts.is_name.Goals as goal

pub bytes-preserved : goal.bytes-preserved
bytes-preserved c =
    let u = c.in-Some-unescape_first.first in
    let first : c.bytes.rest.now ≡ c.in-Some.byte.now ∷ c.in-Some.more.now = c.in-Some.ensures.cases.0 in
    c.bytes.invariant ∙ ap (λ s. is_some (name_of s)) first ∙ ap is_some c.in-Some-unescape_first.ensures.name ∙ mapped_some u.byte (name_of u.rest.now)
