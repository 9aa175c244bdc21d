use Rattle.std.proofs.Common.{◌∙◌, List, ℕ, drop, take, sym, ap}
use Rattle.jm_json.specs.Pointer.{cut}
use Rattle.email_set.specs.Patches.{property_of}
use Rattle.email_set.proofs.PathParts.{no_property}
use Rattle.email_set.proofs.paths.read_property.Goals as goal

pub returns-then-part_end-bytes : goal.returns-then-part_end-bytes
returns-then-part_end-bytes c =
    let path : List ℕ = c.as_bytes-bytes.result.now in
    let end = c.part_end.result in
    sym (ap (λ (p : List ℕ). property_of (cut p)) (sym c.as_bytes-bytes.ensures.value)
    ∙ (ap property_of (c.part_end.ensures.more c.if-part_end-bytes.true) ∙ no_property (take end path) (drop 1 (drop end path))))
