-- When a patch is rejected.
use Rattle.std.specs.Prelude.{◌≡◌, ⊤}
use Rattle.jm_json.specs.Patch.{Patched, bad_patch}
use Rattle.jm_json.specs.declared.patches.PatchFault.{PatchFault}
use Rattle.jm_json.specs.declared.patches.PatchFault.TheVariants.{BadPatch, NoMemory}

abbrev pub ExplainsPatch : PatchFault → Patched → Type 0
ExplainsPatch (BadPatch path) r = r ≡ bad_patch path
ExplainsPatch NoMemory r = ⊤
