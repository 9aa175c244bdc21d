use Rattle.std.proofs.Common.{◌<◌, List, ℕ, [], ◌∷◌, ◌++◌, length, map, sym, ap, ◌∙◌, subst, arith}
use Rattle.std.proofs.lemmas.List.{length-map}
use Rattle.jm_json.specs.Tree.{Tree}
use Rattle.jm_json.specs.Json.{member_of}
use Rattle.jm_json.specs.KeyIndices.{IsKeyIndex}
use Rattle.jm_json.specs.Patch.{goes_on}
use Rattle.jm_json.specs.declared.tree.Member.{Member}
use Rattle.jm_json.proofs.Puts.{named}
use Rattle.jm_json.proofs.Prefixes.{prefix_held, prefix_past, prefix_new}
use Rattle.jm_json.proofs.patches.has_longer_at.Goals as goal

pub returns-in-Held : goal.returns-in-Held
returns-in-Held c =
    let path = c.args.path.now in
    let ms = map member_of c.args.changes.now in
    sym (prefix_held path ms c.in-Held.field-0 (subst (λ p. IsKeyIndex p (path ++ 47 ∷ []) ms) c.in-Held.is c.requires.place))

pub returns-then-at-changes : goal.returns-then-at-changes
returns-then-at-changes c =
    let path = c.args.path.now in
    let ms = c.args.changes.now in
    let at = c.in-New.at in
    let m = c.index-changes-at.result in
    let h : at < length ms = omega (arith, c.if-at-changes.true) in
    let place = subst (λ p. IsKeyIndex p (path ++ 47 ∷ []) (map member_of ms)) c.in-New.is c.requires.place in
    let name = c.as_bytes.ensures.value ∙ ap (λ (x : Member). x.name) (sym c.index-changes-at.is) ∙ sym (ap (λ (p : List ℕ × Tree). p.0) (named ms at m c.index-changes-at.is h)) in
    c.is_path_prefix.ensures ∙ ap (goes_on path) name ∙ sym (prefix_new path (map member_of ms) at (member_of m) (omega (arith, h, length-map ms member_of)) c.requires.rise place)

pub returns-else-at-changes : goal.returns-else-at-changes
returns-else-at-changes c =
    let path = c.args.path.now in
    let ms = c.args.changes.now in
    let place = subst (λ p. IsKeyIndex p (path ++ 47 ∷ []) (map member_of ms)) c.in-New.is c.requires.place in
    sym (prefix_past path (map member_of ms) c.in-New.at (omega (arith, c.if-at-changes.false, length-map ms member_of)) place)
