-- Objects that are read one after the other.
use Rattle.std.proofs.Common.{◌≡◌, ℕ, List, [], ◌∷◌, ◌++◌, map, Option, Some, None, option_and_then, option_map, refl, sym, ap, ◌∙◌}
use Rattle.std.proofs.lemmas.List.{append_assoc, map-append}
use Rattle.jm_base.specs.declared.identifiers.Kind.{Kind}
use Rattle.jm_json.specs.Json.{tree_of}
use Rattle.jm_json.specs.Tree.{Tree}
use Rattle.jm_json.specs.declared.tree.Json.{Json}
use Rattle.reply_readers.specs.Objects.{object_in, object_of, objects_from}
use Rattle.reply_readers.specs.declared.objects.ReadObject.{ReadObject}

moved : {A : Type 0} (xs : List A) (x : A) (o : Option (List A)) → option_map (λ os. xs ++ os) (option_map (λ os. x ∷ os) o) ≡ option_map (λ os. (xs ++ x ∷ []) ++ os) o
moved xs x None = refl
moved xs x (Some ys) = ap Some (sym (append_assoc xs (x ∷ []) ys))

pub on_object : (kind : Kind) (done after : List ReadObject) (value : Json) (object : ReadObject) (rest more : List Json)
    → rest ≡ value ∷ more → option_map object_of (Some object) ≡ object_in kind (tree_of value) → after ≡ done ++ object ∷ []
    → option_map (λ os. map object_of done ++ os) (objects_from kind (map tree_of rest)) ≡ option_map (λ os. map object_of after ++ os) (objects_from kind (map tree_of more))
on_object kind done after value object rest more split says pushed =
    let xs : List (ℕ × Tree) = map object_of done in
    let os : Option (List (ℕ × Tree)) = objects_from kind (map tree_of more) in
    ap (λ ys. option_map (λ zs. xs ++ zs) (objects_from kind (map tree_of ys))) split
    ∙ (ap (λ o. option_map (λ zs. xs ++ zs) (option_and_then (λ y. option_map (λ zs. y ∷ zs) os) o)) (sym says)
    ∙ (moved xs (object_of object) os
    ∙ ap (λ ys. option_map (λ zs. ys ++ zs) os) (sym (ap (map object_of) pushed ∙ map-append object_of done (object ∷ [])))))
