-- The groups of a list are those that its pieces give in turn.
use Rattle.std.proofs.Common.{◌≡◌, ℕ, true, false, cond, List, [], ◌∷◌, ◌++◌, map, filter, Option, Some, None, refl, sym, ap, ◌∙◌, append_assoc}
use Rattle.std.proofs.lemmas.List.{append-nil}
use Rattle.header_forms.specs.declared.address_characters.AddressCharacter.{AddressCharacter}
use Rattle.header_forms.specs.declared.address_characters.Sign.TheVariants.{Comma, Colon, Semicolon}
use Rattle.header_forms.specs.declared.address.Address.{Address}
use Rattle.header_forms.specs.declared.address.Group.{Group}
use Rattle.header_forms.specs.Groups.{Entry, Slices, last, slice, slices_from, with_item, entries_from}
use Rattle.header_forms.specs.Addresses.{address_of, group_of, group_name, shown_by, is_shown, groups_by}
use Rattle.header_forms.specs.GroupSteps.{shown, groups_from}

-- with addresses before those of the first group
abbrev pub prefixed : List Address → List Group → List Group
prefixed addresses [] = []
prefixed addresses (g ∷ gs) = record { name = g.name; addresses = addresses ++ g.addresses } ∷ gs

prefixed_none : (gs : List Group) → prefixed [] gs ≡ gs
prefixed_none [] = refl
prefixed_none (g ∷ gs) = refl

prefixed_twice : (a b : List Address) (gs : List Group) → prefixed a (prefixed b gs) ≡ prefixed (a ++ b) gs
prefixed_twice a b [] = refl
prefixed_twice a b (g ∷ gs) = ap (λ all. record { name = g.name; addresses = all } ∷ gs) (sym (append_assoc a b g.addresses))

item_first : (ms : List AddressCharacter) (es : List Entry) → map group_of (with_item ms es) ≡ prefixed (address_of ms) (map group_of es)
item_first ms [] = refl
item_first ms (e ∷ es) = refl

shown_first : (name : Option (List ℕ)) (addresses : List Address) (gs : List Group)
    → filter is_shown (record { name = name; addresses = addresses } ∷ gs) ≡ shown name addresses ++ filter is_shown gs
shown_first name addresses gs =
    let g : Group = record { name = name; addresses = addresses } in
    elim (shown_by name addresses) as (λ v. cond v (g ∷ filter is_shown gs) (filter is_shown gs) ≡ cond v (g ∷ []) [] ++ filter is_shown gs) [ true ↦ refl | false ↦ refl ]

in_turn : (s : Slices) (name : Option (List AddressCharacter)) (a : List Address) → filter is_shown (prefixed a (map group_of (entries_from s name))) ≡ groups_from (group_name name) a s
in_turn (last ms) name a =
    shown_first (group_name name) (a ++ (address_of ms ++ [])) [] ∙ append-nil (shown (group_name name) (a ++ (address_of ms ++ [])))
    ∙ ap (λ t. shown (group_name name) (a ++ t)) (append-nil (address_of ms))
in_turn (slice ms Comma later) name a =
    ap (λ gs. filter is_shown (prefixed a gs)) (item_first ms (entries_from later name))
    ∙ ap (filter is_shown) (prefixed_twice a (address_of ms) (map group_of (entries_from later name)))
    ∙ in_turn later name (a ++ address_of ms)
in_turn (slice ms Colon later) name a =
    let gs = map group_of (entries_from later (Some ms)) in
    shown_first (group_name name) (a ++ []) gs
    ∙ ap (λ t. shown (group_name name) t ++ filter is_shown gs) (append-nil a)
    ∙ ap (λ t. shown (group_name name) a ++ t) (ap (filter is_shown) (sym (prefixed_none gs)) ∙ in_turn later (Some ms) [])
in_turn (slice ms Semicolon later) name a =
    let gs = map group_of (entries_from later None) in
    shown_first (group_name name) (a ++ (address_of ms ++ [])) gs
    ∙ ap (λ t. shown (group_name name) (a ++ t) ++ filter is_shown gs) (append-nil (address_of ms))
    ∙ ap (λ t. shown (group_name name) (a ++ address_of ms) ++ t) (ap (filter is_shown) (sym (prefixed_none gs)) ∙ in_turn later None [])

pub groups_in_turn : (ms : List AddressCharacter) → groups_by ms ≡ groups_from None [] (slices_from ms false)
groups_in_turn ms =
    let gs = map group_of (entries_from (slices_from ms false) None) in
    ap (filter is_shown) (sym (prefixed_none gs)) ∙ in_turn (slices_from ms false) None []
