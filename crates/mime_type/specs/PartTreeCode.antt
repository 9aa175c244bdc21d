-- A code for trees of parts, which the view of a type as a tree needs.
use Rattle.std.specs.Prelude.{◌≡◌, ℕ, zero, suc, List, Option, refl}
use Rattle.std.proofs.Common.{ap, ◌∙◌}
use Rattle.std.specs.Coded.{code_by, coded×, coded_ℕ, coded_list, coded_option}
use base.Stored.{Coded, Gv, gnil, gcons}
use Rattle.mime_codec.specs.declared.coding.Coding.{Coding}
use Rattle.mime_codec.specs.declared.coding.Coding.TheVariants.{Plain, Quoted, Base64, Unknown}
use Rattle.mime_type.specs.PartTrees.{Node, PartTrees, none, part}

abbrev number_of : Coding → ℕ
number_of Plain = 0
number_of Quoted = 1
number_of Base64 = 2
number_of Unknown = 3

abbrev coding_numbered : ℕ → Coding
coding_numbered zero = Plain
coding_numbered (suc zero) = Quoted
coding_numbered (suc (suc zero)) = Base64
coding_numbered (suc (suc (suc n))) = Unknown

pub coding_back : (c : Coding) → coding_numbered (number_of c) ≡ c
coding_back Plain = refl
coding_back Quoted = refl
coding_back Base64 = refl
coding_back Unknown = refl

abbrev pub coded_coding : Coded Coding
coded_coding = code_by ℕ coded_ℕ number_of coding_numbered coding_back

abbrev Bytes' : Type 0
Bytes' = List ℕ

abbrev coded_bytes : Coded Bytes'
coded_bytes = coded_list coded_ℕ

abbrev Offsets : Type 0
Offsets = ℕ × (ℕ × (ℕ × Option ℕ))

abbrev coded_offsets : Coded Offsets
coded_offsets = coded× coded_ℕ (coded× coded_ℕ (coded× coded_ℕ (coded_option coded_ℕ)))

abbrev Texts' : Type 0
Texts' = Option Bytes' × (Option Bytes' × (Option Bytes'
    × (Option Bytes' × (Option Bytes' × Option Bytes'))))

abbrev coded_text : Coded (Option Bytes')
coded_text = coded_option coded_bytes

abbrev coded_texts : Coded Texts'
coded_texts = coded× coded_text (coded× coded_text
    (coded× coded_text (coded× coded_text (coded× coded_text coded_text))))

abbrev Fields : Type 0
Fields = Offsets × (Bytes' × (Texts' × (Option (List Bytes') × Coding)))

abbrev fields_of : Node → Fields
fields_of n = (
  (n.start, (n.body, (n.end, n.number))),
  (
    n.media,
    (
      (n.charset, (n.boundary, (n.disposition, (n.name, (n.cid, n.location))))),
      (n.language, n.coding),
    ),
  ),
)

abbrev node_of : Fields → Node
node_of f = record {
  start = f.0.0;
  body = f.0.1.0;
  end = f.0.1.1.0;
  number = f.0.1.1.1;
  media = f.1.0;
  charset = f.1.1.0.0;
  boundary = f.1.1.0.1.0;
  disposition = f.1.1.0.1.1.0;
  name = f.1.1.0.1.1.1.0;
  cid = f.1.1.0.1.1.1.1.0;
  location = f.1.1.0.1.1.1.1.1;
  language = f.1.1.1.0;
  coding = f.1.1.1.1;
}

abbrev pub coded_node : Coded Node
coded_node = code_by Fields (coded× coded_offsets
    (coded× coded_bytes (coded× coded_texts (coded× (coded_option (coded_list coded_bytes))
    coded_coding)))) fields_of node_of (λ _. refl)

abbrev of_forest : PartTrees → Gv
of_forest none = gnil
of_forest (part n inner later) =
    gcons (coded_node.code n) (gcons (of_forest inner) (of_forest later))

pub same_forest : (s t : PartTrees) → of_forest s ≡ of_forest t → s ≡ t
same_forest none none e = refl
same_forest none (part n inner later) e = cc
same_forest (part n inner later) none e = cc
same_forest (part n inner later) (part m inside after) e =
    let head : coded_node.code n ≡ coded_node.code m = cc in
    let one : of_forest inner ≡ of_forest inside = cc in
    let two : of_forest later ≡ of_forest after = cc in
    ap (λ x. part x inner later) (coded_node.inj n m head)
    ∙ ap (λ f. part m f later) (same_forest inner inside one)
    ∙ ap (λ f. part m inside f) (same_forest later after two)

abbrev pub forest_code : Coded PartTrees
forest_code = record { code = of_forest; inj = same_forest }
