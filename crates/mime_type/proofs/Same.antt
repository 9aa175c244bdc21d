-- Two heads with the same fields are the same.
use Rattle.std.proofs.Common.{◌≡◌, ℕ, List, Option, None}
use Rattle.mime_codec.specs.declared.coding.Coding.{Coding}
use Rattle.mime_type.specs.PartTrees.{Node}

pub same_node : (start : ℕ)
    (body body' : ℕ) → body ≡ body' →
    (end end' : ℕ) → end ≡ end' →
    (media media' : List ℕ) → media ≡ media' →
    (charset charset' : Option (List ℕ)) → charset ≡ charset' →
    (boundary boundary' : Option (List ℕ)) → boundary ≡ boundary' →
    (disposition disposition' : Option (List ℕ)) → disposition ≡ disposition' →
    (name name' : Option (List ℕ)) → name ≡ name' →
    (cid cid' : Option (List ℕ)) → cid ≡ cid' →
    (language language' : Option (List (List ℕ))) → language ≡ language' →
    (location location' : Option (List ℕ)) → location ≡ location' →
    (coding coding' : Coding) → coding ≡ coding' →
    (let here : Node = record { start = start; number = None; body = body; end = end; media = media; charset = charset; boundary = boundary; disposition = disposition; name = name; cid = cid; language = language; location = location; coding = coding } in let there : Node = record { start = start; number = None; body = body'; end = end'; media = media'; charset = charset'; boundary = boundary'; disposition = disposition'; name = name'; cid = cid'; language = language'; location = location'; coding = coding' } in here ≡ there)
same_node start body body' body-is end end' end-is media media' media-is charset charset' charset-is boundary boundary' boundary-is disposition disposition' disposition-is name name' name-is cid cid' cid-is language language' language-is location location' location-is coding coding' coding-is = cc
