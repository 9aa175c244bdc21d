-- A text of HTML, a bracket at a time.
use Rattle.std.proofs.Common.{◌≡◌, ◌≢◌, ℕ, suc, ◌<◌, true, false, cond, eqb, List, [], ◌∷◌, ◌++◌, length, get_or, Some, None, refl, sym, ap, ◌∙◌, append-nil, arith}
use Rattle.std.proofs.lemmas.Bool.{ne_eqb, eqb-true}
use Rattle.mail_summary.specs.Texts.{opened, read, without_tags}

-- this byte isn't in a text
abbrev pub Lacks : ℕ → List ℕ → Type 0
Lacks b text = (i : ℕ) → i < length text → get_or text i 0 ≢ b

later_lacks : (c b : ℕ) (bs : List ℕ) → Lacks c (b ∷ bs) → Lacks c bs
later_lacks c b bs none i low = none (suc i) (omega arith)

first_lacks : (c b : ℕ) (bs : List ℕ) → Lacks c (b ∷ bs) → eqb b c ≡ false
first_lacks c b bs none = ne_eqb b c (none 0 (omega arith))

-- what is before the first bracket that opens a tag
pub tags_front : (front rest : List ℕ) → Lacks 60 front → without_tags (front ++ rest) ≡ front ++ without_tags rest
tags_front [] rest none = refl
tags_front (b ∷ bs) rest none =
    ap (λ t. cond t (opened (read (bs ++ rest)).outside (read (bs ++ rest)).inside) (b ∷ (read (bs ++ rest)).outside)) (first_lacks 60 b bs none)
    ∙ ap (λ t. b ∷ t) (tags_front bs rest (later_lacks 60 b bs none))

pub tags_last : (text : List ℕ) → Lacks 60 text → without_tags text ≡ text
tags_last text none = ap without_tags (sym (append-nil text)) ∙ tags_front text [] none ∙ append-nil text

inside_closed : (front rest : List ℕ) → Lacks 62 front → (read (front ++ 62 ∷ rest)).inside ≡ Some (without_tags rest)
inside_closed [] rest none = refl
inside_closed (b ∷ bs) rest none =
    ap (λ t. cond t (Some (read (bs ++ 62 ∷ rest)).outside) (read (bs ++ 62 ∷ rest)).inside) (first_lacks 62 b bs none) ∙ inside_closed bs rest (later_lacks 62 b bs none)

inside_open : (text : List ℕ) → Lacks 62 text → (read text).inside ≡ None
inside_open [] none = refl
inside_open (b ∷ bs) none = ap (λ t. cond t (Some (read bs).outside) (read bs).inside) (first_lacks 62 b bs none) ∙ inside_open bs (later_lacks 62 b bs none)

stays : (b : ℕ) (bs : List ℕ) → cond (eqb b 60) (60 ∷ bs) (b ∷ bs) ≡ b ∷ bs
stays b bs = elim (eqb b 60) as (λ v. eqb b 60 ≡ v → cond v (60 ∷ bs) (b ∷ bs) ≡ b ∷ bs) [ true ↦ λ e. ap (λ x. x ∷ bs) (sym (eqb-true b 60 e)) | false ↦ λ e. refl ] refl

-- where no bracket closes a tag there is none
no_tags : (text : List ℕ) → Lacks 62 text → without_tags text ≡ text
no_tags [] none = refl
no_tags (b ∷ bs) none =
    ap (λ i. cond (eqb b 60) (opened (read bs).outside i) (b ∷ (read bs).outside)) (inside_open bs (later_lacks 62 b bs none))
    ∙ ap (λ o. cond (eqb b 60) (60 ∷ o) (b ∷ o)) (no_tags bs (later_lacks 62 b bs none))
    ∙ stays b bs

pub tag_closed : (tag rest : List ℕ) → Lacks 62 tag → without_tags (60 ∷ (tag ++ 62 ∷ rest)) ≡ 32 ∷ without_tags rest
tag_closed tag rest none = ap (opened (read (tag ++ 62 ∷ rest)).outside) (inside_closed tag rest none)

pub tag_open : (text : List ℕ) → Lacks 62 text → without_tags (60 ∷ text) ≡ 60 ∷ text
tag_open text none = ap (opened (read text).outside) (inside_open text none) ∙ ap (λ t. 60 ∷ t) (no_tags text none)
