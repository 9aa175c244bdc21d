-- Texts with folds in them, put together from others, and what they are on one line.
use Rattle.std.proofs.Common.{◌≡◌, ℕ, List, [], ◌∷◌, ◌++◌, refl, sym, ap, ◌∙◌, append_assoc}
use Rattle.std.proofs.lemmas.List.{append-nil}
use Rattle.mime_lines.specs.Lines.{unfolded}
use Rattle.mime_lines.specs.Written.{fold, parted_by}
use Rattle.mime_lines.proofs.Unfolds.{IsInline, inline_both, unfolded_alone, unfolded_before}

-- what follows is this on one line, whatever is before it on its first line
pub record Goes (rest meant : List ℕ) : Type 0 where
  pub on : (front : List ℕ) → IsInline front → unfolded (front ++ rest) ≡ front ++ meant

pub goes_end : Goes [] []
goes_end = record { on = λ front h. ap unfolded (append-nil front) ∙ unfolded_alone front h ∙ sym (append-nil front) }

-- a text that is this on one line, whatever follows
pub record Folds (x y : List ℕ) : Type 0 where
  pub then : (rest meant : List ℕ) → Goes rest meant → Goes (x ++ rest) (y ++ meant)

pub folds_inline : (x : List ℕ) → IsInline x → Folds x x
folds_inline x h = record {
  then = λ rest meant later. record {
    on = λ front f. ap unfolded (sym (append_assoc front x rest)) ∙ later.on (front ++ x) (inline_both front x f h) ∙ append_assoc front x meant;
  };
}

pub folds_fold : Folds fold (32 ∷ [])
folds_fold = record {
  then = λ rest meant later. record {
    on = λ front f. unfolded_before front (32 ∷ rest) f ∙ ap (λ t. front ++ t) (later.on (32 ∷ []) refl);
  };
}

pub folds_both : (a b c d : List ℕ) → Folds a b → Folds c d → Folds (a ++ c) (b ++ d)
folds_both a b c d f g = record {
  then = λ rest meant later.
      let both = f.then (c ++ rest) (d ++ meant) (g.then rest meant later) in
      record { on = λ front h. ap (λ t. unfolded (front ++ t)) (append_assoc a c rest) ∙ both.on front h ∙ ap (λ t. front ++ t) (sym (append_assoc b d meant)) };
}

pub folds_unfolded : (x y : List ℕ) → Folds x y → unfolded x ≡ y
folds_unfolded x y f = ap unfolded (sym (append-nil x)) ∙ (f.then [] [] goes_end).on [] refl ∙ append-nil y

-- several, each with a text for it on one line
abbrev pub AllFold : List (List ℕ) → List (List ℕ) → Type 0
AllFold [] [] = Unit {0}
AllFold [] (y ∷ ys) = ⊥
AllFold (x ∷ xs) [] = ⊥
AllFold (x ∷ xs) (y ∷ ys) = Folds x y × AllFold xs ys

pub folds_parted : (between meant : List ℕ) (xs ys : List (List ℕ)) → Folds between meant → AllFold xs ys → Folds (parted_by between xs) (parted_by meant ys)
folds_parted between meant [] [] b h = folds_inline [] refl
folds_parted between meant [] (y ∷ ys) b h = absurd h
folds_parted between meant (x ∷ xs) [] b h = absurd h
folds_parted between meant (x ∷ []) (y ∷ []) b h = h.0
folds_parted between meant (x ∷ []) (y ∷ v ∷ vs) b h = absurd h.1
folds_parted between meant (x ∷ u ∷ us) (y ∷ []) b h = absurd h.1
folds_parted between meant (x ∷ u ∷ us) (y ∷ v ∷ vs) b h =
    folds_both x y (between ++ parted_by between (u ∷ us)) (meant ++ parted_by meant (v ∷ vs)) h.0
    (folds_both between meant (parted_by between (u ∷ us)) (parted_by meant (v ∷ vs)) b (folds_parted between meant (u ∷ us) (v ∷ vs) b h.1))
