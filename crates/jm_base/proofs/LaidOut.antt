-- Bytes that fit a layout are as many as the layout has.
use Rattle.std.proofs.Common.{◌≡◌, ℕ, suc, Bool, true, false, ◌&&◌, List, [], ◌∷◌, length, refl, ap}
use Rattle.jm_base.specs.UtcDates.{is_laid_out}

under : (a b : Bool) → (a && b) ≡ true → b ≡ true
under true b is = is
under false b is = cc

pub laid_out_length : (layout text : List ℕ) → is_laid_out layout text ≡ true → length text ≡ length layout
laid_out_length [] [] is = refl
laid_out_length [] (b ∷ bs) is = cc
laid_out_length (l ∷ ls) [] is = cc
laid_out_length (l ∷ ls) (b ∷ bs) is = ap suc (laid_out_length ls bs (under _ _ is))
