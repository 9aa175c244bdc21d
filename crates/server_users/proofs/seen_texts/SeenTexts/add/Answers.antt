use Rattle.std.proofs.Common.{◌≡◌, ◌||◌, ◌∙◌, ℕ, List, Bool, true, false, cond, refl, bytes_eq}
use Rattle.server_users.proofs.seen_texts.SeenTexts.add.Goals as goal

cond_or : (a b : Bool) → cond a true b ≡ (b || a)
cond_or true true = refl
cond_or true false = refl
cond_or false true = refl
cond_or false false = refl

pub returns-clause-added : goal.returns-clause-added
returns-clause-added c = λ (q : List ℕ).
    c.in_ok-is_new.ensures.updates.0 (record { ref_ptr = (0, 0); now = q }) ∙ cond_or (bytes_eq c.args.text.now q) _
