-- The size of a head, line by line.
use Rattle.std.proofs.Common.{◌≡◌, ◌+◌, ℕ, true, false, List, ◌∷◌, length, Option, None, Some, option_map, refl, ap, ap₂, arith}
use Rattle.mime_lines.specs.Lines.{is_line_end}
use Rattle.http_parts.specs.Heads.{head_size, one_line_more}
use Rattle.http_parts.specs.Searches.{after}
use Rattle.http_parts.specs.declared.heads.HeadSize.{HeadSize}

-- one line that is not empty is passed
pub after_line : (b n k : ℕ) (o : Option HeadSize) → option_map (after b n) (option_map (one_line_more k) o) ≡ option_map (after (b + k) (n + 1)) o
after_line b n k None = refl
after_line b n k (Some s) =
    let p : b + (k + s.bytes) ≡ b + k + s.bytes = omega arith in
    let q : n + (1 + s.lines) ≡ n + 1 + s.lines = omega arith in
    ap₂ (λ (x y : ℕ). Some (record { bytes = x; lines = y })) p q

pub passes : (line : List ℕ) (ls : List (List ℕ)) (b n : ℕ) → is_line_end line ≡ false → option_map (after b n) (head_size (line ∷ ls)) ≡ option_map (after (b + length line) (n + 1)) (head_size ls)
passes line ls b n h = rw h (after_line b n (length line) (head_size ls))

pub ends : (line : List ℕ) (ls : List (List ℕ)) (b n : ℕ) → is_line_end line ≡ true → option_map (after b n) (head_size (line ∷ ls)) ≡ Some (record { bytes = b + length line; lines = n })
ends line ls b n h =
    rw h (ap (λ (y : ℕ). Some (record { bytes = b + length line; lines = y })) (omega arith))
