-- Lines of an input, and how bytes are cut into them.
use Rattle.std.proofs.Common.{◌≡◌, ℕ, zero, suc, List, [], ◌∷◌, ◌++◌, ◌==◌, Bool, true, false, take, length, get_or, ◌<◌, ◌≤◌, refl, sym, ap, ◌∙◌, subst, append_assoc, append-nil, arith, eqb-true}
use Rattle.std.specs.List.{AllByRecursion}
use Rattle.batch_lines.specs.Lines.{lines_of, ended_lines, all_but_last, joined, IsOneLine, IsCut}

ended : (line rest : List ℕ) → IsOneLine line → lines_of (line ++ 10 ∷ rest) ≡ line ∷ lines_of rest
ended [] rest h = refl
ended (x ∷ line) rest h = rw (h.0, ended line rest h.1) refl

alone : (line : List ℕ) → IsOneLine line → lines_of line ≡ line ∷ []
alone [] h = refl
alone (x ∷ line) h = rw (h.0, alone line h.1) refl

pub both_lines : (xs ys : List ℕ) → IsOneLine xs → IsOneLine ys → IsOneLine (xs ++ ys)
both_lines [] ys h k = k
both_lines (x ∷ xs) ys h k = (h.0, both_lines xs ys h.1 k)

-- the bytes before the first line feed are one line
pub before_feed : (hay : List ℕ) (at : ℕ) → at ≤ length hay → ((k : ℕ) → k < at → (get_or hay k 0 == 10) ≡ false) → IsOneLine (take at hay)
before_feed hay zero b h = tt
before_feed [] (suc at) b h = tt
before_feed (x ∷ hay) (suc at) b h = (h 0 (omega arith), before_feed hay at (omega arith) (λ k less. h (suc k) (omega arith)))

joined_on : (ls ks : List (List ℕ)) (rest : List ℕ) → joined (ls ++ ks) ++ rest ≡ joined ls ++ (joined ks ++ rest)
joined_on [] ks rest = refl
joined_on (l ∷ ls) ks rest =
    append_assoc l (10 ∷ joined (ls ++ ks)) rest ∙ ap (λ bs. l ++ 10 ∷ bs) (joined_on ls ks rest) ∙ sym (append_assoc l (10 ∷ joined ls) (joined ks ++ rest))

each_on : (ls ks : List (List ℕ)) → AllByRecursion IsOneLine ls → AllByRecursion IsOneLine ks → AllByRecursion IsOneLine (ls ++ ks)
each_on [] ks h k = k
each_on (l ∷ ls) ks h k = (h.0, each_on ls ks h.1 k)

pub cut_nothing : IsCut [] [] []
cut_nothing = record { is = refl; each = tt; open_line = tt }

pub cut_alone : (line : List ℕ) → IsOneLine line → IsCut line [] line
cut_alone line one = record { is = refl; each = tt; open_line = one }

-- the open line ends
pub cut_end : (bytes line : List ℕ) (lines : List (List ℕ)) (last : List ℕ) → IsCut bytes lines last → IsOneLine line → IsCut (bytes ++ (line ++ 10 ∷ [])) (lines ++ (last ++ line) ∷ []) []
cut_end bytes line lines last cut one = record {
  is = ap (λ bs. bs ++ (line ++ 10 ∷ [])) cut.is ∙ append_assoc (joined lines) last (line ++ 10 ∷ []) ∙ ap (λ bs. joined lines ++ bs) (sym (append_assoc last line (10 ∷ []))) ∙ ap (λ bs. joined lines ++ bs) (sym (append-nil ((last ++ line) ++ 10 ∷ [])))
      ∙ sym (joined_on lines ((last ++ line) ∷ []) []);
  each = each_on lines ((last ++ line) ∷ []) cut.each (both_lines last line cut.open_line one, tt);
  open_line = tt;
}

-- the open line continues
pub cut_more : (bytes more : List ℕ) (lines : List (List ℕ)) (last : List ℕ) → IsCut bytes lines last → IsOneLine more → IsCut (bytes ++ more) lines (last ++ more)
cut_more bytes more lines last cut one = record {
  is = ap (λ bs. bs ++ more) cut.is ∙ append_assoc (joined lines) last more;
  each = cut.each;
  open_line = both_lines last more cut.open_line one;
}

-- bytes after an open line, cut together with it
pub cut_on : (bytes piece : List ℕ) (lines more : List (List ℕ)) (last next : List ℕ) → IsCut bytes lines last → IsCut (last ++ piece) more next → IsCut (bytes ++ piece) (lines ++ more) next
cut_on bytes piece lines more last next cut then = record {
  is = ap (λ bs. bs ++ piece) cut.is ∙ append_assoc (joined lines) last piece ∙ ap (λ bs. joined lines ++ bs) then.is ∙ sym (joined_on lines more next);
  each = each_on lines more cut.each then.each;
  open_line = then.open_line;
}

byte_cut : (b : Bool) (x : ℕ) (last : List ℕ) → (x == 10) ≡ b → IsOneLine last → (lines : List (List ℕ)) × (next : List ℕ) × IsCut (last ++ x ∷ []) lines next
byte_cut true x last e one =
    let feed : x ≡ 10 = eqb-true x 10 e in
    (last ∷ [], [], record { is = ap (λ (y : ℕ). last ++ y ∷ []) feed ∙ sym (append-nil (last ++ 10 ∷ [])); each = (one, tt); open_line = tt })
byte_cut false x last e one = ([], last ++ x ∷ [], record { is = refl; each = tt; open_line = both_lines last (x ∷ []) one (e, tt) })

-- each piece after an open line can be cut
pub cut_exists : (piece last : List ℕ) → IsOneLine last → (lines : List (List ℕ)) × (next : List ℕ) × IsCut (last ++ piece) lines next
cut_exists [] last one = ([], last, subst (λ (bs : List ℕ). IsCut bs [] last) (sym (append-nil last)) (cut_alone last one))
cut_exists (x ∷ piece) last one =
    let first = byte_cut (x == 10) x last refl one in
    let rest = cut_exists piece first.1 first.2.open_line in (
      first.0 ++ rest.0,
      rest.1,
      subst (λ (bs : List ℕ). IsCut bs (first.0 ++ rest.0) rest.1) (append_assoc last (x ∷ []) piece) (cut_on (last ++ x ∷ []) piece first.0 rest.0 first.1 rest.1 first.2 rest.2),
    )

lines_joined : (lines : List (List ℕ)) (last : List ℕ) → AllByRecursion IsOneLine lines → IsOneLine last → lines_of (joined lines ++ last) ≡ lines ++ last ∷ []
lines_joined [] last each one = alone last one
lines_joined (l ∷ lines) last each one =
    ap lines_of (append_assoc l (10 ∷ joined lines) last) ∙ ended l (joined lines ++ last) each.0 ∙ ap (λ ls. l ∷ ls) (lines_joined lines last each.1 one)

-- the lines of what is cut
pub lines_cut : (bytes : List ℕ) (lines : List (List ℕ)) (last : List ℕ) → IsCut bytes lines last → lines_of bytes ≡ lines ++ last ∷ []
lines_cut bytes lines last cut = ap lines_of cut.is ∙ lines_joined lines last cut.each cut.open_line

without_last : (lines : List (List ℕ)) (last : List ℕ) → all_but_last (lines ++ last ∷ []) ≡ lines
without_last [] last = refl
without_last (l ∷ []) last = refl
without_last (l ∷ k ∷ lines) last = ap (λ ls. l ∷ ls) (without_last (k ∷ lines) last)

pub ended_cut : (bytes : List ℕ) (lines : List (List ℕ)) (last : List ℕ) → IsCut bytes lines last → ended_lines bytes ≡ lines
ended_cut bytes lines last cut = ap all_but_last (lines_cut bytes lines last cut) ∙ without_last lines last
