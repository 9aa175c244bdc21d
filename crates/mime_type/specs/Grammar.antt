-- Content-Type and Content-Disposition: a name, and parameters (RFC 2045, section 5.1; RFC 2183,
-- section 2), with comments and quoted strings by RFC 822, section 3.3. Each `.. at` reads what it
-- names at the start of some text, and returns it with the text after it.
use Rattle.std.specs.Prelude.{ℕ, zero, suc, Bool, true, false, ◌||◌, ◌==◌, List, [], ◌∷◌, ◌++◌, length, take, drop, Option, Some, None, bytes_eq, if◌then◌else◌}
use Rattle.std.specs.List.{prefix_len}
use Rattle.mail_text.specs.Comments.{is_blank, after_gap}
use Rattle.mime_lines.specs.FieldOffsets.{lowered}
use Rattle.mime_type.specs.Characters.{is_token, is_bare}

-- continue what was found, if anything was
infixl 10 ◌>>=◌
abbrev pub ◌>>=◌ : {A B : Type 0} → Option A → (A → Option B) → Option B
None >>= f = None
(Some x) >>= f = f x

-- what is after blanks and complete comments; nothing if a comment isn't closed
abbrev pub after_blanks : List ℕ → Option (List ℕ)
after_blanks text = after_gap is_blank text

-- what is after this byte
abbrev pub after_byte : ℕ → List ℕ → Option (List ℕ)
after_byte sign [] = None
after_byte sign (b ∷ bs) = if b == sign then Some bs else None

-- what is after this byte with the gaps around it
unfoldable pub after_mark : ℕ → List ℕ → Option (List ℕ)
after_mark sign text = do
  at ← after_blanks text
  rest ← after_byte sign at
  after_blanks rest

-- one or more bytes of a class
abbrev pub run_at : (ℕ → Bool) → List ℕ → Option (List ℕ × List ℕ)
run_at class text = if prefix_len class text == 0 then None
    else Some (take (prefix_len class text) text, drop (prefix_len class text) text)

abbrev pub onto_value : ℕ → Option (List ℕ × List ℕ) → Option (List ℕ × List ℕ)
onto_value b None = None
onto_value b (Some x) = Some (b ∷ x.0, x.1)

-- what was read before is a prefix of what is read
abbrev pub with_prefix : List ℕ → Option (List ℕ × List ℕ) → Option (List ℕ × List ℕ)
with_prefix prefix None = None
with_prefix prefix (Some x) = Some (prefix ++ x.0, x.1)

-- the rest of a quoted-string, after its first quote mark: a backslash is removed, and the byte
-- after it stays
abbrev pub quoted_from : Bool → List ℕ → Option (List ℕ × List ℕ)
quoted_from quoted [] = None
quoted_from true (b ∷ bs) = onto_value b (quoted_from false bs)
quoted_from false (b ∷ bs) = if b == 34 then Some ([], bs)
    else (if b == 92 then quoted_from true bs else onto_value b (quoted_from false bs))

-- how a value may be written between quote marks
abbrev pub quoted_text : List ℕ → List ℕ
quoted_text [] = []
quoted_text (b ∷ bs) = if b == 34 || b == 92 then 92 ∷ b ∷ quoted_text bs else b ∷ quoted_text bs

-- a quoted-string, or a run of other characters
abbrev pub value_at : List ℕ → Option (List ℕ × List ℕ)
value_at [] = None
value_at (b ∷ bs) = if b == 34 then quoted_from false bs else run_at is_bare (b ∷ bs)

-- a parameter: its name in lower case, and its value
pub record Pair : Type 0 where
  pub name : List ℕ
  pub value : List ℕ

unfoldable pub param_at : List ℕ → Option (Pair × List ℕ)
param_at text = do
  name ← run_at is_token text
  rest ← after_mark 61 name.1
  value ← value_at rest
  Some (record { name = lowered name.0; value = value.0 }, value.1)

-- what is where a semicolon or the end may be: the end, a syntax error, nothing before the next
-- semicolon, or a parameter
pub data Turn : Type 0 where
  ends : Turn
  breaks : Turn
  skips : List ℕ → Turn
  gives : Pair → List ℕ → Turn

abbrev pub turn_of : Option (Pair × List ℕ) → Turn
turn_of None = breaks
turn_of (Some x) = gives x.0 x.1

-- after a semicolon and the gap after it
abbrev pub slot_at : Option (List ℕ) → Turn
slot_at None = breaks
slot_at (Some []) = ends
slot_at (Some (b ∷ bs)) = if b == 59 then skips (b ∷ bs) else turn_of (param_at (b ∷ bs))

abbrev pub turn_from : Option (List ℕ) → Turn
turn_from None = breaks
turn_from (Some []) = ends
turn_from (Some (b ∷ bs)) = if b == 59 then slot_at (after_blanks bs) else breaks

abbrev pub turn_at : List ℕ → Turn
turn_at text = turn_from (after_blanks text)

-- the parameters before the first syntax error, and whether there is no syntax error
pub record Params : Type 0 where
  pub found : List Pair
  pub whole : Bool

abbrev pub onto_params : Pair → Params → Params
onto_params p later = record { found = p ∷ later.found; whole = later.whole }

-- what a turn means, where `later` reads on
abbrev pub by_turn : Turn → (List ℕ → Params) → Params
by_turn ends later = record { found = []; whole = true }
by_turn breaks later = record { found = []; whole = false }
by_turn (skips rest) later = later rest
by_turn (gives p rest) later = onto_params p (later rest)

-- in at most this many turns
unfoldable pub params_in : ℕ → List ℕ → Params
params_in zero text = record { found = []; whole = false }
params_in (suc n) text = by_turn (turn_at text) (params_in n)

-- each turn reads at least a byte, so these are enough
abbrev pub params_of : List ℕ → Params
params_of text = params_in (suc (length text)) text

-- a type or a disposition in lower case, with its parameters
pub record Kind : Type 0 where
  pub kind : List ℕ
  pub params : List Pair

abbrev pub if_whole : List ℕ → Params → Option Kind
if_whole kind ps = if ps.whole then Some (record { kind = kind; params = ps.found }) else None

-- Content-Type: a type, a slash, a subtype, and after these parameters without a syntax error
unfoldable pub type_at : List ℕ → Option Kind
type_at text = do
  at ← after_blanks text
  main ← run_at is_token at
  rest ← after_mark 47 main.1
  sub ← run_at is_token rest
  if_whole (lowered (main.0 ++ 47 ∷ sub.0)) (params_of sub.1)

-- Content-Disposition: the token at its beginning, with the parameters before the first syntax
-- error
unfoldable pub disposition_at : List ℕ → Option Kind
disposition_at text = do
  at ← after_blanks text
  name ← run_at is_token at
  Some (record { kind = lowered name.0; params = (params_of name.1).found })

-- the value of the first parameter of a name
abbrev pub first_named : List ℕ → List Pair → Option (List ℕ)
first_named name [] = None
first_named name (p ∷ ps) = if bytes_eq p.name name then Some p.value else first_named name ps
