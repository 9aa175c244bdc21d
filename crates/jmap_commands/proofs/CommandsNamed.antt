-- What is known of arguments that name a command.
use Rattle.std.proofs.Common.{◌≡◌, ℕ, ◌≤◌, ◌<◌, List, [], ◌∷◌, length, Option, None, Some, refl, subst, arith, Bool, true, false, ◌&&◌, nat_le, codes, bytes_eq, if◌then◌else◌}
use Rattle.std.specs.Prelude.{⊤}
use Rattle.std.proofs.lemmas.Bool.{leb-true}
use Rattle.std.specs.Fmt.{decimal}
use Rattle.std.specs.Option.{option_or}
use Rattle.std.specs.Str.Parse.{digits_value}
use Rattle.jmap_commands.specs.Addresses.{is_host, is_token}
use Rattle.jmap_commands.specs.Arguments.{command_of, number_if, number_in, serve_with, sync_with}
use Rattle.jmap_commands.specs.declared.arguments.TheConstants.{MAX_CONNECTIONS, MAX_PORT}
use Rattle.jmap_commands.specs.declared.arguments.Command.{Command}
use Rattle.jmap_commands.specs.declared.arguments.Command.TheVariants.{Batch, Read, Serve, Sync, Show}

-- ---- how many arguments there are

-- one argument names none of the commands that have more
abbrev HasMore : Command → Type 0
HasMore Batch = ⊥
HasMore Read = ⊥
HasMore other = ⊤

not_named : (a b : Bool) (c : Command) → HasMore c → (if a then Some Batch else (if b then Some Read else None)) ≡ Some c → ⊥
not_named true b Batch m e = m
not_named true b Read m e = m
not_named true b other m e = cc
not_named false true Batch m e = m
not_named false true Read m e = m
not_named false true other m e = cc
not_named false false c m e = cc

more_words : (words : List (List ℕ)) (c : Command) → HasMore c → command_of words ≡ Some c → 2 < length words
more_words [] c m e = cc
more_words (word ∷ []) c m e = absurd (not_named (bytes_eq word (codes "batch")) (bytes_eq word (codes "read")) c m e)
more_words (word ∷ a ∷ []) c m e = cc
more_words (word ∷ a ∷ b ∷ more) c m e = omega arith

pub serve_length : (words : List (List ℕ)) (port count : ℕ) → command_of words ≡ Some (Serve port count) → 2 < length words
serve_length words port count e = more_words words (Serve port count) tt e

pub show_length : (words : List (List ℕ)) → command_of words ≡ Some Show → 2 < length words
show_length words e = more_words words Show tt e

not_shown : (a : Bool) (port : ℕ) → (if a then Some Show else None) ≡ Some (Sync port) → ⊥
not_shown true port e = cc
not_shown false port e = cc

pub sync_length : (words : List (List ℕ)) (port : ℕ) → command_of words ≡ Some (Sync port) → 4 < length words
sync_length [] port e = cc
sync_length (word ∷ []) port e = absurd (not_named (bytes_eq word (codes "batch")) (bytes_eq word (codes "read")) (Sync port) tt e)
sync_length (word ∷ a ∷ []) port e = cc
sync_length (word ∷ a ∷ b ∷ []) port e = absurd (not_shown (bytes_eq word (codes "show")) port e)
sync_length (word ∷ a ∷ b ∷ c ∷ []) port e = cc
sync_length (word ∷ a ∷ b ∷ c ∷ d ∷ more) port e = omega arith

-- ---- how many connections `serve` serves

last_of : (a b c : Bool) → (a && (b && c)) ≡ true → c ≡ true
last_of true true c e = e
last_of true false c e = cc
last_of false b c e = cc

number_small : (b : Bool) (n k most : ℕ) → (b ≡ true → n ≤ most) → (if b then Some n else None) ≡ Some k → k ≤ most
number_small true n k most h e = let same : n ≡ k = cc in subst (λ (m : ℕ). m ≤ most) same (h refl)
number_small false n k most h e = cc

in_most : (most : ℕ) (word : List ℕ) (n k : ℕ) → number_if most word n ≡ Some k → k ≤ most
in_most most word n k e = number_small (bytes_eq word (decimal n) && (nat_le 1 n && nat_le n most)) n k most (λ t. leb-true n most (last_of (bytes_eq word (decimal n)) (nat_le 1 n) (nat_le n most) t)) e

with_count : (p n : Option ℕ) (rest : Option Command) (port count : ℕ) → ((q : ℕ) → rest ≡ Some (Serve q count) → ⊥) → option_or (serve_with p n) rest ≡ Some (Serve port count) → n ≡ Some count
with_count None n rest port count none e = absurd (none port e)
with_count (Some p) None rest port count none e = absurd (none port e)
with_count (Some p) (Some n) rest port count none e = cc

synced : (b : Bool) (p : Option ℕ) (q count : ℕ) → (if b then sync_with p else None) ≡ Some (Serve q count) → ⊥
synced true None q count e = cc
synced true (Some p) q count e = cc
synced false p q count e = cc

serving_count : (b : Bool) (p n : Option ℕ) (rest : Option Command) (port count : ℕ) → ((q : ℕ) → rest ≡ Some (Serve q count) → ⊥) → option_or (if b then serve_with p n else None) rest ≡ Some (Serve port count) → n ≡ Some count
serving_count true p n rest port count none e = with_count p n rest port count none e
serving_count false p n rest port count none e = absurd (none port e)

not_served : (a : Bool) (port count : ℕ) → (if a then Some Show else None) ≡ Some (Serve port count) → ⊥
not_served true port count e = cc
not_served false port count e = cc

pub serve_count : (words : List (List ℕ)) (port count : ℕ) → command_of words ≡ Some (Serve port count) → count ≤ MAX_CONNECTIONS
serve_count [] port count e = cc
serve_count (word ∷ []) port count e = absurd (not_named (bytes_eq word (codes "batch")) (bytes_eq word (codes "read")) (Serve port count) tt e)
serve_count (word ∷ a ∷ []) port count e = cc
serve_count (word ∷ a ∷ b ∷ []) port count e = absurd (not_served (bytes_eq word (codes "show")) port count e)
serve_count (word ∷ a ∷ b ∷ c ∷ []) port count e = cc
serve_count (word ∷ a ∷ b ∷ p ∷ n ∷ []) port count e =
    in_most MAX_CONNECTIONS n (digits_value 10 n) count (serving_count (bytes_eq word (codes "serve")) (number_in MAX_PORT p) (number_in MAX_CONNECTIONS n) _ port count (λ q. synced (bytes_eq word (codes "sync") && (is_host a && is_token p)) (number_in MAX_PORT b) q count) e)
serve_count (word ∷ a ∷ b ∷ c ∷ d ∷ f ∷ more) port count e = cc
