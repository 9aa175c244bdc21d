-- Chains of parents: from a mailbox to its parent, and on to a mailbox without one.
use Rattle.std.specs.Prelude.{◌≡◌, ℕ, zero, suc, List, [], ◌∷◌, Option, Some, None}
use Rattle.std.specs.BTreeMap.{BTreeMap, get}
use Rattle.std.specs.Ordering.{nat_cmp}
use Rattle.mail_records.specs.Contents.{Content}
use Rattle.mail_counts.specs.Tidy.{parent_of}

-- the chain that begins so ends after exactly so many mailboxes
abbrev pub HasDepth : Content → ℕ → Option ℕ → Type 0
HasDepth c zero start = start ≡ None
HasDepth c (suc d) None = ⊥
HasDepth c (suc d) (Some n) = HasDepth c d (parent_of c n)

-- the chain that begins so goes over these mailboxes and comes to this
abbrev pub IsPath : Content → Option ℕ → List ℕ → Option ℕ → Type 0
IsPath c start [] end = start ≡ end
IsPath c start (n ∷ ns) end = (start ≡ Some n) × IsPath c (parent_of c n) ns end

-- the chain that begins so goes over these mailboxes, and then over exactly so many more
abbrev pub IsClimbed : Content → Option ℕ → List ℕ → ℕ → Type 0
IsClimbed c start path depth = (end : Option ℕ) × IsPath c start path end × HasDepth c depth end

-- the map has the depth of each mailbox in it
abbrev pub AreDepths : Content → BTreeMap ℕ ℕ → Type 0
AreDepths c depths = (n d : ℕ) → get nat_cmp depths n ≡ Some d → HasDepth c d (Some n)
