-- Results that are handed on, and what a patch comes to.
use Rattle.std.proofs.Common.{◌≡◌, ◌∙◌, ℕ, List, Option, Some, MatchOption, Result, Ok, Err, IfOk, codes, sym, ap, ap₂, subst}
use Rattle.jm_json.specs.Patch.{patched, patching_by}
use Rattle.jm_json.specs.Tree.{Tree}
use Rattle.jm_json.specs.declared.invocation.Created.{Created}
use Rattle.set_parts.specs.Names.{keywords_in, mailboxes_in}
use Rattle.email_set.specs.Patches.{filing_tree, meant_changes, refiled_by, refiled_in, refiled_to, value_of}
use Rattle.email_set.specs.declared.filing.Filing.{Filing}
use Rattle.email_set.specs.declared.filing.Refiled.{Refiled}

pub ok_map : {T E : Type 0} (r : Result T E) (P Q : T → Type 0) → ((x : T) → P x → Q x) → IfOk r P → IfOk r Q
ok_map (Ok x) P Q f h = f x h
ok_map (Err e) P Q f h = tt

-- what holds of a value that is there
pub some_of : {A : Type 0} (o : Option A) (P : Type 0) (Q : A → Type 0) (x : A) → o ≡ Some x → MatchOption o P Q → Q x
some_of o P Q x is h = subst (λ (p : Option _). MatchOption p P Q) is h

-- a patch that is one of the tree comes to what its values come to
pub decided : (numbers : List ℕ) (made : List Created) (f : Filing) (ms changes : List (List ℕ × Tree)) (t before : Tree) (ks : Option (List (List ℕ))) (bs : Option (List ℕ)) (r : Refiled)
    → r ≡ refiled_to ms ks bs → ks ≡ keywords_in (value_of (codes "keywords") t) → bs ≡ mailboxes_in numbers made (value_of (codes "mailboxIds") t)
    → patching_by changes before ≡ patched t → before ≡ filing_tree f → Some changes ≡ meant_changes made ms → r ≡ refiled_by numbers made f ms (meant_changes made ms)
decided numbers made f ms changes t before ks bs r is words boxes is_patched tree meant =
    is
    ∙ (ap₂ (refiled_to ms) words boxes
    ∙ (ap (refiled_in numbers made ms) (sym is_patched ∙ ap (patching_by changes) tree)
    ∙ ap (refiled_by numbers made f ms) meant))
