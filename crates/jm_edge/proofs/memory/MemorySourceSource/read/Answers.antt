use Rattle.std.proofs.Common.{rules, ◌≡◌, ◌+◌, ◌++◌, ℕ, List, take, drop, length, sym, ap, ap₂, ◌∙◌, subst, arith}
use Rattle.std.proofs.lemmas.List.{take-append-drop}
use Rattle.std.proofs.Math.Seq.{take-append_seam}
use Rattle.std.proofs.Math.ListN.{drop_of_length-le}
use Rattle.std.proofs.lemmas.Grind.{common_steps}
use Rattle.jm_edge.specs.Memory.{Input}
use Rattle.jm_edge.proofs.memory.MemorySourceSource.read.Goals as goal

front : (xs ys zs : List ℕ) (at n : ℕ) → xs ≡ take n (drop at zs) → length xs ≡ n → drop at zs ≡ take n (xs ++ ys) ++ drop (at + n) zs
front xs ys zs at n e h =
    let same : take n (xs ++ ys) ≡ xs = subst (λ k. take k (xs ++ ys) ≡ xs) h (take-append_seam xs ys) in
    sym (take-append-drop n (drop at zs)) ∙ ap₂ (λ (a b : List ℕ). a ++ b) (sym e ∙ sym same) (grind (arith, common_steps))

pub returns-clause-bytes : goal.returns-clause-bytes
returns-clause-bytes c =
    let n = c.min-count.result in
    let at = c.self.inside.at in
    let bytes = c.self.inside.bytes.items in
    let seen : c.args.self.now.left ≡ drop at bytes = ap (λ (s : Input). s.left) (sym c.self.view_is) in
    let copied : c.copy_from_slice.new.self ≡ take n (drop at bytes) = search rules in
    (seen ∙ front c.copy_from_slice.new.self _ bytes at n copied (grind (arith, common_steps)), λ none some. drop_of_length-le bytes (grind (arith, common_steps)))
