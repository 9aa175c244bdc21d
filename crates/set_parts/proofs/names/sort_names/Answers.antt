use Rattle.std.proofs.Common.{◌∙◌, ℕ, List, sym, bytes_eq, rules, is_lt, nat_cmp}
use Rattle.std.specs.Cmp.Lexicographic.{slice_cmp, nat_list_cmp_total}
use Rattle.std.proofs.lemmas.List.Filters.{dedup_is}
use Rattle.std.proofs.lemmas.List.MinMax.{ranks_by}
use Rattle.std.proofs.lemmas.List.Sorted.{answers_always}
use Rattle.std.proofs.lemmas.Map.Text.{is_eq-slice_cmp}
use Rattle.mail_counts.proofs.Sorted.{sorted_once-dedup}
use Rattle.set_parts.proofs.Texts.{text_equal}
use Rattle.set_parts.proofs.names.sort_names.Goals as goal

pub returns : goal.returns
returns c =
    c.from_vec.ensures
    ∙ (dedup_is bytes_eq c.sort_unstable_by.new.self.items c.dedup.new.self.items c.dedup.ensures.filtered
    ∙ sorted_once-dedup nat_list_cmp_total text_equal (λ x y. sym (is_eq-slice_cmp x y)) c.args.texts.items c.sort_unstable_by.new.self.items c.sort_unstable_by.ensures.permutation
    (c.sort_unstable_by.ensures.sorted (λ x y. is_lt (slice_cmp nat_cmp x y)) (ranks_by nat_list_cmp_total (λ (x : List ℕ). x)) (answers_always _ _ _ (λ f a r g k. search rules))))
