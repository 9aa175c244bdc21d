use Rattle.std.proofs.Common.{[], ap, ◌∙◌, rules}
use Rattle.std.proofs.lemmas.Cmp.{nat_list_cmp_total}
use Rattle.std.proofs.lemmas.List.MinMax.{ranks_by}
use Rattle.std.proofs.lemmas.List.Sorted.{answers_always}
use Rattle.jm_json.specs.declared.invocation.Created.{Created}
use Rattle.method_batch.specs.Outcome.{put_ids}
use Rattle.method_batch.proofs.Ids.{comes_before, same_ids}
use Rattle.method_batch.proofs.created.sort_created.Goals as goal

pub returns : goal.returns
returns c =
    same_ids c.into_vec-all.result.items c.sort_by.new.self.items (c.sort_by.ensures.stable comes_before (ranks_by nat_list_cmp_total (λ (x : Created). x.creation)) (answers_always _ _ _ (λ f a r g k. search rules)))
    ∙ ap (put_ids []) c.into_vec-all.ensures
