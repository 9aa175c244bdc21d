use Rattle.std.proofs.Common.{◌≡◌, ◌+◌, ◌-◌, ◌/◌, ◌<◌, length, map, drop, subst, Less, Equal, Greater, nat_cmp, Some, sym, ap, ◌∙◌, arith}
use Rattle.std.specs.Cmp.Lexicographic.{slice_cmp}
use Rattle.std.proofs.lemmas.List.{length-map}
use Rattle.jm_json.specs.KeyIndices.{AllAbove}
use Rattle.jm_json.specs.Json.{tree_of, member_of}
use Rattle.jm_json.specs.declared.tree.Member.{Member}
use Rattle.jm_json.proofs.Puts.{low_at, high_at, held_at, found, not_found, told}
use Rattle.client_cache.proofs.looking.find_object.Goals as goal

pub halves-preserved-in-Less : goal.halves-preserved-in-Less
halves-preserved-in-Less c =
    let k = c.args.id.now in
    let ms = c.args.rows.now in
    let m = c.index-rows-at.result in
    let at = c.halves.low + (c.halves.high - c.halves.low) / 2 in
    let order : slice_cmp nat_cmp k m.name ≡ Less = told k c.as_bytes.result.now m _ Less c.index-rows-at.is c.as_bytes.ensures.value c.in-Less.ensures in (
      omega (arith, c.halves.invariant.0, c.halves-test.true),
      omega arith,
      c.halves.invariant.2,
      low_at k ms at m (omega (arith, c.halves.invariant.0, c.halves-test.true)) c.index-rows-at.is c.requires order,
    )

pub halves-preserved : goal.halves-preserved
halves-preserved c =
    let k = c.args.id.now in
    let ms = c.args.rows.now in
    let m = c.index-rows-at.result in
    let at = c.halves.low + (c.halves.high - c.halves.low) / 2 in
    let order : slice_cmp nat_cmp k m.name ≡ Greater = told k c.as_bytes.result.now m _ Greater c.index-rows-at.is c.as_bytes.ensures.value c.in-Greater.ensures in (
      c.halves.invariant.0,
      omega (arith, c.halves-test.true),
      high_at k ms at m (omega (arith, c.halves.invariant.0, c.halves-test.true)) c.index-rows-at.is c.requires order,
      c.halves.invariant.3,
    )

pub returns-in-Equal : goal.returns-in-Equal
returns-in-Equal c =
    let k = c.args.id.now in
    let ms = c.args.rows.now in
    let m = c.index-rows-at.result in
    let at = c.halves.low + (c.halves.high - c.halves.low) / 2 in
    let order : slice_cmp nat_cmp k m.name ≡ Equal = told k c.as_bytes.result.now m _ Equal c.index-rows-at.is c.as_bytes.ensures.value c.in-Equal.ensures in
    let inside : at < length ms = omega (arith, c.halves.invariant.0, c.halves-test.true) in
    ap (λ (m : Member). Some (tree_of m.value)) (sym c.index-rows-at-in-Equal.is)
    ∙ sym (found k ms at c.index-rows-at-in-Equal.result inside c.index-rows-at-in-Equal.is (held_at k ms at m inside c.index-rows-at.is c.requires order))

pub returns : goal.returns
returns c =
    let k = c.args.id.now in
    let ms = map member_of c.args.rows.now in
    let same : c.halves.high ≡ c.halves.low = omega (arith, c.halves.invariant.1, c.halves-test.false) in
    sym (not_found k ms c.halves.low (
      omega (arith, c.halves.invariant.0, c.halves.invariant.1, length-map c.args.rows.now member_of),
      c.halves.invariant.2,
      subst (λ n. AllAbove k (drop n ms)) same c.halves.invariant.3,
    ))
