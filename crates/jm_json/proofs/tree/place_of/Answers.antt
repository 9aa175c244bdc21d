use Rattle.std.proofs.Common.{◌≡◌, map, take, drop, Less, Equal, Greater, nat_cmp, sym, subst, arith}
use Rattle.std.specs.Cmp.Lexicographic.{slice_cmp}
use Rattle.jm_json.specs.Json.{member_of}
use Rattle.jm_json.specs.KeyIndices.{AllBelow, AllAbove}
use Rattle.jm_json.proofs.Puts.{low_at, high_at, held_at, told}
use Rattle.jm_json.proofs.tree.place_of.Goals as goal
use Rattle.jm_json.proofs.tree.place_of.Goals.{in-Less, in-Greater}

pub returns-in-Equal : goal.returns-in-Equal
returns-in-Equal c =
    let k = c.args.name.now in
    let ms = c.args.members.now in
    let m = c.index-members-at.result in
    let order : slice_cmp nat_cmp k m.name ≡ Equal = told k c.as_bytes.result.now m _ Equal c.index-members-at.is c.as_bytes.ensures.value c.in-Equal.ensures in
    held_at k ms c.halves.at m (omega (arith, c.halves.invariant.0, c.halves.invariant.2 c.halves-test.true)) c.index-members-at.is c.requires order

pub halves-preserved : goal.halves-preserved
halves-preserved c =
    let k = c.args.name.now in
    let ms = c.args.members.now in
    let m = c.index-members-at.result in
    let at = c.halves.at in
    let below = c.halves.invariant.2 c.halves-test.true in
    let above = c.halves.invariant.3 c.halves-test.true in
    elim c.match-cmp.branch [
      | in-Less w ↦
          (let order : slice_cmp nat_cmp k m.name ≡ Less = told k c.as_bytes.result.now m _ Less c.index-members-at.is c.as_bytes.ensures.value w.in-Less.ensures in (
            omega (arith, c.halves.invariant.0, below, w.high-is),
            omega (arith, above, w.high-is, w.low-is),
            λ h. omega (arith, h),
            λ h. omega (arith, h),
            subst (λ n. AllBelow k (take n (map member_of ms))) (sym w.low-is) c.halves.invariant.4,
            subst (λ n. AllAbove k (drop n (map member_of ms))) (sym w.high-is) (low_at k ms at m (omega (arith, c.halves.invariant.0, below)) c.index-members-at.is c.requires order),
          ))
      | in-Greater w ↦
          (let order : slice_cmp nat_cmp k m.name ≡ Greater = told k c.as_bytes.result.now m _ Greater c.index-members-at.is c.as_bytes.ensures.value w.in-Greater.ensures in (
            omega (arith, c.halves.invariant.0, w.high-is),
            omega (arith, below, w.high-is, w.low-is),
            λ h. omega (arith, h),
            λ h. omega (arith, h),
            subst (λ n. AllBelow k (take n (map member_of ms))) (sym w.low-is) (high_at k ms at m (omega (arith, c.halves.invariant.0, below)) c.index-members-at.is c.requires order),
            subst (λ n. AllAbove k (drop n (map member_of ms))) (sym w.high-is) c.halves.invariant.5,
          ))
    ]
