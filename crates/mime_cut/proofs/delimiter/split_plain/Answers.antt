use Rattle.std.proofs.Common.{◌≡◌, ◌≤◌, ◌<◌, ◌+◌, ◌++◌, [], suc, drop, take, length, get_or, sym, ap, subst, ◌∙◌, arith}
use Rattle.std.proofs.lemmas.List.{take_all, drop_all, append-nil, length-take-le}
use Rattle.mime_lines.specs.Lines.{lines}
use Rattle.mime_cut.proofs.PlainLines.{Dashless, passed, cut_here, none_at_all, none_before}
use Rattle.mime_cut.proofs.delimiter.split_plain.Goals as goal

-- where the search finds something, the bytes up to its LF
here : (c : goal.After-split_at) → (lines c.args.bytes.now ≡ lines c.split_at.result.0.now ++ lines c.split_at.result.1.now) × (0 < length c.split_at.result.0.now) × Dashless c.split_at.result.0.now
here c =
    let xs = c.args.bytes.now in
    let i = c.in-Some.i in
    let inside : i + 3 ≤ length xs = c.in-Some.ensures.1.fits in
    let one : i + 1 ≡ suc i = omega arith in
    let zeroth : i + 0 ≡ i = omega arith in
    let front : c.split_at.result.0.now ≡ take (suc i) xs = c.split_at.ensures.front ∙ ap (λ n. take n xs) one in
    let back : c.split_at.result.1.now ≡ drop (suc i) xs = c.split_at.ensures.back ∙ ap (λ n. drop n xs) one in
    let feed : get_or xs i 0 ≡ 10 = sym (ap (λ n. get_or xs n 0) zeroth) ∙ c.in-Some.ensures.1.reads 0 (omega arith) in
    let size : length c.split_at.result.0.now ≡ suc i = ap length front ∙ length-take-le (suc i) xs (omega (arith, inside)) in (
      cut_here xs i (omega (arith, inside)) feed ∙ ap (λ t. lines t ++ lines (drop (suc i) xs)) (sym front) ∙ ap (λ t. lines c.split_at.result.0.now ++ lines t) (sym back),
      omega (arith, size),
      subst Dashless (sym front) (none_before xs i c.in-Some.ensures.0.before),
    )

-- where it finds nothing, all the bytes
all : (c : goal.After-split_at-in-None) → (lines c.args.bytes.now ≡ lines c.split_at-in-None.result.0.now ++ lines c.split_at-in-None.result.1.now) × (0 < length c.split_at-in-None.result.0.now) × Dashless c.split_at-in-None.result.0.now
all c =
    let xs = c.args.bytes.now in
    let front : c.split_at-in-None.result.0.now ≡ xs = c.split_at-in-None.ensures.front ∙ take_all (length xs) xs (omega arith) in
    let back : c.split_at-in-None.result.1.now ≡ [] = c.split_at-in-None.ensures.back ∙ drop_all (length xs) xs (omega arith) in (
      sym (append-nil (lines xs)) ∙ ap (λ t. lines t ++ []) (sym front) ∙ ap (λ t. lines c.split_at-in-None.result.0.now ++ lines t) (sym back),
      omega (arith, ap length front, c.requires),
      subst Dashless (sym front) (none_at_all xs c.in-None.ensures),
    )

pub returns-in-Some-clause-plain : goal.returns-in-Some-clause-plain
returns-in-Some-clause-plain c boundary line more before size is other =
    let h = here c in
    (passed boundary line c.split_at.result.0.now c.split_at.result.1.now c.args.bytes.now more before size h.0 h.1 h.2 is other).0

pub returns-in-Some-clause-lines_after : goal.returns-in-Some-clause-lines_after
returns-in-Some-clause-lines_after c boundary line more is other =
    let h = here c in
    (passed boundary line c.split_at.result.0.now c.split_at.result.1.now c.args.bytes.now more 0 0 h.0 h.1 h.2 is other).1

pub returns-in-None-clause-plain : goal.returns-in-None-clause-plain
returns-in-None-clause-plain c boundary line more before size is other =
    let h = all c in
    (passed boundary line c.split_at-in-None.result.0.now c.split_at-in-None.result.1.now c.args.bytes.now more before size h.0 h.1 h.2 is other).0

pub returns-in-None-clause-lines_after : goal.returns-in-None-clause-lines_after
returns-in-None-clause-lines_after c boundary line more is other =
    let h = all c in
    (passed boundary line c.split_at-in-None.result.0.now c.split_at-in-None.result.1.now c.args.bytes.now more 0 0 h.0 h.1 h.2 is other).1
