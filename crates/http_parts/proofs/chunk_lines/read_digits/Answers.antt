use Rattle.std.proofs.Common.{arith, refl, length}
use Rattle.http_parts.proofs.ChunkLines.{digit_init, digit_top, digit_next}
use Rattle.http_parts.proofs.chunk_lines.read_digits.Goals as goal

pub digit-init : goal.digit-init
digit-init c = record {
  few = c.requires.few;
  digits = c.requires.digits;
  fits = digit_init (length c.args.digits.now);
  same = refl;
}

pub overflow_mul-value : goal.overflow_mul-value
overflow_mul-value c =
    omega (arith, digit_top c.digit.value 0 c.digit.rest.now c.in-Some.byte.now c.in-Some.more.now c.in-Some.ensures.cases.0 c.digit.invariant.few c.digit.invariant.fits (omega arith))

pub overflow_add-value : goal.overflow_add-value
overflow_add-value c =
    omega (arith, digit_top c.digit.value c.read_digit.result c.digit.rest.now c.in-Some.byte.now c.in-Some.more.now c.in-Some.ensures.cases.0 c.digit.invariant.few c.digit.invariant.fits c.read_digit.ensures.bound)

pub digit-preserved : goal.digit-preserved
digit-preserved c =
    let n = digit_next c.args.digits.now c.digit.rest.now c.in-Some.more.now c.in-Some.byte.now c.digit.value c.read_digit.result c.in-Some.ensures.cases.0 c.digit.invariant.few c.digit.invariant.digits c.digit.invariant.fits c.digit.invariant.same c.read_digit.ensures.value c.read_digit.ensures.bound in record {
      few = n.0;
      digits = n.1;
      fits = n.2;
      same = n.3;
    }
