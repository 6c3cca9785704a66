use native.Mathlib.Omega.{arith}
use lib.ListN.{length-set}
use Rattle.printing.proofs.TextLaws.{decimal_none, decimal_one, decimal_more, put_length}
use Rattle.printing.proofs.+put_decimal.Goals as goal

-- `printing::put_decimal` meets its contract: with each call there is a digit less. Assumes nothing.

pub returns-then-digits-eq0 : goal.returns-then-digits-eq0
returns-then-digits-eq0 t c = record { text_after = decimal_none c.args.digits c.args.n _ c.args.at c.if-digits-eq0.true; upper_bound = omega arith }

pub bounds-text-at : goal.bounds-text-at
bounds-text-at t c = omega (arith, c.requires)

pub returns-then-n-lt10 : goal.returns-then-n-lt10
returns-then-n-lt10 t c =
    record {
      text_after = decimal_one c.args.digits c.args.n _ c.args.at
          c.if-digits-eq0.false c.if-n-lt10.true;
      upper_bound = omega arith;
    }

pub put_decimal-last-requires : goal.put_decimal-last-requires
put_decimal-last-requires t c = (omega (arith, c.requires), omega (arith, c.requires))

pub bounds-text-last : goal.bounds-text-last
bounds-text-last t c =
    omega (
      arith,
      put_length _ _ _ _ _ c.put_decimal-last.ensures.text_after,
      c.put_decimal-last.ensures.upper_bound,
      c.requires,
    )

pub overflow_add-result-2 : goal.overflow_add-result-2
overflow_add-result-2 t c = omega (arith, c.put_decimal-last.ensures.upper_bound, c.requires)

pub shape_of-text : goal.shape_of-text
shape_of-text t c = simp length-set (put_length _ _ _ _ _ c.put_decimal-last.ensures.text_after)

pub returns : goal.returns
returns t c =
    record {
      text_after = decimal_more c.args.digits
          c.args.n _ c.args.at
          c.if-digits-eq0.false c.if-n-lt10.false _ _
          c.put_decimal-last.ensures.text_after;
      upper_bound = omega (arith, c.put_decimal-last.ensures.upper_bound, c.if-digits-eq0.false);
    }
