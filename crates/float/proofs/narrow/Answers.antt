-- `narrow` converts what passes the rule's test: it is no NaN, and Float32 holds it.
use Rattle.float.proofs.Casts.{wide_bits_good, wide_value_good, narrows, narrowed_to}
use Rattle.float.proofs.narrow.Goals as goal

pub float_from_bits-result : goal.float_from_bits-result
float_from_bits-result c = search wide_bits_good

pub float_to_float-result : goal.float_to_float-result
float_to_float-result c = search narrows

pub float_to_bits-result : goal.float_to_bits-result
float_to_bits-result c = search wide_value_good

pub returns-then-float32_holds : goal.returns-then-float32_holds
returns-then-float32_holds c = search narrowed_to
