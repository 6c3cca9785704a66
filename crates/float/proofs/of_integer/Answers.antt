-- `of_integer` converts from -2^53 to 2^53, where every integer is a Float64.
use Rattle.float.proofs.Casts.{integer_good, exact_bits}
use Rattle.float.proofs.of_integer.Goals as goal

pub float_to_bits-result : goal.float_to_bits-result
float_to_bits-result c = search integer_good

pub returns-then-near : goal.returns-then-near
returns-then-near c = search exact_bits
