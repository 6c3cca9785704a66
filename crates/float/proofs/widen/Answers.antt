-- `widen` keeps a NaN's sign and moves its fraction up, and any other number is the machine's own conversion.
use Rattle.float.proofs.Casts.{nan_widened, value_good, widens, number_widened}
use Rattle.float.proofs.widen.Goals as goal

pub returns-then-is_nan32 : goal.returns-then-is_nan32
returns-then-is_nan32 c = search nan_widened

pub float_to_float-result : goal.float_to_float-result
float_to_float-result c = search widens

pub float_to_bits-result : goal.float_to_bits-result
float_to_bits-result c = search value_good

pub returns : goal.returns
returns c = search number_widened
