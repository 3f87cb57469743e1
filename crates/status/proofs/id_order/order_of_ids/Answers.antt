use Rattle.std.proofs.Common.{refl}
use Rattle.status.proofs.id_order.order_of_ids.Goals as goal

pub returns : goal.returns
returns c = λ a b. refl
