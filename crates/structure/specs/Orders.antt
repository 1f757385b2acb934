-- What an order is made of, or why it is refused. Assumes nothing.
use Rattle.std.specs.Prelude.{◌≡◌, ℕ, Some, None, Ok, Err, Result}
use Rattle.structure.specs.declared.order.Order.{Order}
use Rattle.structure.specs.declared.refusal.Refusal.{Refusal}
use Rattle.structure.specs.Drawings.{order_refused}

abbrev pub OrderOrRefusal : ℕ → Result Order Refusal → Type 0
OrderOrRefusal n (Ok order) = (order_refused n ≡ None) × (order.parts ≡ n)
OrderOrRefusal n (Err why) = order_refused n ≡ Some why
