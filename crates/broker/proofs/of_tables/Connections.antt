-- Connections.antt: the map of connections tells them apart as the definitions do.
use Rattle.std.proofs.Common.{◌≡◌, ◌&&◌, ◌∙◌, ap₂, sym}
use Rattle.std.specs.Ordering.{nat_cmp}
use Rattle.std.specs.Cmp.{tied_then, unsigned_ties}
use Rattle.std.specs.BTreeMap.{is_at}
use Rattle.broker_spec.specs.Connection.{ConnectionName, same_connection}
use Rattle.broker.specs.tables.Tables.{by_connection}

pub at_is_same : (x y : ConnectionName) → is_at (by_connection x) y ≡ same_connection x y
at_is_same x y =
    sym (tied_then (nat_cmp x.ballot y.ballot) (nat_cmp x.count y.count))
    ∙ sym (ap₂ (λ a b. a && b) (unsigned_ties x.ballot y.ballot) (unsigned_ties x.count y.count))
