-- Each event keeps the shape of the client's connections.
use Rattle.std.proofs.Common.{List, [], ◌∷◌, sym, subst}
use Rattle.broker_spec.specs.Place.{Client, Past, Limits}
use Rattle.lists.specs.Lists.{Each}
use Rattle.lists.proofs.OfEach.{each_then}
use Rattle.exactly_once.specs.Sides.{ClientConnection}
use Rattle.exactly_once.specs.Story.{Story, StoryStep}
use Rattle.exactly_once.specs.Inside.Shape.{HasShape}
use Rattle.exactly_once.specs.Inside.ConnectionShape.{ConnectionInShape}
use Rattle.exactly_once.proofs.publishing.kept.KeepsCounts.{CountsOf, events_keep_counts}
use Rattle.exactly_once.proofs.publishing.kept.KeepsRows.{RowsOf, events_keep_rows}
use Rattle.exactly_once.proofs.connections.KeepsWritten.{WritesOf, events_keep_written}
use Rattle.exactly_once.proofs.connections.Opens.{FirstOf}
use Rattle.exactly_once.proofs.connections.KeepsFirst.{events_keep_first}
use Rattle.exactly_once.proofs.connections.KeepsClient.{events_keep_client}

-- all rows of one connection
rows_shape : (limits : Limits) (past : Past) (c : Client) (κ : ClientConnection) → WritesOf c κ → FirstOf limits past κ → CountsOf past κ → RowsOf limits past κ → ConnectionInShape limits past c κ
rows_shape limits past c κ w f n r =
    record {
      more = w.more;
      written = w.written;
      one_connect = w.one_connect;
      silent = w.silent;
      counted = n.counted;
      within = n.within;
      handled_within = r.handled_within;
      numbers_known = r.numbers_known;
      connack_first = f.connack_first;
      asks_first = f.asks_first;
      handled_some = w.handled_some;
    }

-- of each
all_shape : (limits : Limits) (past : Past) (c : Client) (connections : List ClientConnection) → Each (WritesOf c) connections → Each (FirstOf limits past) connections → Each (CountsOf past) connections
    → Each (RowsOf limits past) connections → Each (ConnectionInShape limits past c) connections
all_shape limits past c [] w f n r = tt
all_shape limits past c (κ ∷ connections) w f n r = (rows_shape limits past c κ w.0 f.0 n.0 r.0, all_shape limits past c connections w.1 f.1 n.1 r.1)

-- every event
pub events_keep_connections : (limits : Limits) (s t : Story) → HasShape limits s → StoryStep limits s t
    → Each (ConnectionInShape limits t.past t.keeper.client) t.connections
events_keep_connections limits s t shape happens =
    let counts =
    each_then (ConnectionInShape limits s.past s.keeper.client) (CountsOf s.past) s.connections (λ κ r. record { counted = r.counted; within = r.within }) shape.connections in
    let rows =
    each_then (ConnectionInShape limits s.past s.keeper.client) (RowsOf limits s.past) s.connections (λ κ r. record { handled_within = r.handled_within; numbers_known = r.numbers_known })
    shape.connections in
    subst (λ (c : Client). Each (ConnectionInShape limits t.past c) t.connections) (sym (events_keep_client limits s t happens))
    (all_shape limits t.past s.keeper.client t.connections (events_keep_written limits s t shape happens) (events_keep_first limits s t shape happens)
    (events_keep_counts limits s t shape.names_apart counts happens) (events_keep_rows limits s t rows happens))
