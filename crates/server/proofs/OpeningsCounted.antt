-- OpeningsCounted.antt: how often what a lane sends tells that a connection was opened at a port.
use Rattle.std.proofs.Common.{◌≡◌, ◌==◌, ℕ, ◌+◌, ◌<◌, ◌≤◌, Bool, true, false, if◌then◌else◌, List, [], ◌∷◌, ◌++◌, refl, ◌∙◌, ap, arith}
use Rattle.std.proofs.lemmas.Bool.Decides.{nat_tests}
use Rattle.ballot_base.specs.declared.message.Message.{Message}
use Rattle.broker_spec.specs.declared.command.Command.{Command}
use Rattle.node_base.specs.connection.Reports.{Came, pieces_reported, report_of}
use Rattle.post.specs.outbox.Queued.{IsPosted}
use Rattle.post.specs.outbox.Queued.IsOrder.{crashes, expels}
use Rattle.post.specs.outbox.Queued.IsPosted.{sent_to, ordered}
use Rattle.streams.specs.Ports.{port_of}
use Rattle.world_base.specs.declared.node_connections.port.Port.{Port}
use Rattle.world_base.specs.declared.node_core.item.Item.{Item}
use Rattle.world_base.specs.declared.node_core.item.Item.TheVariants.{Cut, Ended, Tick}
use Rattle.server.specs.node_threads.LaneReports.{ReportsEach, ReportsOne, SendsOwn}
use Rattle.server.specs.node_threads.LaneReports.ReportsEach.{begins, goes_on}
use Rattle.server.specs.node_threads.LaneReports.ReportsOne.{closed_at_once, served}
use Rattle.server.specs.node_threads.LaneReports.SendsOwn.{starts, ticks, cuts, hands}
use Rattle.server.specs.Ports.{openings_at, tells_opened}

-- ---- items

pub openings_append : (port : Port) (xs ys : List Item) → openings_at port (xs ++ ys) ≡ openings_at port xs + openings_at port ys
openings_append port [] ys = omega arith
openings_append port (x ∷ xs) ys = omega (arith, openings_append port xs ys)

-- one more item
one_more : (port : Port) (before : List Item) (item : Item) → openings_at port (before ++ item ∷ []) ≡ openings_at port before + (if tells_opened port item then 1 else 0)
one_more port before item = openings_append port before (item ∷ []) ∙ omega arith

pieces_tell_none : (port at : Port) (pieces : List Came) → openings_at port (pieces_reported at pieces) ≡ 0
pieces_tell_none port at [] = refl
pieces_tell_none port at (piece ∷ pieces) = omega (arith, pieces_tell_none port at pieces)

-- the report of a connection tells of its own port alone, once
report_tells : (port at : Port) (opened : ℕ) (pieces : List Came)
    → openings_at port (report_of at opened pieces) ≡ (if at.0 == port.0 then 1 else 0)
report_tells port at opened pieces =
    omega (arith, openings_append port (pieces_reported at pieces) (Ended at ∷ []), pieces_tell_none port at pieces)

-- ---- lanes of connections

-- one connection more
adds_one : (port at : Port) (before after : List Item) → ReportsOne at before after
    → openings_at port after ≤ openings_at port before + (if at.0 == port.0 then 1 else 0)
adds_one port at before _ closed_at_once = omega arith
adds_one port at before after (served whole) =
    let told = ap (openings_at port) whole.hears.reported ∙ openings_append port before (report_of at whole.hears.opened whole.hears.pieces) in
    omega (arith, told, report_tells port at whole.hears.opened whole.hears.pieces)

-- a connection at another port
adds_other : (port at : Port) (before after : List Item) → ReportsOne at before after → (at.0 == port.0) ≡ false
    → openings_at port after ≤ openings_at port before
adds_other port at before after one other =
    let more = adds_one port at before after one in
    let none : (if at.0 == port.0 then 1 else 0) ≡ 0 = ap (λ (b : Bool). let n : ℕ = if b then 1 else 0 in n) other in
    omega (arith, more, none)

-- a connection at any port
adds_any : (port at : Port) (before after : List Item) (b : Bool) → ReportsOne at before after → (at.0 == port.0) ≡ b
    → openings_at port after ≤ openings_at port before + 1
adds_any port at before after true one is =
    let more = adds_one port at before after one in
    let some : (if at.0 == port.0 then 1 else 0) ≡ 1 = ap (λ (b : Bool). let n : ℕ = if b then 1 else 0 in n) is in
    omega (arith, more, some)
adds_any port at before after false one is =
    let more = adds_other port at before after one is in omega (arith, more)

-- connections of a lane whose port is not this one
pub tells_none : (port : Port) (lane : ℕ) (before : List Item) (count : ℕ) (after : List Item) → ReportsEach lane before count after
    → ((n : ℕ) → n < count → ((port_of lane n).0 == port.0) ≡ false) → openings_at port after ≤ openings_at port before
tells_none port lane before _ _ begins others = omega arith
tells_none port lane before _ _ (goes_on {count = count} {sent = sent} after reports one) others =
    let first = tells_none port lane before count sent reports (λ n less. others n (omega (arith, less))) in
    let next = adds_other port (port_of lane count) sent after one (others count (omega arith)) in
    omega (arith, first, next)

earlier_other : (port : Port) (lane count n : ℕ) → n < count → ((port_of lane count).0 == port.0) ≡ true
    → ((port_of lane n).0 == port.0) ≡ false
earlier_other port lane count n less is = grind (arith, nat_tests, less, is)

-- one connection more, where each earlier one had another port
one_at_most : (port : Port) (lane : ℕ) (before : List Item) (count : ℕ) (sent after : List Item) (b : Bool) → ((port_of lane count).0 == port.0) ≡ b
    → ReportsEach lane before count sent → ReportsOne (port_of lane count) sent after
    → openings_at port sent ≤ openings_at port before + 1 → openings_at port after ≤ openings_at port before + 1
one_at_most port lane before count sent after true is reports one earlier =
    let first = tells_none port lane before count sent reports (λ n less. earlier_other port lane count n less is) in
    let next = adds_any port (port_of lane count) sent after true one is in
    omega (arith, first, next)
one_at_most port lane before count sent after false other reports one earlier =
    let next = adds_other port (port_of lane count) sent after one other in
    omega (arith, earlier, next)

-- each port of a lane is that of one connection
pub tells_once : (port : Port) (lane : ℕ) (before : List Item) (count : ℕ) (after : List Item) → ReportsEach lane before count after
    → openings_at port after ≤ openings_at port before + 1
tells_once port lane before _ _ begins = omega arith
tells_once port lane before _ _ (goes_on {count = count} {sent = sent} after reports one) =
    one_at_most port lane before count sent after ((port_of lane count).0 == port.0) refl reports one
    (tells_once port lane before count sent reports)

-- ---- the own lane

posted_none : (port : Port) (messages : List (ℕ × Message Command)) (number : ℕ) (item : Item) → IsPosted messages number item → tells_opened port item ≡ false
posted_none port messages number _ (sent_to message sent) = refl
posted_none port messages number _ (ordered crashes) = refl
posted_none port messages number _ (ordered (expels client)) = refl

pub own_tells_none : (port : Port) (messages : List (ℕ × Message Command)) (number : ℕ) (before after : List Item) → SendsOwn messages number before after
    → openings_at port after ≡ openings_at port before
own_tells_none port messages number before _ starts = refl
own_tells_none port messages number before _ (ticks {sent = sent} now rest) =
    one_more port sent (Tick now) ∙ omega (arith, own_tells_none port messages number before sent rest)
own_tells_none port messages number before _ (cuts {sent = sent} rest) =
    one_more port sent Cut ∙ omega (arith, own_tells_none port messages number before sent rest)
own_tells_none port messages number before _ (hands {sent = sent} item rest posted) =
    let none : (if tells_opened port item then 1 else 0) ≡ 0 = ap (λ (b : Bool). let n : ℕ = if b then 1 else 0 in n) (posted_none port messages number item posted) in
    one_more port sent item ∙ omega (arith, none, own_tells_none port messages number before sent rest)
