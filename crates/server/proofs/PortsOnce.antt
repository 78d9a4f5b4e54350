-- PortsOnce.antt: in a run that was served, no port of a node is opened twice.
use Rattle.std.proofs.Common.{◌≡◌, ◌==◌, ◌⊎◌, inl, inr, ℕ, ◌+◌, ◌%◌, ◌<◌, ◌≤◌, zero, suc, Bool, true, false, if◌then◌else◌, List, [], ◌∷◌, refl, ◌∙◌, ap, sym, subst, arith}
use Rattle.std.proofs.lemmas.Bool.Decides.{nat_tests}
use Rattle.std.proofs.lemmas.List.Elements.{All-contains}
use Rattle.std.proofs.lemmas.List.Sorted.{Contains-permutation}
use Rattle.ballot_base.specs.LawfulConfig.{max_node}
use Rattle.ballot_base.specs.declared.config.Config.{Config}
use Rattle.lists.specs.Lists.{Each, has_id}
use Rattle.mailbox.specs.Delivery.{items_of_lane}
use Rattle.node.specs.State.{items_of}
use Rattle.run_history.specs.declared.event.RunEvent.{RunEvent}
use Rattle.run_history.specs.Log.{events_by, items_taken, sent_in}
use Rattle.run_history.proofs.TakenItems.{items_stay}
use Rattle.streams.specs.Ports.{port_of}
use Rattle.world_base.specs.declared.node_connections.port.Port.{Port}
use Rattle.world_base.specs.declared.node_core.item.Item.{Item}
use Rattle.world_base.specs.node_core.Core.{CoreState}
use Rattle.server.specs.declared.node_threads.lane_slots.TheConstants.{LANES}
use Rattle.server.specs.declared.node_threads.served_node.NodeReport.{NodeReport}
use Rattle.server.specs.declared.served_run.ServedRun.{ServedRun}
use Rattle.server.specs.Ended.{IsReportOf, came_by}
use Rattle.server.specs.Ends.{IsReportIn, IsServedRun}
use Rattle.server.specs.Ports.{PortsComeOnce, openings_at, tells_opened}
use Rattle.server.proofs.NodesEnded.{image_of}
use Rattle.server.proofs.NodesOpened.{has_contains}
use Rattle.server.proofs.OpeningsCounted.{openings_append, own_tells_none, tells_none, tells_once}
use Rattle.server.proofs.Strangers.{master_took_none, none_outside}

-- ---- lane by lane

-- items of a lane, one more at the front
front : (port : Port) (k lane : ℕ) (x : Item) (rest : List (ℕ × Item)) (b : Bool) → (lane == k) ≡ b
    → openings_at port (items_of_lane k ((lane, x) ∷ rest))
    ≡ (if b then (if tells_opened port x then 1 else 0) else 0) + openings_at port (items_of_lane k rest)
front port k lane x rest true is = ap (λ (c : Bool). openings_at port (if c then x ∷ items_of_lane k rest else items_of_lane k rest)) is
front port k lane x rest false is = ap (λ (c : Bool). openings_at port (if c then x ∷ items_of_lane k rest else items_of_lane k rest)) is ∙ omega arith

fewer : (port : Port) (k lane : ℕ) (x : Item) (rest : List (ℕ × Item)) (b : Bool) → (lane == k) ≡ b
    → openings_at port (items_of_lane k rest) ≤ openings_at port (items_of_lane k ((lane, x) ∷ rest))
fewer port k lane x rest b is = omega (arith, front port k lane x rest b is)

one_front : (port : Port) (k lane : ℕ) (x : Item) (rest : List (ℕ × Item)) (b : Bool) → (lane == k) ≡ b
    → ((other : ℕ) → (other == k) ≡ false → openings_at port (items_of_lane other ((lane, x) ∷ rest)) ≡ 0)
    → openings_at port (items_of rest) ≡ openings_at port (items_of_lane k rest)
    → openings_at port (items_of ((lane, x) ∷ rest)) ≡ openings_at port (items_of_lane k ((lane, x) ∷ rest))
one_front port k lane x rest true is others ih = let now = front port k lane x rest true is in omega (arith, ih, now)
one_front port k lane x rest false is others ih =
    let now = front port k lane x rest false is in
    let me : (lane == lane) ≡ true = grind (arith, nat_tests) in
    let own = front port lane lane x rest true me in
    let none = others lane is in
    omega (arith, ih, now, own, none)

-- if only one lane tells of the port, all items tell of it as often as those of that lane
by_lane : (port : Port) (k : ℕ) (taken : List (ℕ × Item))
    → ((other : ℕ) → (other == k) ≡ false → openings_at port (items_of_lane other taken) ≡ 0)
    → openings_at port (items_of taken) ≡ openings_at port (items_of_lane k taken)
by_lane port k [] others = refl
by_lane port k ((lane, x) ∷ rest) others =
    one_front port k lane x rest (lane == k) refl others
    (by_lane port k rest (λ other apart.
    let none = others other apart in
    let less = fewer port other lane x rest (lane == other) refl in
    omega (arith, none, less)))

-- no item is of a lane that is not there
none_past : (lane : ℕ) (taken : List (ℕ × Item)) → Each (λ (one : ℕ × Item). one.0 < LANES) taken → LANES ≤ lane → items_of_lane lane taken ≡ []
none_past lane [] below past = refl
none_past lane (one ∷ taken) below past =
    let other : (one.0 == lane) ≡ false = grind (arith, nat_tests, below.0, past) in
    ap (λ (b : Bool). if b then one.1 ∷ items_of_lane lane taken else items_of_lane lane taken) other ∙ none_past lane taken below.1 past

-- ---- a node with a report

abbrev lane_of : Port → ℕ
lane_of port = port.0 % 256

other_port : (port : Port) (lane n : ℕ) → lane < 256 → (lane == lane_of port) ≡ false → ((port_of lane n).0 == port.0) ≡ false
other_port port lane n low apart = grind (arith, nat_tests, low, apart)

module _ (log : List RunEvent) (ended : CoreState) (report : NodeReport) (is : IsReportOf (sent_in log) log ended report) (port : Port) where
  -- what was taken of a lane is the front of what came by it
  part : (lane : ℕ) → openings_at port (items_of_lane lane is.taken) ≤ openings_at port (came_by lane is.taken report.report.left)
  part lane = omega (arith, openings_append port (items_of_lane lane is.taken) (items_of_lane lane report.report.left))

  own_none : openings_at port (items_of_lane 0 is.taken) ≡ 0
  own_none =
      let all = own_tells_none port (sent_in log) report.number [] (came_by 0 is.taken report.report.left) is.own in
      let less = part 0 in
      omega (arith, all, less)

  past_none : (lane : ℕ) → LANES ≤ lane → openings_at port (items_of_lane lane is.taken) ≡ 0
  past_none lane past = ap (openings_at port) (none_past lane is.taken is.by_lanes past)

  other_none : (lane : ℕ) → (lane == lane_of port) ≡ false → openings_at port (items_of_lane lane is.taken) ≡ 0
  other_none zero apart = own_none
  other_none (suc k) apart = by (split (suc k))
    where
      split : (lane : ℕ) → (lane < LANES) ⊎ (LANES ≤ lane)
      split lane = grind arith

      by : (suc k < LANES) ⊎ (LANES ≤ suc k) → openings_at port (items_of_lane (suc k) is.taken) ≡ 0
      by (inr past) = past_none (suc k) past
      by (inl less) =
          let row = is.connections (suc k) (omega arith) less in
          let none = tells_none port (suc k) [] row.count _ row.reports (λ n below. other_port port (suc k) n (omega (arith, less)) apart) in
          let front = part (suc k) in
          omega (arith, none, front)

  of_one : (lane : ℕ) → openings_at port (items_of_lane lane is.taken) ≤ 1
  of_one zero = let none = own_none in omega (arith, none)
  of_one (suc k) = by (split (suc k))
    where
      split : (lane : ℕ) → (lane < LANES) ⊎ (LANES ≤ lane)
      split lane = grind arith

      by : (suc k < LANES) ⊎ (LANES ≤ suc k) → openings_at port (items_of_lane (suc k) is.taken) ≤ 1
      by (inr past) = let none = past_none (suc k) past in omega (arith, none)
      by (inl less) =
          let row = is.connections (suc k) (omega arith) less in
          let once = tells_once port (suc k) [] row.count _ row.reports in
          let front = part (suc k) in
          omega (arith, once, front)

  pub once_at : openings_at port (items_taken report.number log) ≤ 1
  once_at =
      let all = ap (openings_at port) is.items ∙ by_lane port (lane_of port) is.taken other_none in
      let one = of_one (lane_of port) in
      omega (arith, all, one)

-- ---- all nodes

-- a node without events took nothing
none_taken : (number : ℕ) (log : List RunEvent) → events_by number log ≡ 0 → items_taken number log ≡ []
none_taken number log none = items_stay number [] log (log, refl) none

idle_once : (number : ℕ) (log : List RunEvent) (port : Port) → events_by number log ≡ 0 → openings_at port (items_taken number log) ≤ 1
idle_once number log port none =
    let taken = ap (openings_at port) (none_taken number log none) in omega (arith, taken)

served_once : (config : Config) (numbers : List ℕ) (run : ServedRun) → IsServedRun config numbers run → (number : ℕ) (port : Port)
    → has_id number numbers ≡ true → openings_at port (items_taken number run.log) ≤ 1
served_once config numbers run served number port has =
    let among = Contains-permutation numbers _ number served.served (has_contains number numbers has) in
    let one = image_of (λ (report : NodeReport). report.number) run.reports.items number among in
    let in_run = All-contains (IsReportIn max_node config run.log) run.reports.items one.of served.reports one.among in
    subst (λ (n : ℕ). openings_at port (items_taken n run.log) ≤ 1) one.is
    (once_at run.log in_run.ended one.of in_run.is port)

next_number : (index : ℕ) → index + 1 ≡ suc index
next_number index = omega arith

idle_none : (config : Config) (numbers : List ℕ) (run : ServedRun) → IsServedRun config numbers run → (index : ℕ) → has_id (index + 1) numbers ≡ false
    → (index < max_node) ⊎ (max_node ≤ index) → events_by (index + 1) run.log ≡ 0
idle_none config numbers run served index none (inl less) = served.others index less none
idle_none config numbers run served index none (inr past) = none_outside max_node config run.log served.history index past

within_or : (index : ℕ) → (index < max_node) ⊎ (max_node ≤ index)
within_or index = grind arith

other_once : (config : Config) (numbers : List ℕ) (run : ServedRun) → IsServedRun config numbers run → (number : ℕ) (port : Port)
    → has_id number numbers ≡ false → openings_at port (items_taken number run.log) ≤ 1
other_once config numbers run served zero port none = let nothing = ap (openings_at port) (master_took_none run.log) in omega (arith, nothing)
other_once config numbers run served (suc index) port none =
    let named : has_id (index + 1) numbers ≡ false = subst (λ (n : ℕ). has_id n numbers ≡ false) (sym (next_number index)) none in
    idle_once (suc index) run.log port
    (subst (λ (n : ℕ). events_by n run.log ≡ 0) (next_number index) (idle_none config numbers run served index named (within_or index)))

pub ports_come_once : PortsComeOnce
ports_come_once config numbers run served number port = by (has_id number numbers) refl
  where
    by : (b : Bool) → has_id number numbers ≡ b → openings_at port (items_taken number run.log) ≤ 1
    by true has = served_once config numbers run served number port has
    by false none = other_once config numbers run served number port none
