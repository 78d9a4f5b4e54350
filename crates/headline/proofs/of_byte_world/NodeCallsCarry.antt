-- Each call of a node has moves that carry just its bytes, and in which the replica receives what
-- was sent to it, at first.
use Rattle.std.proofs.Common.{◌≡◌, ℕ, ◌+◌, Bool, true, false, if◌then◌else◌, Some, List, [], ◌++◌, refl, sym, ap, ◌∙◌, subst}
use Rattle.std.proofs.lemmas.List.{append-nil}
use Rattle.lists.specs.Lists.{In}
use Rattle.ballot_base.specs.Protocol.Input.{Receives, Proposes, Ticks}
use Rattle.broker_spec.specs.Connection.{ConnectionName}
use Rattle.world_base.specs.declared.node_core.item.Item.TheVariants.{Peer, Tick, Opened, Bytes, Ended, Expel, Cut, Crash}
use Rattle.ballot_base.specs.Compaction.{can_cut}
use Rattle.world_base.specs.node_core.Core.{CoreState, StepOutcome, rules}
use Rattle.world_base.specs.node_core.PortOutput.{listed_at}
use Rattle.world_base.specs.node_core.PacketInput.{open_at}
use Rattle.headline.specs.node_moves.Ends.{came_on, piece_on}
use Rattle.headline.specs.node_moves.RunProposals.{bytes_on}
use Rattle.headline.specs.node_moves.Moves.{NodeCall, NodeMove, MoveTrace, done}
use Rattle.headline.specs.node_moves.Moves.NodeCall.{takes, hands_out}
use Rattle.headline.specs.node_moves.Moves.NodeMove.{hears, opens_one, holds, reads_first, reads_later, closes, refuses, loses_one, loses_next, expels_one, cuts_log, crashes, settles, hands}
use Rattle.headline.specs.node_moves.Moves.MoveTrace.{rests, goes_on}
use Rattle.headline.proofs.of_node_moves.PartsOfMoves.{BeginsWith, IsBare, Part, begins_hearing, part_in, part_of}
use Rattle.headline.proofs.of_node_moves.PartsOfMoves.Part.{heard, bytes_in, bytes_out}
use Rattle.headline.proofs.of_node_moves.StepsMove.{node_calls_begin}
use Rattle.headline.specs.node_group.Group.{Group, group_after_outcome, replica_of, with_record}
use Rattle.headline.specs.node_group.Proposals.{recorded_by, recorded_in}
use Rattle.agreement.specs.cut_logs.World.{recorded}
use Rattle.broker_spec.specs.declared.command.Command.{Command}
use Rattle.headline.specs.node_group.Steps.{AllWasSent, WasSent, all_given}
use Rattle.headline.specs.node_group.Steps.GroupStep.{node_acts}
use Rattle.headline.specs.node_group.Streams.{bytes_named, handed_in_run, handed_on}
use Rattle.headline.specs.byte_world.NodeCalls.{NodeCallWasSent, NodeCallsCarryTheirBytes, GroupsDoEachNodeCall, recorded_after}
use Rattle.headline.specs.byte_world.Steps.{coming_with, going_with}

-- ---- what a part is for one connection

abbrev comes_in : ConnectionName → Part → CoreState → List ℕ
comes_in x (bytes_in port piece) core = piece_on x piece (open_at port core)
comes_in x _ core = []

abbrev goes_out : ConnectionName → Part → CoreState → List ℕ
goes_out x (bytes_out port) core = bytes_named x (listed_at port core)
goes_out x _ core = []

abbrev PartWasSent : Group → ℕ → CoreState → Part → Type 0
PartWasSent g n core (heard message) = In (n + 1, message) g.sent
PartWasSent g n core Part.cut = rules.thawed (rules.frozen (replica_of core).machine) ≡ Some (replica_of core).machine
PartWasSent g n core _ = Unit {0}

-- .. of a call
node_call_parts : (x : ConnectionName) (node_call : NodeCall) (core : CoreState) → (comes_in x (part_of node_call core) core ≡ coming_with x node_call core) × (goes_out x (part_of node_call core) core ≡ going_with x node_call core)
node_call_parts x (takes (Peer message)) core = (refl, refl)
node_call_parts x (takes (Tick now)) core = (refl, refl)
node_call_parts x (takes (Opened port now)) core = (refl, refl)
node_call_parts x (takes (Bytes port piece now)) core = (refl, refl)
node_call_parts x (takes (Ended port)) core = (refl, refl)
node_call_parts x (takes (Expel client)) core = (refl, refl)
node_call_parts x (takes Cut) core = by (can_cut (replica_of core))
  where
    by : (b : Bool) → (comes_in x (if b then Part.cut else Part.nothing) core ≡ []) × (goes_out x (if b then Part.cut else Part.nothing) core ≡ [])
    by true = (refl, refl)
    by false = (refl, refl)
node_call_parts x (takes Crash) core = (refl, refl)
node_call_parts x (hands_out port) core = (refl, refl)

node_call_sent : (g : Group) (n : ℕ) (core : CoreState) (node_call : NodeCall) → NodeCallWasSent g n core node_call → PartWasSent g n core (part_of node_call core)
node_call_sent g n core (takes (Peer message)) sent = sent
node_call_sent g n core (takes (Tick now)) sent = tt
node_call_sent g n core (takes (Opened port now)) sent = tt
node_call_sent g n core (takes (Bytes port piece now)) sent = tt
node_call_sent g n core (takes (Ended port)) sent = tt
node_call_sent g n core (takes (Expel client)) sent = tt
node_call_sent g n core (takes Cut) sent = by (can_cut (replica_of core)) sent
  where
    by : (b : Bool) → (b ≡ true → rules.thawed (rules.frozen (replica_of core).machine) ≡ Some (replica_of core).machine) →
        PartWasSent g n core (if b then Part.cut else Part.nothing)
    by true reads = reads refl
    by false reads = tt
node_call_sent g n core (takes Crash) sent = tt
node_call_sent g n core (hands_out port) sent = tt

-- .. of a move
move_parts : (x : ConnectionName) {core : CoreState} {outcome : StepOutcome} (m : NodeMove core outcome) → (came_on x m ≡ comes_in x (part_in m) core) × (handed_on x m ≡ goes_out x (part_in m) core)
move_parts x (hears (Receives message) is) = (refl, refl)
move_parts x (hears (Proposes command) is) = (refl, refl)
move_parts x (hears Ticks is) = (refl, refl)
move_parts x (opens_one port) = (refl, refl)
move_parts x (holds port piece) = (refl, refl)
move_parts x (reads_first now port c connect rest at first is room) = (refl, refl)
move_parts x (reads_later now port c packet rest at later is room) = (refl, refl)
move_parts x (closes port) = (refl, refl)
move_parts x (refuses port c code at first is) = (refl, refl)
move_parts x (loses_one port c at proposed) = (refl, refl)
move_parts x (loses_next c at) = (refl, refl)
move_parts x (expels_one client) = (refl, refl)
move_parts x (cuts_log can) = (refl, refl)
move_parts x crashes = (refl, refl)
move_parts x settles = (refl, refl)
move_parts x (hands port) = (refl, refl)

move_sent : (g : Group) (n : ℕ) {core : CoreState} {outcome : StepOutcome} (m : NodeMove core outcome) → PartWasSent g n core (part_in m) → WasSent g n m
move_sent g n (hears (Receives message) is) sent = sent
move_sent g n (hears (Proposes command) is) sent = tt
move_sent g n (hears Ticks is) sent = tt
move_sent g n (opens_one port) sent = tt
move_sent g n (holds port piece) sent = tt
move_sent g n (reads_first now port c connect rest at first is room) sent = tt
move_sent g n (reads_later now port c packet rest at later is room) sent = tt
move_sent g n (closes port) sent = tt
move_sent g n (refuses port c code at first is) sent = tt
move_sent g n (loses_one port c at proposed) sent = tt
move_sent g n (loses_next c at) sent = tt
move_sent g n (expels_one client) sent = tt
move_sent g n (cuts_log can) sent = sent
move_sent g n crashes sent = tt
move_sent g n settles sent = tt
move_sent g n (hands port) sent = tt

-- ---- runs

-- a run of bare moves carries nothing, and receives nothing
bare_carries : (x : ConnectionName) {core : CoreState} {outcome : StepOutcome} (run : MoveTrace core outcome) → IsBare run → (bytes_on x run ≡ []) × (handed_in_run x run ≡ [])
bare_carries x rests bare = (refl, refl)
bare_carries x (goes_on {core = core} m run) bare =
    let p = move_parts x m in
    let rest = bare_carries x run bare.1 in (
      ap (λ l. came_on x m ++ l) rest.0 ∙ append-nil (came_on x m) ∙ p.0 ∙ ap (λ part. comes_in x part core) bare.0.1,
      ap (λ l. handed_on x m ++ l) rest.1 ∙ append-nil (handed_on x m) ∙ p.1 ∙ ap (λ part. goes_out x part core) bare.0.1,
    )

bare_sent : (g : Group) (n : ℕ) {core : CoreState} {outcome : StepOutcome} (run : MoveTrace core outcome) → IsBare run → AllWasSent g n run
bare_sent g n rests bare = tt
bare_sent g n (goes_on {core = core} m run) bare = (move_sent g n m (subst (PartWasSent g n core) (sym bare.0.1) tt), bare_sent g n run bare.1)

-- one that begins with a part carries what that does
begun_carries : (x : ConnectionName) (part : Part) {core : CoreState} {outcome : StepOutcome} (run : MoveTrace core outcome) → BeginsWith part run
    → (bytes_on x run ≡ comes_in x part core) × (handed_in_run x run ≡ goes_out x part core)
begun_carries x part {core = core} rests begins = (ap (λ part. comes_in x part core) begins, ap (λ part. goes_out x part core) begins)
begun_carries x part {core = core} (goes_on m run) begins =
    let p = move_parts x m in
    let rest = bare_carries x run begins.1 in (
      ap (λ l. came_on x m ++ l) rest.0 ∙ append-nil (came_on x m) ∙ p.0 ∙ ap (λ part. comes_in x part core) begins.0,
      ap (λ l. handed_on x m ++ l) rest.1 ∙ append-nil (handed_on x m) ∙ p.1 ∙ ap (λ part. goes_out x part core) begins.0,
    )

begun_sent : (g : Group) (n : ℕ) (part : Part) {core : CoreState} {outcome : StepOutcome} (run : MoveTrace core outcome) → BeginsWith part run → PartWasSent g n core part → AllWasSent g n run
begun_sent g n part rests begins sent = tt
begun_sent g n part (goes_on {core = core} m run) begins sent = (move_sent g n m (subst (PartWasSent g n core) (sym begins.0) sent), bare_sent g n run begins.1)

-- and records what that does
abbrev recorded_part : List Command → CoreState → Part → List Command
recorded_part archive core Part.cut = recorded archive (replica_of core)
recorded_part archive core _ = archive

move_records : (archive : List Command) {core : CoreState} {outcome : StepOutcome} (m : NodeMove core outcome) → recorded_by archive m ≡ recorded_part archive core (part_in m)
move_records archive (hears (Receives message) is) = refl
move_records archive (hears (Proposes command) is) = refl
move_records archive (hears Ticks is) = refl
move_records archive (opens_one port) = refl
move_records archive (holds port piece) = refl
move_records archive (reads_first now port c connect rest at first is room) = refl
move_records archive (reads_later now port c packet rest at later is room) = refl
move_records archive (closes port) = refl
move_records archive (refuses port c code at first is) = refl
move_records archive (loses_one port c at proposed) = refl
move_records archive (loses_next c at) = refl
move_records archive (expels_one client) = refl
move_records archive (cuts_log can) = refl
move_records archive crashes = refl
move_records archive settles = refl
move_records archive (hands port) = refl

bare_records : (archive : List Command) {core : CoreState} {outcome : StepOutcome} (run : MoveTrace core outcome) → IsBare run → recorded_in archive run ≡ archive
bare_records archive rests bare = refl
bare_records archive (goes_on {core = core} m run) bare =
    bare_records (recorded_by archive m) run bare.1 ∙ move_records archive m ∙ ap (recorded_part archive core) bare.0.1

begun_records : (archive : List Command) (part : Part) {core : CoreState} {outcome : StepOutcome} (run : MoveTrace core outcome) → BeginsWith part run →
    recorded_in archive run ≡ recorded_part archive core part
begun_records archive part {core = core} rests begins = ap (recorded_part archive core) begins
begun_records archive part {core = core} (goes_on m run) begins =
    bare_records (recorded_by archive m) run begins.1 ∙ move_records archive m ∙ ap (recorded_part archive core) begins.0

node_call_records : (archive : List Command) (core : CoreState) (node_call : NodeCall) → recorded_part archive core (part_of node_call core) ≡ recorded_after archive core node_call
node_call_records archive core (takes (Peer message)) = refl
node_call_records archive core (takes (Tick now)) = refl
node_call_records archive core (takes (Opened port now)) = refl
node_call_records archive core (takes (Bytes port piece now)) = refl
node_call_records archive core (takes (Ended port)) = refl
node_call_records archive core (takes (Expel client)) = refl
node_call_records archive core (takes Cut) = by (can_cut (replica_of core))
  where
    by : (b : Bool) → recorded_part archive core (if b then Part.cut else Part.nothing) ≡ (if b then recorded archive (replica_of core) else archive)
    by true = refl
    by false = refl
node_call_records archive core (takes Crash) = refl
node_call_records archive core (hands_out port) = refl

-- ---- the laws

pub node_calls_carry_their_bytes : NodeCallsCarryTheirBytes
node_calls_carry_their_bytes g n node_call core sent =
    let r = node_calls_begin node_call core in
    record {
      run = r.0;
      first = begins_hearing (part_of node_call core) r.0 r.1;
      sent = begun_sent g n (part_of node_call core) r.0 r.1 (node_call_sent g n core node_call sent);
      bytes = λ x.
          let c = begun_carries x (part_of node_call core) r.0 r.1 in
          let d = node_call_parts x node_call core in
          (c.0 ∙ d.0, c.1 ∙ d.1);
      records = λ archive. begun_records archive (part_of node_call core) r.0 r.1 ∙ node_call_records archive core node_call;
    }

pub groups_do_each_node_call : GroupsDoEachNodeCall
groups_do_each_node_call g n node_call core at sent =
    let r = node_calls_carry_their_bytes g n node_call core sent in
    record {
      does = record {
        after = group_after_outcome (with_record g (recorded_in g.archive r.run)) n (done node_call core) (all_given r.run);
        step = node_acts n core node_call (done node_call core) r.run at refl r.first r.sent;
        is = refl;
        faithful = r.bytes;
      };
      given = all_given r.run;
      is = ap (λ archive. group_after_outcome (with_record g archive) n (done node_call core) (all_given r.run)) (r.records g.archive);
    }
