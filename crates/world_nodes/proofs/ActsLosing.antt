-- What a node does in a step with losses, too, is what a group that corresponds to the nodes may
-- do.
use Rattle.std.proofs.Common.{◌≡◌, ◌-◌, ℕ, Bool, false, List, ◌++◌, Some, refl, sym, ap, ◌∙◌, subst}
use Rattle.std.specs.Prelude.{slice_get, slice_set}
use Rattle.ballot_base.specs.declared.message.Message.{Message}
use Rattle.agreement.specs.cut_logs.World.{messages}
use Rattle.broker_spec.specs.declared.command.Command.{Command}
use Rattle.world_base.specs.declared.node_core.item.Item.{Item}
use Rattle.world_base.specs.declared.node_core.item.Item.TheVariants.{Peer, Tick, Opened, Bytes, Ended, Expel, Cut, Crash}
use Rattle.world_base.specs.node_core.Core.{CoreState, CountedCore, StepOutcome}
use Rattle.headline.specs.node_moves.ItemRuns.{IsRunOn, heard_with, is_cut}
use Rattle.headline.specs.node_moves.Moves.NodeCall.{takes}
use Rattle.headline.proofs.of_node_moves.LossesAreMoves.{losses_are_moves}
use Rattle.headline.specs.node_group.Group.{Group, group_after_outcome, with_record}
use Rattle.headline.specs.node_group.Steps.{with_messages}
use Rattle.headline.specs.node_group.Steps.GroupStep.{node_loses}
use Rattle.headline.specs.node_group.Losses.{WereSent, all_given, recorded_in}
use Rattle.headline.specs.byte_world.NodeCalls.{NodeCallWasSent}
use Rattle.headline.proofs.of_node_group.Placed.{get_mapped, set_mapped}
use Rattle.headline.proofs.of_node_group.Recorded.{records_none, records_to}
use Rattle.world_nodes.specs.Nodes.{NodesState, NodesStandFor}
use Rattle.world_nodes.specs.ExactSteps.{NodeDoesCall}
use Rattle.world_nodes.specs.Inside.{RunsAt, TookItem, ItemWasSent}
use Rattle.world_nodes.specs.Steps.{recorded_if_cut}
use Rattle.world_nodes.proofs.Acts.{after_turn_of, after_turn_with, core_in, node_call_sent}

-- ---- any item

abbrev turn_of : {core new : CountedCore} {item : Item} {sent more : List (ℕ × Message Command)} {whole : Bool} → TookItem core item new sent more whole → StepOutcome
turn_of {new = new} t = record { core = new.core; messages = t.wanted }

abbrev run_of : {core new : CountedCore} {item : Item} {sent more : List (ℕ × Message Command)} {whole : Bool} → (t : TookItem core item new sent more whole) → IsRunOn item core.core (turn_of t)
run_of {core = core} {new = new} {item = item} t = losses_are_moves item core.core new.core t.wanted t.runs

-- a node that took an item in, whether memory sufficed or not; the record has what the moves of its step add
loses_so : (old : NodesState) (at : ℕ) (core new : CountedCore) (item : Item) (more : List (ℕ × Message Command)) (archive : List Command) (whole : Bool) (losses : ℕ)
    → slice_get old.nodes at ≡ Some core → (t : TookItem core item new old.sent more whole) → ((g : Group) → NodesStandFor g old → WereSent g at (heard_with item))
    → recorded_in old.archive (run_of t).run ≡ archive → NodeDoesCall at (takes item) old (after_turn_with at new more archive losses old)
loses_so old at core new item more archive whole losses there t sent records g s =
    let by = run_of t in
    let found : slice_get g.nodes at ≡ Some core.core = ap (λ (l : List CoreState). slice_get l at) s.nodes ∙ get_mapped core_in old.nodes at core there in
    record {
      does = record {
        after = group_after_outcome (with_record g (recorded_in g.archive by.run)) at (with_messages t.kept (turn_of t)) (all_given by.run);
        step = node_loses at core.core item (turn_of t) t.kept by found t.runs (sent g s) t.thinned;
        is = refl;
        faithful = tt;
      };
      stands = record {
        master = s.master;
        nodes = ap (λ (l : List CoreState). slice_set l at new.core) s.nodes ∙ sym (set_mapped core_in old.nodes at new);
        sent = ap (λ (l : List (ℕ × Message Command)). l ++ messages t.kept) s.sent ∙ sym t.is;
        archive = ap (λ (l : List Command). recorded_in l by.run) s.archive ∙ records;
      };
    }

-- ---- an item that is no cut

were_sent : (g : Group) (at : ℕ) (core : CoreState) (item : Item) → NodeCallWasSent g at core (takes item) → WereSent g at (heard_with item)
were_sent g at core (Peer message) sent = (sent, tt)
were_sent g at core (Tick now) sent = (tt, tt)
were_sent g at core (Opened port now) sent = tt
were_sent g at core (Bytes port piece now) sent = tt
were_sent g at core (Ended port) sent = tt
were_sent g at core (Expel client) sent = tt
were_sent g at core Cut sent = tt
were_sent g at core Crash sent = tt

no_cut : (node : ℕ) (item : Item) (sent : List (ℕ × Message Command)) → ItemWasSent node item sent → is_cut item ≡ false
no_cut node (Peer message) sent was = refl
no_cut node (Tick now) sent was = refl
no_cut node (Opened port now) sent was = refl
no_cut node (Bytes port piece now) sent was = refl
no_cut node (Ended port) sent was = refl
no_cut node (Expel client) sent was = refl
no_cut node Cut sent was = absurd was
no_cut node Crash sent was = refl

pub turn_loses : (old : NodesState) (node at : ℕ) (x : RunsAt old.nodes node at) (new : CountedCore) (item : Item) (more : List (ℕ × Message Command)) (whole : Bool) (losses : ℕ)
    → TookItem x.core item new old.sent more whole → ItemWasSent node item old.sent → NodeDoesCall (node - 1) (takes item) old (after_turn_of at new more losses old)
turn_loses old node at x new item more whole losses t sent =
    let by = run_of t in
    subst (λ (k : ℕ). NodeDoesCall k (takes item) old (after_turn_of at new more losses old)) x.index
    (loses_so old at x.core new item more old.archive whole losses x.stands t
    (λ g s. were_sent g at x.core.core item (node_call_sent old node at x.core.core item x.index x.positive sent g s))
    (records_none old.archive by.run (by.cuts (no_cut node item old.sent sent))))

-- ---- a cut

pub cut_loses : (old : NodesState) (at : ℕ) (core new : CountedCore) (more : List (ℕ × Message Command)) (archive : List Command) (whole : Bool) (losses : ℕ)
    → slice_get old.nodes at ≡ Some core → TookItem core Cut new old.sent more whole → archive ≡ recorded_if_cut old.archive core new
    → NodeDoesCall at (takes Cut) old (after_turn_with at new more archive losses old)
cut_loses old at core new more archive whole losses there t is =
    let by = run_of t in
    loses_so old at core new Cut more archive whole losses there t (λ g s. tt) (records_to old.archive by.run by.first by.hears ∙ sym is)
