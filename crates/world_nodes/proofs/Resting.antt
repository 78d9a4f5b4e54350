-- What takes no memory is done exactly, and a message that a node ignores needs no copy.
use Rattle.std.proofs.Common.{◌≡◌, ◌⊎◌, inl, inr, ◌<◌, ◌^◌, ◌-◌, ◌↔◌, ℕ, zero, suc, Bool, true, false, ◌&&◌, if◌then◌else◌, List, [], length, Option, Some, None, refl, sym, ap, ◌∙◌, subst, arith}
use Rattle.std.specs.Prelude.{slice_get, get_or, IfSome}
use Rattle.std.specs.List.{find}
use Rattle.std.proofs.lemmas.Option.{same_Some, slice_get_within}
use Rattle.ballot_base.specs.declared.message.Body.{Body}
use Rattle.ballot_base.specs.declared.message.Body.TheVariants.{NewBallot, Join, State, Install, Installed, Activate, Activated, Superseded, Append, Held, Commit}
use Rattle.ballot_base.specs.declared.message.Effect.{Effect}
use Rattle.master.specs.Copies.{has_numbers_alone}
use Rattle.master.specs.Inside.{AcknowledgedIn, asks_for}
use Rattle.master.proofs.EarlierMembers.{NamesSome, names_some, quiet_does_nothing}
use Rattle.ballot_base.specs.Losses.{SendsAndAddsNothing, one_more}
use Rattle.ballot_base.specs.declared.message.Message.{Message}
use Rattle.ballot_base.specs.Protocol.{replica_step}
use Rattle.ballot_base.specs.Protocol.Input.{Receives}
use Rattle.ballot_base.specs.Replica.{ReplicaState}
use Rattle.ballot_base.specs.StepOutcome.{nothing_done}
use Rattle.lists.specs.Lists.{In}
use Rattle.lists.proofs.Members.{in_at}
use Rattle.broker_spec.specs.declared.command.Command.{Command}
use Rattle.broker_spec.specs.declared.command.Output.{Output}
use Rattle.broker_base.specs.State.{State as BrokerState}
use Rattle.world_base.specs.node_connections.Connections.{has_failed}
use Rattle.world_base.specs.declared.node_core.item.Item.{Item}
use Rattle.world_base.specs.declared.node_core.item.Item.TheVariants.{Peer}
use Rattle.world_base.specs.node_core.Core.{CoreState, CountedCore, rules}
use Rattle.world_base.specs.node_core.Losses.{DoesNothing, IsExactly, IsHeardQuietly, IsIgnored, ItemStepOrLost, ItemTakesNoMemory}
use Rattle.world_base.specs.node_core.LossyStep.{RunsOn}
use Rattle.world_base.specs.node_core.Step.{node_step}
use Rattle.world_base.proofs.of_node_core.Calmly.{says_nothing}
use Rattle.headline.specs.node_group.Group.{moment_of_nodes}
use Rattle.headline.specs.node_moves.Moves.NodeCall.{takes}
use Rattle.world_nodes.specs.Nodes.{NodesState}
use Rattle.world_nodes.specs.ExactSteps.{NodeDoesCall, MessageArrives, HeardByMaster, TakesExactly, after_node_call}
use Rattle.world_nodes.specs.RunningNodes.{running}
use Rattle.world_nodes.specs.Quiet.{ComesUnheeded, IsUnheeded, RestsAt}
use Rattle.world_nodes.specs.Steps.{DeliveryOrLost, NodeItemOrLost}
use Rattle.world_nodes.specs.GroupSteps.{GroupDeliveryOrLost}
use Rattle.world_nodes.specs.Inside.{HaveCounted, IsPassedOver, KeepsMessages, RunsAt, TookItem}
use Rattle.world_nodes.proofs.Acts.{after_turn_of, not_one_more, same_core, took_by, whole_turn}

-- ---- the turn of one node

both_true : (a b : Bool) → (a && b) ≡ true → (a ≡ true) × (b ≡ true)
both_true true true e = (refl, refl)
both_true true false e = absurd cc
both_true false b e = absurd cc

pub took_in : (old : CountedCore) (item : Item) (new : CountedCore) (effects : List (Effect Command Output)) (sent more : List (ℕ × Message Command)) (before after : ℕ) (kept whole : Bool)
    → ItemStepOrLost old item new [] effects → KeepsMessages effects sent more kept → before ≡ old.losses → after ≡ new.losses → (whole ≡ true → (after ≡ before) × (before < 2 ^ 64 - 1))
    → (after ≡ before → before < 2 ^ 64 - 1 → whole ≡ true) → TookItem old item new sent more (kept && whole)
took_in old item new effects sent more before after kept whole s k was is told so =
    record {
      wanted = effects;
      kept = k.kept;
      runs = subst (λ (l : List (Effect Command Output)). RunsOn item old.core new.core l) (sym s.appended) s.run;
      thinned = k.thinned;
      is = k.is;
      exact = λ e. by_steps (both_true kept whole e) s.steps;
      rests = λ takes none low.
          let did = s.uncounted takes none in
          let silent : effects ≡ [] = s.appended ∙ did.1 ∙ says_nothing item old.core takes none in
          let counted : after ≡ before = is ∙ did.2 ∙ sym was in
          rw (k.nothing silent) (so counted (subst (λ (n : ℕ). n < 2 ^ 64 - 1) (sym was) low));
    }
  where
    by_steps : (kept ≡ true) × (whole ≡ true) → IsExactly old (node_step item old.core) new s.given ⊎ (new.losses ≡ one_more old.losses)
        → (new ≡ record old { core = (node_step item old.core).core }) × (k.kept ≡ (node_step item old.core).messages)
    by_steps w (inl did) = (
      ap (λ (n : ℕ). let c : CountedCore = record { core = new.core; losses = n } in c) did.2
          ∙ ap (λ (k : CoreState). let c : CountedCore = record old { core = k } in c) did.0,
      k.exact w.0 ∙ s.appended ∙ did.1,
    )
    by_steps w (inr counted) =
        let u = told w.1 in
        absurd (not_one_more old.losses (subst (λ (n : ℕ). n < 2 ^ 64 - 1) was u.1) (sym counted ∙ sym is ∙ u.0 ∙ was))

-- ---- a node that rests

same_node : (nodes : List CountedCore) (node at : ℕ) (x : RunsAt nodes node at) (core : CountedCore) → running nodes node ≡ Some core → core ≡ x.core
same_node nodes node at x core runs = same_Some core x.core (sym runs ∙ x.runs)

pub turn_rests : (old : NodesState) (node at : ℕ) (x : RunsAt old.nodes node at) (new : CountedCore) (item : Item) (more : List (ℕ × Message Command)) (whole : Bool) (losses : ℕ)
    → TookItem x.core item new old.sent more whole → losses ≡ (if whole && true then old.losses else one_more old.losses) → RestsAt node item old
    → TakesExactly node item old (after_turn_of at new more losses old)
turn_rests old node at x new item more whole losses t count rests = by whole (t.rests
    (subst (λ (c : CountedCore). ItemTakesNoMemory item c.core) same rests.takes)
    (subst (λ (c : CountedCore). find has_failed c.core.connections ≡ None) same rests.none_failed)
    (subst (λ (c : CountedCore). c.losses < 2 ^ 64 - 1) same rests.low)) t count
  where
    same : rests.core ≡ x.core
    same = same_node old.nodes node at x rests.core rests.runs

    by : (w : Bool) → w ≡ true → TookItem x.core item new old.sent more w → losses ≡ (if w && true then old.losses else one_more old.losses)
        → TakesExactly node item old (after_turn_of at new more losses old)
    by false e took counted = absurd cc
    by true e took counted =
        record {
          core = x.core;
          runs = x.runs;
          is = ap (λ (k : ℕ). after_turn_of at new more k old) counted ∙ whole_turn old at x.core new item more took
              ∙ ap (λ (k : ℕ). after_node_call k x.core (takes item) old) x.index;
        }

-- ---- a message that is skipped

found_of : (P : ℕ × Message Command → Type 0) (o : Option (ℕ × Message Command)) (x : ℕ × Message Command) → o ≡ Some x → IfSome o P → P x
found_of P o x is holds = subst (λ (q : Option (ℕ × Message Command)). IfSome q P) is holds

pub number_below : (old : NodesState) (at number : ℕ) (p : IsPassedOver at number old) → number < length old.sent
number_below old at number p = slice_get_within old.sent number (p.node, p.message) p.sent

pub passed_over : (old : NodesState) (at number : ℕ) (p : IsPassedOver at number old) (z : CountedCore) → z ≡ get_or old.nodes at z
    → IfSome (slice_get old.sent number) (λ (found : ℕ × Message Command). DoesNothing (Peer found.1) z.core)
passed_over old at number p z is =
    subst (λ (o : Option (ℕ × Message Command)). IfSome o (λ (found : ℕ × Message Command). DoesNothing (Peer found.1) z.core)) (sym p.sent)
    (subst (λ (c : CountedCore). DoesNothing (Peer p.message) c.core) (sym (same_core old.nodes at p.runs.core z p.runs.stands is)) p.nothing)

pub passed_by : (old : NodesState) (at number : ℕ) (p : IsPassedOver at number old) (z new : CountedCore) (more : List (ℕ × Message Command)) (whole : Bool) → z ≡ get_or old.nodes at z
    → IfSome (slice_get old.sent number) (λ (found : ℕ × Message Command). TookItem z (Peer found.1) new old.sent more whole) → TookItem p.runs.core (Peer p.message) new old.sent more whole
passed_by old at number p z new more whole is took =
    took_by old.nodes at p.runs.core z (Peer p.message) new old.sent more whole p.runs.stands is
    (found_of (λ (found : ℕ × Message Command). TookItem z (Peer found.1) new old.sent more whole) (slice_get old.sent number) (p.node, p.message) p.sent took)

pub was_sent : (old : NodesState) (at number : ℕ) (p : IsPassedOver at number old) → In (p.node, p.message) old.sent
was_sent old at number p = in_at old.sent number (p.node, p.message) p.sent

-- what is said about the message that a node passes over
positive_node : (P : ℕ → Type 0) (node : ℕ) → 0 < node → ((at : ℕ) → P (suc at)) → P node
positive_node P zero few holds = absurd (omega (arith, few))
positive_node P (suc at) few holds = holds at

pub passes : (at number : ℕ) (old new : NodesState) (p : IsPassedOver at number old) → NodeItemOrLost p.node (Peer p.message) old new → DeliveryOrLost (slice_get old.sent number) old new
passes at number old new p took =
    subst (λ (o : Option (ℕ × Message Command)). DeliveryOrLost o old new) (sym p.sent)
    (positive_node (λ (n : ℕ). NodeItemOrLost n (Peer p.message) old new → DeliveryOrLost (Some (n, p.message)) old new) p.node p.runs.positive (λ k t. inl t) took)

pub passes_exactly : (at number : ℕ) (old new : NodesState) (p : IsPassedOver at number old) → TakesExactly p.node (Peer p.message) old new → MessageArrives (slice_get old.sent number) old new
passes_exactly at number old new p took =
    subst (λ (o : Option (ℕ × Message Command)). MessageArrives o old new) (sym p.sent)
    (positive_node (λ (n : ℕ). TakesExactly n (Peer p.message) old new → MessageArrives (Some (n, p.message)) old new) p.node p.runs.positive (λ k t. t) took)

pub passes_acting : (at number : ℕ) (old new : NodesState) (p : IsPassedOver at number old) → NodeDoesCall (p.node - 1) (takes (Peer p.message)) old new
    → GroupDeliveryOrLost (slice_get old.sent number) old new
passes_acting at number old new p acts =
    subst (λ (o : Option (ℕ × Message Command)). GroupDeliveryOrLost o old new) (sym p.sent)
    (positive_node (λ (n : ℕ). NodeDoesCall (n - 1) (takes (Peer p.message)) old new → GroupDeliveryOrLost (Some (n, p.message)) old new) p.node p.runs.positive
    (λ k a. inl (subst (λ (i : ℕ). NodeDoesCall i (takes (Peer p.message)) old new) (let e : suc k - 1 ≡ k = omega arith in e) a)) acts)

pub passes_at_rest : (at number : ℕ) (old : NodesState) (p : IsPassedOver at number old) → ComesUnheeded (slice_get old.sent number) old → RestsAt p.node (Peer p.message) old
passes_at_rest at number old p rests =
    positive_node (λ (n : ℕ). ComesUnheeded (Some (n, p.message)) old → RestsAt n (Peer p.message) old) p.node p.runs.positive (λ k r. r)
    (subst (λ (o : Option (ℕ × Message Command)). ComesUnheeded o old) p.sent rests)

-- what a node does with a message that has more than numbers, if it does it quietly, is nothing
more_ignored : (message : Message Command) (core : CoreState) → has_numbers_alone message.body ≡ false → NamesSome message.body → IsHeardQuietly message core →
    IsIgnored (Receives message) core
more_ignored message core more names quiet = by core.replica.state.stopped quiet
  where
    r : ReplicaState BrokerState Command
    r = core.replica.state

    by : (b : Bool) → SendsAndAddsNothing r (if b then nothing_done Output r else replica_step rules r (Receives message)) →
        (if b then nothing_done Output r else replica_step rules r (Receives message)) ≡ nothing_done Output r
    by true q = refl
    by false q = quiet_does_nothing rules r message.from message.body more names q

does_nothing : (message : Message Command) (core : CoreState) → has_numbers_alone message.body ≡ false → NamesSome message.body →
    ItemTakesNoMemory (Peer message) core → DoesNothing (Peer message) core
does_nothing message core more names free = (by free.0, free.1)
  where
    by : IsIgnored (Receives message) core ⊎ IsHeardQuietly message core → IsIgnored (Receives message) core
    by (inl ignored) = ignored
    by (inr quiet) = more_ignored message core more names quiet

-- the messages of nodes were sent in a group
pub names_sent : (n : NodesState) (told next : AcknowledgedIn) → HaveCounted n told next → (number : ℕ) (found : ℕ × Message Command) → slice_get n.sent number ≡ Some found →
    NamesSome found.1.body
names_sent n told next c number found there =
    names_some rules c.counts.config (moment_of_nodes c.group) c.counts.moments c.counts.came found.0 found.1
    (subst (λ (sent : List (ℕ × Message Command)). In {X = ℕ × Message Command} (found.0, found.1) sent) (sym c.stands.sent) (in_at n.sent number found there))

-- a message that has an effect on a node takes memory, or has only numbers
pub heeded_takes : {X : Type 0} (old : NodesState) (number receiver at : ℕ) (found : ℕ × Message Command) (core : CountedCore) (heeds : Bool) → slice_get old.sent number ≡ Some found
    → receiver ≡ found.0 → (receiver ≡ 0 → ⊥) → (x : RunsAt old.nodes receiver at) → core ≡ x.core → heeds ≡ true → (heeds ≡ false) ↔ DoesNothing (Peer found.1) core.core
    → has_numbers_alone found.1.body ≡ false → NamesSome found.1.body → ComesUnheeded (slice_get old.sent number) old → X
heeded_takes old number receiver at (zero, message) core heeds there is positive x same heeded decides more names rests = absurd (positive is)
heeded_takes old number receiver at (suc k, message) core heeds there is positive x same heeded decides more names rests =
    let r : RestsAt (suc k) (Peer message) old = subst (λ (o : Option (ℕ × Message Command)). ComesUnheeded o old) there rests in
    let one : r.core ≡ core = same_node old.nodes receiver at x r.core (subst (λ (n : ℕ). running old.nodes n ≡ Some r.core) (sym is) r.runs) ∙ sym same in
    let unheeded : heeds ≡ false = decides.1 (subst (λ (c : CountedCore). DoesNothing (Peer message) c.core) one (does_nothing message r.core.core more names r.takes)) in
    absurd (let e : true ≡ false = sym heeded ∙ unheeded in cc)

pub is_passed : (old : NodesState) (number at : ℕ) (found : ℕ × Message Command) (z : CountedCore) (heeds : Bool) → slice_get old.sent number ≡ Some found → (x : RunsAt old.nodes found.0 at)
    → z ≡ get_or old.nodes at z → heeds ≡ false → (heeds ≡ false) ↔ DoesNothing (Peer found.1) z.core → IsPassedOver at number old
is_passed old number at (node, message) z heeds there x is unheeded decides =
    record {
      node = node;
      message = message;
      sent = there;
      runs = x;
      nothing = subst (λ (c : CountedCore). DoesNothing (Peer message) c.core) (same_core old.nodes at x.core z x.stands is) (decides.0 unheeded);
    }

-- what has an effect on the master is an Activate
heeds_activate : (ballot : ℕ) (body : Body Command) → asks_for body ≡ Some ballot → IsUnheeded body → ⊥
heeds_activate ballot (NewBallot b members a old) asks none = cc
heeds_activate ballot (Join b a) asks none = cc
heeds_activate ballot (State b log) asks none = cc
heeds_activate ballot (Install b log) asks none = cc
heeds_activate ballot (Installed b held) asks none = cc
heeds_activate ballot (Activate b) asks none = none
heeds_activate ballot (Activated b) asks none = cc
heeds_activate ballot (Superseded b) asks none = cc
heeds_activate ballot (Append b place command) asks none = cc
heeds_activate ballot (Held b held) asks none = cc
heeds_activate ballot (Commit b held) asks none = cc

pub asked_takes : {X : Type 0} (old : NodesState) (number ballot : ℕ) (found : ℕ × Message Command) → slice_get old.sent number ≡ Some found → found.0 ≡ 0 → asks_for found.1.body ≡ Some ballot
    → ComesUnheeded (slice_get old.sent number) old → X
asked_takes old number ballot (zero, message) there is asks rests =
    absurd (heeds_activate ballot message.body asks (subst (λ (o : Option (ℕ × Message Command)). ComesUnheeded o old) there rests))
asked_takes old number ballot (suc k, message) there is asks rests = cc

not_asked : (from : ℕ) (body : Body Command) (old : NodesState) → asks_for body ≡ None → HeardByMaster from body old old
not_asked from (Activate b) old none = cc
not_asked from body old none = refl

pub unasked : (old : NodesState) (number : ℕ) (found : ℕ × Message Command) → slice_get old.sent number ≡ Some found → found.0 ≡ 0 → asks_for found.1.body ≡ None
    → MessageArrives (slice_get old.sent number) old old
unasked old number (zero, message) there is asks =
    subst (λ (o : Option (ℕ × Message Command)). MessageArrives o old old) (sym there) (not_asked message.from message.body old asks)
unasked old number (suc k, message) there is asks = cc

-- one that has only numbers is copied
pub copied_or : {X : Type 0} (numbers : Bool) → (numbers ≡ true → ⊥) → (numbers ≡ false → X) → X
copied_or true never more = absurd (never refl)
copied_or false never more = more refl
