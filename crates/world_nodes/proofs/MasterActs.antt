-- What the master does is what it may do in a group that corresponds to the nodes; and messages
-- that come to it.
use Rattle.std.proofs.Common.{◌≡◌, ◌⊎◌, inl, inr, ◌+◌, ◌-◌, ℕ, zero, suc, Bool, true, false, ◌&&◌, if◌then◌else◌, List, [], ◌∷◌, ◌++◌, Option, Some, None, refl, sym, ap, ◌∙◌, subst, arith}
use Rattle.std.specs.Prelude.{slice_get, OnOk, Result, Ok, Err}
use Rattle.std.specs.Bool.{OnTrue, OnFalse}
use Rattle.lists.specs.Lists.{In}
use Rattle.lists.proofs.Members.{in_at}
use Rattle.ballot_base.specs.declared.message.Body.{Body}
use Rattle.ballot_base.specs.declared.message.Body.TheVariants.{NewBallot, Join, State, Install, Installed, Activate, Activated, Superseded, Append, Held, Commit}
use Rattle.ballot_base.specs.declared.config.Config.{Config}
use Rattle.ballot_base.specs.Losses.{one_more}
use Rattle.ballot_base.specs.declared.message.Message.{Message}
use Rattle.agreement.specs.MasterState.{AssignRefusal, MasterState, activating, assigning, is_granted, master_after, refusal}
use Rattle.agreement.specs.cut_logs.Masters.{activated, assigned}
use Rattle.broker_spec.specs.declared.command.Command.{Command}
use Rattle.world_base.specs.declared.node_core.item.Item.TheVariants.{Peer}
use Rattle.headline.specs.node_moves.Moves.NodeCall.{takes}
use Rattle.headline.specs.node_group.Group.{Group, told_by_master, with_master}
use Rattle.headline.specs.node_group.Steps.{GroupStep, after_assign}
use Rattle.headline.specs.node_group.Steps.GroupStep.{master_assigns, master_hears, assigns_unheard, answers_unheard}
use Rattle.headline.specs.byte_world.Steps.{DoesCall, IsFaithful, node_call_of}
use Rattle.world_nodes.specs.Nodes.{NodesState, NodesStandFor}
use Rattle.world_nodes.specs.ExactSteps.{NodeDoesCall, MessageArrives, GoesBy, HeardByMaster, after_answer, after_giving}
use Rattle.world_nodes.specs.Steps.{DeliveryOrLost, MasterAnswerOrLost, NewBallotOrLost, NodeItemOrLost, NodesLoseNothing, nodes_with_loss, unheard}
use Rattle.world_nodes.specs.GroupSteps.{GroupDeliveryOrLost, MasterGoes, MasterHears, NodeCallOrLost}
use Rattle.master.specs.Inside.{asks_for}
use Rattle.master.specs.declared.event.Idle.{Idle}
use Rattle.world_nodes.proofs.Acts.{not_one_more}
use Rattle.world_nodes.proofs.Exactly.{exactly}

abbrev Sent : Type 0
Sent = List (ℕ × Message Command)

-- ---- steps of only the master

-- a group after an Assign that is not refused, and after an Activate of a node
abbrev pub group_giving : Config → Group → Group
group_giving config g =
    let o = assigned Command g.master config in with_master (told_by_master g o) o.state

abbrev pub group_answer : ℕ → ℕ → Group → Group
group_answer from ballot g =
    let o = activated Command g.master ballot from g.master.waiting in with_master (told_by_master g o) o.state

-- each group that corresponds to the nodes before continues so, and then corresponds to the nodes
-- after
abbrev pub MasterActs : (Group → Group) → NodesState → NodesState → Type 0
MasterActs next old new = (g : Group) → NodesStandFor g old → (goes : GoesBy None g new) × (goes.does.after ≡ next g)

record ByMaster (g h : Group) : Type 0 where
  pub step : GroupStep g h
  pub is : node_call_of step ≡ None
  pub faithful : IsFaithful step

does_by : {g h : Group} → ByMaster g h → DoesCall g None
does_by {h = h} b = record { after = h; step = b.step; is = b.is; faithful = b.faithful }

assigns_by : (g : Group) (config : Config) → refusal g.master config ≡ None → ByMaster g (group_giving config g)
assigns_by g config e =
    subst (λ (r : Option AssignRefusal). ByMaster g (with_master (after_assign g config r) (master_after g.master config r))) e
    (record { step = master_assigns config; is = refl; faithful = tt })

hears_by : (g : Group) (from ballot : ℕ) → In (0, record { from = from; body = Activate ballot }) g.sent → ByMaster g (group_answer from ballot g)
hears_by g from ballot sent = record { step = master_hears from ballot sent; is = refl; faithful = tt }

-- the nodes with another master, and a message of it
abbrev pub told_to : MasterState → ℕ → Body Command → NodesState → NodesState
told_to m receiver body old = record old { master = m; sent = old.sent ++ (receiver, record { from = 0; body = body }) ∷ [] }

pub gives_exactly : (old : NodesState) (config : Config) → refusal old.master config ≡ None
    → MasterActs (group_giving config) old
    (told_to (assigning old.master config) config.primary (NewBallot (old.master.given + 1) config.members old.master.active old.master.members) old)
unfolding does_by
gives_exactly old config none g s = (
  record {
    does = does_by (assigns_by g config (ap (λ (m : MasterState). refusal m config) s.master ∙ none));
    stands = record {
      master = ap (λ (m : MasterState). assigning m config) s.master;
      nodes = s.nodes;
      archive = s.archive;
      sent = ap (λ (l : Sent). l ++ (config.primary, message g.master) ∷ []) s.sent
          ∙ ap (λ (m : MasterState). old.sent ++ (config.primary, message m) ∷ []) s.master;
    };
  },
  refl,
)
  where
    message : MasterState → Message Command
    message m = record { from = 0; body = NewBallot (m.given + 1) config.members m.active m.members }

pub answers_exactly : (old : NodesState) (from ballot : ℕ) → In (0, record { from = from; body = Activate ballot }) old.sent
    → MasterActs (group_answer from ballot) old
    (told_to (activating old.master ballot old.master.waiting) from
    (if is_granted old.master ballot old.master.waiting then Activated ballot else Superseded ballot) old)
unfolding does_by
answers_exactly old from ballot sent g s = (
  record {
    does = does_by (hears_by g from ballot (subst (λ (l : Sent). In (0, record { from = from; body = Activate ballot }) l) (sym s.sent) sent));
    stands = record {
      master = ap (λ (m : MasterState). activating m ballot m.waiting) s.master;
      nodes = s.nodes;
      archive = s.archive;
      sent = ap (λ (l : Sent). l ++ (from, message g.master) ∷ []) s.sent
          ∙ ap (λ (m : MasterState). old.sent ++ (from, message m) ∷ []) s.master;
    };
  },
  refl,
)
  where
    message : MasterState → Message Command
    message m = record { from = 0; body = if is_granted m ballot m.waiting then Activated ballot else Superseded ballot }

-- ---- when memory may run out

abbrev pub master_turn : MasterState → Sent → ℕ → NodesState → NodesState
master_turn m more losses old = record old { master = m; sent = more; losses = losses }

-- the message was kept, or the step is counted
told_or_counted : (old : NodesState) (m state : MasterState) (receiver : ℕ) (body is : Body Command) (more : Sent) (told : Bool) (losses : ℕ) → state ≡ m → body ≡ is
    → OnTrue told (more ≡ old.sent ++ (receiver, record { from = 0; body = body }) ∷ []) → OnFalse told (more ≡ old.sent)
    → losses ≡ (if told && true then old.losses else one_more old.losses)
    → (master_turn state more losses old ≡ told_to m receiver is old) ⊎ (master_turn state more losses old ≡ unheard (told_to m receiver is old) old)
told_or_counted old m state receiver body is more true losses same_state same_body kept lost count =
    inl (
    ap (λ (k : ℕ). master_turn state more k old) count
    ∙ ap (λ (l : Sent). master_turn state l old.losses old) kept
    ∙ ap (λ (b : Body Command). master_turn state (old.sent ++ (receiver, record { from = 0; body = b }) ∷ []) old.losses old) same_body
    ∙ ap (λ (x : MasterState). told_to x receiver is old) same_state
    )
told_or_counted old m state receiver body is more false losses same_state same_body kept lost count =
    inr (
    ap (λ (k : ℕ). master_turn state more k old) count
    ∙ ap (λ (l : Sent). master_turn state l (one_more old.losses) old) lost
    ∙ ap (λ (x : MasterState). master_turn x old.sent (one_more old.losses) old) same_state
    )

pub gives_ballot : (old : NodesState) (config : Config) (state : MasterState) (body : Body Command) (more : Sent) (told : Bool) (losses : ℕ)
    → state ≡ assigning old.master config → body ≡ NewBallot (old.master.given + 1) config.members old.master.active old.master.members
    → OnTrue told (more ≡ old.sent ++ (config.primary, record { from = 0; body = body }) ∷ []) → OnFalse told (more ≡ old.sent)
    → losses ≡ (if told && true then old.losses else one_more old.losses) → NewBallotOrLost config old (master_turn state more losses old)
gives_ballot old config state body more told losses state_is body_is kept lost count =
    by (told_or_counted old _ state config.primary body _ more told losses state_is body_is kept lost count)
  where
    by : (master_turn state more losses old ≡ after_giving config old) ⊎ (master_turn state more losses old ≡ unheard (after_giving config old) old)
        → NewBallotOrLost config old (master_turn state more losses old)
    by (inl is) = inl is
    by (inr is) = inr (inl is)

pub answers_ballot : (old : NodesState) (from ballot : ℕ) (state : MasterState) (body : Body Command) (more : Sent) (told : Bool) (losses : ℕ)
    → state ≡ activating old.master ballot old.master.waiting
    → body ≡ (if is_granted old.master ballot old.master.waiting then Activated ballot else Superseded ballot)
    → OnTrue told (more ≡ old.sent ++ (from, record { from = 0; body = body }) ∷ []) → OnFalse told (more ≡ old.sent)
    → losses ≡ (if told && true then old.losses else one_more old.losses) → MasterAnswerOrLost from (Activate ballot) old (master_turn state more losses old)
answers_ballot old from ballot state body more told losses state_is body_is kept lost count =
    told_or_counted old _ state from body _ more told losses state_is body_is kept lost count

-- what is counted is counted
pub counts : (n old new : NodesState) → n.losses ≡ one_more old.losses → new ≡ n → NodesLoseNothing old new → ⊥
counts n old new more is none = not_one_more old.losses none.1 (sym more ∙ sym (ap (λ (n : NodesState). n.losses) is) ∙ none.0)

pub gives_where : (config : Config) (old new : NodesState) → NewBallotOrLost config old new → NodesLoseNothing old new → new ≡ after_giving config old
gives_where config old new (inl is) none = is
gives_where config old new (inr (inl is)) none = absurd (counts (unheard (after_giving config old) old) old new refl is none)
gives_where config old new (inr (inr is)) none = absurd (counts (nodes_with_loss old) old new refl is none)

pub answers_where : (from ballot : ℕ) (old new : NodesState) → MasterAnswerOrLost from (Activate ballot) old new → NodesLoseNothing old new → new ≡ after_answer from ballot old
answers_where from ballot old new (inl is) none = is
answers_where from ballot old new (inr is) none = absurd (counts (unheard (after_answer from ballot old) old) old new refl is none)

-- ---- even if memory runs out

-- the ballot is given, and sent to its primary or not
gives_unheard : (g : Group) (config : Config) → refusal g.master config ≡ None → ByMaster g (with_master g (assigning g.master config))
gives_unheard g config e =
    subst (λ (r : Option AssignRefusal). ByMaster g (with_master g (master_after g.master config r))) e (record { step = assigns_unheard config; is = refl; faithful = tt })

answers_lost : (g : Group) (from ballot : ℕ) → In (0, record { from = from; body = Activate ballot }) g.sent
    → ByMaster g (with_master g (activating g.master ballot g.master.waiting))
answers_lost g from ballot sent = record { step = answers_unheard from ballot sent; is = refl; faithful = tt }

pub gives_or_loses : (old : NodesState) (config : Config) (state : MasterState) (body : Body Command) (more : Sent) (told : Bool) (losses : ℕ)
    → refusal old.master config ≡ None → state ≡ assigning old.master config
    → body ≡ NewBallot (old.master.given + 1) config.members old.master.active old.master.members
    → OnTrue told (more ≡ old.sent ++ (config.primary, record { from = 0; body = body }) ∷ []) → OnFalse told (more ≡ old.sent)
    → MasterGoes old (master_turn state more losses old)
unfolding does_by
gives_or_loses old config state body more true losses none state_is body_is kept lost g s =
    let z = (gives_exactly old config none g s).0 in
    record {
      does = z.does;
      stands = record {
        master = z.stands.master ∙ sym state_is;
        nodes = z.stands.nodes;
        archive = z.stands.archive;
        sent = z.stands.sent ∙ sym (kept ∙ ap (λ (b : Body Command). old.sent ++ (config.primary, record { from = 0; body = b }) ∷ []) body_is);
      };
    }
gives_or_loses old config state body more false losses none state_is body_is kept lost g s =
    record {
      does = does_by (gives_unheard g config (ap (λ (m : MasterState). refusal m config) s.master ∙ none));
      stands = record { master = ap (λ (m : MasterState). assigning m config) s.master ∙ sym state_is; nodes = s.nodes; archive = s.archive; sent = s.sent ∙ sym lost };
    }

pub answers_or_loses : (old : NodesState) (from ballot : ℕ) (state : MasterState) (body : Body Command) (more : Sent) (told : Bool) (losses : ℕ)
    → In (0, record { from = from; body = Activate ballot }) old.sent → state ≡ activating old.master ballot old.master.waiting
    → body ≡ (if is_granted old.master ballot old.master.waiting then Activated ballot else Superseded ballot)
    → OnTrue told (more ≡ old.sent ++ (from, record { from = 0; body = body }) ∷ []) → OnFalse told (more ≡ old.sent)
    → MasterGoes old (master_turn state more losses old)
unfolding does_by
answers_or_loses old from ballot state body more true losses sent state_is body_is kept lost g s =
    let z = (answers_exactly old from ballot sent g s).0 in
    record {
      does = z.does;
      stands = record {
        master = z.stands.master ∙ sym state_is;
        nodes = z.stands.nodes;
        archive = z.stands.archive;
        sent = z.stands.sent ∙ sym (kept ∙ ap (λ (b : Body Command). old.sent ++ (from, record { from = 0; body = b }) ∷ []) body_is);
      };
    }
answers_or_loses old from ballot state body more false losses sent state_is body_is kept lost g s =
    record {
      does = does_by (answers_lost g from ballot (subst (λ (l : Sent). In (0, record { from = from; body = Activate ballot }) l) (sym s.sent) sent));
      stands = record {
        master = ap (λ (m : MasterState). activating m ballot m.waiting) s.master ∙ sym state_is;
        nodes = s.nodes;
        archive = s.archive;
        sent = s.sent ∙ sym lost;
      };
    }

-- ---- messages that come to the master

asks_ballot : (ballot : ℕ) (body : Body Command) → asks_for body ≡ Some ballot → body ≡ Activate ballot
asks_ballot ballot (NewBallot b members a old) e = cc
asks_ballot ballot (Join b a) e = cc
asks_ballot ballot (State b log) e = cc
asks_ballot ballot (Install b log) e = cc
asks_ballot ballot (Installed b held) e = cc
asks_ballot ballot (Activate b) e = let same : b ≡ ballot = cc in ap Activate same
asks_ballot ballot (Activated b) e = cc
asks_ballot ballot (Superseded b) e = cc
asks_ballot ballot (Append b place command) e = cc
asks_ballot ballot (Held b held) e = cc
asks_ballot ballot (Commit b held) e = cc

-- the message that asks for a ballot was sent
pub asked_in : (sent : Sent) (number ballot : ℕ) (x : ℕ × Message Command) → slice_get sent number ≡ Some x → x.0 ≡ 0 → asks_for x.1.body ≡ Some ballot
    → In (0, record { from = x.1.from; body = Activate ballot }) sent
asked_in sent number ballot x found zero_is asks =
    in_at sent number (0, record { from = x.1.from; body = Activate ballot })
    (found ∙ ap (λ (k : ℕ). let y : ℕ × Message Command = (k, x.1) in Some y) zero_is
    ∙ ap (λ (b : Body Command). let m : Message Command = record { from = x.1.from; body = b } in let y : ℕ × Message Command = (0, m) in Some y) (asks_ballot ballot x.1.body asks))

-- a message of a number that came to the master
pub heard_ballot : (from ballot : ℕ) (body : Body Command) (old new : NodesState) → asks_for body ≡ Some ballot → MasterAnswerOrLost from (Activate ballot) old new
    → MasterAnswerOrLost from body old new
heard_ballot from ballot body old new asks hears = subst (λ (b : Body Command). MasterAnswerOrLost from b old new) (sym (asks_ballot ballot body asks)) hears

pub not_heard : (from : ℕ) (body : Body Command) (old new : NodesState) → asks_for body ≡ None → new ≡ old → MasterAnswerOrLost from body old new
not_heard from (Activate b) old new e same = cc
not_heard from body old new e same = same

heard_exactly : (from : ℕ) (body : Body Command) (old new : NodesState) → MasterAnswerOrLost from body old new → NodesLoseNothing old new → HeardByMaster from body old new
heard_exactly from (Activate b) old new hears none = answers_where from b old new hears none
heard_exactly from body old new same none = same

pub heard_or_lost : (ballot : ℕ) (body : Body Command) (old new : NodesState) → asks_for body ≡ Some ballot → MasterGoes old new → MasterHears body old new
heard_or_lost ballot body old new asks acts = subst (λ (b : Body Command). MasterHears b old new) (sym (asks_ballot ballot body asks)) acts

pub not_heeded : (body : Body Command) (old new : NodesState) → asks_for body ≡ None → new ≡ old → MasterHears body old new
not_heeded (Activate b) old new e same = cc
not_heeded body old new e same = same

pub delivered_or_lost : (o : Option (ℕ × Message Command)) (x : ℕ × Message Command) (old new : NodesState) → o ≡ Some x → x.0 ≡ 0 → MasterHears x.1.body old new
    → GroupDeliveryOrLost o old new
delivered_or_lost o x old new found zero_is heard =
    subst (λ (q : Option (ℕ × Message Command)). GroupDeliveryOrLost q old new)
    (sym (found ∙ ap (λ (k : ℕ). let y : ℕ × Message Command = (k, x.1) in Some y) zero_is)) heard

-- .. or to a node
pub comes_to_node : (o : Option (ℕ × Message Command)) (x : ℕ × Message Command) (m : Message Command) (old new : NodesState) → o ≡ Some x → (x.0 ≡ 0 → ⊥) → m ≡ x.1
    → NodeCallOrLost (x.0 - 1) (takes (Peer m)) old new → GroupDeliveryOrLost o old new
comes_to_node o (zero, message) m old new found positive same acts = absurd (positive refl)
comes_to_node o (suc at, message) m old new found positive same acts =
    subst (λ (q : Option (ℕ × Message Command)). GroupDeliveryOrLost q old new) (sym found)
    (subst (λ (k : ℕ). NodeCallOrLost k (takes (Peer message)) old new) (let e : suc at - 1 ≡ at = omega arith in e)
    (subst (λ (z : Message Command). NodeCallOrLost (suc at - 1) (takes (Peer z)) old new) same acts))

-- ---- the same, exactly or with losses that are counted

pub came_to_master : (o : Option (ℕ × Message Command)) (x : ℕ × Message Command) (old new : NodesState) → o ≡ Some x → x.0 ≡ 0
    → MasterAnswerOrLost x.1.from x.1.body old new → DeliveryOrLost o old new
came_to_master o x old new found zero_is heard =
    subst (λ (q : Option (ℕ × Message Command)). DeliveryOrLost q old new)
    (sym (found ∙ ap (λ (k : ℕ). let y : ℕ × Message Command = (k, x.1) in Some y) zero_is)) heard

pub came_to_node : (o : Option (ℕ × Message Command)) (x : ℕ × Message Command) (m : Message Command) (old new : NodesState) → o ≡ Some x → (x.0 ≡ 0 → ⊥) → m ≡ x.1
    → NodeItemOrLost x.0 (Peer m) old new ⊎ (new ≡ nodes_with_loss old) → DeliveryOrLost o old new
came_to_node o (zero, message) m old new found positive same took = absurd (positive refl)
came_to_node o (suc at, message) m old new found positive same took =
    subst (λ (q : Option (ℕ × Message Command)). DeliveryOrLost q old new) (sym found)
    (subst (λ (z : Message Command). NodeItemOrLost (suc at) (Peer z) old new ⊎ (new ≡ nodes_with_loss old)) same took)

-- if nothing is counted it came
pub comes_exactly : (o : Option (ℕ × Message Command)) (old new : NodesState) → DeliveryOrLost o old new → NodesLoseNothing old new → MessageArrives o old new
comes_exactly None old new came none = came
comes_exactly (Some (zero, message)) old new came none = heard_exactly message.from message.body old new came none
comes_exactly (Some (suc at, message)) old new (inl took) none = exactly (suc at) (Peer message) old new took none
comes_exactly (Some (suc at, message)) old new (inr is) none = absurd (counts (nodes_with_loss old) old new refl is none)

-- of a result
pub came_on : {X : Type 0} (r : Result X Idle) (o : Option (ℕ × Message Command)) (x : ℕ × Message Command) (m : Message Command) (old new : NodesState) → o ≡ Some x
    → (x.0 ≡ 0 → ⊥) → m ≡ x.1 → OnOk r (NodeItemOrLost x.0 (Peer m) old new) → OnOk r (DeliveryOrLost o old new)
came_on (Ok y) o x m old new found positive same took = came_to_node o x m old new found positive same (inl took)
came_on (Err e) o x m old new found positive same took = tt

pub may_come_on : {X : Type 0} (r : Result X Idle) (o : Option (ℕ × Message Command)) (x : ℕ × Message Command) (m : Message Command) (old new : NodesState) → o ≡ Some x
    → (x.0 ≡ 0 → ⊥) → m ≡ x.1 → OnOk r (NodeDoesCall (x.0 - 1) (takes (Peer m)) old new) → OnOk r (GroupDeliveryOrLost o old new)
may_come_on (Ok y) o x m old new found positive same acts = comes_to_node o x m old new found positive same (inl acts)
may_come_on (Err e) o x m old new found positive same acts = tt

pub comes_on : {X : Type 0} (r : Result X Idle) (o : Option (ℕ × Message Command)) (old new : NodesState) → OnOk r (DeliveryOrLost o old new) → NodesLoseNothing old new
    → OnOk r (MessageArrives o old new)
comes_on (Ok y) o old new came none = comes_exactly o old new came none
comes_on (Err e) o old new came none = tt

-- a copy of a message of a number was sent too
pub sent_copy : (sent : Sent) (number : ℕ) (x : ℕ × Message Command) (m : Message Command) → slice_get sent number ≡ Some x → m ≡ x.1 → In (x.0, m) sent
sent_copy sent number x m found same =
    in_at sent number (x.0, m) (found ∙ ap (λ (z : Message Command). let y : ℕ × Message Command = (x.0, z) in Some y) (sym same))
