use Rattle.std.proofs.Common.{◌≡◌, ap, ◌∙◌, None}
use Rattle.agreement.specs.MasterState.{assigning, master_after, refusal}
use Rattle.ballot_base.specs.declared.config.Config.{Config}
use Rattle.broker_spec.specs.declared.command.Command.{Command}
use Rattle.master.proofs.Groups.{new_ballot_is}
use Rattle.world_nodes.specs.Nodes.{NodesState}
use Rattle.world_nodes.proofs.MasterCounts.{gives_counting, no_refusal}
use Rattle.world_nodes.proofs.MasterActs.{gives_ballot, gives_or_loses}
use Rattle.world_nodes.proofs.nodes.Nodes.give.Goals as goal

pub returns-clause-lossy : goal.returns-clause-lossy
returns-clause-lossy c =
    let m = c.self.inside.master in
    let granted = rw (← c.self.view_is) at c.requires in
    let given : c.in_ok-given.given ≡ c.args.config.now = c.in_ok-given.ensures in
    let none : refusal m c.in_ok-given.given ≡ None = ap (λ (z : Config). refusal m z) given ∙ granted in
    let state : c.assign.new.self ≡ assigning m c.args.config.now =
    c.assign.ensures.state ∙ ap (λ r. master_after m c.in_ok-given.given r) none ∙ ap (λ (z : Config). assigning m z) given in
    let body = new_ballot_is {C = Command} c.in-Ok.ballot m c.args.config.now c.in_ok-given.given c.in_ok-members.members c.in_ok-previous_members.previous_members c.active-previous.result.0
    given (c.in_ok-members.ensures ∙ c.as_slice.ensures) c.in-Ok.ensures.ok c.active-previous.ensures.ballot
    (c.in_ok-previous_members.ensures ∙ c.active-previous.ensures.members) in
    rw (← c.self.view_is) (gives_ballot (let old : NodesState = record {
      master = m;
      nodes = c.self.inside.nodes.items;
      sent = c.self.inside.sent.items;
      archive = c.self.inside.archive.items;
      losses = c.self.inside.losses;
    } in old) c.args.config.now c.assign.new.self _ c.send-kept.new.sent.items c.send-kept.result c.counted-self-inside.result
    state body c.send-kept.ensures.kept c.send-kept.ensures.lost c.counted-self-inside.ensures)

pub returns-clause-acts : goal.returns-clause-acts
returns-clause-acts c =
    let m = c.self.inside.master in
    let granted = rw (← c.self.view_is) at c.requires in
    let given : c.in_ok-given.given ≡ c.args.config.now = c.in_ok-given.ensures in
    let none : refusal m c.in_ok-given.given ≡ None = ap (λ (z : Config). refusal m z) given ∙ granted in
    let state : c.assign.new.self ≡ assigning m c.args.config.now =
    c.assign.ensures.state ∙ ap (λ r. master_after m c.in_ok-given.given r) none ∙ ap (λ (z : Config). assigning m z) given in
    let body = new_ballot_is {C = Command} c.in-Ok.ballot m c.args.config.now c.in_ok-given.given c.in_ok-members.members c.in_ok-previous_members.previous_members c.active-previous.result.0
    given (c.in_ok-members.ensures ∙ c.as_slice.ensures) c.in-Ok.ensures.ok c.active-previous.ensures.ballot
    (c.in_ok-previous_members.ensures ∙ c.active-previous.ensures.members) in
    rw (← c.self.view_is) (gives_or_loses (let old : NodesState = record {
      master = m;
      nodes = c.self.inside.nodes.items;
      sent = c.self.inside.sent.items;
      archive = c.self.inside.archive.items;
      losses = c.self.inside.losses;
    } in old) c.args.config.now c.assign.new.self _ c.send-kept.new.sent.items c.send-kept.result c.counted-self-inside.result
    granted state body c.send-kept.ensures.kept c.send-kept.ensures.lost)

pub invariant_of-self : goal.invariant_of-self
invariant_of-self c =
    let m = c.self.inside.master in
    let granted = rw (← c.self.view_is) at c.requires in
    let given : c.in_ok-given.given ≡ c.args.config.now = c.in_ok-given.ensures in
    let none : refusal m c.in_ok-given.given ≡ None = ap (λ (z : Config). refusal m z) given ∙ granted in
    let state : c.assign.new.self ≡ assigning m c.args.config.now =
    c.assign.ensures.state ∙ ap (λ r. master_after m c.in_ok-given.given r) none ∙ ap (λ (z : Config). assigning m z) given in
    let body = new_ballot_is {C = Command} c.in-Ok.ballot m c.args.config.now c.in_ok-given.given c.in_ok-members.members c.in_ok-previous_members.previous_members c.active-previous.result.0
    given (c.in_ok-members.ensures ∙ c.as_slice.ensures) c.in-Ok.ensures.ok c.active-previous.ensures.ballot
    (c.in_ok-previous_members.ensures ∙ c.active-previous.ensures.members) in
    rw c.begin.ensures.same (gives_counting (let old : NodesState = record {
      master = m;
      nodes = c.self.inside.nodes.items;
      sent = c.self.inside.sent.items;
      archive = c.self.inside.archive.items;
      losses = c.self.inside.losses;
    } in old) c.args.config.now c.assign.new.self _ c.send-kept.new.sent.items c.send-kept.result c.counted-self-inside.result
    c.self.inside.counters.told c.self.inside.counters.next c.begin.new.self.next c.self.invariant granted state body c.send-kept.ensures.kept c.send-kept.ensures.lost
    (c.begin.ensures.waits ∙ c.in-Ok.ensures.ok) c.begin.ensures.untold)

pub unreachable-requires : goal.unreachable-requires
unreachable-requires c =
    let granted = rw (← c.self.view_is) at c.requires in
    no_refusal c.assign.result c.in_default.field-0 _ c.in_default.is (ap (λ (z : Config). refusal c.self.inside.master z) c.in_ok-given.ensures ∙ granted)
    c.assign.ensures.bad c.assign.ensures.spent
