use Rattle.std.proofs.Common.{◌≡◌, ◌≤◌, ◌<◌, ◌+◌, ◌*◌, ℕ, List, Some, length, slice_get, refl, sym, ap, ◌∙◌, subst}
use Rattle.std.specs.List.{list_all}
use Rattle.agreement.specs.MasterState.{refusal}
use Rattle.broker_spec.specs.Commands.{past_of, usual_limits}
use Rattle.broker_spec.specs.Sessions.{clean_session_of}
use Rattle.client.specs.Core.{Core}
use Rattle.master.proofs.Counting.{get_there}
use Rattle.world_nodes.specs.RecoveryChecks.{whole_log_of}
use Rattle.world_nodes.specs.RunningNodes.{is_running}
use Rattle.world_pipes.specs.Piped.{is_holding}
use Rattle.world_pipes.specs.declared.events.event.Event.{Event}
use Rattle.world.specs.Recovery.{CanEscape, LeadsClientOut}
use Rattle.world.specs.Inside.RecoveryEvents.{escaping_events}
use Rattle.world.proofs.LeadsOut.{escaping_leads_out}
use Rattle.world.proofs.PairsWritten.{can_escape, its_members, short_pair, some_members}
use Rattle.world.proofs.world.World.escape.Goals as goal

-- the client that was found
stands : (c : goal.In_ok-recovery_events) → slice_get c.args.self.now.clients c.in-Some-index_of_client.at ≡ Some c.index.result.now
stands c =
    let few : c.in-Some-index_of_client.at < length c.self.inside.clients.items = rw (← c.self.view_is) at c.in-Some-index_of_client.ensures.below in
    rw (← c.self.view_is) (get_there c.self.inside.clients.items c.in-Some-index_of_client.at c.index.result.now few c.index.ensures)

named : (c : goal.In_ok-recovery_events) → c.client-name.result.now ≡ c.index.result.now.piped.core.state.client
named c = c.client-name.ensures ∙ ap (λ (k : Core). k.state.client) c.core.ensures

-- all that was looked at
abbrev possible : (c : goal.In_ok-recovery_events) → CanEscape c.args.members.now c.args.client.now c.args.self.now
possible c =
    can_escape c.args.members.now c.args.client.now c.args.self.now
    (ap (refusal c.args.self.now.nodes.master) (sym c.in_ok-config.ensures) ∙ (c.can_lead.ensures.0 c.if-not-can_lead.false).0)
    (ap (list_all (is_running c.args.self.now.nodes.nodes)) (sym (its_members c.args.members.now c.in_ok-config.config c.in_ok-config.ensures)) ∙ (c.can_lead.ensures.0 c.if-not-can_lead.false).1)
    c.in-Some.index c.in-Some.source c.in-Some.ensures.some c.in-Some-index_of_client.at c.index.result.now (sym c.in-Some-index_of_client.ensures.exact) (stands c)
    (ap (clean_session_of (past_of usual_limits (whole_log_of c.args.self.now.nodes c.in-Some.source))) (sym (named c)) ∙ c.in_ok-has_session.ensures.yes c.if-not-branch.false)

-- the list that was written
written : (c : goal.In_ok-recovery_events) → c.in_ok-recovery_events.field-0.items
    ≡ escaping_events c.args.self.now c.args.members.now c.in-Some.index (is_holding c.index.result.now.piped) c.args.client.now (14 + length c.index.result.now.piped.core.state.client)
written c =
    c.in_ok-recovery_events.ensures c.index.result.now (stands c)
    ∙ ap (λ (ms : List ℕ). escaping_events c.args.self.now ms c.in-Some.index (is_holding c.index.result.now.piped) c.args.client.now (14 + length c.index.result.now.piped.core.state.client))
    (its_members c.args.members.now c.in_ok-config.config c.in_ok-config.ensures)

pub returns-clause-short : goal.returns-clause-short
returns-clause-short c =
    let some = (some_members c.args.self.now.nodes.master c.in_ok-config.config (c.can_lead.ensures.0 c.if-not-can_lead.false).0).0 in
    subst (λ (l : List Event). length l ≤ 6 * length c.args.members.now + 5) (sym (written c))
    (short_pair c.recoveries_are_short.ensures c.args.self.now c.args.members.now c.in-Some.index (is_holding c.index.result.now.piped) c.args.client.now (14 + length c.index.result.now.piped.core.state.client)
    (subst (λ (ms : List ℕ). 1 ≤ length ms) (its_members c.args.members.now c.in_ok-config.config c.in_ok-config.ensures) some))

pub returns-clause-leads_out : goal.returns-clause-leads_out
returns-clause-leads_out c =
    subst (LeadsClientOut c.args.members.now c.args.client.now c.args.self.now) (sym (written c))
    (escaping_leads_out c.args.members.now c.args.client.now c.args.self.now (possible c) (is_holding c.index.result.now.piped) refl (rw (← c.self.view_is) c.self.invariant.0))

pub returns-clause-can : goal.returns-clause-can
returns-clause-can c = possible c
