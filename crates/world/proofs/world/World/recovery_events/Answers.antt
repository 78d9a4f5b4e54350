use Rattle.std.proofs.Common.{◌≡◌, ◌<◌, ◌+◌, ◌-◌, ◌*◌, ◌++◌, ℕ, suc, List, length, rules, sym, ap, ◌∙◌, subst, arith}
use Rattle.std.proofs.lemmas.Option.{same_Some}
use Rattle.master.proofs.Counting.{get_there}
use Rattle.world_pipes.specs.Piped.{is_holding}
use Rattle.world_pipes.specs.declared.clients.world_client.WorldClient.{WorldClient}
use Rattle.world_pipes.specs.events.EscapeEvents.{client_events}
use Rattle.world.specs.Inside.RecoveryEvents.{sent_then}
use Rattle.world.proofs.PairsWritten.{whole_pair}
use Rattle.world.proofs.world.World.recovery_events.Goals as goal

pub returns : goal.returns
returns c = λ found stands.
    let few : c.args.at < length c.self.inside.clients.items = rw (← c.self.view_is) at c.requires.there in
    let here = get_there c.self.inside.clients.items c.args.at c.index.result.now few c.index.ensures in
    let same : found ≡ c.index.result.now = same_Some found c.index.result.now (sym (rw (← c.self.view_is) at stands) ∙ here) in
    let client = subst (λ (k : WorldClient). c.push_client.new.out.items ≡ c.push_group.new.out.items
    ++ client_events (is_holding k.piped) c.args.client.now c.args.config.primary c.saturating_add-number.result (14 + length k.piped.core.state.client))
    (sym same) c.in_ok-push_client.ensures in
    let sent : c.messages-sent.result ≡ length c.args.self.now.nodes.sent = rw (← c.self.view_is) c.messages-sent.ensures in
    let members : length c.active.result.1.now ≡ length c.args.self.now.nodes.master.members =
    ap (λ (l : List ℕ). length l) (rw (← c.self.view_is) c.active.ensures.members) in
    let others : length c.as_slice.result.now - 1 ≡ length c.args.config.members - 1 = ap (λ (l : List ℕ). length l - 1) c.as_slice.ensures in
    let counted : c.saturating_add-number.result ≡ suc (length c.self.inside.connections.items) = omega arith in
    let number : c.saturating_add-number.result ≡ suc (length c.args.self.now.connections) = rw (← c.self.view_is) counted in
    let later : c.messages-sent.result + length c.active.result.1.now + 5 * (length c.as_slice.result.now - 1) + 4 ≡ sent_then c.args.self.now (length c.args.config.members - 1) =
    omega (arith, sent, members, others) in
    whole_pair c.args.self.now c.args.config (is_holding found.piped) c.args.client.now c.messages-sent.result (length c.active.result.1.now) c.args.index
    (length c.as_slice.result.now - 1) (14 + length found.piped.core.state.client) c.saturating_add-number.result (c.messages-sent.result + length c.active.result.1.now + 5 * (length c.as_slice.result.now - 1) + 4)
    c.new-out.result.items c.push_group.new.out.items c.push_client.new.out.items c.push_answers.new.out.items (search rules) c.in_ok-push_group.ensures client c.in_ok-push_answers.ensures
    c.requires.first sent members others number later
