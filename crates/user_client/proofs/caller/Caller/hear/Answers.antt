use Rattle.std.proofs.Common.{◌≡◌, Bool, ◌||◌, sym, ap, subst, ◌∙◌}
use Rattle.client_base.specs.State.{is_online}
use Rattle.user_client.specs.Losses.{IsEndedBy}
use Rattle.user_client.specs.declared.user_client_error.UserClientError.{UserClientError}
use Rattle.user_client.proofs.CallsAreSteps.{heard, parts}
use Rattle.user_client.proofs.LossFollows.{heard_ends}
use Rattle.user_client.proofs.RefusedCalls.{told}
use Rattle.user_client.proofs.caller.Caller.hear.Goals as goal
use Rattle.user_client.proofs.caller.Caller.hear.Goals.{then-self, else-self}

pub returns-clause-trace : goal.returns-clause-trace
returns-clause-trace c =
    let online = is_online c.on_bytes.new.self.state.stage in
    let now : c.if-self.self ≡ (c.self.inside.was_accepted || online) = elim c.if-self.branch [
      | then-self w ↦ w.self-is ∙ w.if-self.true ∙ sym (ap (λ (was : Bool). was || online) w.if-self.true)
      | else-self w ↦ w.self-is ∙ c.connected-is_connected.ensures ∙ sym (ap (λ (was : Bool). was || online) w.if-self.false)
    ] in
    heard c.self.inside.core c.self.inside.was_accepted c.if-self.self c.self.inside.answers c.hear.new.self c.args.piece.now
    c.on_bytes.result c.on_bytes.new.self c.self.view_is c.in_ok-hear.ensures.heard c.on_bytes.ensures
    c.in_ok-is_open.ensures.ok c.in_ok-check_first_session.ensures.ok now

pub returns-in_err-is_open-clause-ended : goal.returns-in_err-is_open-clause-ended
returns-in_err-is_open-clause-ended c =
    let error = c.in_err-is_open.field-0.0 in
    let end = parts c.on_bytes.new.self c.self.inside.was_accepted c.hear.new.self in
    told c.from_residual-in_err-is_open.result (λ (it : UserClientError). it ≡ error) (IsEndedBy c.args.self.now end) c.from_residual-in_err-is_open.ensures.1
    (λ (it : UserClientError) is. subst (IsEndedBy c.args.self.now end) (sym is)
    (heard_ends c.self.inside.core c.self.inside.was_accepted c.self.inside.answers c.hear.new.self c.args.piece.now
    c.on_bytes.result c.on_bytes.new.self error c.self.view_is c.on_bytes.ensures c.in_err-is_open.ensures.lost
    c.in_err-is_open.ensures.other))
