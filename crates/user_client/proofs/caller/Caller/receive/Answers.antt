use Rattle.user_client.specs.Losses.{IsEndedBy}
use Rattle.user_client.specs.declared.user_client_error.UserClientError.{UserClientError}
use Rattle.user_client.proofs.LossFollows.{denial_ends}
use Rattle.user_client.proofs.RefusedCalls.{told}
use Rattle.std.proofs.Common.{◌≡◌, sym, subst}
use Rattle.user_client.proofs.caller.Caller.receive.Goals as goal

pub returns-in_err-check_denial-clause-ended : goal.returns-in_err-check_denial-clause-ended
returns-in_err-check_denial-clause-ended c =
    let error = c.in_err-check_denial.field-0.0 in
    told c.from_residual-in_err-check_denial.result (λ (it : UserClientError). it ≡ error) (IsEndedBy c.args.self.now c.hear.new.self)
    c.from_residual-in_err-check_denial.ensures.1
    (λ (it : UserClientError) is. subst (IsEndedBy c.args.self.now c.hear.new.self) (sym is)
    (denial_ends c.args.self.now c.hear.new.self error c.in_ok-news.ensures.trace c.in_err-check_denial.ensures.err))
