use Rattle.std.proofs.Common.{◌≡◌}
use Rattle.admin.specs.Answers.{answer_bytes}
use Rattle.admin.specs.Requests.{IsWanted}
use Rattle.admin.proofs.BytesKept.{with_wanted}
use Rattle.admin.proofs.answers.answer.Goals as goal

pub returns : goal.returns
returns c =
    with_wanted c.answer_to.result (IsWanted c.args.request.now) (λ bytes w. bytes.items ≡ answer_bytes c.args.view.now w)
    c.in_ok-wanted.wanted c.in_ok-wanted.ensures c.answer_to.ensures
