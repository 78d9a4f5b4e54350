use Rattle.std.proofs.Common.{ℕ, List, ◌++◌, ap, ◌∙◌}
use Rattle.links.proofs.of_message_form.Appended.{on_ok}
use Rattle.links.proofs.of_message_form.Rooms.{pair_body}
use Rattle.links.proofs.message_form.message_writers.write_body.Goals as goal

pub returns-in-Join-clause-ok : goal.returns-in-Join-clause-ok
returns-in-Join-clause-ok c =
    on_ok c.write_pair.result _ _ (λ h. h.items ∙ ap (λ (l : List ℕ). c.args.bytes.now.items ++ l) (pair_body c.args.body.now c.in-Join.ballot c.in-Join.number c.in-Join.is)) c.write_pair.ensures.ok
