use Rattle.std.proofs.Common.{refl}
use Rattle.links.proofs.message_form.rows.members_are_counted.Goals as goal

pub returns : goal.returns
returns c = refl
