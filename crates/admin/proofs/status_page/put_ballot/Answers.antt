use Rattle.std.proofs.Common.{ap, codes, refl}
use Rattle.admin.specs.Json.{numbers_member}
use Rattle.admin.proofs.Appended.{and_then, as_tokens, wrote}
use Rattle.admin.proofs.status_page.put_ballot.Goals as goal

pub returns : goal.returns
returns c = as_tokens (and_then (and_then (and_then (and_then (wrote c.in_ok-begin_object.ensures) c.in_ok-put_number.ensures) (as_tokens c.in_ok-put_numbers.ensures (ap (numbers_member (codes "members")) c.deref.ensures.value))) c.in_ok-put_small.ensures) (wrote c.end_object.ensures)) refl
