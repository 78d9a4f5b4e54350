use Rattle.std.proofs.Common.{ap₂, refl}
use Rattle.admin.specs.Json.{nodes_member}
use Rattle.admin.proofs.Appended.{and_then, as_tokens, wrote}
use Rattle.admin.proofs.status_page.put_status.Goals as goal

pub returns : goal.returns
returns c = as_tokens (and_then (and_then (and_then (wrote c.in_ok-begin_object.ensures) c.in_ok-put_active.ensures) (as_tokens c.in_ok-put_nodes.ensures (ap₂ nodes_member c.primary_held.ensures c.deref.ensures.value))) (wrote c.end_object.ensures)) refl
