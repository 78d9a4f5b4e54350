use Rattle.std.proofs.Common.{ap, codes, refl}
use Rattle.admin.specs.Json.{option_member, text_member}
use Rattle.admin.proofs.Appended.{and_then, as_tokens, wrote}
use Rattle.admin.proofs.status_page.put_node.Goals as goal

pub returns : goal.returns
returns c = as_tokens (and_then (and_then (and_then (and_then (and_then (and_then (and_then (and_then (wrote c.in_ok-begin_object.ensures) c.in_ok-put_small.ensures) c.in_ok-put_number.ensures) (as_tokens c.in_ok-put_text.ensures (ap (text_member (codes "role")) c.text.ensures))) c.in_ok-put_flag.ensures) c.in_ok-put_number-2.ensures) c.in_ok-put_number-3.ensures) (as_tokens c.in_ok-put_option.ensures (ap (option_member (codes "lag")) c.lag_of.ensures))) (wrote c.end_object.ensures)) refl
