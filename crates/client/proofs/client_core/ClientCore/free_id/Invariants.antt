use Rattle.std.proofs.Common.{◌≡◌, ℕ, ◌≤◌, ◌<◌, true}
use Rattle.lists.specs.Lists.{has_id}
use Rattle.client_base.specs.State.{used_ids}
use Rattle.client.proofs.client_core.ClientCore.free_id.Given as goal

abbrev pub invariant-loop-number : goal.invariant-loop-number
invariant-loop-number l = (j : ℕ) → 1 ≤ j → j < l.number → has_id j (used_ids l.fn.self.state) ≡ true
