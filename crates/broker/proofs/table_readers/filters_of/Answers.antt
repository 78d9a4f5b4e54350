-- The map is made of all that is granted.
use Rattle.std.proofs.Common.{rules, ◌∙◌, ap, None}
use Rattle.std.specs.BTreeMap.{IsFromIterResult}
use Rattle.std.specs.Map.{update_all}
use Rattle.std.specs.Cmp.Lexicographic.{slice_cmp}
use Rattle.std.specs.Ordering.{nat_cmp}
use Rattle.std.proofs.lemmas.Iterator.Adapters.{YieldsList-from_vec}
use Rattle.subs.proofs.RowsGathered.{made_of, same_tests}
use Rattle.subs_base.specs.Content.{last_qos_in}
use Rattle.broker.proofs.table_readers.filters_of.Goals as goal

pub returns : goal.returns
returns c =
    let ran = c.in_ok-filters.ensures.ran in
    let made = made_of (λ granted. IsFromIterResult (slice_cmp nat_cmp) granted c.in_ok-filters.filters) ran.1 ran.3
    (YieldsList-from_vec c.in_ok-granted.granted.items ran.2.0 (search rules)) ran.4 in
    (λ i f. made.0 f i)
    ∙ ap (λ e. update_all e (λ _. None) c.in_ok-granted.granted.items) same_tests
    ∙ ap last_qos_in c.in_ok-granted.ensures
