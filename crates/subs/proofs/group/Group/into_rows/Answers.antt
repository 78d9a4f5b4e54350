-- A single row is held as it is; of several a map is made.
use Rattle.std.proofs.Common.{rules, ap, sym, ◌∙◌}
use Rattle.std.specs.BTreeMap.{IsFromIterResult}
use Rattle.std.specs.Cmp.Lexicographic.{slice_cmp}
use Rattle.std.specs.Ordering.{nat_cmp}
use Rattle.std.proofs.lemmas.Iterator.Adapters.{YieldsList-from_vec}
use Rattle.subs_base.specs.Content.{last_qos_in}
use Rattle.subs.specs.Gathered.{rows_of_group}
use Rattle.subs.proofs.RowsGathered.{made_of, map_made, one_made}
use Rattle.subs.proofs.group.Group.into_rows.Goals as goal

pub returns-in-One : goal.returns-in-One
returns-in-One c =
    one_made c.in-One.client c.in-One.qos
    ∙ ap (λ g. last_qos_in (rows_of_group g)) (sym c.in-One.is)

pub returns-in_ok-clients-in-More : goal.returns-in_ok-clients-in-More
returns-in_ok-clients-in-More c =
    let ran = c.in_ok-clients-in-More.ensures.ran in
    let made = made_of (λ rows. IsFromIterResult (slice_cmp nat_cmp) rows c.in_ok-clients-in-More.clients) ran.1 ran.3
    (YieldsList-from_vec c.in-More.rows.items ran.2.0 (search rules)) ran.4 in
    map_made c.in-More.rows.items c.in_ok-clients-in-More.clients made.0
    ∙ ap (λ g. last_qos_in (rows_of_group g)) (sym c.in-More.is)
