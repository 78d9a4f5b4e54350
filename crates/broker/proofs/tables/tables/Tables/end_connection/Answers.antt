-- The client of the connection is found by the map, and its session goes, or stays without a connection.
use Rattle.std.proofs.Common.{◌≡◌, ◌∙◌, ap, sym, false, true, cond, Some, None}
use Rattle.std.specs.Option.{option_copied_mut}
use Rattle.std.specs.BTreeMap.{is_at}
use Rattle.std.specs.Map.{set_value}
use Rattle.subs_base.specs.Content.{without_client}
use Rattle.subs_base.specs.ListIndex.{content_of}
use Rattle.broker_spec.specs.Place.{by_bytes}
use Rattle.broker_base.specs.ClientSession.{ClientSession}
use Rattle.broker_base.specs.State.{Sessions, session_in}
use Rattle.broker_base.specs.rows.Touched.{written}
use Rattle.broker_base.specs.rows.Served.{ServesClient}
use Rattle.broker.specs.tables.Tables.{state_in}
use Rattle.broker.proofs.of_tables.FoundByMaps.{has_session, is_served, some_is}
use Rattle.broker.proofs.of_tables.Losses.{loss_step, nobodys_loss, ties_after, left_clean, left_other}
use Rattle.broker.proofs.tables.tables.Tables.end_connection.Goals as goal

pub returns-in_default-clause-state : goal.returns-in_default-clause-state
returns-in_default-clause-state c =
    sym (ap (λ p. p.0)
    (nobodys_loss c.args.self.now c.args.connection (sym (c.requires.tied.owners c.args.connection) ∙ sym c.in_default.ensures.value)))

pub index-requires : goal.index-requires
index-requires c =
    has_session c.args.self.now c.args.connection c.in-Some.client c.requires
    (sym (c.requires.tied.owners c.args.connection) ∙ sym c.in-Some.ensures.value)

pub returns-then-index-clause-state : goal.returns-then-index-clause-state
returns-then-index-clause-state c =
    let t = c.args.self.now in
    let kept = c.index.result.now in
    let served : ServesClient (state_in t) c.args.connection c.in-Some.client kept
    = is_served t c.args.connection c.in-Some.client kept c.requires
    (sym (c.requires.tied.owners c.args.connection) ∙ sym c.in-Some.ensures.value) c.index.ensures in
    let clean : kept.clean ≡ true = sym (ap (λ (k : ClientSession). k.clean) c.behind-self.view_is) ∙ c.if-index.true in
    ap (λ (rows : Sessions). record { window = t.window; sessions = rows; retained = t.retained })
    (c.remove-then-index.ensures.entries
    ∙ sym (ap (λ o. written c.in-Some.client o t.sessions.entries) (left_clean kept clean)))
    ∙ sym (ap (λ p. p.0) (loss_step t c.args.connection c.in-Some.client kept served))

pub returns-then-index-clause-tied : goal.returns-then-index-clause-tied
returns-then-index-clause-tied c =
    let t = c.args.self.now in
    let kept = c.index.result.now in
    let served : ServesClient (state_in t) c.args.connection c.in-Some.client kept
    = is_served t c.args.connection c.in-Some.client kept c.requires
    (sym (c.requires.tied.owners c.args.connection) ∙ sym c.in-Some.ensures.value) c.index.ensures in
    let clean : kept.clean ≡ true = sym (ap (λ (k : ClientSession). k.clean) c.behind-self.view_is) ∙ c.if-index.true in
    ties_after t _ c.args.connection c.in-Some.client kept served c.requires.tied c.remove.ensures.updates.0
    (c.remove-then-index.ensures.entries
    ∙ sym (ap (λ o. written c.in-Some.client o t.sessions.entries) (left_clean kept clean)))
    (c.drop_client.ensures
    ∙ sym (ap (λ b. cond b (without_client (content_of t.index) c.in-Some.client) (content_of t.index)) clean))

pub returns-clause-state : goal.returns-clause-state
returns-clause-state c =
    let t = c.args.self.now in
    let kept = c.unwrap-row.result.now in
    let held : session_in c.in-Some.client t.sessions.entries ≡ Some kept
    = sym c.get_mut.ensures.value ∙ ap option_copied_mut c.unwrap-row.ensures in
    let served : ServesClient (state_in t) c.args.connection c.in-Some.client kept
    = is_served t c.args.connection c.in-Some.client kept c.requires
    (sym (c.requires.tied.owners c.args.connection) ∙ sym c.in-Some.ensures.value) held in
    let other : kept.clean ≡ false
    = ap (λ (k : ClientSession). k.clean) (some_is kept c.index.result.now (sym held ∙ c.index.ensures))
    ∙ sym (ap (λ (k : ClientSession). k.clean) c.behind-self.view_is) ∙ c.if-index.false in
    ap (λ (rows : Sessions). record { window = t.window; sessions = rows; retained = t.retained })
    ((c.get_mut.follows.holds _).0
    ∙ ap (λ (k : ClientSession). set_value (is_at (by_bytes c.in-Some.client)) t.sessions.entries (record { clean = k.clean; connection = None; state = k.state }))
    c.row.view_is
    ∙ sym (ap (λ o. written c.in-Some.client o t.sessions.entries) (left_other kept other)))
    ∙ sym (ap (λ p. p.0) (loss_step t c.args.connection c.in-Some.client kept served))

pub returns-clause-tied : goal.returns-clause-tied
returns-clause-tied c =
    let t = c.args.self.now in
    let kept = c.unwrap-row.result.now in
    let held : session_in c.in-Some.client t.sessions.entries ≡ Some kept
    = sym c.get_mut.ensures.value ∙ ap option_copied_mut c.unwrap-row.ensures in
    let served : ServesClient (state_in t) c.args.connection c.in-Some.client kept
    = is_served t c.args.connection c.in-Some.client kept c.requires
    (sym (c.requires.tied.owners c.args.connection) ∙ sym c.in-Some.ensures.value) held in
    let other : kept.clean ≡ false
    = ap (λ (k : ClientSession). k.clean) (some_is kept c.index.result.now (sym held ∙ c.index.ensures))
    ∙ sym (ap (λ (k : ClientSession). k.clean) c.behind-self.view_is) ∙ c.if-index.false in
    ties_after t _ c.args.connection c.in-Some.client kept served c.requires.tied c.remove.ensures.updates.0
    ((c.get_mut.follows.holds _).0
    ∙ ap (λ (k : ClientSession). set_value (is_at (by_bytes c.in-Some.client)) t.sessions.entries (record { clean = k.clean; connection = None; state = k.state }))
    c.row.view_is
    ∙ sym (ap (λ o. written c.in-Some.client o t.sessions.entries) (left_other kept other)))
    (sym (ap (λ b. cond b (without_client (content_of t.index) c.in-Some.client) (content_of t.index)) other))
