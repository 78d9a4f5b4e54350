-- At a Start an index drops the clients of the clean sessions.
use Rattle.std.proofs.Common.{◌≡◌, ℕ, Bool, true, false, ◌||◌, if◌then◌else◌, List, [], ◌∷◌, Option, Some, None, refl, ap, ◌∙◌, sym, subst}
use Rattle.std.specs.Prelude.{bytes_eq, filter}
use Rattle.std.specs.Map.{keys_of}
use Rattle.std.specs.List.{list_any}
use Rattle.std.specs.List.Sorted.{IsStrictlySortedBy}
use Rattle.std.specs.Cmp.Lexicographic.{bytes_decides}
use Rattle.broker_spec.specs.Place.{Client, same_client}
use Rattle.broker_base.specs.ClientSession.{ClientSession}
use Rattle.broker_base.specs.State.{Sessions, keyed, session_in}
use Rattle.broker_base.specs.StateTheorems.{AreByClient}
use Rattle.broker_spec.proofs.ClientsInOrder.{same_is, same_self}
use Rattle.broker_base.proofs.SessionsStayByClient.{ComesBefore}
use Rattle.subs_base.specs.Content.{Content, without_client}
use Rattle.broker_base.specs.rows.Served.{left_off}
use Rattle.broker_base.specs.rows.ConnectTheorems.{all_left_off}
use Rattle.broker_base.specs.rows.Indexed.{subscribed_in, content_in, all_dropped, clean_clients}
use Rattle.broker_base.specs.rows.IndexTheorems.{StartDropsTheClean}
use Rattle.broker_base.proofs.of_rows.ConnectSteps.{no_session}

-- ---- what is dropped

-- if a client is among the dropped, nothing is left
dropped_at : (clients : List (List ℕ)) (content : Content) (c f : List ℕ) →
    all_dropped clients content c f ≡ (if list_any (λ d. bytes_eq d c) clients then None else content c f)
dropped_at [] content c f = refl
dropped_at (d ∷ more) content c f = dropped_at more (without_client content d) c f ∙ by (bytes_eq d c) (list_any (λ e. bytes_eq e c) more)
  where
    by : (here after : Bool) → (if after then None else if here then None else content c f) ≡ (if here || after then None else content c f)
    by true true = refl
    by true false = refl
    by false after = refl

-- ---- clean sessions

-- whether there is a session, and it is clean
abbrev is_clean : Option ClientSession → Bool
is_clean (Some kept) = kept.clean
is_clean None = false

-- bytes are tested equal as clients are
pub same_bytes : (c d : Client) → bytes_eq d c ≡ same_client c d
same_bytes c d = by (bytes_eq d c) refl (same_client c d) refl
  where
    by : (a : Bool) → bytes_eq d c ≡ a → (b : Bool) → same_client c d ≡ b → a ≡ b
    by true e true h = refl
    by false e false h = refl
    by true e false h =
        let k : same_client c d ≡ true = subst (λ (z : Client). same_client c z ≡ true) (sym ((bytes_decides d c).0 e)) (same_self c) in
        absurd (cc)
    by false e true h =
        let k : bytes_eq d c ≡ true = (bytes_decides d c).1 (sym (same_is c d h)) in
        absurd (cc)

-- a client is among those of the clean sessions if its own is clean
clean_at : (rows : Sessions) (c : Client) → AreByClient rows → list_any (λ d. bytes_eq d c) (clean_clients rows) ≡ is_clean (session_in c rows)
unfolding IsStrictlySortedBy
clean_at [] c by_client = refl
clean_at (row ∷ rows) c by_client =
    by row.1.clean refl (same_client c row.0) refl (clean_at rows c by_client.1)
  where
    goal : Bool → Bool → Type 0
    goal clean mine =
        list_any (λ d. bytes_eq d c) (keys_of (if clean then row ∷ filter (λ (r : Client × ClientSession). r.1.clean) rows else filter (λ (r : Client × ClientSession). r.1.clean) rows))
        ≡ is_clean (if mine then Some row.1 else session_in c rows)

    by : (clean : Bool) → row.1.clean ≡ clean → (mine : Bool) → same_client c row.0 ≡ mine →
        list_any (λ d. bytes_eq d c) (clean_clients rows) ≡ is_clean (session_in c rows) → goal clean mine
    by true e true h more = ap (λ b. b || list_any (λ d. bytes_eq d c) (clean_clients rows)) (same_bytes c row.0 ∙ h) ∙ sym e
    by true e false h more = ap (λ b. b || list_any (λ d. bytes_eq d c) (clean_clients rows)) (same_bytes c row.0 ∙ h) ∙ more
    by false e true h more =
        more ∙ ap is_clean (no_session c rows (subst (λ (z : Client). ComesBefore z rows) (sym (same_is c row.0 h)) by_client.0)) ∙ sym e
    by false e false h more = more

-- ---- after a Start

-- what a session that is left off subscribes
left_subscribed : (f : List ℕ) (kept : ClientSession) → subscribed_in f (left_off kept) ≡ (if kept.clean then None else subscribed_in f (Some kept))
left_subscribed f kept =
    elim kept.clean as (λ (b : Bool). subscribed_in f (if b then None else Some (record { clean = kept.clean; connection = None; state = kept.state }))
    ≡ (if b then None else subscribed_in f (Some kept))) [ true ↦ refl | false ↦ refl ]

-- what is at each filter
left_at : (rows : Sessions) (c : Client) (f : List ℕ) → AreByClient rows →
    content_in (all_left_off rows) c f ≡ (if is_clean (session_in c rows) then None else content_in rows c f)
unfolding IsStrictlySortedBy
left_at [] c f by_client = refl
left_at (row ∷ rows) c f by_client =
    keyed_at (left_off row.1) (same_client c row.0) refl (left_at rows c f by_client.1) ∙ by (same_client c row.0) (left_at rows c f by_client.1)
  where
    -- a row that is left, or goes
    keyed_at : (o : Option ClientSession) (b : Bool) → same_client c row.0 ≡ b →
        content_in (all_left_off rows) c f ≡ (if is_clean (session_in c rows) then None else content_in rows c f) →
        content_in (keyed row.0 o (all_left_off rows)) c f ≡ (if same_client c row.0 then subscribed_in f o else content_in (all_left_off rows) c f)
    keyed_at (Some kept) true e more = ap (λ b. subscribed_in f (if b then Some kept else session_in c (all_left_off rows))) e ∙ sym (ap (λ b. if b then subscribed_in f (Some kept) else content_in (all_left_off rows) c f) e)
    keyed_at (Some kept) false e more = ap (λ b. subscribed_in f (if b then Some kept else session_in c (all_left_off rows))) e ∙ sym (ap (λ b. if b then subscribed_in f (Some kept) else content_in (all_left_off rows) c f) e)
    keyed_at None true e more =
        more ∙ gone ∙ sym (ap (λ b. if b then None else content_in (all_left_off rows) c f) e)
      where
        gone : (if is_clean (session_in c rows) then None else content_in rows c f) ≡ None
        gone =
            ap (λ o. if is_clean o then None else subscribed_in f o) (no_session c rows (subst (λ (z : Client). ComesBefore z rows) (sym (same_is c row.0 e)) by_client.0))
    keyed_at None false e more = sym (ap (λ b. if b then None else content_in (all_left_off rows) c f) e)

    by : (b : Bool) → content_in (all_left_off rows) c f ≡ (if is_clean (session_in c rows) then None else content_in rows c f) →
        (if b then subscribed_in f (left_off row.1) else content_in (all_left_off rows) c f)
        ≡ (if is_clean (if b then Some row.1 else session_in c rows) then None else subscribed_in f (if b then Some row.1 else session_in c rows))
    by true more = left_subscribed f row.1
    by false more = more

-- the content
pub start_drops_the_clean : StartDropsTheClean
start_drops_the_clean rows by_client =
    λ i c f. (left_at rows c f by_client
    ∙ ap (λ b. if b then None else content_in rows c f) (sym (clean_at rows c by_client))
    ∙ sym (dropped_at (clean_clients rows) (content_in rows) c f)) i
