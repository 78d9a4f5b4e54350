-- How an index has to change if one client's session changes.
use Rattle.std.proofs.Common.{◌≡◌, ℕ, Bool, true, false, ◌&&◌, if◌then◌else◌, List, [], ◌∷◌, Option, Some, None, refl, ap, ◌∙◌, sym}
use Rattle.std.specs.Prelude.{bytes_eq}
use Rattle.std.specs.Cmp.Lexicographic.{bytes_decides, texts_ties}
use Rattle.packet_base.specs.declared.qos.QoS.{QoS}
use Rattle.session_base.specs.Subscriptions.{GrantedSubscription, with_subscription, with_subscriptions, without_filter, without_filters}
use Rattle.broker_spec.specs.Place.{Client, same_client}
use Rattle.broker_base.specs.ClientSession.{ClientSession}
use Rattle.broker_base.specs.State.{Sessions, session_in}
use Rattle.subs_base.specs.Content.{Content, with_row, without_row, without_client}
use Rattle.broker_base.specs.rows.Indexed.{subscribed_in, content_in, all_set, all_cleared}
use Rattle.broker_spec.specs.Subscriptions.{qos_asked}
use Rattle.broker_base.proofs.of_rows.maps.FiltersHeld.{qos_granted, qos_given_up}

-- these are the sessions, with this one at the client
abbrev pub HasNow : Client → Option ClientSession → Sessions → Sessions → Type 0
HasNow d o rows after = (c : Client) → session_in c after ≡ (if same_client d c then o else session_in c rows)

-- what is at each filter
content_now : (d : Client) (o : Option ClientSession) (rows after : Sessions) → HasNow d o rows after → (c : Client) (f : List ℕ) →
    content_in after c f ≡ (if bytes_eq d c then subscribed_in f o else content_in rows c f)
content_now d o rows after now c f = ap (subscribed_in f) (now c) ∙ by (same_client d c) ∙ ap (λ b. if b then subscribed_in f o else content_in rows c f) (sym (texts_ties d c))
  where
    by : (b : Bool) → subscribed_in f (if b then o else session_in c rows) ≡ (if b then subscribed_in f o else content_in rows c f)
    by true = refl
    by false = refl

-- the content with these subscriptions of the client
abbrev with_held : Client → List GrantedSubscription → Content → Content
with_held d held content c f = if bytes_eq d c then qos_asked f held else content c f

-- if the client has them already
held_already : (d : Client) (old : ClientSession) (rows : Sessions) → session_in d rows ≡ Some old → content_in rows ≡ with_held d old.state.subscriptions (content_in rows)
held_already d old rows found = λ i c f. at c f i
  where
    at : (c : Client) (f : List ℕ) → content_in rows c f ≡ with_held d old.state.subscriptions (content_in rows) c f
    at c f = by (bytes_eq d c) refl
      where
        by : (b : Bool) → bytes_eq d c ≡ b → content_in rows c f ≡ (if b then qos_asked f old.state.subscriptions else content_in rows c f)
        by true e = ap (λ x. content_in rows x f) (sym ((bytes_decides d c).0 e)) ∙ ap (subscribed_in f) found
        by false e = refl

-- one is set
set_one : (d : Client) (new : GrantedSubscription) (held : List GrantedSubscription) (content : Content) →
    with_row (with_held d held content) d new.0 new.1 ≡ with_held d (with_subscription new held) content
set_one d new held content = λ i c f. by c f (bytes_eq d c) i
  where
    by : (c : Client) (f : List ℕ) (b : Bool) →
        (if b && bytes_eq new.0 f then Some new.1 else if b then qos_asked f held else content c f)
        ≡ (if b then qos_asked f (with_subscription new held) else content c f)
    by c f true = sym (qos_granted new held f)
    by c f false = refl

-- all are set
set_all : (d : Client) (more held : List GrantedSubscription) (content : Content) → all_set d more (with_held d held content) ≡ with_held d (with_subscriptions more held) content
set_all d [] held content = refl
set_all d (new ∷ more) held content = ap (all_set d more) (set_one d new held content) ∙ set_all d more (with_subscription new held) content

-- one is given up
clear_one : (d : Client) (g : List ℕ) (held : List GrantedSubscription) (content : Content) →
    without_row (with_held d held content) d g ≡ with_held d (without_filter g held) content
clear_one d g held content = λ i c f. by c f (bytes_eq d c) i
  where
    by : (c : Client) (f : List ℕ) (b : Bool) →
        (if b && bytes_eq g f then None else if b then qos_asked f held else content c f)
        ≡ (if b then qos_asked f (without_filter g held) else content c f)
    by c f true = sym (qos_given_up g held f)
    by c f false = refl

-- all are given up
clear_all : (d : Client) (more : List (List ℕ)) (held : List GrantedSubscription) (content : Content) →
    all_cleared d more (with_held d held content) ≡ with_held d (without_filters more held) content
clear_all d [] held content = refl
clear_all d (g ∷ more) held content = ap (all_cleared d more) (clear_one d g held content) ∙ clear_all d more (without_filter g held) content

-- the content with this session of the client
held_now : (d : Client) (new : ClientSession) (rows after : Sessions) → HasNow d (Some new) rows after → content_in after ≡ with_held d new.state.subscriptions (content_in rows)
held_now d new rows after now = λ i c f. content_now d (Some new) rows after now c f i

-- ---- what an index has to do

-- nothing changes if the subscriptions stay
pub content_stays : (d : Client) (old new : ClientSession) (rows after : Sessions) → HasNow d (Some new) rows after → session_in d rows ≡ Some old →
    new.state.subscriptions ≡ old.state.subscriptions → content_in after ≡ content_in rows
content_stays d old new rows after now found same =
    held_now d new rows after now ∙ ap (λ held. with_held d held (content_in rows)) same ∙ sym (held_already d old rows found)

-- set each filter that is granted
pub content_set : (d : Client) (old new : ClientSession) (granted : List GrantedSubscription) (rows after : Sessions) → HasNow d (Some new) rows after → session_in d rows ≡ Some old →
    new.state.subscriptions ≡ with_subscriptions granted old.state.subscriptions → content_in after ≡ all_set d granted (content_in rows)
content_set d old new granted rows after now found is =
    held_now d new rows after now ∙ ap (λ held. with_held d held (content_in rows)) is
    ∙ sym (set_all d granted old.state.subscriptions (content_in rows)) ∙ ap (all_set d granted) (sym (held_already d old rows found))

-- clear each filter that is given up
pub content_cleared : (d : Client) (old new : ClientSession) (filters : List (List ℕ)) (rows after : Sessions) → HasNow d (Some new) rows after → session_in d rows ≡ Some old →
    new.state.subscriptions ≡ without_filters filters old.state.subscriptions → content_in after ≡ all_cleared d filters (content_in rows)
content_cleared d old new filters rows after now found is =
    held_now d new rows after now ∙ ap (λ held. with_held d held (content_in rows)) is
    ∙ sym (clear_all d filters old.state.subscriptions (content_in rows)) ∙ ap (all_cleared d filters) (sym (held_already d old rows found))

-- the client is dropped, if its session ends, or begins afresh
pub content_dropped : (d : Client) (o : Option ClientSession) (rows after : Sessions) → HasNow d o rows after → ((f : List ℕ) → subscribed_in f o ≡ None) →
    content_in after ≡ without_client (content_in rows) d
content_dropped d o rows after now none =
    λ i c f. (content_now d o rows after now c f ∙ ap (λ (q : Option QoS). if bytes_eq d c then q else content_in rows c f) (none f)) i
