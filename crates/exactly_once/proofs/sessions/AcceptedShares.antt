-- What a client accepted in one of its sessions, after a place and after what the client does.
use Rattle.std.proofs.Common.{◌≡◌, ℕ, zero, suc, Bool, true, false, if◌then◌else◌, List, [], ◌∷◌, ◌++◌, refl, sym, ◌∙◌, ap, ap₂, inl, inr}
use Rattle.std.proofs.lemmas.List.{append-nil}
use Rattle.lists.specs.Lists.{Each}
use Rattle.session_base.specs.declared.publication.Publication.{Publication}
use Rattle.broker_spec.specs.Place.{Client, Place, Past, Limits}
use Rattle.client_base.specs.Keeper.{Written, new_keeper}
use Rattle.client_base.specs.Written.{writes_first}
use Rattle.exactly_once.specs.Sides.{ClientConnection}
use Rattle.exactly_once.specs.StoryCommands.{with_one_counted}
use Rattle.exactly_once.specs.Acceptance.{qos2_entries, accepted_on}
use Rattle.exactly_once.specs.Carried.{is_this}
use Rattle.exactly_once.specs.InStep.{opened_in, entries_in, accepted_in}
use Rattle.exactly_once.specs.Lives.{AcceptedInSession}
use Rattle.exactly_once.proofs.sessions.Beside.{kept_of, with_connections}
use Rattle.exactly_once.proofs.sessions.Openings.{opened_same}
use Rattle.exactly_once.proofs.sessions.EachPlaced.{IsFresh}

-- what it accepted on one connection
abbrev pub share : Past → Client → ℕ → ClientConnection → List Publication
share past c start κ = if is_this start (opened_in past c κ.name) then κ.accepted else []

-- what it accepted on these, as a story of a client and its connections
abbrev pub Accepts : Limits → Client → Past → List ClientConnection → ℕ → Type 0
Accepts limits c past connections start = AcceptedInSession limits (with_connections past (new_keeper c) connections) start

pub accepts_same : (limits : Limits) (c : Client) (past later : Past) (connections after : List ClientConnection) (start : ℕ) → entries_in limits later c start ≡ entries_in limits past c start
    → accepted_in later c start after ≡ accepted_in past c start connections → Accepts limits c past connections start → Accepts limits c later after start
accepts_same limits c past later connections after start entries accepted a =
    record { prefix = a.prefix; others = a.others; is = ap qos2_entries entries ∙ a.is; accepted = accepted ∙ a.accepted; rest = a.rest }

-- ---- nothing

-- nothing is a share of nothing
pub share_nothing : (b : Bool) (accepted : List Publication) → accepted ≡ [] → (if b then accepted else []) ≡ []
share_nothing true accepted e = e
share_nothing false accepted e = refl

pub none_in : (past : Past) (c : Client) (start : ℕ) (connections : List ClientConnection) → Each (λ (κ : ClientConnection). share past c start κ ≡ []) connections → accepted_in past c start connections ≡ []
none_in past c start [] h = refl
none_in past c start (κ ∷ connections) h = ap₂ (λ a b. a ++ b) (none_in past c start connections h.1) h.0

pub none_on : (flags : List Bool) (connections : List ClientConnection) → Each (λ (κ : ClientConnection). κ.accepted ≡ []) connections → accepted_on (kept_of flags connections) ≡ []
none_on [] [] h = refl
none_on [] (κ ∷ connections) h = ap₂ (λ a b. a ++ b) (none_on [] connections h.1) h.0
none_on (true ∷ flags) [] h = refl
none_on (false ∷ flags) [] h = refl
none_on (true ∷ flags) (κ ∷ connections) h = ap₂ (λ a b. a ++ b) (none_on flags connections h.1) h.0
none_on (false ∷ flags) (κ ∷ connections) h = none_on flags connections h.1

-- ---- a place

share_fresh : (place : Place) (past : Past) (c : Client) (start : ℕ) (κ : ClientConnection) → IsFresh place c κ → share (place ∷ past) c start κ ≡ share past c start κ
share_fresh place past c start κ (inl e) = ap (λ o. if is_this start o then κ.accepted else []) (opened_same place past c κ.name e)
share_fresh place past c start κ (inr e) = share_nothing (is_this start (opened_in (place ∷ past) c κ.name)) κ.accepted e ∙ sym (share_nothing (is_this start (opened_in past c κ.name)) κ.accepted e)

pub accepted_placed : (place : Place) (past : Past) (c : Client) (start : ℕ) (connections : List ClientConnection) → Each (IsFresh place c) connections
    → accepted_in (place ∷ past) c start connections ≡ accepted_in past c start connections
accepted_placed place past c start [] h = refl
accepted_placed place past c start (κ ∷ connections) h = ap₂ (λ a b. a ++ b) (accepted_placed place past c start connections h.1) (share_fresh place past c start κ h.0)

pub accepted_counted : (past : Past) (c : Client) (start i : ℕ) (connections : List ClientConnection) → accepted_in past c start (with_one_counted i connections) ≡ accepted_in past c start connections
accepted_counted past c start i [] = refl
accepted_counted past c start zero (κ ∷ connections) = refl
accepted_counted past c start (suc i) (κ ∷ connections) = ap (λ l. l ++ share past c start κ) (accepted_counted past c start i connections)

pub kept_counted : (flags : List Bool) (i : ℕ) (connections : List ClientConnection) → accepted_on (kept_of flags (with_one_counted i connections)) ≡ accepted_on (kept_of flags connections)
kept_counted [] i [] = refl
kept_counted [] zero (κ ∷ connections) = refl
kept_counted [] (suc i) (κ ∷ connections) = ap (λ l. l ++ κ.accepted) (kept_counted [] i connections)
kept_counted (true ∷ flags) i [] = refl
kept_counted (false ∷ flags) i [] = refl
kept_counted (true ∷ flags) zero (κ ∷ connections) = refl
kept_counted (false ∷ flags) zero (κ ∷ connections) = refl
kept_counted (true ∷ flags) (suc i) (κ ∷ connections) = ap (λ l. l ++ κ.accepted) (kept_counted flags i connections)
kept_counted (false ∷ flags) (suc i) (κ ∷ connections) = kept_counted flags i connections

-- ---- the first connection

-- of another session, whatever it accepts
pub accepted_head : (past : Past) (c : Client) (start : ℕ) (κ κ' : ClientConnection) (others : List ClientConnection) → κ'.name ≡ κ.name → is_this start (opened_in past c κ.name) ≡ false
    → accepted_in past c start (κ' ∷ others) ≡ accepted_in past c start (κ ∷ others)
accepted_head past c start κ κ' others name e =
    ap (λ l. accepted_in past c start others ++ l)
    (ap (λ b. if b then κ'.accepted else []) (ap (λ x. is_this start (opened_in past c x)) name ∙ e) ∙ sym (ap (λ b. if b then κ.accepted else []) e))

pub accepted_written : (past : Past) (c : Client) (start : ℕ) (more : List Written) (connections : List ClientConnection) → accepted_in past c start (writes_first more connections) ≡ accepted_in past c start connections
accepted_written past c start more [] = refl
accepted_written past c start more (κ ∷ connections) = refl

-- of which nothing was accepted
pub accepted_new : (past : Past) (c : Client) (start : ℕ) (κ : ClientConnection) (connections : List ClientConnection) → κ.accepted ≡ [] → accepted_in past c start (κ ∷ connections) ≡ accepted_in past c start connections
accepted_new past c start κ connections e =
    ap (λ l. accepted_in past c start connections ++ l) (share_nothing (is_this start (opened_in past c κ.name)) κ.accepted e) ∙ append-nil (accepted_in past c start connections)
