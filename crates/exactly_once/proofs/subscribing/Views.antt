-- The transit as the client's connection shows it: what comes on it, whether it is current, and what may come back.
use Rattle.std.proofs.Common.{◌≡◌, ◌≤◌, ℕ, zero, suc, Bool, true, false, ◌||◌, if◌then◌else◌, List, [], ◌∷◌, ◌++◌, length, map, drop, Option, Some, None, refl, ap, sym, ◌∙◌, append_assoc}
use Rattle.std.proofs.lemmas.List.{append-nil, drop-append-le}
use Rattle.session_base.specs.declared.publication.Publication.{Publication}
use Rattle.broker_spec.specs.Connection.{ConnectionName, same_connection}
use Rattle.broker_spec.specs.Place.{Client, Place, Past, Limits}
use Rattle.broker_spec.specs.AnswersInOrder.{answers_at}
use Rattle.lists.specs.Lists.{Each}
use Rattle.exactly_once.specs.Handshake.{Forward, Backward, Transit, publishing}
use Rattle.exactly_once.specs.Sends.{sends_to, put_to}
use Rattle.exactly_once.specs.Sides.{ClientConnection}
use Rattle.client_base.specs.Keeper.{Keeper}
use Rattle.exactly_once.specs.StoryCommands.{any_named}
use Rattle.exactly_once.specs.Inside.Projections.{to_come, to_be_taken, is_current}
use Rattle.exactly_once.specs.Inside.AsSubscriber.{forward_of, backward_of, held, if_taken, left_behind, transit_to}
use Rattle.exactly_once.specs.Inside.ConnectionShape.{ConnectionInShape}
use Rattle.exactly_once.proofs.Starts.{sending_all}
use Rattle.exactly_once.proofs.Takes.{same_name_self}
use Rattle.exactly_once.proofs.subscribing.Forward.{forward_append}

-- what comes on the client's connection, and whether that is the current one
abbrev pub View : Type 0
View = Option (List (Forward Publication) × Bool)

-- by how much of it is taken
abbrev pub seen : Limits → Past → Option ConnectionName → ClientConnection → ℕ → View
seen limits past current κ zero = None
seen limits past current κ (suc n) = Some (forward_of (to_come limits past κ), is_current current κ.name)

-- the client's connection
abbrev pub view : Limits → Past → Option ConnectionName → Keeper → List ClientConnection → View
view limits past current keeper (κ ∷ others) = if keeper.is_open then seen limits past current κ κ.taken else None
view limits past current keeper [] = None

-- the transit of a view, with what may come back
abbrev pub link_as : View → List Backward → Transit Publication
link_as None b = Transit.Behind b
link_as (Some (f, true)) b = Transit.Joined f b
link_as (Some (f, false)) b = Transit.Ahead f

-- by whether it is the current one
as_by : (limits : Limits) (past : Past) (current : Option ConnectionName) (κ : ClientConnection) (others : List ClientConnection)
    → transit_to limits past current (κ ∷ others) (Some κ) ≡ link_as (Some (forward_of (to_come limits past κ), is_current current κ.name)) (left_behind current (κ ∷ others))
as_by limits past None κ others = refl
as_by limits past (Some x) κ others = by (same_connection x κ.name)
  where
    by : (b : Bool)
        → (if b then Transit.Joined (forward_of (to_come limits past κ)) (backward_of (to_be_taken κ)) else Transit.Ahead (forward_of (to_come limits past κ)))
        ≡ link_as (Some (forward_of (to_come limits past κ), b)) (if b then backward_of (to_be_taken κ) else left_behind (Some x) others)
    by true = refl
    by false = refl

-- the transit of every story
pub link_is : (limits : Limits) (past : Past) (current : Option ConnectionName) (keeper : Keeper) (connections : List ClientConnection)
    → transit_to limits past current connections (held keeper connections) ≡ link_as (view limits past current keeper connections) (left_behind current connections)
link_is limits past current keeper [] = refl
link_is limits past current keeper (κ ∷ others) = by keeper.is_open κ.taken
  where
    by : (opened : Bool) (taken : ℕ)
        → transit_to limits past current (κ ∷ others) (if opened then if_taken taken κ else None) ≡ link_as (if opened then seen limits past current κ taken else None) (left_behind current (κ ∷ others))
    by false taken = refl
    by true zero = refl
    by true (suc n) = as_by limits past current κ others

-- ---- a place more

-- all that a connection is sent, with one place more
put_more : (limits : Limits) (place : Place) (past : Past) (x : ConnectionName) → put_to limits (place ∷ past) x ≡ put_to limits past x ++ sends_to x (answers_at limits place past)
unfolding put_to
put_more limits place past x = refl

-- what a place sends comes after
pub comes_after : (limits : Limits) (place : Place) (past : Past) (κ : ClientConnection) → κ.handled ≤ length (put_to limits past κ.name)
    → forward_of (to_come limits (place ∷ past) κ) ≡ forward_of (to_come limits past κ) ++ forward_of (sends_to κ.name (answers_at limits place past))
comes_after limits place past κ h =
    ap (λ ps. forward_of (drop κ.handled ps)) (put_more limits place past κ.name)
    ∙ ap forward_of (drop-append-le κ.handled (put_to limits past κ.name) (sends_to κ.name (answers_at limits place past)) h)
    ∙ forward_append (to_come limits past κ) (sends_to κ.name (answers_at limits place past))

-- more comes, if it is the current one
abbrev pub grown : List (Forward Publication) → View → View
grown more None = None
grown more (Some (f, true)) = Some (f ++ more, true)
grown more (Some (f, false)) = Some (f, false)

-- it is current no more
abbrev pub parted : View → View
parted None = None
parted (Some (f, current)) = Some (f, false)

-- what starts is sent on the transit
pub sent_joined : (rows : List (ℕ × Publication)) (f : List (Forward Publication)) (b : List Backward) → sending_all rows (Transit.Joined f b) ≡ Transit.Joined (f ++ map publishing rows) b
sent_joined [] f b = ap (λ l. Transit.Joined l b) (sym (append-nil f))
sent_joined (row ∷ rows) f b =
    sent_joined rows (f ++ Forward.Publish row.0 row.1 ∷ []) b ∙ ap (λ l. Transit.Joined l b) (append_assoc f (Forward.Publish row.0 row.1 ∷ []) (map publishing rows))

-- and nowhere else
pub sent_behind : (rows : List (ℕ × Publication)) (b : List Backward) → sending_all rows (Transit.Behind b) ≡ Transit.Behind b
sent_behind [] b = refl
sent_behind (row ∷ rows) b = sent_behind rows b

-- nor to one that is not current
pub sent_ahead : (rows : List (ℕ × Publication)) (f : List (Forward Publication)) → sending_all rows (Transit.Ahead f) ≡ Transit.Ahead f
sent_ahead [] f = refl
sent_ahead (row ∷ rows) f = sent_ahead rows f

-- the transit with what starts
pub link_grown : (rows : List (ℕ × Publication)) (v : View) (b : List Backward) → link_as (grown (map publishing rows) v) b ≡ sending_all rows (link_as v b)
link_grown rows None b = sym (sent_behind rows b)
link_grown rows (Some (f, true)) b = sym (sent_joined rows f b)
link_grown rows (Some (f, false)) b = sym (sent_ahead rows f)

-- what each connection of the client is sent at a place: this, if it is current
abbrev pub SendsAt : Limits → Place → Past → Option ConnectionName → List ClientConnection → List (Forward Publication) → Type 0
SendsAt limits place past current connections more =
    (x : ConnectionName) → any_named (same_connection x) connections ≡ true
    → forward_of (sends_to x (answers_at limits place past)) ≡ (if is_current current x then more else [])

-- the first is named
first_named : (κ : ClientConnection) (others : List ClientConnection) → any_named (same_connection κ.name) (κ ∷ others) ≡ true
first_named κ others = ap (λ b. b || any_named (same_connection κ.name) others) (same_name_self κ.name)

-- the view after a place that leaves the current connection
pub view_grown : (limits : Limits) (place : Place) (past : Past) (c : Client) (current : Option ConnectionName) (keeper : Keeper) (connections : List ClientConnection) (more : List (Forward Publication))
    → Each (ConnectionInShape limits past c) connections → SendsAt limits place past current connections more
    → view limits (place ∷ past) current keeper connections ≡ grown more (view limits past current keeper connections)
view_grown limits place past c current keeper [] more g sends = refl
view_grown limits place past c current keeper (κ ∷ others) more g sends = by keeper.is_open κ.taken
  where
    one : (b : Bool) → Some ((forward_of (to_come limits past κ) ++ (if b then more else [])), b) ≡ grown more (Some (forward_of (to_come limits past κ), b))
    one true = refl
    one false = ap (λ l. Some (l, false)) (append-nil (forward_of (to_come limits past κ)))

    by : (opened : Bool) (taken : ℕ)
        → (if opened then seen limits (place ∷ past) current κ taken else None) ≡ grown more (if opened then seen limits past current κ taken else None)
    by false taken = refl
    by true zero = refl
    by true (suc n) =
        ap (λ l. Some (l, is_current current κ.name))
        (comes_after limits place past κ g.0.handled_within ∙ ap (λ l. forward_of (to_come limits past κ) ++ l) (sends κ.name (first_named κ others)))
        ∙ one (is_current current κ.name)
