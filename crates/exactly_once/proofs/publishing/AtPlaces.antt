-- One more place in the list: what is to show that it is a run of the handshake, if no packet of
-- the handshake is taken.
use Rattle.std.proofs.Common.{◌≡◌, ◌≤◌, ℕ, Bool, true, false, List, ◌∷◌, ◌++◌, length, drop, Option, Some, None, refl, ap, ap₂, sym, ◌∙◌, subst, inl, inr, ◌⊎◌}
use Rattle.std.proofs.lemmas.List.{append-nil}
use Rattle.lists.specs.Lists.{has_id, Each}
use Rattle.broker_spec.specs.Place.{Place, Past, Limits}
use Rattle.broker_spec.specs.Sessions.{current_connection}
use Rattle.broker_spec.specs.Connection.{ConnectionName}
use Rattle.broker_spec.specs.Received.{is_new, received_of}
use Rattle.broker_spec.specs.AnswersInOrder.{answers_at}
use Rattle.exactly_once.specs.Handshake.{Forward, Backward, Transit, Handshake}
use Rattle.exactly_once.specs.Sends.{sends_to, put_to}
use Rattle.exactly_once.specs.Sides.{ClientConnection}
use Rattle.client_base.specs.Keeper.{Keeper}
use Rattle.exactly_once.specs.Carried.{carries, more_by, new_numbers}
use Rattle.exactly_once.specs.Inside.Projections.{backward_of_own, to_come, last_confirmed, as_publisher, GoesTo}
use Rattle.exactly_once.specs.Inside.ConnectionShape.{ConnectionInShape}
use Rattle.exactly_once.proofs.publishing.Links.{link_by, current_last, forward_last, backward_last, link_is, Reaches, reaches_itself, receiver_goes, goes_of}
use Rattle.exactly_once.proofs.publishing.kept.Numbers.{SameNumbers, same_numbers}
use Rattle.exactly_once.proofs.publishing.Written.{backward_more}
use Rattle.exactly_once.proofs.publishing.First.{story_by}
use Rattle.exactly_once.proofs.publishing.Last.{each_last}
use Rattle.exactly_once.proofs.publishing.Elsewhere.{NoneSent}

-- the answers of one more place
pub put_more : (limits : Limits) (place : Place) (past : Past) (x : ConnectionName) → put_to limits (place ∷ past) x ≡ put_to limits past x ++ sends_to x (answers_at limits place past)
unfolding put_to
put_more limits place past x = refl

-- come after those that are not handled yet
pub come_more : (limits : Limits) (place : Place) (past : Past) (κ : ClientConnection) → κ.handled ≤ length (put_to limits past κ.name)
    → backward_of_own (drop κ.handled (put_to limits (place ∷ past) κ.name)) ≡ backward_of_own (to_come limits past κ) ++ backward_of_own (sends_to κ.name (answers_at limits place past))
come_more limits place past κ within =
    ap (λ l. backward_of_own (drop κ.handled l)) (put_more limits place past κ.name) ∙ backward_more κ.handled (put_to limits past κ.name) (sends_to κ.name (answers_at limits place past)) within

-- a place that brings no new publication
pub no_number : (connections later : List ClientConnection) (place : Place) (past : Past) → is_new place.command place.mark ≡ false → SameNumbers connections later past
    → new_numbers connections past ≡ new_numbers later (place ∷ past)
no_number connections later place past old same =
    sym (ap₂ (λ xs new. xs ++ more_by new (carries later place.command past)) (same_numbers connections later past same) old ∙ append-nil (new_numbers connections past))

-- nothing of the handshake is sent to the last confirmed connection
abbrev pub NoneToLast : Limits → Place → Past → List ClientConnection → Type 0
NoneToLast limits place past connections = (κ : ClientConnection) → last_confirmed connections ≡ Some κ → NoneSent κ.name (answers_at limits place past)

-- so nothing more is in transit to it
pub come_same : (limits : Limits) (place : Place) (past : Past) (keeper : Keeper) (connections : List ClientConnection) → Each (ConnectionInShape limits past keeper.client) connections
    → NoneToLast limits place past connections
    → backward_last limits past (last_confirmed connections) ≡ backward_last limits (place ∷ past) (last_confirmed connections)
come_same limits place past keeper connections each none = by (last_confirmed connections) refl
  where
    by : (o : Option ClientConnection) → last_confirmed connections ≡ o → backward_last limits past o ≡ backward_last limits (place ∷ past) o
    by None e = refl
    by (Some κ) e =
        let shape = each_last (ConnectionInShape limits past keeper.client) connections κ each e in
        sym (come_more limits place past κ shape.handled_within ∙ ap (λ l. backward_of_own (to_come limits past κ) ++ l) (none κ e) ∙ append-nil (backward_of_own (to_come limits past κ)))

-- the transit does not change, or the receiver leaves
abbrev pub StaysOrLeaves : Bool → Bool → List (Forward ℕ) → List (Forward ℕ) → Type 0
StaysOrLeaves before after f g = (after ≡ false) ⊎ ((before ≡ after) × (f ≡ g))

ignores : (on : Bool) (f g : List (Forward ℕ)) (b : List Backward) → link_by false on f b ≡ link_by false on g b
ignores true f g b = refl
ignores false f g b = refl

pub goes_place : (limits : Limits) (place : Place) (past : Past) (keeper : Keeper) (connections later : List ClientConnection) → new_numbers connections past ≡ new_numbers later (place ∷ past)
    → received_of past keeper.client ≡ received_of (place ∷ past) keeper.client
    → backward_last limits past (last_confirmed connections) ≡ backward_last limits (place ∷ past) (last_confirmed later)
    → StaysOrLeaves (current_last (current_connection past keeper.client) (last_confirmed connections)) (current_last (current_connection (place ∷ past) keeper.client) (last_confirmed later))
    (forward_last (last_confirmed connections)) (forward_last (last_confirmed later))
    → GoesTo (as_publisher limits (story_by past connections keeper)) (as_publisher limits (story_by (place ∷ past) later keeper))
goes_place limits place past keeper connections later numbers received come choice =
    let h = as_publisher limits (story_by past connections keeper) in
    let current = current_connection past keeper.client in
    let before = current_last current (last_confirmed connections) in
    let after = current_last (current_connection (place ∷ past) keeper.client) (last_confirmed later) in
    let f = forward_last (last_confirmed connections) in
    let g = forward_last (last_confirmed later) in
    let b = backward_last limits past (last_confirmed connections) in
    let d = backward_last limits (place ∷ past) (last_confirmed later) in
    let transit : h.transit ≡ link_by before keeper.is_online f b = link_is limits past current keeper.is_online (last_confirmed connections) in
    goes_of h (as_publisher limits (story_by (place ∷ past) later keeper)) h.items (link_by after keeper.is_online g d) (by h before after f g b d transit come choice) refl numbers
    (λ id. ap (has_id id) received) (sym (link_is limits (place ∷ past) (current_connection (place ∷ past) keeper.client) keeper.is_online (last_confirmed later)))
  where
    by : (h : Handshake ℕ) (before after : Bool) (f g : List (Forward ℕ)) (b d : List Backward) → h.transit ≡ link_by before keeper.is_online f b → b ≡ d → StaysOrLeaves before after f g
        → Reaches h h.items (link_by after keeper.is_online g d)
    by h before after f g b d transit come (inl leaves) =
        subst (λ (l : Transit ℕ). Reaches h h.items l)
        (ignores keeper.is_online f g b ∙ ap₂ (λ c l. link_by c keeper.is_online g l) (sym leaves) come) (receiver_goes h before keeper.is_online f b transit)
    by h before after f g b d transit come (inr (same, written)) =
        reaches_itself h (link_by after keeper.is_online g d) (transit ∙ ap₂ (λ c l. link_by c keeper.is_online l b) same written ∙ ap (λ l. link_by after keeper.is_online g l) come)
