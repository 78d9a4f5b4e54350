-- The state of the transit of the handshake in which a client subscribes: with the connection that the
-- client holds, or with what may still come on the broker's.
use Rattle.std.proofs.Common.{◌≡◌, ◌≤◌, ℕ, zero, suc, Bool, true, false, if◌then◌else◌, List, [], ◌∷◌, drop, Option, Some, None, refl, ap, ◌∙◌, ◌⊎◌, inl, inr, arith}
use Rattle.session_base.specs.declared.publication.Publication.{Publication}
use Rattle.broker_spec.specs.Connection.{ConnectionName, same_connection}
use Rattle.broker_spec.specs.Place.{Client, Past, Limits}
use Rattle.lists.specs.Lists.{Each}
use Rattle.exactly_once.specs.Handshake.{Forward, Backward, Transit}
use Rattle.client_base.specs.Keeper.{Written, Keeper}
use Rattle.exactly_once.specs.Sides.{ClientConnection}
use Rattle.client_base.specs.Connected.{opening_connect}
use Rattle.exactly_once.specs.Inside.Projections.{to_come, to_be_taken}
use Rattle.exactly_once.specs.Inside.AsSubscriber.{forward_of, backward_of, held, if_taken, left_behind, transit_to}
use Rattle.exactly_once.specs.Inside.Shape.{NewestIsServed}
use Rattle.exactly_once.specs.Inside.ConnectionShape.{ConnectionInShape}

-- with b still to come on the broker's connection: the client holds none, or that one, or another, and then nothing comes
abbrev pub Stands : Transit Publication → List Backward → Type 0
Stands l b =
    (l ≡ Transit.Behind b) ⊎ (((f : List (Forward Publication)) × (l ≡ Transit.Joined f b)) ⊎ ((f : List (Forward Publication)) × (l ≡ Transit.Ahead f) × (b ≡ [])))

-- nothing but a CONNECT is no answer
only_connect : (c : Client) (n : ℕ) → backward_of (drop n (opening_connect c ∷ [])) ≡ []
only_connect c zero = refl
only_connect c (suc zero) = refl
only_connect c (suc (suc n)) = refl

-- an unconfirmed connection has no answers
pub unconfirmed_none : (limits : Limits) (past : Past) (c : Client) (κ : ClientConnection) → ConnectionInShape limits past c κ → κ.confirmed ≡ false → backward_of (to_be_taken κ) ≡ []
unconfirmed_none limits past c κ g e =
    ap (λ ws. backward_of (drop κ.taken ws)) (g.written ∙ ap (λ (more : List Written). opening_connect c ∷ more) (g.silent e)) ∙ only_connect c κ.taken

-- nothing comes if only unconfirmed connections have the name
pub nothing_left : (limits : Limits) (past : Past) (c : Client) (x : ConnectionName) (connections : List ClientConnection) → Each (ConnectionInShape limits past c) connections
    → Each (λ (other : ClientConnection). same_connection x other.name ≡ true → other.confirmed ≡ false) connections
    → left_behind (Some x) connections ≡ []
nothing_left limits past c x [] g h = refl
nothing_left limits past c x (κ ∷ connections) g h = by (same_connection x κ.name) h.0 (nothing_left limits past c x connections g.1 h.1)
  where
    by : (b : Bool) → (b ≡ true → κ.confirmed ≡ false) → left_behind (Some x) connections ≡ [] → (if b then backward_of (to_be_taken κ) else left_behind (Some x) connections) ≡ []
    by true e ih = unconfirmed_none limits past c κ g.0 (e refl)
    by false e ih = ih

-- by whether the client's connection is the current one
stands_by : (limits : Limits) (past : Past) (c : Client) (κ : ClientConnection) (others : List ClientConnection) (current : Option ConnectionName) → Each (ConnectionInShape limits past c) others → 1 ≤ κ.taken
    → NewestIsServed current (κ ∷ others)
    → Stands (transit_to limits past current (κ ∷ others) (Some κ)) (left_behind current (κ ∷ others))
stands_by limits past c κ others None g t n = inr (inr (forward_of (to_come limits past κ), refl, refl))
stands_by limits past c κ others (Some x) g t n = by (same_connection x κ.name) (n t)
  where
    by : (b : Bool) → (b ≡ false → Each (λ (other : ClientConnection). same_connection x other.name ≡ true → other.confirmed ≡ false) others)
        → Stands (if b then Transit.Joined (forward_of (to_come limits past κ)) (backward_of (to_be_taken κ)) else Transit.Ahead (forward_of (to_come limits past κ)))
        (if b then backward_of (to_be_taken κ) else left_behind (Some x) others)
    by true h = inr (inl (forward_of (to_come limits past κ), refl))
    by false h = inr (inr (forward_of (to_come limits past κ), refl, nothing_left limits past c x others g (h refl)))

-- of every story in shape
pub stands : (limits : Limits) (past : Past) (c : Client) (keeper : Keeper) (connections : List ClientConnection) (current : Option ConnectionName)
    → Each (ConnectionInShape limits past c) connections → NewestIsServed current connections
    → Stands (transit_to limits past current connections (held keeper connections)) (left_behind current connections)
stands limits past c keeper [] current g n = inl refl
stands limits past c keeper (κ ∷ others) current g n = by keeper.is_open κ.taken refl
  where
    by : (opened : Bool) (taken : ℕ) → κ.taken ≡ taken
        → Stands (transit_to limits past current (κ ∷ others) (if opened then if_taken taken κ else None)) (left_behind current (κ ∷ others))
    by false taken e = inl refl
    by true zero e = inl refl
    by true (suc n') e = stands_by limits past c κ others current g.1 (omega (arith, e)) n
