-- HousedOn.antt: connections are still at their known places.
use Rattle.std.proofs.Common.{◌≡◌, ◌⊎◌, inl, inr, ◌≤◌, ℕ, zero, suc, Bool, List, [], ◌∷◌, ◌++◌, Some, length, set, slice_get, refl, sym, ap, ◌∙◌, subst, arith}
use Rattle.std.proofs.lemmas.List.{length-append, length-set}
use Rattle.std.proofs.lemmas.Option.{same_Some, none-some}
use Rattle.lists.proofs.Places.{get_pushed, get_set, get_set_other}
use Rattle.headline.proofs.of_packet_world.Lists.{same_or_other, set_get}
use Rattle.world_base.specs.declared.node_connections.port.Port.{Port}
use Rattle.world_pipes.specs.declared.clients.connection_slot.ConnectionSlot.{ConnectionSlot}
use Rattle.world_pipes.specs.clients.SlotsAreValid.{SlotsAreValid, LeadsThere}

-- ---- an end is open, or closed

pub housed_mark : (all : List (List (ℕ × Port))) (connections : List ConnectionSlot) (n : ℕ) (old : ConnectionSlot) (up : Bool) → slice_get connections n ≡ Some old → SlotsAreValid all connections
    → SlotsAreValid all (set connections n (record old { is_open = up }))
housed_mark all connections n old up at h =
    record {
      known = λ k place e. by k place (set_get connections n k old (record old { is_open = up }) place at e);
      used = λ i j node port pairs there e. subst (λ (m : ℕ). port.0 ≤ m) (sym (length-set connections n (record old { is_open = up }))) (h.used i j node port pairs there e);
    }
  where
    by : (k : ℕ) (place : ConnectionSlot) → ((k ≡ n) × ((record old { is_open = up }) ≡ place)) ⊎ ((k ≡ n → ⊥) × (slice_get connections k ≡ Some place)) → LeadsThere all (suc k) place
    by k place (inl (here, is)) =
        let l = h.known k old (ap (slice_get connections) here ∙ at) in
        subst (λ (p : ConnectionSlot). LeadsThere all (suc k) p) is (record { pairs = l.pairs; node = l.node; client = l.client; pair = l.pair; numbered = l.numbered })
    by k place (inr (other, there)) = h.known k place there

-- ---- a new one

get_front : {X : Type 0} (xs : List X) (x y : X) (i : ℕ) → slice_get xs i ≡ Some y → slice_get (xs ++ x ∷ []) i ≡ Some y
get_front [] x y i e = absurd (none-some y e)
get_front (z ∷ xs) x y zero e = e
get_front (z ∷ xs) x y (suc i) e = get_front xs x y i e

front_or_last : {X : Type 0} (xs : List X) (x y : X) (i : ℕ) → slice_get (xs ++ x ∷ []) i ≡ Some y → (slice_get xs i ≡ Some y) ⊎ ((i ≡ length xs) × (x ≡ y))
front_or_last [] x y zero e = inr (refl, same_Some x y e)
front_or_last [] x y (suc i) e = absurd (none-some y e)
front_or_last (z ∷ xs) x y zero e = inl e
front_or_last (z ∷ xs) x y (suc i) e = by (front_or_last xs x y i e)
  where
    by : (slice_get xs i ≡ Some y) ⊎ ((i ≡ length xs) × (x ≡ y)) → (slice_get xs i ≡ Some y) ⊎ ((suc i ≡ suc (length xs)) × (x ≡ y))
    by (inl there) = inl there
    by (inr (last, is)) = inr (ap suc last, is)

-- the client at place i has it after those that it had
pub housed_more : (all : List (List (ℕ × Port))) (connections : List ConnectionSlot) (i : ℕ) (pairs : List (ℕ × Port)) (node number : ℕ) (place : ConnectionSlot)
    → slice_get all i ≡ Some pairs → number ≡ suc (length connections) → place.client ≡ i → place.at ≡ length pairs → suc node ≡ place.node → SlotsAreValid all connections
    → SlotsAreValid (set all i (pairs ++ (node, record { 0 = number }) ∷ [])) (connections ++ place ∷ [])
housed_more all connections i pairs node number place at counted client last numbered h =
    record {
      known = λ n p e. known n p (front_or_last connections place p n e);
      used = λ j k m port ws there e. used j k m port ws e (set_get all i j pairs more ws at there);
    }
  where
    new : ℕ × Port
    new = (node, record { 0 = number })

    more : List (ℕ × Port)
    more = pairs ++ new ∷ []

    longer : length (connections ++ place ∷ []) ≡ suc (length connections)
    longer = let e = length-append connections (place ∷ []) in omega (arith, e)

    there_still : (p : ConnectionSlot) (n : ℕ) (l : LeadsThere all n p) → (p.client ≡ i) ⊎ (p.client ≡ i → ⊥) → LeadsThere (set all i more) n p
    there_still p n l (inl same) =
        let is : l.pairs ≡ pairs = same_Some l.pairs pairs (sym l.client ∙ ap (slice_get all) same ∙ at) in
        record {
          pairs = more;
          node = l.node;
          client = ap (slice_get (set all i more)) same ∙ get_set all i pairs more at;
          pair = get_front pairs new (l.node, record { 0 = n }) p.at (ap (λ (ws : List (ℕ × Port)). slice_get ws p.at) (sym is) ∙ l.pair);
          numbered = l.numbered;
        }
    there_still p n l (inr other) =
        record { pairs = l.pairs; node = l.node; client = get_set_other all i p.client more other ∙ l.client; pair = l.pair; numbered = l.numbered }

    known : (n : ℕ) (p : ConnectionSlot) → (slice_get connections n ≡ Some p) ⊎ ((n ≡ length connections) × (place ≡ p)) → LeadsThere (set all i more) (suc n) p
    known n p (inl there) = there_still p (suc n) (h.known n p there) (same_or_other p.client i)
    known n p (inr (end, is)) =
        let number_is : number ≡ suc n = counted ∙ ap suc (sym end) in
        subst (λ (q : ConnectionSlot). LeadsThere (set all i more) (suc n) q) is
        (record {
          pairs = more;
          node = node;
          client = ap (slice_get (set all i more)) client ∙ get_set all i pairs more at;
          pair = ap (slice_get more) last ∙ get_pushed pairs new ∙ ap (λ (k : ℕ). Some (node, (let q : Port = record { 0 = k } in q))) number_is;
          numbered = numbered;
        })

    below : (j k m : ℕ) (port : Port) (ws : List (ℕ × Port)) → slice_get all j ≡ Some ws → slice_get ws k ≡ Some (m, port) → port.0 ≤ length (connections ++ place ∷ [])
    below j k m port ws there e = let u = h.used j k m port ws there e in let l = longer in omega (arith, u, l)

    used_by : (k m : ℕ) (port : Port) → (slice_get pairs k ≡ Some (m, port)) ⊎ ((k ≡ length pairs) × (new ≡ (m, port))) → port.0 ≤ length (connections ++ place ∷ [])
    used_by k m port (inl e) = below i k m port pairs at e
    used_by k m port (inr (end, is)) =
        let same : number ≡ port.0 = ap (λ (z : ℕ × Port). z.1.0) is in let l = longer in omega (arith, same, l, counted)

    used : (j k m : ℕ) (port : Port) (ws : List (ℕ × Port)) → slice_get ws k ≡ Some (m, port) → ((j ≡ i) × (more ≡ ws)) ⊎ ((j ≡ i → ⊥) × (slice_get all j ≡ Some ws))
        → port.0 ≤ length (connections ++ place ∷ [])
    used j k m port ws e (inl (same, is)) = used_by k m port (front_or_last pairs new (m, port) k (ap (λ (l : List (ℕ × Port)). slice_get l k) is ∙ e))
    used j k m port ws e (inr (other, there)) = below j k m port ws there e
