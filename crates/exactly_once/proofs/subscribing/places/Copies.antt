-- Of all copies that a place hands out, a connection is sent those of the client that is served on it.
use Rattle.std.proofs.Common.{◌≡◌, true, false, List, [], ◌∷◌, ◌++◌, Some, refl, ap, ap₂, sym, ◌∙◌, subst, ◌⊎◌, inl, inr}
use Rattle.std.specs.Prelude.{flat_map}
use Rattle.std.specs.declared.cmp.Ordering.TheVariants.{Less}
use Rattle.std.proofs.lemmas.List.{append-nil}
use Rattle.std.proofs.lemmas.Bool.{both_ways, cases_Bool}
use Rattle.broker_spec.specs.Connection.{ConnectionName, same_connection}
use Rattle.broker_spec.specs.Place.{Client, by_bytes, Place, Past, Limits}
use Rattle.broker_spec.specs.Sessions.{any_connection, current_connection}
use Rattle.broker_spec.specs.Owner.{clients}
use Rattle.broker_spec.specs.Sends.{deliveries_to}
use Rattle.broker_spec.specs.declared.command.Output.{Output}
use Rattle.broker_spec.proofs.ClientsInOrder.{by_bytes_self, IsAbove, Rising, IsNamed}
use Rattle.exactly_once.specs.Sends.{sends_to}
use Rattle.exactly_once.proofs.Deliveries.{sends_append, IsElsewhere, deliveries_elsewhere}
use Rattle.exactly_once.proofs.subscribing.places.Owners.{rising_clients, served_named, is_that}

-- one that comes before is another
above_not : (c d : Client) → by_bytes c d ≡ Less → c ≡ d → ⊥
above_not c d h e = let f : by_bytes c c ≡ Less = subst (λ (z : Client). by_bytes c z ≡ Less) (sym e) h in let g = sym (by_bytes_self c) ∙ f in cc

-- nothing for those that are others
none_of : (x : ConnectionName) (f : Client → List Output) (c : Client) (ds : List Client) → ((d : Client) → (c ≡ d → ⊥) → sends_to x (f d) ≡ []) → IsAbove c ds → sends_to x (flat_map f ds) ≡ []
none_of x f c [] h a = refl
none_of x f c (d ∷ ds) h a = sends_append x (f d) (flat_map f ds) ∙ ap₂ (λ u v. u ++ v) (h d (above_not c d a.0)) (none_of x f c ds h a.1)

-- those of one, if the others are sent nothing
those_of : (x : ConnectionName) (f : Client → List Output) (c : Client) (ds : List Client) → ((d : Client) → (c ≡ d → ⊥) → sends_to x (f d) ≡ []) → Rising ds → IsNamed c ds
    → sends_to x (flat_map f ds) ≡ sends_to x (f c)
those_of x f c [] h r n = absurd n
those_of x f c (d ∷ ds) h r (inl e) =
    sends_append x (f d) (flat_map f ds)
    ∙ ap₂ (λ u v. u ++ v) (ap (λ (z : Client). sends_to x (f z)) (sym e)) (none_of x f c ds h (subst (λ (z : Client). IsAbove z ds) (sym e) r.0))
    ∙ append-nil (sends_to x (f c))
those_of x f c (d ∷ ds) h r (inr n) =
    sends_append x (f d) (flat_map f ds) ∙ ap₂ (λ u v. u ++ v) (h d (λ e. not_above c d ds e r.0 n)) (those_of x f c ds h r.1 n)
  where
    not_above : (c d : Client) (ds : List Client) → c ≡ d → IsAbove d ds → IsNamed c ds → ⊥
    not_above c d [] e a n = n
    not_above c d (b ∷ ds) e a (inl g) = above_not d b a.0 (sym e ∙ g)
    not_above c d (b ∷ ds) e a (inr n) = not_above c d ds e a.1 n

-- if no other client is served on the connection
abbrev pub NoneElse : Past → ConnectionName → Client → Type 0
NoneElse past x c = (d : Client) → current_connection past d ≡ Some x → c ≡ d

-- any other is elsewhere
pub else_where : (past : Past) (x : ConnectionName) (c d : Client) → NoneElse past x c → (c ≡ d → ⊥) → IsElsewhere x past d
else_where past x c d none n = by (cases_Bool (any_connection (same_connection x) (current_connection past d)))
  where
    by : (any_connection (same_connection x) (current_connection past d) ≡ true) ⊎ (any_connection (same_connection x) (current_connection past d) ≡ false) → IsElsewhere x past d
    by (inl e) = absurd (n (none d (is_that x (current_connection past d) e)))
    by (inr e) = e

-- no client is served on it
none_served : (limits : Limits) (place : Place) (past : Past) (x : ConnectionName) (ds : List Client) → ((d : Client) → IsElsewhere x past d) → sends_to x (flat_map (deliveries_to limits place past) ds) ≡ []
none_served limits place past x [] h = refl
none_served limits place past x (d ∷ ds) h =
    sends_append x (deliveries_to limits place past d) (flat_map (deliveries_to limits place past) ds)
    ∙ ap₂ (λ u v. u ++ v) (deliveries_elsewhere limits place past x d (h d)) (none_served limits place past x ds h)

-- a connection is sent the copies of one client
pub copies_to_one : (limits : Limits) (place : Place) (past : Past) (x : ConnectionName) (c : Client) → NoneElse past x c
    → sends_to x (flat_map (deliveries_to limits place past) (clients past)) ≡ sends_to x (deliveries_to limits place past c)
copies_to_one limits place past x c none = by (cases_Bool (any_connection (same_connection x) (current_connection past c)))
  where
    by : (any_connection (same_connection x) (current_connection past c) ≡ true) ⊎ (any_connection (same_connection x) (current_connection past c) ≡ false)
        → sends_to x (flat_map (deliveries_to limits place past) (clients past)) ≡ sends_to x (deliveries_to limits place past c)
    by (inl e) =
        those_of x (deliveries_to limits place past) c (clients past) (λ d n. deliveries_elsewhere limits place past x d (else_where past x c d none n)) (rising_clients past)
        (served_named past c x (is_that x (current_connection past c) e))
    by (inr e) =
        none_served limits place past x (clients past) (λ d. nobody d (cases_Bool (any_connection (same_connection x) (current_connection past d))))
        ∙ sym (deliveries_elsewhere limits place past x c e)
      where
        nobody : (d : Client) → (any_connection (same_connection x) (current_connection past d) ≡ true) ⊎ (any_connection (same_connection x) (current_connection past d) ≡ false) → IsElsewhere x past d
        nobody d (inr f) = f
        nobody d (inl f) =
            absurd (both_ways (any_connection (same_connection x) (current_connection past d))
            (subst (λ (z : Client). IsElsewhere x past z) (none d (is_that x (current_connection past d) f)) e) f)
