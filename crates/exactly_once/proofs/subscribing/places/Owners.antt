-- Whose current connection a connection is.
use Rattle.std.proofs.Common.{◌≡◌, Bool, true, false, if◌then◌else◌, List, [], ◌∷◌, filter, Option, Some, None, is_some, refl, ap, sym, ◌∙◌, subst, ◌⊎◌, inl, inr}
use Rattle.std.proofs.lemmas.Bool.{both_ways, cases_Bool}
use Rattle.broker_spec.specs.Connection.{ConnectionName, same_connection}
use Rattle.broker_spec.specs.Place.{Client, Past}
use Rattle.broker_spec.specs.Sessions.{any_connection, current_connection, clean_session_of}
use Rattle.broker_spec.specs.Owner.{named, clients, first_client, owner_of}
use Rattle.broker_spec.proofs.ClientsInOrder.{IsAbove, Rising, rising_named, IsNamed, session_is_named}
use Rattle.broker_base.proofs.QuietPasts.{no_connection}
use Rattle.exactly_once.proofs.subscribing.events.Leaving.{same_name}

-- the one that is found passes the test
found_passes : (test : Client → Bool) (ds : List Client) (d : Client) → first_client test ds ≡ Some d → test d ≡ true
found_passes test [] d e = absurd (cc)
found_passes test (b ∷ ds) d e = by (cases_Bool (test b)) (found_passes test ds d)
  where
    by : (test b ≡ true) ⊎ (test b ≡ false) → (first_client test ds ≡ Some d → test d ≡ true) → test d ≡ true
    by (inl t) ih = let f : Some b ≡ Some d = sym (ap (λ z. if z then Some b else first_client test ds) t) ∙ e in let g : b ≡ d = cc in subst (λ (z : Client). test z ≡ true) g t
    by (inr t) ih = ih (sym (ap (λ z. if z then Some b else first_client test ds) t) ∙ e)

-- a connection of which the test holds is that connection
pub is_that : (x : ConnectionName) (current : Option ConnectionName) → any_connection (same_connection x) current ≡ true → current ≡ Some x
is_that x None e = absurd (both_ways false refl e)
is_that x (Some y) e = ap (λ z. Some z) (sym (same_name x y e))

-- the owner is served on it
pub owner_is : (past : Past) (x : ConnectionName) (d : Client) → owner_of past x ≡ Some d → current_connection past d ≡ Some x
owner_is past x d e = is_that x (current_connection past d) (found_passes (λ c. any_connection (same_connection x) (current_connection past c)) (clients past) d e)

-- ---- the clients

-- those that are kept of rising ones rise
above_filter : (test : Client → Bool) (c : Client) (ds : List Client) → IsAbove c ds → IsAbove c (filter test ds)
above_filter test c [] h = tt
above_filter test c (d ∷ ds) h = by (test d) (above_filter test c ds h.1)
  where
    by : (b : Bool) → IsAbove c (filter test ds) → IsAbove c (if b then d ∷ filter test ds else filter test ds)
    by true k = (h.0, k)
    by false k = k

-- all of them
rising_filter : (test : Client → Bool) (ds : List Client) → Rising ds → Rising (filter test ds)
rising_filter test [] h = tt
rising_filter test (d ∷ ds) h = by (test d) (rising_filter test ds h.1)
  where
    by : (b : Bool) → Rising (filter test ds) → Rising (if b then d ∷ filter test ds else filter test ds)
    by true k = (above_filter test d ds h.0, k)
    by false k = k

-- the clients rise
pub rising_clients : (past : Past) → Rising (clients past)
rising_clients past = rising_filter (λ c. is_some (clean_session_of past c)) (named past) (rising_named past)

-- one that passes is kept
named_filter : (test : Client → Bool) (c : Client) (ds : List Client) → test c ≡ true → IsNamed c ds → IsNamed c (filter test ds)
named_filter test c [] t h = absurd h
named_filter test c (d ∷ ds) t (inl e) = rw (ap test (sym e) ∙ t) (inl e)
named_filter test c (d ∷ ds) t (inr h) = by (test d) (named_filter test c ds t h)
  where
    by : (b : Bool) → IsNamed c (filter test ds) → IsNamed c (if b then d ∷ filter test ds else filter test ds)
    by true k = inr k
    by false k = k

-- a client that is served is among them
pub served_named : (past : Past) (c : Client) (x : ConnectionName) → current_connection past c ≡ Some x → IsNamed c (clients past)
served_named past c x e = by (clean_session_of past c) refl (session_is_named past c)
  where
    by : (session : Option Bool) → clean_session_of past c ≡ session → (clean_session_of past c ≡ None) ⊎ IsNamed c (named past) → IsNamed c (clients past)
    by None s h = absurd (let none : current_connection past c ≡ None = no_connection past c s in cc)
    by (Some clean) s (inl n) = absurd (let f : None ≡ Some clean = sym n ∙ s in cc)
    by (Some clean) s (inr h) = named_filter (λ d. is_some (clean_session_of past d)) c (named past) (ap is_some s) h
