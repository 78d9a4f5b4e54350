-- A client is found by its identifier where it was, as long as identifiers stay.
use Rattle.std.proofs.Common.{◌≡◌, ◌+◌, ℕ, Bool, cond, List, [], ◌∷◌, Option, Some, None, length, map, set, slice_get, refl, sym, ap, ◌∙◌}
use Rattle.std.specs.Prelude.{bytes_eq, nat_lt, not}
use Rattle.std.specs.List.{position, position_or_len, prefix_len}
use Rattle.std.proofs.lemmas.List.{length-map, map-set}
use Rattle.std.proofs.lemmas.Option.{none-some, same_Some}
use Rattle.client.specs.Core.{Core}
use Rattle.headline.proofs.of_node_group.Placed.{get_mapped}
use Rattle.world_pipes.specs.declared.clients.world_client.WorldClient.{WorldClient}
use Rattle.world.specs.Found.{core_at, core_named, core_of}
use Rattle.world_pipes.specs.clients.Clients.{is_named}
use Rattle.world.proofs.PassesOn.{seen_of}
use Rattle.world.proofs.StandsThere.{core_found}
use Rattle.world_pipes.proofs.of_clients.Turned.{mapped_from, set_itself}

-- ---- the place at which a test passes first

prefix_mapped : {X Y : Type 0} (f : X → Y) (test : Y → Bool) (xs : List X) → prefix_len (λ (x : X). test (f x)) xs ≡ prefix_len test (map f xs)
prefix_mapped f test [] = refl
prefix_mapped f test (x ∷ xs) = ap (λ (n : ℕ). cond (test (f x)) (1 + n) 0) (prefix_mapped f test xs)

position_mapped : {X Y : Type 0} (f : X → Y) (test : Y → Bool) (xs : List X) → position (λ (x : X). test (f x)) xs ≡ position test (map f xs)
position_mapped f test xs =
    ap (λ (n : ℕ). cond (nat_lt n (length xs)) (Some n) None) (prefix_mapped f (λ y. not (test y)) xs)
    ∙ ap (λ (k : ℕ). cond (nat_lt (position_or_len test (map f xs)) k) (Some (position_or_len test (map f xs))) None) (sym (length-map xs f))

-- ---- identifiers

abbrev pub names_of : List WorldClient → List (List ℕ)
names_of clients = map (λ (c : WorldClient). c.name) clients

pub position_kept : (name : List ℕ) (xs ys : List WorldClient) → names_of xs ≡ names_of ys → position (is_named name) xs ≡ position (is_named name) ys
position_kept name xs ys same =
    position_mapped (λ (c : WorldClient). c.name) (λ (n : List ℕ). bytes_eq n name) xs
    ∙ ap (position (λ (n : List ℕ). bytes_eq n name)) same
    ∙ sym (position_mapped (λ (c : WorldClient). c.name) (λ (n : List ℕ). bytes_eq n name) ys)

-- one client changes, and keeps its identifier
pub names_set : (clients : List WorldClient) (i : ℕ) (client new : WorldClient) → slice_get clients i ≡ Some client → new.name ≡ client.name → names_of (set clients i new) ≡ names_of clients
names_set clients i client new found same =
    map-set (λ (c : WorldClient). c.name) clients i new
    ∙ ap (set (names_of clients) i) same
    ∙ set_itself (names_of clients) i client.name (get_mapped (λ (c : WorldClient). c.name) clients i client found)

names_of_seen : (clients : List WorldClient) → names_of clients ≡ map (λ (z : List ℕ × Core). z.0) (map seen_of clients)
names_of_seen [] = refl
names_of_seen (c ∷ clients) = ap (λ (l : List (List ℕ)). c.name ∷ l) (names_of_seen clients)

-- of each its identifier and its core stay
pub names_seen : (xs ys : List WorldClient) → map seen_of xs ≡ map seen_of ys → names_of xs ≡ names_of ys
names_seen xs ys same = names_of_seen xs ∙ ap (map (λ (z : List ℕ × Core). z.0)) same ∙ sym (names_of_seen ys)

-- ---- the client of an identifier

pub record NamedThere (name : List ℕ) (core : Core) (clients : List WorldClient) : Type 0 where
  pub at : ℕ
  pub first : position (is_named name) clients ≡ Some at
  pub client : WorldClient
  pub found : slice_get clients at ≡ Some client
  pub is : client.piped.core ≡ core

pub named_there : (name : List ℕ) (core : Core) (clients : List WorldClient) → core_named name clients ≡ Some core → NamedThere name core clients
named_there name core clients e = by (position (is_named name) clients) refl e
  where
    there : (at : ℕ) → position (is_named name) clients ≡ Some at → (o : Option WorldClient) → slice_get clients at ≡ o → core_of o ≡ Some core → NamedThere name core clients
    there at first None found g = absurd (none-some core g)
    there at first (Some client) found g = record { at = at; first = first; client = client; found = found; is = same_Some client.piped.core core g }

    by : (o : Option ℕ) → position (is_named name) clients ≡ o → core_at o clients ≡ Some core → NamedThere name core clients
    by None f g = absurd (none-some core g)
    by (Some at) f g = there at f (slice_get clients at) refl g

pub core_seen : (name : List ℕ) (core : Core) (xs ys : List WorldClient) → map seen_of xs ≡ map seen_of ys → core_named name ys ≡ Some core → core_named name xs ≡ Some core
core_seen name core xs ys same e =
    let n = named_there name core ys e in
    let x = mapped_from seen_of xs n.at (seen_of n.client)
    (ap (λ (l : List (List ℕ × Core)). slice_get l n.at) same ∙ get_mapped seen_of ys n.at n.client n.found) in
    core_found name xs n.at x.x (position_kept name xs ys (names_seen xs ys same) ∙ n.first) x.found
    ∙ ap Some (ap (λ (z : List ℕ × Core). z.1) x.is ∙ n.is)
