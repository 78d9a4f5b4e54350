-- Which client has one of a client's connections as its current one, if no other client is on any
-- of them.
use Rattle.std.proofs.Common.{◌≡◌, Bool, true, false, List, Option, Some, None, refl, ap, sym, subst}
use Rattle.std.specs.Prelude.{is_some}
use Rattle.std.proofs.lemmas.Bool.{both_ways}
use Rattle.broker_spec.specs.Connection.{ConnectionName, same_connection}
use Rattle.broker_spec.specs.Place.{Client, Past, same_client}
use Rattle.broker_spec.specs.Sessions.{any_connection, current_connection}
use Rattle.broker_spec.specs.Owner.{owner_of}
use Rattle.broker_spec.proofs.ClientsInOrder.{same_is}
use Rattle.exactly_once.specs.Sides.{ClientConnection}
use Rattle.exactly_once.specs.StoryCommands.{any_named}
use Rattle.broker_spec.proofs.ConnectionNames.{same_name, same_itself}
use Rattle.exactly_once.proofs.places.Owners.{owner_has, owner_there}

-- no other client is on one of these connections
abbrev pub NobodyElse : Past → Client → List ClientConnection → Type 0
NobodyElse past c connections = (d : Client) (x : ConnectionName) → current_connection past d ≡ Some x → any_named (same_connection x) connections ≡ true → same_client d c ≡ true

-- a connection that passes the test of a name has that name
pub current_named : (x : ConnectionName) (o : Option ConnectionName) → any_connection (same_connection x) o ≡ true → o ≡ Some x
current_named x None e = absurd (both_ways false refl e)
current_named x (Some y) e = ap (λ z. Some z) (sym (same_name x y e))

-- an owner of one of them is the client, which has it
pub owner_is_own : (past : Past) (c d : Client) (connections : List ClientConnection) (x : ConnectionName) → NobodyElse past c connections → any_named (same_connection x) connections ≡ true
    → owner_of past x ≡ Some d → (d ≡ c) × (current_connection past c ≡ Some x)
owner_is_own past c d connections x nobody named e =
    let has : current_connection past d ≡ Some x = current_named x (current_connection past d) (owner_has past x d e) in
    let same : d ≡ c = same_is d c (nobody d x has named) in
    (same, subst (λ (k : Client). current_connection past k ≡ Some x) same has)

-- one that is not current has no client
pub none_owns : (past : Past) (c : Client) (connections : List ClientConnection) (x : ConnectionName) → NobodyElse past c connections → any_named (same_connection x) connections ≡ true
    → (current_connection past c ≡ Some x → ⊥) → owner_of past x ≡ None
none_owns past c connections x nobody named not = by (owner_of past x) refl
  where
    by : (o : Option Client) → owner_of past x ≡ o → o ≡ None
    by None e = refl
    by (Some d) e = absurd (not (owner_is_own past c d connections x nobody named e).1)

-- the current one is the client's own
pub own_owner : (past : Past) (c : Client) (connections : List ClientConnection) (x : ConnectionName) → NobodyElse past c connections → any_named (same_connection x) connections ≡ true
    → current_connection past c ≡ Some x → owner_of past x ≡ Some c
own_owner past c connections x nobody named current = by (owner_of past x) refl (owner_there past x x c current (same_itself x))
  where
    by : (o : Option Client) → owner_of past x ≡ o → is_some o ≡ true → o ≡ Some c
    by None e some = absurd (both_ways false refl some)
    by (Some d) e some = ap (λ k. Some k) (owner_is_own past c d connections x nobody named e).0

-- an owner of a connection that is not one of them is not the client
pub owner_is_other : (past : Past) (c d : Client) (connections : List ClientConnection) (x : ConnectionName)
    → ((y : ConnectionName) → current_connection past c ≡ Some y → any_named (same_connection y) connections ≡ true) → any_named (same_connection x) connections ≡ false
    → owner_of past x ≡ Some d → same_client d c ≡ false
owner_is_other past c d connections x mine unnamed e = by (same_client d c) refl
  where
    by : (b : Bool) → same_client d c ≡ b → b ≡ false
    by false s = refl
    by true s =
        let has : current_connection past d ≡ Some x = current_named x (current_connection past d) (owner_has past x d e) in
        absurd (both_ways (any_named (same_connection x) connections) unnamed (mine x (subst (λ (k : Client). current_connection past k ≡ Some x) (same_is d c s) has)))
