-- What a place that carries a publication of the client says about it, in every later story too.
use Rattle.std.proofs.Common.{◌≡◌, ℕ, Bool, true, false, List, [], ◌∷◌, Some, None, sym, ◌∙◌, subst, arith}
use Rattle.std.specs.Prelude.{slice_get}
use Rattle.packet.specs.declared.publish.Publish.{Publish}
use Rattle.packet.specs.declared.packet.Packet.TheVariants as packets
use Rattle.session_base.specs.declared.publication.Publication.{Publication}
use Rattle.session_base.specs.Publication.{publication_of}
use Rattle.broker_spec.specs.Connection.{ConnectionName}
use Rattle.broker_spec.specs.Place.{Client, Mark, Place, Past}
use Rattle.broker_spec.specs.declared.command.Command.TheVariants as commands
use Rattle.lists.specs.Lists.{In, IsPrefixOf}
use Rattle.lists.proofs.Prefixes.{prefix_get}
use Rattle.exactly_once.specs.Sides.{ClientConnection}
use Rattle.exactly_once.specs.Carried.{carries, new_numbers}
use Rattle.exactly_once.proofs.places.Counts.{counted_still}
use Rattle.exactly_once.proofs.publishing.kept.Numbers.{SameNumbers, same_carries, same_numbers}

-- another try of a PUBLISH that was taken
abbrev pub is_again : Mark → Bool
is_again (Mark.Repeat c) = true
is_again _ = false

pub record Says (c : Client) (ps : List Publication) (connections : List ClientConnection) (place : Place) (past : Past) : Type 0 where
  -- a repeat is of a publication that was new below
  pub known : (k : ℕ) → carries connections place.command past ≡ Some k → is_again place.mark ≡ true → In k (new_numbers connections past)
  -- one is taken for the client
  pub own : (k : ℕ) → carries connections place.command past ≡ Some k → (d : Client) → place.mark ≡ Mark.Taken d → d ≡ c
  -- the PUBLISH is that of the publication
  pub of : (k : ℕ) (x : ConnectionName) (p : Publish) → carries connections place.command past ≡ Some k → place.command ≡ commands.Packet x (packets.Publish p)
      → slice_get ps k ≡ Some (publication_of p)

abbrev pub PlacesSay : Client → List Publication → List ClientConnection → Past → Type 0
PlacesSay c ps connections (place ∷ past) = Says c ps connections place past × PlacesSay c ps connections past
PlacesSay c ps connections [] = Unit {0}

-- a place that carries nothing
pub says_nothing : (c : Client) (ps : List Publication) (connections : List ClientConnection) (place : Place) (past : Past) → carries connections place.command past ≡ None → Says c ps connections place past
says_nothing c ps connections place past none =
    record {
      known = λ k e again. absurd (never k e);
      own = λ k e d taken. absurd (never k e);
      of = λ k x p e is. absurd (never k e);
    }
  where
    never : (k : ℕ) → carries connections place.command past ≡ Some k → ⊥
    never k e = let found : None ≡ Some k = sym none ∙ e in cc

pub numbers_below : (connections later : List ClientConnection) (place : Place) (past : Past) → SameNumbers connections later (place ∷ past) → SameNumbers connections later past
numbers_below connections later place past same x j less = let more = counted_still x place past in same x j (omega (arith, less, more))

-- in a later story
says_later : (c : Client) (ps qs : List Publication) (connections later : List ClientConnection) (place : Place) (past : Past) → IsPrefixOf ps qs → SameNumbers connections later (place ∷ past)
    → Says c ps connections place past → Says c qs later place past
says_later c ps qs connections later place past front same says =
    let carried = sym (same_carries connections later place past same) in
    let numbers = sym (same_numbers connections later past (numbers_below connections later place past same)) in
    record {
      known = λ k e again. subst (In k) numbers (says.known k (carried ∙ e) again);
      own = λ k e d taken. says.own k (carried ∙ e) d taken;
      of = λ k x p e is. prefix_get k (publication_of p) front (says.of k x p (carried ∙ e) is);
    }

pub places_later : (c : Client) (ps qs : List Publication) (connections later : List ClientConnection) (past : Past) → IsPrefixOf ps qs → SameNumbers connections later past
    → PlacesSay c ps connections past → PlacesSay c qs later past
places_later c ps qs connections later [] front same all = tt
places_later c ps qs connections later (place ∷ past) front same all = (
  says_later c ps qs connections later place past front same all.0,
  places_later c ps qs connections later past front (numbers_below connections later place past same) all.1,
)
