-- Which of a client's publications are new in a list depends only on the list.
use Rattle.std.proofs.Common.{◌≡◌, ℕ, Bool, true, false, ◌&&◌, if◌then◌else◌, List, [], ◌∷◌, ◌++◌, map, Option, Some, None, refl, sym, ap, ap₂, ◌∙◌, subst}
use Rattle.std.specs.Prelude.{slice_get}
use Rattle.std.proofs.lemmas.Bool.{both_ways}
use Rattle.std.proofs.lemmas.List.{map-append}
use Rattle.std.proofs.lemmas.Option.{none-some}
use Rattle.packet.specs.declared.packet.Packet.TheVariants as packets
use Rattle.packet.specs.declared.publish.Publish.{Publish}
use Rattle.session_base.specs.Publication.{publication_of}
use Rattle.session_base.specs.declared.publication.Publication.{Publication}
use Rattle.broker_spec.specs.declared.command.Command.{Command}
use Rattle.broker_spec.specs.declared.command.Command.TheVariants as commands
use Rattle.broker_spec.specs.Marks.{is_refused, mark_of, packet_mark_of}
use Rattle.broker_spec.specs.Owner.{owner_of}
use Rattle.broker_spec.specs.Place.{Client, Limits, Mark, Past, same_client}
use Rattle.broker_spec.specs.Received.{is_exactly_once, is_new, is_repeat}
use Rattle.broker_spec.proofs.ClientsInOrder.{same_is, same_self}
use Rattle.broker_spec.proofs.MarksOfPlaces.{AreMarked}
use Rattle.exactly_once.specs.Carried.{carries, more_by, new_numbers}
use Rattle.exactly_once.specs.Sides.{ClientConnection}
use Rattle.exactly_once.proofs.carrying.PlacesSay.{PlacesSay, Says}
use Rattle.headline.specs.Shown.{new_at, new_of}
use Rattle.headline.proofs.OwnCarried.{CarriesOwn, OwnAreCarried}

-- ---- one place

only_own : (r f : Bool) (c d : Client) → (if r then Mark.Repeat c else if f then Mark.Refused c else Mark.Taken c) ≡ Mark.Taken d → d ≡ c
only_own true f c d e = cc
only_own false true c d e = cc
only_own false false c d e = cc

-- a publication is taken for the client whose current connection it comes on
pub owner_taken : (limits : Limits) (past : Past) (p : Publish) (o : Option Client) (d : Client) → packet_mark_of limits past (packets.Publish p) o ≡ Mark.Taken d → o ≡ Some d
owner_taken limits past p None d e = cc
owner_taken limits past p (Some c) d e = ap (λ (k : Client). Some k) (sym (only_own (is_repeat past c p.delivery) (is_refused limits past (publication_of p)) c d e))

-- the number and the publication of one that is new, if it is the client's
picked : (get : ℕ → Option Publication) (same new : Bool) (o : Option ℕ) (q : Publication) → ((k : ℕ) → o ≡ Some k → same ≡ true) → (same ≡ true → (k : ℕ) × (o ≡ Some k))
    → ((k : ℕ) → o ≡ Some k → get k ≡ Some q) → map get (more_by new o) ≡ map (λ (r : Publication). Some r) (if same && new then q ∷ [] else [])
picked get true true (Some k) q own mine is = ap (λ (x : Option Publication). x ∷ []) (is k refl)
picked get true true None q own mine is = absurd (let z = mine refl in none-some z.0 z.1)
picked get false true (Some k) q own mine is = absurd (both_ways false refl (own k refl))
picked get false true None q own mine is = refl
picked get true false (Some k) q own mine is = refl
picked get true false None q own mine is = refl
picked get false false (Some k) q own mine is = refl
picked get false false None q own mine is = refl

module _ (limits : Limits) (c : Client) (ps : List Publication) (connections : List ClientConnection) where
  abbrev get : ℕ → Option Publication
  get = slice_get ps

  none : (o : Option ℕ) → map get (more_by false o) ≡ []
  none (Some k) = refl
  none None = refl

  -- what a place of this command and this mark has new
  one_new : (command : Command) (mark : Mark) (below : Past) → Says c ps connections (record { command = command; mark = mark }) below → CarriesOwn c connections command below
      → mark ≡ mark_of limits below command
      → map get (more_by (is_new command mark) (carries connections command below)) ≡ map (λ (r : Publication). Some r) (new_at c command mark)
  one_new (commands.Packet x (packets.Publish p)) (Mark.Taken d) below says own marked =
      picked get (same_client d c) (is_exactly_once p.delivery) (carries connections (commands.Packet x (packets.Publish p)) below) (publication_of p)
      (λ k e. subst (λ (z : Client). same_client z c ≡ true) (sym (says.own k e d refl)) (same_self c))
      (λ same. own x p refl (owner_taken limits below p (owner_of below x) d (sym marked) ∙ ap (λ (z : Client). Some z) (same_is d c same)))
      (λ k e. says.of k x p e refl)
  one_new (commands.Packet x (packets.Publish p)) Mark.Unmarked below says own marked = none (carries connections (commands.Packet x (packets.Publish p)) below)
  one_new (commands.Packet x (packets.Publish p)) Mark.Accepted below says own marked = none (carries connections (commands.Packet x (packets.Publish p)) below)
  one_new (commands.Packet x (packets.Publish p)) Mark.Full below says own marked = none (carries connections (commands.Packet x (packets.Publish p)) below)
  one_new (commands.Packet x (packets.Publish p)) (Mark.Leaves d) below says own marked = none (carries connections (commands.Packet x (packets.Publish p)) below)
  one_new (commands.Packet x (packets.Publish p)) (Mark.Refused d) below says own marked = none (carries connections (commands.Packet x (packets.Publish p)) below)
  one_new (commands.Packet x (packets.Publish p)) (Mark.Repeat d) below says own marked = none (carries connections (commands.Packet x (packets.Publish p)) below)
  one_new (commands.Packet x (packets.Publish p)) (Mark.Granted d which) below says own marked = none (carries connections (commands.Packet x (packets.Publish p)) below)
  one_new (commands.Packet x (packets.Publish p)) (Mark.Handled d) below says own marked = none (carries connections (commands.Packet x (packets.Publish p)) below)
  one_new (commands.Packet x packet) mark below says own marked = refl
  one_new (commands.Connect x d clean) mark below says own marked = refl
  one_new (commands.Lost x) mark below says own marked = refl
  one_new (commands.Start ballot) mark below says own marked = refl
  one_new (commands.Expel d) mark below says own marked = refl

  -- ---- all places

  pub all_new : (past : Past) → PlacesSay c ps connections past → OwnAreCarried c connections past → AreMarked limits past
      → map get (new_numbers connections past) ≡ map (λ (r : Publication). Some r) (new_of c past)
  all_new [] says own marked = refl
  all_new (place ∷ below) says own marked =
      map-append get (new_numbers connections below) (more_by (is_new place.command place.mark) (carries connections place.command below))
      ∙ ap₂ (λ (a b : List (Option Publication)). a ++ b) (all_new below says.1 own.1 marked.1) (one_new place.command place.mark below says.0 own.0 marked.0)
      ∙ sym (map-append (λ (r : Publication). Some r) (new_of c below) (new_at c place.command place.mark))
