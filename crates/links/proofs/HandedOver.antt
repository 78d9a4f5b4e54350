-- HandedOver.antt: parcels that are handed to a sink, one after the other.
use Rattle.std.proofs.Common.{◌≡◌, ℕ, true, Option, Some, None, List, [], ◌∷◌, ◌++◌, Result, Ok, Err, refl, sym, ap, ◌∙◌, subst, append_assoc, append-nil}
use Rattle.std.specs.Prelude.{IsErrOf}
use Rattle.std.specs.Io.KnownBytes.{Consumes}
use Rattle.links.specs.declared.parcel.Parcel.{Parcel}
use Rattle.links.specs.declared.link_fault.LinkFault.{LinkFault}
use Rattle.links.specs.declared.link_fault.LinkFault.TheVariants as faults
use Rattle.links.specs.Links.{LinkView, Hands, IsDry, with_bytes}
use Rattle.links.specs.Stands.{Refuses, Stands}
use Rattle.links.specs.Reading.{AddsSo, HandsOver, ReadsPiece}
use Rattle.links.proofs.Handing.{hands_join}
use Rattle.links.proofs.Stepping.{hands_none}

-- parcels were handed over so far
abbrev pub HasHanded : LinkView → LinkView → List Parcel → List Parcel → Type 0
HasHanded old now before after = (parcels : List Parcel) × Hands old parcels now × (after ≡ before ++ parcels)

pub handed_none : (view : LinkView) (before : List Parcel) → HasHanded view view before before
handed_none view before = ([], hands_none view, sym (append-nil before))

pub handed_more : (a b c : LinkView) (before mid after : List Parcel) (parcel : Parcel) → HasHanded a b before mid → Hands b (parcel ∷ []) c
    → after ≡ mid ++ parcel ∷ [] → HasHanded a c before after
handed_more a b c before mid after parcel (parcels, h, heard) k e =
    (parcels ++ parcel ∷ [], hands_join a b c parcels (parcel ∷ []) h k, e ∙ ap (λ (l : List Parcel). l ++ parcel ∷ []) heard ∙ append_assoc before parcels (parcel ∷ []))

on : (a b c : LinkView) (parcels : List Parcel) → Hands a parcels b → Hands b [] c → Hands a parcels c
on a b c parcels h k = subst (λ (l : List Parcel). Hands a l c) (append-nil parcels) (hands_join a b c parcels [] h k)

pub handed_all : (a b c : LinkView) (before after : List Parcel) → HasHanded a b before after → Hands b [] c → IsDry c → HandsOver a c (Ok tt) before after
handed_all a b c before after (parcels, h, heard) k dry =
    record { parcels = parcels; came = c; heard = heard; hands = on a b c parcels h k; ends = (refl, dry) }

pub handed_till : (a b c : LinkView) (before after : List Parcel) (fault : LinkFault) → HasHanded a b before after → Refuses b fault c → HandsOver a c (Err fault) before after
handed_till a b c before after fault (parcels, h, heard) k =
    record { parcels = parcels; came = k.opened; heard = heard; hands = on a b k.opened parcels h k.opens; ends = (k.stands, k.final) }

-- ---- with a piece of a device

pub consumes_none : (known : Option (List ℕ)) → Consumes known known []
consumes_none None = tt
consumes_none (Some l) = refl

adds_all : (result : Result (Unit {0}) LinkFault) (piece : List ℕ) → AddsSo result piece piece
adds_all (Ok done) piece = refl
adds_all (Err fault) piece = λ _. refl

pub reads_piece : (old mid new : LinkView) (result : Result (Unit {0}) LinkFault) (before after : List Parcel) (unread left : Option (List ℕ)) (piece : List ℕ)
    → Consumes unread left piece → mid ≡ with_bytes old piece → HandsOver mid new result before after → ReadsPiece old new result before after unread left
reads_piece old mid new result before after unread left piece gave e h = record {
  piece = piece;
  added = piece;
  gave = gave;
  adds = adds_all result piece;
  hands = subst (λ (v : LinkView). HandsOver v new result before after) e h;
}

-- nothing was added
handed_nothing : (old new : LinkView) (fault : LinkFault) (before : List Parcel) → Stands (with_bytes old []) fault → new.failed ≡ true → HandsOver (with_bytes old []) new (Err fault) before before
handed_nothing old new fault before stands final = record {
  parcels = [];
  came = with_bytes old [];
  heard = sym (append-nil before);
  hands = hands_none (with_bytes old []);
  ends = (stands, final);
}

pub reads_failed : (view : LinkView) (before : List Parcel) (known : Option (List ℕ)) → view.failed ≡ true → ReadsPiece view view (Err faults.Failed) before before known known
reads_failed view before known failed = record {
  piece = [];
  added = [];
  gave = consumes_none known;
  adds = λ _. refl;
  hands = handed_nothing view view faults.Failed before failed failed;
}

memory_is : (fault : LinkFault) → IsErrOf {T = Unit {0}} (Err fault) faults.Memory → fault ≡ faults.Memory
memory_is fault e = cc

pub reads_lost : (old new : LinkView) (fault : LinkFault) (before : List Parcel) (unread left : Option (List ℕ)) (piece : List ℕ)
    → Consumes unread left piece → IsErrOf {T = Unit {0}} (Err fault) faults.Memory → new ≡ record old { failed = true } → ReadsPiece old new (Err fault) before before unread left
reads_lost old new fault before unread left piece gave is ended = record {
  piece = piece;
  added = [];
  gave = gave;
  adds = λ other. absurd (other (memory_is fault is));
  hands = handed_nothing old new fault before (subst (λ (f : LinkFault). Stands (with_bytes old []) f) (sym (memory_is fault is)) tt) (ap (λ (v : LinkView). v.failed) ended);
}
