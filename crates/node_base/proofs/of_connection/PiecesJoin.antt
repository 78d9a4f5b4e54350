-- PiecesJoin.antt: pieces that are reported one after another are what the device gave, in order.
use Rattle.std.specs.Prelude.{◌≡◌, ℕ, Option, None, Some, Ok, Err, List, [], ◌∷◌, ◌++◌, refl}
use Rattle.std.proofs.Common.{sym, ◌∙◌, ap, subst, lit≤, append_assoc}
use Rattle.std.proofs.lemmas.List.{append-nil, map-append}
use Rattle.std.proofs.lemmas.List.Concat.{flat_map-append}
use Rattle.std.specs.Io.KnownBytes.{Consumes, Keeps}
use Rattle.world_base.specs.declared.node_connections.port.Port.{Port}
use Rattle.world_base.specs.declared.node_core.item.Item.{Item}
use Rattle.world_base.specs.declared.node_core.item.Item.TheVariants.{Opened, Bytes, Ended}
use Rattle.node_base.specs.declared.connection.ending.Ending.{Ending}
use Rattle.node_base.specs.declared.connection.ending.Ending.TheVariants as endings
use Rattle.node_base.specs.connection.Reports.{Came, Hears, Rises, all_bytes, pieces_reported}
use Rattle.node_base.specs.connection.Reports.Rises.{opens, comes}
use Rattle.node_base.specs.connection.Inside.{HearsOn, HearsPiece, HearsPieces, HearsSome}

-- what is read in two steps is read in one
consumes_join :
    (old mid new : Option (List ℕ)) (xs ys : List ℕ)
    → Consumes old mid xs → Consumes mid new ys → Consumes old new (xs ++ ys)
consumes_join None mid new xs ys first second = tt
consumes_join (Some o) None new xs ys first second = absurd first
consumes_join (Some o) (Some m) None xs ys first second = absurd second
consumes_join (Some o) (Some m) (Some n) xs ys first second =
    first ∙ ap (λ l. xs ++ l) second ∙ sym (append_assoc xs ys n)

-- a device that kept its bytes gave none
pub kept_gives_none : (old new : Option (List ℕ)) → Keeps old new → Consumes old new []
kept_gives_none None new kept = tt
kept_gives_none (Some o) None kept = absurd kept
kept_gives_none (Some o) (Some n) kept = sym kept

-- a device that was not read gave none
pub gives_none : (old : Option (List ℕ)) → Consumes old old []
gives_none None = tt
gives_none (Some o) = refl

-- the pieces of two lists, one after another
pub pieces_join :
    (port : Port) (a b c : List Item) (first second : List Came) (lost : List ℕ) (x y z : Option (List ℕ))
    → HearsPieces port a b first [] x y
    → HearsPieces port b c second lost y z
    → HearsPieces port a c (first ++ second) lost x z
pieces_join port a b c first second lost x y z h k =
    let reported =
    k.reported
    ∙ ap (λ l. l ++ pieces_reported port second) h.reported
    ∙ append_assoc a (pieces_reported port first) (pieces_reported port second)
    ∙ ap (λ l. a ++ l) (sym (map-append (λ (piece : Came). Bytes port piece.bytes piece.now) first second)) in
    let first_gave : Consumes x y (all_bytes first) = rw append-nil at h.gave in
    let both = consumes_join x y z (all_bytes first) (all_bytes second ++ lost) first_gave k.gave in
    let bytes =
    sym (append_assoc (all_bytes first) (all_bytes second) lost)
    ∙ ap (λ l. l ++ lost) (sym (flat_map-append (λ (piece : Came). piece.bytes) first second)) in
    record { reported = reported; gave = subst (λ l. Consumes x z l) bytes both }

-- a piece that was reported after others
pub one_more :
    (port : Port) (opened last now : ℕ) (a b c : List Item) (x y z : Option (List ℕ))
    → HearsSome port opened last a b x y → HearsPiece port last b c (Ok now) y z
    → HearsSome port opened now a c x z
one_more port opened last now a b c x y z some (later, (bytes, h)) =
    let piece : Came = record { bytes = bytes; now = now } in
    record {
      pieces = some.pieces ++ piece ∷ [];
      hears = pieces_join port a b c some.pieces (piece ∷ []) [] x y z some.hears h;
      times = comes piece some.times later;
    }

-- an end after some pieces
pub ends_behind :
    (port : Port) (opened last : ℕ) (a b c : List Item) (ending : Ending) (x y z : Option (List ℕ))
    → HearsSome port opened last a b x y → HearsPiece port last b c (Err ending) y z
    → HearsOn port opened a c ending x z
ends_behind port opened last a b c ending x y z some (same, (lost, gave, ends)) =
    let none : HearsPieces port b c [] lost y z =
    record { reported = same ∙ sym (append-nil b); gave = gave } in
    let joins = pieces_join port a b c some.pieces [] lost x y z some.hears none in
    record {
      pieces = some.pieces ++ [];
      lost = lost;
      hears = joins;
      ends = ends (some.pieces ++ []);
      last = last;
      times = subst (λ (pieces : List Came). Rises opened pieces last) (sym (append-nil some.pieces)) some.times;
    }

-- nothing was reported yet
pub none_yet : (port : Port) (opened : ℕ) (a : List Item) (x : Option (List ℕ)) → HearsSome port opened opened a a x x
none_yet port opened a x = record {
  pieces = [];
  hears = record { reported = sym (append-nil a); gave = gives_none x };
  times = opens;
}

-- nothing was reported, since memory ran out
pub none_for_memory :
    (port : Port) (opened : ℕ) (a : List Item) (x : Option (List ℕ)) → HearsOn port opened a a endings.Memory x x
unfolding none_yet
none_for_memory port opened a x = record {
  pieces = [];
  lost = [];
  hears = (none_yet port opened a x).hears;
  ends = lit≤ tt;
  last = opened;
  times = opens;
}

-- what was reported between a connection's first item and its last
pub framed :
    (port : Port) (opened : ℕ) (a b c d : List Item) (ending : Ending) (x y : Option (List ℕ))
    → b ≡ a ++ Opened port opened ∷ [] → HearsOn port opened b c ending x y → d ≡ c ++ Ended port ∷ []
    → Hears port a d ending x y
framed port opened a b c d ending x y first h last =
    let middle = pieces_reported port h.pieces in
    let reported =
    last
    ∙ ap (λ l. l ++ Ended port ∷ []) h.hears.reported
    ∙ append_assoc b middle (Ended port ∷ [])
    ∙ ap (λ l. l ++ (middle ++ Ended port ∷ [])) first
    ∙ append_assoc a (Opened port opened ∷ []) (middle ++ Ended port ∷ []) in
    record {
      opened = opened;
      pieces = h.pieces;
      lost = h.lost;
      reported = reported;
      gave = h.hears.gave;
      ends = h.ends;
      last = h.last;
      times = h.times;
    }

-- a connection that was not let in
pub refused :
    (port : Port) (opened : ℕ) (a : List Item) (x : Option (List ℕ)) → HearsOn port opened a a endings.Refused x x
unfolding none_yet
refused port opened a x = record {
  pieces = [];
  lost = [];
  hears = (none_yet port opened a x).hears;
  ends = (refl, refl);
  last = opened;
  times = opens;
}
