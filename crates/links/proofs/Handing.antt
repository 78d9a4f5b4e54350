-- Handing.antt: what a link hands over is what was given at its other end.
use Rattle.std.proofs.Common.{◌≡◌, ℕ, ◌≤◌, List, [], ◌∷◌, ◌++◌, length, map, flat_map, Result, Ok, refl, sym, ap, ap₂, ◌∙◌, subst, arith, append_assoc, append-nil, length-append}
use Rattle.std.specs.Int.{w32, to_be_bytes, from_be_bytes}
use Rattle.std.proofs.lemmas.List.{map-append}
use Rattle.std.proofs.lemmas.List.Concat.{flat_map-append}
use Rattle.std.proofs.lemmas.Nat.{from_be_bytes-to_be_bytes_4}
use Rattle.lists.specs.Lists.{Each, IsPrefixOf}
use Rattle.links.specs.frames.Parts.{parts_of}
use Rattle.links.specs.frames.Theorems.{Joined}
use Rattle.links.specs.frames.Theorems.Joined.{opens, feeds, gives}
use Rattle.links.proofs.of_frames.Longer.{longer}
use Rattle.links.proofs.of_frames.Joinings.{what_is_joined_was_cut}
use Rattle.links.specs.seal.Frames.{Place, frame_tag, moved_on}
use Rattle.links.specs.seal.FrameStreams.{sealed, all_sealed}
use Rattle.links.specs.seal.Hellos.{hello_bytes}
use Rattle.links.proofs.of_seal.SealedFrames.{one_key}
use Rattle.topics.specs.declared.malformed.MalformedKind.{MalformedKind}
use Rattle.links.specs.declared.parcel.Parcel.{Parcel}
use Rattle.links.specs.declared.parcel.Way.{Way}
use Rattle.links.specs.Parcels.{parcel_bytes, IsParcel}
use Rattle.links.specs.ParcelReading.{parcel_of}
use Rattle.links.specs.Links.{LinkView, AreShort, Comes, Hands, Join, bytes_in, max_parcel, place_after, with_bytes}
use Rattle.links.specs.Written.{WriterView, IsCarried, frames_of}
use Rattle.links.specs.Runs.{AcceptedFramesAreTagged, EndsHaveOnePlace, LinksHandOverWhatWasGiven, ReadingsJoin, Wrote}
use Rattle.links.specs.Runs.Wrote.{begins, adds, writes}
use Rattle.links.proofs.Opening.{each_both, none_after, place_join, sealed_join}
use Rattle.links.proofs.Framing.{frames_bytes, frames_short}
use Rattle.links.proofs.ParcelsAgain.{parcels_are_read}

-- ---- streams of parts

pub join_longer : (stream : List ℕ) (ms : List (List ℕ)) (rest later : List ℕ) → Join stream ms rest → Join (stream ++ later) ms (rest ++ later)
join_longer stream [] rest later c = ap (λ (l : List ℕ). l ++ later) c
join_longer stream (m ∷ ms) rest later (left, b, c) = (left ++ later, longer max_parcel stream later m left b, join_longer left ms rest later c)

pub join_more : (stream : List ℕ) (ms ns : List (List ℕ)) (rest left : List ℕ) → Join stream ms rest → Join rest ns left → Join stream (ms ++ ns) left
join_more stream [] ns rest left c d = subst (λ (l : List ℕ). Join l ns left) (sym c) d
join_more stream (m ∷ ms) ns rest left (behind, b, c) d = (behind, b, join_more behind ms ns rest left c d)

joined_more : (fed held : List ℕ) (given ms : List (List ℕ)) (rest : List ℕ) → Joined max_parcel fed given held → Join held ms rest → Joined max_parcel fed (given ++ ms) rest
joined_more fed held given [] rest j c =
    subst (λ (l : List (List ℕ)). Joined max_parcel fed l rest) (sym (append-nil given)) (subst (λ (l : List ℕ). Joined max_parcel fed given l) c j)
joined_more fed held given (m ∷ ms) rest j (left, b, c) =
    subst (λ (l : List (List ℕ)). Joined max_parcel fed l rest) (append_assoc given (m ∷ []) ms) (joined_more fed left (given ++ m ∷ []) ms rest (gives m j b) c)

pub joined_of : (stream : List ℕ) (ms : List (List ℕ)) (rest : List ℕ) → Join stream ms rest → Joined max_parcel stream ms rest
joined_of stream ms rest c = joined_more stream stream [] ms rest (feeds stream opens) c

-- ---- readings in a row

each_more : (way : Way) (xs ys : List Parcel) → Each (Comes way) xs → Each (Comes way) ys → Each (Comes way) (xs ++ ys)
each_more way [] ys a b = b
each_more way (x ∷ xs) ys (fits, a) b = (fits, each_more way xs ys a b)

pub hands_join : (a b c : LinkView) (ps qs : List Parcel) → Hands a ps b → Hands b qs c → Hands a (ps ++ qs) c
hands_join a b c ps qs h k =
    let first = join_longer (a.parts ++ bytes_in h.frames) (map parcel_bytes ps) b.parts (bytes_in k.frames) h.join in
    let stream : (a.parts ++ bytes_in h.frames) ++ bytes_in k.frames ≡ a.parts ++ bytes_in (h.frames ++ k.frames) =
    append_assoc a.parts (bytes_in h.frames) (bytes_in k.frames)
    ∙ ap (λ (l : List ℕ). a.parts ++ l) (sym (flat_map-append (λ (frame : List ℕ). frame) h.frames k.frames)) in
    let both = join_more ((a.parts ++ bytes_in h.frames) ++ bytes_in k.frames) (map parcel_bytes ps) (map parcel_bytes qs) (b.parts ++ bytes_in k.frames) c.parts first k.join in
    let renamed : Join (a.parts ++ bytes_in (h.frames ++ k.frames)) (map parcel_bytes ps ++ map parcel_bytes qs) c.parts =
    subst (λ (l : List ℕ). Join l (map parcel_bytes ps ++ map parcel_bytes qs) c.parts) stream both in
    record {
      frames = h.frames ++ k.frames;
      short = each_both h.frames k.frames h.short k.short;
      bear = h.bear
          ∙ ap (λ (l : List ℕ). all_sealed a.place h.frames ++ l) k.bear
          ∙ ap (λ (p : Place). all_sealed a.place h.frames ++ (all_sealed p k.frames ++ c.unopened)) h.place
          ∙ sym (append_assoc (all_sealed a.place h.frames) (all_sealed (place_after a.place h.frames) k.frames) c.unopened)
          ∙ ap (λ (l : List ℕ). l ++ c.unopened) (sym (sealed_join a.place h.frames k.frames));
      place = k.place ∙ ap (λ (p : Place). place_after p k.frames) h.place ∙ place_join a.place h.frames k.frames;
      join = subst (λ (l : List (List ℕ)). Join (a.parts ++ bytes_in (h.frames ++ k.frames)) l c.parts) (sym (map-append parcel_bytes ps qs)) renamed;
      come = each_more a.way ps qs h.come (subst (λ (w : Way). Each (Comes w) qs) h.way k.come);
      way = k.way ∙ h.way;
      failed = k.failed ∙ h.failed;
    }

-- a reader that was fed more has handed over the same, and has more left
pub hands_fed : (a b : LinkView) (more : List ℕ) (ps : List Parcel) → Hands a ps b → Hands (with_bytes a more) ps (with_bytes b more)
hands_fed a b more ps h = record {
  frames = h.frames;
  short = h.short;
  bear = ap (λ (l : List ℕ). l ++ more) h.bear ∙ append_assoc (all_sealed a.place h.frames) b.unopened more;
  place = h.place;
  join = h.join;
  come = h.come;
  way = h.way;
  failed = h.failed;
}

fed_twice : (a : LinkView) (bytes more : List ℕ) → with_bytes (with_bytes a bytes) more ≡ with_bytes a (bytes ++ more)
fed_twice a bytes more = ap (λ (l : List ℕ). record a { unopened = l }) (append_assoc a.unopened bytes more)

pub readings_join : ReadingsJoin
readings_join old mid new bytes more ps qs h k =
    subst (λ (v : LinkView). Hands v (ps ++ qs) new) (fed_twice old bytes more)
    (hands_join (with_bytes (with_bytes old bytes) more) (with_bytes mid more) new ps qs (hands_fed (with_bytes old bytes) mid more ps h) k)

-- ---- what was written

-- what a writer has written, and what waits, are the parcels that were given
record Given (place : Place) (given : List Parcel) (written : List ℕ) (writer : WriterView) : Type 0 where
  frames : List (List ℕ)
  short : AreShort frames
  sealed_so : written ≡ all_sealed place frames
  place_is : writer.place ≡ place_after place frames
  parts_are : bytes_in frames ++ writer.parts ≡ flat_map parts_of (map parcel_bytes given)
  carried : Each IsCarried given

each_last : (xs : List Parcel) (x : Parcel) → Each IsCarried xs → IsCarried x → Each IsCarried (xs ++ x ∷ [])
each_last [] x a b = (b, tt)
each_last (y ∷ xs) x (fits, a) b = (fits, each_last xs x a b)

given_last : (given : List Parcel) (parcel : Parcel) → flat_map parts_of (map parcel_bytes (given ++ parcel ∷ [])) ≡ flat_map parts_of (map parcel_bytes given) ++ parts_of (parcel_bytes parcel)
given_last given parcel =
    ap (λ (l : List (List ℕ)). flat_map parts_of l) (map-append parcel_bytes given (parcel ∷ []))
    ∙ flat_map-append parts_of (map parcel_bytes given) (parcel_bytes parcel ∷ [])
    ∙ ap (λ (l : List ℕ). flat_map parts_of (map parcel_bytes given) ++ l) (append-nil (parts_of (parcel_bytes parcel)))

given_of : (place : Place) (given : List Parcel) (written : List ℕ) (writer : WriterView) → Wrote place given written writer → Given place given written writer
given_of place given written writer begins = record { frames = []; short = tt; sealed_so = refl; place_is = none_after place; parts_are = refl; carried = tt }
given_of place given written writer (adds {given = g} {writer = w} parcel r fits) =
    let h = given_of place g written w r in
    record {
      frames = h.frames;
      short = h.short;
      sealed_so = h.sealed_so;
      place_is = h.place_is;
      parts_are = sym (append_assoc (bytes_in h.frames) w.parts (parts_of (parcel_bytes parcel)))
          ∙ ap (λ (l : List ℕ). l ++ parts_of (parcel_bytes parcel)) h.parts_are ∙ sym (given_last g parcel);
      carried = each_last g parcel h.carried fits;
    }
given_of place given written writer (writes {written = before} {writer = w} r) =
    let h = given_of place given before w r in
    let more = frames_of w.parts in
    record {
      frames = h.frames ++ more;
      short = each_both h.frames more h.short (frames_short w.parts);
      sealed_so = ap (λ (l : List ℕ). l ++ all_sealed w.place (frames_of w.parts)) h.sealed_so
          ∙ ap (λ (p : Place). all_sealed place h.frames ++ all_sealed p (frames_of w.parts)) h.place_is
          ∙ sym (sealed_join place h.frames (frames_of w.parts));
      place_is = ap (λ (p : Place). place_after p (frames_of w.parts)) h.place_is ∙ place_join place h.frames (frames_of w.parts);
      parts_are = append-nil (bytes_in (h.frames ++ frames_of w.parts))
          ∙ flat_map-append (λ (frame : List ℕ). frame) h.frames (frames_of w.parts)
          ∙ ap (λ (l : List ℕ). bytes_in h.frames ++ l) (frames_bytes w.parts) ∙ h.parts_are;
      carried = h.carried;
    }

-- ---- frames that were opened are those that were sealed

halves : (a b c d : List ℕ) → length a ≡ length c → a ++ b ≡ c ++ d → (a ≡ c) × (b ≡ d)
halves [] b [] d size same = (refl, same)
halves [] b (y ∷ c) d size same = absurd (omega (arith, size))
halves (x ∷ a) b [] d size same = absurd (omega (arith, size))
halves (x ∷ a) b (y ∷ c) d size same =
    let first : x ≡ y = cc in
    let rest : a ++ b ≡ c ++ d = cc in
    let more = halves a b c d (omega (arith, size)) rest in
    (ap₂ (λ (n : ℕ) (l : List ℕ). n ∷ l) first more.0, more.1)

one_frame : (place : Place) (f g x y : List ℕ) → length f ≤ 65536 → length g ≤ 65536 → sealed place f ++ x ≡ sealed place g ++ y → (f ≡ g) × (x ≡ y)
one_frame place f g x y short short' same =
    let ftag = frame_tag place.key place.next f in
    let gtag = frame_tag place.key place.next g in
    let fhead = to_be_bytes w32 (length f) in
    let ghead = to_be_bytes w32 (length g) in
    let parts : fhead ++ ((f ++ ftag) ++ x) ≡ ghead ++ ((g ++ gtag) ++ y) =
    sym (append_assoc fhead (f ++ ftag) x) ∙ same ∙ append_assoc ghead (g ++ gtag) y in
    let heads = halves fhead ((f ++ ftag) ++ x) ghead ((g ++ gtag) ++ y) refl parts in
    let size : length f ≡ length g =
    sym (from_be_bytes-to_be_bytes_4 (length f) (omega (arith, short))) ∙ ap (λ (l : List ℕ). from_be_bytes w32 l) heads.0 ∙ from_be_bytes-to_be_bytes_4 (length g) (omega (arith, short')) in
    let bodies : f ++ (ftag ++ x) ≡ g ++ (gtag ++ y) = sym (append_assoc f ftag x) ∙ heads.1 ∙ append_assoc g gtag y in
    let frames = halves f (ftag ++ x) g (gtag ++ y) size bodies in
    let tags : ftag ++ x ≡ ftag ++ y = frames.1 ∙ ap (λ (l : List ℕ). frame_tag place.key place.next l ++ y) (sym frames.0) in
    (frames.0, (halves ftag x ftag y refl tags).1)

opened_first : (place : Place) (opened written : List (List ℕ)) (rest : List ℕ) → AreShort opened → AreShort written
    → all_sealed place opened ++ rest ≡ all_sealed place written → IsPrefixOf opened written
opened_first place [] written rest a b same = record { rest = written; is = refl }
opened_first place (f ∷ opened) [] rest a b same =
    let e = ap (λ (l : List ℕ). length l) same in
    let one = length-append (sealed place f ++ all_sealed (moved_on place) opened) rest in
    let two = length-append (sealed place f) (all_sealed (moved_on place) opened) in
    let three = length-append (to_be_bytes w32 (length f)) (f ++ frame_tag place.key place.next f) in
    let four : length (to_be_bytes w32 (length f)) ≡ 4 = refl in
    absurd (omega (arith, e, one, two, three, four))
opened_first place (f ∷ opened) (g ∷ written) rest (f_short, a) (g_short, b) same =
    let first = one_frame place f g (all_sealed (moved_on place) opened ++ rest) (all_sealed (moved_on place) written) f_short g_short
    (sym (append_assoc (sealed place f) (all_sealed (moved_on place) opened) rest) ∙ same) in
    let more = opened_first (moved_on place) opened written rest a b first.1 in
    record { rest = more.rest; is = ap₂ (λ (x : List ℕ) (xs : List (List ℕ)). x ∷ xs) (sym first.0) more.is }

-- ---- the law

all_carried : (given : List Parcel) → Each IsCarried given → Each (λ bytes. length bytes ≤ max_parcel) (map parcel_bytes given)
all_carried [] h = tt
all_carried (p ∷ given) (fits, h) = (fits.short, all_carried given h)

abbrev done : Parcel → Result Parcel MalformedKind
done parcel = Ok parcel

same_parcel : (p q : Parcel) → done p ≡ done q → p ≡ q
same_parcel p q e = cc

-- parcels are told apart by their bytes
one_parcel : (p q : Parcel) → IsParcel p → IsParcel q → parcel_bytes p ≡ parcel_bytes q → p ≡ q
one_parcel p q a b e = same_parcel p q (sym (parcels_are_read p a) ∙ ap (λ (l : List ℕ). parcel_of l) e ∙ parcels_are_read q b)

first_of : (way : Way) (handed given : List Parcel) (rest : List (List ℕ)) → Each (Comes way) handed → Each IsCarried given
    → map parcel_bytes given ≡ map parcel_bytes handed ++ rest → IsPrefixOf handed given
first_of way [] given rest a b e = record { rest = given; is = refl }
first_of way (p ∷ handed) [] rest a b e = absurd cc
first_of way (p ∷ handed) (q ∷ given) rest (p_fits, a) (q_fits, b) e =
    let first : parcel_bytes q ≡ parcel_bytes p = cc in
    let others : map parcel_bytes given ≡ map parcel_bytes handed ++ rest = cc in
    let more = first_of way handed given rest a b others in
    record { rest = more.rest; is = ap₂ (λ (x : Parcel) (xs : List Parcel). x ∷ xs) (one_parcel q p q_fits.fits p_fits.fits first) more.is }

pub handed_was_given : LinksHandOverWhatWasGiven
handed_was_given place way given handed fed later writer now wrote read =
    let g = given_of place given (fed ++ later) writer wrote in
    let stream : all_sealed place read.frames ++ (now.unopened ++ later) ≡ all_sealed place g.frames =
    sym (append_assoc (all_sealed place read.frames) now.unopened later) ∙ ap (λ (l : List ℕ). l ++ later) (sym read.bear) ∙ g.sealed_so in
    let opened = opened_first place read.frames g.frames (now.unopened ++ later) read.short g.short stream in
    let joined = joined_of (bytes_in read.frames) (map parcel_bytes handed) now.parts read.join in
    let parts : bytes_in read.frames ++ (bytes_in opened.rest ++ writer.parts) ≡ flat_map parts_of (map parcel_bytes given) =
    sym (append_assoc (bytes_in read.frames) (bytes_in opened.rest) writer.parts)
    ∙ ap (λ (l : List ℕ). l ++ writer.parts) (sym (flat_map-append (λ (frame : List ℕ). frame) read.frames opened.rest))
    ∙ ap (λ (l : List (List ℕ)). bytes_in l ++ writer.parts) (sym opened.is) ∙ g.parts_are in
    let prefix = what_is_joined_was_cut max_parcel (map parcel_bytes given) (map parcel_bytes handed) (bytes_in read.frames) (bytes_in opened.rest ++ writer.parts) now.parts
    (all_carried given g.carried) parts joined in
    first_of way handed given prefix.rest read.come g.carried prefix.is

pub came_sealed : AcceptedFramesAreTagged
came_sealed place way fed parcels now read = record {
  frames = read.frames;
  unopened = now.unopened;
  parts = now.parts;
  bear = read.bear;
  joined = joined_of (bytes_in read.frames) (map parcel_bytes parcels) now.parts read.join;
}

-- where a direction with this key begins
abbrev start_of : List ℕ → Place
start_of key = record { key = key; next = 0 }

pub one_place : EndsHaveOnePlace
one_place side key own other = ap (λ (k : List ℕ). start_of k) (one_key side key (hello_bytes own) (hello_bytes other))
