-- Stepping.antt: frames that are opened, and a parcel that is taken, are one step of a reader.
use Rattle.std.proofs.Common.{◌≡◌, ℕ, ◌≤◌, Bool, length, true, false, List, [], ◌∷◌, ◌++◌, refl, sym, ap, ◌∙◌, subst, append-nil}
use Rattle.links.specs.frames.Fronts.{Begins, Stream}
use Rattle.links.specs.frames.Fronts.Front.{whole, unfinished}
use Rattle.links.specs.seal.Frames.{Place}
use Rattle.links.specs.seal.FrameStreams.{Accepts, FrameStream, sealed, all_sealed}
use Rattle.links.specs.declared.parcel.Parcel.{Parcel}
use Rattle.links.specs.declared.parcel.Way.{Way}
use Rattle.links.specs.declared.link_fault.LinkFault.{LinkFault}
use Rattle.links.specs.declared.link_fault.LinkFault.TheVariants as faults
use Rattle.links.specs.Parcels.{parcel_bytes}
use Rattle.links.specs.Links.{LinkView, Comes, Hands, max_frame, max_parcel}
use Rattle.links.specs.Stands.{FrameStands, IsRefused, PartsStand, Refuses, Stands}
use Rattle.links.specs.Inside.{Opens, Takes}
use Rattle.links.proofs.Opening.{none_after, opens_join}

pub hands_none : (view : LinkView) → Hands view [] view
hands_none view = record {
  frames = [];
  short = tt;
  bear = refl;
  place = none_after view.place;
  join = append-nil view.parts;
  come = tt;
  way = refl;
  failed = refl;
}

pub opens_hands : (old new : LinkView) (frames : List (List ℕ)) → Opens old frames new → Hands old [] new
opens_hands old new frames h = record {
  frames = frames;
  short = h.short;
  bear = h.bear;
  place = h.place;
  join = sym h.parts;
  come = tt;
  way = h.way;
  failed = h.failed;
}

pub takes_hands : (old mid new : LinkView) (frames : List (List ℕ)) (parcel : Parcel) → Opens old frames mid → Takes mid parcel new → Hands old (parcel ∷ []) new
takes_hands old mid new frames parcel h t = record {
  frames = frames;
  short = h.short;
  bear = h.bear ∙ ap (λ (v : LinkView). all_sealed old.place frames ++ v.unopened) (sym t.same);
  place = ap (λ (v : LinkView). v.place) t.same ∙ h.place;
  join = (new.parts, subst (λ (l : List ℕ). Begins max_parcel l (whole (parcel_bytes parcel) new.parts)) h.parts t.begins, refl);
  come = (subst (λ (w : Way). Comes w parcel) h.way t.comes, tt);
  way = ap (λ (v : LinkView). v.way) t.same ∙ h.way;
  failed = ap (λ (v : LinkView). v.failed) t.same ∙ h.failed;
}

-- one more frame, after a look at the parts that changed nothing
pub opens_one : (old mid same new : LinkView) (opened : (frames : List (List ℕ)) × Opens old frames mid) (one : (frame : List ℕ) × Opens same (frame ∷ []) new)
    → same ≡ mid → (frames : List (List ℕ)) × Opens old frames new
opens_one old mid same new (frames, h) (frame, k) e =
    (frames ++ frame ∷ [], opens_join old mid new frames (frame ∷ []) h (subst (λ (v : LinkView). Opens v (frame ∷ []) new) e k))

-- a frame that was accepted, and whose bytes joined the parts
pub opens_frame : (way : Way) (failed : Bool) (stream took : FrameStream) (parts joined : Stream) (frame : List ℕ)
    → stream.limit ≡ max_frame → Accepts stream frame took → joined ≡ record parts { bytes = parts.bytes ++ frame }
    → Opens (record { way = way; place = stream.place; unopened = stream.bytes; parts = parts.bytes; failed = failed }) (frame ∷ [])
    (record { way = way; place = took.place; unopened = took.bytes; parts = joined.bytes; failed = failed })
opens_frame way failed stream took parts joined frame limit h e = record {
  short = (subst (λ (n : ℕ). length frame ≤ n) limit h.fits, tt);
  bear = h.bears ∙ ap (λ (l : List ℕ). l ++ took.bytes) (sym (append-nil (sealed stream.place frame)));
  place = ap (λ (s : FrameStream). s.place) h.moved;
  parts = ap (λ (s : Stream). s.bytes) e ∙ ap (λ (l : List ℕ). parts.bytes ++ l) (sym (append-nil frame));
  way = refl;
  failed = refl;
}

-- ---- faults

pub refused_so : (view : LinkView) (bytes rest : List ℕ) (fault : LinkFault) → Begins max_parcel view.parts (whole bytes rest)
    → IsRefused view.way bytes fault → PartsStand view fault
refused_so view bytes rest faults.TooLong b h = absurd h
refused_so view bytes rest faults.Tag b h = absurd h
refused_so view bytes rest faults.Spent b h = absurd h
refused_so view bytes rest (faults.Part fault) b h = absurd h
refused_so view bytes rest (faults.Malformed kind) b h = record { bytes = bytes; rest = rest; begins = b; refused = h }
refused_so view bytes rest (faults.Way fault) b h = record { bytes = bytes; rest = rest; begins = b; refused = h }
refused_so view bytes rest faults.Memory b h = tt
refused_so view bytes rest faults.Failed b h = absurd h

parts_stand : (view : LinkView) (fault : LinkFault) → PartsStand view fault → Stands view fault
parts_stand view faults.TooLong h = absurd h.refused
parts_stand view faults.Tag h = absurd h.refused
parts_stand view faults.Spent h = absurd h.refused
parts_stand view (faults.Part fault) h = h
parts_stand view (faults.Malformed kind) h = h
parts_stand view (faults.Way fault) h = h
parts_stand view faults.Memory h = tt
parts_stand view faults.Failed h = absurd h.refused

frame_stands : (view : LinkView) (fault : LinkFault) → Begins max_parcel view.parts unfinished → FrameStands view fault → Stands view fault
frame_stands view faults.TooLong b h = (b, h)
frame_stands view faults.Tag b h = (b, h)
frame_stands view faults.Spent b h = (b, h)
frame_stands view (faults.Part fault) b h = absurd h
frame_stands view (faults.Malformed kind) b h = absurd h
frame_stands view (faults.Way fault) b h = absurd h
frame_stands view faults.Memory b h = tt
frame_stands view faults.Failed b h = absurd h

pub refuses_failed : (view : LinkView) → view.failed ≡ true → Refuses view faults.Failed view
refuses_failed view failed = record { opened = view; opens = hands_none view; stands = failed; final = failed }

pub refuses_parts : (old mid new : LinkView) (opened : (frames : List (List ℕ)) × Opens old frames mid) (fault : LinkFault) → PartsStand mid fault → new.failed ≡ true → Refuses old fault new
refuses_parts old mid new (frames, h) fault stands final =
    record { opened = mid; opens = opens_hands old mid frames h; stands = parts_stand mid fault stands; final = final }

pub refuses_frame : (old mid same new : LinkView) (opened : (frames : List (List ℕ)) × Opens old frames mid) (fault : LinkFault) → same ≡ mid
    → Begins max_parcel mid.parts unfinished → FrameStands same fault → new.failed ≡ true → Refuses old fault new
refuses_frame old mid same new (frames, h) fault e dry stands final = record {
  opened = mid;
  opens = opens_hands old mid frames h;
  stands = frame_stands mid fault dry (subst (λ (v : LinkView). FrameStands v fault) e stands);
  final = final;
}

-- ---- views

-- what a joiner has at its front stands at the front of the parts
pub at_front : (view : LinkView) (way : Way) (place : Place) (unopened : List ℕ) (failed : Bool) (joiner : Stream) (bytes rest : List ℕ)
    → (record { way = way; place = place; unopened = unopened; parts = joiner.bytes; failed = failed }) ≡ view
    → joiner.limit ≡ max_parcel → Begins joiner.limit joiner.bytes (whole bytes rest) → Begins max_parcel view.parts (whole bytes rest)
at_front view way place unopened failed joiner bytes rest e limit h =
    subst (λ (v : LinkView). Begins max_parcel v.parts (whole bytes rest)) e (subst (λ (n : ℕ). Begins n joiner.bytes (whole bytes rest)) limit h)

pub refused_here : (way other : Way) (given bytes : List ℕ) (fault : LinkFault) → way ≡ other → given ≡ bytes → IsRefused way given fault → IsRefused other bytes fault
refused_here way other given bytes fault e f h = subst (λ (w : Way). IsRefused w bytes fault) e (subst (λ (l : List ℕ). IsRefused way l fault) f h)

pub still_open : (mid same new : LinkView) (one : (frame : List ℕ) × Opens same (frame ∷ []) new) → same ≡ mid → mid.failed ≡ false → new.failed ≡ false
still_open mid same new (frame, h) e is_open = h.failed ∙ ap (λ (v : LinkView). v.failed) e ∙ is_open
