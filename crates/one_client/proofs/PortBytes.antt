-- What a step carries on the connection of a name is what the name's node takes and hands over at
-- the connection's port.
use Rattle.std.proofs.Common.{◌≡◌, ◌⊎◌, inl, inr, ℕ, Bool, true, false, ◌&&◌, ◌==◌, if◌then◌else◌, List, [], ◌∷◌, ◌++◌, drop, length, Option, Some, None, slice_get, refl, sym, ap, ◌∙◌, subst}
use Rattle.std.proofs.lemmas.Bool.{both_ways}
use Rattle.std.proofs.lemmas.List.{append-nil}
use Rattle.ballot_base.specs.declared.config.Config.{Config}
use Rattle.broker_spec.specs.Connection.{ConnectionName, same_connection}
use Rattle.broker_spec.proofs.ConnectionNames.{same_name}
use Rattle.exactly_once.proofs.Takes.{same_name_self}
use Rattle.lists.specs.Lists.{In, IsPrefixOf}
use Rattle.lists.specs.Lists.In.{here, there}
use Rattle.lists.proofs.Tests.{eq_is, eq_same, or_none}
use Rattle.packet.specs.declared.packet.Packet.{Packet}
use Rattle.world_base.specs.declared.node_connections.connection.Connection.{Connection as NodesEnd}
use Rattle.world_base.specs.declared.node_connections.port.Port.{Port}
use Rattle.world_base.specs.declared.node_core.item.Item.TheVariants.{Peer, Tick, Opened, Bytes, Ended, Expel, Cut, Crash}
use Rattle.world_base.specs.node_connections.Connections.{is_at, is_open_at}
use Rattle.world_base.specs.node_core.Core.{CoreState}
use Rattle.world_base.specs.node_core.PacketInput.{open_at}
use Rattle.world_base.specs.node_core.PortOutput.{listed_at, pending_bytes}
use Rattle.headline.specs.node_moves.Ends.{piece_on}
use Rattle.headline.specs.node_moves.Pipe.{Joins}
use Rattle.headline.specs.node_moves.Moves.{NodeCall}
use Rattle.headline.specs.node_moves.Moves.NodeCall.{takes, hands_out}
use Rattle.headline.proofs.of_node_moves.Kept.{left_true, live}
use Rattle.headline.proofs.of_node_moves.ShutByOutputs.{right_true}
use Rattle.headline.specs.node_group.Group.{Group}
use Rattle.headline.specs.node_group.Steps.{GroupStep, GroupTrace, groups_on_trace}
use Rattle.headline.specs.node_group.Steps.GroupStep.{node_acts, node_loses, master_assigns, master_hears, assigns_unheard, answers_unheard}
use Rattle.headline.specs.node_group.Steps.GroupTrace.{opened, then_went}
use Rattle.headline.specs.node_group.Streams.{bytes_named, came_up, comes_up, goes_down}
use Rattle.headline.specs.byte_world.Transport.{IsFaithful, is_apart, node_call_of}
use Rattle.headline.proofs.of_byte_world.NodesGoOn.{CarriesWith, IsOpened, StoodAs, carries_with, is_quiet, of_each, stood_as}
use Rattle.headline.proofs.of_byte_world.OnTheWay.{piece_up}
use Rattle.headline.proofs.of_byte_world.PipesHold.{found_there, is_the_port, listed_there, none_found, opens_in}
use Rattle.headline.proofs.of_byte_world.PortsKept.{IsOfOld}
use Rattle.one_client.specs.Calls.{AreFaithful, TookNothing, bytes_at, handed_at, is_port, opens_at, was_opened}
use Rattle.one_client.specs.Names.{HadConnection, IsNameAt}

-- ---- on the way

pub now_there : {nodes : ℕ} {config : Config} {g : Group} (went : GroupTrace nodes config g) → In g (groups_on_trace went)
now_there (opened greatest can) = here
now_there (then_went went step) = here

pub had_now : {nodes : ℕ} {config : Config} {g : Group} (went : GroupTrace nodes config g) (n : ℕ) (core : CoreState) (d : NodesEnd) → slice_get g.nodes n ≡ Some core → In d core.connections
    → HadConnection went n d
had_now {g = g} went n core d at i = record { earlier = g; among = now_there went; core = core; stands = at; listed = i }

pub had_later : {nodes : ℕ} {config : Config} {g h : Group} (went : GroupTrace nodes config g) (step : GroupStep g h) (n : ℕ) (d : NodesEnd) → HadConnection went n d → HadConnection (then_went went step) n d
had_later went step n d had = record { earlier = had.earlier; among = there had.among; core = had.core; stands = had.stands; listed = had.listed }

pub named_before : {nodes : ℕ} {config : Config} {g h : Group} (went : GroupTrace nodes config g) (step : GroupStep g h) (x : ConnectionName) (n : ℕ) (port : Port) → IsNameAt (then_went went step) x n port
    → IsNameAt went x n port
named_before went step x n port named =
    record { named = λ d had. named.named d (had_later went step n d had); alone = λ m d had. named.alone m d (had_later went step m d had) }

-- ---- ports

both_true : (a b : Bool) → a ≡ true → b ≡ true → (a && b) ≡ true
both_true a b e f = rw (e, f) refl

pub the_port : (n : ℕ) (port : Port) (m : ℕ) (at : Port) → m ≡ n → at.0 ≡ port.0 → is_port n port m at ≡ true
the_port n port m at same is =
    both_true (m == n) (at.0 == port.0) (ap (λ k. m == k) (sym same) ∙ eq_same m) (ap (λ k. at.0 == k) (sym is) ∙ eq_same at.0)

pub same_port : (n : ℕ) (port : Port) (m : ℕ) (at : Port) → is_port n port m at ≡ true → (m ≡ n) × (at.0 ≡ port.0)
same_port n port m at is = (eq_is m n (left_true (m == n) (at.0 == port.0) is), eq_is at.0 port.0 (right_true (m == n) (at.0 == port.0) is))

pub same_core : (a b : CoreState) → (let o : Option CoreState = Some a in o) ≡ Some b → a ≡ b
same_core a b e = cc

-- a call that takes no bytes takes none at a port
apart_takes : (n : ℕ) (port : Port) (o : Option (ℕ × NodeCall)) → is_apart o ≡ true → bytes_at n port o ≡ []
apart_takes n port None e = refl
apart_takes n port (Some (m, takes (Peer message))) e = refl
apart_takes n port (Some (m, takes (Tick now))) e = refl
apart_takes n port (Some (m, takes (Opened at now))) e = refl
apart_takes n port (Some (m, takes (Bytes at piece now))) e = absurd (both_ways false refl e)
apart_takes n port (Some (m, takes (Ended at))) e = refl
apart_takes n port (Some (m, takes (Expel client))) e = refl
apart_takes n port (Some (m, takes Cut)) e = refl
apart_takes n port (Some (m, takes Crash)) e = refl
apart_takes n port (Some (m, hands_out at)) e = refl

-- ---- up

-- the piece that a step brings to the port
pub record BringsAt {g h : Group} (step : GroupStep g h) (n : ℕ) (port : Port) : Type 0 where
  pub m : ℕ
  pub at : Port
  pub piece : List ℕ
  pub now : ℕ
  pub is : node_call_of step ≡ Some (m, takes (Bytes at piece now))
  pub same : m ≡ n
  pub there : at.0 ≡ port.0
  pub piece_is : bytes_at n port (node_call_of step) ≡ piece

-- or it brings nothing to the port, and nothing comes on the connection of its name
pub record BringsNone {g h : Group} (step : GroupStep g h) (x : ConnectionName) (n : ℕ) (port : Port) : Type 0 where
  pub nothing : bytes_at n port (node_call_of step) ≡ []
  pub silent : comes_up x step ≡ []

module _ {nodes : ℕ} {config : Config} {g h : Group} (went : GroupTrace nodes config g) (step : GroupStep g h) (faithful : IsFaithful step) (x : ConnectionName) (n : ℕ) (port : Port)
    (named : IsNameAt went x n port) where
  -- what comes at another port is not for the name
  elsewhere : (m : ℕ) (at : Port) (piece : List ℕ) (core : CoreState) → slice_get g.nodes m ≡ Some core → is_port n port m at ≡ false → piece_on x piece (open_at at core) ≡ []
  elsewhere m at piece core stands other = by (open_at at core) refl
    where
      on : (d : NodesEnd) → open_at at core ≡ Some d → (b : Bool) → same_connection d.name x ≡ b → (if b then piece else []) ≡ []
      on d found false e = refl
      on d found true e =
          let f = found_there at core d found in
          let z = named.alone m d (had_now went m core d stands f.among) (same_name d.name x e) in
          absurd (both_ways (is_port n port m at) other (the_port n port m at z.0 (sym f.at ∙ z.1)))

      by : (o : Option NodesEnd) → open_at at core ≡ o → piece_on x piece o ≡ []
      by None e = refl
      by (Some d) e = on d e (same_connection d.name x) refl

  pub brings_so : BringsAt step n port ⊎ BringsNone step x n port
  brings_so = by (node_call_of step) refl
    where
      quiet : is_apart (node_call_of step) ≡ true → BringsAt step n port ⊎ BringsNone step x n port
      quiet e = inr (record { nothing = apart_takes n port (node_call_of step) e; silent = (is_quiet g h step faithful e x).0 })

      on : (m : ℕ) (at : Port) (piece : List ℕ) (now : ℕ) → node_call_of step ≡ Some (m, takes (Bytes at piece now)) → (b : Bool) → is_port n port m at ≡ b
          → BringsAt step n port ⊎ BringsNone step x n port
      on m at piece now e true is =
          let z = same_port n port m at is in
          inl (record {
            m = m;
            at = at;
            piece = piece;
            now = now;
            is = e;
            same = z.0;
            there = z.1;
            piece_is = ap (bytes_at n port) e ∙ ap (λ (b : Bool). let l : List ℕ = if b then piece else [] in l) is;
          })
      on m at piece now e false is =
          let c = carries_with g h step m (takes (Bytes at piece now)) faithful e in
          inr (record {
            nothing = ap (bytes_at n port) e ∙ ap (λ (b : Bool). let l : List ℕ = if b then piece else [] in l) is;
            silent = c.up x ∙ elsewhere m at piece c.core c.stands is;
          })

      by : (o : Option (ℕ × NodeCall)) → node_call_of step ≡ o → BringsAt step n port ⊎ BringsNone step x n port
      by None e = quiet (ap is_apart e)
      by (Some (m, takes (Peer message))) e = quiet (ap is_apart e)
      by (Some (m, takes (Tick now))) e = quiet (ap is_apart e)
      by (Some (m, takes (Ended at))) e = quiet (ap is_apart e)
      by (Some (m, takes (Expel client))) e = quiet (ap is_apart e)
      by (Some (m, takes Cut)) e = quiet (ap is_apart e)
      by (Some (m, takes Crash)) e = quiet (ap is_apart e)
      by (Some (m, takes (Opened at now))) e =
          inr (record { nothing = ap (bytes_at n port) e; silent = (carries_with g h step m (takes (Opened at now)) faithful e).up x })
      by (Some (m, takes (Bytes at piece now))) e = on m at piece now e (is_port n port m at) refl
      by (Some (m, hands_out at)) e = inr (record { nothing = ap (bytes_at n port) e; silent = (carries_with g h step m (hands_out at) faithful e).up x })

  -- if nothing is brought to the port nothing comes
  pub none_comes : bytes_at n port (node_call_of step) ≡ [] → comes_up x step ≡ []
  none_comes none = by brings_so
    where
      empty : (piece : List ℕ) (o : Option NodesEnd) → piece ≡ [] → piece_on x piece o ≡ []
      empty piece None e = refl
      empty piece (Some d) e = on (same_connection d.name x)
        where
          on : (b : Bool) → (if b then piece else []) ≡ []
          on true = e
          on false = refl

      by : BringsAt step n port ⊎ BringsNone step x n port → comes_up x step ≡ []
      by (inr b) = b.silent
      by (inl b) =
          let c = carries_with g h step b.m (takes (Bytes b.at b.piece b.now)) faithful b.is in
          c.up x ∙ empty b.piece (open_at b.at c.core) (sym b.piece_is ∙ none)

-- a name on whose port nothing came
pub unheard : {nodes : ℕ} {config : Config} {g : Group} (went : GroupTrace nodes config g) (x : ConnectionName) (n : ℕ) (port : Port) → AreFaithful went → IsNameAt went x n port → TookNothing n port went
    → came_up x went ≡ []
unheard (opened greatest can) x n port faithful named nothing = refl
unheard (then_went went step) x n port faithful named nothing =
    let before = named_before went step x n port named in
    ap (λ l. l ++ comes_up x step) (unheard went x n port faithful.0 before nothing.1) ∙ none_comes went step faithful.1 x n port before nothing.0

-- ---- down

module _ {nodes : ℕ} {config : Config} {g : Group} (went : GroupTrace nodes config g) (x : ConnectionName) (n : ℕ) (port : Port) (named : IsNameAt went x n port) (m : ℕ) (core : CoreState)
    (stands : slice_get g.nodes m ≡ Some core) (at : Port) where
  -- what is queued for the name at a port is what is queued there
  queued_there : (o : Option NodesEnd) → listed_at at core ≡ o → (b : Bool) → is_port n port m at ≡ b → bytes_named x o ≡ (if b then pending_bytes o else [])
  queued_there None e true is = refl
  queued_there None e false is = refl
  queued_there (Some d) e true is =
      let f = listed_there at core d e in
      let z = same_port n port m at is in
      let mine : d.name ≡ x = named.named d (subst (λ k. HadConnection went k d) z.0 (had_now went m core d stands f.among)) (f.at ∙ z.1) in
      ap (λ (b : Bool). let l : List ℕ = if b then d.pending else [] in l) (ap (λ (y : ConnectionName). same_connection y x) mine ∙ same_name_self x)
  queued_there (Some d) e false is = on (same_connection d.name x) refl
    where
      on : (b : Bool) → same_connection d.name x ≡ b → (if b then d.pending else []) ≡ []
      on false s = refl
      on true s =
          let f = listed_there at core d e in
          let z = named.alone m d (had_now went m core d stands f.among) (same_name d.name x s) in
          absurd (both_ways (is_port n port m at) is (the_port n port m at z.0 (sym f.at ∙ z.1)))

-- what is handed over on the connection of the name is what is handed over at its port
pub handed_so : {nodes : ℕ} {config : Config} {g h : Group} (went : GroupTrace nodes config g) (step : GroupStep g h) (x : ConnectionName) (n : ℕ) (port : Port) → IsFaithful step → IsNameAt went x n port
    → goes_down x step ≡ handed_at n port step
handed_so went (node_acts m core (takes item) outcome run at is first sent) x n port faithful named = (faithful x).1
handed_so went (node_acts m core (hands_out there_at) outcome run at is first sent) x n port faithful named =
    (faithful x).1 ∙ queued_there went x n port named m core at there_at (listed_at there_at core) refl (is_port n port m there_at) refl
handed_so went (node_loses m core item outcome kept by at runs sent thinned) x n port faithful named = refl
handed_so went (master_assigns config) x n port faithful named = refl
handed_so went (master_hears from ballot sent) x n port faithful named = refl
handed_so went (assigns_unheard config) x n port faithful named = refl
handed_so went (answers_unheard from ballot sent) x n port faithful named = refl

-- ---- what is written, and what of it is in transit

-- The packets that were written are those of the bytes that came up and of later ones: those in
-- transit, until the connection is opened at its node, and while it is open there.
pub record IsUpTo {nodes : ℕ} {config : Config} {g : Group} (went : GroupTrace nodes config g) (x : ConnectionName) (written : List Packet) (n : ℕ) (port : Port) (up : List ℕ) : Type 0 where
  pub later : List ℕ
  pub joined : Joins written (came_up x went ++ later)
  pub early : was_opened n port went ≡ false → later ≡ up
  pub still : (core : CoreState) (d : NodesEnd) → slice_get g.nodes n ≡ Some core → In d core.connections → d.port.0 ≡ port.0 → live d ≡ true → later ≡ up

pub dropped : {X : Type 0} (xs ys : List X) → drop (length xs) (xs ++ ys) ≡ ys
dropped [] ys = refl
dropped (x ∷ xs) ys = dropped xs ys

module _ {nodes : ℕ} {config : Config} {g h : Group} (went : GroupTrace nodes config g) (step : GroupStep g h) (faithful : IsFaithful step) (x : ConnectionName) (n : ℕ) (port : Port)
    (named : IsNameAt went x n port) (written : List Packet) (up : List ℕ) (once : opens_at n port (node_call_of step) ≡ true → was_opened n port went ≡ false)
    (after : was_opened n port went ≡ false → bytes_at n port (node_call_of step) ≡ []) (front : IsPrefixOf (bytes_at n port (node_call_of step)) up) (u : IsUpTo went x written n port up) where
  abbrev next : GroupTrace nodes config h
  next = then_went went step

  before : was_opened n port next ≡ false → was_opened n port went ≡ false
  before none = (or_none (opens_at n port (node_call_of step)) (was_opened n port went) none).1

  -- a connection at the port after the step was there before, or is opened in it
  still_so : (core : CoreState) (d : NodesEnd) → slice_get h.nodes n ≡ Some core → In d core.connections → d.port.0 ≡ port.0 → live d ≡ true → u.later ≡ up
  still_so core d at i same lives = by (stood_as g h went step n core at)
    where
      on : (s : StoodAs g h (node_call_of step) n core) → IsOfOld s.core.connections d ⊎ IsOpened (node_call_of step) n s.core d → u.later ≡ up
      on s (inl o) = u.still s.core o.was s.stands o.among (sym (ap (λ (q : Port). q.0) o.later.port) ∙ same) (o.later.lives lives)
      on s (inr o) =
          u.early (once (ap (opens_at n port) o.is ∙ the_port n port n o.port refl (sym (ap (λ (q : Port). q.0) o.new.port_is) ∙ same)))

      by : StoodAs g h (node_call_of step) n core → u.later ≡ up
      by s = on s (s.after.was d i)

  -- nothing comes
  rests_up : comes_up x step ≡ [] → bytes_at n port (node_call_of step) ≡ [] → IsUpTo next x written n port (drop (length (bytes_at n port (node_call_of step))) up)
  rests_up silent nothing =
      subst (IsUpTo next x written n port) (ap (λ (l : List ℕ). drop (length l) up) (sym nothing))
      (let z : IsUpTo next x written n port up = record {
        later = u.later;
        joined = subst (λ (l : List ℕ). Joins written (l ++ u.later)) (sym (ap (λ l. came_up x went ++ l) silent ∙ append-nil (came_up x went))) u.joined;
        early = λ none. u.early (before none);
        still = still_so;
      } in z)

  -- a piece comes
  comes_at : (b : BringsAt step n port) → IsUpTo next x written n port (drop (length (bytes_at n port (node_call_of step))) up)
  comes_at b = by (open_at b.at c.core) refl
    where
      c : CarriesWith g h step b.m (takes (Bytes b.at b.piece b.now))
      c = carries_with g h step b.m (takes (Bytes b.at b.piece b.now)) faithful b.is

      there_too : slice_get g.nodes n ≡ Some c.core
      there_too = ap (slice_get g.nodes) (sym b.same) ∙ c.stands

      cut : up ≡ b.piece ++ front.rest
      cut = front.is ∙ ap (λ l. l ++ front.rest) b.piece_is

      rest_is : front.rest ≡ drop (length (bytes_at n port (node_call_of step))) up
      rest_is = sym (ap (λ (l : List ℕ). drop (length l) up) b.piece_is ∙ ap (drop (length b.piece)) cut ∙ dropped b.piece front.rest)

      -- the node has it closed, and nothing is open there after
      was_shut : open_at b.at c.core ≡ None → (d : NodesEnd) → d.port.0 ≡ port.0 → live d ≡ true → (old : CoreState) → slice_get g.nodes n ≡ Some old
          → IsOfOld old.connections d ⊎ IsOpened (node_call_of step) n old d → ⊥
      was_shut e d same lives old stood (inl o) =
          both_ways (is_open_at b.at o.was)
          (of_each (λ (z : NodesEnd). is_open_at b.at z ≡ false) (none_found (is_open_at b.at) c.core.connections e)
          (subst (λ (k : CoreState). In o.was k.connections) (same_core old c.core (sym stood ∙ there_too)) o.among))
          (both_true (live o.was) (is_at b.at o.was) (o.later.lives lives) (is_the_port b.at o.was (sym (ap (λ (q : Port). q.0) o.later.port) ∙ same ∙ sym b.there)))
      was_shut e d same lives old stood (inr o) = both_ways (opens_in (node_call_of step)) (ap opens_in b.is) (ap opens_in o.is)

      shut : open_at b.at c.core ≡ None → (core : CoreState) (d : NodesEnd) → slice_get h.nodes n ≡ Some core → In d core.connections → d.port.0 ≡ port.0 → live d ≡ true → ⊥
      shut e core d at i same lives = let s = stood_as g h went step n core at in was_shut e d same lives s.core s.stands (s.after.was d i)

      by : (o : Option NodesEnd) → open_at b.at c.core ≡ o → IsUpTo next x written n port (drop (length (bytes_at n port (node_call_of step))) up)
      by None e =
          record {
            later = u.later;
            joined = subst (λ (l : List ℕ). Joins written (l ++ u.later)) (sym (ap (λ l. came_up x went ++ l) (c.up x ∙ ap (piece_on x b.piece) e) ∙ append-nil (came_up x went))) u.joined;
            early = λ none. u.early (before none) ∙ ap (λ (l : List ℕ). drop (length l) up) (sym (after (before none)));
            still = λ core d at i same lives. absurd (shut e core d at i same lives);
          }
      by (Some d) e =
          let f = found_there b.at c.core d e in
          let mine : d.name ≡ x = named.named d (had_now went n c.core d there_too f.among) (f.at ∙ b.there) in
          let same : u.later ≡ up = u.still c.core d there_too f.among (f.at ∙ b.there) f.lives in
          let more : comes_up x step ≡ b.piece =
          c.up x ∙ ap (piece_on x b.piece) e ∙ ap (λ (t : Bool). let l : List ℕ = if t then b.piece else [] in l) (ap (λ (y : ConnectionName). same_connection y x) mine ∙ same_name_self x) in
          record {
            later = front.rest;
            joined = subst (λ (l : List ℕ). Joins written ((came_up x went ++ l) ++ front.rest)) (sym more)
                (piece_up written (came_up x went) b.piece front.rest up cut (subst (λ (l : List ℕ). Joins written (came_up x went ++ l)) same u.joined));
            early = λ none. rest_is;
            still = λ core z at i same_at lives. rest_is;
          }

  pub up_after : IsUpTo next x written n port (drop (length (bytes_at n port (node_call_of step))) up)
  up_after = by (brings_so went step faithful x n port named)
    where
      by : BringsAt step n port ⊎ BringsNone step x n port → IsUpTo next x written n port (drop (length (bytes_at n port (node_call_of step))) up)
      by (inl b) = comes_at b
      by (inr b) = rests_up b.silent b.nothing
