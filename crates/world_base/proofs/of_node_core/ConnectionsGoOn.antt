-- ConnectionsGoOn.antt: what changes and outputs make of each connection.
use Rattle.std.proofs.Common.{◌≡◌, ◌⊎◌, inl, inr, ℕ, Bool, true, false, if◌then◌else◌, not, ◌&&◌, nat_le, ◌+◌, List, [], ◌∷◌, ◌++◌, length, append_assoc, refl, sym, ap, subst, ◌∙◌}
use Rattle.std.proofs.lemmas.List.{append-nil}
use Rattle.packet.specs.declared.packet.Packet.{Packet}
use Rattle.packet_base.specs.declared.refusal_code.RefusalCode.{RefusalCode}
use Rattle.packet.specs.declared.packet.Packet.TheVariants as packets
use Rattle.packet.specs.declared.connack.Connack.TheVariants as connacks
use Rattle.packet.specs.Spelling.{spelling}
use Rattle.broker_spec.specs.Connection.{ConnectionName, same_connection}
use Rattle.broker_spec.specs.declared.command.Command.{Command}
use Rattle.broker_spec.specs.declared.command.Output.{Output}
use Rattle.broker_spec.specs.declared.command.Output.TheVariants as outputs
use Rattle.broker_spec.proofs.ConnectionNames.{same_name}
use Rattle.lists.specs.Lists.{Each}
use Rattle.ballot_base.specs.declared.message.Effect.{Effect}
use Rattle.ballot_base.specs.declared.message.Effect.TheVariants.{To, Out}
use Rattle.ballot_base.specs.declared.message.Message.{Message}
use Rattle.world_base.specs.declared.node_connections.connection.Connection.{Connection}
use Rattle.world_base.specs.declared.node_connections.connection.ConnectionStage.TheVariants.{Closed, Failed}
use Rattle.world_base.specs.node_connections.Connections.{is_open_named, is_closed, is_proposed}
use Rattle.world_base.specs.node_connections.ConnectionChanges.{changed_where, closed_connection, failing, max_pending, with_queued, putting}
use Rattle.world_base.specs.node_core.Core.{CoreState}
use Rattle.world_base.specs.node_core.ConnectionSteps.{AreNamedApart, EachGoesOn, ConnectionGoesOn, bytes_by, bytes_for}
use Rattle.world_base.specs.node_core.Lossy.{HandlesAll, Performs}
use Rattle.world_base.specs.node_core.Lossy.HandlesAll.{nothing, does, sends, loses}
use Rattle.world_base.specs.node_connections.Refusals.{connect_refused}
use Rattle.world_base.specs.node_core.Effects.{changes_named}

-- ---- one connection

-- what stays open keeps what is to be handed over
pub goes_still : (c d : Connection) → d.port ≡ c.port → d.name ≡ c.name → d.pending ≡ c.pending →
    (is_closed c.stage ≡ true → is_closed d.stage ≡ true) → ConnectionGoesOn [] c d
goes_still c d port name same shut =
    record {
      port = port;
      name = name;
      closed = λ over. (shut over, same);
      whole = λ _. same ∙ sym (append-nil c.pending);
      prefix = [];
      answer = [];
      begins = record { rest = []; is = refl };
      refusal = inl refl;
      put = same ∙ sym (append-nil c.pending);
    }

pub goes_itself : (c : Connection) → ConnectionGoesOn [] c c
goes_itself c = goes_still c c refl refl refl (λ e. e)

not_both : (over : Bool) → over ≡ true → over ≡ false → ⊥
not_both over e f = absurd cc

-- of a closed one nothing is asked
pub goes_over : (bytes : List ℕ) (c d : Connection) → d.port ≡ c.port → d.name ≡ c.name → is_closed d.stage ≡ true →
    d.pending ≡ c.pending → ConnectionGoesOn bytes c d
goes_over bytes c d port name over same =
    record {
      port = port;
      name = name;
      closed = λ _. (over, same);
      whole = λ stays. absurd (not_both (is_closed d.stage) over stays);
      prefix = [];
      answer = [];
      begins = record { rest = bytes; is = refl };
      refusal = inl refl;
      put = same ∙ sym (append-nil c.pending);
    }

pub goes_closed : (bytes : List ℕ) (c : Connection) → ConnectionGoesOn bytes c (closed_connection c)
goes_closed bytes c = goes_over bytes c (closed_connection c) refl refl refl refl

over_failing : (proposed : Bool) → is_closed (if proposed then Failed else Closed) ≡ true
over_failing true = refl
over_failing false = refl

pub goes_failing : (bytes : List ℕ) (c : Connection) → ConnectionGoesOn bytes c (failing c)
goes_failing bytes c = goes_over bytes c (failing c) refl refl (over_failing (is_proposed c.stage)) refl

-- it is closed with the node's refusal
pub goes_refused : (code : RefusalCode) (c : Connection) → is_closed c.stage ≡ false → ConnectionGoesOn [] c (connect_refused code c)
goes_refused code c stays =
    record {
      port = refl;
      name = refl;
      closed = λ over. absurd (not_both (is_closed c.stage) over stays);
      whole = λ again. absurd (not_both true refl again);
      prefix = [];
      answer = spelling (packets.Connack (connacks.Refused code));
      begins = record { rest = []; is = refl };
      refusal = inr (code, refl);
      put = refl;
    }

-- bytes that are queued come after all others, or the connection is closed
goes_put : (bytes : List ℕ) (c : Connection) → is_closed c.stage ≡ false → ConnectionGoesOn bytes c (with_queued bytes c)
goes_put bytes c stays = by (nat_le (length c.pending + length bytes) max_pending)
  where
    by : (fits : Bool) → ConnectionGoesOn bytes c (if fits then putting bytes c else failing c)
    by true =
        record {
          port = refl;
          name = refl;
          closed = λ over. absurd (not_both (is_closed c.stage) over stays);
          whole = λ _. refl;
          prefix = bytes;
          answer = [];
          begins = record { rest = []; is = sym (append-nil bytes) };
          refusal = inl refl;
          put = ap (λ (l : List ℕ). c.pending ++ l) (sym (append-nil bytes));
        }
    by false = goes_failing bytes c

-- one thing and then another: after the first it was closed, or is open
closed_between : (xs ys : List ℕ) (c d e : Connection) → is_closed d.stage ≡ true → ConnectionGoesOn xs c d → ConnectionGoesOn ys d e → ConnectionGoesOn (xs ++ ys) c e
closed_between xs ys c d e over one two =
    record {
      port = two.port ∙ one.port;
      name = two.name ∙ one.name;
      closed = λ was. ((two.closed over).0, (two.closed over).1 ∙ (one.closed was).1);
      whole = λ stays. absurd (not_both (is_closed e.stage) (two.closed over).0 stays);
      prefix = one.prefix;
      answer = one.answer;
      begins = record {
        rest = one.begins.rest ++ ys;
        is = ap (λ (l : List ℕ). l ++ ys) one.begins.is ∙ append_assoc one.prefix one.begins.rest ys;
      };
      refusal = one.refusal;
      put = (two.closed over).1 ∙ one.put;
    }

open_between : (xs ys : List ℕ) (c d e : Connection) → is_closed d.stage ≡ false → ConnectionGoesOn xs c d → ConnectionGoesOn ys d e → ConnectionGoesOn (xs ++ ys) c e
open_between xs ys c d e stays one two =
    record {
      port = two.port ∙ one.port;
      name = two.name ∙ one.name;
      closed = λ was. absurd (not_both (is_closed d.stage) (one.closed was).0 stays);
      whole = λ again. two.whole again ∙ ap (λ (l : List ℕ). l ++ ys) (one.whole stays) ∙ append_assoc c.pending xs ys;
      prefix = xs ++ two.prefix;
      answer = two.answer;
      begins = record {
        rest = two.begins.rest;
        is = ap (λ (l : List ℕ). xs ++ l) two.begins.is ∙ sym (append_assoc xs two.prefix two.begins.rest);
      };
      refusal = two.refusal;
      put = two.put ∙ ap (λ (l : List ℕ). l ++ (two.prefix ++ two.answer)) (one.whole stays)
          ∙ append_assoc c.pending xs (two.prefix ++ two.answer)
          ∙ ap (λ (l : List ℕ). c.pending ++ l) (sym (append_assoc xs two.prefix two.answer));
    }

goes_both : (xs ys : List ℕ) (c d e : Connection) → ConnectionGoesOn xs c d → ConnectionGoesOn ys d e → ConnectionGoesOn (xs ++ ys) c e
goes_both xs ys c d e one two = by (is_closed d.stage) refl
  where
    by : (over : Bool) → is_closed d.stage ≡ over → ConnectionGoesOn (xs ++ ys) c e
    by true is = closed_between xs ys c d e is one two
    by false is = open_between xs ys c d e is one two

-- ---- all of them

pub each_itself : (cs : List Connection) → EachGoesOn [] cs cs
each_itself [] = tt
each_itself (c ∷ cs) = (goes_itself c, each_itself cs)

bytes_join : (g h : List (Effect Command Output)) (name : ConnectionName) → bytes_for (g ++ h) name ≡ bytes_for g name ++ bytes_for h name
bytes_join [] h name = refl
bytes_join (Out place output ∷ g) h name =
    ap (λ (l : List ℕ). bytes_by output name ++ l) (bytes_join g h name)
    ∙ sym (append_assoc (bytes_by output name) (bytes_for g name) (bytes_for h name))
bytes_join (To receiver message ∷ g) h name = bytes_join g h name

pub each_both : (g h : List (Effect Command Output)) (cs ds es : List Connection) → EachGoesOn g cs ds → EachGoesOn h ds es →
    EachGoesOn (g ++ h) cs es
each_both g h [] [] [] one two = tt
each_both g h [] [] (e ∷ es) one two = two
each_both g h [] (d ∷ ds) es one two = absurd one
each_both g h (c ∷ cs) [] es one two = absurd one
each_both g h (c ∷ cs) (d ∷ ds) [] one two = absurd two
each_both g h (c ∷ cs) (d ∷ ds) (e ∷ es) one two = (
  subst (λ (b : List ℕ). ConnectionGoesOn b c e) joins
      (goes_both (bytes_for g c.name) (bytes_for h d.name) c d e one.0 two.0),
  each_both g h cs ds es one.1 two.1,
)
  where
    joins : bytes_for g c.name ++ bytes_for h d.name ≡ bytes_for (g ++ h) c.name
    joins =
        ap (λ (n : ConnectionName). bytes_for g c.name ++ bytes_for h n) one.0.name ∙ sym (bytes_join g h c.name)

each_message : (receiver : ℕ) (message : Message Command) (g : List (Effect Command Output)) (cs ds : List Connection) →
    EachGoesOn g cs ds → EachGoesOn (To receiver message ∷ g) cs ds
each_message receiver message g [] [] on = tt
each_message receiver message g [] (d ∷ ds) on = on
each_message receiver message g (c ∷ cs) [] on = on
each_message receiver message g (c ∷ cs) (d ∷ ds) on = (on.0, each_message receiver message g cs ds on.1)

-- names stay apart
each_other : (g : List (Effect Command Output)) (cs ds : List Connection) (x y : ConnectionName) → y ≡ x → EachGoesOn g cs ds →
    Each (λ (d : Connection). same_connection d.name x ≡ false) cs → Each (λ (d : Connection). same_connection d.name y ≡ false) ds
each_other g [] [] x y same on apart = tt
each_other g [] (d ∷ ds) x y same on apart = absurd on
each_other g (c ∷ cs) [] x y same on apart = absurd on
each_other g (c ∷ cs) (d ∷ ds) x y same on apart = (
  ap (λ (n : ConnectionName). same_connection n y) on.0.name ∙ ap (λ (n : ConnectionName). same_connection c.name n) same ∙ apart.0,
  each_other g cs ds x y same on.1 apart.1,
)

pub apart_on : (g : List (Effect Command Output)) (cs ds : List Connection) → EachGoesOn g cs ds → AreNamedApart cs → AreNamedApart ds
apart_on g [] [] on apart = tt
apart_on g [] (d ∷ ds) on apart = absurd on
apart_on g (c ∷ cs) [] on apart = absurd on
apart_on g (c ∷ cs) (d ∷ ds) on apart =
    (each_other g cs ds c.name d.name on.0.name on.1 apart.0, apart_on g cs ds on.1 apart.1)

-- a change of the first that passes
pub changed_on : (test : Connection → Bool) (f : Connection → Connection) → ((c : Connection) → test c ≡ true → ConnectionGoesOn [] c (f c)) →
    (cs : List Connection) → EachGoesOn [] cs (changed_where test f cs)
changed_on test f on [] = tt
changed_on test f on (c ∷ cs) = by (test c) refl (changed_on test f on cs)
  where
    by : (b : Bool) → test c ≡ b → EachGoesOn [] cs (changed_where test f cs) →
        EachGoesOn [] (c ∷ cs) (if b then f c ∷ cs else c ∷ changed_where test f cs)
    by true e more = (on c e, each_itself cs)
    by false e more = (goes_itself c, more)

-- ---- outputs

with_none : (bytes : List ℕ) (c d : Connection) → ConnectionGoesOn bytes c d → ConnectionGoesOn (bytes ++ []) c d
with_none bytes c d on = subst (λ (b : List ℕ). ConnectionGoesOn b c d) (sym (append-nil bytes)) on

-- it is not for this one
other_on : (output : Output) (c : Connection) → bytes_by output c.name ≡ [] → ConnectionGoesOn (bytes_by output c.name) c c
other_on output c none = subst (λ (b : List ℕ). ConnectionGoesOn b c c) (sym none) (goes_itself c)

not_open : (over same : Bool) → (not over && same) ≡ false → (over ≡ true) ⊎ (same ≡ false)
not_open true same e = inl refl
not_open false false e = inr refl
not_open false true e = absurd cc

open_so : (over same : Bool) → (not over && same) ≡ true → over ≡ false
open_so true same e = absurd cc
open_so false same e = refl

named_so : (over same : Bool) → (not over && same) ≡ true → same ≡ true
named_so true same e = absurd cc
named_so false same e = e

-- an output for a name is done on the first open connection that has it
module _ (place : ℕ) (output : Output) (name : ConnectionName) (f : Connection → Connection)
    (others : (n : ConnectionName) → same_connection n name ≡ false → bytes_by output n ≡ [])
    (done : (c : Connection) → is_closed c.stage ≡ false → same_connection c.name name ≡ true → ConnectionGoesOn (bytes_by output c.name) c (f c)) where
  not_for : (cs : List Connection) → Each (λ (d : Connection). same_connection d.name name ≡ false) cs → EachGoesOn (Out place output ∷ []) cs cs
  not_for [] apart = tt
  not_for (c ∷ cs) apart =
      (with_none (bytes_by output c.name) c c (other_on output c (others c.name apart.0)), not_for cs apart.1)

  unchanged : (c : Connection) → is_open_named name c ≡ false → ConnectionGoesOn (bytes_by output c.name) c c
  unchanged c fails = by (not_open (is_closed c.stage) (same_connection c.name name) fails)
    where
      by : (is_closed c.stage ≡ true) ⊎ (same_connection c.name name ≡ false) → ConnectionGoesOn (bytes_by output c.name) c c
      by (inl over) = goes_over (bytes_by output c.name) c c refl refl over refl
      by (inr other) = other_on output c (others c.name other)

  pub named_on : (cs : List Connection) → AreNamedApart cs → EachGoesOn (Out place output ∷ []) cs (changed_where (is_open_named name) f cs)
  named_on [] apart = tt
  named_on (c ∷ cs) apart = by (is_open_named name c) refl (named_on cs apart.1)
    where
      by : (b : Bool) → is_open_named name c ≡ b → EachGoesOn (Out place output ∷ []) cs (changed_where (is_open_named name) f cs) →
          EachGoesOn (Out place output ∷ []) (c ∷ cs) (if b then f c ∷ cs else c ∷ changed_where (is_open_named name) f cs)
      by true e more =
          let named = named_so (is_closed c.stage) (same_connection c.name name) e in (
            with_none (bytes_by output c.name) c (f c) (done c (open_so (is_closed c.stage) (same_connection c.name name) e) named),
            not_for cs (subst (λ (n : ConnectionName). Each (λ (d : Connection). same_connection d.name n ≡ false) cs)
                (same_name c.name name named) apart.0),
          )
      by false e more = (with_none (bytes_by output c.name) c c (unchanged c e), more)

for_other : (name : ConnectionName) (packet : Packet) (n : ConnectionName) → same_connection n name ≡ false →
    bytes_by (outputs.Send name packet) n ≡ []
for_other name packet n e = ap (λ (b : Bool). if b then spelling packet else []) e

sent_on : (name : ConnectionName) (packet : Packet) (c : Connection) → is_closed c.stage ≡ false → same_connection c.name name ≡ true →
    ConnectionGoesOn (bytes_by (outputs.Send name packet) c.name) c (with_queued (spelling packet) c)
sent_on name packet c stays e =
    subst (λ (b : List ℕ). ConnectionGoesOn b c (with_queued (spelling packet) c))
    (ap (λ (b : Bool). if b then spelling packet else []) (sym e)) (goes_put (spelling packet) c stays)

pub serves_on : (place : ℕ) (output : Output) (core new : CoreState) → Performs output core new → AreNamedApart core.connections →
    EachGoesOn (Out place output ∷ []) core.connections new.connections
unfolding changes_named
serves_on place (outputs.Send name packet) core new (inl is) apart =
    subst (λ (k : CoreState). EachGoesOn (Out place (outputs.Send name packet) ∷ []) core.connections k.connections) (sym is)
    (named_on place (outputs.Send name packet) name (with_queued (spelling packet)) (for_other name packet) (sent_on name packet)
    core.connections apart)
serves_on place (outputs.Send name packet) core new (inr is) apart =
    subst (λ (k : CoreState). EachGoesOn (Out place (outputs.Send name packet) ∷ []) core.connections k.connections) (sym is)
    (named_on place (outputs.Send name packet) name failing (for_other name packet)
    (λ c stays e. goes_failing (bytes_by (outputs.Send name packet) c.name) c) core.connections apart)
serves_on place (outputs.Close name) core new is apart =
    subst (λ (k : CoreState). EachGoesOn (Out place (outputs.Close name) ∷ []) core.connections k.connections) (sym is)
    (named_on place (outputs.Close name) name closed_connection (λ n e. refl) (λ c stays e. goes_closed [] c) core.connections apart)

pub delivers_on : (given : List (Effect Command Output)) (core new : CoreState) (messages : List (Effect Command Output)) →
    HandlesAll given core new messages → AreNamedApart core.connections → EachGoesOn given core.connections new.connections
delivers_on _ core _ _ nothing apart = each_itself core.connections
delivers_on _ core new _ (does {place} {output} {core = k} {next = next} {given = given} served more) apart =
    let first = serves_on place output core next served apart in
    each_both (Out place output ∷ []) given core.connections next.connections new.connections first
    (delivers_on given next new _ more (apart_on (Out place output ∷ []) core.connections next.connections first apart))
delivers_on _ core new _ (sends {receiver} {message} {given = given} more) apart =
    each_message receiver message given core.connections new.connections (delivers_on given core new _ more apart)
delivers_on _ core new _ (loses {receiver} {message} {given = given} more) apart =
    each_message receiver message given core.connections new.connections (delivers_on given core new _ more apart)
