-- The packets in each list on which the nodes agree are packets that nodes proposed: they are in their ranges, and a name has one Connect at most.
use Rattle.std.proofs.Common.{◌≡◌, ◌≤◌, ◌+◌, ℕ, Bool, true, false, if◌then◌else◌, List, [], ◌∷◌, filter, length, refl, sym, ap, ◌∙◌, subst, arith, length-append}
use Rattle.std.proofs.lemmas.Bool.{both_ways}
use Rattle.std.proofs.lemmas.List.Elements.{filter-append}
use Rattle.lists.specs.Lists.{Each, In, IsPrefixOf}
use Rattle.lists.specs.Lists.In.{here, there}
use Rattle.lists.proofs.Members.{in_left}
use Rattle.ballot_base.specs.declared.config.Config.{Config}
use Rattle.agreement.specs.Proposals.{commands_of}
use Rattle.broker_spec.specs.declared.command.Command.{Command}
use Rattle.broker_spec.specs.declared.command.Command.TheVariants as commands
use Rattle.broker_spec.specs.Commands.{past_from, past_of, place_of, usual_limits}
use Rattle.broker_spec.specs.Connection.{ConnectionName}
use Rattle.broker_spec.specs.EndingTheorems.{connects_of, is_connect_of}
use Rattle.broker_spec.specs.Place.{Past}
use Rattle.exactly_once.specs.StoryCommands.{is_packet_of}
use Rattle.exactly_once.proofs.Takes.{same_name_self}
use Rattle.headline.specs.packet_world.Steps.{is_of_connection}
use Rattle.headline.proofs.of_packet_world.Answers.{of_name}
use Rattle.headline.specs.node_group.Group.{Group}
use Rattle.headline.specs.node_group.Order.{packet_commands}
use Rattle.headline.specs.node_group.Steps.{GroupTrace, all_proposed, groups_on_trace}
use Rattle.headline.proofs.of_node_group.CarriedInOrder.{CarriedSo, IsAgreedSo}
use Rattle.headline.proofs.of_node_group.NamesInGroups.{all_well}
use Rattle.headline.proofs.of_node_group.Ordered.{in_agreed}
use Rattle.one_client.specs.Calls.{AreFaithful, BringsBytes, calls_on}
use Rattle.one_client.specs.Proposals.{AgreedPacketsWereProposed, IsInRange}
use Rattle.one_client.proofs.ConnectsOnce.{connect_named, names_connect_once}
use Rattle.one_client.proofs.ProposedInRange.{proposals_are_in_range}

-- ---- lists

in_prefix : {X : Type 0} (x : X) (xs ys : List X) → IsPrefixOf xs ys → In x xs → In x ys
in_prefix x xs ys front i = subst (In x) (sym front.is) (in_left front.rest i)

pub passing : {X : Type 0} (test : X → Bool) (xs : List X) (x : X) → In x xs → test x ≡ true → In x (filter test xs)
passing test [] x i holds = elim i [ ]
passing test (y ∷ xs) x here holds = subst (λ (b : Bool). In x (if b then x ∷ filter test xs else filter test xs)) (sym holds) here
passing test (y ∷ xs) x (there among) holds = by (test y) (passing test xs x among holds)
  where
    by : (b : Bool) → In x (filter test xs) → In x (if b then y ∷ filter test xs else filter test xs)
    by true i = there i
    by false i = i

of_longer : {X : Type 0} (x z : X) (zs xs : List X) → In x (z ∷ zs) → (In x zs → In x xs) → In x (z ∷ xs)
of_longer x z zs xs here rest = here
of_longer x z zs xs (there j) rest = there (rest j)

pub passed : {X : Type 0} (test : X → Bool) (xs : List X) (x : X) → In x (filter test xs) → In x xs
passed test [] x i = elim i [ ]
passed test (y ∷ xs) x i = by (test y) i (passed test xs x)
  where
    by : (b : Bool) → In x (if b then y ∷ filter test xs else filter test xs) → (In x (filter test xs) → In x xs) → In x (y ∷ xs)
    by true j rest = of_longer x y (filter test xs) xs j rest
    by false j rest = there (rest j)

each_in : (P : Command → Type 0) (xs : List Command) (x : Command) → Each P xs → In x xs → P x
each_in P (y ∷ xs) x all here = all.0
each_in P (y ∷ xs) x all (there i) = each_in P xs x all.1 i
each_in P [] x all i = elim i [ ]

each_among : (P : Command → Type 0) (xs : List Command) → ((x : Command) → In x xs → P x) → Each P xs
each_among P [] all = tt
each_among P (x ∷ xs) all = (all x here, each_among P xs (λ y i. all y (there i)))

-- ---- the number of Connects

-- among the packets of a name are its Connects
same_connects : (x : ConnectionName) (commands : List Command) → filter (is_connect_of x) (filter (of_name x) commands) ≡ filter (is_connect_of x) commands
same_connects x [] = refl
same_connects x (command ∷ commands) = by (is_packet_of command x) refl (same_connects x commands)
  where
    by : (b : Bool) → is_packet_of command x ≡ b → filter (is_connect_of x) (filter (of_name x) commands) ≡ filter (is_connect_of x) commands
        → filter (is_connect_of x) (if b then command ∷ filter (of_name x) commands else filter (of_name x) commands) ≡ filter (is_connect_of x) (command ∷ commands)
    by true e ih = ap (λ l. if is_connect_of x command then command ∷ l else l) ih
    by false e ih = ih ∙ sym (ap (λ b. if b then command ∷ filter (is_connect_of x) commands else filter (is_connect_of x) commands) (connect_named x command e))

connects_from : (x : ConnectionName) (past : Past) (commands : List Command) → connects_of x (past_from usual_limits past commands) ≡ connects_of x past + length (filter (is_connect_of x) commands)
unfolding past_from
connects_from x past [] = omega arith
connects_from x past (command ∷ commands) = by (is_connect_of x command) refl (connects_from x (place_of usual_limits past command ∷ past) commands)
  where
    by : (b : Bool) → is_connect_of x command ≡ b
        → connects_of x (past_from usual_limits (place_of usual_limits past command ∷ past) commands)
        ≡ connects_of x (place_of usual_limits past command ∷ past) + length (filter (is_connect_of x) commands)
        → connects_of x (past_from usual_limits (place_of usual_limits past command ∷ past) commands)
        ≡ connects_of x past + length (if b then command ∷ filter (is_connect_of x) commands else filter (is_connect_of x) commands)
    by true e ih =
        let one : connects_of x (place_of usual_limits past command ∷ past) ≡ 1 + connects_of x past = ap (λ (b : Bool). (if b then 1 else 0) + connects_of x past) e in
        omega (arith, ih, one)
    by false e ih =
        let none : connects_of x (place_of usual_limits past command ∷ past) ≡ 0 + connects_of x past = ap (λ (b : Bool). (if b then 1 else 0) + connects_of x past) e in
        omega (arith, ih, none)

connects_in_past : (x : ConnectionName) (commands : List Command) → connects_of x (past_of usual_limits commands) ≡ length (filter (is_connect_of x) commands)
connects_in_past x commands = let c = connects_from x [] commands in omega (arith, c)

-- ---- what is agreed

named_in : (command : Command) → is_of_connection command ≡ true → (x : ConnectionName) × (is_packet_of command x ≡ true)
named_in (commands.Connect x c clean) own = (x, same_name_self x)
named_in (commands.Packet x packet) own = (x, same_name_self x)
named_in (commands.Lost x) own = absurd (both_ways false refl own)
named_in (commands.Start ballot) own = absurd (both_ways false refl own)
named_in (commands.Expel c) own = absurd (both_ways false refl own)

pub agreed_packets_were_proposed : AgreedPacketsWereProposed
agreed_packets_were_proposed nodes config g went of agreed is command i own =
    let z = named_in command own in
    let put = commands_of (all_proposed went) in
    passed (of_name z.0) put command
    (in_prefix command (packet_commands z.0 agreed) (packet_commands z.0 put) (in_agreed config g (groups_on_trace went) (all_proposed went) of (all_well nodes config g went).1 z.0 agreed is)
    (passing (of_name z.0) agreed command i z.1))

module _ {nodes : ℕ} {config : Config} (g : Group) (went : GroupTrace nodes config g) (so : CarriedSo went) (agreed : List Command) (is : IsAgreedSo so agreed) (faithful : AreFaithful went)
    (brings : Each BringsBytes (calls_on went)) where
  front : (x : ConnectionName) → IsPrefixOf (packet_commands x agreed) (packet_commands x (commands_of (all_proposed went)))
  front x = in_agreed config g (groups_on_trace went) (all_proposed went) so.of (all_well nodes config g went).1 x agreed is

  was_proposed : (command : Command) → In command agreed → is_of_connection command ≡ true → In command (commands_of (all_proposed went))
  was_proposed command i own = agreed_packets_were_proposed nodes config g went so.of agreed is command i own

  pub agreed_in_range : Each IsInRange agreed
  agreed_in_range = each_among IsInRange agreed by
    where
      on : (command : Command) → In command agreed → is_of_connection command ≡ true → IsInRange command
      on command i own =
          each_in IsInRange (commands_of (all_proposed went)) command (proposals_are_in_range nodes config g went faithful brings) (was_proposed command i own)

      by : (command : Command) → In command agreed → IsInRange command
      by (commands.Connect x c clean) i = on (commands.Connect x c clean) i refl
      by (commands.Packet x packet) i = on (commands.Packet x packet) i refl
      by (commands.Lost x) i = tt
      by (commands.Start ballot) i = tt
      by (commands.Expel c) i = tt

  pub agreed_once : (x : ConnectionName) → connects_of x (past_of usual_limits agreed) ≤ 1
  agreed_once x =
      let f = front x in
      let put = commands_of (all_proposed went) in
      let few : length (filter (is_connect_of x) put) ≤ 1 = names_connect_once nodes config g went x faithful brings in
      let all : length (filter (is_connect_of x) (packet_commands x put)) ≡ length (filter (is_connect_of x) put) = ap length (same_connects x put) in
      let mine : length (filter (is_connect_of x) (packet_commands x agreed)) ≡ length (filter (is_connect_of x) agreed) = ap length (same_connects x agreed) in
      let cut : length (filter (is_connect_of x) (packet_commands x put)) ≡ length (filter (is_connect_of x) (packet_commands x agreed)) + length (filter (is_connect_of x) f.rest) =
      ap (λ l. length (filter (is_connect_of x) l)) f.is ∙ ap length (filter-append (is_connect_of x) (packet_commands x agreed) f.rest)
      ∙ length-append (filter (is_connect_of x) (packet_commands x agreed)) (filter (is_connect_of x) f.rest) in
      let counted = connects_in_past x agreed in
      omega (arith, few, all, mine, cut, counted)
