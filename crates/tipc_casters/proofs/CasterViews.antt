-- What happens at a caster, as a world tells of it, leaves it and its members cast.
use Rattle.std.proofs.Common.{◌≡◌, ◌<◌, ◌≤◌, ◌^◌, ◌+◌, ◌==◌, ℕ, true, false, if◌then◌else◌, List, [], ◌∷◌, ◌++◌, map, Option, Some, None, refl, sym, ap, subst, ◌∙◌, inl, inr, arith}
use Rattle.std.specs.Prelude.{◌⊎◌, All}
use Rattle.std.specs.List.{Contains, flat_map, list_all}
use Rattle.std.proofs.lemmas.Bool.{and_parts, cases_lt}
use Rattle.std.proofs.lemmas.Bool.Decides.{nat_tests}
use Rattle.std.proofs.lemmas.Grind.{flat_map-append}
use Rattle.std.proofs.lemmas.List.{map-append}
use Rattle.std.proofs.lemmas.List.Elements.{All-append, All-contains, All-contains_itself, All-nil, All-weaker, Contains-append_cases, Contains-append_left, Contains-append_right, Contains-push_cases}
use Rattle.tipc_types.specs.Position.{number_of}
use Rattle.tipc_types.specs.Prefixes.{IsPrefixOf}
use Rattle.tipc_outside.specs.declared.outgoing.Outgoing.{Outgoing}
use Rattle.tipc_header.specs.Frames.{frame_of, stamped}
use Rattle.tipc_fragments.specs.Joining.{fresh}
use Rattle.tipc_fragments.specs.Streams.{items_of}
use Rattle.tipc_bundle.specs.Bundles.{IsInner}
use Rattle.tipc_reassembly.specs.Opening.{none as none_brought}
use Rattle.tipc_reassembly.specs.Slots.{IsSlot, slot_bytes, slot_items}
use Rattle.tipc_broadcast.specs.Casting.{accepted, accepting, booted, Casting, shown}
use Rattle.tipc_broadcast.specs.Contacts.{carried}
use Rattle.tipc_broadcast.specs.Deeds.{AreLawful, CastDeed, after_deed, after_deeds, deed_frames, deeds_frames, sends_nothing}
use Rattle.tipc_broadcast.proofs.Apart.{deed_accepted}
use Rattle.tipc_broadcast.proofs.Deeds.{deed_node, deeds_node}
use Rattle.tipc_broadcast_law.specs.Groups.{is_contact, put}
use Rattle.tipc_broadcast_law.proofs.Places.{put_other, put_same, same_or_not}
use Rattle.tipc_casters.specs.Deeds.{after_doing, DeedsDone, go_on, MayDo, none}
use Rattle.tipc_casters.specs.Messages.{ArePiecesOf}
use Rattle.tipc_casters.specs.Reading.{IsWritten}
use Rattle.tipc_casters.specs.Sights.{Aired, CasterSight, contact_of, IsAired, IsCast, MemberSight, Told}
use Rattle.tipc_casters.specs.Turns.{aired, hears_other, IsRight, IsToldToMember, joins, leaves, new_caster, new_member, restarted, sends, states}
use Rattle.tipc_casters.specs.ViewLaws.{begins, BeginsCast, ends, DoesDeeds, HearsOtherStaysCast, is_part, lasts, parted_from, MeetsMember, MeetsStaysCast, no_state, one_state, PartsStaysCast, put_one_more, RestartsStaysCast, SendsStaysCast, StaysCast, TellsState, TellsStaysCast, TellsTo}
use Rattle.tipc_casters.specs.Views.{AreCastSeen, AreContactNumbers, CastsAreTrue, CasterView, FrontsAreCast, IsAmongSent, IsCasterSeen, IsCastOf, IsOther, MemberView}
use Rattle.tipc_casters.proofs.CasterTurns.{cast_restarts}
use Rattle.tipc_casters.proofs.DeedTurns.{all_casting, all_keep, does_casting}
use Rattle.tipc_casters.proofs.MemberMore.{caster_tells_all}
use Rattle.tipc_casters.proofs.MemberTurns.{casters_begin}
use Rattle.tipc_casters.proofs.Messages.{gives_messages}
use Rattle.tipc_casters.proofs.Reading.{frames_are_written}

-- ---- what deeds leave

one_numbered : (a : CasterSight) (ms : ℕ → MemberSight) (d : CastDeed) (may : MayDo a ms d) (f : ℕ) → (f ≡ a.casting.boot → ⊥) → (after_doing a ms d may).numbered f ≡ a.numbered f
one_numbered a ms (CastDeed.joins m boot) may f never = refl
one_numbered a ms (CastDeed.leaves m) may f never = put_other a.casting.boot _ a.numbered f never
one_numbered a ms (CastDeed.states m seen) may f never = put_other a.casting.boot _ a.numbered f never
one_numbered a ms (CastDeed.bears bearer is_mended) may f never = refl
one_numbered a ms (CastDeed.hears boot members by packet) may f never = refl
one_numbered a ms (CastDeed.sends pieces) may f never = put_other a.casting.boot _ a.numbered f never

one_boot : (a : CasterSight) (ms : ℕ → MemberSight) (d : CastDeed) (may : MayDo a ms d) → (after_doing a ms d may).casting.boot ≡ a.casting.boot
one_boot a ms d may = ap (λ (v : Casting). v.boot) (does_casting a ms d may) ∙ (deed_node d a.casting).boot

all_numbered : (ms : ℕ → MemberSight) (a b : CasterSight) (ds : List CastDeed) → DeedsDone ms a ds b → (f : ℕ) → (f ≡ a.casting.boot → ⊥) → b.numbered f ≡ a.numbered f
all_numbered ms a _ _ none f never = refl
all_numbered ms a b _ (go_on {d = d} {ds = ds} lawful quiet may more) f never =
    all_numbered ms (after_doing a ms d may) b ds more f (λ is. never (is ∙ one_boot a ms d may)) ∙ one_numbered a ms d may f never

one_old : (a : CasterSight) (ms : ℕ → MemberSight) (d : CastDeed) (may : MayDo a ms d) (f : Aired) → Contains a.sent f → Contains (after_doing a ms d may).sent f
one_old a ms (CastDeed.joins m boot) may f there = there
one_old a ms (CastDeed.leaves m) may f there = Contains-append_left a.sent _ f there
one_old a ms (CastDeed.states m seen) may f there = Contains-append_left a.sent _ f there
one_old a ms (CastDeed.bears bearer is_mended) may f there = there
one_old a ms (CastDeed.hears boot members by packet) may f there = there
one_old a ms (CastDeed.sends pieces) may f there = Contains-append_left a.sent _ f there

all_old : (ms : ℕ → MemberSight) (a b : CasterSight) (ds : List CastDeed) → DeedsDone ms a ds b → (f : Aired) → Contains a.sent f → Contains b.sent f
all_old ms a _ _ none f there = there
all_old ms a b _ (go_on {d = d} {ds = ds} lawful quiet may more) f there = all_old ms (after_doing a ms d may) b ds more f (one_old a ms d may f there)

-- a frame among those that left, as it stands in the air
in_air : (stamp : ℕ) (frames : List Outgoing) (o : Outgoing) → Contains frames o → Contains (aired stamp frames) (record { frame = o; stamp = stamp })
in_air stamp [] o there = absurd (omega (arith, there.1))
in_air stamp (f ∷ frames) o there =
    let x : Aired = record { frame = f; stamp = stamp } in
    elim (Contains-append_cases (f ∷ []) frames o there) [
      | inl first ↦ elim (Contains-push_cases [] f o first) [
        | inl nowhere ↦ absurd (omega (arith, nowhere.1))
        | inr same ↦ subst (λ (p : Outgoing). Contains (x ∷ aired stamp frames) (record { frame = p; stamp = stamp })) same (Contains-append_left (x ∷ []) (aired stamp frames) x (All-contains_itself_one x))
      ]
      | inr later ↦ Contains-append_right (x ∷ []) (aired stamp frames) (record { frame = o; stamp = stamp }) (in_air stamp frames o later)
    ]
  where
    All-contains_itself_one : (y : Aired) → Contains (y ∷ []) y
    All-contains_itself_one y = (0, omega arith, refl)

no_frame : {A : Type 0} (o : Outgoing) → Contains [] o → A
no_frame o there = absurd (omega (arith, there.1))

one_new : (a : CasterSight) (ms : ℕ → MemberSight) (d : CastDeed) (may : MayDo a ms d) (o : Outgoing) → Contains (deed_frames d a.casting) o → Contains (after_doing a ms d may).sent (record { frame = o; stamp = accepted (after_doing a ms d may).casting.sending })
one_new a ms (CastDeed.joins m boot) may o there = no_frame o there
one_new a ms (CastDeed.leaves m) may o there = Contains-append_right a.sent _ _ (in_air _ _ o there)
one_new a ms (CastDeed.states m seen) may o there = Contains-append_right a.sent _ _ (in_air _ _ o there)
one_new a ms (CastDeed.bears bearer is_mended) may o there = no_frame o there
one_new a ms (CastDeed.hears boot members by packet) may o there = no_frame o there
one_new a ms (CastDeed.sends pieces) may o there = Contains-append_right a.sent _ _ (in_air _ _ o there)

-- where nothing is sent, as much is accepted as before
all_accepted : (ms : ℕ → MemberSight) (a b : CasterSight) (ds : List CastDeed) → DeedsDone ms a ds b → list_all sends_nothing ds ≡ true → accepted b.casting.sending ≡ accepted a.casting.sending
all_accepted ms a _ _ none quiet = refl
all_accepted ms a b _ (go_on {d = d} {ds = ds} lawful later may more) quiet =
    all_accepted ms (after_doing a ms d may) b ds more later ∙ ap (λ (v : Casting). accepted v.sending) (does_casting a ms d may) ∙ deed_accepted d a.casting (and_parts (sends_nothing d) (list_all sends_nothing ds) quiet).0

all_new : (ms : ℕ → MemberSight) (a b : CasterSight) (ds : List CastDeed) → DeedsDone ms a ds b → (o : Outgoing) → Contains (deeds_frames ds a.casting) o → Contains b.sent (record { frame = o; stamp = accepted b.casting.sending })
all_new ms a _ _ none o there = no_frame o there
all_new ms a b _ (go_on {d = d} {ds = ds} lawful quiet may more) o there =
    let c = after_doing a ms d may in
    elim (Contains-append_cases (deed_frames d a.casting) (deeds_frames ds (after_deed d a.casting)) o there) [
      | inl here ↦ subst (λ n. Contains b.sent (record { frame = o; stamp = n })) (sym (all_accepted ms c b ds more quiet)) (all_old ms c b ds more (record { frame = o; stamp = accepted c.casting.sending }) (one_new a ms d may o here))
      | inr later ↦ all_new ms c b ds more o (subst (λ v. Contains (deeds_frames ds v) o) (sym (does_casting a ms d may)) later)
    ]

-- ---- how it is seen then

numbered_now_is : (b : CasterSight) (ms : ℕ → MemberSight) → IsCast b ms → b.numbered b.casting.boot ≡ b.casting.sending.numbered
numbered_now_is b ms h = sym (h.caster.numbered b.casting.boot) ∙ ap h.group.caster.numbered (sym h.caster.boot) ∙ sym h.caster.stands.numbered

pub other_before : (v v' : CasterView) (ds : List CastDeed) (m : ℕ) → DoesDeeds v v' ds → IsOther v' m → IsOther v m
other_before v v' ds m g o = (o.0, λ is. o.1 (is ∙ sym (ap (λ (x : Casting). x.own) g.casting ∙ (deeds_node ds v.casting).own)))

sent_after : (a b : CasterSight) (ms : ℕ → MemberSight) (ds : List CastDeed) (v v' : CasterView) → IsCasterSeen a v → DeedsDone ms a ds b → DoesDeeds v v' ds → b.casting ≡ v'.casting → (f : Aired)
    → Contains v.sent f ⊎ (Contains (deeds_frames ds v.casting) f.frame × (f.stamp ≤ v'.casting.sending.numbered)) → IsAmongSent b.sent f
sent_after a b ms ds v v' h does g same f (inl old) =
    let there = All-contains (IsAmongSent a.sent) v.sent f h.sent old in
    (there.0, all_old ms a b ds does (record { frame = f.frame; stamp = there.0 }) there.1, there.2)
sent_after a b ms ds v v' h does g same f (inr new) =
    let low = new.1 in
    let count : b.casting.sending.numbered ≡ v'.casting.sending.numbered = ap (λ (x : Casting). x.sending.numbered) same in
    (accepted b.casting.sending, all_new ms a b ds does f.frame (subst (λ x. Contains (deeds_frames ds x) f.frame) (sym h.casting) new.0), omega (arith, low, count))

caster_after : (a b : CasterSight) (ms : ℕ → MemberSight) (ds : List CastDeed) (v v' : CasterView) → IsCasterSeen a v → DeedsDone ms a ds b → IsCast b ms → DoesDeeds v v' ds → ((m : ℕ) → IsOther v m → b.joined m ≡ v'.joined m)
    → ((m c s : ℕ) → IsOther v m → b.begun m c ≡ Some s → Contains (v'.entered m) c) → ((m own theirs : ℕ) → IsOther v m → AreContactNumbers own theirs → ArePiecesOf (v'.put m own theirs) (b.put m (contact_of own theirs))) → IsCasterSeen b v'
caster_after a b ms ds v v' h does cast g joined begun puts =
    let casting : b.casting ≡ v'.casting = all_casting ms a b ds does ∙ ap (after_deeds ds) h.casting ∙ sym g.casting in
    let boot : v'.casting.boot ≡ v.casting.boot = ap (λ (x : Casting). x.boot) g.casting ∙ (deeds_node ds v.casting).boot in
    record {
      casting = casting;
      numbered = λ f. elim (same_or_not f v.casting.boot) [
        | inl now ↦
            let here : f ≡ v'.casting.boot = now ∙ sym boot in
            let mine : f ≡ b.casting.boot = here ∙ ap (λ (x : Casting). x.boot) (sym casting) in
            ap b.numbered mine ∙ numbered_now_is b ms cast ∙ ap (λ (x : Casting). x.sending.numbered) casting ∙ sym g.now ∙ ap v'.numbered (sym here)
        | inr past ↦ all_numbered ms a b ds does f (λ is. past (is ∙ ap (λ (x : Casting). x.boot) h.casting)) ∙ h.numbered f ∙ sym (g.numbered f past)
      ];
      joined = λ m o. joined m (other_before v v' ds m g o);
      begun = λ m c s o is. begun m c s (other_before v v' ds m g o) is;
      put = λ m own theirs o numbers. puts m own theirs (other_before v v' ds m g o) numbers;
      sent = All-weaker (λ (f : Aired). Contains v.sent f ⊎ (Contains (deeds_frames ds v.casting) f.frame × (f.stamp ≤ v'.casting.sending.numbered))) (IsAmongSent b.sent) (λ f is. sent_after a b ms ds v v' h does g casting f is) v'.sent g.sent;
    }

-- each frame that left stands among those that the caster sent
written_by : (ms : ℕ → MemberSight) (a b : CasterSight) (ds : List CastDeed) → DeedsDone ms a ds b → IsCast b ms → All (IsWritten b.casting.own) (deeds_frames ds a.casting)
written_by ms a b ds does cast =
    let Written : Aired → Type 0 = λ f. IsWritten b.casting.own f.frame in
    All-weaker (Contains (deeds_frames ds a.casting)) (IsWritten b.casting.own)
    (λ o there. All-contains Written b.sent (record { frame = o; stamp = accepted b.casting.sending }) (frames_are_written b ms cast) (all_new ms a b ds does o there)) (deeds_frames ds a.casting) (All-contains_itself (deeds_frames ds a.casting))

-- after deeds a caster is cast, where it is seen so
goes_cast : (v v' : CasterView) (ws : ℕ → MemberView) (ds : List CastDeed) (h : AreCastSeen v ws) (b : CasterSight) → DeedsDone h.member_sights h.caster_sight ds b → DoesDeeds v v' ds → ((m : ℕ) → IsOther v m → b.joined m ≡ v'.joined m)
    → ((m c s : ℕ) → IsOther v m → b.begun m c ≡ Some s → Contains (v'.entered m) c) → ((m own theirs : ℕ) → IsOther v m → AreContactNumbers own theirs → ArePiecesOf (v'.put m own theirs) (b.put m (contact_of own theirs))) → StaysCast v v' ws ds
goes_cast v v' ws ds h b does g joined begun puts =
    let a = h.caster_sight in
    let ms = h.member_sights in
    let cast = all_keep ms a b ds h.cast does in
    let own : b.casting.own ≡ v.casting.own = ap (λ (x : Casting). x.own) (all_casting ms a b ds does) ∙ (deeds_node ds a.casting).own ∙ ap (λ (x : Casting). x.own) h.caster.casting in
    record {
      cast = record {
        caster_sight = b;
        member_sights = ms;
        cast = cast;
        caster = caster_after a b ms ds v v' h.caster does cast g joined begun puts;
        members = λ m o. h.members m (other_before v v' ds m g o);
      };
      written = subst (λ n. All (IsWritten n) (deeds_frames ds v.casting)) own (subst (λ x. All (IsWritten b.casting.own) (deeds_frames ds x)) h.caster.casting (written_by ms a b ds does cast));
    }

-- what is lawful at the caster's link is so at that which is seen
lawful_at : (a : CasterSight) (v : CasterView) (ds : List CastDeed) → IsCasterSeen a v → AreLawful ds v.casting → AreLawful ds a.casting
lawful_at a v ds h lawful = subst (AreLawful ds) (sym h.casting) lawful

-- what it began it entered, also then
begun_still : (a : CasterSight) (v v' : CasterView) (ds : List CastDeed) → IsCasterSeen a v → DoesDeeds v v' ds → (m c s : ℕ) → IsOther v m → a.begun m c ≡ Some s → Contains (v'.entered m) c
begun_still a v v' ds h g m c s o is = All-contains (Contains (v'.entered m)) (v.entered m) c (g.entered m) (h.begun m c s o is)

put_still : (a : CasterSight) (v v' : CasterView) → IsCasterSeen a v → ((m own theirs : ℕ) → v'.put m own theirs ≡ v.put m own theirs) → (m own theirs : ℕ) → IsOther v m → AreContactNumbers own theirs → ArePiecesOf (v'.put m own theirs) (a.put m (contact_of own theirs))
put_still a v v' h same m own theirs o numbers = subst (λ ms. ArePiecesOf ms (a.put m (contact_of own theirs))) (sym (same m own theirs)) (h.put m own theirs o numbers)

-- ---- bearers, and contacts that end

parts_quiet : (ds : List CastDeed) → list_all is_part ds ≡ true → list_all sends_nothing ds ≡ true
parts_quiet [] parts = refl
parts_quiet (CastDeed.leaves m ∷ ds) parts = parts_quiet ds parts
parts_quiet (CastDeed.bears bearer is_mended ∷ ds) parts = parts_quiet ds parts
parts_quiet (CastDeed.joins m boot ∷ ds) parts = absurd (let wrong : false ≡ true = parts in cc)
parts_quiet (CastDeed.states m seen ∷ ds) parts = absurd (let wrong : false ≡ true = parts in cc)
parts_quiet (CastDeed.hears boot members by packet ∷ ds) parts = absurd (let wrong : false ≡ true = parts in cc)
parts_quiet (CastDeed.sends pieces ∷ ds) parts = absurd (let wrong : false ≡ true = parts in cc)

-- the caster after them
record Parted (ms : ℕ → MemberSight) (a : CasterSight) (ds : List CastDeed) : Type 0 where
  after : CasterSight
  does : DeedsDone ms a ds after
  joined : (m : ℕ) → after.joined m ≡ parted_from m ds (a.joined m)
  begun : (m c : ℕ) → after.begun m c ≡ a.begun m c
  put : (m c : ℕ) → after.put m c ≡ a.put m c

left_one : (a : CasterSight) (peer m : ℕ) → (leaves a peer).joined m ≡ (if peer == m then None else a.joined m)
left_one a peer m = elim (same_or_not m peer) [
  | inl is ↦
      let test : (peer == m) ≡ true = grind (arith, nat_tests, is) in
      ap (put peer None a.joined) is ∙ put_same peer None a.joined ∙ ap (λ b. if b then None else a.joined m) (sym test)
  | inr never ↦
      let test : (peer == m) ≡ false = grind (arith, nat_tests, never) in
      put_other peer None a.joined m never ∙ ap (λ b. if b then None else a.joined m) (sym test)
]

parted : (ms : ℕ → MemberSight) (a : CasterSight) (ds : List CastDeed) → AreLawful ds a.casting → list_all is_part ds ≡ true → Parted ms a ds
parted ms a [] lawful parts = record { after = a; does = none; joined = λ m. refl; begun = λ m c. refl; put = λ m c. refl }
parted ms a (CastDeed.leaves peer ∷ ds) lawful parts =
    let rest = parted ms (leaves a peer) ds lawful.1 parts in
    record {
      after = rest.after;
      does = go_on lawful.0 (parts_quiet ds parts) tt rest.does;
      joined = λ m. rest.joined m ∙ ap (parted_from m ds) (left_one a peer m);
      begun = rest.begun;
      put = rest.put;
    }
parted ms a (CastDeed.bears bearer is_mended ∷ ds) lawful parts =
    let rest = parted ms (after_doing a ms (CastDeed.bears bearer is_mended) tt) ds lawful.1 parts in
    record { after = rest.after; does = go_on lawful.0 (parts_quiet ds parts) tt rest.does; joined = rest.joined; begun = rest.begun; put = rest.put }
parted ms a (CastDeed.joins m boot ∷ ds) lawful parts = absurd (let wrong : false ≡ true = parts in cc)
parted ms a (CastDeed.states m seen ∷ ds) lawful parts = absurd (let wrong : false ≡ true = parts in cc)
parted ms a (CastDeed.hears boot members by packet ∷ ds) lawful parts = absurd (let wrong : false ≡ true = parts in cc)
parted ms a (CastDeed.sends pieces ∷ ds) lawful parts = absurd (let wrong : false ≡ true = parts in cc)

pub parts_stays : PartsStaysCast
parts_stays v v' ws ds h g parts joined puts =
    let a = h.caster_sight in
    let p = parted h.member_sights a ds (lawful_at a v ds h.caster g.lawful) parts in
    goes_cast v v' ws ds h p.after p.does g (λ m o. p.joined m ∙ ap (parted_from m ds) (h.caster.joined m o) ∙ sym (joined m o))
    (λ m c s o is. begun_still a v v' ds h.caster g m c s o (sym (p.begun m c) ∙ is))
    (λ m own theirs o numbers. subst (ArePiecesOf (v'.put m own theirs)) (sym (p.put m (contact_of own theirs))) (put_still a v v' h.caster puts m own theirs o numbers))

-- ---- what it hears of others

pub hears_other_stays : HearsOtherStaysCast
hears_other_stays v v' ws boot members by packet h g joined puts =
    let a = h.caster_sight in
    let lawful = lawful_at a v (CastDeed.hears boot members by packet ∷ []) h.caster g.lawful in
    goes_cast v v' ws (CastDeed.hears boot members by packet ∷ []) h (hears_other a packet.previous boot members (carried packet by)) (go_on lawful.0 refl tt none) g
    (λ m o. h.caster.joined m o ∙ sym (joined m o)) (begun_still a v v' _ h.caster g) (put_still a v v' h.caster puts)

-- ---- a message

no_pieces : ArePiecesOf [] []
no_pieces = record { inner = All-nil IsInner; slots = []; sound = All-nil IsSlot; packets_are = refl; whole = refl }

pub more_pieces : (messages others packets pieces : List (List ℕ)) → ArePiecesOf messages packets → ArePiecesOf others pieces → ArePiecesOf (messages ++ others) (packets ++ pieces)
more_pieces messages others packets pieces first later = record {
  inner = All-append IsInner messages others first.inner later.inner;
  slots = first.slots ++ later.slots;
  sound = All-append IsSlot first.slots later.slots first.sound later.sound;
  packets_are = ap (λ xs. xs ++ pieces) first.packets_are ∙ ap (λ ys. map slot_bytes first.slots ++ ys) later.packets_are ∙ sym (map-append slot_bytes first.slots later.slots);
  whole = flat_map-append slot_items first.slots later.slots ∙ ap (λ xs. xs ++ flat_map slot_items later.slots) first.whole ∙ ap (λ ys. flat_map items_of messages ++ ys) later.whole ∙ sym (flat_map-append items_of messages others);
}

sent_pieces : (message : List ℕ) (pieces messages packets : List (List ℕ)) (o : Option ℕ) (c : ℕ) → ArePiecesOf (message ∷ []) pieces → ArePiecesOf messages packets → ArePiecesOf (messages ++ put_one_more message o c) (packets ++ (if is_contact c o then pieces else []))
sent_pieces message pieces messages packets None c are was = more_pieces messages [] packets [] was no_pieces
sent_pieces message pieces messages packets (Some d) c are was = elim (d == c) as (λ b. ArePiecesOf (messages ++ (if b then message ∷ [] else [])) (packets ++ (if b then pieces else []))) [
  | true ↦ more_pieces messages (message ∷ []) packets pieces was are
  | false ↦ more_pieces messages [] packets [] was no_pieces
]

pub sends_stays : SendsStaysCast
sends_stays v v' ws message pieces h g counted are joined puts =
    let a = h.caster_sight in
    let lawful = lawful_at a v (CastDeed.sends pieces ∷ []) h.caster g.lawful in
    let may : accepted (accepting a.casting pieces).sending ≤ 2 ^ 62 = subst (λ (x : Casting). accepted (accepting x pieces).sending ≤ 2 ^ 62) (sym h.caster.casting) (subst (λ (x : Casting). accepted x.sending ≤ 2 ^ 62) g.casting counted) in
    goes_cast v v' ws (CastDeed.sends pieces ∷ []) h (sends a pieces) (go_on lawful.0 refl may none) g
    (λ m o. h.caster.joined m o ∙ sym (joined m o)) (begun_still a v v' _ h.caster g)
    (λ m own theirs o numbers.
    let c = contact_of own theirs in
    subst (λ ms. ArePiecesOf ms (a.put m c ++ (if is_contact c (a.joined m) then pieces else []))) (sym (puts m own theirs numbers))
    (subst (λ x. ArePiecesOf (v.put m own theirs ++ put_one_more message (v.joined m) c) (a.put m c ++ (if is_contact c x then pieces else []))) (sym (h.caster.joined m o))
    (sent_pieces message pieces (v.put m own theirs) (a.put m c) (v.joined m) c are (h.caster.put m own theirs o numbers))))

-- ---- an arrival of a link packet

-- a STATE after the contact began, or where it lasts
record Stated (ms : ℕ → MemberSight) (a : CasterSight) (ds : List CastDeed) : Type 0 where
  after : CasterSight
  does : DeedsDone ms a ds after
  joined : (m : ℕ) → after.joined m ≡ a.joined m
  begun : (m c : ℕ) → after.begun m c ≡ a.begun m c
  put : (m c : ℕ) → after.put m c ≡ a.put m c
  quiet : list_all sends_nothing ds ≡ true

stated : (ms : ℕ → MemberSight) (a : CasterSight) (v v' : CasterView) (w : MemberView) (m : ℕ) (rest : List CastDeed) → All (Contains (ms m).told) w.told → AreLawful rest a.casting → a.joined m ≡ v'.joined m
    → ((t : Told) → v'.joined m ≡ Some t.contact → v.numbered v.casting.boot ≤ t.stamp + 30000 → a.numbered a.casting.boot ≤ t.stamp + 30000) → TellsState v v' w m rest → Stated ms a rest
stated ms a v v' w m _ tells lawful joined recent no_state = record { after = a; does = none; joined = λ i. refl; begun = λ i c. refl; put = λ i c. refl; quiet = refl }
stated ms a v v' w m _ tells lawful joined recent (one_state seen may) = record {
  after = states a m seen;
  does = go_on lawful.0 refl (λ step. (
      let s = may step in
      record { told = s.0; there = All-contains (Contains (ms m).told) w.told s.0 tells s.1; seen_is = s.2; joined = joined ∙ s.3; recent = recent s.0 s.3 s.4 })) none;
  joined = λ i. refl;
  begun = λ i c. refl;
  put = λ i c. refl;
  quiet = refl;
}

met_cast : (v v' : CasterView) (ws : ℕ → MemberView) (m : ℕ) (first rest : List CastDeed) (h : AreCastSeen v ws) → DoesDeeds v v' (first ++ rest) → IsOther v m → MeetsMember v v' (ws m) m first → TellsState v v' (ws m) m rest
    → ((i : ℕ) → IsOther v i → (i ≡ m → ⊥) → v'.joined i ≡ v.joined i) → ((i own theirs : ℕ) → v'.put i own theirs ≡ v.put i own theirs) → StaysCast v v' ws (first ++ rest)
met_cast v v' ws m _ rest h g other (lasts still) states joined puts =
    let a = h.caster_sight in
    let is = h.members m other in
    let count = h.caster.numbered v.casting.boot in
    let boot = ap (λ (x : Casting). a.numbered x.boot) h.caster.casting in
    let s = stated h.member_sights a v v' (ws m) m rest is.told (lawful_at a v rest h.caster g.lawful) (h.caster.joined m other ∙ sym still) (λ t _ low. omega (arith, low, count, boot)) states in
    goes_cast v v' ws rest h s.after s.does g
    (λ i o. s.joined i ∙ h.caster.joined i o ∙ sym (elim (same_or_not i m) [ inl at ↦ subst (λ j. v'.joined j ≡ v.joined j) (sym at) still | inr never ↦ joined i o never ]))
    (λ i c t o begun. begun_still a v v' rest h.caster g i c t o (sym (s.begun i c) ∙ begun))
    (λ i own theirs o numbers. subst (ArePiecesOf (v'.put i own theirs)) (sym (s.put i (contact_of own theirs))) (put_still a v v' h.caster puts i own theirs o numbers))
met_cast v v' ws m _ rest h g other (ends gone) states joined puts =
    let a = h.caster_sight in
    let is = h.members m other in
    let lawful = lawful_at a v (CastDeed.leaves m ∷ rest) h.caster g.lawful in
    let b = leaves a m in
    let s = stated h.member_sights b v v' (ws m) m rest is.told lawful.1 (put_same m None a.joined ∙ sym gone) (λ t at low. absurd (let both : None ≡ Some t.contact = sym gone ∙ at in let wrong : ⊥ = cc in wrong)) states in
    goes_cast v v' ws (CastDeed.leaves m ∷ rest) h s.after (go_on lawful.0 s.quiet tt s.does) g
    (λ i o. s.joined i ∙ elim (same_or_not i m) [
      | inl at ↦ subst (λ j. b.joined j ≡ v'.joined j) (sym at) (put_same m None a.joined ∙ sym gone)
      | inr never ↦ put_other m None a.joined i never ∙ h.caster.joined i o ∙ sym (joined i o never)
    ])
    (λ i c t o begun. begun_still a v v' (CastDeed.leaves m ∷ rest) h.caster g i c t o (sym (s.begun i c) ∙ begun))
    (λ i own theirs o numbers. subst (ArePiecesOf (v'.put i own theirs)) (sym (s.put i (contact_of own theirs))) (put_still a v v' h.caster puts i own theirs o numbers))
met_cast v v' ws m _ rest h g other (begins boot c may now entered) states joined puts =
    let a = h.caster_sight in
    let is = h.members m other in
    let lawful = lawful_at a v (CastDeed.joins m boot ∷ rest) h.caster g.lawful in
    let b = joins a m boot c in
    let count = h.caster.numbered v.casting.boot in
    let same = ap (λ (x : Casting). a.numbered x.boot) h.caster.casting in
    let s = stated h.member_sights b v v' (ws m) m rest is.told lawful.1 (put_same m (Some c) a.joined ∙ sym now) (λ t _ low. omega (arith, low, count, same)) states in
    goes_cast v v' ws (CastDeed.joins m boot ∷ rest) h s.after
    (go_on lawful.0 s.quiet (record {
      contact = c;
      above = λ d t begun. All-contains (λ (e : ℕ). e < c) (v.entered m) d may.above (h.caster.begun m d t other begun);
      era = may.era ∙ ap (λ (x : Casting). x.boot) (sym h.caster.casting);
      free = λ d at. may.free d (sym is.at ∙ at);
    }) s.does) g
    (λ i o. s.joined i ∙ elim (same_or_not i m) [
      | inl at ↦ subst (λ j. b.joined j ≡ v'.joined j) (sym at) (put_same m (Some c) a.joined ∙ sym now)
      | inr never ↦ put_other m (Some c) a.joined i never ∙ h.caster.joined i o ∙ sym (joined i o never)
    ])
    (λ i d t o begun. began i d t o (sym (s.begun i d) ∙ begun))
    (λ i own theirs o numbers. subst (ArePiecesOf (v'.put i own theirs)) (sym (s.put i (contact_of own theirs))) (put_still a v v' h.caster puts i own theirs o numbers))
  where
    n : Option ℕ
    n = Some (accepted h.caster_sight.casting.sending)

    began : (i d t : ℕ) → IsOther v i → (joins h.caster_sight m boot c).begun i d ≡ Some t → Contains (v'.entered i) d
    began i d t o is = elim (same_or_not i m) [
      | inl at ↦ elim (same_or_not d c) [
        | inl this ↦ subst (λ j. Contains (v'.entered j) d) (sym at) (subst (Contains (v'.entered m)) (sym this) entered)
        | inr past ↦
            let old : h.caster_sight.begun m d ≡ Some t =
            sym (put_other c n (h.caster_sight.begun m) d past) ∙ ap (λ (x : ℕ → Option ℕ). x d) (sym (put_same m (put c n (h.caster_sight.begun m)) h.caster_sight.begun)) ∙ ap (λ j. put m (put c n (h.caster_sight.begun m)) h.caster_sight.begun j d) (sym at) ∙ is in
            subst (λ j. Contains (v'.entered j) d) (sym at) (begun_still h.caster_sight v v' (CastDeed.joins m boot ∷ rest) h.caster g m d t other old)
      ]
      | inr never ↦ begun_still h.caster_sight v v' (CastDeed.joins m boot ∷ rest) h.caster g i d t o (ap (λ (x : ℕ → Option ℕ). x d) (sym (put_other m (put c n (h.caster_sight.begun m)) h.caster_sight.begun i never)) ∙ is)
    ]

pub meets_stays : MeetsStaysCast
meets_stays v v' ws m first rest h g other meets states joined puts = met_cast v v' ws m first rest h g other meets states joined puts

-- ---- a restart

pub restarts_stays : RestartsStaysCast
restarts_stays v ws h right =
    let a = h.caster_sight in
    let next : ℕ = v.casting.boot + 1 in
    record {
      caster_sight = restarted a;
      member_sights = h.member_sights;
      cast = cast_restarts a h.member_sights h.cast (subst (λ (x : Casting). IsRight (booted x.own (x.boot + 1))) (sym h.caster.casting) right);
      caster = record {
        casting = ap (λ (x : Casting). booted x.own (x.boot + 1)) h.caster.casting;
        numbered = λ f. ap (λ (x : Casting). put (x.boot + 1) 0 a.numbered f) h.caster.casting ∙ ap (λ n. if f == next then 0 else n) (h.caster.numbered f);
        joined = λ m o. refl;
        begun = h.caster.begun;
        put = h.caster.put;
        sent = h.caster.sent;
      };
      members = h.members;
    }

-- ---- the caster tells members

other_or_not : (v : CasterView) (m : ℕ) → IsOther v m ⊎ (IsOther v m → ⊥)
other_or_not v m = elim (cases_lt m 16781313) [
  | inl before ↦ inr (λ o. (let low = o.0.0 in absurd (omega (arith, low, before))))
  | inr low ↦ elim (cases_lt 16781344 m) [
    | inl past ↦ inr (λ o. (let high = o.0.1 in absurd (omega (arith, high, past))))
    | inr high ↦ elim (same_or_not m v.casting.own) [
      | inl own ↦ inr (λ o. o.1 own)
      | inr apart ↦ inl ((low, high), apart)
    ]
  ]
]

abbrev for_others : (v : CasterView) (m : ℕ) → IsOther v m ⊎ (IsOther v m → ⊥) → List Told → List Told
for_others v m (inl o) ts = ts
for_others v m (inr never) ts = []

for_other : (v : CasterView) (m : ℕ) (d : IsOther v m ⊎ (IsOther v m → ⊥)) (ts : List Told) → IsOther v m → for_others v m d ts ≡ ts
for_other v m (inl o) ts is = refl
for_other v m (inr never) ts is = absurd (never is)

pub tells_stays : TellsStaysCast
tells_stays v ws more h tells =
    let a = h.caster_sight in
    let ms = h.member_sights in
    let those : ℕ → List Told = λ m. for_others v m (other_or_not v m) (more m) in
    record {
      caster_sight = a;
      member_sights = λ m. record (ms m) { hears = (ms m).hears ++ those m };
      cast = caster_tells_all a ms those h.cast (λ m. all_for m (other_or_not v m));
      caster = h.caster;
      members = λ m o. (
          let is = h.members m o in
          let same : those m ≡ more m = for_other v m (other_or_not v m) (more m) o in
          record {
            at = is.at;
            last = is.last;
            heard = is.heard;
            given = λ own theirs numbers. (let g = is.given own theirs numbers in record { last = g.last; joined = g.joined; present = g.present });
            told = is.told;
            hears = subst (λ ts. All (Contains ((ms m).hears ++ ts)) ((ws m).hears ++ more m)) (sym same) (All-append (Contains ((ms m).hears ++ more m)) (ws m).hears (more m)
                (All-weaker (Contains (ms m).hears) (Contains ((ms m).hears ++ more m)) (λ t there. Contains-append_left (ms m).hears (more m) t there) (ws m).hears is.hears)
                (All-weaker (Contains (more m)) (Contains ((ms m).hears ++ more m)) (λ t there. Contains-append_right (ms m).hears (more m) t there) (more m) (All-contains_itself (more m))));
          });
    }
  where
    all_for : (m : ℕ) (d : IsOther v m ⊎ (IsOther v m → ⊥)) → All (IsToldToMember h.caster_sight m) (for_others v m d (more m))
    all_for m (inl o) =
        All-weaker (TellsTo v m) (IsToldToMember h.caster_sight m) (λ t is. record {
          contact = h.caster.joined m o ∙ is.contact;
          start = is.start ∙ ap (λ (x : Casting). (shown x m).start) (sym h.caster.casting);
          numbered = is.numbered;
          next = is.next;
          by_then = is.by_then;
          stamped = is.stamped;
          near = subst (λ (x : Casting). t.stamp ≤ x.sending.numbered + 246) (sym h.caster.casting) is.near;
        }) (more m) (tells m o)
    all_for m (inr never) = All-nil (IsToldToMember h.caster_sight m)

-- ---- the begin, and what follows

pub begins_cast : BeginsCast
begins_cast own boot right = record {
  caster_sight = new_caster own boot;
  member_sights = λ m. new_member;
  cast = casters_begin own boot right;
  caster = record {
    casting = refl;
    numbered = λ f. refl;
    joined = λ m o. refl;
    begun = λ m c s o is. absurd (let wrong : ⊥ = cc in wrong);
    put = λ m own theirs o numbers. no_pieces;
    sent = All-nil (IsAmongSent []);
  };
  members = λ m o. record {
    at = refl;
    last = inl refl;
    heard = refl;
    given = λ own theirs numbers. record { last = fresh; joined = record { taken = []; packets_are = refl; opened = []; brings = none_brought; messages_are = refl }; present = λ here. refl };
    told = All-nil (Contains []);
    hears = All-nil (Contains []);
  };
}

pub fronts_are_cast : FrontsAreCast
fronts_are_cast v ws h m own theirs o numbers =
    let c = contact_of own theirs in
    let j = ((h.members m o).given own theirs numbers).joined in
    let opens = gives_messages h.caster_sight h.member_sights h.cast m c (v.put m own theirs) j.taken j.opened _ (h.caster.put m own theirs o numbers) j.packets_are j.brings in
    subst (λ xs. IsPrefixOf xs (v.put m own theirs)) j.messages_are opens.front

pub casts_are_true : CastsAreTrue
casts_are_true v ws h =
    let a = h.caster_sight in
    let g = h.cast.group in
    record {
      lines = g.caster.line;
      put = λ m own theirs o numbers. subst (ArePiecesOf (v.put m own theirs)) (sym (h.cast.caster.put m (contact_of own theirs))) (h.caster.put m own theirs o numbers);
      sent = All-weaker (IsAmongSent a.sent) (λ (f : Aired). IsCastOf g.caster.line v.casting.own f.frame) (λ f is. cast_of f is) v.sent h.caster.sent;
    }
  where
    cast_of : (f : Aired) → IsAmongSent h.caster_sight.sent f → IsCastOf h.cast.group.caster.line v.casting.own f.frame
    cast_of f is =
        let own : h.caster_sight.casting.own ≡ v.casting.own = ap (λ (x : Casting). x.own) h.caster.casting in
        let c = All-contains (IsAired h.cast.group h.caster_sight.casting.own) h.caster_sight.sent (record { frame = f.frame; stamp = is.0 }) h.cast.caster.sent is.1 in
        record {
          to_all = c.to_all;
          boot = c.boot;
          place = c.place;
          entry = c.cast.entry;
          there = c.cast.there;
          set = c.set;
          set_fits = c.set_fits;
          members = c.cast.members;
          bytes = c.bytes ∙ (ap (λ (b : List ℕ). frame_of c.boot c.set (stamped 0 (number_of (c.place + 1)) h.caster_sight.casting.own b)) c.cast.packet_is ∙ ap (λ n. frame_of c.boot c.set (stamped 0 (number_of (c.place + 1)) n c.cast.entry.packet)) own);
        }
