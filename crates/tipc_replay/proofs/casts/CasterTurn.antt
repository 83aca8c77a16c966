-- What a turn of a node is to it as a caster: which members join and leave.
use Rattle.std.specs.Prelude.{◌&&◌, cond, filter, option_map}
use Rattle.std.specs.List.{Contains, list_all}
use Rattle.std.proofs.Common.{◌≡◌, ◌==◌, ◌∙◌, ℕ, Bool, true, false, if◌then◌else◌, List, [], ◌∷◌, Option, Some, None, refl, sym, ap, arith}
use Rattle.std.proofs.lemmas.Bool.{and_parts}
use Rattle.std.proofs.lemmas.Bool.Decides.{nat_tests}
use Rattle.tipc_types.specs.Address.{node_word}
use Rattle.tipc_broadcast.specs.Deeds.{CastDeed, is_deed_with}
use Rattle.tipc_casters.specs.ViewLaws.{MayBeJoined, MeetsMember, begins, ends, is_part, lasts, parted_from}
use Rattle.tipc_casters.specs.Views.{CasterView, MemberView}
use Rattle.tipc_pair.specs.Facing.{PairEnds, contact_between, in_contact}
use Rattle.tipc_pair.proofs.turns.PairTells.{Means, Story, began, ended, stays}
use Rattle.tipc_node.specs.Casting.{boot_of_contact}
use Rattle.tipc_replay.specs.Casters.{cast_contact}
use Rattle.tipc_replay.proofs.casts.MemberTurn.{between_none, between_same, between_some}
use Rattle.tipc_replay.proofs.casts.StoryDeeds.{story_deeds}

-- ---- only what is done with a member counts

parted_only : (m : ℕ) (ds : List CastDeed) (o : Option ℕ) → parted_from m ds o ≡ parted_from m (filter (is_deed_with m) ds) o
parted_only m [] o = refl
parted_only m (CastDeed.leaves peer ∷ ds) o = by (λ p. parted_only m ds p) (peer == m) refl
  where
    by : ((p : Option ℕ) → parted_from m ds p ≡ parted_from m (filter (is_deed_with m) ds) p) → (b : Bool) → (peer == m) ≡ b
        → parted_from m ds (if peer == m then None else o) ≡ parted_from m (cond b (CastDeed.leaves peer ∷ filter (is_deed_with m) ds) (filter (is_deed_with m) ds)) o
    by later true is = later (if peer == m then None else o)
    by later false is = ap (λ b. parted_from m ds (if b then None else o)) is ∙ later o
parted_only m (CastDeed.joins peer boot ∷ ds) o = by (parted_only m ds o) (peer == m)
  where
    by : parted_from m ds o ≡ parted_from m (filter (is_deed_with m) ds) o → (b : Bool) → parted_from m ds o ≡ parted_from m (cond b (CastDeed.joins peer boot ∷ filter (is_deed_with m) ds) (filter (is_deed_with m) ds)) o
    by later true = later
    by later false = later
parted_only m (CastDeed.states peer seen ∷ ds) o = by (parted_only m ds o) (peer == m)
  where
    by : parted_from m ds o ≡ parted_from m (filter (is_deed_with m) ds) o → (b : Bool) → parted_from m ds o ≡ parted_from m (cond b (CastDeed.states peer seen ∷ filter (is_deed_with m) ds) (filter (is_deed_with m) ds)) o
    by later true = later
    by later false = later
parted_only m (CastDeed.bears bearer is_mended ∷ ds) o = parted_only m ds o
parted_only m (CastDeed.hears boot members by packet ∷ ds) o = parted_only m ds o
parted_only m (CastDeed.sends pieces ∷ ds) o = parted_only m ds o

pub all_filtered : {A : Type 0} (p q : A → Bool) (xs : List A) → list_all p xs ≡ true → list_all p (filter q xs) ≡ true
all_filtered p q [] all = refl
all_filtered p q (x ∷ xs) all = by (all_filtered p q xs (and_parts (p x) (list_all p xs) all).1) (q x)
  where
    by : list_all p (filter q xs) ≡ true → (b : Bool) → list_all p (cond b (x ∷ filter q xs) (filter q xs)) ≡ true
    by rest true = ap (λ b. b && list_all p (filter q xs)) (and_parts (p x) (list_all p xs) all).0 ∙ rest
    by rest false = rest

-- ---- a member after the turn, where the pair to it goes from x to y

-- the contact of the caster with a member, by the pair
abbrev pub joined_in : PairEnds → Option ℕ
joined_in x = option_map cast_contact (contact_between x)

pub stays_joined : (x y : PairEnds) → Means x y stays → joined_in y ≡ joined_in x
stays_joined x y m = ap (option_map cast_contact) (between_same x y m)

pub ended_joined : (x y : PairEnds) → in_contact y ≡ false → joined_in y ≡ None
ended_joined x y out = ap (option_map cast_contact) (between_none y out)

pub began_joined : (x y : PairEnds) (numbers : ℕ × ℕ) → Means x y (began numbers) → joined_in y ≡ Some (cast_contact numbers)
began_joined x y numbers m = ap (option_map cast_contact) (between_some y m.1 ∙ ap Some (sym m.2))

-- where nothing is done but that bearers are mended or cut, and peers leave
pub parts_joined : (b : ℕ) (ds : List CastDeed) (x y : PairEnds) (story : Story) → list_all is_part ds ≡ true → filter (is_deed_with (node_word b)) ds ≡ story_deeds b story → Means x y story
    → joined_in y ≡ parted_from (node_word b) ds (joined_in x)
parts_joined b ds x y stays parts is m = stays_joined x y m ∙ sym (parted_only (node_word b) ds (joined_in x) ∙ ap (λ es. parted_from (node_word b) es (joined_in x)) is)
parts_joined b ds x y (ended numbers states shown) parts is m =
    let itself : (node_word b == node_word b) ≡ true = grind (arith, nat_tests) in
    ended_joined x y m.2 ∙ sym (parted_only (node_word b) ds (joined_in x) ∙ ap (λ es. parted_from (node_word b) es (joined_in x)) is ∙ ap (λ t. if t then None else joined_in x) itself)
parts_joined b ds x y (began numbers) parts is m =
    absurd (let wrong : false ≡ true = ap (list_all is_part) (sym is) ∙ all_filtered is_part (is_deed_with (node_word b)) ds parts in let no : ⊥ = cc in no)

-- where nothing is done with the member
pub apart_joined : (b : ℕ) (ds : List CastDeed) (x y : PairEnds) (story : Story) → filter (is_deed_with (node_word b)) ds ≡ [] → filter (is_deed_with (node_word b)) ds ≡ story_deeds b story → Means x y story → joined_in y ≡ joined_in x
apart_joined b ds x y stays none is m = stays_joined x y m
apart_joined b ds x y (began numbers) none is m = absurd (let wrong : [] ≡ story_deeds b (began numbers) = sym none ∙ is in let no : ⊥ = cc in no)
apart_joined b ds x y (ended numbers states shown) none is m = absurd (let wrong : [] ≡ story_deeds b (ended numbers states shown) = sym none ∙ is in let no : ⊥ = cc in no)

-- in the arrival of a link packet of it
pub story_meets : (v v' : CasterView) (w : MemberView) (b : ℕ) (x y : PairEnds) (story : Story) → v.joined (node_word b) ≡ joined_in x → v'.joined (node_word b) ≡ joined_in y → Means x y story
    → ((numbers : ℕ × ℕ) → story ≡ began numbers → MayBeJoined v w (node_word b) (cast_contact numbers) × Contains (v'.entered (node_word b)) (cast_contact numbers)) → MeetsMember v v' w (node_word b) (story_deeds b story)
story_meets v v' w b x y stays was is m may = lasts (is ∙ stays_joined x y m ∙ sym was)
story_meets v v' w b x y (began numbers) was is m may = (let e = may numbers refl in begins (boot_of_contact numbers.1) (cast_contact numbers) e.0 (is ∙ began_joined x y numbers m) e.1)
story_meets v v' w b x y (ended numbers states shown) was is m may = ends (is ∙ ended_joined x y m.2)
