-- What the story of a contact makes of the broadcast link: the peer joins, or leaves, or neither.
use Rattle.std.specs.Prelude.{◌||◌, cond, filter}
use Rattle.std.specs.List.{list_any}
use Rattle.std.proofs.Common.{◌≡◌, ℕ, Bool, true, false, if◌then◌else◌, List, [], ◌∷◌, ◌++◌, Option, refl, sym, ap, subst, ◌∙◌}
use Rattle.tipc_types.specs.Address.{node_word}
use Rattle.tipc_types.specs.declared.link_words.BroadcastState.{BroadcastState}
use Rattle.tipc_fragments.specs.Joining.{fresh, Joining}
use Rattle.tipc_broadcast.specs.declared.contacts.Contact.{Contact}
use Rattle.tipc_broadcast.specs.Casting.{Casting}
use Rattle.tipc_broadcast.specs.Contacts.{contact_with}
use Rattle.tipc_broadcast.specs.Deeds.{CastDeed, after_deeds, is_deed_with, is_hearing_of}
use Rattle.tipc_casters.proofs.Kept.{concerns, DeedKeeps, DeedsKeep, kept_by_deeds, no_deeds, one_deed}
use Rattle.tipc_pair.specs.declared.transitions.Transition.{Transition}
use Rattle.tipc_pair.specs.declared.transitions.Transition.TheVariants.{ContactDown, ContactUp, LinkDown, LinkUp}
use Rattle.tipc_pair.specs.Contacts.{is_of_contact}
use Rattle.tipc_pair.proofs.turns.PairTells.{Story, began, contact_changes, ended, stays}
use Rattle.tipc_node.specs.Casting.{arrival_deeds, boot_of_contact, contact_deeds, state_deeds}
use Rattle.tipc_node.specs.Neighbours.{casts_after}

-- ---- by the story

-- what a story makes of the broadcast link
abbrev pub story_deeds : ℕ → Story → List CastDeed
story_deeds peer stays = []
story_deeds peer (began numbers) = CastDeed.joins (node_word peer) (boot_of_contact numbers.1) ∷ []
story_deeds peer (ended numbers states shown) = CastDeed.leaves (node_word peer) ∷ []

contact_only : (peer : ℕ) (cs : List Transition) → contact_deeds peer cs ≡ contact_deeds peer (filter is_of_contact cs)
contact_only peer [] = refl
contact_only peer (LinkUp bearer own theirs ∷ cs) = contact_only peer cs
contact_only peer (LinkDown bearer because shown ∷ cs) = contact_only peer cs
contact_only peer (ContactUp numbers ∷ cs) = ap (λ ds. CastDeed.joins (node_word peer) (boot_of_contact numbers.1) ∷ ds) (contact_only peer cs)
contact_only peer (ContactDown numbers states shown ∷ cs) = ap (λ ds. CastDeed.leaves (node_word peer) ∷ ds) (contact_only peer cs)

by_story : (peer : ℕ) (s : Story) → contact_deeds peer (contact_changes s) ≡ story_deeds peer s
by_story peer stays = refl
by_story peer (began numbers) = refl
by_story peer (ended numbers states shown) = refl

pub story_told : (peer : ℕ) (cs : List Transition) (s : Story) (stated : Option BroadcastState) → filter is_of_contact cs ≡ contact_changes s → arrival_deeds peer cs stated ≡ story_deeds peer s ++ state_deeds peer stated
story_told peer cs s stated is = ap (λ ds. ds ++ state_deeds peer stated) (contact_only peer cs ∙ ap (contact_deeds peer) is ∙ by_story peer s)

-- what is begun of a broadcast stays where the contact does, and is nothing else
any_filter : (cs : List Transition) → list_any is_of_contact cs ≡ list_any is_of_contact (filter is_of_contact cs)
any_filter [] = refl
any_filter (LinkUp bearer own theirs ∷ cs) = any_filter cs
any_filter (LinkDown bearer because shown ∷ cs) = any_filter cs
any_filter (ContactUp numbers ∷ cs) = refl
any_filter (ContactDown numbers states shown ∷ cs) = refl

-- the message that is begun after a story
abbrev pub begun_by : Story → Joining → Joining
begun_by stays joining = joining
begun_by other joining = fresh

begins_by : (s : Story) (joining : Joining) → (if list_any is_of_contact (contact_changes s) then fresh else joining) ≡ begun_by s joining
begins_by stays joining = refl
begins_by (began numbers) joining = refl
begins_by (ended numbers states shown) joining = refl

pub begun_then : (cs : List Transition) (s : Story) (joining : Joining) → filter is_of_contact cs ≡ contact_changes s → casts_after joining cs ≡ begun_by s joining
begun_then cs s joining is = ap (λ b. if b then fresh else joining) (any_filter cs ∙ ap (list_any is_of_contact) is) ∙ begins_by s joining

-- ---- where nothing of the peer was heard

concerned_by : (peer : ℕ) (ds : List CastDeed) → filter (is_hearing_of peer) ds ≡ [] → filter (concerns peer) ds ≡ filter (is_deed_with peer) ds
concerned_by peer [] none = refl
concerned_by peer (d ∷ ds) none = by (is_deed_with peer d) (is_hearing_of peer d) (concerned_by peer ds) none
  where
    by : (a b : Bool) → (filter (is_hearing_of peer) ds ≡ [] → filter (concerns peer) ds ≡ filter (is_deed_with peer) ds) → cond b (d ∷ filter (is_hearing_of peer) ds) (filter (is_hearing_of peer) ds) ≡ []
        → cond (a || b) (d ∷ filter (concerns peer) ds) (filter (concerns peer) ds) ≡ cond a (d ∷ filter (is_deed_with peer) ds) (filter (is_deed_with peer) ds)
    by true b later none = ap (λ es. d ∷ es) (later (rest b none))
      where
        rest : (c : Bool) → cond c (d ∷ filter (is_hearing_of peer) ds) (filter (is_hearing_of peer) ds) ≡ [] → filter (is_hearing_of peer) ds ≡ []
        rest true is = absurd (let wrong : d ∷ filter (is_hearing_of peer) ds ≡ [] = is in cc)
        rest false is = is
    by false true later none = absurd (let wrong : d ∷ filter (is_hearing_of peer) ds ≡ [] = none in cc)
    by false false later none = later none

-- what is kept of the peer then
pub kept_of_story : (peer : ℕ) (ds es : List CastDeed) (v : Casting) → filter (is_hearing_of (node_word peer)) ds ≡ [] → filter (is_deed_with (node_word peer)) ds ≡ es
    → DeedsKeep v.own (node_word peer) es (contact_with (node_word peer) v.contacts) (contact_with (node_word peer) (after_deeds ds v).contacts)
kept_of_story peer ds es v none is =
    subst (λ xs. DeedsKeep v.own (node_word peer) xs (contact_with (node_word peer) v.contacts) (contact_with (node_word peer) (after_deeds ds v).contacts)) (concerned_by (node_word peer) ds none ∙ is) (kept_by_deeds (node_word peer) ds v)

-- ---- taken apart

pub kept_still : (own peer : ℕ) (before after : Option Contact) → DeedsKeep own peer [] before after → after ≡ before
kept_still own peer before _ (no_deeds _) = refl

pub kept_once : (own peer : ℕ) (d : CastDeed) (before after : Option Contact) → DeedsKeep own peer (d ∷ []) before after → DeedKeeps own peer d before after
kept_once own peer d before after (one_deed _ _ _ between _ keeps rest) = subst (DeedKeeps own peer d before) (sym (kept_still own peer between after rest)) keeps

pub kept_twice : (own peer : ℕ) (d e : CastDeed) (before after : Option Contact) → DeedsKeep own peer (d ∷ e ∷ []) before after → (between : Option Contact) × DeedKeeps own peer d before between × DeedKeeps own peer e between after
kept_twice own peer d e before after (one_deed _ _ _ between _ keeps rest) = (between, keeps, kept_once own peer e between after rest)
