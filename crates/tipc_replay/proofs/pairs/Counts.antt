-- How many packets were numbered, in the session that is and in those that are noted.
use Rattle.std.proofs.Common.{◌⊎◌, ◌≡◌, ◌≢◌, ◌<◌, ◌+◌, ◌==◌, ℕ, zero, suc, Bool, true, false, List, [], ◌∷◌, Option, Some, None, option_and_then, option_map, unwrap_or, if◌then◌else◌, refl, sym, ap, ◌∙◌, subst, inl, inr, arith}
use Rattle.std.specs.Prelude.{nat_le}
use Rattle.std.specs.Map.{lookup}
use Rattle.std.proofs.lemmas.Bool.{cases_eq, cases_lt}
use Rattle.std.proofs.lemmas.Bool.Decides.{nat_tests}
use Rattle.indexmap.specs.IndexMap.{insert_entry}
use Rattle.tipc_types.specs.LinkStates.{is_up}
use Rattle.tipc_link.specs.Links.{LinkEnd, numbered_in}
use Rattle.tipc_link.specs.Sessions.{SessionEnd}
use Rattle.tipc_pair.specs.Facing.{PairEnds, facing}
use Rattle.tipc_node.specs.Nodes.{NodeState}
use Rattle.tipc_node.specs.Turns.{pair_in}
use Rattle.tipc_replay.specs.Members.{AreNoted, Tally, last_in, noted, noted_both, over_in, over_with, tally}
use Rattle.tipc_replay.specs.Numbers.{end_on}
use Rattle.tipc_replay.specs.States.{MemberState, count_in, count_of, count_with, link_in, same_session}

-- ---- a number that is noted

lookup_inserted : (counts : List Tally) (key : ℕ × ℕ × ℕ) (count : ℕ) → lookup (same_session key) (insert_entry same_session counts key count) ≡ Some count
lookup_inserted [] key count = grind (arith, nat_tests)
lookup_inserted (e ∷ es) key count = case (lookup_inserted es key count) (same_session key e.0) refl
  where
    case : lookup (same_session key) (insert_entry same_session es key count) ≡ Some count → (b : Bool) → same_session key e.0 ≡ b → lookup (same_session key) (if b then (e.0, count) ∷ es else e ∷ insert_entry same_session es key count) ≡ Some count
    case later true is = rw is refl
    case later false is = rw is later

-- two sessions that are the same to a third
same_both : (s t u : ℕ × ℕ × ℕ) → same_session s t ≡ true → same_session u t ≡ same_session u s
same_both s t u same = grind (arith, nat_tests)

lookup_apart : (counts : List Tally) (key other : ℕ × ℕ × ℕ) (count : ℕ) → same_session other key ≡ false → lookup (same_session other) (insert_entry same_session counts key count) ≡ lookup (same_session other) counts
lookup_apart [] key other count apart = rw apart refl
lookup_apart (e ∷ es) key other count apart = case (lookup_apart es key other count apart) (same_session key e.0) refl
  where
    case : lookup (same_session other) (insert_entry same_session es key count) ≡ lookup (same_session other) es → (b : Bool) → same_session key e.0 ≡ b → lookup (same_session other) (if b then (e.0, count) ∷ es else e ∷ insert_entry same_session es key count) ≡ lookup (same_session other) (e ∷ es)
    case later true is = let not_here : same_session other e.0 ≡ false = same_both key e.0 other is ∙ apart in rw not_here refl
    case later false is = ap (λ o. if same_session other e.0 then Some e.1 else o) later

-- the number itself, and those of other sessions
noted_here : (counts : List Tally) (peer bearer epoch number : ℕ) → count_in (noted counts (Some ((peer, bearer, epoch), number))) peer bearer epoch ≡ number
unfolding count_in
noted_here counts peer bearer epoch number = ap (λ o. unwrap_or o 0) (lookup_inserted counts (peer, bearer, epoch) number)

noted_else : (counts : List Tally) (key : ℕ × ℕ × ℕ) (number peer bearer epoch : ℕ) → same_session (peer, bearer, epoch) key ≡ false
    → count_in (noted counts (Some (key, number))) peer bearer epoch ≡ count_in counts peer bearer epoch
unfolding count_in
noted_else counts key number peer bearer epoch apart = ap (λ o. unwrap_or o 0) (lookup_apart counts key (peer, bearer, epoch) number apart)

apart_by : (peer bearer epoch other_peer other_bearer other_epoch : ℕ) → (peer ≡ other_peer → bearer ≡ other_bearer → epoch ≢ other_epoch)
    → same_session (peer, bearer, epoch) (other_peer, other_bearer, other_epoch) ≡ false
apart_by peer bearer epoch other_peer other_bearer other_epoch apart = elim (cases_eq peer other_peer) [
  | inl same ↦ elim (cases_eq bearer other_bearer) [
    | inl there ↦ let other = apart same there in grind (arith, nat_tests, other)
    | inr other ↦ grind (arith, nat_tests, other)
  ]
  | inr other ↦ grind (arith, nat_tests, other)
]

-- ---- the session of a link end

-- no session of this epoch
abbrev pub HasNone : Option SessionEnd → ℕ → Type 0
HasNone session epoch = (s : SessionEnd) → session ≡ Some s → s.epoch ≢ epoch

none_numbered : (session : Option SessionEnd) (epoch : ℕ) → HasNone session epoch → numbered_in session epoch ≡ None
none_numbered None epoch apart = refl
none_numbered (Some s) epoch apart = let other = apart s refl in let differs : (s.epoch == epoch) ≡ false = grind (arith, nat_tests, other) in ap (λ b. if b then Some s.sending.numbered else None) differs

some_numbered : (s : SessionEnd) (epoch : ℕ) → s.epoch ≡ epoch → numbered_in (Some s) epoch ≡ Some s.sending.numbered
some_numbered s epoch same = let equal : (s.epoch == epoch) ≡ true = grind (arith, nat_tests, same) in ap (λ b. if b then Some s.sending.numbered else None) equal

-- whether there is a session of this epoch
pub session_cases : (session : Option SessionEnd) (epoch : ℕ) → ((s : SessionEnd) × (session ≡ Some s) × (s.epoch ≡ epoch)) ⊎ HasNone session epoch
session_cases None epoch = inr (λ s is. absurd cc)
session_cases (Some s) epoch = elim (cases_eq s.epoch epoch) [
  | inl same ↦ inl (s, refl, same)
  | inr apart ↦ inr (λ t is. let same : s ≡ t = cc in subst (λ (u : SessionEnd). u.epoch ≢ epoch) same apart)
]

count_by : (counts : List Tally) (e : LinkEnd) (peer bearer epoch : ℕ) (session : Option SessionEnd) → e.session ≡ session
    → count_with counts (Some e) peer bearer epoch ≡ unwrap_or (numbered_in session epoch) (count_in counts peer bearer epoch)
count_by counts e peer bearer epoch session is = ap (λ o. unwrap_or (numbered_in o epoch) (count_in counts peer bearer epoch)) is

-- its number is that of the session, where the epoch is the session's
with_here : (counts : List Tally) (e : LinkEnd) (peer bearer epoch : ℕ) (s : SessionEnd) → e.session ≡ Some s → s.epoch ≡ epoch
    → count_with counts (Some e) peer bearer epoch ≡ s.sending.numbered
with_here counts e peer bearer epoch s is same =
    count_by counts e peer bearer epoch (Some s) is ∙ ap (λ o. unwrap_or o (count_in counts peer bearer epoch)) (some_numbered s epoch same)

with_none : (counts : List Tally) (e : LinkEnd) (peer bearer epoch : ℕ) → HasNone e.session epoch
    → count_with counts (Some e) peer bearer epoch ≡ count_in counts peer bearer epoch
with_none counts e peer bearer epoch apart = ap (λ o. unwrap_or o (count_in counts peer bearer epoch)) (none_numbered e.session epoch apart)

-- ---- of a node

count_is : (m : MemberState) (peer bearer epoch : ℕ) (link : Option LinkEnd) → link_in m.node peer bearer ≡ link
    → count_of m peer bearer epoch ≡ count_with m.counts link peer bearer epoch
unfolding count_of
count_is m peer bearer epoch link is = ap (λ o. count_with m.counts o peer bearer epoch) is

pub count_here : (m : MemberState) (peer bearer : ℕ) (e : LinkEnd) (s : SessionEnd) → link_in m.node peer bearer ≡ Some e → e.session ≡ Some s
    → count_of m peer bearer s.epoch ≡ s.sending.numbered
count_here m peer bearer e s link is = count_is m peer bearer s.epoch (Some e) link ∙ with_here m.counts e peer bearer s.epoch s is refl

pub count_noted : (m : MemberState) (peer bearer epoch : ℕ) (e : LinkEnd) → link_in m.node peer bearer ≡ Some e → HasNone e.session epoch
    → count_of m peer bearer epoch ≡ count_in m.counts peer bearer epoch
count_noted m peer bearer epoch e link apart = count_is m peer bearer epoch (Some e) link ∙ with_none m.counts e peer bearer epoch apart

pub count_alone : (m : MemberState) (peer bearer epoch : ℕ) → link_in m.node peer bearer ≡ None
    → count_of m peer bearer epoch ≡ count_in m.counts peer bearer epoch
count_alone m peer bearer epoch link = count_is m peer bearer epoch None link

-- ---- the last session of a link that is down

over_else : (counts : List Tally) (p x : ℕ) (link : Option LinkEnd) (peer bearer epoch : ℕ)
    → (peer ≡ p → bearer ≡ x → (e : LinkEnd) → link ≡ Some e → HasNone e.session epoch)
    → count_in (noted counts (over_in p x link)) peer bearer epoch ≡ count_in counts peer bearer epoch
over_else counts p x None peer bearer epoch apart = refl
over_else counts p x (Some e) peer bearer epoch apart = case (is_up e.fsm.state) e.session refl
  where
    case : (up : Bool) (session : Option SessionEnd) → e.session ≡ session
        → count_in (noted counts (if up then None else option_map (tally p x) session)) peer bearer epoch ≡ count_in counts peer bearer epoch
    case true session is = refl
    case false None is = refl
    case false (Some s) is =
        noted_else counts (p, x, s.epoch) s.sending.numbered peer bearer epoch
        (apart_by peer bearer epoch p x s.epoch (λ same there e_is. apart same there e refl s is (sym e_is)))

over_here : (counts : List Tally) (peer bearer epoch : ℕ) (e : LinkEnd) (s : SessionEnd) → is_up e.fsm.state ≡ false → e.session ≡ Some s → s.epoch ≡ epoch
    → count_in (noted counts (over_in peer bearer (Some e))) peer bearer epoch ≡ s.sending.numbered
over_here counts peer bearer epoch e s down is same =
    ap (λ b. count_in (noted counts (if b then None else option_map (tally peer bearer) e.session)) peer bearer epoch) down
    ∙ ap (λ o. count_in (noted counts (option_map (tally peer bearer) o)) peer bearer epoch) is
    ∙ ap (λ n. count_in (noted counts (Some ((peer, bearer, s.epoch), s.sending.numbered))) peer bearer n) (sym same)
    ∙ noted_here counts peer bearer s.epoch s.sending.numbered

-- what is noted of the sender of a frame that came on a bearer
pub sender_else : (m : MemberState) (sender : Option ℕ) (x peer bearer epoch : ℕ)
    → (bearer ≡ x → (e : LinkEnd) → link_in m.node peer bearer ≡ Some e → HasNone e.session epoch)
    → count_in (noted m.counts (over_with m sender x)) peer bearer epoch ≡ count_in m.counts peer bearer epoch
sender_else m None x peer bearer epoch apart = refl
sender_else m (Some p) x peer bearer epoch apart =
    over_else m.counts p x (link_in m.node p x) peer bearer epoch (λ same there e is.
    apart there e (ap (λ q. link_in m.node q bearer) same ∙ ap (link_in m.node p) there ∙ is))

pub sender_here : (m : MemberState) (sender : Option ℕ) (peer bearer epoch : ℕ) (e : LinkEnd) (s : SessionEnd) → sender ≡ Some peer
    → link_in m.node peer bearer ≡ Some e → is_up e.fsm.state ≡ false → e.session ≡ Some s → s.epoch ≡ epoch
    → count_in (noted m.counts (over_with m sender bearer)) peer bearer epoch ≡ s.sending.numbered
sender_here m sender peer bearer epoch e s from link down is same =
    ap (λ o. count_in (noted m.counts (over_with m o bearer)) peer bearer epoch) from
    ∙ ap (λ o. count_in (noted m.counts (over_in peer bearer o)) peer bearer epoch) link
    ∙ over_here m.counts peer bearer epoch e s down is same

-- ---- all sessions

last_else : (counts : List Tally) (p x : ℕ) (link : Option LinkEnd) (peer bearer epoch : ℕ) → (peer ≡ p → bearer ≢ x)
    → count_in (noted counts (last_in p x link)) peer bearer epoch ≡ count_in counts peer bearer epoch
last_else counts p x None peer bearer epoch apart = refl
last_else counts p x (Some e) peer bearer epoch apart = case e.session
  where
    case : (session : Option SessionEnd) → count_in (noted counts (option_map (tally p x) session)) peer bearer epoch ≡ count_in counts peer bearer epoch
    case None = refl
    case (Some s) =
        noted_else counts (p, x, s.epoch) s.sending.numbered peer bearer epoch
        (apart_by peer bearer epoch p x s.epoch (λ same there. absurd (apart same there)))

last_here : (counts : List Tally) (p x : ℕ) (link : Option LinkEnd) (epoch : ℕ)
    → count_in (noted counts (last_in p x link)) p x epoch ≡ count_with counts link p x epoch
last_here counts p x None epoch = refl
last_here counts p x (Some e) epoch = case e.session
  where
    one : (s : SessionEnd) → (s.epoch ≡ epoch) ⊎ (s.epoch ≢ epoch)
        → count_in (noted counts (Some (tally p x s))) p x epoch ≡ unwrap_or (numbered_in (Some s) epoch) (count_in counts p x epoch)
    one s (inl same) =
        ap (λ n. count_in (noted counts (Some ((p, x, s.epoch), s.sending.numbered))) p x n) (sym same) ∙ noted_here counts p x s.epoch s.sending.numbered
        ∙ sym (ap (λ o. unwrap_or o (count_in counts p x epoch)) (some_numbered s epoch same))
    one s (inr apart) =
        noted_else counts (p, x, s.epoch) s.sending.numbered p x epoch (apart_by p x epoch p x s.epoch (λ same there e. apart (sym e)))
        ∙ sym (ap (λ o. unwrap_or o (count_in counts p x epoch)) (none_numbered (Some s) epoch (λ t is e. (let same : s ≡ t = cc in apart (ap (λ (u : SessionEnd). u.epoch) same ∙ e)))))

    case : (session : Option SessionEnd)
        → count_in (noted counts (option_map (tally p x) session)) p x epoch ≡ unwrap_or (numbered_in session epoch) (count_in counts p x epoch)
    case None = refl
    case (Some s) = one s (cases_eq s.epoch epoch)

-- the counts with another list of notes
with_notes : (before after : List Tally) (link : Option LinkEnd) (p x epoch : ℕ) → count_in before p x epoch ≡ count_in after p x epoch
    → count_with before link p x epoch ≡ count_with after link p x epoch
with_notes before after link p x epoch same = ap (λ c. unwrap_or (option_and_then (λ (e : LinkEnd). numbered_in e.session epoch) link) c) same

-- one peer more, on both bearers
both_here : (counts : List Tally) (n : NodeState) (p x epoch : ℕ)
    → count_in (noted_both counts n p) p x epoch ≡ count_with counts (link_in n p x) p x epoch
both_here counts n p zero epoch =
    last_else (noted counts (last_in p 0 (link_in n p 0))) p 1 (link_in n p 1) p 0 epoch (λ _ same. omega (arith, same)) ∙ last_here counts p 0 (link_in n p 0) epoch
both_here counts n p (suc zero) epoch =
    last_here (noted counts (last_in p 0 (link_in n p 0))) p 1 (link_in n p 1) epoch
    ∙ with_notes (noted counts (last_in p 0 (link_in n p 0))) counts (link_in n p 1) p 1 epoch (last_else counts p 0 (link_in n p 0) p 1 epoch (λ _ same. omega (arith, same)))
both_here counts n p (suc (suc x)) epoch =
    last_else (noted counts (last_in p 0 (link_in n p 0))) p 1 (link_in n p 1) p (suc (suc x)) epoch (λ _ same. omega (arith, same))
    ∙ (last_else counts p 0 (link_in n p 0) p (suc (suc x)) epoch (λ _ same. omega (arith, same)) ∙ none (pair_in n p))
  where
    none : (o : Option PairEnds) → count_in counts p (suc (suc x)) epoch ≡ count_with counts (end_on (suc (suc x)) o) p (suc (suc x)) epoch
    none None = refl
    none (Some y) =
        let high : nat_le (suc (suc x)) 1 ≡ false = grind (arith, nat_tests) in
        sym (ap (λ t. count_with counts (if t then (facing (suc (suc x)) y).near else None) p (suc (suc x)) epoch) high)

both_else : (counts : List Tally) (n : NodeState) (p peer x epoch : ℕ) → peer ≢ p → count_in (noted_both counts n p) peer x epoch ≡ count_in counts peer x epoch
both_else counts n p peer x epoch apart =
    last_else (noted counts (last_in p 0 (link_in n p 0))) p 1 (link_in n p 1) peer x epoch (λ same. absurd (apart same))
    ∙ last_else counts p 0 (link_in n p 0) peer x epoch (λ same. absurd (apart same))

pub noted_next : (counts before after : List Tally) (n : NodeState) (peer : ℕ) → AreNoted counts before n peer → after ≡ noted_both before n peer → AreNoted counts after n (peer + 1)
noted_next counts before after n peer h is = record {
  here = λ p x epoch below. elim (cases_eq p peer) [
    | inl same ↦ subst (λ q. count_in after q x epoch ≡ count_with counts (link_in n q x) q x epoch) (sym same)
        (ap (λ cs. count_in cs peer x epoch) is ∙ both_here before n peer x epoch
        ∙ with_notes before counts (link_in n peer x) peer x epoch (h.else_ peer x epoch (omega arith)))
    | inr apart ↦ ap (λ cs. count_in cs p x epoch) is ∙ both_else before n peer p x epoch apart ∙ h.here p x epoch (omega (arith, apart, below))
  ];
  else_ = λ p x epoch from. ap (λ cs. count_in cs p x epoch) is ∙ both_else before n peer p x epoch (λ same. omega (arith, same, from)) ∙ h.else_ p x epoch (omega (arith, from));
}

-- a node that has no links after all sessions were noted has the counts of before
pub counts_stay : (m m' : MemberState) → AreNoted m.counts m'.counts m.node 33 → ((peer : ℕ) → pair_in m'.node peer ≡ None) → ((peer : ℕ) → 32 < peer → pair_in m.node peer ≡ None)
    → (peer bearer epoch : ℕ) → count_of m' peer bearer epoch ≡ count_of m peer bearer epoch
counts_stay m m' h alone few peer bearer epoch =
    count_alone m' peer bearer epoch (ap (end_on bearer) (alone peer)) ∙ elim (cases_lt peer 33) [
      | inl below ↦ h.here peer bearer epoch below ∙ sym (count_is m peer bearer epoch (link_in m.node peer bearer) refl)
      | inr past ↦ h.else_ peer bearer epoch past ∙ sym (count_alone m peer bearer epoch (ap (end_on bearer) (few peer (omega (arith, past)))))
    ]
