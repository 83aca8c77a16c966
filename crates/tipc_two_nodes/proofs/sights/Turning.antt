-- A node takes a whole turn at its pair: behind what happens first, messages are put and the STATE that is due is sent.
use Rattle.std.specs.Prelude.{All}
use Rattle.std.proofs.Common.{◌≡◌, ◌+◌, ℕ, List, [], ◌∷◌, ◌++◌, Option, Some, None, length, refl, sym, ap, ◌∙◌, subst, append_assoc, append-nil, arith, Bool}
use Rattle.std.proofs.lemmas.List.Elements.{All-head, All-tail}
use Rattle.tipc_types.specs.declared.link_words.BroadcastState.{BroadcastState}
use Rattle.tipc_outside.specs.declared.outgoing.Outgoing.{Outgoing}
use Rattle.tipc_reassembly.specs.Slots.{packets_in}
use Rattle.tipc_link.specs.Links.{LinkEnd}
use Rattle.tipc_link.specs.Parts.{IsShowable}
use Rattle.tipc_link.specs.Sessions.{moving}
use Rattle.tipc_pair.specs.Courses.{sent_in}
use Rattle.tipc_pair.specs.Facing.{PairEnds, facing}
use Rattle.tipc_pair.specs.PairCalls.{SendsWithin, answered_at as answered_at_end, answered_near, at_bearer}
use Rattle.tipc_pair.specs.Messages.{IsMessage, opened_in, pieces_for}
use Rattle.tipc_pair.specs.PairTurns.{Happened, Opening, Outset, PutsAll, PutsOne, Reply, ShowsAtLast, ShowsIn, none_put, puts_one, replied}
use Rattle.tipc_two_nodes.proofs.messages.Packets.{message_inner}
use Rattle.tipc_pair.proofs.HeldLaws.{GoesQuietly}
use Rattle.tipc_paired.specs.Views.{Node}
use Rattle.tipc_two_nodes.specs.deeds.PairDeeds.{more_at, none_more}
use Rattle.tipc_two_nodes.specs.Talkers.{AreTalking, Talker, posted}
use Rattle.tipc_two_nodes.proofs.sights.Behind.{all_same}
use Rattle.tipc_two_nodes.proofs.sights.ByContact.{more_none, more_same}
use Rattle.tipc_two_nodes.proofs.sights.CallSessions.{puts_last}
use Rattle.tipc_two_nodes.proofs.sights.LastSessions.{KeepsLast, NumbersLast, last_same, none_last}
use Rattle.tipc_two_nodes.proofs.messages.Listing.{pieces_listed}
use Rattle.tipc_two_nodes.proofs.calls.SendTwins.{active_at, send_numbers}
use Rattle.tipc_two_nodes.proofs.calls.TalkerPairs.{answered_quiet, sent_quiet}
use Rattle.tipc_two_nodes.proofs.calls.TalkerTurns.{sends_talk}
use Rattle.tipc_two_nodes.proofs.calls.Talkers.{answers_talk}
use Rattle.tipc_two_nodes.proofs.sights.TurnParts.{Keeps, SameNumbers, Stepped, StepsTo, answered_at, at_numbers, at_quietly, keeps_of, keeps_then, near_answered, numbers_so, of_last_line, still, talks_stepped, then_stepped}
use Rattle.tipc_two_nodes.proofs.sights.TurnSteps.{MayBegin, opened}

-- Behind what happened the pair became this one, these frames left, and these messages were put, in the contact and the sessions that were.
abbrev pub Behind : Talker → Talker → PairEnds → List Outgoing → List (List ℕ) → Type 0
Behind x y pair frames put = (after : Talker) × Stepped x y after frames put [] × (after.pair ≡ pair) × Keeps x after

nothing_behind : (x y : Talker) → AreTalking x y → Behind x y x.pair [] []
nothing_behind x y h = (x, still x y h, refl, record { node = refl; last = last_same x.pair; stays = λ there. there })

both_behind : (x y : Talker) (p q : PairEnds) (first second : List Outgoing) (put more : List (List ℕ)) → (one : Behind x y p first put) → Behind one.0 y q second more → Behind x y q (first ++ second) (put ++ more)
both_behind x y p q first second put more one two = (two.0, then_stepped x y one.0 two.0 first second put more [] one.1 two.1 two.3, two.2, keeps_then x one.0 two.0 one.3 two.3)

-- ---- messages are put

sends_of : (x x' : PairEnds) (pieces : List (List ℕ)) (frames : List Outgoing) (p : PutsOne x pieces x' frames) → SendsWithin x pieces (length p.puts.session.sending.waiting + 1) x' frames
sends_of x x' pieces frames p = record { bearer = p.bearer; active_is = p.active_is; near = p.near; puts = p.puts; within = omega arith; after = p.after }

one_behind : (x y : Talker) (m : List ℕ) (between : PairEnds) (frames : List Outgoing) → AreTalking x y → IsMessage x.view.node.own m → PutsOne x.pair (pieces_for m) between frames → Behind x y between frames (m ∷ [])
one_behind x y m between frames h message p =
    let limit = length p.puts.session.sending.waiting + 1 in
    let s = sends_of x.pair between (pieces_for m) frames p in
    let two = h.here.of.two_bearers in
    let t = sends_talk x y between m limit frames h message (pieces_listed m (message_inner x.view.node.own m message)) s in
    let view = t.0 in
    let after = posted x m view between in
    let numbers = send_numbers x.pair between (pieces_for m) limit frames two s in
    let at = active_at x.pair between (pieces_for m) limit frames s in
    let n = more_at s.bearer s.puts.session.epoch (moving s.puts.put) in
    let last = subst (λ q. NumbersLast x.pair q n) (sym s.after) (puts_last s.bearer x.pair s.near (pieces_for m) frames at.two two s.puts) in
    let same = all_same x.view y.view view t.1.does in
    let own = same.own in
    let peer = same.peer in
    let boot = t.1.boot in
    let contact_is : view.node.contact ≡ x.view.node.contact = t.2.here.of.contact ∙ (numbers.contact ∙ sym h.here.of.contact) in
    let seen_is : view.node.seen ≡ x.view.node.seen = t.2.here.of.seen ∙ (numbers.seen ∙ sym h.here.of.seen) in
    let node : view.node ≡ x.view.node = λ i. record { own = own i; peer = peer i; boot = boot i; contact = contact_is i; seen = seen_is i } in (
      after,
      record {
        does = t.1.does;
        boot = t.1.boot;
        told = t.1.told;
        line = of_last_line x.view y.view frames view n none_more between t.1 last.numbers;
        talking = t.2;
        put_is = λ i j. more_same x.put x.view.node view.node (m ∷ []) i j node;
        given_is = more_none x.given view.node;
        contact = numbers_so x.pair between (numbers.contact, numbers.seen);
      },
      refl,
      record { node = node; last = last.keeps; stays = (sent_quiet x.pair between (pieces_for m) limit frames s).stays },
    )

puts_behind : (x y : Talker) (p q : PairEnds) (messages : List (List ℕ)) (frames : List Outgoing) → AreTalking x y → x.pair ≡ p → All (IsMessage x.view.node.own) messages → PutsAll p messages frames q → Behind x y q frames messages
puts_behind x y p _ _ _ h is are (none_put _) = subst (λ z. Behind x y z [] []) is (nothing_behind x y h)
puts_behind x y p q _ _ h is are (puts_one _ between last m messages first frames one all) =
    let now = one_behind x y m between first h (All-head (IsMessage x.view.node.own) m messages are) (subst (λ z. PutsOne z (pieces_for m) between first) (sym is) one) in
    let rest = subst (λ (n : Node). All (IsMessage n.own) messages) (sym now.3.node) (All-tail (IsMessage x.view.node.own) m messages are) in
    both_behind x y between q first frames (m ∷ []) messages now (puts_behind now.0 y between q messages frames now.1.talking now.2 rest all)

-- ---- the STATE that is due is sent

none_numbered : (z : PairEnds) (o : Option LinkEnd) (taken : ℕ) (asks : Bool) (shown : BroadcastState) → (answered_at_end z o taken asks shown).numbered ≡ []
none_numbered z None taken asks shown = refl
none_numbered z (Some e) taken asks shown = refl

state_behind : (x y : Talker) (b taken : ℕ) (asks : Bool) (shown : BroadcastState) → AreTalking x y → IsShowable shown → Behind x y (at_bearer b x.pair (answered_near taken asks shown)).pair (at_bearer b x.pair (answered_near taken asks shown)).states []
state_behind x y b taken asks shown h showable =
    let c = at_bearer b x.pair (answered_near taken asks shown) in
    let z = facing b x.pair in
    let s = talks_stepped x y c _ (answers_talk x y b taken asks shown h showable) (none_last c.pair) (numbers_so x.pair c.pair (at_numbers b x.pair (answered_near taken asks shown) (near_answered z z.near taken asks shown))) in
    let only : sent_in c ≡ c.states = ap (λ fs. c.states ++ fs) (none_numbered z z.near taken asks shown) ∙ append-nil c.states in
    let keeps = keeps_of x y s.0 (sent_in c) [] [] h s.1 (subst (SameNumbers x.pair) (sym s.2) (at_numbers b x.pair (answered_near taken asks shown) (near_answered z z.near taken asks shown)))
    (subst (KeepsLast x.pair) (sym s.2) (answered_at b x.pair taken asks shown h.here.of.two_bearers))
    (subst (GoesQuietly x.pair) (sym s.2) (at_quietly b x.pair (answered_near taken asks shown) (answered_quiet z z.near taken asks shown refl))) in
    (s.0, subst (λ fs. Stepped x y s.0 fs [] []) only s.1, s.2, keeps)

reply_behind : (x y : Talker) (reply : Option Reply) → AreTalking x y → ShowsAtLast reply → Behind x y (replied reply x.pair).pair (replied reply x.pair).states []
reply_behind x y None h showable = nothing_behind x y h
reply_behind x y (Some r) h showable = state_behind x y r.bearer r.taken r.asks r.shown h showable

-- ---- the turn

-- what comes behind what happened first
pub turned_steps : (x y : Talker) (opening : Opening) (o : Outset) (messages : List (List ℕ)) (frames : List Outgoing) (put : PairEnds) (reply : Option Reply) → AreTalking x y → MayBegin x y opening → ShowsIn opening → ShowsAtLast reply → All (IsMessage x.view.node.own) messages
    → Happened x.pair opening o → PutsAll o.course.pair messages frames put
    → StepsTo x y (replied reply put).pair (o.course.states ++ (o.course.numbered ++ (frames ++ (replied reply put).states))) messages (packets_in (opened_in o.given))
turned_steps x y opening o messages frames put reply h may showable showable' are happened puts =
    let f = opened x y opening o h may showable happened in
    let mid = f.after in
    let own = (all_same x.view y.view mid.view f.stepped.does).own in
    let are' = subst (λ n. All (IsMessage n) messages) (sym own) are in
    let sent = puts_behind mid y o.course.pair put messages frames f.stepped.talking f.pair_is are' puts in
    let last = subst (λ q. Behind sent.0 y (replied reply q).pair (replied reply q).states []) sent.2 (reply_behind sent.0 y reply sent.1.talking showable') in
    let answer = (replied reply put).states in
    let both = both_behind mid y put (replied reply put).pair frames answer messages [] sent last in
    let given = packets_in (opened_in o.given) in
    let all = then_stepped x y mid both.0 (sent_in o.course) (frames ++ answer) [] (messages ++ []) given f.stepped both.1 both.3 in (
      both.0,
      subst (λ fs. Stepped x y both.0 fs messages given) (append_assoc o.course.states o.course.numbered (frames ++ answer)) (subst (λ ms. Stepped x y both.0 (sent_in o.course ++ (frames ++ answer)) ms given) (append-nil messages) all),
      both.2,
    )
