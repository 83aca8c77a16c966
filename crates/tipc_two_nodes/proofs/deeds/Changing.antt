-- One of two links goes down, and hands over to the other; or it goes up, and takes over from the other.
use Rattle.std.proofs.Common.{◌≡◌, ℕ, true, false, List, [], ◌++◌, Option, Some, None, option_map, refl, sym, ap, ◌∙◌, subst, append-nil}
use Rattle.tipc_types.specs.LinkStates.{is_up}
use Rattle.tipc_link.specs.Links.{LinkEnd, handed_over, with_session, without_waiting}
use Rattle.tipc_link.specs.Sessions.{SessionEnd, flush_frames, moving, put, waiting_given}
use Rattle.tipc_link.proofs.LinkLaw.{Each, Each-append, Each-none}
use Rattle.tipc_pair.specs.Changeovers.{failing, loaded, switching}
use Rattle.tipc_pair.specs.Facing.{PairEnds, other, with_near}
use Rattle.tipc_pair.specs.Runs.{left_by, taken_over}
use Rattle.tipc_paired.proofs.PairedLaw.{all_paired, does_paired}
use Rattle.tipc_paired.proofs.wires.Wires.{session_of_up}
use Rattle.tipc_paired.specs.Deeds.{DoesDeed, IsUp, besides, hands_over, puts, with_going}
use Rattle.tipc_paired.specs.Paired.{ArePaired, IsPacket}
use Rattle.tipc_paired.specs.Views.{View, with_end, with_wire}
use Rattle.tipc_two_nodes.proofs.deeds.Chains.{did_as, did_on, did_then}
use Rattle.tipc_two_nodes.proofs.deeds.Loading.{loads, waiting_in}
use Rattle.tipc_two_nodes.proofs.deeds.Pairs.{of_changed, of_changed_far, of_far, of_near, takes_rest}
use Rattle.tipc_two_nodes.specs.deeds.PairDeeds.{IsOfPair, TakesCourse, both_more, failing_more, more_at, none_more, switching_more}

-- what waits on a link that is up, and these packets behind it, can be put
behind_waiting : (v y : View) (b : ℕ) (e : LinkEnd) (s : SessionEnd) (packets : List (List ℕ)) → ArePaired v y → IsUp (v.wires b) e s → Each (IsPacket v.node.own) packets → Each (IsPacket v.node.own) (s.sending.waiting ++ packets)
behind_waiting v y b e s packets h up can =
    Each-append (IsPacket v.node.own) s.sending.waiting packets ((h.here.wires b).going s (session_of_up (v.wires b) e s up)).waiting can

-- ---- a link that went down hands over

pub failing_takes : (v y : View) (x : PairEnds) (near far : LinkEnd) (lost s : Option SessionEnd) → ArePaired v y → IsOfPair v x → x.near ≡ Some near → x.far ≡ Some far → far.session ≡ s → is_up near.fsm.state ≡ false → is_up far.fsm.state ≡ true
    → ((l : SessionEnd) → lost ≡ Some l → Each (IsPacket v.node.own) (left_by l)) → TakesCourse v y (failing x near far lost s) (failing_more (other x.bearer) lost s) none_more
failing_takes v y x near far None s h pair near_is far_is session down up can = takes_rest v y x pair
failing_takes v y x near far (Some l) None h pair near_is far_is session down up can = takes_rest v y x pair
failing_takes v y x near far (Some l) (Some s) h pair near_is far_is session down up can =
    let b = x.bearer in
    let c = other b in
    let w' = with_end (v.wires b) (handed_over near) in
    let v1 = with_wire v b w' in
    let one : DoesDeed v y v1 = besides v1 (hands_over b near (pair.near ∙ near_is) down) in
    let h1 = does_paired v y v1 h one in
    let pair1 : IsOfPair v1 (with_near x (handed_over near)) = of_near v x w' (handed_over near) pair refl in
    let up1 : IsUp (v1.wires c) far s = record { end_is = pair1.far ∙ far_is; up = up; session_is = session } in
    let m = loads v1 y c far s (s.sending.waiting ++ left_by l) h1 up1 (behind_waiting v1 y c far s (left_by l) h1 up1 (can l refl)) in
    let handed = did_on v y b w' one (λ k. refl) (λ k. refl) in (
      m.0,
      record {
        did = did_then v y v1 m.0 [] (flush_frames (put s (left_by l))) none_more (more_at c s.epoch (moving (put s (left_by l)))) none_more none_more handed m.1.did;
        pair = of_changed_far v1 m.0 (with_near x (handed_over near)) (loaded far s (left_by l)) pair1 m.1.node m.1.end m.1.others;
      },
    )

-- ---- a link that went up takes over

given_is : (far : LinkEnd) (old : SessionEnd) → far.session ≡ Some old → with_session far (waiting_in old []) ≡ without_waiting far
given_is far old is = ap (λ (o : Option SessionEnd). record far { session = o }) (sym (ap (option_map waiting_given) is))

pub switching_takes : (v y : View) (x : PairEnds) (near far : LinkEnd) (s old : Option SessionEnd) → ArePaired v y → IsOfPair v x → x.near ≡ Some near → x.far ≡ Some far → near.session ≡ s → far.session ≡ old → is_up near.fsm.state ≡ true
    → is_up far.fsm.state ≡ true → ((l : SessionEnd) → old ≡ Some l → Each (IsPacket v.node.own) (taken_over l)) → TakesCourse v y (switching x near far s old) (switching_more x.bearer s old) none_more
switching_takes v y x near far None old h pair near_is far_is near_session far_session near_up far_up can = takes_rest v y x pair
switching_takes v y x near far (Some s) None h pair near_is far_is near_session far_session near_up far_up can = takes_rest v y x pair
switching_takes v y x near far (Some s) (Some old) h pair near_is far_is near_session far_session near_up far_up can =
    let b = x.bearer in
    let c = other b in
    let more = more_at b s.epoch (moving (put s (taken_over old))) in
    let said = flush_frames (put s (taken_over old)) in
    let up : IsUp (v.wires b) near s = record { end_is = pair.near ∙ near_is; up = near_up; session_is = near_session } in
    let m = loads v y b near s (s.sending.waiting ++ taken_over old) h up (behind_waiting v y b near s (taken_over old) h up (can old refl)) in
    let v1 = m.0 in
    let h1 = all_paired v y v1 h m.1.did.does in
    let pair1 : IsOfPair v1 (with_near x (loaded near s (taken_over old))) = of_changed v v1 x (loaded near s (taken_over old)) pair m.1.node m.1.end m.1.others in
    let up1 : IsUp (v1.wires c) far old = record { end_is = pair1.far ∙ far_is; up = far_up; session_is = far_session } in
    let w' = with_going (v1.wires c) far (waiting_in old []) in
    let v2 = with_wire v1 c w' in
    let one : DoesDeed v1 y v2 = puts c far old [] up1 (Each-none (IsPacket v1.node.own)) in
    let given = did_on v1 y c w' one (λ k. refl) (λ k. refl) in (
      v2,
      record {
        did = did_as v y v2 (said ++ []) said (both_more more none_more) more none_more none_more (did_then v y v1 v2 said [] more none_more none_more none_more m.1.did given)
            (λ P each. subst (Each P) (append-nil said) each) (λ i k. append-nil (more i k)) (λ i k. refl);
        pair = of_far v1 (with_near x (loaded near s (taken_over old))) w' (without_waiting far) pair1 (ap Some (given_is far old far_session));
      },
    )
