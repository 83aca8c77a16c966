-- A node at which a RESET, an ACTIVATE or a STATE of its peer arrives: its end answers then, or is up.
use Rattle.std.proofs.Common.{◌≡◌, true, ap}
use Rattle.tipc_link.specs.Links.{is_traffic}
use Rattle.tipc_node.specs.Nodes.{pair_with}
use Rattle.tipc_node.proofs.pairs.Strangers.{kept_abreast}
use Rattle.tipc_settling.specs.Rises.{ArrivalsMakeAnswer, ArrivalsTakeUp, ArrivalsTakeUpAnswering, ArrivalsTellContact}
use Rattle.tipc_settling.proofs.ContactSeen.{notices_tell_contact}
use Rattle.tipc_settling.proofs.OwnTurns.{arrivals_hear}
use Rattle.tipc_settling.proofs.Rising.{activates_take_up, resets_make_answer, states_take_up}

pub arrivals_make_answer : ArrivalsMakeAnswer
arrivals_make_answer own peer n n' by bearer number bytes frames answered b es er p said told arrives passes from kind still may is rise =
    let h = arrivals_hear n n' by bearer number bytes frames answered b es er p arrives passes from kind in
    resets_make_answer own peer (pair_with n b) (pair_with n' b) bearer es er p said number h.shown h.messages h.reply h.frames (kept_abreast n b told).first h.one still (may es er p from kind) is rise h.turn

pub arrivals_take_up : ArrivalsTakeUp
arrivals_take_up own peer n n' by bearer number bytes frames answered b es er p said told arrives passes from kind still may is back rise =
    let h = arrivals_hear n n' by bearer number bytes frames answered b es er p arrives passes from kind in
    activates_take_up own peer (pair_with n b) (pair_with n' b) bearer es er p said number h.shown h.messages h.reply h.frames (kept_abreast n b told).first h.one still (may es er p from kind) is back rise h.turn

pub arrivals_take_up_answering : ArrivalsTakeUpAnswering
arrivals_take_up_answering own peer n n' by bearer number bytes frames answered b es er p said told arrives passes from kind still may is back rise answers =
    let h = arrivals_hear n n' by bearer number bytes frames answered b es er p arrives passes from kind in
    let traffic : is_traffic p.header ≡ true = ap is_traffic is in
    states_take_up own peer (pair_with n b) (pair_with n' b) bearer es er p number h.shown h.messages h.reply h.frames (kept_abreast n b told).first h.one still (may es er p from kind) traffic back rise answers h.turn

pub arrivals_tell_contact : ArrivalsTellContact
arrivals_tell_contact own peer n n' by bearer number bytes frames answered b es er p told arrives passes from kind still may notice =
    let h = arrivals_hear n n' by bearer number bytes frames answered b es er p arrives passes from kind in
    notices_tell_contact own peer (pair_with n b) (pair_with n' b) bearer es er p number h.shown h.messages h.reply h.frames (kept_abreast n b told).first h.one still (may es er p from kind) notice h.turn
