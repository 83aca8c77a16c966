use Rattle.std.proofs.Common.{◌≡◌, sym, ap, ◌∙◌, subst, rules}
use Rattle.std.proofs.lemmas.Fn.{filter_same}
use Rattle.tipc_broadcast.specs.Contacts.{without}
use Rattle.tipc_broadcast.specs.Casting.{Casting, IsCasting, with_contacts}
use Rattle.tipc_broadcast.proofs.Keeping.{leave-keeps}
use Rattle.tipc_broadcast.proofs.broadcast.Broadcast.forget.Goals as goal

left_is : (c : goal.After-retain) → c.retain.new.self.items ≡ without c.args.peer.word c.self.inside.contacts.items
left_is c = filter_same _ _ _ (λ x b f' k. search rules) _ _ c.retain.ensures.filtered

pub invariant_of-self : goal.invariant_of-self
invariant_of-self c = subst (λ cs. IsCasting c.self.inside.own.word c.self.inside.window cs) (sym (left_is c)) (leave-keeps _ _ _ c.args.peer.word c.self.invariant)

pub returns : goal.returns
returns c =
    let v : Casting = record { own = c.self.inside.own.word; boot = c.self.inside.boot; mended = c.self.inside.mended; sending = c.self.inside.window; contacts = c.self.inside.contacts.items } in
    ap (with_contacts v) (left_is c) ∙ ap (λ (u : Casting). with_contacts u (without c.args.peer.word u.contacts)) c.self.view_is
