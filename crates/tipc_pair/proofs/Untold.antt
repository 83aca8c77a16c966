-- A failover and a switch tell nothing of links and contact: only what makes them does.
use Rattle.std.proofs.Common.{◌≡◌, Option, Some, None, [], refl}
use Rattle.tipc_link.specs.Links.{LinkEnd}
use Rattle.tipc_link.specs.Sessions.{SessionEnd}
use Rattle.tipc_pair.specs.Changeovers.{fail_over_to, failing, switch_from, switching}
use Rattle.tipc_pair.specs.Facing.{PairEnds}

failing_none : (x : PairEnds) (near far : LinkEnd) (lost s : Option SessionEnd) → (failing x near far lost s).changes ≡ []
failing_none x near far (Some lost) (Some s) = refl
failing_none x near far (Some lost) None = refl
failing_none x near far None (Some s) = refl
failing_none x near far None None = refl

pub fail_over_none : (x : PairEnds) (near far : Option LinkEnd) → (fail_over_to x near far).changes ≡ []
fail_over_none x (Some near) (Some far) = failing_none x near far near.session far.session
fail_over_none x (Some near) None = refl
fail_over_none x None (Some far) = refl
fail_over_none x None None = refl

switching_none : (x : PairEnds) (near far : LinkEnd) (s old : Option SessionEnd) → (switching x near far s old).changes ≡ []
switching_none x near far (Some s) (Some old) = refl
switching_none x near far (Some s) None = refl
switching_none x near far None (Some old) = refl
switching_none x near far None None = refl

pub switch_none : (x : PairEnds) (near far : Option LinkEnd) → (switch_from x near far).changes ≡ []
switch_none x (Some near) (Some far) = switching_none x near far near.session far.session
switch_none x (Some near) None = refl
switch_none x None (Some far) = refl
switch_none x None None = refl
