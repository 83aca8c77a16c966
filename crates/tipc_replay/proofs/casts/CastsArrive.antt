-- A broadcast packet that arrives stands in the air among those that its caster sent, and isn't too old.
use Rattle.std.specs.Prelude.{drop, slice_get}
use Rattle.std.specs.List.{Contains, cons_option, filter_map}
use Rattle.std.proofs.Common.{◌≡◌, ◌≤◌, ◌+◌, ◌==◌, ◌&&◌, ◌∙◌, ℕ, zero, suc, true, false, if◌then◌else◌, List, [], ◌∷◌, Option, Some, None, refl, sym, ap, subst, arith}
use Rattle.std.proofs.lemmas.Bool.Decides.{nat_tests}
use Rattle.std.proofs.lemmas.List.{drop_at}
use Rattle.std.proofs.lemmas.List.Elements.{Contains-append_left, Contains-append_right}
use Rattle.tipc_types.specs.Address.{node_word}
use Rattle.tipc_header.specs.declared.frames.FrameKind.TheVariants.{Casts}
use Rattle.tipc_header.specs.Faults.{fault_of}
use Rattle.tipc_header.specs.Frames.{envelope, first_of, kind_in}
use Rattle.tipc_header.specs.Spelling.{Fields, spelling}
use Rattle.tipc_header.proofs.Again.{no_fault}
use Rattle.tipc_header.proofs.FrameWords.{first_of-frame, length-envelope}
use Rattle.tipc_casters.specs.ViewLaws.{HearsFrame}
use Rattle.tipc_node.specs.Turns.{IsFrom, is_casts}
use Rattle.tipc_replay.specs.declared.air.Sent.{Sent}
use Rattle.tipc_replay.specs.Casters.{cast_in, caster_at, casts_from, listed}
use Rattle.tipc_replay.specs.Due.{frame_for, unarrived}
use Rattle.tipc_replay.specs.Skies.{AirState, air_on}
use Rattle.tipc_replay.specs.Sound.{IsSound}
use Rattle.tipc_replay.specs.States.{cast_count_at}
use Rattle.tipc_replay.specs.Steps.{Stage}
use Rattle.tipc_replay.proofs.frames.Ages.{number_is}
use Rattle.tipc_replay.proofs.frames.Coming.{same_sender, spoken_to}
use Rattle.tipc_replay.proofs.frames.Reaching.{placed, young}
use Rattle.tipc_replay.proofs.frames.Recent.{cast_recent}

-- ---- among those that are listed

first_there : {T : Type 0} (t : T) (ts : List T) → Contains (t ∷ ts) t
first_there t ts = (0, omega arith, refl)

at_place : {T : Type 0} (told : Sent → Option T) (fs : List Sent) (k : ℕ) (f : Sent) (t : T) → slice_get fs k ≡ Some f → told f ≡ Some t → Contains (filter_map told fs) t
at_place told [] k f t there is = absurd (let wrong : None ≡ Some f = there in cc)
at_place told (g ∷ fs) zero f t there is = (let same : g ≡ f = cc in subst (λ o. Contains (cons_option o (filter_map told fs)) t) (sym (ap told same ∙ is)) (first_there t (filter_map told fs)))
at_place told (g ∷ fs) (suc k) f t there is = by (told g) (at_place told fs k f t there is)
  where
    by : (o : Option _) → Contains (filter_map told fs) t → Contains (cons_option o (filter_map told fs)) t
    by None later = later
    by (Some u) later = Contains-append_right (u ∷ []) (filter_map told fs) t later

-- on one of the two bearers
pub listed_there : {T : Type 0} (told : ℕ → Sent → Option T) (air : AirState) (bearer k : ℕ) (f : Sent) (t : T) → slice_get (air_on bearer air) k ≡ Some f → told bearer f ≡ Some t → Contains (listed told air) t
listed_there told air zero k f t there is = Contains-append_left (filter_map (told 0) air.first) (filter_map (told 1) air.second) t (at_place (told 0) air.first k f t there is)
listed_there told air (suc zero) k f t there is = Contains-append_right (filter_map (told 0) air.first) (filter_map (told 1) air.second) t (at_place (told 1) air.second k f t there is)
listed_there told air (suc (suc bearer)) k f t there is = absurd (
    let low : (suc (suc bearer) == 0) ≡ false = grind (arith, nat_tests) in
    let high : (suc (suc bearer) == 1) ≡ false = grind (arith, nat_tests) in
    let none : air_on (suc (suc bearer)) air ≡ [] = ap (λ b. if b then air.first else (if suc (suc bearer) == 1 then air.second else [])) low ∙ ap (λ b. if b then air.second else []) high in
    let gone : slice_get [] k ≡ Some f = subst (λ fs. slice_get fs k ≡ Some f) none there in
    let wrong : ⊥ = cc in wrong)

-- ---- the frame

cast_is : (a bearer : ℕ) (f : Sent) → f.from.word ≡ node_word a → kind_in f.frame ≡ Casts → cast_in a bearer f ≡ Some (record { frame = record { bearer = bearer; to = f.to; frame = f.frame }; stamp = f.casts })
cast_is a bearer f from kind =
    let sender : (f.from.word == node_word a) ≡ true = ap (λ w. w == node_word a) from ∙ grind (arith, nat_tests) in
    ap (λ b. if b && is_casts (kind_in f.frame) then Some (record { frame = record { bearer = bearer; to = f.to; frame = f.frame }; stamp = f.casts }) else None) sender
    ∙ ap (λ k. if is_casts k then Some (record { frame = record { bearer = bearer; to = f.to; frame = f.frame }; stamp = f.casts }) else None) kind

pub cast_came : (s : Stage) (n bearer place : ℕ) (f : Sent) (a first second : ℕ) (p : Fields) → IsSound s.members s.air → frame_for s.air n bearer place ≡ Some f → unarrived s.members s.air n bearer place ≡ None → IsFrom a f.frame first second p → kind_in f.frame ≡ Casts
    → HearsFrame (caster_at s.members s.air a) first second p
unfolding caster_at casts_from
cast_came s n bearer place f a first second p sound found free from kind =
    let at = placed s.air n bearer place f found in
    let spoken = spoken_to s n bearer place f sound found in
    let said = spoken.said in
    let sender : spoken.sender ≡ a = same_sender spoken.sender a f.frame said.es said.er first second said.packet p said.is_from from in
    let word : f.from.word ≡ node_word a = spoken.from ∙ ap node_word sender in
    let packet : drop 16 f.frame ≡ spelling p = ap (drop 16) from.frame_is ∙ drop_at (envelope first second) (spelling p) 16 (length-envelope first second) in
    let clear = ap fault_of packet ∙ no_fault p from.fits in
    let size = (sound.frames bearer place f at.0).size in
    let recent = cast_recent s.members f n bearer size clear kind (young s.members s.air n bearer place f found free) in
    let boot : first_of f.frame ≡ first = ap first_of from.frame_is ∙ first_of-frame first second (spelling p) from.es_fits in
    record {
      frame = record { frame = record { bearer = bearer; to = f.to; frame = f.frame }; stamp = f.casts };
      there = listed_there (cast_in a) s.air bearer place f (record { frame = record { bearer = bearer; to = f.to; frame = f.frame }; stamp = f.casts }) at.0 (cast_is a bearer f word kind);
      boot_fits = from.es_fits;
      set_fits = from.er_fits;
      fits = from.fits;
      bytes = from.frame_is;
      recent = subst (λ b. cast_count_at s.members a b ≤ f.casts + 30000) boot (subst (λ k. cast_count_at s.members k (first_of f.frame) ≤ f.casts + 30000) (number_is f.from.word a word) recent);
    }
