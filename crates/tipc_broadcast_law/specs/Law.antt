-- What is always true of a caster and its members.
use Rattle.std.specs.Prelude.{◌≡◌, ℕ, ◌+◌, ◌<◌, ◌≤◌, [], length, Some, None}
use Rattle.tipc_types.specs.Limits.{window_size}
use Rattle.tipc_broadcast_law.specs.Groups.{Caster, Group, length_now, mark, Member, numbered_now, packets, place, queue}

-- What is true of each member m, as a caster and the member keep it. Contacts are c and d, places x and y, starts s.
pub record Keeps (a : Caster) (m : ℕ) (k : Member) : Type 0 where
  -- eras: each contact belongs to one boot, and begins within what was accepted in it
  pub begun_boot : (c s : ℕ) → k.begun c ≡ Some s → k.boots c ≤ a.boot
  pub begun_within : (c s : ℕ) → k.begun c ≡ Some s → s ≤ length (a.line (k.boots c))
  pub joined_boot : (c : ℕ) → k.joined ≡ Some c → k.boots c ≡ a.boot
  pub joined_begun : (c : ℕ) → k.joined ≡ Some c → (s : ℕ) × (k.begun c ≡ Some s)
  pub joined_last : (c d s : ℕ) → k.joined ≡ Some c → k.begun d ≡ Some s → d ≤ c
  pub want_begun : (c w : ℕ) → k.want c ≡ Some w → (s : ℕ) × (k.begun c ≡ Some s)
  pub want_last : (c w : ℕ) → k.want c ≡ Some w → c ≤ k.last
  pub at_boot : (c : ℕ) → k.at ≡ Some c → k.boots c ≤ a.boot
  pub at_last : (c : ℕ) → k.at ≡ Some c → c ≤ k.last
  -- starts: what is for the member in a contact lies before the start of each later one
  pub starts : (c d s x : ℕ) → c < d → k.begun d ≡ Some s → k.boots c ≡ k.boots d → mark (a.line (k.boots c)) m x ≡ Some c → x < s
  -- members: what is for the member in a contact is a run from the start on, up to the end while it lasts
  pub mark_boot : (f c x : ℕ) → mark (a.line f) m x ≡ Some c → k.boots c ≡ f
  pub mark_begun : (f c x : ℕ) → mark (a.line f) m x ≡ Some c → (s : ℕ) × (k.begun c ≡ Some s) × (s ≤ x)
  pub run : (f c x y s : ℕ) → mark (a.line f) m x ≡ Some c → k.begun c ≡ Some s → s ≤ y → y ≤ x → mark (a.line f) m y ≡ Some c
  pub all : (c s x : ℕ) → k.joined ≡ Some c → k.begun c ≡ Some s → s ≤ x → x < length_now a → mark (a.line a.boot) m x ≡ Some c
  -- young: the member is in no contact older than the last one that the caster began
  pub young : (c d s : ℕ) → k.at ≡ Some c → k.begun d ≡ Some s → d ≤ c
  -- taken: what the member took in a contact is what stands from the start up to the place that it wants, all of it
  -- numbered and for it
  pub want_from : (c w s : ℕ) → k.want c ≡ Some w → k.begun c ≡ Some s → s ≤ w
  pub want_numbered : (c w s : ℕ) → k.want c ≡ Some w → k.begun c ≡ Some s → s < w → w ≤ a.numbered (k.boots c)
  pub took_own : (c w s x : ℕ) → k.want c ≡ Some w → k.begun c ≡ Some s → s ≤ x → x < w → mark (a.line (k.boots c)) m x ≡ Some c
  pub took : (c w s : ℕ) → k.want c ≡ Some w → k.begun c ≡ Some s → k.out c ≡ packets s w (a.line (k.boots c))
  pub took_none : (c : ℕ) → k.want c ≡ None → k.out c ≡ []
  -- acked: what is acknowledged lies between the start and what was taken
  pub acked_from : (c s : ℕ) → k.joined ≡ Some c → k.begun c ≡ Some s → s ≤ k.acked
  pub acked_place : (c : ℕ) → k.joined ≡ Some c → k.acked ≤ place k c
  -- window: no more than 50 are numbered past the acknowledgement
  pub numbered_near : (c : ℕ) → k.joined ≡ Some c → numbered_now a ≤ k.acked + window_size
  -- near: the member lags and leads by no more than window and waiting list allow
  pub mark_near : (c x : ℕ) → mark (a.line (k.boots c)) m x ≡ Some c → x < place k c + window_size + queue
  pub joined_near : (c : ℕ) → k.joined ≡ Some c → numbered_now a ≤ place k c + window_size
  pub place_near : (c s : ℕ) → k.begun c ≡ Some s → place k c ≤ a.numbered (k.boots c) + queue

-- What is always true of a group: in each boot no more packets are numbered than were accepted, no more wait than may,
-- and each member stands rightly.
pub record IsGroup (g : Group) : Type 0 where
  pub counted : (f : ℕ) → g.caster.numbered f ≤ length (g.caster.line f)
  pub waiting : (f : ℕ) → length (g.caster.line f) ≤ g.caster.numbered f + queue
  pub each : (m : ℕ) → Keeps g.caster m (g.members m)
