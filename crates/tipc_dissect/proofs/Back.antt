-- A packet is read back from the fields that it shows.
use Rattle.std.proofs.Common.{◌≡◌, ℕ, zero, suc, ◌+◌, Bool, true, false, List, [], ◌∷◌, refl, sym, ap}
use Rattle.std.specs.Prelude.{◌==◌, nat_le, if◌then◌else◌}
use Rattle.std.proofs.lemmas.Bool.{le-leb}
use Rattle.tipc_header.specs.declared.packet.Header.{Header}
use Rattle.tipc_header.specs.declared.packet.Header.TheVariants as header
use Rattle.tipc_header.specs.declared.packet.Addressing.{Addressing}
use Rattle.tipc_header.specs.declared.packet.Addressing.TheVariants.{Connected, Multicast, Named, Direct}
use Rattle.tipc_header.specs.declared.packet.Payload.{Payload}
use Rattle.tipc_header.specs.declared.packet.State.{State}
use Rattle.tipc_header.specs.declared.packet.Reset.{Reset}
use Rattle.tipc_header.specs.declared.packet.Changeover.{Changeover}
use Rattle.tipc_header.specs.declared.packet.NameDistribution.{NameDistribution}
use Rattle.tipc_header.specs.declared.packet.Fragment.{Fragment}
use Rattle.tipc_header.specs.declared.packet.Discovery.{Discovery}
use Rattle.tipc_header.specs.declared.packet.ChangeoverType.{ChangeoverType}
use Rattle.tipc_header.specs.declared.packet.ChangeoverType.TheVariants.{Duplicate, Original}
use Rattle.tipc_header.specs.declared.packet.DistributionType.{DistributionType}
use Rattle.tipc_header.specs.declared.packet.DistributionType.TheVariants.{Publication, Withdrawal}
use Rattle.tipc_header.specs.declared.packet.FragmentType.{FragmentType}
use Rattle.tipc_header.specs.declared.packet.FragmentType.TheVariants.{First, Middle, Last}
use Rattle.tipc_header.specs.declared.packet.DiscoveryType.{DiscoveryType}
use Rattle.tipc_header.specs.declared.packet.DiscoveryType.TheVariants.{Request, Response}
use Rattle.tipc_header.specs.Users.{addressing_type, changeover_type, discovery_type, distribution_type, fragment_type, user_of}
use Rattle.tipc_header.specs.Spelling.{bit, Fields}
use Rattle.tipc_header.specs.Grammar.{Fits, HeaderFits, NumberingFits}
use Rattle.tipc_dissect.specs.declared.lines.Value.{Value}
use Rattle.tipc_dissect.specs.declared.lines.Value.TheVariants.{Number, Address}
use Rattle.tipc_dissect.specs.Lines.{Field}
use Rattle.tipc_dissect.specs.Table.{fields_of, further_fields, start_fields}
use Rattle.tipc_dissect.proofs.Shapes.{shape_of}
use Rattle.tipc_dissect.proofs.Widths.{with_header}

abbrev number_of : Value → ℕ
number_of (Number n) = n
number_of (Address word) = word

-- the value of the field at this place
abbrev pub value_at : ℕ → List Field → ℕ
value_at i [] = 0
value_at zero (f ∷ fs) = number_of f.1
value_at (suc i) (f ∷ fs) = value_at i fs

abbrev flag_at : ℕ → List Field → Bool
flag_at i fs = value_at i fs == 1

-- ---- headers; a packet's further fields begin at place 7

abbrev addressing_by : ℕ → List Field → Addressing
addressing_by t fs =
    if t == 0 then Connected
    else (if t == 1 then Multicast (value_at 17 fs) (value_at 18 fs) (value_at 19 fs) (value_at 20 fs) (value_at 21 fs)
    else (if t == 2 then Named (value_at 17 fs) (value_at 18 fs) (value_at 19 fs) (value_at 20 fs)
    else Direct (value_at 17 fs) (value_at 18 fs)))

abbrev payload_by : List Field → Payload
payload_by fs = record {
  importance = value_at 0 fs;
  destination_droppable = flag_at 3 fs;
  source_droppable = flag_at 4 fs;
  error_code = value_at 7 fs;
  reroute_count = value_at 8 fs;
  lookup_scope = value_at 9 fs;
  broadcast_acknowledgement = value_at 11 fs;
  origin_port = value_at 15 fs;
  destination_port = value_at 16 fs;
  addressing = addressing_by (value_at 6 fs) fs;
}

abbrev state_by : List Field → State
state_by fs = record {
  gap = value_at 7 fs;
  broadcast_acknowledgement = value_at 8 fs;
  next = value_at 11 fs;
  broadcast_next = value_at 12 fs;
  broadcast_start = value_at 13 fs;
  broadcast_gap = value_at 14 fs;
  destination_node = value_at 15 fs;
  probe = flag_at 16 fs;
  in_step = flag_at 17 fs;
  priority = value_at 18 fs;
}

abbrev reset_by : List Field → Reset
reset_by fs = record { destination_node = value_at 8 fs; priority = value_at 9 fs; contact = value_at 10 fs; peer_contact = value_at 11 fs }

abbrev changeover_type_by : ℕ → ChangeoverType
changeover_type_by t = if t == 0 then Duplicate else Original

abbrev distribution_type_by : ℕ → DistributionType
distribution_type_by t = if t == 0 then Publication else Withdrawal

abbrev fragment_type_by : ℕ → FragmentType
fragment_type_by t = if t == 0 then First else (if t == 1 then Middle else Last)

abbrev discovery_type_by : ℕ → DiscoveryType
discovery_type_by t = if t == 0 then Request else Response

abbrev changeover_by : List Field → Changeover
changeover_by fs = record {
  changeover_type = changeover_type_by (value_at 6 fs);
  broadcast_acknowledgement = value_at 7 fs;
  count = value_at 11 fs;
  inner_number = value_at 12 fs;
  old_bearer = value_at 13 fs;
  old_epoch = value_at 14 fs;
}

-- ---- packets

abbrev packet : ℕ → ℕ → ℕ → Header → List ℕ → Fields
packet acknowledgement sequence previous h rest = record { acknowledgement = acknowledgement; sequence = sequence; previous = previous; header = h; rest = rest }

-- a packet whose words 2 and 3 are shown from this place on
abbrev numbered : ℕ → List Field → Header → List ℕ → Fields
numbered i fs h rest = packet (value_at i fs) (value_at (i + 1) fs) (value_at (i + 2) fs) h rest

-- a packet that shows only its previous node of them
abbrev unnumbered : List Field → Header → List ℕ → Fields
unnumbered fs h rest = packet 0 0 (value_at 7 fs) h rest

-- the packet of link protocol of a type
abbrev protocol_by : ℕ → List Field → List ℕ → Fields
protocol_by t fs rest =
    if t == 0 then packet (value_at 9 fs) 0 (value_at 10 fs) (header.State (state_by fs)) rest
    else (if t == 1 then unnumbered fs (header.Reset (reset_by fs)) rest
    else unnumbered fs (header.Activate (reset_by fs)) rest)

-- the packet that shows these fields, by its user; and what follows its fields
unfoldable pub packet_by : ℕ → List Field → List ℕ → Fields
packet_by u fs rest =
    if nat_le u 3 then numbered 12 fs (header.Payload (payload_by fs)) rest
    else (if u == 6 then numbered 8 fs (header.Bundler (record { broadcast_acknowledgement = value_at 7 fs; count = value_at 11 fs })) rest
    else (if u == 7 then protocol_by (value_at 6 fs) fs rest
    else (if u == 10 then numbered 8 fs (header.Changeover (changeover_by fs)) rest
    else (if u == 11 then numbered 8 fs (header.NameDistributor (record { distribution_type = distribution_type_by (value_at 6 fs); broadcast_acknowledgement = value_at 7 fs })) rest
    else (if u == 12 then numbered 8 fs (header.Fragmenter (record { fragment_type = fragment_type_by (value_at 6 fs); broadcast_acknowledgement = value_at 7 fs; number = value_at 11 fs })) rest
    else unnumbered fs (header.Discovery (record { discovery_type = discovery_type_by (value_at 6 fs); network = value_at 8 fs })) rest)))))

-- ---- each packet is read back

flag_back : (b : Bool) → (bit b == 1) ≡ b
flag_back true = refl
flag_back false = refl

changeover_back : (t : ChangeoverType) → changeover_type_by (changeover_type t) ≡ t
changeover_back Duplicate = refl
changeover_back Original = refl

distribution_back : (t : DistributionType) → distribution_type_by (distribution_type t) ≡ t
distribution_back Publication = refl
distribution_back Withdrawal = refl

fragment_back : (t : FragmentType) → fragment_type_by (fragment_type t) ≡ t
fragment_back First = refl
fragment_back Middle = refl
fragment_back Last = refl

discovery_back : (t : DiscoveryType) → discovery_type_by (discovery_type t) ≡ t
discovery_back Request = refl
discovery_back Response = refl

-- payload with other addresses
abbrev with_addressing : Payload → Addressing → Payload
with_addressing m a = record {
  importance = m.importance;
  destination_droppable = m.destination_droppable;
  source_droppable = m.source_droppable;
  error_code = m.error_code;
  reroute_count = m.reroute_count;
  lookup_scope = m.lookup_scope;
  broadcast_acknowledgement = m.broadcast_acknowledgement;
  origin_port = m.origin_port;
  destination_port = m.destination_port;
  addressing = a;
}

addressing_back : (p : Fields) (m : Payload) (a : Addressing) → addressing_by (addressing_type a) (fields_of (with_header p (header.Payload (with_addressing m a)))) ≡ a
addressing_back p m Connected = refl
addressing_back p m (Multicast o d k l u) = refl
addressing_back p m (Named o d k i) = refl
addressing_back p m (Direct o d) = refl

-- a payload header of which some fields are told in other words
payload_same : (m : Payload) (d s : Bool) (a : Addressing) → d ≡ m.destination_droppable → s ≡ m.source_droppable → a ≡ m.addressing
    → ◌≡◌ {A = Payload} (record {
      importance = m.importance;
      destination_droppable = d;
      source_droppable = s;
      error_code = m.error_code;
      reroute_count = m.reroute_count;
      lookup_scope = m.lookup_scope;
      broadcast_acknowledgement = m.broadcast_acknowledgement;
      origin_port = m.origin_port;
      destination_port = m.destination_port;
      addressing = a;
    }) m
payload_same m d s a first second third = rw (first, second, third) refl

payload_back : (p : Fields) (m : Payload) → payload_by (fields_of (with_header p (header.Payload m))) ≡ m
payload_back p m = payload_same m _ _ _ (flag_back m.destination_droppable) (flag_back m.source_droppable) (addressing_back p m m.addressing)

state_same : (s : State) (probe in_step : Bool) → probe ≡ s.probe → in_step ≡ s.in_step
    → ◌≡◌ {A = State} (record {
      gap = s.gap;
      broadcast_acknowledgement = s.broadcast_acknowledgement;
      next = s.next;
      broadcast_next = s.broadcast_next;
      broadcast_start = s.broadcast_start;
      broadcast_gap = s.broadcast_gap;
      destination_node = s.destination_node;
      probe = probe;
      in_step = in_step;
      priority = s.priority;
    }) s
state_same s probe in_step first second = rw (first, second) refl

state_back : (p : Fields) (s : State) → state_by (fields_of (with_header p (header.State s))) ≡ s
state_back p s = state_same s _ _ (flag_back s.probe) (flag_back s.in_step)

changeover_same : (c : Changeover) (t : ChangeoverType) → t ≡ c.changeover_type
    → ◌≡◌ {A = Changeover} (record { changeover_type = t; broadcast_acknowledgement = c.broadcast_acknowledgement; count = c.count; inner_number = c.inner_number; old_bearer = c.old_bearer; old_epoch = c.old_epoch }) c
changeover_same c t e = rw e refl

distribution_same : (n : NameDistribution) (t : DistributionType) → t ≡ n.distribution_type → ◌≡◌ {A = NameDistribution} (record { distribution_type = t; broadcast_acknowledgement = n.broadcast_acknowledgement }) n
distribution_same n t e = rw e refl

fragment_same : (f : Fragment) (t : FragmentType) → t ≡ f.fragment_type → ◌≡◌ {A = Fragment} (record { fragment_type = t; broadcast_acknowledgement = f.broadcast_acknowledgement; number = f.number }) f
fragment_same f t e = rw e refl

discovery_same : (d : Discovery) (t : DiscoveryType) → t ≡ d.discovery_type → ◌≡◌ {A = Discovery} (record { discovery_type = t; network = d.network }) d
discovery_same d t e = rw e refl

packet_same : (p : Fields) (h k : Header) (a s : ℕ) (rest : List ℕ) → a ≡ p.acknowledgement → s ≡ p.sequence → k ≡ h → packet a s p.previous k rest ≡ packet p.acknowledgement p.sequence p.previous h rest
packet_same p h k a s rest first second third = rw (first, second, third) refl

-- the packet of a header, whatever follows its fields
by_header : (h : Header) (p : Fields) (rest : List ℕ) → HeaderFits h → NumberingFits h p.acknowledgement p.sequence
    → packet_by (user_of h) (fields_of (with_header p h)) rest ≡ packet p.acknowledgement p.sequence p.previous h rest
unfolding packet_by
by_header (header.Payload m) p rest f n =
    let low : nat_le m.importance 3 ≡ true = le-leb _ _ f.importance in
    rw low (packet_same p (header.Payload m) _ _ _ rest refl refl (ap header.Payload (payload_back p m)))
by_header (header.Bundler b) p rest f n = refl
by_header (header.State s) p rest f n = packet_same p (header.State s) _ _ _ rest refl (sym n) (ap header.State (state_back p s))
by_header (header.Reset r) p rest f n = packet_same p (header.Reset r) _ _ _ rest (sym n.0) (sym n.1) refl
by_header (header.Activate a) p rest f n = packet_same p (header.Activate a) _ _ _ rest (sym n.0) (sym n.1) refl
by_header (header.Changeover c) p rest f n = packet_same p (header.Changeover c) _ _ _ rest refl refl (ap header.Changeover (changeover_same c _ (changeover_back c.changeover_type)))
by_header (header.NameDistributor d) p rest f n =
    packet_same p (header.NameDistributor d) _ _ _ rest refl refl (ap header.NameDistributor (distribution_same d _ (distribution_back d.distribution_type)))
by_header (header.Fragmenter g) p rest f n = packet_same p (header.Fragmenter g) _ _ _ rest refl refl (ap header.Fragmenter (fragment_same g _ (fragment_back g.fragment_type)))
by_header (header.Discovery d) p rest f n = packet_same p (header.Discovery d) _ _ _ rest (sym n.0) (sym n.1) (ap header.Discovery (discovery_same d _ (discovery_back d.discovery_type)))

-- the packet that some fields show, before anything that follows them
abbrev pub shown_by : List Field → List ℕ → Fields
shown_by fs rest = packet_by (value_at 0 fs) fs rest

-- a packet with another rest
abbrev pub with_rest : Fields → List ℕ → Fields
with_rest p rest = packet p.acknowledgement p.sequence p.previous p.header rest

pub packet_back : (p : Fields) (rest : List ℕ) → Fits p → shown_by (fields_of p) rest ≡ with_rest p rest
packet_back p rest f = by_header p.header p rest f.header f.numbering

-- ---- the shape of a packet's further fields is told by the first ones

payload_shape : (p : Fields) (m : Payload) (a : Addressing) → shape_of (further_fields (with_header p (header.Payload (with_addressing m a))))
    ≡ shape_of (further_fields (numbered 12 (start_fields (with_header p (header.Payload (with_addressing m a)))) (header.Payload (payload_by (start_fields (with_header p (header.Payload (with_addressing m a)))))) []))
payload_shape p m Connected = refl
payload_shape p m (Multicast o d k l u) = refl
payload_shape p m (Named o d k i) = refl
payload_shape p m (Direct o d) = refl

shape_by : (h : Header) (p : Fields) → HeaderFits h → shape_of (further_fields (with_header p h)) ≡ shape_of (further_fields (packet_by (user_of h) (start_fields (with_header p h)) []))
unfolding packet_by
shape_by (header.Payload m) p f = let low : nat_le m.importance 3 ≡ true = le-leb _ _ f.importance in rw low (payload_shape p m m.addressing)
shape_by (header.Bundler b) p f = refl
shape_by (header.State s) p f = refl
shape_by (header.Reset r) p f = refl
shape_by (header.Activate a) p f = refl
shape_by (header.Changeover c) p f = refl
shape_by (header.NameDistributor d) p f = refl
shape_by (header.Fragmenter g) p f = refl
shape_by (header.Discovery d) p f = refl

pub shape_back : (p : Fields) → Fits p → shape_of (further_fields p) ≡ shape_of (further_fields (shown_by (start_fields p) []))
shape_back p f = shape_by p.header p f.header
