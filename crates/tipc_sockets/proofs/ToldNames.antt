-- What a peer was told makes it hold what the node has published: with users' messages, a publication, withdrawals, and where a contact begins.
use Rattle.std.proofs.Common.{◌≡◌, ◌≤◌, ◌<◌, ◌==◌, ◌&&◌, ℕ, Bool, true, false, not, cond, List, [], ◌∷◌, ◌++◌, Some, None, filter, find, fold, map, if◌then◌else◌, refl, sym, ap, ◌∙◌, subst, append-nil, append_assoc, length, true≢false, eqb-true, arith}
use Rattle.std.specs.Prelude.{count_by}
use Rattle.std.specs.List.{list_all, list_any}
use Rattle.std.proofs.lemmas.Bool.{and_parts}
use Rattle.std.proofs.lemmas.Bool.Decides.{nat_tests}
use Rattle.std.proofs.lemmas.List.{length-append}
use Rattle.std.proofs.lemmas.List.Elements.{filter-append}
use Rattle.std.proofs.lemmas.List.Folds.{list_all-append}
use Rattle.std.proofs.lemmas.List.Sums.{sum_by-cons}
use Rattle.tipc_types.specs.declared.message_forms.Message.{Message}
use Rattle.tipc_types.specs.declared.message_forms.Message.TheVariants.{Items, Payload}
use Rattle.tipc_types.specs.declared.services.Publication.{Publication}
use Rattle.tipc_types.specs.Tables.{IsTable, is_of}
use Rattle.tipc_name_table.proofs.TableLaws.{table_none}
use Rattle.tipc_journal.specs.declared.entries.Entry.TheVariants as entry
use Rattle.tipc_journal.specs.Matches.{arranged}
use Rattle.tipc_journal.specs.Names.{cluster_part, is_clusterwide, live_after}
use Rattle.tipc_name_dist.specs.Agreeing.{Agrees, AreOwn, as_learned, has_instances, has_key, without_key}
use Rattle.tipc_name_dist.specs.Applying.{Applied, after_first, applied, applied_each, nothing_applied}
use Rattle.tipc_name_dist.specs.Items.{IsBulk, item_of, telling, tellings}
use Rattle.tipc_name_dist.proofs.Agreed.{begins, ends, goes_on, goes_unseen}
use Rattle.tipc_name_dist.proofs.Applied.{same_number}
use Rattle.tipc_name_dist.proofs.Agreeing.{none_any, own_kept}
use Rattle.tipc_name_dist.proofs.Fronts.{applied_behind, applied_last, applied_table, each_table}
use Rattle.tipc_sockets.specs.Telling.{is_payload}
use Rattle.tipc_sockets.proofs.Closing.{eq_turned, or_parts as or_none}
use Rattle.tipc_sockets.proofs.Counting.{count_by-append, count_by-one, none_counts}
use Rattle.tipc_name_dist.specs.Told.{HasTold}

-- ---- messages one after the other

-- the peer's table so far
abbrev told_table : ℕ → List Message → List Publication
told_table own ms = (applied_each own [] ms).table

-- messages that fit lead from a table to one that agrees
record Leads (own : ℕ) (table : List Publication) (messages : List Message) (live : List Publication) : Type 0 where
  pub fits : (applied_each own table messages).bad ≡ None
  pub sound : IsTable (applied_each own table messages).table
  pub agrees : Agrees own live (applied_each own table messages).table

told_then : (own : ℕ) (live live' : List Publication) (xs ys : List Message) → HasTold own live xs → Leads own (told_table own xs) ys live' → HasTold own live' (xs ++ ys)
told_then own live live' xs ys h l =
    let on = applied_behind own [] xs ys h.fits in record {
      fits = on.0 ∙ l.fits;
      table = subst IsTable (sym on.1) l.sound;
      agrees = ap (filter (is_of own)) on.1 ∙ l.agrees;
    }

-- nothing more
leads_none : (own : ℕ) (table live : List Publication) → IsTable table → Agrees own live table → Leads own table [] live
leads_none own table live sound agrees = record { fits = refl; sound = sound; agrees = agrees }

-- one message that fits
leads_one : (own : ℕ) (table live : List Publication) (m : Message) → IsTable table → (applied own table m).bad ≡ None → Agrees own live (applied own table m).table → Leads own table (m ∷ []) live
leads_one own table live m sound fits agrees =
    let is = applied_last own table [] m refl in record {
      fits = is.0 ∙ fits;
      sound = subst IsTable (sym is.1) (applied_table own table m sound);
      agrees = ap (filter (is_of own)) is.1 ∙ agrees;
    }

-- ---- users' messages

user_first : (own : ℕ) (table : List Publication) (m : Message) → is_payload m ≡ true → applied own table m ≡ nothing_applied table None
user_first own table (Payload importance form at to kind lower upper code droppable body) user = refl
user_first own table (Items withdrawal items) user = absurd (true≢false (sym user))

users_each : (own : ℕ) (table : List Publication) (ms : List Message) → list_all is_payload ms ≡ true → ((applied_each own table ms).bad ≡ None) × ((applied_each own table ms).table ≡ table)
users_each own table [] users = (refl, refl)
users_each own table (m ∷ ms) users =
    let both = and_parts (is_payload m) _ users in
    let first = user_first own table m both.0 in
    subst (λ (a : Applied). ((after_first a (applied_each own a.table ms)).bad ≡ None) × ((after_first a (applied_each own a.table ms)).table ≡ table)) (sym first) (users_each own table ms both.1)

pub told_users : (own : ℕ) (live : List Publication) (xs ys : List Message) → HasTold own live xs → list_all is_payload ys ≡ true → HasTold own live (xs ++ ys)
told_users own live xs ys h users =
    let more = users_each own (told_table own xs) ys users in
    told_then own live live xs ys h (record {
      fits = more.0;
      sound = subst IsTable (sym more.1) h.table;
      agrees = ap (filter (is_of own)) more.1 ∙ h.agrees;
    })

-- ---- a publication

-- one that isn't seen in the cluster
part_same : (live : List Publication) (p : Publication) → is_clusterwide p.scope ≡ false → cluster_part (live ++ p ∷ []) ≡ cluster_part live
part_same live p unseen =
    filter-append (λ q. is_clusterwide q.scope) live (p ∷ []) ∙ ap (λ (b : Bool). cluster_part live ++ (if b then p ∷ [] else [])) unseen ∙ append-nil (cluster_part live)

publish_leads : (own : ℕ) (live table : List Publication) (p : Publication) → AreOwn own (live ++ p ∷ []) → IsTable table → Agrees own live table → Leads own table (telling false p) (live ++ p ∷ [])
publish_leads own live table p are sound agrees = by (is_clusterwide p.scope) refl
  where
    by : (b : Bool) → is_clusterwide p.scope ≡ b → Leads own table (if b then Items false (item_of p ∷ []) ∷ [] else []) (live ++ p ∷ [])
    by true shown = let h = goes_on own live table p are sound agrees shown in leads_one own table (live ++ p ∷ []) (Items false (item_of p ∷ [])) sound h.0 h.1
    by false unseen = leads_none own table (live ++ p ∷ []) sound (agrees ∙ ap (λ ps. arranged (map as_learned ps)) (sym (part_same live p unseen)))

pub told_publication : (own : ℕ) (live : List Publication) (ms : List Message) (p : Publication) → HasTold own live ms → AreOwn own (live ++ p ∷ []) → HasTold own (live ++ p ∷ []) (ms ++ telling false p)
told_publication own live ms p h are = told_then own live (live ++ p ∷ []) ms (telling false p) h (publish_leads own live (told_table own ms) p are h.table h.agrees)

-- ---- withdrawals

withdraw_leads : (own : ℕ) (live table : List Publication) (p : Publication) → AreOwn own live → IsTable table → Agrees own live table → find (has_key p.key) live ≡ Some p → Leads own table (telling true p) (without_key p.key live)
withdraw_leads own live table p are sound agrees found = by (is_clusterwide p.scope) refl
  where
    by : (b : Bool) → is_clusterwide p.scope ≡ b → Leads own table (if b then Items true (item_of p ∷ []) ∷ [] else []) (without_key p.key live)
    by true shown = let h = ends own live table p are sound agrees found shown in leads_one own table (without_key p.key live) (Items true (item_of p ∷ [])) sound h.0 h.1
    by false unseen = leads_none own table (without_key p.key live) sound (goes_unseen own live table p are agrees found unseen)

pub told_withdrawn : (own : ℕ) (live : List Publication) (ms : List Message) (p : Publication) → HasTold own live ms → AreOwn own live → find (has_key p.key) live ≡ Some p → HasTold own (without_key p.key live) (ms ++ telling true p)
told_withdrawn own live ms p h are found = told_then own live (without_key p.key live) ms (telling true p) h (withdraw_leads own live (told_table own ms) p are h.table h.agrees found)

filters_agree : (f g : Publication → Bool) → ((p : Publication) → f p ≡ g p) → (ps : List Publication) → filter f ps ≡ filter g ps
filters_agree f g same [] = refl
filters_agree f g same (p ∷ ps) = ap (λ (b : Bool). if b then p ∷ filter f ps else filter f ps) (same p) ∙ ap (λ qs. if g p then p ∷ qs else qs) (filters_agree f g same ps)

-- as the journal tells it
pub withdrawn_is : (live : List Publication) (q : Publication) → live_after live (entry.Withdrawn q) ≡ without_key q.key live
withdrawn_is live q = filters_agree (λ p. not (q.key == p.key)) (λ p. not (has_key q.key p)) (λ p. ap not (eq_turned q.key p.key)) live

-- each of these is the one that its key finds among the live ones
abbrev pub AreFound : List Publication → List Publication → Type 0
AreFound live [] = Unit {0}
AreFound live (p ∷ ps) = (find (has_key p.key) live ≡ Some p) × AreFound live ps

-- none of the rest has the key of the first
lone_key : (p : Publication) (ps : List Publication) → ((key : ℕ) → count_by (has_key key) (p ∷ ps) ≤ 1) → list_any (has_key p.key) ps ≡ false
lone_key p ps keys =
    let most = keys p.key in
    let one : ◌≡◌ {A = ℕ} (cond (has_key p.key p) 1 0) 1 = ap (λ (b : Bool). cond b 1 0) (same_number p.key) in
    none_any (has_key p.key) ps (omega (arith, most, one, sum_by-cons (λ (x : Publication). cond (has_key p.key x) 1 0) p ps))

rest_keys : (p : Publication) (ps : List Publication) → ((key : ℕ) → count_by (has_key key) (p ∷ ps) ≤ 1) → (key : ℕ) → count_by (has_key key) ps ≤ 1
rest_keys p ps keys key = let most = keys key in omega (arith, most, sum_by-cons (λ (x : Publication). cond (has_key key x) 1 0) p ps)

-- with one more in front, whose key none of them has
found_behind : (x : Publication) (live ps : List Publication) → list_any (has_key x.key) ps ≡ false → AreFound live ps → AreFound (x ∷ live) ps
found_behind x live [] apart h = tt
found_behind x live (q ∷ qs) apart h =
    let both = or_none (has_key x.key q) (list_any (has_key x.key) qs) apart in
    let other : has_key q.key x ≡ false = eq_turned x.key q.key ∙ both.0 in
    (ap (λ b. if b then Some x else find (has_key q.key) live) other ∙ h.0, found_behind x live qs both.1 h.1)

pub all_found : (live : List Publication) → ((key : ℕ) → count_by (has_key key) live ≤ 1) → AreFound live live
all_found [] keys = tt
all_found (p ∷ ps) keys =
    (ap (λ b. if b then Some p else find (has_key p.key) ps) (same_number p.key), found_behind p ps ps (lone_key p ps keys) (all_found ps (rest_keys p ps keys)))

-- those of them that pass a test
pub found_kept : (live : List Publication) (kept : Publication → Bool) (ps : List Publication) → AreFound live ps → AreFound live (filter kept ps)
found_kept live kept [] h = tt
found_kept live kept (p ∷ ps) h = by (kept p) (found_kept live kept ps h.1)
  where
    by : (b : Bool) → AreFound live (filter kept ps) → AreFound live (if b then p ∷ filter kept ps else filter kept ps)
    by true later = (h.0, later)
    by false later = later

-- and the first of them that does
pub found_one : (live : List Publication) (test : Publication → Bool) (ps : List Publication) (p : Publication) → AreFound live ps → find test ps ≡ Some p → find (has_key p.key) live ≡ Some p
found_one live test [] p h is = absurd (let wrong : None ≡ Some p = is in cc)
found_one live test (q ∷ qs) p h is = by (test q) is (found_one live test qs p h.1)
  where
    by : (b : Bool) → (if b then Some q else find test qs) ≡ Some p → (find test qs ≡ Some p → find (has_key p.key) live ≡ Some p) → find (has_key p.key) live ≡ Some p
    by true here later = let same : q ≡ p = cc in subst (λ x. find (has_key x.key) live ≡ Some x) same h.0
    by false there later = later there

-- what is looked for is found among those that are kept, where each that passes is kept
find_filtered : (test kept : Publication → Bool) → ((p : Publication) → test p ≡ true → kept p ≡ true) → (ps : List Publication) → find test (filter kept ps) ≡ find test ps
find_filtered test kept all [] = refl
find_filtered test kept all (p ∷ ps) = by (test p) (kept p) refl refl (find_filtered test kept all ps)
  where
    by : (b c : Bool) → test p ≡ b → kept p ≡ c → find test (filter kept ps) ≡ find test ps → find test (if c then p ∷ filter kept ps else filter kept ps) ≡ (if b then Some p else find test ps)
    by true true hit keeps later = ap (λ t. if t then Some p else find test (filter kept ps)) hit
    by true false hit keeps later = absurd (true≢false (sym (all p hit) ∙ keeps))
    by false true hit keeps later = ap (λ t. if t then Some p else find test (filter kept ps)) hit ∙ later
    by false false hit keeps later = later

-- a key that is neither
apart_keys : (a b : ℕ) (x : Publication) → (a == b) ≡ false → has_key a x ≡ true → not (has_key b x) ≡ true
apart_keys a b x apart is = let same : x.key ≡ a = eqb-true _ _ is in ap (λ k. not (k == b)) same ∙ ap not apart

-- where that of another key is withdrawn
found_still : (key : ℕ) (live ps : List Publication) → list_any (has_key key) ps ≡ false → AreFound live ps → AreFound (without_key key live) ps
found_still key live [] apart h = tt
found_still key live (q ∷ qs) apart h =
    let both = or_none (has_key key q) (list_any (has_key key) qs) apart in
    (find_filtered (has_key q.key) (λ x. not (has_key key x)) (λ x is. apart_keys q.key key x both.0 is) live ∙ h.0, found_still key live qs both.1 h.1)

-- several publications are withdrawn, one after the other
pub told_withdrawals : (own : ℕ) (live : List Publication) (ms : List Message) (ps : List Publication) → HasTold own live ms → AreOwn own live → AreFound live ps → ((key : ℕ) → count_by (has_key key) ps ≤ 1)
    → HasTold own (fold live_after live (map entry.Withdrawn ps)) (ms ++ tellings true ps)
told_withdrawals own live ms [] h are found keys = subst (HasTold own live) (sym (append-nil ms)) h
told_withdrawals own live ms (p ∷ ps) h are found keys =
    let left = without_key p.key live in
    let one = told_withdrawn own live ms p h are found.0 in
    let rest = told_withdrawals own left (ms ++ telling true p) ps one (own_kept (λ q. not (has_key p.key q)) own live are) (found_still p.key live ps (lone_key p ps keys) found.1) (rest_keys p ps keys) in
    subst (λ qs. HasTold own (fold live_after qs (map entry.Withdrawn ps)) (ms ++ tellings true (p ∷ ps))) (sym (withdrawn_is live p))
    (subst (HasTold own (fold live_after left (map entry.Withdrawn ps))) (append_assoc ms (telling true p) (tellings true ps)) rest)

pub own_left : (own : ℕ) (live ps : List Publication) → AreOwn own live → AreOwn own (fold live_after live (map entry.Withdrawn ps))
own_left own live [] are = are
own_left own live (p ∷ ps) are = own_left own (live_after live (entry.Withdrawn p)) ps (own_kept (λ q. not (p.key == q.key)) own live are)

-- ---- a contact begins

pub told_bulk : (own : ℕ) (live : List Publication) (ms : List Message) → AreOwn own live → IsBulk live ms → HasTold own live ms
told_bulk own live ms are bulk =
    let h = begins own live [] ms are table_none refl bulk in
    record { fits = h.0; table = each_table own [] ms table_none; agrees = h.1 }

-- ---- own publications

-- with one more, of a key of its own, at a port of the node, and of a range that has instances
pub own_more : (own : ℕ) (live : List Publication) (p : Publication) → AreOwn own live → is_of own p ≡ true → p.range.lower ≤ p.range.upper → list_any (has_key p.key) live ≡ false → length live < 1024 → AreOwn own (live ++ p ∷ [])
own_more own live p are mine ordered free few =
    let instances : has_instances p ≡ true = grind (arith, nat_tests, ordered) in
    record {
      own = list_all-append (is_of own) live (p ∷ []) ∙ ap (λ b. b && list_all (is_of own) (p ∷ [])) are.own ∙ ap (λ b. b && true) mine;
      ranges = list_all-append has_instances live (p ∷ []) ∙ ap (λ b. b && list_all has_instances (p ∷ [])) are.ranges ∙ ap (λ b. b && true) instances;
      keys = λ key. one_key key (has_key key p) refl;
      few = let count = length-append live (p ∷ []) in omega (arith, few, count);
    }
  where
    one_key : (key : ℕ) (b : Bool) → has_key key p ≡ b → count_by (has_key key) (live ++ p ∷ []) ≤ 1
    one_key key true here =
        let same : p.key ≡ key = eqb-true _ _ here in
        let none : count_by (has_key key) live ≡ 0 = none_counts (has_key key) live (ap (λ k. list_any (has_key k) live) (sym same) ∙ free) in
        let last : count_by (has_key key) (p ∷ []) ≡ 1 = count_by-one (has_key key) p ∙ ap (λ (b : Bool). cond b 1 0) here in
        omega (arith, none, last, count_by-append (has_key key) live (p ∷ []))
    one_key key false here =
        let most = are.keys key in
        let last : count_by (has_key key) (p ∷ []) ≡ 0 = count_by-one (has_key key) p ∙ ap (λ (b : Bool). cond b 1 0) here in
        omega (arith, most, last, count_by-append (has_key key) live (p ∷ []))
