-- What is wrong with bytes that are no packet: the first rule that they break.
use Rattle.std.specs.Prelude.{ℕ, ◌≡◌, ◌<◌, ◌≤◌, ◌-◌, ◌*◌, ◌%◌, Bool, ◌&&◌, ◌||◌, List, [], ◌∷◌, length, nat_le, nat_lt, ◌==◌, if◌then◌else◌, Option, Some, None}
use Rattle.std.specs.List.{list_all, list_any}
use Rattle.tipc_header.specs.declared.fault.HeaderFault.{HeaderFault}
use Rattle.tipc_header.specs.declared.fault.HeaderFault.TheVariants.{Short, Version, HeaderSize, Size, User, «Type», Reserved}
use Rattle.tipc_header.specs.Reading.{word_at, field, user_at, size_in_words, type_at}

-- whether a number is one of these
abbrev pub is_one_of : List ℕ → ℕ → Bool
is_one_of ns n = list_any (λ k. k == n) ns

-- whether these numbers are all 0
abbrev pub all_zero : List ℕ → Bool
all_zero ns = list_all (λ n. n == 0) ns

-- ---- the users, their types, and the header size of each type

-- whether there is a user with this number
abbrev pub has_user : ℕ → Bool
has_user u = nat_le u 3 || is_one_of (6 ∷ 7 ∷ 10 ∷ 11 ∷ 12 ∷ 13 ∷ []) u

-- bit 20 of word 0
abbrev pub non_sequenced : ℕ → ℕ
non_sequenced u = if u == 7 || u == 13 then 1 else 0

-- How many types a user has, numbered from 0: payload 4, bundler 1, link protocol and fragmenter 3, the others 2.
abbrev pub types_of : ℕ → ℕ
types_of u = if nat_le u 3 then 4 else (if u == 6 then 1 else (if u == 7 || u == 12 then 3 else 2))

-- the header size of a type in words: of payload connected 6, multicast 11, named 10 and direct 8, of every other user 10
abbrev pub size_of_type : ℕ → ℕ → ℕ
size_of_type u t = if nat_le u 3 then (if t == 0 then 6 else (if t == 1 then 11 else (if t == 2 then 10 else 8))) else 10

-- The bytes have the fields of their user and type.
pub record HasFields (b : List ℕ) : Type 0 where
  pub short : 24 ≤ length b
  pub payload : user_at b ≤ 3 → 4 * size_of_type 0 (type_at b) ≤ length b
  pub long : 3 < user_at b → 40 ≤ length b
  pub reset : user_at b ≡ 7 → 1 ≤ type_at b → 56 ≤ length b
  pub changeover : user_at b ≡ 10 → 48 ≤ length b

-- ---- What each user asks: the bits and words that no field has are zero, and its counts and the number
-- of bytes that follow are allowed. A header of 10 words ends at byte 40.

-- Word 0: bit 17 is zero, bit 20 is 1 exactly for users 7 and 13, and only payload is droppable.
unfoldable pub word_0_is_clean : ℕ → List ℕ → Bool
word_0_is_clean u b =
    (field 0 17 17 b == 0)
    && (field 0 20 20 b == non_sequenced u)
    && (nat_le u 3 || all_zero (field 0 19 19 b ∷ field 0 18 18 b ∷ []))

-- bits 18 to 16 of word 1; the error code
unfoldable pub payload_is_clean : List ℕ → Bool
payload_is_clean b = (field 1 18 16 b == 0) && nat_le (field 1 28 25 b) 5

-- at least 2 inner packets, which take a multiple of 4 bytes
unfoldable pub bundle_is_clean : List ℕ → Bool
bundle_is_clean b =
    all_zero (field 1 28 16 b ∷ field 4 15 0 b ∷ word_at 5 b ∷ word_at 6 b ∷ word_at 7 b ∷ word_at 8 b ∷ word_at 9 b ∷ [])
    && nat_le 2 (field 4 31 16 b)
    && ((length b - 40) % 4 == 0)

-- no sequence number, and nothing follows
unfoldable pub state_is_clean : List ℕ → Bool
state_is_clean b =
    all_zero (field 2 15 0 b ∷ word_at 6 b ∷ field 8 31 7 b ∷ word_at 9 b ∷ [])
    && (length b == 40)

-- RESET and ACTIVATE: two contact numbers follow
unfoldable pub reset_is_clean : List ℕ → Bool
reset_is_clean b =
    all_zero (field 1 28 0 b ∷ word_at 2 b ∷ word_at 4 b ∷ word_at 5 b ∷ word_at 6 b ∷ field 8 31 7 b ∷ field 8 1 0 b ∷ word_at 9 b ∷ [])
    && (length b == 56)

-- The old epoch follows; behind it a run of no packets has no inner number and no inner packet.
unfoldable pub changeover_is_clean : List ℕ → Bool
changeover_is_clean b =
    all_zero (field 1 28 16 b ∷ field 5 31 1 b ∷ word_at 6 b ∷ word_at 7 b ∷ word_at 8 b ∷ word_at 9 b ∷ [])
    && nat_le 48 (length b)
    && (nat_lt 0 (field 4 31 16 b) || ((field 4 15 0 b == 0) && (length b == 48)))

-- 1 to 70 items of 20 bytes follow
unfoldable pub distribution_is_clean : List ℕ → Bool
distribution_is_clean b =
    all_zero (field 1 28 16 b ∷ word_at 4 b ∷ word_at 5 b ∷ word_at 6 b ∷ word_at 7 b ∷ word_at 8 b ∷ word_at 9 b ∷ [])
    && nat_le 20 (length b - 40)
    && nat_le (length b - 40) 1400
    && ((length b - 40) % 20 == 0)

-- numbered from 1; 1 to 1,412 bytes follow
unfoldable pub fragment_is_clean : List ℕ → Bool
fragment_is_clean b =
    all_zero (field 1 28 16 b ∷ field 4 31 16 b ∷ word_at 5 b ∷ word_at 6 b ∷ word_at 7 b ∷ word_at 8 b ∷ word_at 9 b ∷ [])
    && nat_le 1 (field 4 15 0 b)
    && nat_le 1 (length b - 40)
    && nat_le (length b - 40) 1412

-- nothing follows
unfoldable pub discovery_is_clean : List ℕ → Bool
discovery_is_clean b =
    all_zero (field 1 28 0 b ∷ word_at 2 b ∷ word_at 5 b ∷ word_at 6 b ∷ word_at 7 b ∷ word_at 8 b ∷ word_at 9 b ∷ [])
    && (length b == 40)

-- What the user and type ask, by the row for them: the zeros of words 1 to 9, the counts, and how many bytes follow.
unfoldable pub user_is_clean : ℕ → ℕ → List ℕ → Bool
user_is_clean u t b =
    if nat_le u 3 then payload_is_clean b
    else (if u == 6 then bundle_is_clean b
    else (if u == 7 then (if t == 0 then state_is_clean b else reset_is_clean b)
    else (if u == 10 then changeover_is_clean b
    else (if u == 11 then distribution_is_clean b
    else (if u == 12 then fragment_is_clean b
    else discovery_is_clean b)))))

-- ---- the rules in their order, each with the fault of bytes that break it

-- enough bytes for the shortest header, which has 24
abbrev pub has_start : List ℕ → Bool
has_start b = nat_le 24 (length b)

-- TIPC's version, 2, in the top bits of word 0
abbrev pub has_version : List ℕ → Bool
has_version b = field 0 31 29 b == 2

-- a header size that there is, and that many bytes
abbrev pub has_header : List ℕ → Bool
has_header b = is_one_of (6 ∷ 8 ∷ 10 ∷ 11 ∷ []) (size_in_words b) && nat_le (4 * size_in_words b) (length b)

-- The size field is the number of bytes, and at most 66,000 follow a payload header.
abbrev pub has_size : List ℕ → Bool
has_size b = (field 0 16 0 b == length b) && (nat_lt 3 (user_at b) || nat_le (length b - 4 * size_in_words b) 66000)

-- a type of the user, and the header size of the type
abbrev pub has_type : List ℕ → Bool
has_type b = nat_lt (type_at b) (types_of (user_at b)) && (size_in_words b == size_of_type (user_at b) (type_at b))

-- what must be zero is zero, in word 0 and in what the user and type ask
abbrev pub is_clean : List ℕ → Bool
is_clean b = word_0_is_clean (user_at b) b && user_is_clean (user_at b) (type_at b) b

-- the fault of the first rule that isn't kept
abbrev pub first_broken : List (Bool × HeaderFault) → Option HeaderFault
first_broken [] = None
first_broken (rule ∷ rules) = if rule.0 then first_broken rules else Some rule.1

-- The fault of bytes that are no packet; bytes that keep every rule have none, and are one.
unfoldable pub fault_of : List ℕ → Option HeaderFault
fault_of b = first_broken
    ((has_start b, Short)
    ∷ (has_version b, Version)
    ∷ (has_header b, HeaderSize)
    ∷ (has_size b, Size)
    ∷ (has_user (user_at b), User)
    ∷ (has_type b, «Type»)
    ∷ (is_clean b, Reserved)
    ∷ [])

-- the number of each fault, 1 to 7, in the order in which the rules are tried
abbrev pub number_of : HeaderFault → ℕ
number_of Short = 1
number_of Version = 2
number_of HeaderSize = 3
number_of Size = 4
number_of User = 5
number_of «Type» = 6
number_of Reserved = 7
