-- What was put together is taken apart in one way.
use Rattle.std.proofs.Common.{◌≡◌, ℕ, zero, suc, ◌+◌, ◌-◌, ◌*◌, ◌^◌, ◌<◌, ◌≤◌, List, [], ◌∷◌, ◌++◌, length, take, drop}
use Rattle.std.proofs.Common.{Err, ◌≢◌, inl, inr, refl, sym, ap, subst, slice_index, ◌∙◌, append_assoc, arith}
use Rattle.std.specs.Int.{w32, w64, from_be_bytes, to_be_bytes}
use Rattle.std.proofs.lemmas.List.{take_at, drop_at, take-append-drop, length-append, length-take, get_or-take}
use Rattle.std.proofs.lemmas.List.{get_or_past}
use Rattle.std.proofs.lemmas.Bool.{cases_lt}
use Rattle.std.proofs.lemmas.Nat.{be_bytes_8, from_be_bytes-to_be_bytes_8}
use Rattle.sha2.specs.Sha256.{digest_bytes, final_hash, initial_hash_256, sha256}
use Rattle.row_bytes.specs.Spelling.{number_8}
use Rattle.host_states.specs.declared.head.StateHead.{StateHead}
use Rattle.host_states.specs.States.{FitsHead, IsFramed, IsSpellingFault, IsState, IsStateFault, IsWant}
use Rattle.host_states.specs.States.{first_line, framed, head_spelling, sum_of, told_bytes}
use Rattle.host_states.specs.declared.fault.StateFault.{StateFault}
use Rattle.host_states.specs.declared.fault.StateFault.TheVariants.{NoState, NotWhole, Rows as NotRows}
use Rattle.flow_state.specs.Rows.{Rows}
use Rattle.row_bytes.specs.Tables.{AreRead, Spells, SpellsNone}
use Rattle.row_bytes.specs.declared.fault.RowsFault.{RowsFault}
use Rattle.row_bytes.specs.declared.fault.RowsFault.TheVariants.{Short, Trailing, NoChannel, NoFlow, NoRequest, NotFirm}
use Rattle.row_bytes.specs.declared.fault.RowsFault.TheVariants.{OutOfMemory}

-- a digest's words have four bytes each
digest_length : (h : List ℕ) (n : ℕ) → length (digest_bytes h n) ≡ 4 * n
unfolding digest_bytes
digest_length h zero = refl
digest_length h (suc n) = omega (arith, digest_length h n, length-append (digest_bytes h n) (to_be_bytes w32 (slice_index h n)))

-- a sum has eight bytes
pub sum_length : (m : List ℕ) → length (sum_of m) ≡ 8
unfolding sha256
sum_length m = omega (arith, length-take 8 (sha256 m), digest_length (final_hash initial_hash_256 m) 8)

-- of two texts that are one, with parts of one length at their ends, the parts are one
pub front_is_one : (a b x y : List ℕ) → a ++ x ≡ b ++ y → length x ≡ length y → a ≡ b
front_is_one a b x y same len =
    let lengths : length a ≡ length b = omega (arith, ap length same, length-append a x, length-append b y, len) in
    sym (take_at a x (length a) refl) ∙ ap (take (length a)) same ∙ take_at b y (length a) (sym lengths)

pub rest_is_one : (a b x y : List ℕ) → a ++ x ≡ b ++ y → length a ≡ length b → (a ≡ b) × (x ≡ y)
rest_is_one a b x y same lengths = (
  sym (take_at a x (length a) refl) ∙ ap (take (length a)) same ∙ take_at b y (length a) (sym lengths),
  sym (drop_at a x (length a) refl) ∙ ap (drop (length a)) same ∙ drop_at b y (length a) (sym lengths),
)

-- so bytes are what stands before one sum
pub told_is_one : (told other : List ℕ) → told ++ sum_of told ≡ other ++ sum_of other → told ≡ other
told_is_one told other same = front_is_one told other (sum_of told) (sum_of other) same (sum_length told ∙ sym (sum_length other))

-- a number of eight bytes is read again
pub number_length : (n : ℕ) → length (number_8 n) ≡ 8
unfolding number_8
number_length n = refl

number_again : (n : ℕ) → n < 2 ^ 64 → from_be_bytes w64 (number_8 n) ≡ n
unfolding number_8
number_again n lt = from_be_bytes-to_be_bytes_8 n lt

pub number_is_one : (n m : ℕ) (x y : List ℕ) → n < 2 ^ 64 → m < 2 ^ 64 → number_8 n ++ x ≡ number_8 m ++ y → (n ≡ m) × (x ≡ y)
number_is_one n m x y lt mlt same =
    let parts = rest_is_one (number_8 n) (number_8 m) x y same (number_length n ∙ sym (number_length m)) in
    (sym (number_again n lt) ∙ ap (from_be_bytes w64) parts.0 ∙ number_again m mlt, parts.1)

-- the number that was read off the front is spelled there
pub number_read : (bytes : List ℕ) (n : ℕ) → 8 ≤ length bytes → ((i : ℕ) → slice_index (take 8 bytes) i < 2 ^ 8) → n ≡ from_be_bytes w64 (take 8 bytes)
    → bytes ≡ number_8 n ++ drop 8 bytes
unfolding number_8
number_read bytes n long fits read =
    let spelled : to_be_bytes w64 n ≡ take 8 bytes = be_bytes_8 (take 8 bytes) n (omega (arith, length-take 8 bytes)) fits read in
    sym (take-append-drop 8 bytes) ∙ ap (λ (t : List ℕ). t ++ drop 8 bytes) (sym spelled)

pub front_fits : (bytes : List ℕ) → ((i : ℕ) → slice_index bytes i < 2 ^ 8) → (i : ℕ) → slice_index (take 8 bytes) i < 2 ^ 8
front_fits bytes fits i =
    elim (cases_lt i 8) [
      | inl lt ↦ rw (get_or-take 8 bytes i 0 lt) (fits i)
      | inr le ↦ rw (get_or_past (take 8 bytes) i 0 (omega (arith, length-take 8 bytes))) (omega arith)
    ]

-- the first eight of at least as many bytes, one by one
pub front_read : (bytes : List ℕ) (n : ℕ) → n ≡ from_be_bytes w64 bytes → n ≡ from_be_bytes w64 (take 8 bytes)
front_read bytes n is =
    is ∙ sym (rw (
      get_or-take 8 bytes 0 0 (omega arith),
      get_or-take 8 bytes 1 0 (omega arith),
      get_or-take 8 bytes 2 0 (omega arith),
      get_or-take 8 bytes 3 0 (omega arith),
      get_or-take 8 bytes 4 0 (omega arith),
      get_or-take 8 bytes 5 0 (omega arith),
      get_or-take 8 bytes 6 0 (omega arith),
      get_or-take 8 bytes 7 0 (omega arith),
    ) refl)

bytes_are_one : (a b c d : ℕ) (x y : List ℕ) → a ∷ b ∷ x ≡ c ∷ d ∷ y → (a ≡ c) × (b ≡ d) × (x ≡ y)
bytes_are_one a b c d x y same = (cc (same), cc (same), cc (same))

head_of : (epoch places before id members : ℕ) → StateHead
head_of epoch places before id members = record { epoch = epoch; places = places; before = before; id = id; members = members }

same_head : (h g : StateHead) → h.epoch ≡ g.epoch → h.places ≡ g.places → h.before ≡ g.before → h.id ≡ g.id → h.members ≡ g.members → h ≡ g
unfolding head_of
same_head h g a b c d e =
    let same : head_of h.epoch h.places h.before h.id h.members ≡ head_of g.epoch g.places g.before g.id g.members = cc (a, b, c, d, e) in
    same

-- the bytes of a head, grouped to the right
pub grouped : (h : StateHead) (x : List ℕ) → head_spelling h ++ x ≡ number_8 h.epoch ++ (number_8 h.places ++ (number_8 h.before ++ (h.id ∷ h.members ∷ x)))
grouped h x =
    append_assoc (number_8 h.epoch) (number_8 h.places ++ (number_8 h.before ++ (h.id ∷ h.members ∷ []))) x
    ∙ ap (λ (t : List ℕ). number_8 h.epoch ++ t) (append_assoc (number_8 h.places) (number_8 h.before ++ (h.id ∷ h.members ∷ [])) x
    ∙ ap (λ (t : List ℕ). number_8 h.places ++ t) (append_assoc (number_8 h.before) (h.id ∷ h.members ∷ []) x))

pub head_is_one : (h g : StateHead) (x y : List ℕ) → FitsHead h → FitsHead g → head_spelling h ++ x ≡ head_spelling g ++ y → (h ≡ g) × (x ≡ y)
head_is_one h g x y fits others same =
    let all = sym (grouped h x) ∙ same ∙ grouped g y in
    let epoch = number_is_one h.epoch g.epoch _ _ fits.epoch others.epoch all in
    let places = number_is_one h.places g.places _ _ fits.places others.places epoch.1 in
    let before = number_is_one h.before g.before _ _ fits.before others.before places.1 in
    let rest = bytes_are_one h.id h.members g.id g.members x y before.1 in
    (same_head h g epoch.0 places.0 before.0 rest.0 rest.1, rest.2)

-- bytes are framed in one way
pub frame_is_one : (bytes : List ℕ) (h g : StateHead) (x y : List ℕ) → IsFramed bytes h x → IsFramed bytes g y → (h ≡ g) × (x ≡ y)
frame_is_one bytes h g x y one other =
    let told = told_is_one (told_bytes h x) (told_bytes g y) (sym one.parts ∙ other.parts) in
    let behind = rest_is_one first_line first_line (head_spelling h ++ x) (head_spelling g ++ y) told refl in
    head_is_one h g x y one.fits other.fits behind.1

-- bytes whose last eight are not the sum of those before are those of no text and its sum
pub sum_differs : (bytes front back told : List ℕ) → 8 ≤ length bytes → front ≡ take (length bytes - 8) bytes → back ≡ drop (length bytes - 8) bytes → back ≢ sum_of front → bytes ≢ told ++ sum_of told
sum_differs bytes front back told long is behind differs = λ same.
    let len : length told ≡ length bytes - 8 = omega (arith, ap length same, length-append told (sum_of told), sum_length told) in
    let first : front ≡ told = is ∙ ap (take (length bytes - 8)) same ∙ take_at told (sum_of told) (length bytes - 8) len in
    let last : back ≡ sum_of told = behind ∙ ap (drop (length bytes - 8)) same ∙ drop_at told (sum_of told) (length bytes - 8) len in
    differs (last ∙ ap sum_of (sym first))

pub too_short : (bytes told : List ℕ) → length bytes < 8 → bytes ≢ told ++ sum_of told
too_short bytes told short = λ same. omega (arith, ap length same, length-append told (sum_of told), sum_length told)

-- the bytes before the sum of bytes that are framed
pub told_of : (bytes told : List ℕ) (h : StateHead) (spelling : List ℕ) → bytes ≡ told ++ sum_of told → IsFramed bytes h spelling → told ≡ first_line ++ (head_spelling h ++ spelling)
told_of bytes told h spelling is f = told_is_one told (told_bytes h spelling) (sym is ∙ f.parts)

pub head_length : (h : StateHead) → length (head_spelling h) ≡ 26
unfolding number_8
head_length h = refl

pub no_line : (bytes told : List ℕ) (h : StateHead) (spelling : List ℕ) → bytes ≡ told ++ sum_of told → ((rest : List ℕ) → told ≢ first_line ++ rest) → ¬ IsFramed bytes h spelling
no_line bytes told h spelling is none = λ f. none (head_spelling h ++ spelling) (told_of bytes told h spelling is f)

pub no_head : (bytes told behind : List ℕ) (h : StateHead) (spelling : List ℕ) → bytes ≡ told ++ sum_of told → told ≡ first_line ++ behind → length behind < 26 → ¬ IsFramed bytes h spelling
no_head bytes told behind h spelling is line short = λ f.
    let rest = rest_is_one first_line first_line behind (head_spelling h ++ spelling) (sym line ∙ told_of bytes told h spelling is f) refl in
    omega (arith, ap length rest.1, length-append (head_spelling h) spelling, head_length h)

pub no_sum : (bytes : List ℕ) (h : StateHead) (spelling : List ℕ) → ((told : List ℕ) → bytes ≢ told ++ sum_of told) → ¬ IsFramed bytes h spelling
no_sum bytes h spelling none = λ f. none (told_bytes h spelling) f.parts

pub is_framed : (bytes told behind spelling : List ℕ) (h : StateHead) → bytes ≡ told ++ sum_of told → told ≡ first_line ++ behind → behind ≡ head_spelling h ++ spelling → FitsHead h → IsFramed bytes h spelling
is_framed bytes told behind spelling h is line head fits =
    let all : told ≡ told_bytes h spelling = line ∙ ap (λ (t : List ℕ). first_line ++ t) head in
    record { fits = fits; parts = is ∙ ap (λ (t : List ℕ). t ++ sum_of t) all }

-- bytes that are framed begin with the line
pub begins_so : (bytes : List ℕ) (h : StateHead) (spelling : List ℕ) → IsFramed bytes h spelling → bytes ≡ first_line ++ ((head_spelling h ++ spelling) ++ sum_of (told_bytes h spelling))
begins_so bytes h spelling f = f.parts ∙ append_assoc first_line (head_spelling h ++ spelling) (sum_of (told_bytes h spelling))

-- a spelling that has a fault, but for want of memory, is of no rows
fails_wants : (spelling : List ℕ) (rows : Rows) (why : RowsFault) → ((bytes : List ℕ) (fault : RowsFault) → AreRead bytes (Err fault) → SpellsNone bytes)
    → IsSpellingFault spelling why → Spells spelling rows → why ≡ OutOfMemory
fails_wants spelling rows Short none fails spells = absurd (none spelling Short fails rows spells)
fails_wants spelling rows Trailing none fails spells = absurd (none spelling Trailing fails rows spells)
fails_wants spelling rows NoChannel none fails spells = absurd (none spelling NoChannel fails rows spells)
fails_wants spelling rows NoFlow none fails spells = absurd (none spelling NoFlow fails rows spells)
fails_wants spelling rows NoRequest none fails spells = absurd (none spelling NoRequest fails rows spells)
fails_wants spelling rows (NotFirm ch) none fails spells = absurd (none spelling (NotFirm ch) fails rows spells)
fails_wants spelling rows OutOfMemory none fails spells = refl

pub wants : (bytes : List ℕ) (fault : StateFault) (h : StateHead) (rows : Rows) → ((bytes : List ℕ) (fault : RowsFault) → AreRead bytes (Err fault) → SpellsNone bytes)
    → IsStateFault bytes fault → IsState bytes h rows → IsWant fault
wants bytes NoState h rows none why (spelling, f, spells) = absurd (why _ (begins_so bytes h spelling f))
wants bytes NotWhole h rows none why (spelling, f, spells) = absurd (why.1 h spelling f)
wants bytes (NotRows fault) h rows none (g, other, framed, fails) (spelling, f, spells) =
    let same = frame_is_one bytes g h other spelling framed f in
    fails_wants spelling rows fault none (subst (λ (t : List ℕ). IsSpellingFault t fault) same.1 fails) spells
