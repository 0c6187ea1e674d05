-- A field that is read is the field that was written, and what was written is read again.
use Rattle.std.proofs.Common.{◌≡◌, ℕ, suc, ◌+◌, ◌%◌, ◌^◌, ◌<◌, ◌≤◌, ◌&&◌, ◌==◌, Bool, true, false, cond, ltb, List, []}
use Rattle.std.proofs.Common.{◌∷◌, ◌++◌, length, take, drop, Ok, Err, nat_le, nat_lt, refl, sym, ap, subst, ◌∙◌}
use Rattle.std.proofs.Common.{append_assoc, arith, inl, inr}
use Rattle.std.specs.Int.{Width, w64, byte_len, from_be_bytes, to_be_bytes}
use Rattle.std.proofs.lemmas.Bool.{eqb-true, cases_lt, ltb-false, le-ltb, lt-ltb, ltb-true, leb-true, le-leb, and_parts}
use Rattle.std.proofs.lemmas.List.{take_at, drop_at, take-append-drop, length-append, length-take, get_or-drop}
use Rattle.std.proofs.lemmas.List.{get_or-take, get_or_past}
use Rattle.std.proofs.lemmas.Nat.{be_bytes_8, from_be_bytes-to_be_bytes_8}
use Rattle.ballots.specs.Ballots.{IsBallot}
use Rattle.letter_bytes.specs.declared.fault.LetterFault.{LetterFault}
use Rattle.letter_bytes.specs.declared.fault.LetterFault.TheVariants.{Short, NoNote, NoNode, NoBallot}
use Rattle.letter_bytes.specs.Spelling.{IsCounted, kind_byte, number, value_spelling}
use Rattle.letter_bytes.specs.declared.kind.Kind.{Kind}
use Rattle.letter_bytes.specs.declared.kind.Kind.TheVariants as kinds
use Rattle.letter_bytes.specs.Reading.{◌>>=◌, AreBytes, Read, byte_at, number_at, kind_at, kind_by, node_at, node_by}
use Rattle.letter_bytes.specs.Reading.{ballot_at, ballot_by, is_ballot, value_at}

AreBytes-drop : (n : ℕ) (bytes : List ℕ) → AreBytes bytes → AreBytes (drop n bytes)
AreBytes-drop n bytes h i = rw get_or-drop (h (n + i))

AreBytes-take : (n : ℕ) (bytes : List ℕ) → AreBytes bytes → AreBytes (take n bytes)
AreBytes-take n bytes h i =
    elim (cases_lt i n) [
      | inl lt ↦ rw (get_or-take n bytes i 0 lt) (h i)
      | inr le ↦ rw (get_or_past (take n bytes) i 0 (omega (arith, length-take n bytes))) (omega arith)
    ]

-- the value of a step that did not fail
pub bind_ok : {A B : Type 0} (r : Read A) (f : A → Read B) (y : B) → (r >>= f) ≡ Ok y → (x : A) × (r ≡ Ok x) × (f x ≡ Ok y)
bind_ok (Ok x) f y e = (x, refl, e)
bind_ok (Err d) f y e = absurd cc

-- a test that did not fail
guard_ok : {A : Type 0} (b : Bool) (d : LetterFault) (x y : A) → cond b (Err d) (Ok x) ≡ Ok y → (b ≡ false) × (x ≡ y)
guard_ok true d x y e = absurd cc
guard_ok false d x y e = (refl, cc)

pub guard_met : {A : Type 0} (b : Bool) (d : LetterFault) (x y : A) → cond b (Ok x) (Err d) ≡ Ok y → (b ≡ true) × (x ≡ y)
guard_met true d x y e = (refl, cc)
guard_met false d x y e = absurd cc

abbrev done : {A : Type 0} → A → Read A
done x = Ok x

pub ok_is : {A : Type 0} (x y : A) → done x ≡ done y → x ≡ y
ok_is x y e = cc

-- bytes that begin with a text, behind which are the rest
pub record Begins (bytes text rest : List ℕ) : Type 0 where
  pub parts : bytes ≡ text ++ rest
  pub rest_fits : AreBytes rest

pub Begins-then : (a x b y c : List ℕ) → Begins a x b → Begins b y c → Begins a (x ++ y) c
Begins-then a x b y c p q = record { parts = p.parts ∙ ap (λ (t : List ℕ). x ++ t) q.parts ∙ sym (append_assoc x y c); rest_fits = q.rest_fits }

-- ---- bytes

pub byte_begins : (bytes : List ℕ) (b : ℕ) (rest : List ℕ) → AreBytes bytes → byte_at bytes ≡ Ok (b, rest) → Begins bytes (b ∷ []) rest
byte_begins [] b rest fits e = absurd cc
byte_begins (c ∷ cs) b rest fits e = subst (λ (x : ℕ × List ℕ). Begins (c ∷ cs) (x.0 ∷ []) x.1) (ok_is (c, cs) (b, rest) e) (record { parts = refl; rest_fits = λ i. fits (suc i) })

-- ---- numbers

-- a width whose numbers are written in so many bytes and read again
record IsWide (w : Width) (limit : ℕ) : Type 0 where
  len : (n : ℕ) → length (to_be_bytes w n) ≡ byte_len w
  back : (bytes : List ℕ) → length bytes ≡ byte_len w → AreBytes bytes → to_be_bytes w (from_be_bytes w bytes) ≡ bytes
  again : (n : ℕ) → n < limit → from_be_bytes w (to_be_bytes w n) ≡ n
  below : (bytes : List ℕ) → AreBytes bytes → from_be_bytes w bytes < limit

wide64 : IsWide w64 (2 ^ 64)
wide64 = record {
  len = λ n. refl;
  back = λ bytes len fits. be_bytes_8 bytes _ len fits refl;
  again = λ n lt. from_be_bytes-to_be_bytes_8 n lt;
  below = λ bytes fits. omega (arith, fits 0, fits 1, fits 2, fits 3, fits 4, fits 5, fits 6, fits 7);
}

abbrev number_in : Width → List ℕ → Read (ℕ × List ℕ)
number_in w bytes = cond (ltb (length bytes) (byte_len w)) (Err Short) (Ok (from_be_bytes w (take (byte_len w) bytes), drop (byte_len w) bytes))

wide_begins : (w : Width) (limit : ℕ) (wide : IsWide w limit) (bytes : List ℕ) (n : ℕ) (rest : List ℕ) → AreBytes bytes → number_in w bytes ≡ Ok (n, rest) → Begins bytes (to_be_bytes w n) rest × (n < limit)
wide_begins w limit wide bytes n rest fits e =
    let g = guard_ok (ltb (length bytes) (byte_len w)) Short (from_be_bytes w (take (byte_len w) bytes), drop (byte_len w) bytes) (n, rest) e in
    let long : byte_len w ≤ length bytes = ltb-false _ _ g.0 in
    let n-is : from_be_bytes w (take (byte_len w) bytes) ≡ n = ap (λ (p : ℕ × List ℕ). p.0) g.1 in
    let rest-is : drop (byte_len w) bytes ≡ rest = ap (λ (p : ℕ × List ℕ). p.1) g.1 in
    let front : to_be_bytes w n ≡ take (byte_len w) bytes = rw (← n-is) (wide.back (take (byte_len w) bytes) (omega (arith, length-take (byte_len w) bytes)) (AreBytes-take (byte_len w) bytes fits)) in
    (record { parts = rw (front, ← rest-is) (sym (take-append-drop (byte_len w) bytes)); rest_fits = rw (← rest-is) (AreBytes-drop (byte_len w) bytes fits) }, rw (← n-is) (wide.below (take (byte_len w) bytes) (AreBytes-take (byte_len w) bytes fits)))

wide_again : (w : Width) (limit : ℕ) (wide : IsWide w limit) (n : ℕ) (rest : List ℕ) → n < limit → number_in w (to_be_bytes w n ++ rest) ≡ Ok (n, rest)
wide_again w limit wide n rest lt =
    let len = wide.len n in
    let long : ltb (length (to_be_bytes w n ++ rest)) (byte_len w) ≡ false = le-ltb _ _ (omega (arith, length-append (to_be_bytes w n) rest)) in
    rw (long, take_at (to_be_bytes w n) rest (byte_len w) len, drop_at (to_be_bytes w n) rest (byte_len w) len, wide.again n lt) refl

pub number_begins : (bytes : List ℕ) (n : ℕ) (rest : List ℕ) → AreBytes bytes → number_at bytes ≡ Ok (n, rest) → Begins bytes (number n) rest × (n < 2 ^ 64)
unfolding number
number_begins bytes n rest fits e = wide_begins w64 (2 ^ 64) wide64 bytes n rest fits e

pub number_again : (n : ℕ) (rest : List ℕ) → n < 2 ^ 64 → number_at (number n ++ rest) ≡ Ok (n, rest)
unfolding number
number_again n rest lt = wide_again w64 (2 ^ 64) wide64 n rest lt

-- ---- kinds, nodes and ballots

by_test : (b n : ℕ) (k kind : Kind) (rest : Read Kind) (t : Bool) → (b == n) ≡ t → n ≡ kind_byte k → (rest ≡ Ok kind → b ≡ kind_byte kind) → cond t (Ok k) rest ≡ Ok kind → b ≡ kind_byte kind
by_test b n k kind rest true is byte other e = eqb-true b n is ∙ byte ∙ ap kind_byte (ok_is k kind e)
by_test b n k kind rest false is byte other e = other e

kind_met : (b : ℕ) (kind : Kind) → kind_by b ≡ Ok kind → b ≡ kind_byte kind
kind_met b kind =
    by_test b 1 kinds.Prepare kind _ (b == 1) refl refl
    (by_test b 2 kinds.Promise kind _ (b == 2) refl refl
    (by_test b 3 kinds.Accept kind _ (b == 3) refl refl
    (by_test b 4 kinds.Voted kind _ (b == 4) refl refl
    (by_test b 5 kinds.Higher kind _ (b == 5) refl refl
    (by_test b 6 kinds.Known kind (Err NoNote) (b == 6) refl refl (λ e. absurd cc))))))

kind_by_byte : (kind : Kind) → kind_by (kind_byte kind) ≡ Ok kind
kind_by_byte kinds.Prepare = refl
kind_by_byte kinds.Promise = refl
kind_by_byte kinds.Accept = refl
kind_by_byte kinds.Voted = refl
kind_by_byte kinds.Higher = refl
kind_by_byte kinds.Known = refl

node_met : (n m : ℕ) → node_by n ≡ Ok m → (n ≡ m) × (m < 5)
node_met n m e =
    let g = guard_met (nat_lt n 5) NoNode n m e in
    (g.1, subst (λ (k : ℕ). k < 5) g.1 (ltb-true n 5 g.0))

node_by_number : (n : ℕ) → n < 5 → node_by n ≡ Ok n
node_by_number n lt = ap (λ (b : Bool). cond b (Ok n) (Err NoNode)) (lt-ltb n 5 lt)

ballot_met : (n b : ℕ) → ballot_by n ≡ Ok b → (n ≡ b) × IsBallot b
ballot_met n b e =
    let g = guard_met (is_ballot n) NoBallot n b e in
    let parts = and_parts (nat_le 8 n) (nat_lt n (2 ^ 43) && nat_lt (n % 8) 5) g.0 in
    let others = and_parts (nat_lt n (2 ^ 43)) (nat_lt (n % 8) 5) parts.1 in
    let is : IsBallot n = (ltb-true _ _ others.1, (leb-true _ _ parts.0, ltb-true _ _ others.0, refl)) in
    (g.1, subst IsBallot g.1 is)

ballot_by_number : (b : ℕ) → IsBallot b → ballot_by b ≡ Ok b
ballot_by_number b is =
    let yes : is_ballot b ≡ true = rw (le-leb 8 b is.1.0, lt-ltb b (2 ^ 43) is.1.1, lt-ltb (b % 8) 5 is.0) refl in
    ap (λ (t : Bool). cond t (Ok b) (Err NoBallot)) yes

pub kind_begins : (bytes : List ℕ) (x : Kind × List ℕ) → AreBytes bytes → kind_at bytes ≡ Ok x → Begins bytes (kind_byte x.0 ∷ []) x.1
kind_begins bytes x fits e =
    let byte = bind_ok (byte_at bytes) (λ b. kind_by b.0 >>= λ k. Ok (k, b.1)) x e in
    let kind = bind_ok (kind_by byte.0.0) (λ k. Ok (k, byte.0.1)) x byte.2 in
    let begins = byte_begins bytes byte.0.0 byte.0.1 fits byte.1 in
    let same : Begins bytes (kind_byte kind.0 ∷ []) byte.0.1 = subst (λ (b : ℕ). Begins bytes (b ∷ []) byte.0.1) (kind_met byte.0.0 kind.0 kind.1) begins in
    subst (λ (y : Kind × List ℕ). Begins bytes (kind_byte y.0 ∷ []) y.1) (ok_is (kind.0, byte.0.1) x kind.2) same

pub kind_again : (kind : Kind) (rest : List ℕ) → kind_at (kind_byte kind ∷ rest) ≡ Ok (kind, rest)
kind_again kind rest = ap (λ (r : Read Kind). r >>= λ k. Ok (k, rest)) (kind_by_byte kind)

pub node_begins : (bytes : List ℕ) (x : ℕ × List ℕ) → AreBytes bytes → node_at bytes ≡ Ok x → Begins bytes (x.0 ∷ []) x.1 × (x.0 < 5)
node_begins bytes x fits e =
    let byte = bind_ok (byte_at bytes) (λ b. node_by b.0 >>= λ n. Ok (n, b.1)) x e in
    let node = bind_ok (node_by byte.0.0) (λ n. Ok (n, byte.0.1)) x byte.2 in
    let met = node_met byte.0.0 node.0 node.1 in
    let begins = byte_begins bytes byte.0.0 byte.0.1 fits byte.1 in
    let same : Begins bytes (node.0 ∷ []) byte.0.1 = subst (λ (b : ℕ). Begins bytes (b ∷ []) byte.0.1) met.0 begins in
    subst (λ (y : ℕ × List ℕ). Begins bytes (y.0 ∷ []) y.1 × (y.0 < 5)) (ok_is (node.0, byte.0.1) x node.2) (same, met.1)

pub node_again : (n : ℕ) (rest : List ℕ) → n < 5 → node_at (n ∷ rest) ≡ Ok (n, rest)
node_again n rest lt = ap (λ (r : Read ℕ). r >>= λ m. Ok (m, rest)) (node_by_number n lt)

pub ballot_begins : (bytes : List ℕ) (x : ℕ × List ℕ) → AreBytes bytes → ballot_at bytes ≡ Ok x → Begins bytes (number x.0) x.1 × IsBallot x.0
ballot_begins bytes x fits e =
    let n = bind_ok (number_at bytes) (λ n. ballot_by n.0 >>= λ b. Ok (b, n.1)) x e in
    let ballot = bind_ok (ballot_by n.0.0) (λ b. Ok (b, n.0.1)) x n.2 in
    let met = ballot_met n.0.0 ballot.0 ballot.1 in
    let begins = number_begins bytes n.0.0 n.0.1 fits n.1 in
    let same : Begins bytes (number ballot.0) n.0.1 = subst (λ (b : ℕ). Begins bytes (number b) n.0.1) met.0 begins.0 in
    subst (λ (y : ℕ × List ℕ). Begins bytes (number y.0) y.1 × IsBallot y.0) (ok_is (ballot.0, n.0.1) x ballot.2) (same, met.1)

pub ballot_again : (b : ℕ) (rest : List ℕ) → IsBallot b → ballot_at (number b ++ rest) ≡ Ok (b, rest)
ballot_again b rest is =
    ap (λ (r : Read (ℕ × List ℕ)). r >>= λ n. ballot_by n.0 >>= λ m. Ok (m, n.1)) (number_again b rest (omega (arith, is.1.1)))
    ∙ ap (λ (r : Read ℕ). r >>= λ m. Ok (m, rest)) (ballot_by_number b is)

-- ---- values

pub value_begins : (bytes v rest : List ℕ) → AreBytes bytes → value_at bytes ≡ Ok (v, rest) → Begins bytes (value_spelling v) rest × IsCounted v
unfolding value_at
value_begins bytes v rest fits e =
    let b = bind_ok (number_at bytes) (λ n. cond (ltb (length n.1) n.0) (Err Short) (Ok (take n.0 n.1, drop n.0 n.1))) (v, rest) e in
    let n = b.0 in
    let t = number_begins bytes n.0 n.1 fits b.1 in
    let g = guard_ok (ltb (length n.1) n.0) Short (take n.0 n.1, drop n.0 n.1) (v, rest) b.2 in
    let long : n.0 ≤ length n.1 = ltb-false _ _ g.0 in
    let len : length (take n.0 n.1) ≡ n.0 = omega (arith, length-take n.0 n.1) in
    let second : Begins n.1 (take n.0 n.1) (drop n.0 n.1) = record { parts = sym (take-append-drop n.0 n.1); rest_fits = AreBytes-drop n.0 n.1 t.0.rest_fits } in
    let both = Begins-then bytes (number n.0) n.1 (take n.0 n.1) (drop n.0 n.1) t.0 second in
    let whole : Begins bytes (value_spelling (take n.0 n.1)) (drop n.0 n.1) = subst (λ (k : ℕ). Begins bytes (number k ++ take n.0 n.1) (drop n.0 n.1)) (sym len) both in
    subst (λ (p : List ℕ × List ℕ). Begins bytes (value_spelling p.0) p.1 × IsCounted p.0) g.1 (whole, omega (arith, t.1))

pub value_again : (v rest : List ℕ) → IsCounted v → value_at (value_spelling v ++ rest) ≡ Ok (v, rest)
unfolding value_at number
value_again v rest lt =
    let long : ltb (length (v ++ rest)) (length v) ≡ false = le-ltb _ _ (omega (arith, length-append v rest)) in
    rw (number_again (length v) (v ++ rest) lt, long, take_at v rest (length v) refl, drop_at v rest (length v) refl) refl
