-- What a key holds where it has no fault, and the other way round.
use Rattle.std.proofs.Common.{◌≡◌, ℕ, suc, ◌^◌, ◌<◌, ◌≤◌, ◌⊎◌, inl, inr, Bool, true, false, cond, if◌then◌else◌, ◌&&◌}
use Rattle.std.proofs.Common.{is_some, is_none, List, [], ◌∷◌, ◌++◌, Option, Some, None, pos, negsuc, bytes_eq, find}
use Rattle.std.proofs.Common.{filter_map, codes, refl, sym, ap, ◌∙◌, arith}
use Rattle.std.specs.List.{cons_option}
use Rattle.std.proofs.lemmas.Bool.{leb-true, le-leb}
use Rattle.std.proofs.lemmas.Slice.Eq.{bytes_eq-Decides}
use Rattle.toml.specs.Data.{Data, string, integer, float, boolean, datetime, array, table, get, at, as_str}
use Rattle.flow_state.specs.declared.channel.Phy.{Phy}
use Rattle.flow_state.specs.declared.channel.Phy.TheVariants.{Tdma, Advanced}
use Rattle.script_text.specs.Fields.{HasNode, HasNumber}
use Rattle.script_text.specs.CommandTable.{IsPair, HasPair, IsDefault, NamesPhy, HasPhy}
use Rattle.script_text.proofs.Callers.{two_items}
use Rattle.text_faults.specs.declared.kind.Kind.{Kind}
use Rattle.text_faults.specs.declared.kind.Group.{Group}
use Rattle.text_faults.specs.declared.kind.Group.TheVariants.{Phys}
use Rattle.text_faults.specs.declared.row.Key.{Key}
use Rattle.text_faults.specs.declared.row.Key.TheVariants as keys
use Rattle.text_faults.specs.declared.row.Wants.TheVariants as wants
use Rattle.text_faults.specs.declared.fault.Place.{Place}
use Rattle.text_faults.specs.Kinds.{kind_name, kinds_of, named}
use Rattle.text_faults.specs.Rows.{key_name}
use Rattle.text_faults.specs.Fits.{is_number, is_item, is_pair, is_one_of, is_name}
use Rattle.text_faults.specs.Faults.{fault_of, fault_at, named_in, named_by}

-- ---- lists without faults

-- two lists that give none give none each
pub both_empty : {X : Type 0} (xs ys : List X) → xs ++ ys ≡ [] → (xs ≡ []) × (ys ≡ [])
both_empty [] ys h = (refl, h)
both_empty (x ∷ xs) ys h = absurd (cc)

-- nothing comes of any item
abbrev pub NoneOf : {X Y : Type 0} → (X → Option Y) → List X → Type 0
NoneOf h [] = Unit {0}
NoneOf h (x ∷ xs) = (h x ≡ None) × NoneOf h xs

none_first : {Y : Type 0} (o : Option Y) (ys : List Y) → cons_option o ys ≡ [] → (o ≡ None) × (ys ≡ [])
none_first None ys h = (refl, h)
none_first (Some y) ys h = absurd (cc)

pub none_of : {X Y : Type 0} (h : X → Option Y) (xs : List X) → filter_map h xs ≡ [] → NoneOf h xs
none_of h [] e = tt
none_of h (x ∷ xs) e = let first = none_first (h x) (filter_map h xs) e in (first.0, none_of h xs first.1)

pub of_none : {X Y : Type 0} (h : X → Option Y) (xs : List X) → NoneOf h xs → filter_map h xs ≡ []
of_none h [] e = refl
of_none h (x ∷ xs) e = rw (e.0) (of_none h xs e.1)

-- ---- one key

-- a test that lets nothing through has said yes
pub if_none : {X : Type 0} (b : Bool) (x : X) → (if b then None else Some x) ≡ None → b ≡ true
if_none true x h = refl
if_none false x h = absurd (cc)

pub whole_number : (most : ℕ) (d : Data) → is_number most d ≡ true → (n : ℕ) × (d ≡ integer (pos n)) × (n ≤ most)
whole_number most (integer (pos n)) h = (n, refl, leb-true n most h)
whole_number most (integer (negsuc n)) h = absurd (cc)
whole_number most (string s) h = absurd (cc)
whole_number most (float x) h = absurd (cc)
whole_number most (boolean b) h = absurd (cc)
whole_number most (datetime t) h = absurd (cc)
whole_number most (array ds) h = absurd (cc)
whole_number most (table ms) h = absurd (cc)

held_whole : (place : Place) (kind : Kind) (key : Key) (most : ℕ) (o : Option Data) → fault_of place kind key (wants.Number most) o ≡ None → (n : ℕ) × (o ≡ Some (integer (pos n))) × (n ≤ most)
held_whole place kind key most None h = absurd (cc)
held_whole place kind key most (Some d) h =
    let (n, is, fits) = whole_number most d (if_none (is_number most d) _ h) in (n, ap Some is, fits)

-- a number of so many bits
pub number : (place : Place) (kind : Kind) (key : Key) (d : Data) (most bits : ℕ) → suc most ≡ 2 ^ bits → fault_at place kind d (key, wants.Number most) ≡ None → (n : ℕ) × HasNumber d (key_name key) bits n
number place kind key d most bits width h =
    let (n, is, fits) = held_whole place kind key most (get (key_name key) d) h in
    let below : n < suc most = omega arith in
    (n, record { held = is; fits = rw width at below })

pub no_number_fault : (place : Place) (kind : Kind) (key : Key) (d : Data) (most bits n : ℕ) → suc most ≡ 2 ^ bits → HasNumber d (key_name key) bits n → fault_at place kind d (key, wants.Number most) ≡ None
no_number_fault place kind key d most bits n width h =
    let below : n < suc most = rw width (h.fits) in
    let least : n ≤ most = omega arith in
    rw (h.held, le-leb n most least) refl

-- a node's number
pub node_number : (place : Place) (kind : Kind) (key : Key) (d : Data) → fault_at place kind d (key, wants.Number 4) ≡ None → (n : ℕ) × HasNode d (key_name key) n
node_number place kind key d h =
    let (n, is, fits) = held_whole place kind key 4 (get (key_name key) d) h in
    let node : n < 5 = omega arith in
    let byte : n < 256 = omega arith in
    (n, record { number = record { held = is; fits = byte }; node = node })

pub no_node_fault : (place : Place) (kind : Kind) (key : Key) (d : Data) (n : ℕ) → HasNode d (key_name key) n → fault_at place kind d (key, wants.Number 4) ≡ None
no_node_fault place kind key d n h =
    let node : n < 5 = h.node in
    let least : n ≤ 4 = omega arith in
    rw (h.number.held, le-leb n 4 least) refl

-- the name of a kind
pub is_one : (g : Group) (t : Option (List ℕ)) → is_one_of g t ≡ true → (k : Kind) × (named_by g t ≡ Some k)
is_one g None h = absurd (cc)
is_one g (Some t) h = some_named (named g t) h
  where
    some_named : (o : Option Kind) → is_some o ≡ true → (k : Kind) × (o ≡ Some k)
    some_named None h = absurd (cc)
    some_named (Some k) h = (k, refl)

pub name : (place : Place) (kind : Kind) (key : Key) (g : Group) (o : Option Data) → fault_of place kind key (wants.Name g) o ≡ None → (k : Kind) × (named_in g o ≡ Some k)
name place kind key g None h = absurd (cc)
name place kind key g (Some d) h = is_one g (as_str d) (if_none (is_name g d) _ h)

-- one of these kinds
abbrev pub IsOneOf : Kind → List Kind → Type 0
IsOneOf k [] = ⊥
IsOneOf k (x ∷ xs) = (k ≡ x) ⊎ IsOneOf k xs

first_named : (t : List ℕ) (x : Kind) (xs : List Kind) (k : Kind) (b : Bool) → bytes_eq (kind_name x) t ≡ b → (find (λ kind. bytes_eq (kind_name kind) t) xs ≡ Some k → (t ≡ kind_name k) × IsOneOf k xs)
    → cond b (Some x) (find (λ kind. bytes_eq (kind_name kind) t) xs) ≡ Some k → (t ≡ kind_name k) × IsOneOf k (x ∷ xs)
first_named t x xs k true same rest h = let is : x ≡ k = cc in (sym ((bytes_eq-Decides (kind_name x) t).0 same) ∙ ap kind_name is, inl (sym is))
first_named t x xs k false same rest h = let later = rest h in (later.0, inr later.1)

found_name : (t : List ℕ) (ks : List Kind) (k : Kind) → find (λ kind. bytes_eq (kind_name kind) t) ks ≡ Some k → (t ≡ kind_name k) × IsOneOf k ks
found_name t [] k h = absurd (cc)
found_name t (x ∷ xs) k h = first_named t x xs k (bytes_eq (kind_name x) t) refl (found_name t xs k) h

pub named_text : (g : Group) (o : Option Data) (k : Kind) → named_in g o ≡ Some k → (o ≡ Some (string (kind_name k))) × IsOneOf k (kinds_of g)
named_text g None k h = absurd (cc)
named_text g (Some (string t)) k h = let found = found_name t (kinds_of g) k h in (ap (λ s. Some (string s)) found.0, found.1)
named_text g (Some (integer z)) k h = absurd (cc)
named_text g (Some (float x)) k h = absurd (cc)
named_text g (Some (boolean b)) k h = absurd (cc)
named_text g (Some (datetime x)) k h = absurd (cc)
named_text g (Some (array ds)) k h = absurd (cc)
named_text g (Some (table ms)) k h = absurd (cc)

-- ---- keys that may be absent, pairs

-- a number of so many bits, or what stands for it
pub number_or : (place : Place) (kind : Kind) (key : Key) (d : Data) (most bits default : ℕ) → suc most ≡ 2 ^ bits → fault_at place kind d (key, wants.NumberOrNothing most) ≡ None
    → (n : ℕ) × (HasNumber d (key_name key) bits n ⊎ IsDefault d (key_name key) default n)
number_or place kind key d most bits default width h = held_number (get (key_name key) d) refl h
  where
    held_number : (o : Option Data) → get (key_name key) d ≡ o → fault_of place kind key (wants.NumberOrNothing most) o ≡ None → (n : ℕ) × (HasNumber d (key_name key) bits n ⊎ IsDefault d (key_name key) default n)
    held_number None is h = (default, inr (is, refl))
    held_number (Some x) is h =
        let (n, whole, fits) = whole_number most x (if_none (is_number most x) _ h) in
        let below : n < suc most = omega arith in
        (n, inl (record { held = is ∙ ap Some whole; fits = rw width at below }))

pub no_number_or_fault : (place : Place) (kind : Kind) (key : Key) (d : Data) (most bits default n : ℕ) → suc most ≡ 2 ^ bits → HasNumber d (key_name key) bits n ⊎ IsDefault d (key_name key) default n
    → fault_at place kind d (key, wants.NumberOrNothing most) ≡ None
no_number_or_fault place kind key d most bits default n width (inl has) =
    let below : n < suc most = rw width (has.fits) in
    let least : n ≤ most = omega arith in
    rw (has.held, le-leb n most least) refl
no_number_or_fault place kind key d most bits default n width (inr none) = rw (none.0) refl

-- a PHY by name
phy_of : (d : Data) → is_name Phys d ≡ true → (d ≡ string (codes "tdma")) ⊎ (d ≡ string (codes "advanced"))
phy_of d h =
    let (k, is) = is_one Phys (as_str d) h in
    let (text, one) = named_text Phys (Some d) k is in
    phy_text k one text
  where
    phy_text : (k : Kind) → IsOneOf k (kinds_of Phys) → Some d ≡ Some (string (kind_name k)) → (d ≡ string (codes "tdma")) ⊎ (d ≡ string (codes "advanced"))
    phy_text k (inl is) text = let t : Some d ≡ Some (string (codes "tdma")) = text ∙ ap (λ x. Some (string (kind_name x))) is in inl (cc)
    phy_text k (inr (inl is)) text = let t : Some d ≡ Some (string (codes "advanced")) = text ∙ ap (λ x. Some (string (kind_name x))) is in inr (cc)
    phy_text k (inr (inr none)) text = absurd none

named_phy : (d x : Data) → get (codes "phy") d ≡ Some x → (x ≡ string (codes "tdma")) ⊎ (x ≡ string (codes "advanced")) → (p : Phy) × NamesPhy d p
named_phy d x is (inl tdma) = (Tdma, is ∙ ap Some tdma)
named_phy d x is (inr advanced) = (Advanced, is ∙ ap Some advanced)

pub phy : (place : Place) (kind : Kind) (d : Data) → fault_at place kind d (keys.Phy, wants.Name Phys) ≡ None → (p : Phy) × NamesPhy d p
phy place kind d h = held_phy (get (codes "phy") d) refl h
  where
    held_phy : (o : Option Data) → get (codes "phy") d ≡ o → fault_of place kind keys.Phy (wants.Name Phys) o ≡ None → (p : Phy) × NamesPhy d p
    held_phy None is h = absurd (cc)
    held_phy (Some x) is h = named_phy d x is (phy_of x (if_none (is_name Phys x) _ h))

pub no_phy_fault : (place : Place) (kind : Kind) (d : Data) (p : Phy) → NamesPhy d p → fault_at place kind d (keys.Phy, wants.Name Phys) ≡ None
no_phy_fault place kind d Tdma text = rw text refl
no_phy_fault place kind d Advanced text = rw text refl

-- the same, TDMA where nothing names one
pub phy_or_tdma : (place : Place) (kind : Kind) (d : Data) → fault_at place kind d (keys.Phy, wants.NameOrNothing Phys) ≡ None → (p : Phy) × HasPhy d p
phy_or_tdma place kind d h = held_phy (get (codes "phy") d) refl h
  where
    held_phy : (o : Option Data) → get (codes "phy") d ≡ o → fault_of place kind keys.Phy (wants.NameOrNothing Phys) o ≡ None → (p : Phy) × HasPhy d p
    held_phy None is h = (Tdma, inr (is, refl))
    held_phy (Some x) is h = let (p, names) = named_phy d x is (phy_of x (if_none (is_name Phys x) _ h)) in (p, inl names)

pub no_phy_or_tdma_fault : (place : Place) (kind : Kind) (d : Data) (p : Phy) → HasPhy d p → fault_at place kind d (keys.Phy, wants.NameOrNothing Phys) ≡ None
no_phy_or_tdma_fault place kind d Tdma (inl text) = rw text refl
no_phy_or_tdma_fault place kind d Advanced (inl text) = rw text refl
no_phy_or_tdma_fault place kind d p (inr none) = rw (none.0) refl

-- two numbers of a byte each
pub both_true : (a b : Bool) → (a && b) ≡ true → (a ≡ true) × (b ≡ true)
both_true true b h = (refl, h)
both_true false b h = absurd (cc)

byte_item : (o : Option Data) → is_item o ≡ true → (n : ℕ) × (o ≡ Some (integer (pos n))) × (n < 2 ^ 8)
byte_item None h = absurd (cc)
byte_item (Some d) h = let (n, is, fits) = whole_number 255 d h in let below : n < 2 ^ 8 = omega arith in (n, ap Some is, below)

no_item : (o : Option Data) → is_none o ≡ true → o ≡ None
no_item None h = refl
no_item (Some d) h = absurd (cc)

pair_of : (d : Data) → is_pair d ≡ true → (p : ℕ × ℕ) × IsPair d p
pair_of d h =
    let (one, more) = both_true (is_item (at 0 d)) (is_item (at 1 d) && is_none (at 2 d)) h in
    let (two, none) = both_true (is_item (at 1 d)) (is_none (at 2 d)) more in
    let (a, first, a_fits) = byte_item (at 0 d) one in
    let (b, second, b_fits) = byte_item (at 1 d) two in
    ((a, b), record { items = two_items d _ _ first second (no_item (at 2 d) none); first_fits = a_fits; second_fits = b_fits })

pub pair : (place : Place) (kind : Kind) (key : Key) (d : Data) → fault_at place kind d (key, wants.Bytes) ≡ None → (p : ℕ × ℕ) × HasPair d (key_name key) p
pair place kind key d h = held_pair (get (key_name key) d) refl h
  where
    held_pair : (o : Option Data) → get (key_name key) d ≡ o → fault_of place kind key wants.Bytes o ≡ None → (p : ℕ × ℕ) × HasPair d (key_name key) p
    held_pair None is h = absurd (cc)
    held_pair (Some x) is h = let (p, two) = pair_of x (if_none (is_pair x) _ h) in (p, record { pair = x; held = is; is_pair = two })

pub no_pair_fault : (place : Place) (kind : Kind) (key : Key) (d : Data) (p : ℕ × ℕ) → HasPair d (key_name key) p → fault_at place kind d (key, wants.Bytes) ≡ None
no_pair_fault place kind key d p h =
    let first : p.0 ≤ 255 = omega (arith, h.is_pair.first_fits) in
    let second : p.1 ≤ 255 = omega (arith, h.is_pair.second_fits) in
    rw (h.held, h.is_pair.items, le-leb (p.0) 255 first, le-leb (p.1) 255 second) refl

-- the same, or what stands for them
pub pair_or : (place : Place) (kind : Kind) (key : Key) (d : Data) (default : ℕ × ℕ) → fault_at place kind d (key, wants.BytesOrNothing) ≡ None
    → (p : ℕ × ℕ) × (HasPair d (key_name key) p ⊎ IsDefault d (key_name key) default p)
pair_or place kind key d default h = held_pair (get (key_name key) d) refl h
  where
    held_pair : (o : Option Data) → get (key_name key) d ≡ o → fault_of place kind key wants.BytesOrNothing o ≡ None → (p : ℕ × ℕ) × (HasPair d (key_name key) p ⊎ IsDefault d (key_name key) default p)
    held_pair None is h = (default, inr (is, refl))
    held_pair (Some x) is h = let (p, two) = pair_of x (if_none (is_pair x) _ h) in (p, inl (record { pair = x; held = is; is_pair = two }))

pub no_pair_or_fault : (place : Place) (kind : Kind) (key : Key) (d : Data) (default p : ℕ × ℕ) → HasPair d (key_name key) p ⊎ IsDefault d (key_name key) default p
    → fault_at place kind d (key, wants.BytesOrNothing) ≡ None
no_pair_or_fault place kind key d default p (inl has) =
    let first : p.0 ≤ 255 = omega (arith, has.is_pair.first_fits) in
    let second : p.1 ≤ 255 = omega (arith, has.is_pair.second_fits) in
    rw (has.held, has.is_pair.items, le-leb (p.0) 255 first, le-leb (p.1) 255 second) refl
no_pair_or_fault place kind key d default p (inr none) = rw (none.0) refl
