-- What an event excepts, where its tables have no fault, and the other way round; and how many rounds it has.
use Rattle.std.proofs.Common.{◌≡◌, ◌≢◌, ℕ, zero, suc, ◌<◌, ◌≤◌, ◌^◌, inl, inr, Bool, true, false, not, ◌||◌, nat_le}
use Rattle.std.proofs.Common.{is_some, if◌then◌else◌, List, [], ◌∷◌, Option, Some, None, codes, refl, sym}
use Rattle.std.proofs.Common.{ap, ◌∙◌, subst, arith}
use Rattle.std.specs.List.{AllZip}
use Rattle.std.proofs.lemmas.Bool.{le-leb}
use Rattle.toml.specs.Data.{Data, string, integer, float, boolean, datetime, array, table, no_items, item, get}
use Rattle.script_steps.specs.declared.name.Name.{Name}
use Rattle.script_text.specs.EntryTable.{HasRounds, HoldsNames, IsExcept}
use Rattle.script_text.specs.EntryTable.{says_any as name_says_any}
use Rattle.script_text.specs.Fields.{HasNumber}
use Rattle.script_text.specs.Items.{list_of}
use Rattle.script_text.specs.StepTable.{HasParts, MayHave}
use Rattle.text_faults.specs.declared.kind.Kind.{Kind}
use Rattle.text_faults.specs.declared.kind.Kind.TheVariants as kinds
use Rattle.text_faults.specs.declared.row.Key.TheVariants as keys
use Rattle.text_faults.specs.declared.row.Wants.TheVariants as wants
use Rattle.text_faults.specs.declared.fault.Place.{Place}
use Rattle.text_faults.specs.declared.fault.Place.TheVariants as places
use Rattle.text_faults.specs.Rows.{rows_of}
use Rattle.text_faults.specs.Fits.{is_number, is_rounds}
use Rattle.text_faults.specs.Items.{items_in}
use Rattle.text_faults.specs.Faults.{fault_of, fault_at, key_faults, except_faults, except_kind, numbered, says_any}
use Rattle.text_faults.proofs.Items.{all_mean, none_faulted}
use Rattle.text_faults.proofs.Keys.{NoneOf, both_true, if_none, of_none, whole_number}
use Rattle.text_faults.proofs.Letters.{no_node_part_fault, no_note_part_fault, no_number_part_fault}
use Rattle.text_faults.proofs.Letters.{node_part, note_part}
use Rattle.text_faults.proofs.Letters.{number_part, whose}
use Rattle.text_faults.proofs.Spelled.{kept_keys}

-- ---- one table

parts : (place : Place) (kind : Kind) (d : Data) → NoneOf (fault_at place kind d) (rows_of kinds.Excepted) → (name : Name) × HasParts d name × (name.again ≡ false)
parts place kind d h =
    let (from, a) = node_part place kind keys.From d h.0 in
    let (to, b) = node_part place kind keys.To d h.1.0 in
    let (note, c) = note_part place kind d h.1.1.0 in
    let (ballot, e) = number_part place kind keys.Ballot d 18446744073709551615 64 refl h.1.1.1.0 in
    let (at, f) = number_part place kind keys.Place d 18446744073709551615 64 refl h.1.1.1.1.0 in (
      record { from = from; to = to; kind = note; ballot = ballot; place = at; again = false },
      record { from = a; to = b; kind = c; ballot = e; place = f },
      refl,
    )

no_part_faults : (place : Place) (kind : Kind) (d : Data) (name : Name) → HasParts d name → NoneOf (fault_at place kind d) (rows_of kinds.Excepted)
no_part_faults place kind d name h = (
  no_node_part_fault place kind keys.From d name.from h.from,
  (
    no_node_part_fault place kind keys.To d name.to h.to,
    (
      no_note_part_fault place kind d name.kind h.kind,
      (
        no_number_part_fault place kind keys.Ballot d 18446744073709551615 64 name.ballot refl h.ballot,
        (no_number_part_fault place kind keys.Place d 18446744073709551615 64 name.place refl h.place, tt),
      ),
    ),
  ),
)

number_there : (d : Data) (key : List ℕ) (o : Option ℕ) → MayHave (HasNumber d key 64) d key o → is_some (get key d) ≡ is_some o
number_there d key None h = ap is_some h
number_there d key (Some n) h = ap is_some h.held

either : (a b c e f : Bool) → ((a || (b || c)) || (e || f)) ≡ (a || (b || (c || (e || f))))
either true b c e f = refl
either false true c e f = refl
either false false true e f = refl
either false false false e f = refl

any : (d : Data) (name : Name) → HasParts d name → says_any d ≡ name_says_any name
any d name h =
    ap (λ b. b || (is_some (get (codes "ballot") d) || is_some (get (codes "place") d))) (whose d name h)
    ∙ ap (λ b. (is_some name.from || (is_some name.to || is_some name.kind)) || (b || is_some (get (codes "place") d))) (number_there d (codes "ballot") name.ballot h.ballot)
    ∙ ap (λ b. (is_some name.from || (is_some name.to || is_some name.kind)) || (is_some name.ballot || b)) (number_there d (codes "place") name.place h.place)
    ∙ either (is_some name.from) (is_some name.to) (is_some name.kind) (is_some name.ballot) (is_some name.place)

-- a key that is wanted where no key says anything is always a fault
bound : (place : Place) (kind : Kind) (o : Option Data) → fault_of place kind keys.To wants.Bound o ≡ None → ⊥
bound place kind None h = cc
bound place kind (Some d) h = cc

excepted : (n k : ℕ) (d : Data) → except_faults n k d ≡ [] → (name : Name) × IsExcept d name
excepted n k d none = by_any (says_any d) refl none
  where
    by_any : (b : Bool) → says_any d ≡ b → key_faults (places.Excepted n k) kinds.Excepted (if b then kinds.Excepted else kinds.Boundless) d ≡ [] → (name : Name) × IsExcept d name
    by_any true is none =
        let (name, has, once) = parts (places.Excepted n k) kinds.Excepted d (kept_keys (places.Excepted n k) kinds.Excepted kinds.Excepted d none) in
        (name, record { parts = has; once = once; says = sym (any d name has) ∙ is })
    by_any false is none = absurd (bound (places.Excepted n k) kinds.Excepted (get (codes "to") d) (kept_keys (places.Excepted n k) kinds.Excepted kinds.Boundless d none).0)

no_except_fault : (n k : ℕ) (d : Data) (name : Name) → IsExcept d name → except_faults n k d ≡ []
no_except_fault n k d name h =
    let place : Place = places.Excepted n k in
    let is : except_kind d ≡ kinds.Excepted = ap (λ b. if b then kinds.Excepted else kinds.Boundless) (any d name h.parts ∙ h.says) in
    subst (λ kind. key_faults place kinds.Excepted kind d ≡ []) (sym is) (of_none (fault_at place kinds.Excepted d) (rows_of kinds.Excepted) (no_part_faults place kinds.Excepted d name h.parts))

-- ---- all tables

some : (d : Data) (ds : List Data) (names : List Name) → AllZip IsExcept (d ∷ ds) names → names ≢ []
some d ds [] all = absurd all
some d ds (name ∷ names) all = λ is. cc

pub excepts : (n : ℕ) (place : Place) (kind : Kind) (o : Option Data) → fault_of place kind keys.Except wants.Excepts o ≡ None → numbered (except_faults n) 0 (items_in o) ≡ [] → (names : List Name) × HoldsNames o names
excepts n place kind None h none = ([], refl)
excepts n place kind (Some (array (item d ds))) h none =
    let (names, all) = all_mean IsExcept (except_faults n) (excepted n) 0 (d ∷ list_of ds) none in
    (names, (some d (list_of ds) names all, all))
excepts n place kind (Some (array no_items)) h none = absurd (cc)
excepts n place kind (Some (string s)) h none = absurd (cc)
excepts n place kind (Some (integer z)) h none = absurd (cc)
excepts n place kind (Some (float x)) h none = absurd (cc)
excepts n place kind (Some (boolean b)) h none = absurd (cc)
excepts n place kind (Some (datetime t)) h none = absurd (cc)
excepts n place kind (Some (table ms)) h none = absurd (cc)

none_there : (names : List Name) → AllZip IsExcept [] names → names ≡ []
none_there [] all = refl
none_there (name ∷ names) all = absurd all

pub no_excepts_fault : (n : ℕ) (place : Place) (kind : Kind) (o : Option Data) (names : List Name) → HoldsNames o names
    → (fault_of place kind keys.Except wants.Excepts o ≡ None) × (numbered (except_faults n) 0 (items_in o) ≡ [])
no_excepts_fault n place kind None names h = (refl, refl)
no_excepts_fault n place kind (Some (array (item d ds))) names (more, all) = (refl, none_faulted IsExcept (except_faults n) (no_except_fault n) 0 (d ∷ list_of ds) names all)
no_excepts_fault n place kind (Some (array no_items)) names (more, all) = absurd (more (none_there names all))
no_excepts_fault n place kind (Some (string s)) names (more, all) = absurd all
no_excepts_fault n place kind (Some (integer z)) names (more, all) = absurd all
no_excepts_fault n place kind (Some (float x)) names (more, all) = absurd all
no_excepts_fault n place kind (Some (boolean b)) names (more, all) = absurd all
no_excepts_fault n place kind (Some (datetime t)) names (more, all) = absurd all
no_excepts_fault n place kind (Some (table ms)) names (more, all) = absurd all

-- ---- rounds

positive : (n : ℕ) → not (nat_le n 0) ≡ true → 1 ≤ n
positive zero h = absurd (cc)
positive (suc n) h = omega arith

not_zero : (n : ℕ) → 1 ≤ n → nat_le n 0 ≡ false
not_zero zero h = let no : ⊥ = omega (arith, h) in absurd no
not_zero (suc n) h = grind arith

pub rounds : (place : Place) (kind : Kind) (d : Data) → fault_at place kind d (keys.Rounds, wants.Rounds) ≡ None → (r : ℕ) × HasRounds d r
rounds place kind d h = held (get (codes "rounds") d) refl h
  where
    held : (o : Option Data) → get (codes "rounds") d ≡ o → fault_of place kind keys.Rounds wants.Rounds o ≡ None → (r : ℕ) × HasRounds d r
    held None is h = (1, inr (is, refl))
    held (Some x) is h =
        let (most, least) = both_true (is_number 4 x) (not (is_number 0 x)) (if_none (is_rounds x) _ h) in
        let (n, whole, fits) = whole_number 4 x most in
        let some : 1 ≤ n = positive n (rw whole at least) in
        let below : n < 2 ^ 64 = omega arith in
        (n, inl (record { number = record { held = is ∙ ap Some whole; fits = below }; least = some; most = fits }))

pub no_rounds_fault : (place : Place) (kind : Kind) (d : Data) (r : ℕ) → HasRounds d r → fault_at place kind d (keys.Rounds, wants.Rounds) ≡ None
no_rounds_fault place kind d r (inl has) = rw (has.number.held, le-leb r 4 has.most, not_zero r has.least) refl
no_rounds_fault place kind d r (inr none) = rw (none.0) refl
