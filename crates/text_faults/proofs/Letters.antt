-- How a delivery asks for its letter, where its keys have no fault, and the other way round.
use Rattle.std.proofs.Common.{◌≡◌, ℕ, suc, ◌^◌, ◌<◌, ◌≤◌, ◌⊎◌, inl, inr, Bool, true, false, is_some, List, [], Option}
use Rattle.std.proofs.Common.{Some, None, codes, refl, sym, ap, ◌∙◌, subst, arith}
use Rattle.std.proofs.lemmas.Bool.{le-leb}
use Rattle.toml.specs.Data.{Data, string, integer, float, boolean, datetime, array, table, get, as_bool, as_str}
use Rattle.script_steps.specs.declared.name.Kind.{Kind as Word}
use Rattle.script_steps.specs.declared.name.Kind.TheVariants as words
use Rattle.script_steps.specs.declared.name.Name.{Name}
use Rattle.script_text.specs.Fields.{HasNode, HasNumber}
use Rattle.script_text.specs.StepTable.{HasAgain, HasFields, HasKind, HasName, HasParts, MayHave}
use Rattle.script_text.specs.StepTable.{says_whose as name_says_whose}
use Rattle.text_faults.specs.declared.kind.Kind.{Kind}
use Rattle.text_faults.specs.declared.kind.Kind.TheVariants as kinds
use Rattle.text_faults.specs.declared.kind.Group.TheVariants.{Notes}
use Rattle.text_faults.specs.declared.row.Key.{Key}
use Rattle.text_faults.specs.declared.row.Key.TheVariants as keys
use Rattle.text_faults.specs.declared.row.Wants.TheVariants as wants
use Rattle.text_faults.specs.declared.fault.Place.{Place}
use Rattle.text_faults.specs.Kinds.{kind_name, kinds_of}
use Rattle.text_faults.specs.Rows.{key_name, rows_of}
use Rattle.text_faults.specs.Fits.{is_number, is_name}
use Rattle.text_faults.specs.Faults.{fault_of, fault_at, key_faults, letter_kind, says_whose}
use Rattle.text_faults.proofs.Keys.{NoneOf, IsOneOf, if_none, is_one, named_text, no_number_fault, number, of_none}
use Rattle.text_faults.proofs.Keys.{whole_number}
use Rattle.text_faults.proofs.Spelled.{kept_keys}

-- ---- parts of a name, each under its key

pub node_part : (place : Place) (kind : Kind) (key : Key) (d : Data) → fault_at place kind d (key, wants.NumberOrNothing 4) ≡ None
    → (o : Option ℕ) × MayHave (HasNode d (key_name key)) d (key_name key) o
node_part place kind key d h = held_node (get (key_name key) d) refl h
  where
    held_node : (o : Option Data) → get (key_name key) d ≡ o → fault_of place kind key (wants.NumberOrNothing 4) o ≡ None → (n : Option ℕ) × MayHave (HasNode d (key_name key)) d (key_name key) n
    held_node None is h = (None, is)
    held_node (Some x) is h =
        let (n, whole, fits) = whole_number 4 x (if_none (is_number 4 x) _ h) in
        let node : n < 5 = omega arith in
        let byte : n < 256 = omega arith in
        (Some n, record { number = record { held = is ∙ ap Some whole; fits = byte }; node = node })

pub no_node_part_fault : (place : Place) (kind : Kind) (key : Key) (d : Data) (o : Option ℕ) → MayHave (HasNode d (key_name key)) d (key_name key) o
    → fault_at place kind d (key, wants.NumberOrNothing 4) ≡ None
no_node_part_fault place kind key d None h = rw h refl
no_node_part_fault place kind key d (Some n) h =
    let node : n < 5 = h.node in
    let least : n ≤ 4 = omega arith in
    rw (h.number.held, le-leb n 4 least) refl

pub number_part : (place : Place) (kind : Kind) (key : Key) (d : Data) (most bits : ℕ) → suc most ≡ 2 ^ bits → fault_at place kind d (key, wants.NumberOrNothing most) ≡ None
    → (o : Option ℕ) × MayHave (λ n. HasNumber d (key_name key) bits n) d (key_name key) o
number_part place kind key d most bits width h = held_number (get (key_name key) d) refl h
  where
    held_number : (o : Option Data) → get (key_name key) d ≡ o → fault_of place kind key (wants.NumberOrNothing most) o ≡ None → (n : Option ℕ) × MayHave (λ n. HasNumber d (key_name key) bits n) d (key_name key) n
    held_number None is h = (None, is)
    held_number (Some x) is h =
        let (n, whole, fits) = whole_number most x (if_none (is_number most x) _ h) in
        let below : n < suc most = omega arith in
        (Some n, record { held = is ∙ ap Some whole; fits = rw width at below })

pub no_number_part_fault : (place : Place) (kind : Kind) (key : Key) (d : Data) (most bits : ℕ) (o : Option ℕ) → suc most ≡ 2 ^ bits
    → MayHave (λ n. HasNumber d (key_name key) bits n) d (key_name key) o → fault_at place kind d (key, wants.NumberOrNothing most) ≡ None
no_number_part_fault place kind key d most bits None width h = rw h refl
no_number_part_fault place kind key d most bits (Some n) width h =
    let below : n < suc most = rw width (h.fits) in
    let least : n ≤ most = omega arith in
    rw (h.held, le-leb n most least) refl

-- a kind of letter by its word
word_of : (d : Data) (k : Kind) → IsOneOf k (kinds_of Notes) → get (codes "note") d ≡ Some (string (kind_name k)) → (word : Word) × HasKind d word
word_of d k (inl is) held = (words.Prepare, held ∙ ap (λ x. Some (string (kind_name x))) is)
word_of d k (inr (inl is)) held = (words.Promise, held ∙ ap (λ x. Some (string (kind_name x))) is)
word_of d k (inr (inr (inl is))) held = (words.Accept, held ∙ ap (λ x. Some (string (kind_name x))) is)
word_of d k (inr (inr (inr (inl is)))) held = (words.Voted, held ∙ ap (λ x. Some (string (kind_name x))) is)
word_of d k (inr (inr (inr (inr (inl is))))) held = (words.Higher, held ∙ ap (λ x. Some (string (kind_name x))) is)
word_of d k (inr (inr (inr (inr (inr (inl is)))))) held = (words.Known, held ∙ ap (λ x. Some (string (kind_name x))) is)
word_of d k (inr (inr (inr (inr (inr (inr none)))))) held = absurd none

pub note_part : (place : Place) (kind : Kind) (d : Data) → fault_at place kind d (keys.Note, wants.NameOrNothing Notes) ≡ None
    → (o : Option Word) × MayHave (HasKind d) d (codes "note") o
note_part place kind d h = held_note (get (codes "note") d) refl h
  where
    held_note : (o : Option Data) → get (codes "note") d ≡ o → fault_of place kind keys.Note (wants.NameOrNothing Notes) o ≡ None → (w : Option Word) × MayHave (HasKind d) d (codes "note") w
    held_note None is h = (None, is)
    held_note (Some x) is h =
        let (k, named) = is_one Notes (as_str x) (if_none (is_name Notes x) _ h) in
        let (text, one) = named_text Notes (Some x) k named in
        let (word, has) = word_of d k one (is ∙ text) in
        (Some word, has)

pub no_note_part_fault : (place : Place) (kind : Kind) (d : Data) (o : Option Word) → MayHave (HasKind d) d (codes "note") o
    → fault_at place kind d (keys.Note, wants.NameOrNothing Notes) ≡ None
no_note_part_fault place kind d None h = rw h refl
no_note_part_fault place kind d (Some words.Prepare) h = rw h refl
no_note_part_fault place kind d (Some words.Promise) h = rw h refl
no_note_part_fault place kind d (Some words.Accept) h = rw h refl
no_note_part_fault place kind d (Some words.Voted) h = rw h refl
no_note_part_fault place kind d (Some words.Higher) h = rw h refl
no_note_part_fault place kind d (Some words.Known) h = rw h refl

-- whether a letter comes again
flag_of : (d : Data) → is_some (as_bool d) ≡ true → (b : Bool) × (d ≡ boolean b)
flag_of (boolean b) h = (b, refl)
flag_of (string s) h = absurd (cc)
flag_of (integer z) h = absurd (cc)
flag_of (float x) h = absurd (cc)
flag_of (datetime t) h = absurd (cc)
flag_of (array ds) h = absurd (cc)
flag_of (table ms) h = absurd (cc)

again_part : (place : Place) (kind : Kind) (d : Data) → fault_at place kind d (keys.Again, wants.FlagOrNothing) ≡ None → (b : Bool) × HasAgain d b
again_part place kind d h = held_flag (get (codes "again") d) refl h
  where
    held_flag : (o : Option Data) → get (codes "again") d ≡ o → fault_of place kind keys.Again wants.FlagOrNothing o ≡ None → (b : Bool) × HasAgain d b
    held_flag None is h = (false, inr (is, refl))
    held_flag (Some x) is h = let (b, flag) = flag_of x (if_none (is_some (as_bool x)) _ h) in (b, inl (is ∙ ap Some flag))

no_again_part_fault : (place : Place) (kind : Kind) (d : Data) (b : Bool) → HasAgain d b → fault_at place kind d (keys.Again, wants.FlagOrNothing) ≡ None
no_again_part_fault place kind d b (inl held) = rw held refl
no_again_part_fault place kind d b (inr none) = rw (none.0) refl

-- ---- whole names

fields : (place : Place) (kind : Kind) (d : Data) → NoneOf (fault_at place kind d) (rows_of kinds.Named) → (name : Name) × HasFields d name
fields place kind d h =
    let (from, a) = node_part place kind keys.From d h.0 in
    let (to, b) = node_part place kind keys.To d h.1.0 in
    let (note, c) = note_part place kind d h.1.1.0 in
    let (ballot, e) = number_part place kind keys.Ballot d 18446744073709551615 64 refl h.1.1.1.0 in
    let (at, f) = number_part place kind keys.Place d 18446744073709551615 64 refl h.1.1.1.1.0 in
    let (again, g) = again_part place kind d h.1.1.1.1.1.0 in (
      record { from = from; to = to; kind = note; ballot = ballot; place = at; again = again },
      record { parts = record { from = a; to = b; kind = c; ballot = e; place = f }; again = g },
    )

no_field_faults : (place : Place) (kind : Kind) (d : Data) (name : Name) → HasFields d name → NoneOf (fault_at place kind d) (rows_of kinds.Named)
no_field_faults place kind d name h = (
  no_node_part_fault place kind keys.From d name.from h.parts.from,
  (
    no_node_part_fault place kind keys.To d name.to h.parts.to,
    (
      no_note_part_fault place kind d name.kind h.parts.kind,
      (
        no_number_part_fault place kind keys.Ballot d 18446744073709551615 64 name.ballot refl h.parts.ballot,
        (
          no_number_part_fault place kind keys.Place d 18446744073709551615 64 name.place refl h.parts.place,
          (no_again_part_fault place kind d name.again h.again, tt),
        ),
      ),
    ),
  ),
)

-- a part is there exactly where its key is
node_there : (d : Data) (key : List ℕ) (o : Option ℕ) → MayHave (HasNode d key) d key o → is_some (get key d) ≡ is_some o
node_there d key None h = ap is_some h
node_there d key (Some n) h = ap is_some h.number.held

note_there : (d : Data) (o : Option Word) → MayHave (HasKind d) d (codes "note") o → is_some (get (codes "note") d) ≡ is_some o
note_there d None h = ap is_some h
note_there d (Some word) h = ap is_some h

pub whose : (d : Data) (name : Name) → HasParts d name → says_whose d ≡ name_says_whose name
whose d name h = rw (node_there d (codes "from") name.from h.from, node_there d (codes "to") name.to h.to, note_there d name.kind h.kind) refl

-- ---- deliveries

-- how a table asks for a letter
abbrev pub letter_kind_in : Data → Kind
letter_kind_in d = letter_kind (get (codes "letter") d) (says_whose d)

-- without a fault it has the letter's number, or none and its name
pub asked : (place : Place) (k : Kind) (d : Data) → key_faults place k (letter_kind_in d) d ≡ []
    → ((i : ℕ) × HasNumber d (codes "letter") 64 i) ⊎ ((name : Name) × (get (codes "letter") d ≡ None) × HasName d name)
asked place k d none = by_letter (get (codes "letter") d) (says_whose d) refl refl none
  where
    by_letter : (o : Option Data) (b : Bool) → get (codes "letter") d ≡ o → says_whose d ≡ b → key_faults place k (letter_kind o b) d ≡ []
        → ((i : ℕ) × HasNumber d (codes "letter") 64 i) ⊎ ((name : Name) × (get (codes "letter") d ≡ None) × HasName d name)
    by_letter (Some x) b is by none = inl (number place k keys.Letter d 18446744073709551615 64 refl (kept_keys place k kinds.Numbered d none).0)
    by_letter None true is by none =
        let (name, has) = fields place k d (kept_keys place k kinds.Named d none) in
        inr (name, is, (has, sym (whose d name has.parts) ∙ by))
    by_letter None false is by none =
        let first : fault_of place k keys.Letter wants.Letter (get (codes "letter") d) ≡ None = (kept_keys place k kinds.Unnamed d none).0 in
        let lacking : fault_of place k keys.Letter wants.Letter None ≡ None = rw is at first in
        absurd (cc)

pub no_numbered_fault : (place : Place) (k : Kind) (d : Data) (i : ℕ) → HasNumber d (codes "letter") 64 i → key_faults place k (letter_kind_in d) d ≡ []
no_numbered_fault place k d i h =
    let none = no_number_fault place k keys.Letter d 18446744073709551615 64 i refl h in
    subst (λ o. key_faults place k (letter_kind o (says_whose d)) d ≡ []) (sym h.held) (of_none (fault_at place k d) (rows_of kinds.Numbered) (none, tt))

pub no_named_fault : (place : Place) (k : Kind) (d : Data) (name : Name) → get (codes "letter") d ≡ None → HasName d name → key_faults place k (letter_kind_in d) d ≡ []
no_named_fault place k d name unnumbered (has, says) =
    let is : letter_kind_in d ≡ kinds.Named = ap (λ o. letter_kind o (says_whose d)) unnumbered ∙ ap (letter_kind None) (whose d name has.parts ∙ says) in
    subst (λ kind. key_faults place k kind d ≡ []) (sym is) (of_none (fault_at place k d) (rows_of kinds.Named) (no_field_faults place k d name has))
