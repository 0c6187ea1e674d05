-- Each fault is the one of what its key holds at its place.
use Rattle.std.proofs.Common.{◌≡◌, ℕ, suc, ◌+◌, ◌-◌, Bool, true, false, if◌then◌else◌, List, [], ◌∷◌, ◌++◌}
use Rattle.std.proofs.Common.{Option, Some, None, slice_get, filter_map, codes, refl, sym, ap, ◌∙◌, subst, add-zero}
use Rattle.std.proofs.Common.{arith}
use Rattle.std.specs.List.{AllByRecursion, cons_option}
use Rattle.toml.specs.Data.{Data, get}
use Rattle.text_faults.specs.declared.kind.Kind.{Kind}
use Rattle.text_faults.specs.declared.kind.Kind.TheVariants as kinds
use Rattle.text_faults.specs.declared.row.Key.{Key}
use Rattle.text_faults.specs.declared.row.Wants.{Wants}
use Rattle.text_faults.specs.declared.fault.Found.TheVariants as found
use Rattle.text_faults.specs.declared.fault.Place.{Place}
use Rattle.text_faults.specs.declared.fault.Place.TheVariants as places
use Rattle.text_faults.specs.declared.fault.Fault.{Fault}
use Rattle.text_faults.specs.Rows.{key_name, rows_of}
use Rattle.text_faults.specs.Fits.{is_number, holds, may_lack}
use Rattle.text_faults.specs.Items.{items_at}
use Rattle.text_faults.specs.Unfit.{excepted, item_under, table_of, held_at, IsUnfit}
use Rattle.text_faults.specs.Faults.{found_in, fault_of, fault_at, key_faults, chosen, service_faults, kind_faults}
use Rattle.text_faults.specs.Faults.{table_faults, is_hex, is_offer, offered_faults, command_faults, event_faults}
use Rattle.text_faults.specs.Faults.{except_faults, except_kind, id_faults, may_except, numbered}
use Rattle.text_faults.specs.Faults.{own_faults, plan_faults}
use Rattle.text_faults.specs.Faults.{script_faults}

-- ---- all of some faults

all_append : (P : Fault → Type 0) (xs ys : List Fault) → AllByRecursion P xs → AllByRecursion P ys → AllByRecursion P (xs ++ ys)
all_append P [] ys h k = k
all_append P (x ∷ xs) ys h k = (h.0, all_append P xs ys h.1 k)

all_along : (P Q : Fault → Type 0) → ((f : Fault) → P f → Q f) → (xs : List Fault) → AllByRecursion P xs → AllByRecursion Q xs
all_along P Q along [] h = tt
all_along P Q along (x ∷ xs) h = (along x h.0, all_along P Q along xs h.1)

all_first : (P : Fault → Type 0) (o : Option Fault) (xs : List Fault) → ((f : Fault) → o ≡ Some f → P f) → AllByRecursion P xs → AllByRecursion P (cons_option o xs)
all_first P None xs one h = h
all_first P (Some f) xs one h = (one f refl, h)

-- ---- one table

-- the fault of what its key holds in a table at this place
abbrev IsOf : Place → Data → Fault → Type 0
IsOf place d f = (f.place ≡ place) × (fault_of f.place f.kind f.key f.wants (get (key_name f.key) d) ≡ Some f)

-- the fault of a key that holds this
abbrev IsMade : Place → Key → Option Data → Fault → Type 0
IsMade place key o f = (f.place ≡ place) × (f.key ≡ key) × (fault_of f.place f.kind f.key f.wants o ≡ Some f)

made_of_none : (place : Place) (kind : Kind) (key : Key) (wants : Wants) (f : Fault) (b : Bool) → may_lack wants ≡ b
    → (if b then None else Some (record { place = place; kind = kind; key = key; wants = wants; found = found.Nothing })) ≡ Some f → IsMade place key None f
made_of_none place kind key wants f true is h = absurd (cc)
made_of_none place kind key wants f false is h =
    let made : Fault = record { place = place; kind = kind; key = key; wants = wants; found = found.Nothing } in
    let same : made ≡ f = cc in
    subst (IsMade place key None) same (refl, refl, rw is refl)

made_of_some : (place : Place) (kind : Kind) (key : Key) (wants : Wants) (d : Data) (f : Fault) (b : Bool) → holds wants d ≡ b
    → (if b then None else Some (record { place = place; kind = kind; key = key; wants = wants; found = found_in d })) ≡ Some f → IsMade place key (Some d) f
made_of_some place kind key wants d f true is h = absurd (cc)
made_of_some place kind key wants d f false is h =
    let made : Fault = record { place = place; kind = kind; key = key; wants = wants; found = found_in d } in
    let same : made ≡ f = cc in
    subst (IsMade place key (Some d)) same (refl, refl, rw is refl)

made : (place : Place) (kind : Kind) (key : Key) (wants : Wants) (o : Option Data) (f : Fault) → fault_of place kind key wants o ≡ Some f → IsMade place key o f
made place kind key wants None f h = made_of_none place kind key wants f (may_lack wants) refl h
made place kind key wants (Some d) f h = made_of_some place kind key wants d f (holds wants d) refl h

of_row : (place : Place) (kind : Kind) (d : Data) (row : Key × Wants) (f : Fault) → fault_at place kind d row ≡ Some f → IsOf place d f
of_row place kind d row f h =
    let (at, key, is) = made place kind row.0 row.1 (get (key_name row.0) d) f h in
    (at, subst (λ k. fault_of f.place f.kind f.key f.wants (get (key_name k) d) ≡ Some f) (sym key) is)

of_rows : (place : Place) (kind : Kind) (d : Data) (rows : List (Key × Wants)) → AllByRecursion (IsOf place d) (filter_map (fault_at place kind d) rows)
of_rows place kind d [] = tt
of_rows place kind d (row ∷ rows) = all_first (IsOf place d) (fault_at place kind d row) (filter_map (fault_at place kind d) rows) (of_row place kind d row) (of_rows place kind d rows)

of_service : (place : Place) (told : Kind) (o : Option Kind) (d : Data) → AllByRecursion (IsOf place d) (service_faults place told o d)
of_service place told None d = tt
of_service place told (Some kind) d = of_rows place told d (rows_of kind)

of_kind : (place : Place) (o : Option Kind) (d : Data) → AllByRecursion (IsOf place d) (kind_faults place o d)
of_kind place None d = tt
of_kind place (Some kind) d =
    all_append (IsOf place d) (key_faults place kind kind d) (service_faults place kind (chosen kind d) d) (of_rows place kind d (rows_of kind)) (of_service place kind (chosen kind d) d)

of_table : (place : Place) (kind : Kind) (d : Data) → AllByRecursion (IsOf place d) (table_faults place kind d)
of_table place kind d =
    all_append (IsOf place d) (key_faults place kind kind d) (kind_faults place (chosen kind d) d) (of_rows place kind d (rows_of kind)) (of_kind place (chosen kind d) d)

-- ---- the places of a text

-- a place whose keys are looked at
abbrev HasKeys : Place → Type 0
HasKeys place = (key : Key) (d : Data) → held_at place key d ≡ get (key_name key) d

unfit : (whole : Data) (place : Place) (d : Data) → HasKeys place → table_of whole place ≡ Some d → (f : Fault) → IsOf place d f → IsUnfit whole f
unfit whole place d keys there f of =
    let here : table_of whole f.place ≡ Some d = ap (table_of whole) of.0 ∙ there in
    let held : held_at f.place f.key d ≡ get (key_name f.key) d = ap (λ p. held_at p f.key d) of.0 ∙ keys f.key d in
    (d, here, rw held of.1)

all_unfit : (whole : Data) (place : Place) (d : Data) → HasKeys place → table_of whole place ≡ Some d → (fs : List Fault) → AllByRecursion (IsOf place d) fs → AllByRecursion (IsUnfit whole) fs
all_unfit whole place d keys there fs h = all_along (IsOf place d) (IsUnfit whole) (unfit whole place d keys there) fs h

-- items one after another
all_numbered : (P : Fault → Type 0) (f : ℕ → Data → List Fault) (n : ℕ) (ds : List Data) → ((k : ℕ) (d : Data) → slice_get ds k ≡ Some d → AllByRecursion P (f (n + k) d)) → AllByRecursion P (numbered f n ds)
all_numbered P f n [] each = tt
all_numbered P f n (d ∷ ds) each =
    let first : AllByRecursion P (f n d) = rw (add-zero n) at (each 0 d refl) in
    all_append P (f n d) (numbered f (n + 1) ds) first (all_numbered P f (n + 1) ds (λ k x here. let count : n + suc k ≡ n + 1 + k = omega arith in rw count at (each (suc k) x here)))

of_command : (whole : Data) (k : ℕ) (d : Data) → item_under whole (codes "command") k ≡ Some d → AllByRecursion (IsUnfit whole) (command_faults (1 + k) d)
of_command whole k d here =
    let place : Place = places.Command (1 + k) in
    let index : (1 + k) - 1 ≡ k = omega arith in
    let there : table_of whole place ≡ Some d = rw index here in
    all_unfit whole place d (λ key x. refl) there (table_faults place kinds.Command d) (of_table place kinds.Command d)

of_id : (whole : Data) (k : ℕ) (d : Data) → item_under whole (codes "modems") k ≡ Some d → AllByRecursion (IsUnfit whole) (id_faults k d)
of_id whole k d here = with_test (is_number 4294967295 d) refl
  where
    with_test : (b : Bool) → is_number 4294967295 d ≡ b → AllByRecursion (IsUnfit whole) (id_faults k d)
    with_test true is = rw is tt
    with_test false is = rw is ((d, here, rw is refl), tt)

of_digits : (whole : Data) (n : ℕ) (d : Data) → item_under whole (codes "event") n ≡ Some d → (o v : Option Data) → get (codes "command") d ≡ o → get (codes "value") d ≡ v → AllByRecursion (IsUnfit whole) (offered_faults n o v)
of_digits whole n d here None None no_command no_value = ((d, here, rw no_value refl), tt)
of_digits whole n d here None (Some x) no_command value = with_test (is_hex x) refl
  where
    with_test : (b : Bool) → is_hex x ≡ b → AllByRecursion (IsUnfit whole) (offered_faults n None (Some x))
    with_test true is = rw is tt
    with_test false is = rw is ((d, here, rw value refl), tt)
of_digits whole n d here (Some c) None command no_value =
    let place : Place = places.Offered n in
    let there : table_of whole place ≡ Some c = rw (here, command) refl in
    all_unfit whole place c (λ key x. refl) there (table_faults place kinds.Command c) (of_table place kinds.Command c)
of_digits whole n d here (Some c) (Some x) command value = ((d, here, rw value refl), tt)

of_offer : (whole : Data) (n : ℕ) (d : Data) → item_under whole (codes "event") n ≡ Some d → (b : Bool) → AllByRecursion (IsUnfit whole) (if b then offered_faults n (get (codes "command") d) (get (codes "value") d) else [])
of_offer whole n d here true = of_digits whole n d here (get (codes "command") d) (get (codes "value") d) refl refl
of_offer whole n d here false = tt

of_except : (whole : Data) (n : ℕ) (d : Data) → item_under whole (codes "event") n ≡ Some d → (k : ℕ) (x : Data) → slice_get (items_at d (codes "except")) k ≡ Some x → AllByRecursion (IsUnfit whole) (except_faults n k x)
of_except whole n d here k x there =
    let place : Place = places.Excepted n k in
    let at : table_of whole place ≡ Some x = ap (excepted k) here ∙ there in
    all_unfit whole place x (λ key y. refl) at (key_faults place kinds.Excepted (except_kind x) x) (of_rows place kinds.Excepted x (rows_of (except_kind x)))

of_excepts : (whole : Data) (n : ℕ) (d : Data) → item_under whole (codes "event") n ≡ Some d → (b : Bool) → AllByRecursion (IsUnfit whole) (if b then numbered (except_faults n) 0 (items_at d (codes "except")) else [])
of_excepts whole n d here true =
    all_numbered (IsUnfit whole) (except_faults n) 0 (items_at d (codes "except")) (λ k x there. let count : 0 + k ≡ k = omega arith in rw count (of_except whole n d here k x there))
of_excepts whole n d here false = tt

of_event : (whole : Data) (n : ℕ) (d : Data) → item_under whole (codes "event") n ≡ Some d → AllByRecursion (IsUnfit whole) (event_faults n d)
of_event whole n d here =
    let place : Place = places.Event n in
    let own = all_unfit whole place d (λ key x. refl) here (table_faults place kinds.Event d) (of_table place kinds.Event d) in
    let offered = of_offer whole n d here (is_offer (chosen kinds.Event d)) in
    all_append (IsUnfit whole) (own_faults n d) _ (all_append (IsUnfit whole) (table_faults place kinds.Event d) _ own offered) (of_excepts whole n d here (may_except (chosen kinds.Event d)))

of_whole : (whole : Data) (kind : Kind) → AllByRecursion (IsUnfit whole) (key_faults places.Whole kind kind whole)
of_whole whole kind = all_unfit whole places.Whole whole (λ key x. refl) refl (key_faults places.Whole kind kind whole) (of_rows places.Whole kind whole (rows_of kind))

-- each fault of a plan, and each of a script
pub plan_unfit : (d : Data) (faults : List Fault) → faults ≡ plan_faults d → AllByRecursion (IsUnfit d) faults
plan_unfit d faults are =
    let items = items_at d (codes "command") in
    rw are (all_append (IsUnfit d) (key_faults places.Whole kinds.Plan kinds.Plan d) (numbered command_faults 1 items) (of_whole d kinds.Plan) (all_numbered (IsUnfit d) command_faults 1 items (of_command d)))

pub script_unfit : (d : Data) (faults : List Fault) → faults ≡ script_faults d → AllByRecursion (IsUnfit d) faults
script_unfit d faults are =
    let modems = items_at d (codes "modems") in
    let events = items_at d (codes "event") in
    let front = key_faults places.Whole kinds.Script kinds.Script d in
    let ids = all_numbered (IsUnfit d) id_faults 0 modems (λ k x here. let count : 0 + k ≡ k = omega arith in rw count (of_id d k x here)) in
    let rest = all_numbered (IsUnfit d) event_faults 0 events (λ k x here. let count : 0 + k ≡ k = omega arith in rw count (of_event d k x here)) in
    rw are (all_append (IsUnfit d) (front ++ numbered id_faults 0 modems) (numbered event_faults 0 events) (all_append (IsUnfit d) front (numbered id_faults 0 modems) (of_whole d kinds.Script) ids) rest)
