-- A text without a fault is read, and one that is read has no fault.
use Rattle.std.proofs.Common.{◌≡◌, ℕ, ◌^◌, ◌<◌, ◌≤◌, Bool, true, false, ◌==◌, ◌||◌, is_some, List, [], ◌++◌}
use Rattle.std.proofs.Common.{Option, Some, None, pos, negsuc, option_map, codes, refl, ap, arith}
use Rattle.std.specs.List.{AllZip}
use Rattle.std.proofs.lemmas.Bool.{le-leb, eqb-true}
use Rattle.toml.specs.Data.{Data, string, integer, float, boolean, datetime, array, table, Items, Members, get_member}
use Rattle.toml.specs.Data.{as_array}
use Rattle.ballots.specs.declared.members.Members.{Members as NodeCount}
use Rattle.ballots.specs.declared.members.Members.TheVariants.{Three, Five}
use Rattle.ballots.specs.Members.{member_count}
use Rattle.grant_machine.specs.declared.command.Command.{Command}
use Rattle.script_steps.specs.declared.entry.Entry.{Entry}
use Rattle.script_text.specs.CommandTable.{SpellsCommand}
use Rattle.script_text.specs.Items.{list_of, held_items, items_at, AllMean}
use Rattle.script_text.specs.Script.{IsId}
use Rattle.script_text.specs.StepScript.{IsStepTable}
use Rattle.script_text.specs.EntryTable.{MeansEntry}
use Rattle.text_faults.specs.declared.kind.Kind.{Kind}
use Rattle.text_faults.specs.declared.kind.Kind.TheVariants as kinds
use Rattle.text_faults.specs.declared.row.Key.{Key}
use Rattle.text_faults.specs.declared.row.Key.TheVariants as keys
use Rattle.text_faults.specs.declared.row.Wants.TheVariants as wants
use Rattle.text_faults.specs.declared.fault.Fault.{Fault}
use Rattle.text_faults.specs.declared.fault.Place.{Place}
use Rattle.text_faults.specs.declared.fault.Place.TheVariants as places
use Rattle.text_faults.specs.Fits.{is_number, is_count}
use Rattle.text_faults.specs.Items.{listed, items_in, items_at as items_under}
use Rattle.text_faults.specs.Rows.{rows_of}
use Rattle.text_faults.specs.Faults.{fault_of, fault_at, key_faults, id_faults, command_faults, event_faults, numbered}
use Rattle.text_faults.specs.Faults.{plan_faults, script_faults, IsPlanTable, IsScript, TellsWhether}
use Rattle.text_faults.proofs.Keys.{both_empty, of_none, if_none, whole_number}
use Rattle.text_faults.proofs.Spelled.{kept_keys, spelled, no_command_fault}
use Rattle.text_faults.proofs.Items.{all_mean, none_faulted}
use Rattle.text_faults.proofs.Meant.{if_empty, meant, no_entry_fault}

-- ---- ids

-- an id
id : (n : ℕ) (d : Data) → id_faults n d ≡ [] → (i : ℕ) × IsId d i
id n d h =
    let (i, is, fits) = whole_number 4294967295 d (if_empty (is_number 4294967295 d) _ h) in
    let below : i < 2 ^ 32 = omega arith in
    (i, record { held = is; fits = below })

no_id_fault : (n : ℕ) (d : Data) (i : ℕ) → IsId d i → id_faults n d ≡ []
no_id_fault n d i h = let least : i ≤ 4294967295 = omega (arith, h.fits) in rw (h.held, le-leb i 4294967295 least) refl

-- ---- arrays

array_or_none : (d : Data) (o : Option Items) → as_array d ≡ o → is_some o ≡ true → option_map list_of o ≡ Some (listed o)
array_or_none d None is h = absurd (cc)
array_or_none d (Some ds) is h = refl

tables : (place : Place) (kind : Kind) (key : Key) (o : Option Data) → fault_of place kind key wants.Tables o ≡ None → held_items o ≡ Some (items_in o)
tables place kind key None h = refl
tables place kind key (Some d) h = array_or_none d (as_array d) refl (if_none (is_some (as_array d)) _ h)

ids : (place : Place) (kind : Kind) (key : Key) (o : Option Data) → fault_of place kind key wants.Ids o ≡ None → held_items o ≡ Some (items_in o)
ids place kind key None h = refl
ids place kind key (Some d) h = array_or_none d (as_array d) refl (if_none (is_some (as_array d)) _ h)

is_array_there : (o : Option Items) (ds : List Data) → option_map list_of o ≡ Some ds → (is_some o ≡ true) × (listed o ≡ ds)
is_array_there None ds h = absurd (cc)
is_array_there (Some xs) ds h = (refl, cc)

no_tables_fault : (place : Place) (kind : Kind) (key : Key) (o : Option Data) (ds : List Data) → held_items o ≡ Some ds → (fault_of place kind key wants.Tables o ≡ None) × (items_in o ≡ ds)
no_tables_fault place kind key None ds h = (refl, cc)
no_tables_fault place kind key (Some d) ds h = let there = is_array_there (as_array d) ds h in (rw (there.0) refl, there.1)

no_ids_fault : (place : Place) (kind : Kind) (key : Key) (o : Option Data) (ds : List Data) → held_items o ≡ Some ds → (fault_of place kind key wants.Ids o ≡ None) × (items_in o ≡ ds)
no_ids_fault place kind key None ds h = (refl, cc)
no_ids_fault place kind key (Some d) ds h = let there = is_array_there (as_array d) ds h in (rw (there.0) refl, there.1)

-- what is listed there, from all of them
all_listed : {X : Type 0} (Means : Data → X → Type 0) (items : Option (List Data)) (ds : List Data) (xs : List X) → items ≡ Some ds → AllZip Means ds xs → AllMean Means items xs
all_listed Means items ds xs is h = rw is h

some_listed : {X : Type 0} (Means : Data → X → Type 0) (items : Option (List Data)) (xs : List X) → AllMean Means items xs → (ds : List Data) × (items ≡ Some ds) × AllZip Means ds xs
some_listed Means None xs h = absurd h
some_listed Means (Some ds) xs h = (ds, refl, h)

-- ---- plans

plan_read : (ms : Members) → plan_faults (table ms) ≡ [] → (cs : List Command) × AllMean SpellsCommand (items_at ms (codes "command")) cs
plan_read ms none =
    let d = table ms in
    let parts = both_empty (key_faults places.Whole kinds.Plan kinds.Plan d) (numbered command_faults 1 (items_under d (codes "command"))) none in
    let h = kept_keys places.Whole kinds.Plan kinds.Plan d parts.0 in
    let there = tables places.Whole kinds.Plan keys.Command (get_member (codes "command") ms) h.0 in
    let (cs, spell) = all_mean SpellsCommand command_faults (λ n x. spelled (places.Command n) x) 1 (items_under d (codes "command")) parts.1 in
    (cs, all_listed SpellsCommand (items_at ms (codes "command")) (items_under d (codes "command")) cs there spell)

no_plan_fault : (ms : Members) (cs : List Command) → AllMean SpellsCommand (items_at ms (codes "command")) cs → plan_faults (table ms) ≡ []
no_plan_fault ms cs h =
    let d = table ms in
    let (ds, there, spell) = some_listed SpellsCommand (items_at ms (codes "command")) cs h in
    let none = no_tables_fault places.Whole kinds.Plan keys.Command (get_member (codes "command") ms) ds there in
    let keys_none = of_none (fault_at places.Whole kinds.Plan d) (rows_of kinds.Plan) (none.0, tt) in
    let items_none = none_faulted SpellsCommand command_faults (λ n x c. no_command_fault (places.Command n) x c) 1 ds cs spell in
    rw (keys_none, none.1, items_none) refl

-- a plan has no fault exactly where each of its commands is spelled
pub plan_law : (d : Data) (faults : List Fault) → faults ≡ plan_faults d → TellsWhether IsPlanTable d faults
plan_law d faults are = λ ms is. rw (are, is) ((plan_read ms, λ h. no_plan_fault ms h.0 h.1))

-- ---- scripts

count_of : (d : Data) → is_count d ≡ true → (count : NodeCount) × (d ≡ integer (pos (member_count count)))
count_of (integer (pos n)) h = which (n == 3) (n == 5) refl refl h
  where
    which : (a b : Bool) → (n == 3) ≡ a → (n == 5) ≡ b → (a || b) ≡ true → (count : NodeCount) × (integer (pos n) ≡ integer (pos (member_count count)))
    which true b is other h = let same : n ≡ 3 = eqb-true n 3 is in (Three, ap (λ m. integer (pos m)) same)
    which false true is other h = let same : n ≡ 5 = eqb-true n 5 other in (Five, ap (λ m. integer (pos m)) same)
    which false false is other h = absurd (cc)
count_of (integer (negsuc n)) h = absurd (cc)
count_of (string s) h = absurd (cc)
count_of (float x) h = absurd (cc)
count_of (boolean b) h = absurd (cc)
count_of (datetime t) h = absurd (cc)
count_of (array ds) h = absurd (cc)
count_of (table ms) h = absurd (cc)

members : (place : Place) (kind : Kind) (key : Key) (o : Option Data) → fault_of place kind key wants.Members o ≡ None → (count : NodeCount) × (o ≡ Some (integer (pos (member_count count))))
members place kind key None h = absurd (cc)
members place kind key (Some d) h = let (count, is) = count_of d (if_none (is_count d) _ h) in (count, ap Some is)

no_members_fault : (place : Place) (kind : Kind) (key : Key) (o : Option Data) (count : NodeCount) → o ≡ Some (integer (pos (member_count count))) → fault_of place kind key wants.Members o ≡ None
no_members_fault place kind key o Three is = rw is refl
no_members_fault place kind key o Five is = rw is refl

script_read : (ms : Members) → script_faults (table ms) ≡ [] → (count : NodeCount) × (ids : List ℕ) × (entries : List Entry) × IsStepTable ms count ids entries
script_read ms none =
    let d = table ms in
    let front = key_faults places.Whole kinds.Script kinds.Script d in
    let modems = numbered id_faults 0 (items_under d (codes "modems")) in
    let happens = numbered event_faults 0 (items_under d (codes "event")) in
    let parts = both_empty (front ++ modems) happens none in
    let heads = both_empty front modems parts.0 in
    let h = kept_keys places.Whole kinds.Script kinds.Script d heads.0 in
    let (count, has) = members places.Whole kinds.Script keys.Members (get_member (codes "members") ms) h.0 in
    let ids_there = ids places.Whole kinds.Script keys.Modems (get_member (codes "modems") ms) h.1.0 in
    let events_there = tables places.Whole kinds.Script keys.Event (get_member (codes "event") ms) h.1.1.0 in
    let (names, are_ids) = all_mean IsId id_faults id 0 (items_under d (codes "modems")) heads.1 in
    let (entries, mean) = all_mean MeansEntry event_faults meant 0 (items_under d (codes "event")) parts.1 in (
      count,
      names,
      entries,
      record {
        members = has;
        modems = all_listed IsId (items_at ms (codes "modems")) (items_under d (codes "modems")) names ids_there are_ids;
        steps = all_listed MeansEntry (items_at ms (codes "event")) (items_under d (codes "event")) entries events_there mean;
      },
    )

no_script_fault : (ms : Members) (count : NodeCount) (names : List ℕ) (entries : List Entry) → IsStepTable ms count names entries → script_faults (table ms) ≡ []
no_script_fault ms count names entries h =
    let d = table ms in
    let (xs, ids_there, are_ids) = some_listed IsId (items_at ms (codes "modems")) names h.modems in
    let (ds, events_there, mean) = some_listed MeansEntry (items_at ms (codes "event")) entries h.steps in
    let count_none = no_members_fault places.Whole kinds.Script keys.Members (get_member (codes "members") ms) count h.members in
    let ids_none = no_ids_fault places.Whole kinds.Script keys.Modems (get_member (codes "modems") ms) xs ids_there in
    let events_none = no_tables_fault places.Whole kinds.Script keys.Event (get_member (codes "event") ms) ds events_there in
    let keys_none = of_none (fault_at places.Whole kinds.Script d) (rows_of kinds.Script) (count_none, (ids_none.0, (events_none.0, tt))) in
    let modems_none = none_faulted IsId id_faults no_id_fault 0 xs names are_ids in
    let happens_none = none_faulted MeansEntry event_faults no_entry_fault 0 ds entries mean in
    rw (keys_none, ids_none.1, events_none.1, modems_none, happens_none) refl

-- a script has no fault exactly where it is read
pub script_law : (d : Data) (faults : List Fault) → faults ≡ script_faults d → TellsWhether IsScript d faults
script_law d faults are = λ ms is. rw (are, is) ((script_read ms, λ h. no_script_fault ms h.0 h.1 h.2 h.3))
