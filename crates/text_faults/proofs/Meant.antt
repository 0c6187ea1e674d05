-- A table without a fault means an entry, and one that means an entry has no fault.
use Rattle.std.proofs.Common.{◌≡◌, ℕ, ◌⊎◌, inl, inr, Bool, true, false, if◌then◌else◌, is_ok, List, []}
use Rattle.std.proofs.Common.{◌∷◌, Option, Some}
use Rattle.std.proofs.Common.{None, Result, Ok, Err, codes, refl, sym, subst, ap, ◌∙◌, ◌++◌}
use Rattle.hex.specs.Hex.{decode_of}
use Rattle.toml.specs.Data.{Data, string, integer, float, boolean, datetime, array, table, get}
use Rattle.command_log.specs.Spelling.{spelling}
use Rattle.world_events.specs.declared.event.Event.{Event}
use Rattle.world_events.specs.declared.event.Event.TheVariants as events
use Rattle.script_steps.specs.declared.name.Name.{Name}
use Rattle.script_steps.specs.declared.entry.Entry.{Entry}
use Rattle.script_steps.specs.declared.entry.Entry.TheVariants.{One, All}
use Rattle.script_steps.specs.declared.step.Step.{Step}
use Rattle.script_steps.specs.declared.step.Step.TheVariants.{Plain, Deliver, DeliverThenCrash}
use Rattle.script_text.specs.Fields.{HasNumber, HasText}
use Rattle.script_text.specs.EntryTable.{MeansEntry}
use Rattle.script_text.specs.EventTable.{IsHexBytes, IsOffered, MeansEvent}
use Rattle.script_text.specs.StepTable.{HasName, IsNamed, MeansStep}
use Rattle.text_faults.specs.declared.kind.Kind.{Kind}
use Rattle.text_faults.specs.declared.kind.Kind.TheVariants as kinds
use Rattle.text_faults.specs.declared.kind.Group.TheVariants.{Events}
use Rattle.text_faults.specs.declared.row.Key.{Key}
use Rattle.text_faults.specs.declared.row.Key.TheVariants as keys
use Rattle.text_faults.specs.declared.row.Wants.TheVariants as wants
use Rattle.text_faults.specs.declared.fault.Fault.{Fault}
use Rattle.text_faults.specs.declared.fault.Place.TheVariants as places
use Rattle.text_faults.specs.Kinds.{kind_name, kinds_of, named}
use Rattle.text_faults.specs.Rows.{key_name, rows_of}
use Rattle.text_faults.specs.Faults.{fault_at, key_faults, chosen, kind_faults, table_faults, is_hex, offers, is_offer}
use Rattle.text_faults.specs.Faults.{except_faults, offered_faults, event_faults, may_except, numbered, own_faults}
use Rattle.text_faults.specs.Faults.{excepts as excepts_some}
use Rattle.text_faults.specs.Items.{items_at}
use Rattle.text_faults.proofs.Keys.{both_empty, of_none, number, no_number_fault, node_number, no_node_fault, name}
use Rattle.text_faults.proofs.Keys.{IsOneOf, named_text}
use Rattle.text_faults.proofs.Spelled.{kept_keys, own_keys, spelled, no_command_fault, no_more}
use Rattle.text_faults.proofs.Excepts.{excepts, no_excepts_fault, no_rounds_fault, rounds}
use Rattle.text_faults.proofs.Letters.{asked, letter_kind_in, no_named_fault, no_numbered_fault}

-- ---- what is offered

-- a test that adds a fault only where it says no has said yes
pub if_empty : {X : Type 0} (b : Bool) (x : X) → (if b then [] else x ∷ []) ≡ [] → b ≡ true
if_empty true x h = refl
if_empty false x h = absurd (cc)

decoded : {X E : Type 0} (r : Result X E) → is_ok r ≡ true → (x : X) × (r ≡ Ok x)
decoded (Ok x) h = (x, refl)
decoded (Err e) h = absurd (cc)

hex_bytes : (d : Data) → is_hex d ≡ true → (bytes : List ℕ) × IsHexBytes d bytes
hex_bytes (string s) h = let (bytes, is) = decoded (decode_of s) h in (bytes, (s, refl, is))
hex_bytes (integer z) h = absurd (cc)
hex_bytes (float x) h = absurd (cc)
hex_bytes (boolean b) h = absurd (cc)
hex_bytes (datetime t) h = absurd (cc)
hex_bytes (array ds) h = absurd (cc)
hex_bytes (table ms) h = absurd (cc)

offered : (n : ℕ) (o v : Option Data) → offered_faults n o v ≡ [] → (bytes : List ℕ) × IsOffered o v bytes
offered n None None h = absurd (cc)
offered n None (Some digits) h = hex_bytes digits (if_empty (is_hex digits) _ h)
offered n (Some command) None h = let (c, spells) = spelled (places.Offered n) command h in (spelling c, (c, spells, refl))
offered n (Some command) (Some digits) h = absurd (cc)

no_offer_fault : (n : ℕ) (o v : Option Data) (bytes : List ℕ) → IsOffered o v bytes → offered_faults n o v ≡ []
no_offer_fault n None None bytes h = absurd h
no_offer_fault n None (Some digits) bytes (s, is, decodes) = rw (is, decodes) refl
no_offer_fault n (Some command) None bytes (c, spells, is) = no_command_fault (places.Offered n) command c spells
no_offer_fault n (Some command) (Some digits) bytes h = absurd h

-- ---- from no fault to an entry

abbrev pub offer_part : ℕ → Data → Bool → List Fault
offer_part n d b = if b then offered_faults n (get (codes "command") d) (get (codes "value") d) else []

abbrev Means : ℕ → Data → Kind → Type 0
Means n d k = HasText d (codes "kind") (kind_name k) → kind_faults (places.Event n) (Some k) d ≡ [] → offer_part n d (offers k) ≡ [] → (s : Step) × MeansStep d s

-- the faults of what it excepts
abbrev pub except_part : ℕ → Data → Bool → List Fault
except_part n d b = if b then numbered (except_faults n) 0 (items_at d (codes "except")) else []

abbrev Brings : ℕ → Data → Kind → Type 0
Brings n d k =
    HasText d (codes "kind") (kind_name k) → kind_faults (places.Event n) (Some k) d ≡ [] → offer_part n d (offers k) ≡ [] → except_part n d (excepts_some k) ≡ [] → (e : Entry) × MeansEntry d e

-- a kind whose one key holds a number of 64 bits
single : (n : ℕ) (d : Data) (k : Kind) (key : Key) (make : ℕ → Event) → (kind_faults (places.Event n) (Some k) d ≡ [] → fault_at (places.Event n) k d (key, wants.Number 18446744073709551615) ≡ None)
    → ((x : ℕ) → HasText d (codes "kind") (kind_name k) → HasNumber d (key_name key) 64 x → MeansEvent d (make x)) → Means n d k
single n d k key make first means text none part =
    let (x, a) = number (places.Event n) k key d 18446744073709551615 64 refl (first none) in (Plain (make x), means x text a)

offer : (n : ℕ) (d : Data) → Means n d kinds.Offer
offer n d text none part =
    let h = own_keys (places.Event n) kinds.Offer d none in
    let (node, a) = number (places.Event n) kinds.Offer keys.Node d 18446744073709551615 64 refl h.0 in
    let (bytes, b) = offered n (get (codes "command") d) (get (codes "value") d) part in
    (Plain (events.Offer node bytes), (text, a, b))

tell : (n : ℕ) (d : Data) → Means n d kinds.Tell
tell n d text none part =
    let h = own_keys (places.Event n) kinds.Tell d none in
    let (node, a) = number (places.Event n) kinds.Tell keys.Node d 18446744073709551615 64 refl h.0 in
    let (to, b) = node_number (places.Event n) kinds.Tell keys.To d h.1.0 in
    let (place, e) = number (places.Event n) kinds.Tell keys.Place d 18446744073709551615 64 refl h.1.1.0 in
    (Plain (events.Tell node to place), (text, a, b, e))

release : (n : ℕ) (d : Data) → Means n d kinds.Release
release n d text none part =
    let h = own_keys (places.Event n) kinds.Release d none in
    let (node, a) = number (places.Event n) kinds.Release keys.Node d 18446744073709551615 64 refl h.0 in
    let (now, b) = number (places.Event n) kinds.Release keys.Now d 18446744073709551615 64 refl h.1.0 in
    (Plain (events.Release node now), (text, a, b))

hear : (n : ℕ) (d : Data) → Means n d kinds.Hear
hear n d text none part =
    let h = own_keys (places.Event n) kinds.Hear d none in
    let (modem, a) = number (places.Event n) kinds.Hear keys.Modem d 18446744073709551615 64 refl h.0 in
    let (output, b) = number (places.Event n) kinds.Hear keys.Output d 18446744073709551615 64 refl h.1.0 in
    let (near, e) = number (places.Event n) kinds.Hear keys.Near d 9223372036854775807 63 refl h.1.1.0 in
    (Plain (events.Hear modem output near), (text, a, b, e))

want : (n : ℕ) (d : Data) → Means n d kinds.Want
want n d text none part =
    let h = own_keys (places.Event n) kinds.Want d none in
    let (modem, a) = number (places.Event n) kinds.Want keys.Modem d 18446744073709551615 64 refl h.0 in
    let (ch, b) = number (places.Event n) kinds.Want keys.Ch d 255 8 refl h.1.0 in
    let (sid, e) = number (places.Event n) kinds.Want keys.Sid d 65535 16 refl h.1.1.0 in
    let (count, f) = number (places.Event n) kinds.Want keys.N d 65535 16 refl h.1.1.1.0 in
    (Plain (events.Want modem ch sid count), (text, a, b, e, f))

tick : (n : ℕ) (d : Data) → Means n d kinds.Tick
tick n d text none part =
    let h = own_keys (places.Event n) kinds.Tick d none in
    let (modem, a) = number (places.Event n) kinds.Tick keys.Modem d 18446744073709551615 64 refl h.0 in
    let (ch, b) = number (places.Event n) kinds.Tick keys.Ch d 255 8 refl h.1.0 in
    let (slot, e) = number (places.Event n) kinds.Tick keys.Slot d 9223372036854775807 63 refl h.1.1.0 in
    let (random, f) = number (places.Event n) kinds.Tick keys.Random d 18446744073709551615 64 refl h.1.1.1.0 in
    (Plain (events.Tick modem ch slot random), (text, a, b, e, f))

-- a delivery, by the number of its letter or by its name
delivers : (n : ℕ) (d : Data) (k : Kind) (number : ℕ → Event) (named : Name → Step) → (kind_faults (places.Event n) (Some k) d ≡ [] → key_faults (places.Event n) k (letter_kind_in d) d ≡ [])
    → ((i : ℕ) → HasText d (codes "kind") (kind_name k) → HasNumber d (codes "letter") 64 i → MeansEvent d (number i))
    → ((name : Name) → IsNamed d (kind_name k) name → MeansStep d (named name)) → Means n d k
delivers n d k number named keys numbered is_named text none part = by_letter (asked (places.Event n) k d (keys none))
  where
    by_letter : ((i : ℕ) × HasNumber d (codes "letter") 64 i) ⊎ ((name : Name) × (get (codes "letter") d ≡ None) × HasName d name) → (s : Step) × MeansStep d s
    by_letter (inl (i, has)) = (Plain (number i), numbered i text has)
    by_letter (inr (name, is, has)) = (named name, is_named name (record { kind = text; unnumbered = is; name = has }))

-- a kind that brings one event
one : (n : ℕ) (d : Data) (k : Kind) → Means n d k → Brings n d k
one n d k means text none part rest = let (s, is) = means text none part in (One s, is)

deliver_all : (n : ℕ) (d : Data) → Brings n d kinds.DeliverAll
deliver_all n d text none part rest =
    let h = own_keys (places.Event n) kinds.DeliverAll d none in
    let (names, a) = excepts n (places.Event n) kinds.DeliverAll (get (codes "except") d) h.0 rest in
    let (count, b) = rounds (places.Event n) kinds.DeliverAll d h.1.0 in
    (All (record { except = names; rounds = count }), record { kind = text; rounds = b; except = a })

means_kind : (n : ℕ) (d : Data) (k : Kind) → IsOneOf k (kinds_of Events) → Brings n d k
means_kind n d k (inl is) =
    one n d k (subst (Means n d) (sym is) (single n d kinds.Lead keys.Node events.Lead (λ none. (own_keys (places.Event n) kinds.Lead d none).0) (λ x text a. (text, a))))
means_kind n d k (inr (inl is)) =
    one n d k (subst (Means n d) (sym is) (offer n d))
means_kind n d k (inr (inr (inl is))) =
    one n d k (subst (Means n d) (sym is) (tell n d))
means_kind n d k (inr (inr (inr (inl is)))) =
    one n d k (subst (Means n d) (sym is) (delivers n d kinds.Deliver events.Deliver Deliver (λ none. none) (λ i text has. (text, has)) (λ name is. is)))
means_kind n d k (inr (inr (inr (inr (inl is))))) =
    one n d k (subst (Means n d) (sym is) (delivers n d kinds.DeliverThenCrash events.DeliverThenCrash DeliverThenCrash (λ none. none) (λ i text has. (text, has)) (λ name is. is)))
means_kind n d k (inr (inr (inr (inr (inr (inl is)))))) = subst (Brings n d) (sym is) (deliver_all n d)
means_kind n d k (inr (inr (inr (inr (inr (inr (inl is))))))) =
    one n d k (subst (Means n d) (sym is) (single n d kinds.Crash keys.Node events.Crash (λ none. (own_keys (places.Event n) kinds.Crash d none).0) (λ x text a. (text, a))))
means_kind n d k (inr (inr (inr (inr (inr (inr (inr (inl is)))))))) =
    one n d k (subst (Means n d) (sym is) (single n d kinds.Restart keys.Node events.Restart (λ none. (own_keys (places.Event n) kinds.Restart d none).0) (λ x text a. (text, a))))
means_kind n d k (inr (inr (inr (inr (inr (inr (inr (inr (inl is))))))))) =
    one n d k (subst (Means n d) (sym is) (release n d))
means_kind n d k (inr (inr (inr (inr (inr (inr (inr (inr (inr (inl is)))))))))) =
    one n d k (subst (Means n d) (sym is) (hear n d))
means_kind n d k (inr (inr (inr (inr (inr (inr (inr (inr (inr (inr (inl is))))))))))) =
    one n d k (subst (Means n d) (sym is) (want n d))
means_kind n d k (inr (inr (inr (inr (inr (inr (inr (inr (inr (inr (inr (inl is)))))))))))) =
    one n d k (subst (Means n d) (sym is) (tick n d))
means_kind n d k (inr (inr (inr (inr (inr (inr (inr (inr (inr (inr (inr (inr none)))))))))))) = absurd none

-- a table without a fault means an entry
pub meant : (n : ℕ) (d : Data) → event_faults n d ≡ [] → (e : Entry) × MeansEntry d e
meant n d none =
    let all = both_empty (own_faults n d) (except_part n d (may_except (chosen kinds.Event d))) none in
    let whole = both_empty (table_faults (places.Event n) kinds.Event d) (offer_part n d (is_offer (chosen kinds.Event d))) all.0 in
    let parts = both_empty (key_faults (places.Event n) kinds.Event kinds.Event d) (kind_faults (places.Event n) (chosen kinds.Event d) d) whole.0 in
    let h = kept_keys (places.Event n) kinds.Event kinds.Event d parts.0 in
    let (k, is) = name (places.Event n) kinds.Event keys.Kind Events (get (codes "kind") d) h.0 in
    let (text, one) = named_text Events (get (codes "kind") d) k is in
    let faults : kind_faults (places.Event n) (Some k) d ≡ [] = rw is at parts.1 in
    let offers_none : offer_part n d (offers k) ≡ [] = rw is at whole.1 in
    let excepts_none : except_part n d (excepts_some k) ≡ [] = rw is at all.1 in
    means_kind n d k one text faults offers_none excepts_none

-- ---- from an entry to no fault

no_kind_fault : (n : ℕ) (d : Data) (k : Kind) → named Events (kind_name k) ≡ Some k → HasText d (codes "kind") (kind_name k) → kind_faults (places.Event n) (Some k) d ≡ [] → offer_part n d (offers k) ≡ [] → except_part n d (excepts_some k) ≡ [] → event_faults n d ≡ []
no_kind_fault n d k here text none part rest =
    let own : own_faults n d ≡ [] = rw (text, here, none) part in
    let excepted : except_part n d (may_except (chosen kinds.Event d)) ≡ [] = rw (text, here) rest in
    ap (λ (fs : List Fault). fs ++ except_part n d (may_except (chosen kinds.Event d))) own ∙ excepted

-- the faults of a table that means an event: none
no_event_fault : (n : ℕ) (d : Data) (e : Event) → MeansEvent d e → event_faults n d ≡ []
no_event_fault n d (events.Lead node) (text, a) =
    let h0 = no_number_fault (places.Event n) kinds.Lead keys.Node d 18446744073709551615 64 node refl a in
    no_kind_fault n d kinds.Lead refl text (no_more _ (of_none (fault_at (places.Event n) kinds.Lead d) (rows_of kinds.Lead) (h0, tt))) refl refl
no_event_fault n d (events.Offer node bytes) (text, a, b) =
    let h0 = no_number_fault (places.Event n) kinds.Offer keys.Node d 18446744073709551615 64 node refl a in
    no_kind_fault n d kinds.Offer refl text (no_more _ (of_none (fault_at (places.Event n) kinds.Offer d) (rows_of kinds.Offer) (h0, tt)))
    (no_offer_fault n (get (codes "command") d) (get (codes "value") d) bytes b) refl
no_event_fault n d (events.Tell node to place) (text, a, b, e) =
    let h0 = no_number_fault (places.Event n) kinds.Tell keys.Node d 18446744073709551615 64 node refl a in
    let h1 = no_node_fault (places.Event n) kinds.Tell keys.To d to b in
    let h2 = no_number_fault (places.Event n) kinds.Tell keys.Place d 18446744073709551615 64 place refl e in
    no_kind_fault n d kinds.Tell refl text (no_more _ (of_none (fault_at (places.Event n) kinds.Tell d) (rows_of kinds.Tell) (h0, (h1, (h2, tt))))) refl refl
no_event_fault n d (events.Deliver letter) (text, a) = no_kind_fault n d kinds.Deliver refl text (no_numbered_fault (places.Event n) kinds.Deliver d letter a) refl refl
no_event_fault n d (events.DeliverThenCrash letter) (text, a) = no_kind_fault n d kinds.DeliverThenCrash refl text (no_numbered_fault (places.Event n) kinds.DeliverThenCrash d letter a) refl refl
no_event_fault n d (events.Crash node) (text, a) =
    let h0 = no_number_fault (places.Event n) kinds.Crash keys.Node d 18446744073709551615 64 node refl a in
    no_kind_fault n d kinds.Crash refl text (no_more _ (of_none (fault_at (places.Event n) kinds.Crash d) (rows_of kinds.Crash) (h0, tt))) refl refl
no_event_fault n d (events.Restart node) (text, a) =
    let h0 = no_number_fault (places.Event n) kinds.Restart keys.Node d 18446744073709551615 64 node refl a in
    no_kind_fault n d kinds.Restart refl text (no_more _ (of_none (fault_at (places.Event n) kinds.Restart d) (rows_of kinds.Restart) (h0, tt))) refl refl
no_event_fault n d (events.Release node now) (text, a, b) =
    let h0 = no_number_fault (places.Event n) kinds.Release keys.Node d 18446744073709551615 64 node refl a in
    let h1 = no_number_fault (places.Event n) kinds.Release keys.Now d 18446744073709551615 64 now refl b in
    no_kind_fault n d kinds.Release refl text (no_more _ (of_none (fault_at (places.Event n) kinds.Release d) (rows_of kinds.Release) (h0, (h1, tt)))) refl refl
no_event_fault n d (events.Hear modem output near) (text, a, b, e) =
    let h0 = no_number_fault (places.Event n) kinds.Hear keys.Modem d 18446744073709551615 64 modem refl a in
    let h1 = no_number_fault (places.Event n) kinds.Hear keys.Output d 18446744073709551615 64 output refl b in
    let h2 = no_number_fault (places.Event n) kinds.Hear keys.Near d 9223372036854775807 63 near refl e in
    no_kind_fault n d kinds.Hear refl text (no_more _ (of_none (fault_at (places.Event n) kinds.Hear d) (rows_of kinds.Hear) (h0, (h1, (h2, tt))))) refl refl
no_event_fault n d (events.Want modem ch sid count) (text, a, b, e, f) =
    let h0 = no_number_fault (places.Event n) kinds.Want keys.Modem d 18446744073709551615 64 modem refl a in
    let h1 = no_number_fault (places.Event n) kinds.Want keys.Ch d 255 8 ch refl b in
    let h2 = no_number_fault (places.Event n) kinds.Want keys.Sid d 65535 16 sid refl e in
    let h3 = no_number_fault (places.Event n) kinds.Want keys.N d 65535 16 count refl f in
    no_kind_fault n d kinds.Want refl text (no_more _ (of_none (fault_at (places.Event n) kinds.Want d) (rows_of kinds.Want) (h0, (h1, (h2, (h3, tt)))))) refl refl
no_event_fault n d (events.Tick modem ch slot random) (text, a, b, e, f) =
    let h0 = no_number_fault (places.Event n) kinds.Tick keys.Modem d 18446744073709551615 64 modem refl a in
    let h1 = no_number_fault (places.Event n) kinds.Tick keys.Ch d 255 8 ch refl b in
    let h2 = no_number_fault (places.Event n) kinds.Tick keys.Slot d 9223372036854775807 63 slot refl e in
    let h3 = no_number_fault (places.Event n) kinds.Tick keys.Random d 18446744073709551615 64 random refl f in
    no_kind_fault n d kinds.Tick refl text (no_more _ (of_none (fault_at (places.Event n) kinds.Tick d) (rows_of kinds.Tick) (h0, (h1, (h2, (h3, tt)))))) refl refl

-- of one that means a step
no_step_fault : (n : ℕ) (d : Data) (s : Step) → MeansStep d s → event_faults n d ≡ []
no_step_fault n d (Plain event) h = no_event_fault n d event h
no_step_fault n d (Deliver name) h = no_kind_fault n d kinds.Deliver refl h.kind (no_named_fault (places.Event n) kinds.Deliver d name h.unnumbered h.name) refl refl
no_step_fault n d (DeliverThenCrash name) h = no_kind_fault n d kinds.DeliverThenCrash refl h.kind (no_named_fault (places.Event n) kinds.DeliverThenCrash d name h.unnumbered h.name) refl refl

-- and of one that means an entry
pub no_entry_fault : (n : ℕ) (d : Data) (e : Entry) → MeansEntry d e → event_faults n d ≡ []
no_entry_fault n d (One step) h = no_step_fault n d step h
no_entry_fault n d (All all) h =
    let none = no_excepts_fault n (places.Event n) kinds.DeliverAll (get (codes "except") d) all.except h.except in
    let count = no_rounds_fault (places.Event n) kinds.DeliverAll d all.rounds h.rounds in
    no_kind_fault n d kinds.DeliverAll refl h.kind (no_more _ (of_none (fault_at (places.Event n) kinds.DeliverAll d) (rows_of kinds.DeliverAll) (none.0, (count, tt)))) refl none.1
