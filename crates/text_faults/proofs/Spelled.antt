-- A table without a fault spells a command, and one that spells a command has no fault.
use Rattle.std.proofs.Common.{◌≡◌, ℕ, inl, inr, List, [], ◌++◌, Some, None, codes, refl, sym, subst}
use Rattle.toml.specs.Data.{Data, get}
use Rattle.flow_state.specs.Limits.{last_time}
use Rattle.flow_state.specs.declared.flow.FlowKind.{FlowKind}
use Rattle.flow_state.specs.declared.flow.FlowKind.TheVariants as services
use Rattle.grant_machine.specs.declared.command.Command.{Command}
use Rattle.grant_machine.specs.declared.command.Command.TheVariants as commands
use Rattle.script_text.specs.Fields.{HasText}
use Rattle.script_text.specs.CommandTable.{HasService, HasSized, SpellsCommand}
use Rattle.text_faults.specs.declared.kind.Kind.{Kind}
use Rattle.text_faults.specs.declared.kind.Kind.TheVariants as kinds
use Rattle.text_faults.specs.declared.kind.Group.TheVariants.{Commands, Services}
use Rattle.text_faults.specs.declared.row.Key.TheVariants as keys
use Rattle.text_faults.specs.declared.row.Wants.TheVariants.{Name}
use Rattle.text_faults.specs.declared.fault.Place.{Place}
use Rattle.text_faults.specs.Kinds.{kind_name, kinds_of, named}
use Rattle.text_faults.specs.Rows.{rows_of, sized}
use Rattle.text_faults.specs.Faults.{fault_at, key_faults, chosen, service_faults, kind_faults, table_faults}
use Rattle.text_faults.proofs.Keys.{both_empty, NoneOf, none_of, of_none, number, no_number_fault, name, IsOneOf}
use Rattle.text_faults.proofs.Keys.{named_text, number_or, no_number_or_fault, phy, no_phy_fault, phy_or_tdma}
use Rattle.text_faults.proofs.Keys.{no_phy_or_tdma_fault, pair, no_pair_fault, pair_or, no_pair_or_fault}

-- the keys of a kind without a fault
pub kept_keys : (place : Place) (told kind : Kind) (d : Data) → key_faults place told kind d ≡ [] → NoneOf (fault_at place told d) (rows_of kind)
kept_keys place told kind d h = none_of (fault_at place told d) (rows_of kind) h

pub own_keys : (place : Place) (kind : Kind) (d : Data) → kind_faults place (Some kind) d ≡ [] → NoneOf (fault_at place kind d) (rows_of kind)
own_keys place kind d h = kept_keys place kind kind d (both_empty (key_faults place kind kind d) (service_faults place kind (chosen kind d) d) h).0

-- ---- from no fault to a command

-- a size, and when something of that size is due
sized_keys : (place : Place) (d : Data) → NoneOf (fault_at place kinds.Flow d) sized → (size : ℕ) × (interval : ℕ) × (jitter : ℕ) × (base : ℕ) × HasSized d size interval jitter base
sized_keys place d h =
    let (size, a) = number place kinds.Flow keys.Size d 65535 16 refl h.0 in
    let (interval, b) = number place kinds.Flow keys.Interval d 4294967295 32 refl h.1.0 in
    let (jitter, e) = number place kinds.Flow keys.Jitter d 4294967295 32 refl h.1.1.0 in
    let (base, f) = number place kinds.Flow keys.Base d 18446744073709551615 64 refl h.1.1.1.0 in
    (size, interval, jitter, base, (a, b, e, f))

-- what a flow's service is
service : (place : Place) (d : Data) (k : Kind) → IsOneOf k (kinds_of Services) → HasText d (codes "service") (kind_name k) → key_faults place kinds.Flow k d ≡ [] → (s : FlowKind) × HasService d s
service place d k (inl is) text none = subst (λ x. HasText d (codes "service") (kind_name x) → key_faults place kinds.Flow x d ≡ [] → (s : FlowKind) × HasService d s) (sym is) best_effort text none
  where
    best_effort : HasText d (codes "service") (codes "best_effort") → key_faults place kinds.Flow kinds.BestEffort d ≡ [] → (s : FlowKind) × HasService d s
    best_effort text none =
        let h = kept_keys place kinds.Flow kinds.BestEffort d none in
        let (priority, has) = number place kinds.Flow keys.Priority d 255 8 refl h.0 in
        (services.BestEffort priority, (text, has))
service place d k (inr (inl is)) text none = subst (λ x. HasText d (codes "service") (kind_name x) → key_faults place kinds.Flow x d ≡ [] → (s : FlowKind) × HasService d s) (sym is) ugs text none
  where
    ugs : HasText d (codes "service") (codes "ugs") → key_faults place kinds.Flow kinds.Ugs d ≡ [] → (s : FlowKind) × HasService d s
    ugs text none = let (size, interval, jitter, base, has) = sized_keys place d (kept_keys place kinds.Flow kinds.Ugs d none) in (services.Ugs size interval jitter base, (text, has))
service place d k (inr (inr (inl is))) text none = subst (λ x. HasText d (codes "service") (kind_name x) → key_faults place kinds.Flow x d ≡ [] → (s : FlowKind) × HasService d s) (sym is) poll text none
  where
    poll : HasText d (codes "service") (codes "poll") → key_faults place kinds.Flow kinds.Poll d ≡ [] → (s : FlowKind) × HasService d s
    poll text none =
        let h = kept_keys place kinds.Flow kinds.Poll d none in
        let (interval, b) = number place kinds.Flow keys.Interval d 4294967295 32 refl h.0 in
        let (jitter, e) = number place kinds.Flow keys.Jitter d 4294967295 32 refl h.1.0 in
        let (base, f) = number place kinds.Flow keys.Base d 18446744073709551615 64 refl h.1.1.0 in
        (services.Poll interval jitter base, (text, b, e, f))
service place d k (inr (inr (inr (inl is)))) text none = subst (λ x. HasText d (codes "service") (kind_name x) → key_faults place kinds.Flow x d ≡ [] → (s : FlowKind) × HasService d s) (sym is) station text none
  where
    station : HasText d (codes "service") (codes "station") → key_faults place kinds.Flow kinds.Station d ≡ [] → (s : FlowKind) × HasService d s
    station text none = let (size, interval, jitter, base, has) = sized_keys place d (kept_keys place kinds.Flow kinds.Station d none) in (services.Station size interval jitter base, (text, has))
service place d k (inr (inr (inr (inr (inl is))))) text none = subst (λ x. HasText d (codes "service") (kind_name x) → key_faults place kinds.Flow x d ≡ [] → (s : FlowKind) × HasService d s) (sym is) initial text none
  where
    initial : HasText d (codes "service") (codes "initial") → key_faults place kinds.Flow kinds.Initial d ≡ [] → (s : FlowKind) × HasService d s
    initial text none = let (size, interval, jitter, base, has) = sized_keys place d (kept_keys place kinds.Flow kinds.Initial d none) in (services.Initial size interval jitter base, (text, has))
service place d k (inr (inr (inr (inr (inr none))))) text faults = absurd none

abbrev Spells : Place → Data → Kind → Type 0
Spells place d k = HasText d (codes "kind") (kind_name k) → kind_faults place (Some k) d ≡ [] → (c : Command) × SpellsCommand d c

noop : (place : Place) (d : Data) → Spells place d kinds.Noop
noop place d text none = (commands.Noop, text)

channel : (place : Place) (d : Data) → Spells place d kinds.Channel
channel place d text none =
    let h = own_keys place kinds.Channel d none in
    let (id, a) = number place kinds.Channel keys.Ch d 255 8 refl h.0 in
    let (ucd, b) = number place kinds.Channel keys.Ucd d 255 8 refl h.1.0 in
    let (p, e) = phy_or_tdma place kinds.Channel d h.1.1.0 in
    let (short, f) = number place kinds.Channel keys.ShortMax d 65535 16 refl h.1.1.1.0 in
    let (ranging, g) = pair place kinds.Channel keys.Ranging d h.1.1.1.1.0 in
    let (request, i) = pair place kinds.Channel keys.Data d h.1.1.1.1.1.0 in
    let (base, j) = number place kinds.Channel keys.Base d 18446744073709551615 64 refl h.1.1.1.1.1.1.0 in (
      commands.Channel (record { id = id; ucd = ucd; phy = p; short_max = short; ranging_backoff = ranging; data_backoff = request; base = base }),
      (text, record { id = a; ucd = b; phy = e; short_max = f; ranging = g; data_backoff = i; base = j }),
    )

change : (place : Place) (d : Data) → Spells place d kinds.Change
change place d text none =
    let h = own_keys place kinds.Change d none in
    let (ch, a) = number place kinds.Change keys.Ch d 255 8 refl h.0 in
    let (ucd, b) = number place kinds.Change keys.Ucd d 255 8 refl h.1.0 in
    let (p, e) = phy place kinds.Change d h.1.1.0 in
    let (short, f) = number place kinds.Change keys.ShortMax d 65535 16 refl h.1.1.1.0 in
    let (ranging, g) = pair place kinds.Change keys.Ranging d h.1.1.1.1.0 in
    let (request, i) = pair place kinds.Change keys.Data d h.1.1.1.1.1.0 in (
      commands.Change ch (record { ucd = ucd; phy = p; short_max = short; ranging_backoff = ranging; data_backoff = request }),
      (text, a, record { ucd = b; phy = e; short_max = f; ranging = g; data_backoff = i }),
    )

flow : (place : Place) (d : Data) → Spells place d kinds.Flow
flow place d text none =
    let parts = both_empty (key_faults place kinds.Flow kinds.Flow d) (service_faults place kinds.Flow (chosen kinds.Flow d) d) none in
    let h = kept_keys place kinds.Flow kinds.Flow d parts.0 in
    let (ch, a) = number place kinds.Flow keys.Ch d 255 8 refl h.0 in
    let (modem, b) = number place kinds.Flow keys.Modem d 4294967295 32 refl h.1.0 in
    let (tag, e) = number place kinds.Flow keys.Tag d 4294967295 32 refl h.1.1.0 in
    let (end, f) = number_or place kinds.Flow keys.Last d 18446744073709551615 64 last_time refl h.1.1.1.0 in
    let (k, is) = name place kinds.Flow keys.Service Services (get (codes "service") d) h.1.1.1.1.0 in
    let (words, one) = named_text Services (get (codes "service") d) k is in
    let faults : key_faults place kinds.Flow k d ≡ [] = rw is at parts.1 in
    let (s, g) = service place d k one words faults in
    (commands.Flow ch modem tag end s, (text, a, b, e, f, g))

drop : (place : Place) (d : Data) → Spells place d kinds.Drop
drop place d text none =
    let h = own_keys place kinds.Drop d none in
    let (ch, a) = number place kinds.Drop keys.Ch d 255 8 refl h.0 in
    let (sid, b) = number place kinds.Drop keys.Sid d 65535 16 refl h.1.0 in
    (commands.Drop ch sid, (text, a, b))

request : (place : Place) (d : Data) → Spells place d kinds.Request
request place d text none =
    let h = own_keys place kinds.Request d none in
    let (ch, a) = number place kinds.Request keys.Ch d 255 8 refl h.0 in
    let (sid, b) = number place kinds.Request keys.Sid d 65535 16 refl h.1.0 in
    let (n, e) = number place kinds.Request keys.N d 65535 16 refl h.1.1.0 in
    let (sent, f) = number place kinds.Request keys.Sent d 18446744073709551615 64 refl h.1.1.1.0 in
    (commands.Request ch sid n sent, (text, a, b, e, f))

cut : (place : Place) (d : Data) → Spells place d kinds.Cut
cut place d text none =
    let h = own_keys place kinds.Cut d none in
    let (ch, a) = number place kinds.Cut keys.Ch d 255 8 refl h.0 in
    let (len, b) = number place kinds.Cut keys.Len d 65535 16 refl h.1.0 in
    let (not_before, e) = number place kinds.Cut keys.NotBefore d 18446744073709551615 64 refl h.1.1.0 in
    let (ack, f) = number place kinds.Cut keys.Ack d 18446744073709551615 64 refl h.1.1.1.0 in
    let (keep, g) = number_or place kinds.Cut keys.Keep d 65535 16 0 refl h.1.1.1.1.0 in
    let (ranging, i) = pair_or place kinds.Cut keys.Ranging d (255, 255) h.1.1.1.1.1.0 in
    let (sending, j) = pair_or place kinds.Cut keys.Data d (255, 255) h.1.1.1.1.1.1.0 in
    (commands.Cut ch len not_before ack keep ranging sending, (text, a, b, e, f, g, i, j))

spells_kind : (place : Place) (d : Data) (k : Kind) → IsOneOf k (kinds_of Commands) → Spells place d k
spells_kind place d k (inl is) = subst (Spells place d) (sym is) (noop place d)
spells_kind place d k (inr (inl is)) = subst (Spells place d) (sym is) (channel place d)
spells_kind place d k (inr (inr (inl is))) = subst (Spells place d) (sym is) (change place d)
spells_kind place d k (inr (inr (inr (inl is)))) = subst (Spells place d) (sym is) (flow place d)
spells_kind place d k (inr (inr (inr (inr (inl is))))) = subst (Spells place d) (sym is) (drop place d)
spells_kind place d k (inr (inr (inr (inr (inr (inl is)))))) = subst (Spells place d) (sym is) (request place d)
spells_kind place d k (inr (inr (inr (inr (inr (inr (inl is))))))) = subst (Spells place d) (sym is) (cut place d)
spells_kind place d k (inr (inr (inr (inr (inr (inr (inr none))))))) = absurd none

-- a table without a fault spells a command
pub spelled : (place : Place) (d : Data) → table_faults place kinds.Command d ≡ [] → (c : Command) × SpellsCommand d c
spelled place d none =
    let parts = both_empty (key_faults place kinds.Command kinds.Command d) (kind_faults place (chosen kinds.Command d) d) none in
    let h = kept_keys place kinds.Command kinds.Command d parts.0 in
    let (k, is) = name place kinds.Command keys.Kind Commands (get (codes "kind") d) h.0 in
    let (text, one) = named_text Commands (get (codes "kind") d) k is in
    let faults : kind_faults place (Some k) d ≡ [] = rw is at parts.1 in
    spells_kind place d k one text faults

-- ---- from a command to no fault

-- a table of a kind has no fault where that kind has none
pub no_kind_fault : (place : Place) (d : Data) (k : Kind) → named Commands (kind_name k) ≡ Some k → HasText d (codes "kind") (kind_name k) → kind_faults place (Some k) d ≡ [] → table_faults place kinds.Command d ≡ []
no_kind_fault place d k here text none = rw (text, here) none

no_sized_fault : (place : Place) (d : Data) (size interval jitter base : ℕ) → HasSized d size interval jitter base → NoneOf (fault_at place kinds.Flow d) sized
no_sized_fault place d size interval jitter base (a, b, e, f) =
    let h0 = no_number_fault place kinds.Flow keys.Size d 65535 16 size refl a in
    let h1 = no_number_fault place kinds.Flow keys.Interval d 4294967295 32 interval refl b in
    let h2 = no_number_fault place kinds.Flow keys.Jitter d 4294967295 32 jitter refl e in
    let h3 = no_number_fault place kinds.Flow keys.Base d 18446744073709551615 64 base refl f in
    (h0, (h1, (h2, (h3, tt))))

no_service_fault : (place : Place) (d : Data) (s : FlowKind) → HasService d s → (fault_at place kinds.Flow d (keys.Service, Name Services) ≡ None) × (service_faults place kinds.Flow (chosen kinds.Flow d) d ≡ [])
no_service_fault place d (services.BestEffort priority) (text, has) =
    let none = no_number_fault place kinds.Flow keys.Priority d 255 8 priority refl has in
    (rw text refl, rw text (of_none (fault_at place kinds.Flow d) (rows_of kinds.BestEffort) (none, tt)))
no_service_fault place d (services.Ugs size interval jitter base) (text, has) =
    (rw text refl, rw text (of_none (fault_at place kinds.Flow d) (rows_of kinds.Ugs) (no_sized_fault place d size interval jitter base has)))
no_service_fault place d (services.Station size interval jitter base) (text, has) =
    (rw text refl, rw text (of_none (fault_at place kinds.Flow d) (rows_of kinds.Station) (no_sized_fault place d size interval jitter base has)))
no_service_fault place d (services.Initial size interval jitter base) (text, has) =
    (rw text refl, rw text (of_none (fault_at place kinds.Flow d) (rows_of kinds.Initial) (no_sized_fault place d size interval jitter base has)))
no_service_fault place d (services.Poll interval jitter base) (text, b, e, f) =
    let h1 = no_number_fault place kinds.Flow keys.Interval d 4294967295 32 interval refl b in
    let h2 = no_number_fault place kinds.Flow keys.Jitter d 4294967295 32 jitter refl e in
    let h3 = no_number_fault place kinds.Flow keys.Base d 18446744073709551615 64 base refl f in
    (rw text refl, rw text (of_none (fault_at place kinds.Flow d) (rows_of kinds.Poll) (h1, (h2, (h3, tt)))))

pub no_more : {X : Type 0} (xs : List X) → xs ≡ [] → xs ++ [] ≡ []
no_more xs h = rw h refl

-- the faults of a table that spells a command: none
pub no_command_fault : (place : Place) (d : Data) (c : Command) → SpellsCommand d c → table_faults place kinds.Command d ≡ []
no_command_fault place d commands.Noop text = no_kind_fault place d kinds.Noop refl text refl
no_command_fault place d (commands.Channel ch) (text, has) =
    let h0 = no_number_fault place kinds.Channel keys.Ch d 255 8 _ refl has.id in
    let h1 = no_number_fault place kinds.Channel keys.Ucd d 255 8 _ refl has.ucd in
    let h2 = no_phy_or_tdma_fault place kinds.Channel d _ has.phy in
    let h3 = no_number_fault place kinds.Channel keys.ShortMax d 65535 16 _ refl has.short_max in
    let h4 = no_pair_fault place kinds.Channel keys.Ranging d _ has.ranging in
    let h5 = no_pair_fault place kinds.Channel keys.Data d _ has.data_backoff in
    let h6 = no_number_fault place kinds.Channel keys.Base d 18446744073709551615 64 _ refl has.base in
    let none = of_none (fault_at place kinds.Channel d) (rows_of kinds.Channel) (h0, (h1, (h2, (h3, (h4, (h5, (h6, tt))))))) in
    no_kind_fault place d kinds.Channel refl text (no_more _ none)
no_command_fault place d (commands.Change ch s) (text, a, has) =
    let h0 = no_number_fault place kinds.Change keys.Ch d 255 8 ch refl a in
    let h1 = no_number_fault place kinds.Change keys.Ucd d 255 8 _ refl has.ucd in
    let h2 = no_phy_fault place kinds.Change d _ has.phy in
    let h3 = no_number_fault place kinds.Change keys.ShortMax d 65535 16 _ refl has.short_max in
    let h4 = no_pair_fault place kinds.Change keys.Ranging d _ has.ranging in
    let h5 = no_pair_fault place kinds.Change keys.Data d _ has.data_backoff in
    let none = of_none (fault_at place kinds.Change d) (rows_of kinds.Change) (h0, (h1, (h2, (h3, (h4, (h5, tt)))))) in
    no_kind_fault place d kinds.Change refl text (no_more _ none)
no_command_fault place d (commands.Flow ch modem tag end s) (text, a, b, e, f, g) =
    let h0 = no_number_fault place kinds.Flow keys.Ch d 255 8 ch refl a in
    let h1 = no_number_fault place kinds.Flow keys.Modem d 4294967295 32 modem refl b in
    let h2 = no_number_fault place kinds.Flow keys.Tag d 4294967295 32 tag refl e in
    let h3 = no_number_or_fault place kinds.Flow keys.Last d 18446744073709551615 64 last_time end refl f in
    let served = no_service_fault place d s g in
    let none = of_none (fault_at place kinds.Flow d) (rows_of kinds.Flow) (h0, (h1, (h2, (h3, (served.0, tt))))) in
    no_kind_fault place d kinds.Flow refl text (rw (none, served.1) refl)
no_command_fault place d (commands.Drop ch sid) (text, a, b) =
    let h0 = no_number_fault place kinds.Drop keys.Ch d 255 8 ch refl a in
    let h1 = no_number_fault place kinds.Drop keys.Sid d 65535 16 sid refl b in
    let none = of_none (fault_at place kinds.Drop d) (rows_of kinds.Drop) (h0, (h1, tt)) in
    no_kind_fault place d kinds.Drop refl text (no_more _ none)
no_command_fault place d (commands.Request ch sid n sent) (text, a, b, e, f) =
    let h0 = no_number_fault place kinds.Request keys.Ch d 255 8 ch refl a in
    let h1 = no_number_fault place kinds.Request keys.Sid d 65535 16 sid refl b in
    let h2 = no_number_fault place kinds.Request keys.N d 65535 16 n refl e in
    let h3 = no_number_fault place kinds.Request keys.Sent d 18446744073709551615 64 sent refl f in
    let none = of_none (fault_at place kinds.Request d) (rows_of kinds.Request) (h0, (h1, (h2, (h3, tt)))) in
    no_kind_fault place d kinds.Request refl text (no_more _ none)
no_command_fault place d (commands.Cut ch len not_before ack keep ranging sending) (text, a, b, e, f, g, i, j) =
    let h0 = no_number_fault place kinds.Cut keys.Ch d 255 8 ch refl a in
    let h1 = no_number_fault place kinds.Cut keys.Len d 65535 16 len refl b in
    let h2 = no_number_fault place kinds.Cut keys.NotBefore d 18446744073709551615 64 not_before refl e in
    let h3 = no_number_fault place kinds.Cut keys.Ack d 18446744073709551615 64 ack refl f in
    let h4 = no_number_or_fault place kinds.Cut keys.Keep d 65535 16 0 keep refl g in
    let h5 = no_pair_or_fault place kinds.Cut keys.Ranging d (255, 255) ranging i in
    let h6 = no_pair_or_fault place kinds.Cut keys.Data d (255, 255) sending j in
    let none = of_none (fault_at place kinds.Cut d) (rows_of kinds.Cut) (h0, (h1, (h2, (h3, (h4, (h5, (h6, tt))))))) in
    no_kind_fault place d kinds.Cut refl text (no_more _ none)
