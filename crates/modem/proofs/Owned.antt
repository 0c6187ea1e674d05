-- What a modem holds, it owns.
use Rattle.std.proofs.Common.{◌≡◌, ℕ, ◌-◌, ◌≤◌, List, [], ◌∷◌, inl, inr, sym, ◌∙◌, subst, arith, Contains}
use Rattle.minislot_time.specs.Wire.{IsNear}
use Rattle.modem.proofs.Times.{near_once}
use Rattle.map_body.specs.Body.{Body}
use Rattle.map_body.specs.Cell.{IsCell}
use Rattle.map_body.proofs.Callers.{one_body}
use Rattle.grant_machine.specs.declared.output.Output.{Output}
use Rattle.grant_machine.specs.declared.output.Output.TheVariants.{Nothing, ChannelSet, Assigned, Map as MapOutput}
use Rattle.grant_machine.specs.declared.output.Output.TheVariants.{Refused}
use Rattle.grant_machine.specs.Owner.{Owns, IsLeased}
use Rattle.modem.specs.Held.{Hearing, Held, HeldBy, Gives, WasLeased}
use Rattle.modem.specs.Owner.{AreSoundOutputs, IsMapOf, IsTimely, HeardFrom}

-- what was heard to be leased was leased
pub leased_of : (outputs : List Output) (id : ℕ) (hearings : List Hearing) (ch sid m : ℕ) → HeardFrom outputs hearings → WasLeased id hearings ch sid m → IsLeased outputs id ch sid m
leased_of outputs id [] ch sid m heard was = absurd was
leased_of outputs id (h ∷ earlier) ch sid m heard was =
    elim was [ inl l ↦ record { first = l.first; last = l.last; assigned = subst (λ (o : Output). Contains outputs o) l.assigned heard.0; begun = l.begun; not_ended = l.not_ended } | inr before ↦ leased_of outputs id earlier ch sid m heard.2 before ]

-- a Map that gives a cell near its start owns it
owner_of : (outputs : List Output) (id : ℕ) (o : Output) (near ch m sid iuc : ℕ) → AreSoundOutputs outputs → Contains outputs o → IsTimely o near → Gives o near ch m sid iuc → IsLeased outputs id ch sid m → Owns outputs ch m id
owner_of outputs id Nothing near ch m sid iuc schedule is_output timely gives assigned = absurd gives
owner_of outputs id (Refused n) near ch m sid iuc schedule is_output timely gives assigned = absurd gives
owner_of outputs id (ChannelSet c u) near ch m sid iuc schedule is_output timely gives assigned = absurd gives
owner_of outputs id (Assigned a c s f l) near ch m sid iuc schedule is_output timely gives assigned = absurd gives
owner_of outputs id (MapOutput c start len bytes) near ch m sid iuc schedule is_output timely (map, begin, starts, given) assigned =
    let facts = schedule.maps c start len bytes is_output in
    let one : facts.0 ≡ map = one_body bytes facts.0 map facts.1.body starts.body in
    let here : IsMapOf c start bytes map = subst (λ (o : Body). IsMapOf c start bytes o) one facts.1 in
    let near_start : IsNear map.head.start near start = record { low = here.start_is; not_earlier = omega (arith, timely.0); earlier = timely.1; fits = here.bound } in
    let same : begin ≡ start = near_once map.head.start near begin start starts.extension near_start in
    let channel : c ≡ ch = sym here.channel ∙ given.channel in
    let same_sid : given.cell.0.sid ≡ sid = given.cell.2 in
    record {
      element = given.cell.0;
      given = record {
        start = start;
        len = len;
        bytes = bytes;
        map = map;
        body = starts.body;
        told = subst (λ (n : ℕ). Contains outputs (MapOutput n start len bytes)) channel is_output;
        begun = subst (λ (n : ℕ). n ≤ m) same given.from;
        cell = subst (λ (n : ℕ). IsCell map (m - n) given.cell.0) same given.cell.1;
      };
      unicast = subst (λ (n : ℕ). (1 ≤ n) × (n ≤ 8191)) (sym same_sid) (schedule.unicast id ch sid assigned.first assigned.last assigned.assigned);
      assigned = subst (λ (n : ℕ). IsLeased outputs id ch n m) (sym same_sid) assigned;
    }

-- what a modem that heard outputs of a schedule holds, it owns
pub held_is_owned : (outputs : List Output) (id : ℕ) (hearings : List Hearing) (ch m sid iuc : ℕ) → AreSoundOutputs outputs → HeardFrom outputs hearings → HeldBy id hearings ch m sid iuc → Owns outputs ch m id
held_is_owned outputs id [] ch m sid iuc schedule heard held = absurd held
held_is_owned outputs id (h ∷ earlier) ch m sid iuc schedule heard held =
    elim held [ inl now ↦ owner_of outputs id h.output h.near ch m sid iuc schedule heard.0 heard.1 now.1 (leased_of outputs id earlier ch sid m heard.2 now.2) | inr before ↦ held_is_owned outputs id earlier ch m sid iuc schedule heard.2 before ]

pub all_held_is_owned : (outputs : List Output) (hearings : List Hearing) (id ch m sid : ℕ) → AreSoundOutputs outputs → HeardFrom outputs hearings → Held id hearings ch m sid → Owns outputs ch m id
all_held_is_owned outputs hearings id ch m sid schedule heard held = held_is_owned outputs id hearings ch m sid held.0 schedule heard held.1
