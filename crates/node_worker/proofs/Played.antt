-- Sound records, and modems that listened to their outputs, are a run.
use Rattle.std.proofs.Common.{inl, inr, ◌⊎◌, ◌≡◌, ℕ, zero, suc, ◌<◌, List, [], ◌∷◌, ◌++◌, length, take, map, replicate}
use Rattle.std.proofs.Common.{refl, sym, ap, subst, ◌∙◌, append_assoc, Some, slice_get, slice_set, ⊎_elim, arith}
use Rattle.std.proofs.lemmas.Bool.{eq-eqb}
use Rattle.std.proofs.lemmas.List.{append-nil, length-set, length-replicate}
use Rattle.std.proofs.lemmas.Option.{slice_get_within, get_or_from_slice_get, slice_get-get_or}
use Rattle.std.proofs.lemmas.List.{get_or-replicate}
use Rattle.ballots.specs.declared.letters.Letter.{Letter}
use Rattle.flow_state.proofs.Callers.{contains_at}
use Rattle.modem.specs.State.{State}
use Rattle.node.specs.View.{Standing}
use Rattle.world_events.specs.declared.event.Event.{Event}
use Rattle.world_events.specs.declared.event.Event.TheVariants as event
use Rattle.seats.specs.declared.answer.Answer.{Answer}
use Rattle.seats.specs.declared.answer.ReleasedOutput.{ReleasedOutput}
use Rattle.seats.specs.declared.answer.Transmission.{Transmission}
use Rattle.seats.specs.declared.answer.Answer.TheVariants as answer
use Rattle.network_script.proofs.Callers.{headline, modems_are_named, get_some}
use Rattle.command_log.specs.Values.{Owner}
use Rattle.network_script.proofs.Callers.{in_right, get_same, get_other}
use Rattle.ballots.specs.Voting.{IsIn}
use Rattle.network_script.specs.World.{Written, released_by, opening as opening_world}
use Rattle.seats.specs.Receiver.{Receiver, new_receiver}
use Rattle.seats.specs.Modems.{sent_at, ModemNext}
use Rattle.network_script.specs.Next.{Goes}
use Rattle.seats.specs.Receiving.{AreReceivers}
use Rattle.node_worker.specs.declared.entry.Ask.TheVariants.{Lead, Offer, Tell, Release, Crash, Restart}
use Rattle.node_worker.specs.declared.entry.Cause.{Cause}
use Rattle.node_worker.specs.declared.entry.Cause.TheVariants.{Ask as Asked, Letter as Came}
use Rattle.node_worker.specs.declared.entry.Done.{Done}
use Rattle.node_worker.specs.Entries.{EntryView}
use Rattle.node_worker.specs.Replays.{EntryStep, Replays, answer_of, opening}
use Rattle.node_worker.specs.Legal.{entries_of, letters_of, outputs_of, Comes, IsSound}
use Rattle.node_worker.specs.Runs.{IsEvent, ReadAs, ListensAlong, sent_by, IsModemEvent, IsOfModem, IsSilent, Listened}
use Rattle.node_worker.specs.Runs.{HaveListened, SoundIsRun, SoundIsLegal, AreLegal, SendsAsOwner}
use Rattle.node_worker.proofs.Comparisons.{entries_of_cons}
use Rattle.node_worker.proofs.Plants.{entries_of_one}
use Rattle.node_worker.proofs.Wholes.{at_one}
use Rattle.node_worker.proofs.Moving.{entry_moves}
use Rattle.node_worker.proofs.Listening.{listened_on}

-- from this world on, these records and what the modems then did
record Played (members : ℕ) (w : Written) (records : List Done) (rs : List Receiver) (sent : List Transmission) : Type 0 where
  script : List Event
  report : List Answer
  world : Written
  read : ReadAs w.letters records script report
  goes : Goes members w script report world
  letters : world.letters ≡ w.letters ++ letters_of records
  outputs : world.outputs ≡ w.outputs ++ outputs_of records
  modems : world.modems ≡ rs
  transmissions : world.transmissions ≡ w.transmissions ++ sent
  stand : (k : ℕ) (s : Standing) → slice_get w.nodes k ≡ Some s → (t : Standing) × (slice_get world.nodes k ≡ Some t) × Replays members k s (entries_of k records) t

-- one event of a modem, and what follows
abbrev after_modem : Written → List Receiver → Event → Answer → Written
after_modem w mid e told = record w { modems = mid; transmissions = w.transmissions ++ sent_at e told }

modems_go : (members : ℕ) (w : Written) (events : List Event) (answers : List Answer) (rs : List Receiver) → ListensAlong w.outputs w.modems events answers rs → Played members w [] rs (sent_by events answers)
modems_go members w [] [] rs listens = record { script = []; report = []; world = w; read = refl; goes = refl; letters = sym (append-nil w.letters); outputs = sym (append-nil w.outputs); modems = sym listens; transmissions = sym (append-nil w.transmissions); stand = λ k s at. (s, at, refl) }
modems_go members w (event.Hear m i near ∷ events) (told ∷ answers) rs (mid, (within, step), listens) =
    let rest = modems_go members (after_modem w mid (event.Hear m i near) told) events answers rs listens in
    record { script = event.Hear m i near ∷ rest.script; report = told ∷ rest.report; world = rest.world; read = rest.read; goes = (after_modem w mid (event.Hear m i near) told, (mid, step, refl), rest.goes); letters = rest.letters; outputs = rest.outputs; modems = rest.modems; transmissions = rest.transmissions ∙ append_assoc w.transmissions (sent_at (event.Hear m i near) told) (sent_by events answers); stand = rest.stand }
modems_go members w (event.Want m ch sid n ∷ events) (told ∷ answers) rs (mid, (within, step), listens) =
    let rest = modems_go members (after_modem w mid (event.Want m ch sid n) told) events answers rs listens in
    record { script = event.Want m ch sid n ∷ rest.script; report = told ∷ rest.report; world = rest.world; read = rest.read; goes = (after_modem w mid (event.Want m ch sid n) told, (mid, step, refl), rest.goes); letters = rest.letters; outputs = rest.outputs; modems = rest.modems; transmissions = rest.transmissions ∙ append_assoc w.transmissions (sent_at (event.Want m ch sid n) told) (sent_by events answers); stand = rest.stand }
modems_go members w (event.Tick m ch slot random ∷ events) (told ∷ answers) rs (mid, (within, step), listens) =
    let rest = modems_go members (after_modem w mid (event.Tick m ch slot random) told) events answers rs listens in
    record { script = event.Tick m ch slot random ∷ rest.script; report = told ∷ rest.report; world = rest.world; read = rest.read; goes = (after_modem w mid (event.Tick m ch slot random) told, (mid, step, refl), rest.goes); letters = rest.letters; outputs = rest.outputs; modems = rest.modems; transmissions = rest.transmissions ∙ append_assoc w.transmissions (sent_at (event.Tick m ch slot random) told) (sent_by events answers); stand = rest.stand }
modems_go members w (other ∷ events) (told ∷ answers) rs listens = absurd listens.1.0
modems_go members w events answers rs listens = absurd listens

-- each node's records replay from what it is
abbrev EachGoes : ℕ → List Standing → List Done → Type 0
EachGoes members nodes records = (k : ℕ) (s : Standing) → slice_get nodes k ≡ Some s → (t : Standing) × Replays members k s (entries_of k records) t

-- each received letter was sent before, or by an earlier record
abbrev ComesFrom : List Letter → List Done → Type 0
ComesFrom sent records = (i : ℕ) (d : Done) → slice_get records i ≡ Some d → Comes (sent ++ letters_of (take i records)) d.node d.entry.cause

-- each record is of one of so many nodes
abbrev Within : ℕ → List Done → Type 0
Within count records = (i : ℕ) (d : Done) → slice_get records i ≡ Some d → d.node < count

-- a cause that may come is an event
event_of : (sent : List Letter) (k : ℕ) (cause : Cause) → Comes sent k cause → (e : Event) × IsEvent sent k cause e
event_of sent k (Asked Lead) comes = (event.Lead k, refl)
event_of sent k (Asked (Offer value)) comes = (event.Offer k value, refl)
event_of sent k (Asked (Tell to place)) comes = (event.Tell k to place, refl)
event_of sent k (Asked (Release now)) comes = (event.Release k now, refl)
event_of sent k (Asked Crash) comes = (event.Crash k, refl)
event_of sent k (Asked Restart) comes = (event.Restart k, refl)
event_of sent k (Came l) comes = let at = contains_at sent l comes.1 in (event.Deliver at.0, (at.0, at.1, comes.0, refl))

-- a cause of a node is no event of a modem
no_modem : (sent : List Letter) (k : ℕ) (cause : Cause) (e : Event) → IsEvent sent k cause e → IsModemEvent e → ⊥
no_modem sent k (Asked Lead) e is of_modem = subst IsModemEvent is of_modem
no_modem sent k (Asked ask) e is of_modem = subst IsModemEvent is of_modem
no_modem sent k (Came l) e is of_modem = subst IsModemEvent is.3 of_modem

-- one record is read as its event
reads : (sent : List Letter) (d : Done) (ds : List Done) (e : Event) (script : List Event) (report : List Answer)
    → IsEvent sent d.node d.entry.cause e → ReadAs (sent ++ d.entry.letters) ds script report
    → ReadAs sent (d ∷ ds) (e ∷ script) (answer_of d.entry.cause d.entry.ended d.entry.letters d.entry.outputs ∷ report)
reads sent d ds (event.Hear m i near) script report is rest = absurd (no_modem sent d.node d.entry.cause (event.Hear m i near) is tt)
reads sent d ds (event.Want m ch sid n) script report is rest = absurd (no_modem sent d.node d.entry.cause (event.Want m ch sid n) is tt)
reads sent d ds (event.Tick m ch slot random) script report is rest = absurd (no_modem sent d.node d.entry.cause (event.Tick m ch slot random) is tt)
reads sent d ds of_node script report is rest = (is, refl, rest)

goes : (members : ℕ) (w : Written) (records : List Done) (events : List Event) (answers : List Answer) (rs : List Receiver)
    → EachGoes members w.nodes records → ComesFrom w.letters records → Within (length w.nodes) records
    → ListensAlong (w.outputs ++ outputs_of records) w.modems events answers rs → Played members w records rs (sent_by events answers)
goes members w [] events answers rs each comes named listens = modems_go members w events answers rs (subst (λ (xs : List ReleasedOutput). ListensAlong xs w.modems events answers rs) (append-nil w.outputs) listens)
goes members w (d ∷ ds) events answers rs each comes named listens =
    let within : d.node < length w.nodes = named zero d refl in
    let s : (s : Standing) × (slice_get w.nodes d.node ≡ Some s) = get_some w.nodes d.node within in
    let its : (t : Standing) × Replays members d.node s.0 (entries_of d.node (d ∷ ds)) t = each d.node s.0 s.1 in
    let first : entries_of d.node (d ∷ ds) ≡ d.entry ∷ entries_of d.node ds = entries_of_cons d.node d ds (eq-eqb d.node d.node refl) in
    let P : List EntryView → Type 0 = λ es. Replays members d.node s.0 es its.0 in
    let step : (m : Standing) × EntryStep members d.node s.0 d.entry m × Replays members d.node m (entries_of d.node ds) its.0 = subst P first its.1 in
    let Q : List Letter → Type 0 = λ ls. Comes ls d.node d.entry.cause in
    let e = event_of w.letters d.node d.entry.cause (subst Q (append-nil w.letters) (comes zero d refl)) in
    let m = entry_moves members w d.node s.0 step.0 d.entry e.0 s.1 step.1 e.1 in
    let nodes : List Standing = slice_set w.nodes d.node step.0 in
    let each' : EachGoes members nodes ds =
    λ k u at.
    ⊎_elim
    (λ same.
    let R : ℕ → Type 0 = λ n. (t : Standing) × Replays members n step.0 (entries_of n ds) t in
    let S : Standing → Type 0 = λ x. (t : Standing) × Replays members k x (entries_of k ds) t in
    let is : step.0 ≡ u = at_one nodes k step.0 u (ap (slice_get nodes) (sym same.0) ∙ get_same w.nodes d.node step.0 within) at in
    subst S is (subst R same.0 (its.0, step.2)))
    (λ other.
    let T : List EntryView → Type 0 = λ es. (t : Standing) × Replays members k u es t in
    subst T other.1 (each k u (sym (get_other w.nodes d.node k step.0 other.0) ∙ at)))
    (entries_of_one k d ds) in
    let comes' : ComesFrom (w.letters ++ d.entry.letters) ds =
    λ i x at. subst (λ (ls : List Letter). Comes ls x.node x.entry.cause) (sym (append_assoc w.letters d.entry.letters (letters_of (take i ds)))) (comes (suc i) x at) in
    let named' : Within (length nodes) ds = λ i x at. subst (λ (n : ℕ). x.node < n) (sym (length-set w.nodes d.node step.0)) (named (suc i) x at) in
    let given : List ReleasedOutput = released_by d.node d.entry.outputs in
    let listens' : ListensAlong ((w.outputs ++ given) ++ outputs_of ds) w.modems events answers rs =
    subst (λ (xs : List ReleasedOutput). ListensAlong xs w.modems events answers rs) (sym (append_assoc w.outputs given (outputs_of ds))) listens in
    let rest : Played members m.0 ds rs (sent_by events answers) =
    goes members m.0 ds events answers rs
    (subst (λ (ns : List Standing). EachGoes members ns ds) (sym m.2.nodes) each')
    (subst (λ (ls : List Letter). ComesFrom ls ds) (sym m.2.sent) comes')
    (subst (λ (ns : List Standing). Within (length ns) ds) (sym m.2.nodes) named')
    (subst (λ (xs : List ReleasedOutput). ListensAlong (xs ++ outputs_of ds) m.0.modems events answers rs) (sym m.2.given)
    (subst (λ (ms : List Receiver). ListensAlong ((w.outputs ++ given) ++ outputs_of ds) ms events answers rs) (sym m.2.modems) listens')) in
    record {
      script = e.0 ∷ rest.script;
      report = answer_of d.entry.cause d.entry.ended d.entry.letters d.entry.outputs ∷ rest.report;
      world = rest.world;
      read = reads w.letters d ds e.0 rest.script rest.report e.1 (subst (λ (ls : List Letter). ReadAs ls ds rest.script rest.report) m.2.sent rest.read);
      goes = (m.0, m.1, rest.goes);
      letters = rest.letters ∙ (ap (λ ls. ls ++ letters_of ds) m.2.sent ∙ append_assoc w.letters d.entry.letters (letters_of ds));
      outputs = rest.outputs ∙ (ap (λ xs. xs ++ outputs_of ds) m.2.given ∙ append_assoc w.outputs given (outputs_of ds));
      modems = rest.modems;
      transmissions = rest.transmissions ∙ ap (λ xs. xs ++ sent_by events answers) m.2.transmissions;
      stand = λ k u at.
          ⊎_elim
          (λ same.
          let r = rest.stand d.node step.0 (ap (λ ns. slice_get ns d.node) m.2.nodes ∙ get_same w.nodes d.node step.0 within) in
          let is : s.0 ≡ u = at_one w.nodes k s.0 u (ap (slice_get w.nodes) (sym same.0) ∙ s.1) at in
          let here : Replays members d.node s.0 (entries_of d.node (d ∷ ds)) r.0 = subst (λ (es : List EntryView). Replays members d.node s.0 es r.0) (sym first) (step.0, step.1, r.2) in
          let there : Replays members k s.0 (entries_of k (d ∷ ds)) r.0 = subst (λ (n : ℕ). Replays members n s.0 (entries_of n (d ∷ ds)) r.0) same.0 here in
          (r.0, subst (λ (n : ℕ). slice_get rest.world.nodes n ≡ Some r.0) same.0 r.1, subst (λ (x : Standing). Replays members k x (entries_of k (d ∷ ds)) r.0) is there))
          (λ other.
          let r = rest.stand k u (ap (λ ns. slice_get ns k) m.2.nodes ∙ (get_other w.nodes d.node k step.0 other.0 ∙ at)) in
          (r.0, r.1, subst (λ (es : List EntryView). Replays members k u es r.0) (sym other.1) r.2))
          (entries_of_one k d ds);
    }

-- node k of the opening world
opening_at : (members k : ℕ) (s : Standing) → slice_get (replicate members opening) k ≡ Some s → (opening ≡ s) × (k < members)
opening_at members k s at =
    let within : k < length (replicate members opening) = slice_get_within (replicate members opening) k s at in
    let below : k < members = omega (arith, within, length-replicate members opening) in
    (sym (get_or-replicate members k opening opening below) ∙ get_or_from_slice_get (replicate members opening) k s opening at, below)

pub sound_is_run : SoundIsRun
sound_is_run members ids records modems sent sound listened =
    let played : Played members (opening_world members ids) records listened.receivers (sent_by listened.events listened.answers) =
    goes members (opening_world members ids) records listened.events listened.answers listened.receivers
    (λ k s at.
    let is : (opening ≡ s) × (k < members) = opening_at members k s at in
    let P : Standing → Type 0 = λ x. (t : Standing) × Replays members k x (entries_of k records) t in
    subst P is.0 (sound.replay k is.1))
    (λ i d at. sound.come i d at)
    (λ i d at.
    let P : Done → Type 0 = λ x. x.node < members in
    let Q : ℕ → Type 0 = λ n. d.node < n in
    subst Q (sym (length-replicate members opening)) (subst P (get_or_from_slice_get records i d d at) (sound.named i d (slice_get_within records i d at))))
    listened.listened in
    record {
      script = played.script;
      report = played.report;
      world = played.world;
      read = played.read;
      run = played.goes;
      letters = played.letters;
      outputs = played.outputs;
      hold = subst (λ (rs : List Receiver). AreReceivers modems rs) (sym played.modems) listened.hold;
      transmissions = played.transmissions ∙ sym listened.sends;
      nodes = λ k within. played.stand k opening
          (slice_get-get_or (replicate members opening) k opening (omega (arith, length-replicate members opening)) ∙ ap (λ x. Some x) (get_or-replicate members k opening opening within));
    }

-- the modem that stands for a receiver
state_of : (vs : List State) (rs : List Receiver) (j : ℕ) (r : Receiver) → AreReceivers vs rs → slice_get rs j ≡ Some r → (v : State) × (slice_get vs j ≡ Some v)
state_of [] [] j r are at = absurd (cc (at))
state_of (w ∷ vs) (x ∷ rs) zero r are at = (w, refl)
state_of (w ∷ vs) (x ∷ rs) (suc j) r are at = state_of vs rs j r are.1 at
state_of vs rs j r are at = absurd are

-- modems are known by the ids of what they stand for
named_by : (ids : List ℕ) (vs : List State) (rs : List Receiver) → AreReceivers vs rs → ((j : ℕ) (r : Receiver) → slice_get rs j ≡ Some r → slice_get ids j ≡ Some r.state.id)
    → (j : ℕ) (v : State) → slice_get vs j ≡ Some v → slice_get ids j ≡ Some v.id
named_by ids vs rs are named j v at =
    let r = receiver_of vs rs j v are at in
    named j r.0 r.1 ∙ ap (λ (x : State). Some x.id) r.2
  where
    receiver_of : (vs : List State) (rs : List Receiver) (j : ℕ) (v : State) → AreReceivers vs rs → slice_get vs j ≡ Some v → (r : Receiver) × (slice_get rs j ≡ Some r) × (r.state ≡ v)
    receiver_of [] rs j v are at = absurd (cc (at))
    receiver_of (w ∷ vs) [] j v are at = absurd are
    receiver_of (w ∷ vs) (r ∷ rs) zero v are at = (r, refl, are.0.state ∙ (let same : w ≡ v = cc (at) in same))
    receiver_of (w ∷ vs) (r ∷ rs) (suc j) v are at = receiver_of vs rs j v are.1 at

-- modems that sent this and the records are legal
abbrev legal_with : (members : ℕ) (ids : List ℕ) (records : List Done) (modems : List State) (sent : List Transmission) → IsSound members records → HaveListened ids (outputs_of records) modems sent → AreLegal members records modems
legal_with members ids records modems sent sound listened =
    let run = sound_is_run members ids records modems sent sound listened in
    let all = headline members ids run.script run.report run.world run.run in
    record { sound = sound; ids = ids; sent = sent; run = run; named = named_by ids modems run.world.modems run.hold (modems_are_named members ids run.script run.report run.world run.run); values = all.0; follows = all.1 }

pub sound_is_legal : SoundIsLegal
sound_is_legal members records modems sound listened = legal_with members listened.0 records modems listened.1 sound listened.2

-- with no modem
pub sound_alone : (members : ℕ) (records : List Done) → IsSound members records → AreLegal members records []
sound_alone members records sound = sound_is_legal members records [] sound ([], [], record { events = []; answers = []; receivers = []; listened = refl; hold = tt; sends = refl })

sent_last : (events : List Event) (answers : List Answer) (e : Event) (told : Answer) → length events ≡ length answers → (x : Transmission) → IsIn (sent_at e told) x → IsIn (sent_by (events ++ e ∷ []) (answers ++ told ∷ [])) x
sent_last [] [] e told same x here = subst (λ (xs : List Transmission). IsIn xs x) (sym (append-nil (sent_at e told))) here
sent_last (f ∷ events) (answer ∷ answers) e told same x here = in_right (sent_at f answer) (sent_by (events ++ e ∷ []) (answers ++ told ∷ [])) x (sent_last events answers e told (omega (arith, same)) x here)
sent_last events answers e told same x here = absurd (omega (arith, same))

listens_length : (xs : List ReleasedOutput) (rs rs' : List Receiver) (events : List Event) (answers : List Answer) → ListensAlong xs rs events answers rs' → length events ≡ length answers
listens_length xs rs rs' [] [] listens = refl
listens_length xs rs rs' (e ∷ events) (told ∷ answers) (mid, step, rest) = ap suc (listens_length xs mid rs' events answers rest)
listens_length xs rs rs' events answers listens = absurd listens

-- a modem that sends at its last event does so as the owner
pub sends_as_owner : (members : ℕ) (ids : List ℕ) (records : List Done) (old new : List State) (sent : List Transmission) (e : Event) (told : Answer) → IsSound members records
    → (was : HaveListened ids (outputs_of records) old sent) → (now : List Transmission) → HaveListened ids (outputs_of records) new now → now ≡ sent_by (was.events ++ e ∷ []) (was.answers ++ told ∷ [])
    → SendsAsOwner members records new e told
sends_as_owner members ids records old new sent (event.Tick m ch slot random) (answer.Ticked (Some sending)) sound was now listened is = λ sid unicast.
    let all = legal_with members ids records new now sound listened in
    let x : Transmission = record { modem = m; channel = ch; slot = slot; sending = sending } in
    let there = sent_last was.events was.answers (event.Tick m ch slot random) (answer.Ticked (Some sending)) (listens_length (outputs_of records) (map new_receiver ids) was.receivers was.events was.answers was.listened) x (inl refl) in
    let own = all.follows.by_owner x sid (subst (λ (xs : List Transmission). IsIn xs x) (sym (all.run.transmissions ∙ is)) there) unicast in
    let held = all.follows.sent x sid (subst (λ (xs : List Transmission). IsIn xs x) (sym (all.run.transmissions ∙ is)) there) unicast in
    let v : (v : State) × (slice_get new m ≡ Some v) = state_of new all.run.world.modems m held.1.receiver all.run.hold held.1.there in
    let same : own.0 ≡ v.0.id = (let e : Some own.0 ≡ Some v.0.id = sym own.1 ∙ all.named m v.0 v.1 in cc (e)) in
    record { legal = all; modem = v.0; there = v.1; owns = subst (Owner all.values ch slot) same own.2; alone = λ other o. own.3 other o ∙ same }
sends_as_owner members ids records old new sent e told sound was now listened is = tt

-- one that is silent owes nothing
silent_owes : (members : ℕ) (records : List Done) (modems : List State) (e : Event) (told : Answer) → IsSilent told → SendsAsOwner members records modems e told
silent_owes members records modems (event.Tick m ch slot random) (answer.Ticked sending) silent = absurd silent
silent_owes members records modems e told silent = tt

-- whatever the records are, the modems listened on
pub modem_listens : (records seen : List Done) (old new : List State) (e : Event) (told : Answer) → seen ≡ records → Listened (outputs_of records) old
    → ((rs : List Receiver) → AreReceivers old rs → (after : List Receiver) × ModemNext rs (outputs_of seen) e told after × AreReceivers new after)
    → (new ≡ old) × IsSilent told ⊎ IsOfModem (length (outputs_of seen)) e
    → Listened (outputs_of records) new
modem_listens records seen old new e told same heard next (inl none) = subst (λ (ms : List State). Listened (outputs_of records) ms) (sym none.0) heard
modem_listens records seen old new e told same heard next (inr of_modem) =
    let goes = subst (λ (ds : List Done). (rs : List Receiver) → AreReceivers old rs → (after : List Receiver) × ModemNext rs (outputs_of ds) e told after × AreReceivers new after) same next in
    let within = subst (λ (ds : List Done). IsOfModem (length (outputs_of ds)) e) same of_modem in
    (heard.0, sent_by (heard.2.events ++ e ∷ []) (heard.2.answers ++ told ∷ []), listened_on heard.0 (outputs_of records) old new heard.1 e told heard.2 within goes)

-- and over sound records the modem sent as the owner
pub modem_sends : (members : ℕ) (records seen : List Done) (old new : List State) (e : Event) (told : Answer) → seen ≡ records → IsSound members records → Listened (outputs_of records) old
    → ((rs : List Receiver) → AreReceivers old rs → (after : List Receiver) × ModemNext rs (outputs_of seen) e told after × AreReceivers new after)
    → (new ≡ old) × IsSilent told ⊎ IsOfModem (length (outputs_of seen)) e
    → SendsAsOwner members records new e told
unfolding modem_listens
modem_sends members records seen old new e told same sound heard next (inl none) = silent_owes members records new e told none.1
modem_sends members records seen old new e told same sound heard next (inr of_modem) =
    let on = modem_listens records seen old new e told same heard next (inr of_modem) in
    sends_as_owner members heard.0 records old new heard.1 e told sound heard.2 on.1 on.2 refl
