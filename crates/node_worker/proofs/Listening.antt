-- What modems have listened to stays so where more was released.
use Rattle.std.proofs.Common.{◌≡◌, ℕ, zero, suc, ◌<◌, ◌+◌, Some, get_or, take, drop, List, [], ◌∷◌, ◌++◌, length}
use Rattle.std.proofs.Common.{length-append, map, Option, refl, sym, ap, subst, ◌∙◌, arith, slice_get}
use Rattle.modem.specs.State.{State}
use Rattle.world_events.specs.declared.event.Event.{Event}
use Rattle.world_events.specs.declared.event.Event.TheVariants as event
use Rattle.seats.specs.declared.answer.Answer.{Answer}
use Rattle.seats.specs.declared.answer.ReleasedOutput.{ReleasedOutput}
use Rattle.seats.specs.declared.answer.Transmission.{Transmission}
use Rattle.network_script.specs.World.{released_by}
use Rattle.network_script.proofs.Callers.{along_joins, get_front, get_behind}
use Rattle.seats.specs.Receiver.{Receiver, new_receiver}
use Rattle.seats.specs.Modems.{ModemNext, OfModem, Listens}
use Rattle.seats.specs.Receiving.{AreReceivers}
use Rattle.node_worker.specs.Legal.{outputs_of}
use Rattle.node_worker.specs.Places.{IsPlaceOf}
use Rattle.node_worker.specs.Runs.{IsOfModem, IsOutputAt, ListensNext, ListensAlong, HaveListened, sent_by}
use Rattle.node_worker.specs.declared.entry.Done.{Done}
use Rattle.node_worker.proofs.Comparisons.{split_read}
use Rattle.std.proofs.lemmas.Grind.{flat_map-append}
use Rattle.std.proofs.lemmas.List.{append-nil, take_more, take-append-le}
use Rattle.map_release.specs.declared.numbered.Numbered.{Numbered}

-- a modem's event is the same where more was released
step_more : (xs ys : List ReleasedOutput) (rs mid : List Receiver) (e : Event) (told : Answer) → IsOfModem (length xs) e → ModemNext rs xs e told mid → ListensNext (xs ++ ys) rs e told mid
step_more xs ys rs mid (event.Hear m i near) told within next =
    (omega (arith, within, length-append xs ys), subst (λ (o : Option ReleasedOutput). OfModem rs m (slice_get rs m) (λ r. Listens r o near) told mid) (sym (get_front xs ys i within)) next)
step_more xs ys rs mid other told within next = (within, next)

listens_more : (xs ys : List ReleasedOutput) (rs rs' : List Receiver) (events : List Event) (answers : List Answer) → ListensAlong xs rs events answers rs' → ListensAlong (xs ++ ys) rs events answers rs'
listens_more xs ys rs rs' [] [] same = same
listens_more xs ys rs rs' (e ∷ events) (told ∷ answers) (mid, (within, next), rest) =
    (mid, step_more xs ys rs mid e told within next, listens_more xs ys mid rs' events answers rest)
listens_more xs ys rs rs' events answers never = absurd never

pub listened_more : (ids : List ℕ) (records more : List Done) (modems : List State) (sent : List Transmission) → HaveListened ids (outputs_of records) modems sent → HaveListened ids (outputs_of (records ++ more)) modems sent
listened_more ids records more modems sent told = record {
  events = told.events;
  answers = told.answers;
  receivers = told.receivers;
  listened = subst (λ (xs : List ReleasedOutput). ListensAlong xs (map new_receiver ids) told.events told.answers told.receivers) (sym (flat_map-append _ records more)) (listens_more (outputs_of records) (outputs_of more) (map new_receiver ids) told.receivers told.events told.answers told.listened);
  hold = told.hold;
  sends = told.sends;
}

-- one more event of a modem
pub listened_on : (ids : List ℕ) (xs : List ReleasedOutput) (old new : List State) (sent : List Transmission) (e : Event) (told : Answer) → (was : HaveListened ids xs old sent) → IsOfModem (length xs) e
    → ((rs : List Receiver) → AreReceivers old rs → (after : List Receiver) × ModemNext rs xs e told after × AreReceivers new after)
    → HaveListened ids xs new (sent_by (was.events ++ e ∷ []) (was.answers ++ told ∷ []))
listened_on ids xs old new sent e told was within goes =
    let next = goes was.receivers was.hold in
    record { events = was.events ++ e ∷ []; answers = was.answers ++ told ∷ []; receivers = next.0; listened = along_joins (ListensNext xs) (map new_receiver ids) was.receivers next.0 was.events (e ∷ []) was.answers (told ∷ []) was.listened (next.0, (within, next.1), refl); hold = next.2; sends = refl }

length-released_by : (k : ℕ) (xs : List Numbered) → length (released_by k xs) ≡ length xs
length-released_by k [] = refl
length-released_by k (x ∷ xs) = ap suc (length-released_by k xs)

released_at : (k : ℕ) (xs : List Numbered) (i : ℕ) (x : Numbered) → i < length xs → x ≡ get_or xs i x → slice_get (released_by k xs) i ≡ Some (record { node = k; numbered = x })
released_at k [] i x within is = absurd (omega arith)
released_at k (y ∷ xs) zero x within is = ap (λ z. Some (record { node = k; numbered = z })) (sym is)
released_at k (y ∷ xs) (suc i) x within is = released_at k xs i x (omega arith) is

outputs_of-append : (xs ys : List Done) → outputs_of (xs ++ ys) ≡ outputs_of xs ++ outputs_of ys
outputs_of-append xs ys = flat_map-append (λ (d : Done). released_by d.node d.entry.outputs) xs ys

-- output number i of all is the one at this place of record j
pub output_of :
    (records : List Done) (j left i : ℕ) (r : Done) (x : Numbered)
    → j < length records → r ≡ get_or records j r → length (outputs_of (take j records)) + left ≡ i → left < length r.entry.outputs → x ≡ get_or r.entry.outputs left x
    → IsOutputAt records i x.output
output_of records j left i r x within at counted short is =
    let mine : List ReleasedOutput = released_by r.node r.entry.outputs in
    let later : List ReleasedOutput = outputs_of (drop (suc j) records) in
    let parts : outputs_of records ≡ outputs_of (take j records) ++ (mine ++ later) =
    ap outputs_of (split_read records j r within at) ∙ outputs_of-append (take j records) (r ∷ drop (suc j) records) in (
      record { node = r.node; numbered = x },
      ap (λ xs. slice_get xs i) parts
          ∙ (get_behind (outputs_of (take j records)) (mine ++ later) left i counted
          ∙ (get_front mine later left (omega (arith, length-released_by r.node r.entry.outputs))
          ∙ released_at r.node r.entry.outputs left x short is)),
      refl,
    )

-- one record more
pub outputs_more : (records : List Done) (j : ℕ) (r : Done) → j < length records → r ≡ get_or records j r → length (outputs_of (take (j + 1) records)) ≡ length (outputs_of (take j records)) + length r.entry.outputs
outputs_more records j r within at =
    let mine : List ReleasedOutput = released_by r.node r.entry.outputs in
    let P : Done → Type 0 = λ d. take (j + 1) records ≡ take j records ++ d ∷ [] in
    let parts : outputs_of (take (j + 1) records) ≡ outputs_of (take j records) ++ (mine ++ []) =
    ap outputs_of (subst P (sym at) (take_more records j r within)) ∙ outputs_of-append (take j records) (r ∷ []) in
    ap length parts ∙ (length-append (outputs_of (take j records)) (mine ++ []) ∙ ap (λ n. length (outputs_of (take j records)) + n) (ap length (append-nil mine) ∙ length-released_by r.node r.entry.outputs))

-- a place is one where more was recorded
pub place_more : (records more : List Done) (i n : ℕ) → IsPlaceOf records i n → IsPlaceOf (records ++ more) i n
place_more records more i n is =
    (omega (arith, is.0, length-append records more), ap (λ (ds : List Done). length (outputs_of ds)) (take-append-le i records more is.0) ∙ is.1)
